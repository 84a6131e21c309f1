-- What workers find of nodes, as results. No public contract speaks of it.
use Rattle.std.specs.Prelude.{List, map}
use Rattle.std.specs.Arc.{arc_value}
use Rattle.serial_pass.specs.Results.{NodeResult, Done, Bad, Poisoned}
use Rattle.visit_workers.specs.declared.verdict.Verdict.{Verdict}
use Rattle.visit_workers.specs.declared.verdict.Verdict.TheVariants.{Done as FoundDone, Bad as FoundBad}
use Rattle.visit_workers.specs.declared.verdict.Verdict.TheVariants.{Poisoned as FoundPoisoned}

module _ {O : Type 0} where
  -- The result that a verdict says, where an `Arc` or a `Box` counts as what it holds.
  abbrev pub verdict_result : Verdict O → NodeResult O
  verdict_result (FoundDone shared) = Done (arc_value shared)
  verdict_result (FoundBad boxed) = Bad boxed.value
  verdict_result FoundPoisoned = Poisoned

  -- The results that some verdicts say.
  abbrev pub verdict_results : List (Verdict O) → List (NodeResult O)
  verdict_results verdicts = map verdict_result verdicts
