-- What the calls answer.
use Rattle.std.specs.Prelude.{Result, Ok, Err, ⊤}
use Rattle.serial_pass.specs.declared.error.PassError.{PassError}
use Rattle.serial_pass.specs.declared.error.PassError.TheVariants.{At, OutOfMemory}
use Rattle.mutator_rules.specs.Outcomes.{KindOutcome, Made, FaultAt}

-- An answer is an outcome that is meant, as the view shows it, or memory ran out.
abbrev pub AnswersTopDown : {T G : Type 0} → (T → G) → (KindOutcome G → Type 0) → Result T PassError → Type 0
AnswersTopDown view Means (Ok made) = Means (Made (view made))
AnswersTopDown view Means (Err (At n fault)) = Means (FaultAt n.0 fault)
AnswersTopDown view Means (Err OutOfMemory) = ⊤
