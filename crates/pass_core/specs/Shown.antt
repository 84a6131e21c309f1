-- What is published of a node, as a result.
use Rattle.std.specs.Arc.{arc_value}
use Rattle.pass_core.specs.declared.published.Published.{Published}
use Rattle.pass_core.specs.declared.published.Published.TheVariants.{Done as PublishedDone, Bad as PublishedBad}
use Rattle.pass_core.specs.declared.published.Published.TheVariants.{Poisoned as PublishedPoisoned}
use Rattle.serial_pass.specs.Results.{NodeResult, Done, Bad, Poisoned}

-- The result that is published, where an `Arc` counts as what it holds.
abbrev pub published_result : {O : Type 0} → Published O → NodeResult O
published_result (PublishedDone shared) = Done (arc_value shared)
published_result (PublishedBad fault) = Bad fault
published_result PublishedPoisoned = Poisoned
