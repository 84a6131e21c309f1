-- What the calls of a core answer.
use Rattle.std.specs.Prelude.{◌≡◌, ℕ, List, Result, Ok, Err}
use Rattle.bp_faults.specs.declared.fault.Fault.{Fault}
use Rattle.pass_core.specs.declared.step.Step.{Step}
use Rattle.pass_core.specs.declared.step.StepError.{StepError}
use Rattle.pass_core.specs.declared.step.StepError.TheVariants.{NotAllowed, OutOfMemory}
use Rattle.pass_core.specs.CoreStates.{Allows, after}
use Rattle.pass_core.specs.CoreViews.{CoreView}

-- A step is taken where it is allowed, and refused where it isn't. After a refusal the core is unchanged.
abbrev pub AnswersCoreStep : {V O : Type 0} → (ℕ → List O → Result O Fault) → CoreView V O → Step
    → Result Unit StepError → CoreView V O → Type 0
AnswersCoreStep mean old s (Ok done) new =
    Allows old.plan old.state s
    × (new ≡ record { plan = old.plan; visitor = old.visitor; state = after mean old.plan old.state s })
AnswersCoreStep mean old s (Err (NotAllowed t)) new = (t ≡ s) × (Allows old.plan old.state s → ⊥) × (new ≡ old)
AnswersCoreStep mean old s (Err OutOfMemory) new = new ≡ old
