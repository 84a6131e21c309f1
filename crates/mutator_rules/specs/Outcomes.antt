-- What a kind of mutator makes of a graph, and what a call answers that runs it.
use Rattle.std.specs.Prelude.{ℕ, Result, Ok, Err, ⊤}
use Rattle.bp_faults.specs.declared.fault.Fault.{Fault}
use Rattle.bp_faults.specs.declared.ids.ModuleId.{ModuleId}
use Rattle.bp_faults.specs.declared.place.Place.{Place}
use Rattle.mutator_rules.specs.declared.error.KindError.{KindError}
use Rattle.mutator_rules.specs.declared.error.KindError.TheVariants.{At, Nodes, Edges, OutOfMemory}

-- A new graph, or the fault of a node, or the module of the first node or the place of the first edge beyond the
-- limits.
pub data KindOutcome (G : Type 0) : Type 0 where
  Made : G → KindOutcome G
  FaultAt : ℕ → Fault → KindOutcome G
  NodesBeyond : ModuleId → KindOutcome G
  EdgesBeyond : Place → KindOutcome G

-- An answer is an outcome that is meant, as the view shows it, or memory ran out.
abbrev pub AnswersKind : {T G : Type 0} → (T → G) → (KindOutcome G → Type 0) → Result T KindError → Type 0
AnswersKind view Means (Ok made) = Means (Made (view made))
AnswersKind view Means (Err (At n fault)) = Means (FaultAt n.0 fault)
AnswersKind view Means (Err (Nodes m)) = Means (NodesBeyond m)
AnswersKind view Means (Err (Edges p)) = Means (EdgesBeyond p)
AnswersKind view Means (Err OutOfMemory) = ⊤
