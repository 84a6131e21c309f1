-- What holds of a graph that is come to: of one that a kind makes, and of one that goes on to a further step.
use Rattle.std.proofs.Common.{◌≡◌, List, Result, Ok, Err, subst}
use Rattle.bp_faults.specs.declared.fault.Fault.{Fault}
use Rattle.bp_faults.specs.Phases.{Then, GoesOn}
use Rattle.bp_props.specs.declared.module.Module.{Module}
use Rattle.mutator_rules.specs.Outcomes.{KindOutcome, Made, FaultAt, NodesBeyond, EdgesBeyond}
use Rattle.bp_pipeline.specs.Limits.{ComesTo, graph_or_fault}

-- of what a kind of mutator comes to
pub came : {G : Type 0} (mods : List Module) (Means : KindOutcome G → Type 0) (Q : G → Type 0)
    → ((g : G) → Means (Made g) → Q g) → (new : G) → ComesTo mods Means (Ok new) → Q new
came {G} mods Means Q each new (outcome, means, is) = by outcome means is
  where
    by : (o : KindOutcome G) → Means o → graph_or_fault mods o ≡ Ok new → Q new
    by (Made g) h same = let here : g ≡ new = cc in subst Q here (each g h)
    by (FaultAt n fault) h same = absurd (cc)
    by (NodesBeyond m) h same = absurd (cc)
    by (EdgesBeyond at) h same = absurd (cc)

-- of what a value goes on to
pub went : {X Y : Type 0} (r : Result X Fault) (Next : X → Result Y Fault → Type 0) (Q : Y → Type 0)
    → ((x : X) (y : Y) → Next x (Ok y) → Q y) → (y : Y) → GoesOn r Next (Ok y) → Q y
went (Ok x) Next Q each y h = each x y h
went (Err fault) Next Q each y h = absurd (cc)

-- of what two steps come to
pub then_came : {X Y : Type 0} (First : Result X Fault → Type 0) (Next : X → Result Y Fault → Type 0) (Q : Y → Type 0)
    → ((x : X) → First (Ok x) → (y : Y) → Next x (Ok y) → Q y) → (y : Y) → Then First Next (Ok y) → Q y
then_came {X} First Next Q each y (r, first, next) = by r first next
  where
    by : (r : Result X Fault) → First r → GoesOn r Next (Ok y) → Q y
    by (Ok x) first next = each x first y next
    by (Err fault) first next = absurd (cc)
