-- From what a step meets to what the whole meets.
use Rattle.std.proofs.Common.{◌≡◌, ℕ, List, sym, subst, Result, Ok, Err}
use Rattle.std.specs.Result.{IsErrAnd}
use Rattle.bp_faults.specs.declared.fault.Fault.{Fault}
use Rattle.bp_run.specs.declared.stop.Stop.{Stop}
use Rattle.bp_run.specs.Steps.{GivesOrStops}

-- No path is reported as one that can't be read.
abbrev pub Never : List ℕ → Type 0
Never path = ⊥

-- the last step, whose answer is the whole's
pub meets : {T V : Type 0} (view : T → V) (Part Whole : Result V Fault → Type 0) (can_stop may_stop : List ℕ → Type 0)
    → ((outcome : Result V Fault) → Part outcome → Whole outcome) → ((path : List ℕ) → can_stop path → may_stop path)
    → (r : Result T Stop) → GivesOrStops view Part can_stop r → GivesOrStops view Whole may_stop r
meets view Part Whole can_stop may_stop on stopped (Ok value) h = on (Ok (view value)) h
meets view Part Whole can_stop may_stop on stopped (Err (Stop.Fault fault)) h = on (Err fault) h
meets view Part Whole can_stop may_stop on stopped (Err (Stop.Read path)) h = stopped path h
meets view Part Whole can_stop may_stop on stopped (Err Stop.OutOfMemory) h = tt

meets_err : {T U V W : Type 0} (view : T → V) (whole_view : U → W) (Part : Result V Fault → Type 0)
    (Whole : Result W Fault → Type 0) (can_stop may_stop : List ℕ → Type 0)
    → ((fault : Fault) → Part (Err fault) → Whole (Err fault)) → ((path : List ℕ) → can_stop path → may_stop path)
    → (e : Stop) → GivesOrStops view Part can_stop (Err e) → GivesOrStops whole_view Whole may_stop (Err e)
meets_err view whole_view Part Whole can_stop may_stop on stopped (Stop.Fault fault) h = on fault h
meets_err view whole_view Part Whole can_stop may_stop on stopped (Stop.Read path) h = stopped path h
meets_err view whole_view Part Whole can_stop may_stop on stopped Stop.OutOfMemory h = tt

-- an earlier step that stops, and the whole with it
pub stops : {T U V W : Type 0} (view : T → V) (whole_view : U → W) (Part : Result V Fault → Type 0)
    (Whole : Result W Fault → Type 0) (can_stop may_stop : List ℕ → Type 0)
    → ((fault : Fault) → Part (Err fault) → Whole (Err fault)) → ((path : List ℕ) → can_stop path → may_stop path)
    → (e : Stop) (r : Result U Stop) → IsErrAnd r (λ x. x ≡ e) → GivesOrStops view Part can_stop (Err e)
    → GivesOrStops whole_view Whole may_stop r
stops view whole_view Part Whole can_stop may_stop on stopped e (Ok x) same h = absurd same
stops view whole_view Part Whole can_stop may_stop on stopped e (Err x) same h =
    subst (λ s. GivesOrStops whole_view Whole may_stop (Err s)) (sym same)
    (meets_err view whole_view Part Whole can_stop may_stop on stopped e h)
