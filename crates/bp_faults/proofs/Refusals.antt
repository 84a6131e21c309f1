-- Laws that carry a refusal from a step to the whole, for the proofs of every crate.
use Rattle.std.proofs.Common.{◌≡◌, sym, subst}
use Rattle.std.specs.Prelude.{Result, Ok, Err}
use Rattle.std.specs.Result.{IsErrAnd}
use Rattle.bp_faults.specs.declared.fault.Fault.{Fault}
use Rattle.bp_faults.specs.declared.refusal.Refusal.{Refusal}
use Rattle.bp_faults.specs.declared.refusal.Refusal.TheVariants.{Bad, OutOfMemory}
use Rattle.bp_faults.specs.Answers.{Refuses, Answers, Tells}

-- What tells a part of a meaning tells the meaning.
pub tells : {T V : Type 0} (view : T → V) (Part Whole : Result V Fault → Type 0)
    → ((outcome : Result V Fault) → Part outcome → Whole outcome)
    → (r : Result T Refusal) → Tells view Part r → Tells view Whole r
tells view Part Whole on (Ok value) h = on (Ok (view value)) h
tells view Part Whole on (Err (Bad fault)) h = on (Err fault) h
tells view Part Whole on (Err OutOfMemory) h = tt

-- A step that is a function refuses, and the whole with it, where the step's fault is that of the whole.
pub told : {T V W : Type 0} (view : T → V) (Means : Result V Fault → Type 0) (refusal : Refusal)
    (meant : Result W Fault)
    → Refuses refusal meant → ((fault : Fault) → meant ≡ Err fault → Means (Err fault)) → Tells view Means (Err refusal)
told view Means (Bad fault) meant refuses whole = whole fault refuses
told view Means OutOfMemory meant refuses whole = tt

-- A step that is a relation refuses, and the whole with it, where the step's fault is that of the whole.
pub told_first : {T U V W : Type 0} (view : T → V) (Means : Result V Fault → Type 0) (refusal : Refusal)
    (part : U → W) (First : Result W Fault → Type 0) → Tells part First (Err refusal)
    → ((fault : Fault) → First (Err fault) → Means (Err fault)) → Tells view Means (Err refusal)
told_first view Means (Bad fault) part First first whole = whole fault first
told_first view Means OutOfMemory part First first whole = tt

-- A step refuses, and the whole with it, where both are functions.
pub answered : {T V W : Type 0} (view : T → V) (refusal : Refusal) (meant : Result W Fault) (whole : Result V Fault)
    → Refuses refusal meant → ((fault : Fault) → meant ≡ Err fault → whole ≡ Err fault)
    → Answers view (Err refusal) whole
answered view (Bad fault) meant whole refuses on = on fault refuses
answered view OutOfMemory meant whole refuses on = tt

-- The same of a relation, where the call's result is known to be that refusal.
pub refused : {T U V W : Type 0} (view : T → V) (whole_view : U → W) (Part : Result V Fault → Type 0)
    (Whole : Result W Fault → Type 0) → ((fault : Fault) → Part (Err fault) → Whole (Err fault))
    → (e : Refusal) (r : Result U Refusal) → IsErrAnd r (λ x. x ≡ e) → Tells view Part (Err e)
    → Tells whole_view Whole r
refused view whole_view Part Whole on e (Ok x) same h = absurd same
refused view whole_view Part Whole on e (Err x) same h =
    subst (λ s. Tells whole_view Whole (Err s)) (sym same) (told_first whole_view Whole e view Part h on)

-- The same of a function, where the call's result is known to be that refusal.
pub unanswered : {U V W : Type 0} (whole_view : U → W) (meant : Result V Fault) (Whole : Result W Fault → Type 0)
    → ((fault : Fault) → meant ≡ Err fault → Whole (Err fault))
    → (e : Refusal) (r : Result U Refusal) → IsErrAnd r (λ x. x ≡ e) → Refuses e meant → Tells whole_view Whole r
unanswered whole_view meant Whole on e (Ok x) same h = absurd same
unanswered whole_view meant Whole on e (Err x) same h =
    subst (λ s. Tells whole_view Whole (Err s)) (sym same) (told whole_view Whole e meant h on)
