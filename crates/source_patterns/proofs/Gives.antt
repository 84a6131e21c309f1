-- How an answer of a step is carried to the whole.
use Rattle.std.proofs.Common.{◌≡◌, ℕ, List, Option, Some, None, subst}
use Rattle.std.specs.Prelude.{IfSome, Result, Ok, Err}
use Rattle.bp_faults.specs.declared.fault.Fault.{Fault}
use Rattle.bp_faults.specs.Phases.{GoesOn, Then}
use Rattle.source_patterns.specs.declared.error.ExpandError.{ExpandError}
use Rattle.source_patterns.specs.declared.error.ExpandError.TheVariants.{Bad, Failed, OutOfMemory}
use Rattle.source_patterns.specs.Answers.{ExpandGives}

pub if_each : {X : Type 0} (o : Option X) (P : X → Type 0) → ((x : X) → P x) → IfSome o P
if_each None P each = tt
if_each (Some x) P each = each x

pub if_both : {X : Type 0} (o : Option X) (P Q R : X → Type 0) → ((x : X) → P x → Q x → R x) → IfSome o P → IfSome o Q
    → IfSome o R
if_both None P Q R each p q = tt
if_both (Some x) P Q R each p q = each x p q

module _ {T U V W : Type 0} (part : T → V) (view : U → W) (Part : Result V Fault → Type 0)
    (Whole : Result W Fault → Type 0) (PartWalks WholeWalks : List ℕ → Type 0)
    (bad : (fault : Fault) → Part (Err fault) → Whole (Err fault))
    (failed : (walked : List ℕ) → PartWalks walked → WholeWalks walked) where
  -- A step that gives no value is why the whole gives none.
  pub stops : (e : ExpandError) → ExpandGives part Part PartWalks (Err e) → ExpandGives view Whole WholeWalks (Err e)
  stops (Bad fault) h = bad fault h
  stops (Failed walked) h = failed walked h
  stops OutOfMemory h = tt

-- The last step's answer is that of the whole.
pub ends : {T V W : Type 0} (part : T → V) (view : T → W) (Part : Result V Fault → Type 0)
    (Whole : Result W Fault → Type 0) (PartWalks WholeWalks : List ℕ → Type 0)
    → ((value : T) → Part (Ok (part value)) → Whole (Ok (view value)))
    → ((fault : Fault) → Part (Err fault) → Whole (Err fault))
    → ((walked : List ℕ) → PartWalks walked → WholeWalks walked)
    → (r : Result T ExpandError) → ExpandGives part Part PartWalks r → ExpandGives view Whole WholeWalks r
ends part view Part Whole PartWalks WholeWalks ok bad failed (Ok value) h = ok value h
ends part view Part Whole PartWalks WholeWalks ok bad failed (Err e) h =
    stops part view Part Whole PartWalks WholeWalks bad failed e h

-- A value of one meaning and then another has a value of the first.
pub then_value : {A B : Type 0} (First : Result A Fault → Type 0) (Next : A → Result B Fault → Type 0) (value : B)
    → Then First Next (Ok value) → (first : A) × First (Ok first) × Next first (Ok value)
then_value {A} {B} First Next value means = by means.0 means.1 means.2
  where
    by : (first : Result A Fault) → First first → GoesOn first Next (Ok value)
        → (first : A) × First (Ok first) × Next first (Ok value)
    by (Ok first) is next = (first, is, next)
    by (Err fault) is same = absurd (cc)

-- A fault of one meaning and then another is that of the first, or of the second.
pub then_fault : {A B : Type 0} {P : Type 0} (First : Result A Fault → Type 0) (Next : A → Result B Fault → Type 0)
    (fault : Fault) → Then First Next (Err fault) → (First (Err fault) → P)
    → ((first : A) → First (Ok first) → Next first (Err fault) → P) → P
then_fault {A} {B} {P} First Next fault means stop on = by means.0 means.1 means.2
  where
    by : (first : Result A Fault) → First first → GoesOn first Next (Err fault) → P
    by (Ok first) is next = on first is next
    by (Err bad) is same = let e : bad ≡ fault = cc in stop (subst (λ f. First (Err f)) e is)
