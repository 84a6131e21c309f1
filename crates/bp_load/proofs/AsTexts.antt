-- The bytes of a file mean one thing alone, or something, where texts do; and what two meanings give that have a value.
use Rattle.std.proofs.Common.{◌≡◌, ℕ, inl, inr, Bool, true, false, true≢false, List, refl, sym, ◌∙◌}
use Rattle.std.specs.Prelude.{Result, Ok, Err}
use Rattle.std.specs.Str.{is_utf8}
use Rattle.std.proofs.lemmas.Str.{IsUtf8-from_is_utf8, is_utf8-from_IsUtf8}
use Rattle.bp_faults.specs.declared.fault.Fault.{Fault}
use Rattle.bp_faults.specs.declared.refusal.Refusal.{Refusal}
use Rattle.bp_faults.specs.declared.refusal.Refusal.TheVariants.{Bad, OutOfMemory}
use Rattle.bp_faults.specs.Answers.{Answers, Tells}
use Rattle.bp_faults.specs.Phases.{IsOnce, HasOutcome, GoesOn, Then}
use Rattle.bp_load.specs.Texts.{AsText, not_utf8}

pub as_text_once : {A : Type 0} (file : ℕ) (bytes : List ℕ) (Means : Result A Fault → Type 0) → IsOnce Means
    → IsOnce (AsText file bytes Means)
as_text_once file bytes Means once a b (inl x) (inl y) = once a b x.1 y.1
as_text_once file bytes Means once a b (inl x) (inr y) = absurd (y.0 x.0)
as_text_once file bytes Means once a b (inr x) (inl y) = absurd (x.0 y.0)
as_text_once file bytes Means once a b (inr x) (inr y) = x.1 ∙ sym y.1

pub some_text : {A : Type 0} (file : ℕ) (bytes : List ℕ) (Means : Result A Fault → Type 0) → HasOutcome Means
    → HasOutcome (AsText file bytes Means)
some_text {A} file bytes Means some = by (is_utf8 bytes) refl
  where
    by : (valid : Bool) → is_utf8 bytes ≡ valid → HasOutcome (AsText file bytes Means)
    by true is = (some.0, inl (IsUtf8-from_is_utf8 bytes is, some.1))
    by false is = (
      Err (not_utf8 file bytes),
      inr (λ valid. true≢false (sym (is_utf8-from_IsUtf8 bytes valid) ∙ is), refl),
    )

-- Where two meanings, one after the other, give a value, the first gives one.
pub then_value : {A B : Type 0} (First : Result A Fault → Type 0) (Next : A → Result B Fault → Type 0) (value : B)
    → Then First Next (Ok value) → (first : A) × First (Ok first) × Next first (Ok value)
then_value {A} {B} First Next value means = by means.0 means.1 means.2
  where
    by : (first : Result A Fault) → First first → GoesOn first Next (Ok value)
        → (first : A) × First (Ok first) × Next first (Ok value)
    by (Ok first) is next = (first, is, next)
    by (Err fault) is same = absurd (cc)

-- What answers a function of a first value tells the two meanings, one after the other.
pub answers_then : {T A B : Type 0} (view : T → B) (First : Result A Fault → Type 0) (next : A → Result B Fault)
    (value : A) → First (Ok value) → (r : Result T Refusal) → Answers view r (next value)
    → Tells view (Then First (λ v outcome. next v ≡ outcome)) r
answers_then view First next value is (Ok made) h = (Ok value, is, h)
answers_then view First next value is (Err (Bad fault)) h = (Ok value, is, h)
answers_then view First next value is (Err OutOfMemory) h = tt
