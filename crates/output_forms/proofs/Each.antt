-- What holds of each item of a list, and of each item of what is made of it.
use Rattle.std.proofs.Common.{◌≤◌, ◌+◌, ℕ, zero, suc, Bool, true, false, cond, List, [], ◌∷◌, map, length}
use Rattle.std.proofs.Common.{Option, Some, None, arith}
use Rattle.std.specs.Prelude.{IsTrue, slice_get, slice_index_or, ⊤}
use Rattle.std.specs.List.{AllByRecursion, filter}
use Rattle.std.proofs.lemmas.List.{length-append}
use Rattle.bp_faults.proofs.Lists.{all_append}
use Rattle.build_actions.specs.Writable.{has_shown_bytes}
use Rattle.graph_nodes.specs.Numbered.{by_number}

-- A text has no control character.
abbrev pub IsShown : List ℕ → Type 0
IsShown text = IsTrue (has_shown_bytes text)

-- What holds of the value of an option, if there is one.
abbrev pub IfThere : {X : Type 0} → (X → Type 0) → Option X → Type 0
IfThere P None = ⊤
IfThere P (Some x) = P x

pub all_made : {X Y : Type 0} (Q : Y → Type 0) (f : X → Y) → ((x : X) → Q (f x)) → (xs : List X)
    → AllByRecursion Q (map f xs)
all_made Q f each [] = tt
all_made Q f each (x ∷ xs) = (each x, all_made Q f each xs)

pub all_filtered : {X : Type 0} (P : X → Type 0) (test : X → Bool) (xs : List X) → AllByRecursion P xs
    → AllByRecursion P (filter test xs)
all_filtered P test [] h = tt
all_filtered P test (x ∷ xs) h = by (test x) (all_filtered P test xs h.1)
  where
    by : (b : Bool) → AllByRecursion P (filter test xs)
        → AllByRecursion P (cond b (x ∷ filter test xs) (filter test xs))
    by true rest = (h.0, rest)
    by false rest = rest

pub if_cond : {X : Type 0} (P : X → Type 0) (b : Bool) (x y : X) → P x → P y → P (cond b x y)
if_cond P true x y h k = h
if_cond P false x y h k = k

pub got : {X : Type 0} (P : X → Type 0) (xs : List X) (n : ℕ) → AllByRecursion P xs → IfThere P (slice_get xs n)
got P [] n h = tt
got P (x ∷ xs) zero h = h.0
got P (x ∷ xs) (suc n) h = got P xs n h.1

pub got_or : {X : Type 0} (P : X → Type 0) (xs : List X) (n : ℕ) (d : X) → AllByRecursion P xs → P d
    → P (slice_index_or xs n d)
got_or P [] n d h k = k
got_or P (x ∷ xs) zero d h k = h.0
got_or P (x ∷ xs) (suc n) d h k = got_or P xs n d h.1 k

-- pieces that are made of numbered items, where all pieces together aren't more than some number
pub all_numbered : {X Y : Type 0} (f : ℕ → X → List Y) (P : X → Type 0) (Q : Y → Type 0) (most : ℕ)
    → ((n : ℕ) (x : X) → P x → length (f n x) ≤ most → AllByRecursion Q (f n x)) → (k : ℕ) (xs : List X)
    → AllByRecursion P xs → length (by_number f k xs) ≤ most → AllByRecursion Q (by_number f k xs)
all_numbered f P Q most each k [] h few = tt
all_numbered f P Q most each k (x ∷ xs) h few =
    let both = length-append (f k x) (by_number f (k + 1) xs) in
    all_append Q (f k x) (by_number f (k + 1) xs) (each k x h.0 (omega (arith, both, few)))
    (all_numbered f P Q most each (k + 1) xs h.1 (omega (arith, both, few)))
