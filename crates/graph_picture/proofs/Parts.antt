-- A line in words: where it is cut, and what its parts are.
use Rattle.std.proofs.Common.{◌≡◌, ◌≢◌, ◌<◌, ◌+◌, ℕ, zero, suc, List, [], ◌∷◌, ◌++◌, length, get_or, take, drop, arith}
use Rattle.std.proofs.Common.{sym, ap, ◌∙◌, subst, refl, Option, Some, None, MatchOption, IsUtf8, append_assoc}
use Rattle.std.proofs.Common.{length-append}
use denote.Ref.{Bor}
use Rattle.std.proofs.lemmas.List.{drop_at, get_or_at, get_or_append_left, get_or-append-add}
use Rattle.std.proofs.Math.Seq.{take-append_seam}
use Rattle.std.proofs.lemmas.Str.{IsUtf8-take, IsUtf8-drop, IsCharBoundary-before_ascii, IsCharBoundary-after_ascii}
use Rattle.std.specs.Str.Pattern.{FindsTextPrefix}
use Rattle.graph_picture.specs.Lines.{HasNo}

-- what `strip_prefix` gives at a text
pub strip_text : (p bs : List ℕ) (r : Option (Bor (List ℕ)))
    → MatchOption r (FindsTextPrefix p bs None)
    (λ x. (n : ℕ) × FindsTextPrefix p bs (Some n) × (x.now ≡ drop n bs) × (length x.now + n ≡ length bs))
    → MatchOption r ((rest : List ℕ) → bs ≢ p ++ rest) (λ x. bs ≡ p ++ x.now)
strip_text p bs None h = h
strip_text p bs (Some x) h = h.1.1 ∙ ap (λ (rest : List ℕ). p ++ rest) (sym h.2)

-- the sides of an ASCII byte of a text are texts
pub utf8_sides : (c : ℕ) (bs xs ys : List ℕ) → c < 128 → bs ≡ xs ++ (c ∷ ys) → IsUtf8 bs → IsUtf8 xs × IsUtf8 ys
utf8_sides c bs xs ys low e u =
    let inside : length xs < length bs = omega (arith, ap length e, length-append xs (c ∷ ys)) in
    let here : get_or bs (length xs) 0 ≡ c =
    ap (λ (l : List ℕ). get_or l (length xs) 0) e ∙ get_or_at xs c ys 0 (length xs) refl in
    let ascii : get_or bs (length xs) 0 < 128 = omega arith in
    let past : drop (length xs + 1) (xs ++ (c ∷ ys)) ≡ ys =
    ap (drop (length xs + 1)) (sym (append_assoc xs (c ∷ []) ys))
    ∙ drop_at (xs ++ c ∷ []) ys (length xs + 1) (omega (arith, length-append xs (c ∷ []))) in (
      subst IsUtf8 (ap (take (length xs)) e ∙ take-append_seam xs (c ∷ ys))
          (IsUtf8-take bs (length xs) u (IsCharBoundary-before_ascii bs (length xs) inside ascii)),
      subst IsUtf8 (ap (drop (length xs + 1)) e ∙ past)
          (IsUtf8-drop bs (length xs + 1) u (IsCharBoundary-after_ascii bs (length xs) u inside ascii)),
    )

-- what none of the bytes is, none on either side is
pub has_no_left : (b : ℕ) (xs ys : List ℕ) → HasNo b (xs ++ ys) → HasNo b xs
has_no_left b xs ys h =
    λ k d lt e. h k d (omega (arith, length-append xs ys)) (get_or_append_left xs ys d k lt ∙ e)

pub has_no_right : (b : ℕ) (xs ys : List ℕ) → HasNo b (xs ++ ys) → HasNo b ys
has_no_right b xs ys h =
    λ k d lt e. h (length xs + k) d (omega (arith, length-append xs ys)) (get_or-append-add xs ys k d ∙ e)

-- the first index of a byte
pub cut_once : (c : ℕ) (xs ys us vs : List ℕ) → HasNo c xs → HasNo c us → xs ++ (c ∷ ys) ≡ us ++ (c ∷ vs)
    → (xs ≡ us) × (ys ≡ vs)
cut_once c [] ys [] vs h k e = let same : c ∷ ys ≡ c ∷ vs = e in (λ i. [], cc)
cut_once c [] ys (u ∷ us) vs h k e =
    let same : c ∷ ys ≡ u ∷ (us ++ (c ∷ vs)) = e in absurd (k 0 0 (omega arith) (cc))
cut_once c (x ∷ xs) ys [] vs h k e =
    let same : x ∷ (xs ++ (c ∷ ys)) ≡ c ∷ vs = e in absurd (h 0 0 (omega arith) (cc))
cut_once c (x ∷ xs) ys (u ∷ us) vs h k e =
    let same : x ∷ (xs ++ (c ∷ ys)) ≡ u ∷ (us ++ (c ∷ vs)) = e in
    let rest : xs ++ (c ∷ ys) ≡ us ++ (c ∷ vs) = cc in
    let head : x ≡ u = cc in
    let r = cut_once c xs ys us vs (λ i d lt. h (suc i) d (omega arith)) (λ i d lt. k (suc i) d (omega arith)) rest in
    (λ i. head i ∷ r.0 i, r.1)

more : (c x : ℕ) (xs : List ℕ) → x ≢ c → HasNo c xs → HasNo c (x ∷ xs)
more c x xs here rest zero d lt = here
more c x xs here rest (suc i) d lt = rest i d (omega arith)

-- the two forms of a fact at each index
pub from_indices : (c : ℕ) (xs : List ℕ) → ((i : ℕ) → i < length xs → get_or xs i 0 ≢ c) → HasNo c xs
from_indices c [] h = λ i d lt. absurd (omega arith)
from_indices c (x ∷ xs) h = more c x xs (h 0 (omega arith)) (from_indices c xs (λ j k. h (suc j) (omega arith)))
