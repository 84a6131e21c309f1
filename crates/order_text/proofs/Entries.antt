-- The visit of which a line is the text, by the two sides of its first space.
use Rattle.std.proofs.Common.{◌≡◌, ◌≢◌, ◌<◌, ℕ, suc, List, [], ◌∷◌, ◌++◌, length, get_or, arith, lit<, sym, ap, ◌∙◌}
use Rattle.std.proofs.Common.{None, length-append}
use Rattle.std.specs.Fmt.{decimal}
use Rattle.std.proofs.lemmas.Fmt.{decimal_injective}
use Rattle.std.proofs.lemmas.List.{get_or_at}
use Rattle.bp_faults.specs.declared.ids.NodeId.{NodeId}
use Rattle.order_text.specs.Inside.{IsNumber}
use Rattle.order_text.specs.Lines.{IsEntry, IsVisit}
use Rattle.order_text.specs.Texts.{visit_text}
use Rattle.order_text.proofs.Digits.{decimal_by_digits, lacks}

-- no element of a list is this one
abbrev pub Lacks : List ℕ → ℕ → Type 0
Lacks xs c = (i : ℕ) → i < length xs → get_or xs i 0 ≢ c

-- a list has one first index at which an element stands
pub cut_once : (c : ℕ) (xs ys us vs : List ℕ) → Lacks xs c → Lacks us c → xs ++ (c ∷ ys) ≡ us ++ (c ∷ vs)
    → (xs ≡ us) × (ys ≡ vs)
cut_once c [] ys [] vs h k e = let same : c ∷ ys ≡ c ∷ vs = e in (λ i. [], cc)
cut_once c [] ys (u ∷ us) vs h k e = let same : c ∷ ys ≡ u ∷ (us ++ (c ∷ vs)) = e in absurd (k 0 (omega arith) (cc))
cut_once c (x ∷ xs) ys [] vs h k e = let same : x ∷ (xs ++ (c ∷ ys)) ≡ c ∷ vs = e in absurd (h 0 (omega arith) (cc))
cut_once c (x ∷ xs) ys (u ∷ us) vs h k e =
    let same : x ∷ (xs ++ (c ∷ ys)) ≡ u ∷ (us ++ (c ∷ vs)) = e in
    let rest : xs ++ (c ∷ ys) ≡ us ++ (c ∷ vs) = cc in
    let head : x ≡ u = cc in
    let r = cut_once c xs ys us vs (λ i lt. h (suc i) (omega arith)) (λ i lt. k (suc i) (omega arith)) rest in
    (λ i. head i ∷ r.0 i, r.1)

pub no_space : (n : ℕ) → n < 4294967296 → Lacks (decimal n) 32
no_space n lt = lacks (decimal n) 32 (lit< tt) (decimal_by_digits n lt)

pub visit_text_injective : (v w : ℕ × NodeId) → IsVisit v → IsVisit w → visit_text v ≡ visit_text w → v ≡ w
visit_text_injective v w f g e =
    let r = cut_once 32 (decimal v.0) (decimal v.1.0) (decimal w.0) (decimal w.1.0) (no_space v.0 f.0)
    (no_space w.0 g.0) e in
    let p : v.0 ≡ w.0 = decimal_injective v.0 w.0 (omega (arith, f.0)) (omega (arith, g.0)) r.0 in
    let q : v.1.0 ≡ w.1.0 = decimal_injective v.1.0 w.1.0 (omega (arith, f.1)) (omega (arith, g.1)) r.1 in
    λ i. (p i, record { 0 = q i })

-- a line without a space is the text of no visit
pub spaceless_is_none : (line : List ℕ) → Lacks line 32 → IsEntry line None
spaceless_is_none line none v f e =
    none (length (decimal v.0)) (omega (arith, ap length e, length-append (decimal v.0) (32 ∷ decimal v.1.0)))
    (ap (λ xs. get_or xs (length (decimal v.0)) 0) e
    ∙ get_or_at (decimal v.0) 32 (decimal v.1.0) 0 (length (decimal v.0)) (λ i. length (decimal v.0)))

module _ (line pass node : List ℕ) (whole : line ≡ pass ++ (32 ∷ node)) (first : Lacks pass 32) where
  -- what is before the space, and behind it, of the text of a visit
  pub sides : (v : ℕ × NodeId) → IsVisit v → line ≡ visit_text v → (pass ≡ decimal v.0) × (node ≡ decimal v.1.0)
  sides v f e = cut_once 32 pass node (decimal v.0) (decimal v.1.0) first (no_space v.0 f.0) (sym whole ∙ e)

  pub pass_is_none : IsNumber pass None → IsEntry line None
  pass_is_none none v f e = none v.0 f.0 (sides v f e).0

  pub node_is_none : IsNumber node None → IsEntry line None
  node_is_none none v f e = none v.1.0 f.1 (sides v f e).1
