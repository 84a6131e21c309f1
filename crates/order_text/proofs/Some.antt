-- All bytes are some lines.
use Rattle.std.proofs.Common.{◌≡◌, ◌<◌, ◌^◌, ◌⊎◌, inl, inr, ℕ, zero, suc, Bool, true, false, List, [], ◌∷◌, Option}
use Rattle.std.proofs.Common.{Some, None, arith, subst, IsUtf8, bytes_eq}
use Rattle.std.specs.List.{AllZip}
use Rattle.std.specs.Str.{is_utf8}
use Rattle.std.proofs.lemmas.Bool.{cases_eq, both_ways}
use Rattle.std.proofs.lemmas.Slice.Eq.{bytes_eq-Decides}
use Rattle.std.proofs.lemmas.Str.{IsUtf8-from_is_utf8, is_utf8-from_IsUtf8}
use Rattle.bp_faults.specs.declared.ids.NodeId.{NodeId}
use Rattle.pass_ways.specs.declared.way.OrderLine.{OrderLine}
use Rattle.order_text.specs.Laws.{SomeLines}
use Rattle.order_text.specs.Lines.{IsEntry, IsLine}
use Rattle.order_text.specs.Texts.{visit_text}
use Rattle.order_text.proofs.Pieces.{pieces, pieces_are_cut}

-- a number has something, or none below a bound has it
module _ (P : ℕ → Type 0) (decided : (n : ℕ) → P n ⊎ (P n → ⊥)) where
  abbrev IsFound : ℕ → Type 0
  IsFound bound = ((n : ℕ) × (n < bound) × P n) ⊎ ((n : ℕ) → n < bound → P n → ⊥)

  no_more : (bound : ℕ) → (P bound → ⊥) → ((n : ℕ) → n < bound → P n → ⊥) → (n : ℕ) → n < suc bound → P n → ⊥
  no_more bound here below n lt p = by (cases_eq n bound)
    where
      by : (n ≡ bound) ⊎ (n ≡ bound → ⊥) → ⊥
      by (inl e) = here (subst P e p)
      by (inr ne) = below n (let less : n < bound = omega arith in less) p

  found_more : (bound : ℕ) → P bound ⊎ (P bound → ⊥) → IsFound bound → IsFound (suc bound)
  found_more bound (inl p) below = inl (bound, omega arith, p)
  found_more bound (inr none) (inl below) = inl (below.0, omega (arith, below.1), below.2)
  found_more bound (inr none) (inr below) = inr (no_more bound none below)

  pub found : (bound : ℕ) → IsFound bound
  found zero = inr (λ n lt p. absurd (omega arith))
  found (suc bound) = found_more bound (decided bound) (found bound)

abbrev node : ℕ → NodeId
node n = record { 0 = n }

same_or_not : (xs ys : List ℕ) → (xs ≡ ys) ⊎ (xs ≡ ys → ⊥)
same_or_not xs ys = by (bytes_eq xs ys) (λ i. bytes_eq xs ys)
  where
    by : (r : Bool) → bytes_eq xs ys ≡ r → (xs ≡ ys) ⊎ (xs ≡ ys → ⊥)
    by true is = inl ((bytes_eq-Decides xs ys).0 is)
    by false is = inr (λ e. both_ways (bytes_eq xs ys) is ((bytes_eq-Decides xs ys).1 e))

module _ (line : List ℕ) where
  -- the line is the text of a visit of this pass and some node
  abbrev HasNode : ℕ → Type 0
  HasNode pass = (n : ℕ) × (n < 2 ^ 32) × (line ≡ visit_text (pass, node n))

  some_node : (pass : ℕ) → HasNode pass ⊎ (HasNode pass → ⊥)
  some_node pass =
      by (found (λ n. line ≡ visit_text (pass, node n)) (λ n. same_or_not line (visit_text (pass, node n))) (2 ^ 32))
    where
      by : HasNode pass ⊎ ((n : ℕ) → n < 2 ^ 32 → line ≡ visit_text (pass, node n) → ⊥)
          → HasNode pass ⊎ (HasNode pass → ⊥)
      by (inl h) = inl h
      by (inr none) = inr (λ h. none h.0 h.1 h.2)

  pub some_entry : (e : Option (ℕ × NodeId)) × IsEntry line e
  some_entry = by (found HasNode some_node (2 ^ 32))
    where
      by : ((pass : ℕ) × (pass < 2 ^ 32) × HasNode pass) ⊎ ((pass : ℕ) → pass < 2 ^ 32 → HasNode pass → ⊥)
          → (e : Option (ℕ × NodeId)) × IsEntry line e
      by (inl h) = (Some (h.0, node h.2.0), ((h.1, h.2.1), h.2.2))
      by (inr none) = (None, λ v f e. none v.0 f.0 (v.1.0, f.1, e))

some_line : (line : List ℕ) (r : Bool) → is_utf8 line ≡ r → (l : OrderLine) × IsLine line l
some_line line true is =
    let e = some_entry line in
    (record { entry = e.0; text = line }, inl (IsUtf8-from_is_utf8 line is, (λ i. line), e.1))
some_line line false is =
    let never : IsUtf8 line → ⊥ = λ u. both_ways (is_utf8 line) is (is_utf8-from_IsUtf8 line u) in
    (record { entry = None; text = [] }, inr (never, (λ i. []), (λ i. None)))

some_each : (cut : List (List ℕ)) → (lines : List OrderLine) × AllZip IsLine cut lines
some_each [] = ([], tt)
some_each (line ∷ cut) =
    let l = some_line line (is_utf8 line) (λ i. is_utf8 line) in
    let rest = some_each cut in
    (l.0 ∷ rest.0, (l.1, rest.1))

pub some_lines : SomeLines
some_lines bytes =
    let all = some_each (pieces bytes) in
    (all.0, record { cut = pieces bytes; cut_is = pieces_are_cut bytes; each = all.1 })
