-- The token that stands at a place is found.
use Rattle.std.proofs.Common.{◌≡◌, ℕ, ◌≤◌, true, false, List, [], ◌∷◌, ◌++◌, refl, ◌∙◌, inl, inr, arith}
use Rattle.std.proofs.lemmas.Bool.{cond-true, cond-false, ne_eqb, eq-eqb, and_from, and_left, and_right}
use Rattle.bp_faults.specs.declared.place.Place.{Place}
use Rattle.bp_lexer.specs.declared.token.Token.{Token}
use Rattle.bp_lexer.specs.Laws.{PlacesRise, TokensStandWithin}
use Rattle.bp_lexer.specs.Meaning.{IsToken, Covers}
use Rattle.bp_lexer.specs.Places.{IsPlaceBefore}
use Rattle.bp_format.specs.Spans.{is_at, from_place}

not_at : (t : Token) (q : Place) → IsPlaceBefore t.place q → is_at q t ≡ false
not_at t q (inl line) = and_left _ _ (ne_eqb t.place.line q.line (λ e. omega arith))
not_at t q (inr col) = and_right _ _ (ne_eqb t.place.col q.col (λ e. omega (arith, col.1)))

is_here : (t : Token) → is_at t.place t ≡ true
is_here t = and_from _ _ (eq-eqb t.place.line t.place.line refl) (eq-eqb t.place.col t.place.col refl)

-- one of the tokens, and where it stands
pub member : TokensStandWithin
    → (file : ℕ) (text : List ℕ) (i j : ℕ) (before : List Token) (t : Token) (after : List Token)
    → Covers file text i j (before ++ t ∷ after) → IsToken file text t × (i ≤ t.start)
member law file text i j [] t after covers = (covers.1, covers.0.0)
member law file text i j (x ∷ before) t after covers =
    let r = member law file text x.end j before t after covers.2 in
    (r.0, omega (arith, r.1, (law file text x covers.1).nonempty, covers.0.0))

-- the first token at the place of one of them is that one
pub found_at : TokensStandWithin → PlacesRise
    → (file : ℕ) (text : List ℕ) (i j : ℕ) (before : List Token) (t : Token) (after : List Token)
    → Covers file text i j (before ++ t ∷ after) → from_place t.place (before ++ t ∷ after) ≡ t ∷ after
found_at law rise file text i j [] t after covers = cond-true (is_at t.place t) _ _ (is_here t)
found_at law rise file text i j (x ∷ before) t after covers =
    let m = member law file text x.end j before t after covers.2 in
    cond-false (is_at t.place x) _ _ (not_at x t.place (rise file text x t covers.1 m.0 m.1))
    ∙ found_at law rise file text x.end j before t after covers.2
