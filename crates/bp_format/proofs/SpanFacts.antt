-- A span lies within the text, and begins and ends where characters do.
use Rattle.std.proofs.Common.{◌≡◌, ℕ, ◌+◌, ◌-◌, ◌≤◌, List, [], ◌∷◌, length, Option, Some, None, sym, refl, ap, ◌∙◌}
use Rattle.std.proofs.Common.{subst, ⊎_elim, arith, IsUtf8, IsCharBoundary}
use Rattle.std.specs.Prelude.{◌==◌}
use Rattle.std.proofs.lemmas.Bool.{cases_Bool, cond-true, cond-false}
use Rattle.bp_faults.specs.declared.place.Place.{Place}
use Rattle.bp_lexer.specs.declared.token.Token.{Token}
use Rattle.bp_lexer.specs.Meaning.{IsToken, Covers, IsTokenList}
use Rattle.bp_lexer.specs.Laws.{TokensStandWithin}
use Rattle.bp_format.specs.declared.spot.Spot.{Spot}
use Rattle.bp_format.specs.declared.spot.Spot.TheVariants.{Instead, Behind}
use Rattle.bp_format.specs.Layout.{opens_any, closes_any}
use Rattle.bp_format.specs.Spans.{is_at, from_place, closing, up_to, list_span, end_span, span}

pub record IsSpan (text : List ℕ) (from to : ℕ) : Type 0 where
  pub in_order : from ≤ to
  pub within : to ≤ length text
  pub begins : IsUtf8 text → IsCharBoundary text from
  pub ends : IsUtf8 text → IsCharBoundary text to

some_one : {A : Type 0} (x y : A) → Some x ≡ Some y → x ≡ y
some_one x y e = cc

-- the token that closes is one of the text, and stands behind
closing_token : TokensStandWithin → (file : ℕ) (text : List ℕ) (i j depth : ℕ) (ts : List Token) (u : Token)
    → Covers file text i j ts → closing depth ts ≡ Some u → IsToken file text u × (i ≤ u.start)
closing_token law file text i j depth [] u covers is = absurd cc
closing_token law file text i j depth (t ∷ ts) u covers is =
    let span = law file text t covers.1 in
    let later : (n : ℕ) → closing n ts ≡ Some u → IsToken file text u × (i ≤ u.start) = λ n e. let r =
    closing_token law file text t.end j n ts u covers.2 e in (r.0, omega (arith, r.1, span.nonempty, covers.0.0)) in
    ⊎_elim
    (λ o. later (depth + 1) (sym (cond-true (opens_any t.kind) _ _ o) ∙ is))
    (λ o.
    let rest = sym (cond-false (opens_any t.kind) _ _ o) ∙ is in
    ⊎_elim
    (λ c.
    let last = sym (cond-true (closes_any t.kind) _ _ c) ∙ rest in
    ⊎_elim
    (λ z. let same : t ≡ u = some_one t u (sym (cond-true (depth == 0) _ _ z) ∙ last) in
    (subst (IsToken file text) same covers.1, omega (arith, covers.0.0, ap (λ (x : Token). x.start) same)))
    (λ z. later (depth - 1) (sym (cond-false (depth == 0) _ _ z) ∙ last))
    (cases_Bool (depth == 0)))
    (λ c. later depth (sym (cond-false (closes_any t.kind) _ _ c) ∙ rest))
    (cases_Bool (closes_any t.kind)))
    (cases_Bool (opens_any t.kind))

-- from a token on, the text is covered too
covers_from : (file : ℕ) (text : List ℕ) (place : Place) (i j : ℕ) (ts : List Token) → Covers file text i j ts
    → (k : ℕ) × Covers file text k j (from_place place ts)
covers_from file text place i j [] covers = (i, covers)
covers_from file text place i j (t ∷ ts) covers =
    ⊎_elim
    (λ yes.
    (i, subst (Covers file text i j) (sym (cond-true (is_at place t) (t ∷ ts) (from_place place ts) yes)) covers))
    (λ other. let r = covers_from file text place t.end j ts covers.2 in
    (r.0, subst (Covers file text r.0 j) (sym (cond-false (is_at place t) (t ∷ ts) (from_place place ts) other)) r.1))
    (cases_Bool (is_at place t))

pub pair_one : (a b : ℕ × ℕ) → Some a ≡ Some b → a ≡ b
pair_one a b e = cc

list_facts : TokensStandWithin → (file : ℕ) (text : List ℕ) (k j : ℕ) (ts : List Token) (b : ℕ × ℕ)
    → Covers file text k j ts → list_span ts ≡ Some b → IsSpan text b.0 b.1
list_facts law file text k j [] b covers is = absurd cc
list_facts law file text k j (t ∷ ts) b covers is = found (closing 0 ts) refl is where
  found : (o : Option Token) → closing 0 ts ≡ o → up_to t o ≡ Some b → IsSpan text b.0 b.1
  found None here e = absurd cc
  found (Some u) here e =
      let r = closing_token law file text t.end j 0 ts u covers.2 here in
      let s = law file text t covers.1 in
      let v = law file text u r.0 in
      subst (λ (p : ℕ × ℕ). IsSpan text p.0 p.1) (pair_one (t.start, u.end) b e) (record {
        in_order = omega (arith, r.1, s.nonempty, v.nonempty);
        within = v.within;
        begins = s.begins;
        ends = v.ends;
      })

end_facts : TokensStandWithin → (file : ℕ) (text : List ℕ) (k j : ℕ) (ts : List Token) (b : ℕ × ℕ)
    → Covers file text k j ts → end_span ts ≡ Some b → IsSpan text b.0 b.1
end_facts law file text k j [] b covers is = absurd cc
end_facts law file text k j (t ∷ ts) b covers is =
    subst (λ (p : ℕ × ℕ). IsSpan text p.0 p.1) (pair_one (t.end, t.end) b is) (record {
      in_order = omega arith;
      within = (law file text t covers.1).within;
      begins = (law file text t covers.1).ends;
      ends = (law file text t covers.1).ends;
    })

pub span_facts : TokensStandWithin → (file : ℕ) (text : List ℕ) (ts : List Token) (spot : Spot) (b : ℕ × ℕ)
    → IsTokenList file text ts → span spot ts ≡ Some b → IsSpan text b.0 b.1
span_facts law file text ts (Instead place) b listed is =
    let c = covers_from file text place 0 (length text) ts listed in
    list_facts law file text c.0 (length text) (from_place place ts) b c.1 is
span_facts law file text ts (Behind place) b listed is =
    let c = covers_from file text place 0 (length text) ts listed in
    end_facts law file text c.0 (length text) (from_place place ts) b c.1 is
