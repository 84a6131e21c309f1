-- Places rise from token to token.
use Rattle.std.proofs.Common.{◌≡◌, ℕ, zero, suc, ◌+◌, ◌-◌, ◌<◌, ◌≤◌, true, List, length, get_or, sym, refl, ◌∙◌, subst}
use Rattle.std.proofs.Common.{inl, inr, arith}
use Rattle.std.specs.Prelude.{◌⊎◌, ◌==◌}
use Rattle.std.proofs.lemmas.Bool.{cond_both, or_left, lt-ltb, false≢true}
use Rattle.bp_faults.specs.declared.place.Place.{Place}
use Rattle.bp_lexer.specs.declared.token.Token.{Token}
use Rattle.bp_lexer.specs.Meaning.{IsToken}
use Rattle.bp_lexer.specs.Places.{begins_char, place_at, IsPlaceBefore}
use Rattle.bp_lexer.specs.Search.{place_after}
use Rattle.bp_lexer.proofs.Boundary.{first_ascii, token_span}
use Rattle.bp_lexer.proofs.Places.{place_push}

-- one place is not behind another
abbrev NotBehind : Place → Place → Type 0
NotBehind p q = (p.line < q.line) ⊎ ((p.line ≡ q.line) × (p.col ≤ q.col))

step_up : (p : Place) (b : ℕ) → NotBehind p (place_after p b)
step_up p b =
    cond_both (b == 10) _ _ (NotBehind p) (λ _. inl (omega arith))
    (λ _. cond_both (begins_char b) _ _ (NotBehind p) (λ _. inr (refl, omega arith)) (λ _. inr (refl, omega arith)))

step_before : (p : Place) (b : ℕ) → begins_char b ≡ true → IsPlaceBefore p (place_after p b)
step_before p b begins =
    cond_both (b == 10) _ _ (IsPlaceBefore p) (λ _. inl (omega arith)) (λ _. cond_both (begins_char b) _ _
    (IsPlaceBefore p) (λ _. inr (refl, omega arith)) (λ other. absurd (false≢true (sym other ∙ begins))))

then_up : (p q r : Place) → IsPlaceBefore p q → NotBehind q r → IsPlaceBefore p r
then_up p q r (inl a) (inl b) = inl (omega arith)
then_up p q r (inl a) (inr b) = inl (omega (arith, b.0))
then_up p q r (inr a) (inl b) = inl (omega (arith, a.0))
then_up p q r (inr a) (inr b) = inr (a.0 ∙ b.0, omega (arith, a.1, b.1))

rises : (file : ℕ) (text : List ℕ) (i n : ℕ) (p : Place) → i + n ≤ length text → IsPlaceBefore p (place_at file text i)
    → IsPlaceBefore p (place_at file text (i + n))
rises file text i zero p within before =
    let same : i ≡ i + zero = omega arith in subst (λ k. IsPlaceBefore p (place_at file text k)) same before
rises file text i (suc n) p within before =
    let next : i + n + 1 ≡ i + suc n = omega arith in
    let here = rises file text i n p (omega arith) before in
    subst (λ k. IsPlaceBefore p (place_at file text k)) next
    (rw (place_push file text (i + n) (get_or text (i + n) 0) (omega arith) refl)
    (then_up p (place_at file text (i + n)) (place_after (place_at file text (i + n)) (get_or text (i + n) 0)) here
    (step_up (place_at file text (i + n)) (get_or text (i + n) 0))))

-- a token that stands before another
pub place_before : (file : ℕ) (text : List ℕ) (t u : Token) → IsToken file text t → IsToken file text u
    → t.end ≤ u.start → IsPlaceBefore t.place u.place
place_before file text t u token_t token_u order =
    let span = token_span file text t token_t in
    let n = u.start - (t.start + 1) in
    let same : t.start + 1 + n ≡ u.start = omega (arith, span.0) in
    let begins : begins_char (get_or text t.start 0) ≡ true = or_left _ _ (lt-ltb (get_or text t.start 0) 128
    (first_ascii text t.start (t.end - t.start) t.kind token_t.inside token_t.longest)) in
    let first : IsPlaceBefore (place_at file text t.start) (place_at file text (t.start + 1)) =
    rw (place_push file text t.start (get_or text t.start 0) (omega (arith, span.0, span.1)) refl)
    (step_before (place_at file text t.start) (get_or text t.start 0) begins) in
    let all = rises file text (t.start + 1) n (place_at file text t.start) (omega (arith, token_u.inside)) first in
    rw (token_t.place, token_u.place)
    (subst (λ k. IsPlaceBefore (place_at file text t.start) (place_at file text k)) same all)
