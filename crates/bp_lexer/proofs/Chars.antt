-- A character is begun by one byte.
use Rattle.std.proofs.Common.{◌≡◌, ℕ, ◌+◌, ◌/◌, ◌<◌, ◌≤◌, cond, ltb, leb, List, [], ◌∷◌, length, sym, refl, ap, ◌∙◌}
use Rattle.std.proofs.Common.{IsUtf8, arith}
use Rattle.std.specs.Prelude.{chars}
use Rattle.std.specs.List.{count_by}
use Rattle.std.proofs.lemmas.Bool.{cond_both, cond-true, cond-false, or_left, or_right, or_from, lt-ltb, le-ltb, le-leb}
use Rattle.std.proofs.lemmas.Bool.{lt-leb, ltb-true}
use Rattle.std.proofs.lemmas.List.Sums.{sum_by-append}
use Rattle.std.proofs.lemmas.Str.{chars-encodes}
use lib.Utf8.{encode, encodes, next}
use Rattle.bp_lexer.specs.Places.{begins_char}

low : (b : ℕ) → b < 128 → cond {A = ℕ} (begins_char b) 1 0 ≡ 1
low b h = cond-true (begins_char b) 1 0 (or_left (ltb b 128) (leb 192 b) (lt-ltb b 128 h))

high : (b : ℕ) → 192 ≤ b → cond {A = ℕ} (begins_char b) 1 0 ≡ 1
high b h = cond-true (begins_char b) 1 0 (or_right (ltb b 128) (leb 192 b) (le-leb 192 b h))

inside : (c : ℕ) → cond {A = ℕ} (begins_char (next c)) 1 0 ≡ 0
inside c =
    cond-false (begins_char (next c)) 1 0 (or_from (ltb (next c) 128) (leb 192 (next c))
    (le-ltb (next c) 128 (omega arith)) (lt-leb 192 (next c) (omega arith)))

count_encode : (c : ℕ) → count_by begins_char (encode c) ≡ 1
unfolding encode
count_encode c =
    let P : List ℕ → Type 0 = λ l. count_by begins_char l ≡ 1 in
    cond_both (ltb c 128) _ _ P
    (λ e. omega (arith, low c (ltb-true c 128 e)))
    (λ e1. cond_both (ltb c 2048) _ _ P
    (λ e. omega (arith, high (192 + c / 64) (omega arith), inside c))
    (λ e2. cond_both (ltb c 65536) _ _ P
    (λ e. omega (arith, high (224 + c / 4096) (omega arith), inside (c / 64), inside c))
    (λ e. omega (arith, high (240 + c / 262144) (omega arith), inside (c / 4096), inside (c / 64), inside c))))

count_encodes : (cs : List ℕ) → count_by begins_char (encodes cs) ≡ length cs
count_encodes [] = refl
count_encodes (c ∷ cs) =
    omega (
      arith,
      sum_by-append (λ x. cond (begins_char x) 1 0) (encode c) (encodes cs),
      count_encode c,
      count_encodes cs,
    )

pub count_chars : (bs : List ℕ) → IsUtf8 bs → count_by begins_char bs ≡ length (chars bs)
count_chars bs utf8 =
    let same : chars bs ≡ utf8.0 = ap chars (sym utf8.1.1) ∙ chars-encodes utf8.0 utf8.1.0 in
    ap (count_by begins_char) (sym utf8.1.1) ∙ count_encodes utf8.0 ∙ sym (ap length same)
