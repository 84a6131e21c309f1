-- A step along the characters of a string, and a string without a backslash.
use Rattle.std.proofs.Common.{◌≡◌, ℕ, ◌+◌, ◌<◌, ◌≤◌, Bool, true, false, List, [], ◌∷◌, ◌++◌, length, get_or, drop, sym}
use Rattle.std.proofs.Common.{refl, ap, ◌∙◌, append_assoc, ⊎_elim, arith, IsUtf8}
use Rattle.std.specs.Prelude.{◌==◌, encode_utf8, encode_utf8_all, unwrap_or, chars}
use Rattle.std.specs.List.{list_any}
use Rattle.std.proofs.lemmas.Bool.{cond-true, cond-false, ne_eqb, eq-eqb, eqb-true, cases_Bool, or_parts, false≢true}
use Rattle.std.proofs.lemmas.List.{append-nil, at_drop_more, at_drop_all, length_push}
use Rattle.std.proofs.lemmas.List.Folds.{list_any-append}
use Rattle.std.proofs.lemmas.Str.{encode_ascii, encodes-chars}
use Rattle.bp_lexer.specs.Strings.{escape_of, unescaped_chars}

here : (slash : Bool) (cs : List ℕ) (n c : ℕ) → (n < length cs) × (c ≡ get_or cs n c)
    → unescaped_chars slash (drop n cs) ≡ unescaped_chars slash (c ∷ drop (n + 1) cs)
here slash cs n c item =
    at_drop_more (unescaped_chars slash) cs n c item.0
    ∙ ap (λ x. unescaped_chars slash (x ∷ drop (n + 1) cs)) (sym item.1)

-- a character that is put out
pub puts : (was slash after : Bool) (cs before text new whole : List ℕ) (c x : ℕ) → was ≡ slash → after ≡ false
    → text ++ encode_utf8_all (unescaped_chars was (drop (length before) cs)) ≡ whole
    → unescaped_chars slash (drop (length before) cs) ≡ x ∷ unescaped_chars false (drop (length before + 1) cs)
    → new ≡ text ++ encode_utf8 x
    → new ++ encode_utf8_all (unescaped_chars after (drop (length (before ++ c ∷ [])) cs)) ≡ whole
puts was slash after cs before text new whole c x known done so_far step pushed =
    let rest = encode_utf8_all (unescaped_chars false (drop (length before + 1) cs)) in
    let left : encode_utf8_all (unescaped_chars after (drop (length (before ++ c ∷ [])) cs)) ≡ rest =
    λ i. encode_utf8_all (unescaped_chars (done i) (drop (length_push before c i) cs)) in
    ap (λ l. new ++ l) left
    ∙ ap (λ l. l ++ rest) pushed
    ∙ append_assoc text (encode_utf8 x) rest
    ∙ ap (λ l. text ++ encode_utf8_all l) (sym step)
    ∙ ap (λ s. text ++ encode_utf8_all (unescaped_chars s (drop (length before) cs))) (sym known)
    ∙ so_far

-- a backslash, which puts out nothing
pub skips : (was : Bool) (cs before text whole : List ℕ) (c : ℕ) → was ≡ false
    → text ++ encode_utf8_all (unescaped_chars was (drop (length before) cs)) ≡ whole
    → unescaped_chars false (drop (length before) cs) ≡ unescaped_chars true (drop (length before + 1) cs)
    → text ++ encode_utf8_all (unescaped_chars true (drop (length (before ++ c ∷ [])) cs)) ≡ whole
skips was cs before text whole c known so_far step =
    ap (λ k. text ++ encode_utf8_all (unescaped_chars true (drop k cs))) (length_push before c)
    ∙ ap (λ l. text ++ encode_utf8_all l) (sym step)
    ∙ ap (λ s. text ++ encode_utf8_all (unescaped_chars s (drop (length before) cs))) (sym known)
    ∙ so_far

-- the end
pub ends : (was : Bool) (cs text whole : List ℕ) (n : ℕ) → length cs ≤ n
    → text ++ encode_utf8_all (unescaped_chars was (drop n cs)) ≡ whole → text ≡ whole
ends was cs text whole n past so_far =
    let none : unescaped_chars was (drop n cs) ≡ [] = at_drop_all (unescaped_chars was) cs n past in
    sym (append-nil text) ∙ ap (λ l. text ++ encode_utf8_all l) (sym none) ∙ so_far

pub escaped_step : (cs : List ℕ) (n c : ℕ) → (n < length cs) × (c ≡ get_or cs n c)
    → unescaped_chars true (drop n cs) ≡ unwrap_or (escape_of c) c ∷ unescaped_chars false (drop (n + 1) cs)
escaped_step cs n c item = here true cs n c item

pub plain_step : (cs : List ℕ) (n c : ℕ) → (n < length cs) × (c ≡ get_or cs n c) → (c ≡ 92 → ⊥)
    → unescaped_chars false (drop n cs) ≡ c ∷ unescaped_chars false (drop (n + 1) cs)
plain_step cs n c item other = here false cs n c item ∙ cond-false (c == 92) _ _ (ne_eqb c 92 other)

pub slash_step : (cs : List ℕ) (n c : ℕ) → (n < length cs) × (c ≡ get_or cs n c) → c ≡ 92
    → unescaped_chars false (drop n cs) ≡ unescaped_chars true (drop (n + 1) cs)
slash_step cs n c item slash = here false cs n c item ∙ cond-true (c == 92) _ _ (eq-eqb c 92 slash)

-- a backslash is a byte of its own
slash_found : (c : ℕ) → (c == 92) ≡ true → list_any (λ b. b == 92) (encode_utf8 c) ≡ true
slash_found c slash =
    let is : c ≡ 92 = eqb-true c 92 slash in
    ap (λ x. list_any (λ b. b == 92) (encode_utf8 x)) is ∙ ap (list_any (λ b. b == 92)) (encode_ascii 92 (omega arith))

plain_chars : (cs : List ℕ) → list_any (λ b. b == 92) (encode_utf8_all cs) ≡ false → unescaped_chars false cs ≡ cs
plain_chars [] none = refl
plain_chars (c ∷ cs) none =
    let parts = or_parts (list_any (λ b. b == 92) (encode_utf8 c)) (list_any (λ b. b == 92) (encode_utf8_all cs))
    (sym (list_any-append (λ b. b == 92) (encode_utf8 c) (encode_utf8_all cs)) ∙ none) in
    ⊎_elim
    (λ slash. absurd (false≢true (sym parts.0 ∙ slash_found c slash)))
    (λ other. cond-false (c == 92) _ _ other ∙ ap (λ l. c ∷ l) (plain_chars cs parts.1))
    (cases_Bool (c == 92))

-- a text without a backslash stands for itself
pub plain_text : (bytes : List ℕ) → IsUtf8 bytes → list_any (λ b. b == 92) bytes ≡ false
    → encode_utf8_all (unescaped_chars false (chars bytes)) ≡ bytes
plain_text bytes utf8 none =
    let whole = encodes-chars bytes utf8 in
    ap encode_utf8_all (plain_chars (chars bytes) (ap (list_any (λ b. b == 92)) whole ∙ none)) ∙ whole
