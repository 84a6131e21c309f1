-- What is quoted is a string, and stands for the text.
use Rattle.std.proofs.Common.{◌≡◌, ℕ, ◌+◌, ◌-◌, ◌/◌, ◌≤◌, true, false, ltb, List, [], ◌∷◌, ◌++◌, length, take, Option}
use Rattle.std.proofs.Common.{Some, None, sym, refl, ap, ◌∙◌, arith, length-append, append-nil, IsUtf8}
use Rattle.std.specs.Prelude.{◌==◌, ◌&&◌, not, chars, encode_utf8_all}
use Rattle.std.proofs.Math.Seq.{take-append_seam}
use Rattle.std.proofs.lemmas.Bool.{cond_both, cond-false, and_parts, and_from, ne_eqb}
use Rattle.std.proofs.lemmas.Str.{chars-encodes}
use lib.Utf8.{encode, next, scalar, scalars}
use Rattle.bp_lexer.specs.declared.token.TokenKind.TheVariants.{Quoted}
use Rattle.bp_lexer.specs.Forms.{IsForm}
use Rattle.bp_lexer.specs.Meaning.{inner_of, string_of}
use Rattle.bp_lexer.specs.Strings.{is_body, is_escape, unescaped_chars}
use Rattle.bp_format.specs.Quotes.{escape_letter, escape_by, character_in_quotes, characters_in_quotes, quotation}
use Rattle.bp_format.proofs.Quoting.{encode_append, unescaped_back}

abbrev IsBody : List ℕ → List ℕ → Type 0
IsBody front rest = is_body is_escape false (front ++ rest) ≡ is_body is_escape false rest

-- a byte that stands for itself
plain_byte : (b : ℕ) (rest : List ℕ) → (b == 92) ≡ false → (b == 34) ≡ false → (b == 10) ≡ false → IsBody (b ∷ []) rest
plain_byte b rest slash quote line =
    cond-false (b == 92) _ _ slash
    ∙ ap (λ t. t && is_body is_escape false rest)
    (and_from (not (b == 34)) (not (b == 10)) (ap not quote) (ap not line))

high_byte : (b : ℕ) (rest : List ℕ) → 128 ≤ b → IsBody (b ∷ []) rest
high_byte b rest high =
    plain_byte b rest (ne_eqb b 92 (λ e. omega arith)) (ne_eqb b 34 (λ e. omega arith)) (ne_eqb b 10 (λ e. omega arith))

-- a character that stands for itself
plain_char : (c : ℕ) (rest : List ℕ) → (c == 92) ≡ false → (c == 34) ≡ false → (c == 10) ≡ false
    → IsBody (encode c) rest
unfolding encode
plain_char c rest slash quote line =
    cond_both (ltb c 128) _ _ (λ l. IsBody l rest)
    (λ e. plain_byte c rest slash quote line)
    (λ e1. cond_both (ltb c 2048) _ _ (λ l. IsBody l rest)
    (λ e. high_byte (192 + c / 64) (next c ∷ rest) (omega arith) ∙ high_byte (next c) rest (omega arith))
    (λ e2. cond_both (ltb c 65536) _ _ (λ l. IsBody l rest)
    (λ e. high_byte (224 + c / 4096) (next (c / 64) ∷ next c ∷ rest) (omega arith)
    ∙ high_byte (next (c / 64)) (next c ∷ rest) (omega arith)
    ∙ high_byte (next c) rest (omega arith))
    (λ e. high_byte (240 + c / 262144) (next (c / 4096) ∷ next (c / 64) ∷ next c ∷ rest) (omega arith)
    ∙ high_byte (next (c / 4096)) (next (c / 64) ∷ next c ∷ rest) (omega arith)
    ∙ high_byte (next (c / 64)) (next c ∷ rest) (omega arith)
    ∙ high_byte (next c) rest (omega arith))))

-- a letter of an escape, or that there is none
abbrev IsLetter : ℕ → Option ℕ → Type 0
IsLetter c None = ((c == 92) ≡ false) × ((c == 34) ≡ false) × ((c == 10) ≡ false)
IsLetter c (Some letter) = (encode letter ≡ letter ∷ []) × (is_escape letter ≡ true) × (scalar letter ≡ true)

letter : (c : ℕ) → IsLetter c (escape_letter c)
unfolding encode
letter c =
    cond_both (c == 7) _ _ (IsLetter c) (λ _. (refl, refl, refl)) (λ _.
    cond_both (c == 8) _ _ (IsLetter c) (λ _. (refl, refl, refl)) (λ _.
    cond_both (c == 12) _ _ (IsLetter c) (λ _. (refl, refl, refl)) (λ _.
    cond_both (c == 10) _ _ (IsLetter c) (λ _. (refl, refl, refl)) (λ line.
    cond_both (c == 13) _ _ (IsLetter c) (λ _. (refl, refl, refl)) (λ _.
    cond_both (c == 9) _ _ (IsLetter c) (λ _. (refl, refl, refl)) (λ _.
    cond_both (c == 11) _ _ (IsLetter c) (λ _. (refl, refl, refl)) (λ _.
    cond_both (c == 92) _ _ (IsLetter c) (λ _. (refl, refl, refl)) (λ slash.
    cond_both (c == 34) _ _ (IsLetter c) (λ _. (refl, refl, refl)) (λ quote. (slash, quote, line))))))))))

backslash : encode 92 ≡ 92 ∷ []
unfolding encode
backslash = refl

body_by : (c : ℕ) (o : Option ℕ) (rest : List ℕ) → IsLetter c o → IsBody (encode_utf8_all (escape_by c o)) rest
body_by c None rest is =
    ap (λ l. is_body is_escape false (l ++ rest)) (append-nil (encode c)) ∙ plain_char c rest is.0 is.1 is.2
body_by c (Some l) rest is =
    ap (λ w. is_body is_escape false (w ++ rest)) ((λ i. backslash i ++ (is.0 i ++ [])))
    ∙ ap (λ t. t && is_body is_escape false rest) is.1

body_all : (cs : List ℕ) → is_body is_escape false (encode_utf8_all (characters_in_quotes cs)) ≡ true
body_all [] = refl
body_all (c ∷ cs) =
    ap (is_body is_escape false) (encode_append (character_in_quotes c) (characters_in_quotes cs))
    ∙ body_by c (escape_letter c) (encode_utf8_all (characters_in_quotes cs)) (letter c)
    ∙ body_all cs

pub quoted_form : (text : List ℕ) → IsForm Quoted (quotation text)
quoted_form text = (encode_utf8_all (characters_in_quotes (chars text)), refl, body_all (chars text))

scalars_by : (c : ℕ) (o : Option ℕ) (rest : List ℕ) → IsLetter c o → scalar c ≡ true → scalars rest ≡ true
    → scalars (escape_by c o ++ rest) ≡ true
scalars_by c None rest is good more = and_from _ _ good more
scalars_by c (Some l) rest is good more = and_from (scalar l) (scalars rest) is.2 more

scalars_all : (cs : List ℕ) → scalars cs ≡ true → scalars (characters_in_quotes cs) ≡ true
scalars_all [] good = refl
scalars_all (c ∷ cs) good =
    let p = and_parts (scalar c) (scalars cs) good in
    scalars_by c (escape_letter c) (characters_in_quotes cs) (letter c) p.0 (scalars_all cs p.1)

inner_quoted : (inner : List ℕ) → inner_of (34 ∷ (inner ++ 34 ∷ [])) ≡ inner
inner_quoted inner =
    let len : length (inner ++ 34 ∷ []) + 1 - 2 ≡ length inner = omega (arith, length-append inner (34 ∷ [])) in
    ap (λ n. take n (inner ++ 34 ∷ [])) (sym one ∙ len) ∙ take-append_seam inner (34 ∷ [])
  where
    one : length (inner ++ 34 ∷ []) + 1 - 2 ≡ length (34 ∷ (inner ++ 34 ∷ [])) - 2
    one = omega arith

pub quoted_string : (text : List ℕ) → IsUtf8 text → string_of Quoted (quotation text) ≡ text
quoted_string text utf8 =
    let cs = utf8.0 in
    let same : chars text ≡ cs = ap chars (sym utf8.1.1) ∙ chars-encodes cs utf8.1.0 in
    let back : chars (encode_utf8_all (characters_in_quotes (chars text))) ≡ characters_in_quotes cs =
    ap (λ l. chars (encode_utf8_all (characters_in_quotes l))) same
    ∙ chars-encodes (characters_in_quotes cs) (scalars_all cs utf8.1.0) in
    ap (λ l. encode_utf8_all (unescaped_chars false (chars l)))
    (inner_quoted (encode_utf8_all (characters_in_quotes (chars text))))
    ∙ ap (λ l. encode_utf8_all (unescaped_chars false l)) back ∙ ap encode_utf8_all (unescaped_back cs) ∙ utf8.1.1
