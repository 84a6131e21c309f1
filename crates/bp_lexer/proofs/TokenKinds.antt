-- The kind of a token, by the bytes that it begins with.
use Rattle.std.proofs.Common.{◌≡◌, ℕ, ◌<◌, true, false, cond, List, [], ◌∷◌, length, ◌++◌, get_or, sym, inl, inr, refl}
use Rattle.std.proofs.Common.{arith, ⊎_elim, ap, ◌∙◌}
use Rattle.std.specs.Prelude.{◌==◌, ◌||◌, ◌⊎◌}
use Rattle.std.specs.List.{list_all}
use Rattle.std.proofs.lemmas.Bool.{or_left, and_parts, cond-true, cond-false}
use Rattle.std.proofs.lemmas.Bool.Decides.{nat_tests}
use Rattle.bp_lexer.specs.declared.token.Punct.TheVariants.{OpenBrace, CloseBrace, OpenBracket, CloseBracket, OpenParen}
use Rattle.bp_lexer.specs.declared.token.Punct.TheVariants.{CloseParen, Colon, Comma, Equal, PlusEqual, Plus}
use Rattle.bp_lexer.specs.declared.token.TokenKind.{TokenKind}
use Rattle.bp_lexer.specs.declared.token.TokenKind.TheVariants.{Ident, Int, Quoted, Raw, Punct as Mark, LineComment}
use Rattle.bp_lexer.specs.declared.token.TokenKind.TheVariants.{BlockComment}
use Rattle.bp_lexer.specs.Classes.{is_white, is_letter, is_digit}
use Rattle.bp_lexer.specs.Forms.{IsForm}

-- a letter is no white space
letter_not_white : (b : ℕ) → is_letter b ≡ true → is_white b ≡ false
letter_not_white b letter = grind (arith, nat_tests)

digit_not_white : (b : ℕ) → is_digit b ≡ true → is_white b ≡ false
digit_not_white b digit = grind (arith, nat_tests)

pub digit_not_letter : (b : ℕ) → is_digit b ≡ true → is_letter b ≡ false
digit_not_letter b digit = grind (arith, nat_tests)

-- An integer begins with a minus and a digit, or with a digit.
pub record IsInt (word : List ℕ) (b : ℕ) (w : List ℕ) : Type 0 where
  pub begins : word ≡ b ∷ w
  pub digits : list_all is_digit w ≡ true
  pub first : ((b ≡ 45) × (0 < length w)) ⊎ (is_digit b ≡ true)

int_cases : (word sign digits : List ℕ) → word ≡ sign ++ digits → (sign ≡ []) ⊎ (sign ≡ 45 ∷ []) → 0 < length digits
    → list_all is_digit digits ≡ true → (b : ℕ) × (w : List ℕ) × IsInt word b w
int_cases word sign [] is which some all = absurd (omega arith)
int_cases word sign (d ∷ ds) is (inl none) some all =
    let parts = and_parts (is_digit d) (list_all is_digit ds) all in
    (d, ds, record { begins = is ∙ ap (λ s. s ++ d ∷ ds) none; digits = parts.1; first = inr parts.0 })
int_cases word sign (d ∷ ds) is (inr minus) some all =
    (45, d ∷ ds, record { begins = is ∙ ap (λ s. s ++ d ∷ ds) minus; digits = all; first = inl (refl, omega arith) })

pub int_parts : (word : List ℕ) → IsForm Int word → (b : ℕ) × (w : List ℕ) × IsInt word b w
int_parts word form = int_cases word form.0 form.1 form.2 form.3 form.4 form.5

-- a token has a byte, and begins with no white space
pub form_first : (k : TokenKind) (word : List ℕ) → IsForm k word
    → (0 < length word) × (is_white (get_or word 0 0) ≡ false)
form_first Ident word form = rw form.2 (omega arith, letter_not_white form.0 form.3)
form_first Int word form =
    let int = int_parts word form in
    rw int.2.begins (omega arith, ⊎_elim (λ minus. rw minus.0 refl) (λ digit. digit_not_white int.0 digit) int.2.first)
form_first Quoted word form = rw form.1 (omega arith, refl)
form_first Raw word form = rw form.1 (omega arith, refl)
form_first (Mark OpenBrace) word form = rw form (omega arith, refl)
form_first (Mark CloseBrace) word form = rw form (omega arith, refl)
form_first (Mark OpenBracket) word form = rw form (omega arith, refl)
form_first (Mark CloseBracket) word form = rw form (omega arith, refl)
form_first (Mark OpenParen) word form = rw form (omega arith, refl)
form_first (Mark CloseParen) word form = rw form (omega arith, refl)
form_first (Mark Colon) word form = rw form (omega arith, refl)
form_first (Mark Comma) word form = rw form (omega arith, refl)
form_first (Mark Equal) word form = rw form (omega arith, refl)
form_first (Mark PlusEqual) word form = rw form (omega arith, refl)
form_first (Mark Plus) word form = rw form (omega arith, refl)
form_first LineComment word form = rw form.1 (omega arith, refl)
form_first BlockComment word form = rw form.2 (omega arith, refl)

-- which mark begins so
abbrev mark_of : ℕ → List ℕ → TokenKind
mark_of b w =
    cond (b == 123) (Mark OpenBrace) (cond (b == 125) (Mark CloseBrace) (cond (b == 91) (Mark OpenBracket)
    (cond (b == 93) (Mark CloseBracket) (cond (b == 40) (Mark OpenParen) (cond (b == 41) (Mark CloseParen)
    (cond (b == 58) (Mark Colon) (cond (b == 44) (Mark Comma) (cond (b == 61) (Mark Equal)
    (cond (get_or w 0 0 == 61) (Mark PlusEqual) (Mark Plus))))))))))

-- the kind of a token that begins so
abbrev pub kind_of : List ℕ → TokenKind
kind_of [] = Quoted
kind_of (b ∷ w) =
    cond (is_letter b) Ident (cond (is_digit b || (b == 45)) Int (cond (b == 34) Quoted (cond (b == 96) Raw
    (cond (b == 47) (cond (get_or w 0 0 == 42) BlockComment LineComment) (mark_of b w)))))

pub int_kind : (b : ℕ) (w : List ℕ) → ((b ≡ 45) × (0 < length w)) ⊎ (is_digit b ≡ true) → kind_of (b ∷ w) ≡ Int
int_kind b w (inl minus) = rw minus.0 refl
int_kind b w (inr digit) =
    cond-false (is_letter b) _ _ (digit_not_letter b digit)
    ∙ cond-true (is_digit b || (b == 45)) _ _ (or_left (is_digit b) (b == 45) digit)

pub form_kind : (k : TokenKind) (word : List ℕ) → IsForm k word → k ≡ kind_of word
form_kind Ident word form = rw form.2 (sym (cond-true (is_letter form.0) _ _ form.3))
form_kind Int word form =
    let int = int_parts word form in
    rw int.2.begins (sym (int_kind int.0 int.1 int.2.first))
form_kind Quoted word form = rw form.1 refl
form_kind Raw word form = rw form.1 refl
form_kind (Mark OpenBrace) word form = rw form refl
form_kind (Mark CloseBrace) word form = rw form refl
form_kind (Mark OpenBracket) word form = rw form refl
form_kind (Mark CloseBracket) word form = rw form refl
form_kind (Mark OpenParen) word form = rw form refl
form_kind (Mark CloseParen) word form = rw form refl
form_kind (Mark Colon) word form = rw form refl
form_kind (Mark Comma) word form = rw form refl
form_kind (Mark Equal) word form = rw form refl
form_kind (Mark PlusEqual) word form = rw form refl
form_kind (Mark Plus) word form = rw form refl
form_kind LineComment word form = rw form.1 refl
form_kind BlockComment word form = rw form.2 refl
