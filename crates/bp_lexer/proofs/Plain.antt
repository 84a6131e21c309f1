-- The place behind bytes that end no line: those of a token, or a run of spaces.
use Rattle.std.proofs.Common.{false, cond, length-drop, ◌≡◌, ℕ, zero, suc, Bool, ◌+◌, ◌<◌, ◌≤◌, true, List, [], ◌∷◌}
use Rattle.std.proofs.Common.{length, get_or, take, drop, sym, refl, ap, ◌∙◌, arith, ⊎_elim, length-take-le}
use Rattle.std.proofs.Common.{get_or-drop, get_or-take, add-zero}
use Rattle.std.specs.Prelude.{◌==◌, ◌&&◌, not, nat_lt, nat_le}
use Rattle.std.specs.List.{count_by, list_all, prefix_len}
use Rattle.std.proofs.lemmas.Bool.{eqb-true, and_parts, and_from, or_left, cases_Bool, cond-true, cond-false, not-true}
use Rattle.std.proofs.lemmas.Bool.{false≢true}
use Rattle.std.proofs.lemmas.List.{take_more}
use Rattle.std.proofs.lemmas.Bool.Decides.{nat_tests}
use Rattle.std.proofs.lemmas.List.Folds.{list_all_at, list_all-append}
use Rattle.std.proofs.lemmas.List.Sums.{sum_by_push, prefix_len_passes}
use Rattle.bp_faults.specs.declared.place.Place.{Place}
use Rattle.bp_lexer.specs.declared.class.Class.TheVariants.{Space}
use Rattle.bp_lexer.specs.declared.token.Punct.{Punct}
use Rattle.bp_lexer.specs.declared.token.Punct.TheVariants.{OpenBrace, CloseBrace, OpenBracket, CloseBracket, OpenParen}
use Rattle.bp_lexer.specs.declared.token.Punct.TheVariants.{CloseParen, Colon, Comma, Equal, PlusEqual, Plus}
use Rattle.bp_lexer.specs.declared.token.TokenKind.{TokenKind}
use Rattle.bp_lexer.specs.declared.token.TokenKind.TheVariants.{Ident, Int, Quoted, Raw, Punct as Mark, LineComment}
use Rattle.bp_lexer.specs.declared.token.TokenKind.TheVariants.{BlockComment}
use Rattle.bp_lexer.specs.Classes.{in_line, is_letter, is_word, is_digit, in_class}
use Rattle.bp_lexer.specs.Forms.{IsForm, IsLongest, punct_text}
use Rattle.bp_lexer.specs.Strings.{is_body, is_escape, is_string_byte}
use Rattle.bp_lexer.specs.Places.{begins_char, place_at}
use Rattle.bp_lexer.specs.Search.{has_line_end, is_plain, place_after, place_along}
use Rattle.bp_lexer.proofs.TokenKinds.{int_parts}
use Rattle.bp_lexer.proofs.Boundary.{form_span}
use Rattle.bp_lexer.proofs.Bodies.{escape_in_line}
use Rattle.bp_lexer.proofs.Places.{place_push, same_place}

-- of ASCII, and no end of a line
abbrev pub is_inline : ℕ → Bool
is_inline b = nat_lt b 128 && not (b == 10)

letter_inline : (b : ℕ) → is_letter b ≡ true → is_inline b ≡ true
letter_inline b letter = grind (arith, nat_tests)

word_inline : (b : ℕ) → is_word b ≡ true → is_inline b ≡ true
word_inline b word = grind (arith, nat_tests)

digit_inline : (b : ℕ) → is_digit b ≡ true → is_inline b ≡ true
digit_inline b digit = grind (arith, nat_tests)

all_pass : (p q : ℕ → Bool) (bs : List ℕ) → ((b : ℕ) → p b ≡ true → q b ≡ true) → list_all p bs ≡ true
    → list_all q bs ≡ true
all_pass p q [] each all = refl
all_pass p q (b ∷ bs) each all =
    let parts = and_parts (p b) (list_all p bs) all in
    and_from _ _ (each b parts.0) (all_pass p q bs each parts.1)

mark_inline : (punct : Punct) → list_all is_inline (punct_text punct) ≡ true
mark_inline OpenBrace = refl
mark_inline CloseBrace = refl
mark_inline OpenBracket = refl
mark_inline CloseBracket = refl
mark_inline OpenParen = refl
mark_inline CloseParen = refl
mark_inline Colon = refl
mark_inline Comma = refl
mark_inline Equal = refl
mark_inline PlusEqual = refl
mark_inline Plus = refl

form_inline : (k : TokenKind) (word : List ℕ) → is_plain k ≡ true → IsForm k word → list_all is_inline word ≡ true
form_inline Ident word plain form =
    rw form.2 (and_from _ _ (letter_inline form.0 form.3) (all_pass is_word is_inline form.1 word_inline form.4))
form_inline Int word plain form =
    let int = int_parts word form in
    rw int.2.begins (and_from _ _ (⊎_elim (λ minus. rw minus.0 refl) (λ digit. digit_inline int.0 digit) int.2.first)
    (all_pass is_digit is_inline int.1 digit_inline int.2.digits))
form_inline Quoted word plain form = absurd (false≢true plain)
form_inline Raw word plain form = absurd (false≢true plain)
form_inline (Mark punct) word plain form = rw form (mark_inline punct)
form_inline LineComment word plain form = absurd (false≢true plain)
form_inline BlockComment word plain form = absurd (false≢true plain)

passes_at : (p : ℕ → Bool) (bs : List ℕ) (i : ℕ) → i < length bs → list_all p bs ≡ true → p (get_or bs i 0) ≡ true
passes_at p bs i within all =
    ⊎_elim
    (λ yes. yes)
    (λ fails. absurd (false≢true (sym (list_all_at p bs i 0 within fails) ∙ all)))
    (cases_Bool (p (get_or bs i 0)))

step_along : (p : Place) (b : ℕ) → is_inline b ≡ true → place_after p b ≡ place_along p 1
step_along p b inline =
    let parts = and_parts (nat_lt b 128) (not (b == 10)) inline in
    cond-false (b == 10) _ _ (not-true (b == 10) parts.1)
    ∙ cond-true (begins_char b) _ _ (or_left (nat_lt b 128) (nat_le 192 b) parts.0)

-- a byte that is so moves the place by a column
pub place_at-along : (file : ℕ) (text : List ℕ) (i n : ℕ) → i + n ≤ length text
    → ((k : ℕ) → k < n → is_inline (get_or text (i + k) 0) ≡ true)
    → place_at file text (i + n) ≡ place_along (place_at file text i) n
place_at-along file text i zero within inline =
    ap (place_at file text) (add-zero i)
    ∙ same_place (place_at file text i) (place_along (place_at file text i) 0) refl refl
    (sym (add-zero (place_at file text i).col))
place_at-along file text i (suc n) within inline =
    let next : i + suc n ≡ i + n + 1 = omega arith in
    let here = place_at-along file text i n (omega arith) (λ k low. inline k (omega arith)) in
    let p = place_at file text i in
    ap (place_at file text) next
    ∙ place_push file text (i + n) (get_or text (i + n) 0) (omega arith) refl
    ∙ step_along (place_at file text (i + n)) (get_or text (i + n) 0) (inline n (omega arith))
    ∙ ap (λ q. place_along q 1) here
    ∙ same_place (place_along (place_along p n) 1) (place_along p (suc n)) refl refl (omega arith)

-- behind such a token
pub place_behind : (file : ℕ) (text : List ℕ) (at n : ℕ) (k : TokenKind) → at ≤ length text
    → IsLongest (drop at text) k n → is_plain k ≡ true
    → place_at file text (at + n) ≡ place_along (place_at file text at) n
place_behind file text at n k inside longest plain =
    let rest = drop at text in
    let span = form_span text at n k inside longest in
    let len = length-take-le n rest longest.within in
    let all = form_inline k (take n rest) plain longest.form in
    place_at-along file text at n span.1 (λ i low.
    let byte : get_or (take n rest) i 0 ≡ get_or text (at + i) 0 =
    get_or-take n rest i 0 low ∙ get_or-drop at text i 0 in
    ap is_inline (sym byte) ∙ passes_at is_inline (take n rest) i (omega arith) all)

-- a run of spaces
pub space_at : (bytes : List ℕ) (at n k : ℕ) → n ≡ prefix_len (in_class Space) (drop at bytes) → k < n
    → get_or bytes (at + k) 0 ≡ 32
space_at bytes at n k run low =
    let passes = prefix_len_passes (in_class Space) (drop at bytes) k 0 (omega arith) in
    sym (get_or-drop at bytes k 0) ∙ eqb-true (get_or (drop at bytes) k 0) 32 passes

-- the body of a string stays on its line
body_on_line : (slash : Bool) (bs : List ℕ) → is_body is_escape slash bs ≡ true → list_all in_line bs ≡ true
body_on_line slash [] h = refl
body_on_line true (b ∷ bs) h =
    let parts = and_parts (is_escape b) (is_body is_escape false bs) h in
    and_from _ _ (escape_in_line b parts.0) (body_on_line false bs parts.1)
body_on_line false (b ∷ bs) h =
    ⊎_elim
    (λ yes.
    and_from _ _ (ap in_line (eqb-true b 92 yes)) (body_on_line true bs (sym (cond-true (b == 92) _ _ yes) ∙ h)))
    (λ other.
    let parts = and_parts (is_string_byte b) (is_body is_escape false bs) (sym (cond-false (b == 92) _ _ other) ∙ h) in
    let plain = and_parts (not (b == 34)) (not (b == 10)) parts.0 in
    and_from _ _ plain.1 (body_on_line false bs parts.1))
    (cases_Bool (b == 92))

inline_line : (b : ℕ) → is_inline b ≡ true → in_line b ≡ true
inline_line b inline = let parts = and_parts (nat_lt b 128) (not (b == 10)) inline in parts.1

form_on_line : (k : TokenKind) (word : List ℕ) → has_line_end k ≡ false → IsForm k word → list_all in_line word ≡ true
form_on_line Ident word none form = all_pass is_inline in_line word inline_line (form_inline Ident word refl form)
form_on_line Int word none form = all_pass is_inline in_line word inline_line (form_inline Int word refl form)
form_on_line Quoted word none form =
    rw form.1 (and_from _ _ refl
    (list_all-append in_line form.0 (34 ∷ []) ∙ and_from _ _ (body_on_line false form.0 form.2) refl))
form_on_line Raw word none form = absurd (false≢true (sym none))
form_on_line (Mark punct) word none form =
    all_pass is_inline in_line word inline_line (form_inline (Mark punct) word refl form)
form_on_line LineComment word none form = rw form.1 (and_from _ _ refl (and_from _ _ refl form.2))
form_on_line BlockComment word none form = absurd (false≢true (sym none))

step_on_line : (p : Place) (b : ℕ) → in_line b ≡ true → place_after p b ≡ place_along p (cond (begins_char b) 1 0)
step_on_line p b line =
    cond-false (b == 10) _ _ (not-true (b == 10) line) ∙ ⊎_elim
    (λ yes. cond-true (begins_char b) _ _ yes ∙ ap (place_along p) (sym (cond-true (begins_char b) 1 0 yes)))
    (λ no. cond-false (begins_char b) _ _ no
    ∙ same_place p (place_along p 0) refl refl (sym (add-zero p.col))
    ∙ ap (place_along p) (sym (cond-false (begins_char b) 1 0 no)))
    (cases_Bool (begins_char b))

count_step : (text : List ℕ) (i n : ℕ) → i + n < length text → count_by begins_char (take (n + 1) (drop i text))
    ≡ count_by begins_char (take n (drop i text)) + cond (begins_char (get_or text (i + n) 0)) 1 0
count_step text i n within =
    let rest = drop i text in
    ap (count_by begins_char) (take_more rest n 0 (omega (arith, length-drop i text)))
    ∙ sum_by_push (λ x. cond (begins_char x) 1 0) (take n rest) (get_or rest n 0)
    ∙ ap (λ b. count_by begins_char (take n rest) + cond (begins_char b) 1 0) (get_or-drop i text n 0)

-- a byte that ends no line moves the place by a column where it begins a character
place_at-counted : (file : ℕ) (text : List ℕ) (i n : ℕ) → i + n ≤ length text
    → ((k : ℕ) → k < n → in_line (get_or text (i + k) 0) ≡ true)
    → place_at file text (i + n) ≡ place_along (place_at file text i) (count_by begins_char (take n (drop i text)))
place_at-counted file text i zero within line =
    ap (place_at file text) (add-zero i)
    ∙ same_place (place_at file text i) (place_along (place_at file text i) 0) refl refl
    (sym (add-zero (place_at file text i).col))
place_at-counted file text i (suc n) within line =
    let next : i + suc n ≡ i + n + 1 = omega arith in
    let one : n + 1 ≡ suc n = omega arith in
    let here = place_at-counted file text i n (omega arith) (λ k low. line k (omega arith)) in
    let p = place_at file text i in
    let b = get_or text (i + n) 0 in
    let count = count_by begins_char (take n (drop i text)) in
    let counted : count + cond (begins_char b) 1 0 ≡ count_by begins_char (take (suc n) (drop i text)) =
    sym (count_step text i n (omega arith)) ∙ ap (λ k. count_by begins_char (take k (drop i text))) one in
    ap (place_at file text) next
    ∙ place_push file text (i + n) b (omega arith) refl
    ∙ step_on_line (place_at file text (i + n)) b (line n (omega arith))
    ∙ ap (λ q. place_along q (cond (begins_char b) 1 0)) here
    ∙ same_place (place_along (place_along p count) (cond (begins_char b) 1 0))
    (place_along p (count_by begins_char (take (suc n) (drop i text)))) refl refl (omega (arith, counted))

-- behind a token on one line
pub place_counted : (file : ℕ) (text : List ℕ) (at n : ℕ) (k : TokenKind) → at ≤ length text
    → IsLongest (drop at text) k n → has_line_end k ≡ false
    → place_at file text (at + n) ≡ place_along (place_at file text at) (count_by begins_char (take n (drop at text)))
place_counted file text at n k inside longest none =
    let rest = drop at text in
    let span = form_span text at n k inside longest in
    let len = length-take-le n rest longest.within in
    let all = form_on_line k (take n rest) none longest.form in
    place_at-counted file text at n span.1 (λ i low.
    let byte : get_or (take n rest) i 0 ≡ get_or text (at + i) 0 =
    get_or-take n rest i 0 low ∙ get_or-drop at text i 0 in
    ap in_line (sym byte) ∙ passes_at in_line (take n rest) i (omega arith) all)
