-- Tokens and white space begin and end where characters do.
use Rattle.std.proofs.Common.{◌≡◌, ℕ, suc, Bool, ◌+◌, ◌-◌, ◌<◌, ◌≤◌, true, List, [], ◌∷◌, ◌++◌, length, get_or, take}
use Rattle.std.proofs.Common.{drop, sym, refl, ap, ◌∙◌, subst, arith, ⊎_elim, IsUtf8, IsCharBoundary, length-drop}
use Rattle.std.proofs.Common.{length-take-le, length-append, get_or-drop, get_or-take, take-append-drop, add-zero}
use Rattle.std.specs.Prelude.{◌⊎◌, ◌==◌, not}
use Rattle.std.specs.List.{list_all, slice_range}
use Rattle.std.proofs.Math.Seq.{get_or-append_seam}
use Rattle.std.proofs.lemmas.Bool.{and_parts, and_from, cases_lt, cases_Bool, eqb-true}
use Rattle.std.proofs.lemmas.Bool.Decides.{nat_tests}
use Rattle.std.proofs.lemmas.List.{take_more, take-take, drop-drop, drop-take}
use Rattle.std.proofs.lemmas.List.Folds.{list_all-append}
use Rattle.std.proofs.lemmas.Str.{IsCharBoundary-after_ascii, IsCharBoundary-before_ascii, IsCharBoundary-end}
use Rattle.std.proofs.lemmas.Str.{IsCharBoundary-start}
use Rattle.bp_lexer.specs.declared.token.Punct.{Punct}
use Rattle.bp_lexer.specs.declared.token.Punct.TheVariants.{OpenBrace, CloseBrace, OpenBracket, CloseBracket, OpenParen}
use Rattle.bp_lexer.specs.declared.token.Punct.TheVariants.{CloseParen, Colon, Comma, Equal, PlusEqual, Plus}
use Rattle.bp_lexer.specs.declared.token.Token.{Token}
use Rattle.bp_lexer.specs.declared.token.TokenKind.{TokenKind}
use Rattle.bp_lexer.specs.declared.token.TokenKind.TheVariants.{Ident, Int, Quoted, Raw, Punct as Mark, LineComment}
use Rattle.bp_lexer.specs.declared.token.TokenKind.TheVariants.{BlockComment}
use Rattle.bp_lexer.specs.Classes.{is_white, is_letter, is_word, is_digit, in_line}
use Rattle.bp_lexer.specs.Forms.{IsForm, IsLongest, punct_text}
use Rattle.bp_lexer.specs.Meaning.{IsBlank, IsToken, Covers, inner_of, word_of}
use Rattle.bp_lexer.specs.Strings.{IsBadEscapeAt}
use Rattle.bp_lexer.proofs.TokenKinds.{form_first, int_parts}
use Rattle.bp_lexer.proofs.OneMeaning.{token_first}

white_ascii : (b : ℕ) → is_white b ≡ true → b < 128
white_ascii b white = grind (arith, nat_tests)

word_ascii : (b : ℕ) → is_word b ≡ true → b < 128
word_ascii b word = grind (arith, nat_tests)

letter_word : (b : ℕ) → is_letter b ≡ true → is_word b ≡ true
letter_word b letter = grind (arith, nat_tests)

last_passes : (p : ℕ → Bool) (b : ℕ) (bs : List ℕ) → p b ≡ true → list_all p bs ≡ true
    → p (get_or (b ∷ bs) (length bs) 0) ≡ true
last_passes p b [] here h = here
last_passes p b (x ∷ bs) here h =
    let parts = and_parts (p x) (list_all p bs) h in
    last_passes p x bs parts.0 parts.1

pub digit_ascii : (b : ℕ) → is_digit b ≡ true → b < 128
digit_ascii b digit = grind (arith, nat_tests)

mark_first : (punct : Punct) → get_or (punct_text punct) 0 0 < 128
mark_first OpenBrace = omega arith
mark_first CloseBrace = omega arith
mark_first OpenBracket = omega arith
mark_first CloseBracket = omega arith
mark_first OpenParen = omega arith
mark_first CloseParen = omega arith
mark_first Colon = omega arith
mark_first Comma = omega arith
mark_first Equal = omega arith
mark_first PlusEqual = omega arith
mark_first Plus = omega arith

-- the first byte of a token is of ASCII
form_begins : (k : TokenKind) (word : List ℕ) → IsForm k word → get_or word 0 0 < 128
form_begins Ident word form = rw form.2 (word_ascii form.0 (letter_word form.0 form.3))
form_begins Int word form =
    let int = int_parts word form in
    rw int.2.begins (⊎_elim (λ minus. omega (arith, minus.0)) (λ digit. digit_ascii int.0 digit) int.2.first)
form_begins Quoted word form = rw form.1 (omega arith)
form_begins Raw word form = rw form.1 (omega arith)
form_begins (Mark punct) word form = rw form (mark_first punct)
form_begins LineComment word form = rw form.1 (omega arith)
form_begins BlockComment word form = rw form.2 (omega arith)

mark_last : (punct : Punct) (n : ℕ) → length (punct_text punct) ≡ suc n → get_or (punct_text punct) n 0 < 128
mark_last OpenBrace n len = let e : n ≡ 0 = omega arith in rw e (omega arith)
mark_last CloseBrace n len = let e : n ≡ 0 = omega arith in rw e (omega arith)
mark_last OpenBracket n len = let e : n ≡ 0 = omega arith in rw e (omega arith)
mark_last CloseBracket n len = let e : n ≡ 0 = omega arith in rw e (omega arith)
mark_last OpenParen n len = let e : n ≡ 0 = omega arith in rw e (omega arith)
mark_last CloseParen n len = let e : n ≡ 0 = omega arith in rw e (omega arith)
mark_last Colon n len = let e : n ≡ 0 = omega arith in rw e (omega arith)
mark_last Comma n len = let e : n ≡ 0 = omega arith in rw e (omega arith)
mark_last Equal n len = let e : n ≡ 0 = omega arith in rw e (omega arith)
mark_last PlusEqual n len = let e : n ≡ 1 = omega arith in rw e (omega arith)
mark_last Plus n len = let e : n ≡ 0 = omega arith in rw e (omega arith)

int_last : (b : ℕ) (w : List ℕ) → list_all is_digit w ≡ true → ((b ≡ 45) × (0 < length w)) ⊎ (is_digit b ≡ true)
    → is_digit (get_or (b ∷ w) (length w) 0) ≡ true
int_last b [] all first = ⊎_elim (λ minus. absurd (omega (arith, minus.1))) (λ digit. digit) first
int_last b (x ∷ w) all first =
    let parts = and_parts (is_digit x) (list_all is_digit w) all in
    last_passes is_digit x w parts.0 parts.1

quote_last : (q : ℕ) (word inner : List ℕ) (n : ℕ) → word ≡ q ∷ (inner ++ q ∷ []) → length word ≡ suc n
    → get_or word n 0 ≡ q
quote_last q word inner n is len =
    let e : n ≡ suc (length inner) = omega (arith, ap length is, length-append inner (q ∷ [])) in
    ap (λ l. get_or l n 0) is ∙ ap (λ i. get_or (q ∷ (inner ++ q ∷ [])) i 0) e ∙ get_or-append_seam inner q [] 0

-- the last byte of a token is of ASCII, but that of a comment to the end of its line
form_last : (k : TokenKind) (word : List ℕ) (n : ℕ) → (k ≡ LineComment → ⊥) → IsForm k word → length word ≡ suc n
    → get_or word n 0 < 128
form_last Ident word n other form len =
    let e : n ≡ length form.1 = omega (arith, ap length form.2) in
    let last = last_passes is_word form.0 form.1 (letter_word form.0 form.3) form.4 in
    let at : get_or word n 0 ≡ get_or (form.0 ∷ form.1) (length form.1) 0 =
    ap (λ l. get_or l n 0) form.2 ∙ ap (λ i. get_or (form.0 ∷ form.1) i 0) e in
    word_ascii (get_or word n 0) (ap is_word at ∙ last)
form_last Int word n other form len =
    let int = int_parts word form in
    let e : n ≡ length int.1 = omega (arith, ap length int.2.begins) in
    let at : get_or word n 0 ≡ get_or (int.0 ∷ int.1) (length int.1) 0 =
    ap (λ l. get_or l n 0) int.2.begins ∙ ap (λ i. get_or (int.0 ∷ int.1) i 0) e in
    digit_ascii (get_or word n 0) (ap is_digit at ∙ int_last int.0 int.1 int.2.digits int.2.first)
form_last Quoted word n other form len = omega (arith, quote_last 34 word form.0 n form.1 len)
form_last Raw word n other form len = omega (arith, quote_last 96 word form.0 n form.1 len)
form_last (Mark punct) word n other form len = rw form (mark_last punct n (sym (ap length form) ∙ len))
form_last LineComment word n other form len = absurd (other refl)
form_last BlockComment word n other form len =
    let e : n ≡ suc (suc (form.1 + 1)) = omega (arith, ap length form.2, form.3) in
    let at : get_or word n 0 ≡ 47 =
    ap (λ l. get_or l n 0) form.2 ∙ ap (λ i. get_or (47 ∷ 42 ∷ form.0) i 0) e ∙ form.4.0.1 in
    omega arith

-- a form has a byte, and lies within the text
pub form_span : (text : List ℕ) (start n : ℕ) (k : TokenKind) → start ≤ length text → IsLongest (drop start text) k n
    → (0 < n) × (start + n ≤ length text)
form_span text start n k inside longest =
    let rest = drop start text in
    let first = form_first k (take n rest) longest.form in
    let len = length-take-le n rest longest.within in
    (omega arith, omega (arith, longest.within, length-drop start text))

pub first_ascii : (text : List ℕ) (start n : ℕ) (k : TokenKind) → start ≤ length text → IsLongest (drop start text) k n
    → get_or text start 0 < 128
first_ascii text start n k inside longest =
    let rest = drop start text in
    let span = form_span text start n k inside longest in
    let at : get_or (take n rest) 0 0 ≡ get_or text start 0 =
    get_or-take n rest 0 0 span.0 ∙ get_or-drop start text 0 0 ∙ ap (λ i. get_or text i 0) (add-zero start) in
    omega (arith, form_begins k (take n rest) longest.form)

pub last_ascii : (text : List ℕ) (start n : ℕ) (k : TokenKind) → (k ≡ LineComment → ⊥) → start ≤ length text
    → IsLongest (drop start text) k n → get_or text (start + (n - 1)) 0 < 128
last_ascii text start n k other inside longest =
    let rest = drop start text in
    let span = form_span text start n k inside longest in
    let len = length-take-le n rest longest.within in
    let last = form_last k (take n rest) (n - 1) other longest.form (omega (arith, span.0)) in
    let at : get_or (take n rest) (n - 1) 0 ≡ get_or text (start + (n - 1)) 0 =
    get_or-take n rest (n - 1) 0 (omega (arith, span.0)) ∙ get_or-drop start text (n - 1) 0 in
    omega arith

-- a token begins and ends where characters do
pub begins_char_at : (text : List ℕ) (start n : ℕ) (k : TokenKind) → start ≤ length text
    → IsLongest (drop start text) k n → IsCharBoundary text start
begins_char_at text start n k inside longest =
    let span = form_span text start n k inside longest in
    IsCharBoundary-before_ascii text start (omega (arith, span.0, span.1)) (first_ascii text start n k inside longest)

-- behind a comment to the end of its line there is LF or the end
line_goes_on : (rest : List ℕ) (n : ℕ) → IsLongest rest LineComment n → n < length rest
    → in_line (get_or rest n 0) ≡ true → ⊥
line_goes_on rest n longest more line =
    let c = get_or rest n 0 in
    let f = longest.form in
    let longer : take (n + 1) rest ≡ 47 ∷ 47 ∷ (f.0 ++ c ∷ []) = take_more rest n 0 more ∙ ap (λ l. l ++ c ∷ []) f.1 in
    let all : list_all in_line (f.0 ++ c ∷ []) ≡ true =
    list_all-append in_line f.0 (c ∷ []) ∙ and_from _ _ f.2 (and_from _ _ line refl) in
    let le = longest.longest LineComment (take (n + 1) rest) (drop (n + 1) rest) (sym (take-append-drop (n + 1) rest))
    (f.0 ++ c ∷ [], longer, all) in
    omega (arith, length-take-le (n + 1) rest (omega arith))

after_line : (text : List ℕ) (start n : ℕ) → start ≤ length text → IsLongest (drop start text) LineComment n
    → IsCharBoundary text (start + n)
after_line text start n inside longest =
    let rest = drop start text in
    let span = form_span text start n LineComment inside longest in
    let at : get_or rest n 0 ≡ get_or text (start + n) 0 = get_or-drop start text n 0 in
    ⊎_elim
    (λ more.
    ⊎_elim
    (λ lf. IsCharBoundary-before_ascii text (start + n) more (omega (arith, eqb-true (get_or rest n 0) 10 lf)))
    (λ other. absurd (line_goes_on rest n longest (omega (arith, length-drop start text)) (ap not other)))
    (cases_Bool (get_or rest n 0 == 10)))
    (λ end. let same : length text ≡ start + n = omega (arith, span.1) in
    subst (IsCharBoundary text) same (IsCharBoundary-end text))
    (cases_lt (start + n) (length text))

after_ascii : (text : List ℕ) (start n : ℕ) (k : TokenKind) → (k ≡ LineComment → ⊥) → IsUtf8 text → start ≤ length text
    → IsLongest (drop start text) k n → IsCharBoundary text (start + n)
after_ascii text start n k other utf8 inside longest =
    let span = form_span text start n k inside longest in
    let end : start + (n - 1) + 1 ≡ start + n = omega (arith, span.0) in
    subst (IsCharBoundary text) end (IsCharBoundary-after_ascii text (start + (n - 1)) utf8
    (omega (arith, span.0, span.1)) (last_ascii text start n k other inside longest))

pub ends_char_at : (text : List ℕ) (start n : ℕ) (k : TokenKind) → IsUtf8 text → start ≤ length text
    → IsLongest (drop start text) k n → IsCharBoundary text (start + n)
ends_char_at text start n LineComment utf8 inside longest = after_line text start n inside longest
ends_char_at text start n k utf8 inside longest = after_ascii text start n k (λ e. cc) utf8 inside longest

pub after_token : (file : ℕ) (text : List ℕ) (t : Token) → IsUtf8 text → IsToken file text t → IsCharBoundary text t.end
after_token file text t utf8 token =
    let span = token_first file text t token in
    let end : t.start + (t.end - t.start) ≡ t.end = omega (arith, span.0) in
    subst (IsCharBoundary text) end (ends_char_at text t.start (t.end - t.start) t.kind utf8 token.inside token.longest)

after_blank : (text : List ℕ) (i j : ℕ) → IsUtf8 text → j ≤ length text → IsCharBoundary text i → IsBlank text i j
    → IsCharBoundary text j
after_blank text i j utf8 within from blank =
    ⊎_elim
    (λ below.
    let end : j - 1 + 1 ≡ j = omega arith in
    let ascii = white_ascii (get_or text (j - 1) 0) (blank.1 (j - 1) (omega arith) (omega arith)) in
    subst (IsCharBoundary text) end (IsCharBoundary-after_ascii text (j - 1) utf8 (omega arith) ascii))
    (λ past. let same : i ≡ j = omega (arith, blank.0) in subst (IsCharBoundary text) same from)
    (cases_lt i j)

boundary : (file : ℕ) (text : List ℕ) (i j : ℕ) (ts : List Token) → IsUtf8 text → j ≤ length text
    → IsCharBoundary text i → Covers file text i j ts → IsCharBoundary text j
boundary file text i j [] utf8 within from covers = after_blank text i j utf8 within from covers
boundary file text i j (t ∷ ts) utf8 within from covers =
    boundary file text t.end j ts utf8 within (after_token file text t utf8 covers.1) covers.2

pub covers_boundary : (file : ℕ) (text : List ℕ) (j : ℕ) (ts : List Token) → IsUtf8 text → j ≤ length text
    → Covers file text 0 j ts → IsCharBoundary text j
covers_boundary file text j ts utf8 within covers =
    boundary file text 0 j ts utf8 within (IsCharBoundary-start text utf8) covers

-- behind the backslash of a bad escape a character begins
pub behind_slash : (text : List ℕ) (at k : ℕ) → IsUtf8 text → IsBadEscapeAt (drop 1 (drop at text)) k
    → IsCharBoundary text (at + 1 + k + 1)
behind_slash text at k utf8 bad =
    let rest = drop at text in
    let byte : get_or (drop 1 rest) k 0 ≡ get_or text (at + (1 + k)) 0 =
    get_or-drop 1 rest k 0 ∙ get_or-drop at text (1 + k) 0 in
    let place : at + (1 + k) ≡ at + 1 + k = omega arith in
    let slash : get_or text (at + 1 + k) 0 ≡ 92 = ap (λ i. get_or text i 0) (sym place) ∙ sym byte ∙ bad.2 in
    IsCharBoundary-after_ascii text (at + 1 + k) utf8 (omega (arith, bad.0, length-drop 1 rest, length-drop at text))
    (omega arith)

pub token_span : (file : ℕ) (text : List ℕ) (t : Token) → IsToken file text t
    → (t.start < t.end) × (t.end ≤ length text)
token_span file text t token = let first = token_first file text t token in (first.0, first.1)

pub before_token : (file : ℕ) (text : List ℕ) (t : Token) → IsToken file text t → IsCharBoundary text t.start
before_token file text t token = begins_char_at text t.start (t.end - t.start) t.kind token.inside token.longest

pub inner_begins : (file : ℕ) (text : List ℕ) (t : Token) → IsUtf8 text → IsToken file text t
    → IsCharBoundary text (t.start + 1)
inner_begins file text t utf8 token =
    let span = token_span file text t token in
    IsCharBoundary-after_ascii text t.start utf8 (omega (arith, span.0, span.1))
    (first_ascii text t.start (t.end - t.start) t.kind token.inside token.longest)

pub inner_ends : (file : ℕ) (text : List ℕ) (t : Token) → (t.kind ≡ LineComment → ⊥) → IsToken file text t
    → IsCharBoundary text (t.end - 1)
inner_ends file text t other token =
    let span = token_span file text t token in
    let last : t.start + (t.end - t.start - 1) ≡ t.end - 1 = omega (arith, span.0) in
    let ascii = last_ascii text t.start (t.end - t.start) t.kind other token.inside token.longest in
    IsCharBoundary-before_ascii text (t.end - 1) (omega (arith, span.0, span.1))
    (omega (arith, ascii, ap (λ i. get_or text i 0) last))

pub inner_is : (file : ℕ) (text : List ℕ) (t : Token) → IsToken file text t
    → slice_range text (t.start + 1) (t.end - 1) ≡ inner_of (word_of text t)
inner_is file text t token =
    let span = token_span file text t token in
    let n = t.end - t.start in
    let d = n - 1 in
    let rest = drop t.start text in
    let len : length (take n rest) ≡ n = length-take-le n rest token.longest.within in
    let cut : n ≡ 1 + d = omega (arith, span.0) in
    let behind : drop 1 (take n rest) ≡ take d (drop 1 rest) =
    ap (λ k. drop 1 (take k rest)) cut ∙ drop-take 1 d rest in
    let inner : inner_of (take n rest) ≡ take (n - 2) (drop 1 rest) =
    ap (λ k. take (k - 2) (drop 1 (take n rest))) len
    ∙ ap (take (n - 2)) behind
    ∙ take-take (n - 2) d (drop 1 rest) (omega arith) in
    let same : t.end - 1 - (t.start + 1) ≡ n - 2 = omega arith in
    let far : drop 1 rest ≡ drop (t.start + 1) text = drop-drop 1 t.start text ∙ ap (λ k. drop k text) (omega arith) in
    ap (λ k. take k (drop (t.start + 1) text)) same ∙ ap (take (n - 2)) (sym far) ∙ sym inner
