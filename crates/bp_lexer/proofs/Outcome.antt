-- A text has a token list or a first fault.
use Rattle.std.proofs.Common.{◌≡◌, ℕ, zero, suc, ◌+◌, ◌-◌, ◌^◌, ◌<◌, ◌≤◌, true, false, List, [], ◌∷◌, ◌++◌, length}
use Rattle.std.proofs.Common.{get_or, take, drop, sym, refl, ap, ◌∙◌, subst, ⊎_elim, inl, inr, arith, length-drop}
use Rattle.std.proofs.Common.{Option, Some, None}
use Rattle.std.specs.Prelude.{◌⊎◌}
use Rattle.std.specs.List.{prefix_len}
use Rattle.std.specs.Int.Signed.{mag}
use Rattle.std.specs.Str.Parse.{signed_digits_value}
use Rattle.std.proofs.lemmas.Bool.{cases_Bool, cases_eq, cases_lt, false≢true}
use Rattle.bp_faults.specs.declared.fault.Fault.{Fault}
use Rattle.bp_lexer.specs.declared.flaw.Flaw.{Flaw}
use Rattle.bp_lexer.specs.declared.flaw.Flaw.TheVariants.{BadChar, OpenString, OpenComment, BadEscape, BadNumber}
use Rattle.bp_lexer.specs.declared.token.Punct.{Punct}
use Rattle.bp_lexer.specs.declared.token.Punct.TheVariants.{PlusEqual}
use Rattle.bp_lexer.specs.declared.token.Token.{Token}
use Rattle.bp_lexer.specs.declared.token.TokenKind.{TokenKind}
use Rattle.bp_lexer.specs.declared.token.TokenKind.TheVariants.{Ident, Int, Quoted, Raw, Punct as Mark, LineComment}
use Rattle.bp_lexer.specs.declared.token.TokenKind.TheVariants.{BlockComment}
use Rattle.bp_lexer.specs.Classes.{is_white, is_letter, is_word, is_digit, in_line, in_raw}
use Rattle.bp_lexer.specs.Faults.{IsInRange, HasFlaw, lex_fault}
use Rattle.bp_lexer.specs.Forms.{IsLongest, IsEnd, IsFirstEnd, punct_text}
use Rattle.bp_lexer.specs.Meaning.{Covers, IsToken, IsTokenList, IsFirstLexFault}
use Rattle.bp_lexer.specs.Places.{place_at}
use Rattle.bp_lexer.specs.Strings.{is_body, is_escape, IsClosedAt}
use Rattle.bp_lexer.specs.Search.{KnowsBadEscape, IsBodyFlaw}
use Rattle.bp_lexer.proofs.Bodies.{plain_more, pair_more, line_ends, slash_ends, slash_last, past_pair, past_plain}
use Rattle.bp_lexer.proofs.Bodies.{so_far_plain, line_ok}
use Rattle.bp_lexer.proofs.Boundary.{form_span}
use Rattle.bp_lexer.proofs.Comments.{inside, line_longest, block_longest, block_open, block_begins, slash_alone}
use Rattle.bp_lexer.proofs.Comments.{not_open}
use Rattle.bp_lexer.proofs.Cover.{covers_white, covers_token, blank_none}
use Rattle.bp_lexer.proofs.Idents.{ident_longest}
use Rattle.bp_lexer.proofs.Ints.{int_longest, minus_alone}
use Rattle.bp_lexer.proofs.Marks.{BeginsNone, mark_alone, mark_longest, plus_equals_longest, none_begins, none_opens}
use Rattle.bp_lexer.proofs.Quotes.{quoted_longest, body_flaw, raw_longest, raw_open}
use Rattle.bp_lexer.proofs.TokenKinds.{kind_of}

-- what the front of a text is
abbrev Front : List ℕ → Type 0
Front text = ((k : TokenKind) × (n : ℕ) × IsLongest text k n) ⊎ ((flaw : Flaw) × HasFlaw text flaw)

int_front : (text : List ℕ) → 0 < length text → (get_or text 0 0 ≡ 45) ⊎ (is_digit (get_or text 0 0) ≡ true)
    → Front text
int_front text some first =
    let n = prefix_len is_digit (drop 1 text) in
    ⊎_elim
    (λ more. inl (Int, 1 + n, int_longest text n some first refl (λ minus. more)))
    (λ none. ⊎_elim
    (λ minus. inr (
      BadChar,
      (minus_alone text minus (omega arith), not_open text (λ e. omega arith) (λ e. omega arith) (λ e f. omega arith)),
    ))
    (λ digit. inl
    (Int, 1 + n, int_longest text n some first refl (λ minus. absurd (false≢true (sym (ap is_digit minus) ∙ digit)))))
    first)
    (cases_lt 0 n)

-- what the body of a string is
abbrev Body : List ℕ → Type 0
Body rest = ((n : ℕ) × IsClosedAt is_escape rest n) ⊎ ((flaw : Flaw) × IsBodyFlaw rest flaw)

at_quote : (rest : List ℕ) (n : ℕ) (bad : Option ℕ) → n < length rest → is_body in_line false (take n rest) ≡ true
    → get_or rest n 0 ≡ 34 → KnowsBadEscape rest n bad → Body rest
at_quote rest n None within rough quote knows = inl (n, (within, knows, quote))
at_quote rest n (Some k) within rough quote knows = inr (BadEscape k, ((n, (within, rough, quote)), knows))

next_bad : (rest : List ℕ) (n : ℕ) (bad : Option ℕ) → n + 1 < length rest → get_or rest n 0 ≡ 92
    → KnowsBadEscape rest n bad → (next : Option ℕ) × KnowsBadEscape rest (n + 2) next
next_bad rest n (Some k) within slash knows = (Some k, knows)
next_bad rest n None within slash knows =
    ⊎_elim
    (λ good. (None, pair_more is_escape rest n within knows slash good))
    (λ wrong. (Some n, (within, knows, slash, wrong)))
    (cases_Bool (is_escape (get_or rest (n + 1) 0)))

body_from : (fuel : ℕ) (rest : List ℕ) (n : ℕ) (bad : Option ℕ) → length rest ≤ n + fuel
    → is_body in_line false (take n rest) ≡ true → ((m : ℕ) → IsClosedAt in_line rest m → n ≤ m)
    → KnowsBadEscape rest n bad → Body rest
body_from zero rest n bad fits rough least knows =
    inr (OpenString, λ m closed. absurd (omega (arith, least m closed, closed.0)))
body_from (suc fuel) rest n bad fits rough least knows =
    ⊎_elim
    (λ within. ⊎_elim
    (λ quote. at_quote rest n bad within rough quote knows)
    (λ no_quote. ⊎_elim
    (λ line. inr (OpenString, line_ends rest n within rough least line))
    (λ no_line. ⊎_elim
    (λ slash. ⊎_elim
    (λ two. ⊎_elim
    (λ line. inr (OpenString, slash_ends rest n two rough least slash line))
    (λ good. let next = next_bad rest n bad two slash knows in
    body_from fuel rest (n + 2) next.0 (omega arith) (pair_more in_line rest n two rough slash (line_ok _ good))
    (past_pair rest n two rough least slash) next.1)
    (cases_eq (get_or rest (n + 1) 0) 10))
    (λ last. inr (OpenString, slash_last rest n (omega arith) least slash))
    (cases_lt (n + 1) (length rest)))
    (λ no_slash. body_from fuel rest (n + 1) bad (omega arith) (plain_more in_line rest n within rough no_quote no_line
    no_slash) (past_plain rest n least no_quote) (so_far_plain rest n bad within no_quote no_line no_slash knows))
    (cases_eq (get_or rest n 0) 92))
    (cases_eq (get_or rest n 0) 10))
    (cases_eq (get_or rest n 0) 34))
    (λ past. inr (OpenString, λ m closed. absurd (omega (arith, least m closed, closed.0))))
    (cases_lt n (length rest))

string_front : (text : List ℕ) → 0 < length text → get_or text 0 0 ≡ 34 → Front text
string_front text some quote =
    ⊎_elim
    (λ closed. inl (Quoted, closed.0 + 2, quoted_longest text closed.0 some quote closed.1))
    (λ wrong. inr (wrong.0, body_flaw text wrong.0 some quote wrong.1))
    (body_from (length text) (drop 1 text) 0 None (omega (arith, length-drop 1 text)) refl
    (λ m closed. omega arith) refl)

raw_front : (text : List ℕ) → 0 < length text → get_or text 0 0 ≡ 96 → Front text
raw_front text some backquote =
    let n = prefix_len in_raw (drop 1 text) in
    ⊎_elim
    (λ closed. inl (Raw, n + 2, raw_longest text n backquote refl closed))
    (λ past. inr (OpenString, (raw_open text some backquote past, inr backquote)))
    (cases_lt (1 + n) (length text))

first_end : (fuel : ℕ) (rest : List ℕ) (n : ℕ) → length rest ≤ n + fuel → ((m : ℕ) → m < n → IsEnd rest m → ⊥)
    → ((k : ℕ) × IsFirstEnd rest k) ⊎ ((m : ℕ) → IsEnd rest m → ⊥)
first_end zero rest n fits before = inr (λ m end. before m (omega (arith, inside rest (m + 1) 46 end.1)) end)
first_end (suc fuel) rest n fits before =
    let again = λ (no : IsEnd rest n → ⊥). first_end fuel rest (n + 1) (omega arith) (λ m below end. ⊎_elim (λ early.
    before m early end) (λ late. let same : m ≡ n = omega arith in no (subst (IsEnd rest) same end)) (cases_lt m n)) in
    ⊎_elim
    (λ star. ⊎_elim (λ slash. inl (n, ((star, slash), before))) (λ other. again (λ end. other end.1))
    (cases_eq (get_or rest (n + 1) 0) 47))
    (λ other. again (λ end. other end.0))
    (cases_eq (get_or rest n 0) 42)

block_front : (text : List ℕ) → get_or text 0 0 ≡ 47 → get_or text 1 0 ≡ 42 → Front text
block_front text slash star =
    ⊎_elim
    (λ end. inl (BlockComment, end.0 + 4, block_longest text end.0 slash star end.1))
    (λ none. inr (OpenComment, (block_open text slash star none, block_begins text slash star)))
    (first_end (length text) (drop 2 text) 0 (omega (arith, length-drop 2 text)) (λ m below end. omega arith))

comment_front : (text : List ℕ) → 0 < length text → get_or text 0 0 ≡ 47 → Front text
comment_front text some slash =
    let n = prefix_len in_line (drop 2 text) in
    ⊎_elim
    (λ line. inl (LineComment, 2 + n, line_longest text n slash line refl))
    (λ no_line. ⊎_elim
    (λ star. block_front text slash star)
    (λ no_star. inr (
      BadChar,
      (
        slash_alone text some slash no_line no_star,
        not_open text (λ e. omega arith) (λ e. omega arith) (λ e star. no_star star),
      ),
    ))
    (cases_eq (get_or text 1 0) 42))
    (cases_eq (get_or text 1 0) 47)

-- whether a mark of one byte begins so
abbrev HasMark : ℕ → Type 0
HasMark b = ((p : Punct) × (punct_text p ≡ b ∷ [])) ⊎ ((p : Punct) → punct_text p ≡ b ∷ [] → ⊥)

one_byte : (bytes : List ℕ) (b : ℕ) → length bytes ≡ 1 → get_or bytes 0 0 ≡ b → bytes ≡ b ∷ []
one_byte [] b one first = absurd (omega arith)
one_byte (x ∷ []) b one first = ap (λ y. y ∷ []) first
one_byte (x ∷ y ∷ more) b one first = absurd (omega arith)

mark_from : (b : ℕ) (k : TokenKind) → k ≡ kind_of (b ∷ []) → HasMark b
mark_from b (Mark p) kind =
    let only = λ (q : Punct) (is : punct_text q ≡ b ∷ []). let same : Mark p ≡ Mark q = kind
    ∙ mark_alone q [] b is (λ plus equals. omega arith) in let e : p ≡ q = cc in
    subst (λ r. punct_text r ≡ b ∷ []) (sym e) is in
    ⊎_elim
    (λ one. ⊎_elim
    (λ first. inl (p, one_byte (punct_text p) b one first))
    (λ other. inr (λ q is. other (ap (λ l. get_or l 0 0) (only q is))))
    (cases_eq (get_or (punct_text p) 0 0) b))
    (λ more. inr (λ q is. more (ap length (only q is))))
    (cases_eq (length (punct_text p)) 1)
mark_from b k kind =
    inr (λ q is. let same : k ≡ Mark q = kind ∙ mark_alone q [] b is (λ plus equals. omega arith) in cc)

mark_front : (text : List ℕ) → 0 < length text → ((p : Punct) × (punct_text p ≡ get_or text 0 0 ∷ [])) → Front text
mark_front text some mark =
    ⊎_elim
    (λ plus. ⊎_elim
    (λ equals. inl (Mark PlusEqual, 2, plus_equals_longest text plus equals))
    (λ other. inl (Mark mark.0, 1, mark_longest text mark.0 some mark.1 (λ e. other)))
    (cases_eq (get_or text 1 0) 61))
    (λ other. inl (Mark mark.0, 1, mark_longest text mark.0 some mark.1 (λ e f. other e)))
    (cases_eq (get_or text 0 0) 43)

front : (text : List ℕ) → 0 < length text → Front text
front text some =
    let b = get_or text 0 0 in
    ⊎_elim (λ letter. inl (Ident, 1 + prefix_len is_word (drop 1 text), ident_longest text _ some letter refl))
    (λ letter.
    ⊎_elim (λ digit. int_front text some (inr digit)) (λ digit.
    ⊎_elim (λ minus. int_front text some (inl minus)) (λ minus.
    ⊎_elim (λ quote. string_front text some quote) (λ quote.
    ⊎_elim (λ backquote. raw_front text some backquote) (λ backquote.
    ⊎_elim (λ slash. comment_front text some slash) (λ slash.
    ⊎_elim (λ mark. mark_front text some mark) (λ mark.
    let none : BeginsNone b = record {
      letter = letter;
      digit = digit;
      minus = minus;
      quote = quote;
      backquote = backquote;
      slash = slash;
      mark = mark;
    } in
    inr (BadChar, (none_begins text some none, none_opens text none)))
    (mark_from b (kind_of (b ∷ [])) refl)) (cases_eq b 47)) (cases_eq b 96)) (cases_eq b 34)) (cases_eq b 45))
    (cases_Bool (is_digit b))) (cases_Bool (is_letter b))

-- whether a number is in range
in_range : (k : TokenKind) (word : List ℕ) → (k ≡ Int → IsInRange word) ⊎ ((k ≡ Int) × (IsInRange word → ⊥))
in_range Int word =
    ⊎_elim
    (λ fits. inl (λ e. record { sfits = fits }))
    (λ past. inr (refl, λ fits. omega (arith, fits.sfits)))
    (cases_lt (mag (signed_digits_value 10 word)) (2 ^ 63))
in_range k word = inl (λ e. absurd (cc))

-- what the text is
abbrev Outcome : ℕ → List ℕ → Type 0
Outcome file text = ((ts : List Token) × IsTokenList file text ts) ⊎ ((fault : Fault) × IsFirstLexFault file text fault)

at_end : (file : ℕ) (text : List ℕ) (at : ℕ) (before : List Token) → at ≤ length text → length text ≤ at
    → Covers file text 0 at before → Outcome file text
at_end file text at before within past covered =
    let end : at ≡ length text = omega arith in
    inl (before, subst (λ i. Covers file text 0 i before) end covered)

at_flaw : (file : ℕ) (text : List ℕ) (at : ℕ) (before : List Token) (flaw : Flaw) → at < length text
    → is_white (get_or text at 0) ≡ false → Covers file text 0 at before → HasFlaw (drop at text) flaw
    → Outcome file text
at_flaw file text at before flaw within other covered wrong = inr (
  lex_fault file text at flaw,
  record {
    at = at;
    before = before;
    covered = covered;
    inside = within;
    not_white = other;
    wrong = (flaw, wrong, refl);
  },
)

outcome_from : (fuel : ℕ) (file : ℕ) (text : List ℕ) (at : ℕ) (before : List Token) → length text ≤ at + fuel
    → at ≤ length text → Covers file text 0 at before → Outcome file text
outcome_from zero file text at before fits within covered = at_end file text at before within (omega arith) covered
outcome_from (suc fuel) file text at before fits within covered =
    ⊎_elim
    (λ below. ⊎_elim
    (λ white. outcome_from fuel file text (at + 1) before (omega arith) (omega arith)
    (covers_white file text 0 at before covered white))
    (λ other. ⊎_elim
    (λ found. ⊎_elim
    (λ number.
    let n = found.1 in
    let span = form_span text at n found.0 within found.2 in
    let same : at + n - at ≡ n = omega arith in
    let t : Token = record { kind = found.0; start = at; end = at + n; place = place_at file text at } in
    let token : IsToken file text t =
    record { inside = within; longest = rw same found.2; number = λ int. rw same (number int); place = refl } in
    outcome_from fuel file text (at + n) (before ++ t ∷ []) (omega (arith, span.0)) span.1
    (covers_token file text 0 before t covered token))
    (λ wide. at_flaw file text at before (BadNumber found.1) below other covered
    (subst (λ k. IsLongest (drop at text) k found.1) wide.0 found.2, wide.1))
    (in_range found.0 (take found.1 (drop at text))))
    (λ wrong. at_flaw file text at before wrong.0 below other covered wrong.1)
    (front (drop at text) (omega (arith, length-drop at text))))
    (cases_Bool (is_white (get_or text at 0))))
    (λ past. at_end file text at before within past covered)
    (cases_lt at (length text))

pub outcome : (file : ℕ) (text : List ℕ) → Outcome file text
outcome file text = outcome_from (length text) file text 0 [] (omega arith) (omega arith) (blank_none text 0)
