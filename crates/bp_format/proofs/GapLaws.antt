-- What the rules give: a gap never lets two tokens run together, and its own line end leads to it again.
use Rattle.std.proofs.Common.{◌≡◌, ℕ, Bool, true, false, List, get_or, sym, refl, ap, ◌∙◌, ⊎_elim}
use Rattle.std.specs.Prelude.{⊤, not, ◌&&◌, ◌||◌}
use Rattle.std.proofs.lemmas.Bool.{cond_both, cond-true, cond-false, or_cases, or_parts, or_right, or_from, and_parts}
use Rattle.std.proofs.lemmas.Bool.{and_cases, and_from, and_left, and_right, false≢true, cases_Bool}
use Rattle.bp_lexer.specs.declared.token.Punct.TheVariants.{OpenBrace, CloseBrace, OpenBracket, CloseBracket, OpenParen}
use Rattle.bp_lexer.specs.declared.token.Punct.TheVariants.{CloseParen, Colon, Comma, Plus}
use Rattle.bp_lexer.specs.declared.token.TokenKind.{TokenKind}
use Rattle.bp_lexer.specs.declared.token.TokenKind.TheVariants.{Ident, Int, Punct as Mark, LineComment}
use Rattle.bp_lexer.specs.Forms.{IsForm}
use Rattle.bp_parser.specs.Words.{is_comment}
use Rattle.bp_format.specs.declared.gap.Gap.{Gap}
use Rattle.bp_format.specs.declared.gap.Gap.TheVariants.{Nothing, Space, EmptyLine}
use Rattle.bp_format.specs.declared.gap.Seam.{Seam}
use Rattle.bp_format.specs.Kinds.{is_line_comment, is_ident, opens_list, closes_list, opens_map, closes_map, opens_call}
use Rattle.bp_format.specs.Kinds.{closes_call, is_comma, is_colon}
use Rattle.bp_format.specs.Gaps.{gap, gap_text, new_line, touches, is_lone_item, is_empty_pair, breaks, word_gap}
use Rattle.bp_format.specs.Gaps.{some_is}
use Rattle.bp_format.specs.Pieces.{has_line_end}
use Rattle.bp_lexer.specs.Apart.{goes_on}

-- the byte that a token of the kind begins with, where the kind tells it
begins : TokenKind → ℕ
begins (Mark CloseBrace) = 125
begins (Mark CloseBracket) = 93
begins (Mark OpenParen) = 40
begins (Mark CloseParen) = 41
begins (Mark Colon) = 58
begins (Mark Comma) = 44
begins _ = 0

-- The gap keeps the left one from what stands behind, whose first byte is c.
abbrev pub Parts : TokenKind → ℕ → Gap → Type 0
Parts left c Nothing = goes_on left c ≡ false
Parts left c Space = goes_on left 32 ≡ false
Parts left c gap = ⊤

-- no token but a line's comment goes on with white space or with what closes
space_stops : (k : TokenKind) → is_line_comment k ≡ false → goes_on k 32 ≡ false
space_stops Ident other = refl
space_stops Int other = refl
space_stops (Mark Plus) other = refl
space_stops LineComment other = absurd cc
space_stops _ other = refl

-- a first byte that goes on with no token but a line's comment
abbrev Stops : ℕ → Type 0
Stops c = (k : TokenKind) → is_line_comment k ≡ false → goes_on k c ≡ false

bracket_stops : Stops 93
bracket_stops Ident other = refl
bracket_stops Int other = refl
bracket_stops (Mark Plus) other = refl
bracket_stops LineComment other = absurd cc
bracket_stops _ other = refl

brace_stops : Stops 125
brace_stops Ident other = refl
brace_stops Int other = refl
brace_stops (Mark Plus) other = refl
brace_stops LineComment other = absurd cc
brace_stops _ other = refl

paren_stops : Stops 41
paren_stops Ident other = refl
paren_stops Int other = refl
paren_stops (Mark Plus) other = refl
paren_stops LineComment other = absurd cc
paren_stops _ other = refl

comma_stops : Stops 44
comma_stops Ident other = refl
comma_stops Int other = refl
comma_stops (Mark Plus) other = refl
comma_stops LineComment other = absurd cc
comma_stops _ other = refl

colon_stops : Stops 58
colon_stops Ident other = refl
colon_stops Int other = refl
colon_stops (Mark Plus) other = refl
colon_stops LineComment other = absurd cc
colon_stops _ other = refl

-- nothing goes on with what opens
opens_list_stops : (k : TokenKind) (c : ℕ) → opens_list k ≡ true → goes_on k c ≡ false
opens_list_stops (Mark OpenBracket) c is = refl
opens_list_stops _ c is = absurd cc

opens_map_stops : (k : TokenKind) (c : ℕ) → opens_map k ≡ true → goes_on k c ≡ false
opens_map_stops (Mark OpenBrace) c is = refl
opens_map_stops _ c is = absurd cc

opens_call_stops : (k : TokenKind) (c : ℕ) → opens_call k ≡ true → goes_on k c ≡ false
opens_call_stops (Mark OpenParen) c is = refl
opens_call_stops _ c is = absurd cc

ident_stops : (k : TokenKind) → is_ident k ≡ true → goes_on k 40 ≡ false
ident_stops Ident is = refl
ident_stops _ is = absurd cc

-- what a closing token, a comma, a colon and a parenthesis are written with
first_byte : (k : TokenKind) (word : List ℕ) → IsForm k word → ((closes_list k ≡ true → get_or word 0 0 ≡ 93)
    × (closes_call k ≡ true → get_or word 0 0 ≡ 41) × (is_comma k ≡ true → get_or word 0 0 ≡ 44)
    × (is_colon k ≡ true → get_or word 0 0 ≡ 58) × (opens_call k ≡ true → get_or word 0 0 ≡ 40))
first_byte (Mark CloseBracket) word form =
    ((λ e. rw form refl), (λ e. absurd cc), (λ e. absurd cc), (λ e. absurd cc), (λ e. absurd cc))
first_byte (Mark CloseParen) word form =
    ((λ e. absurd cc), (λ e. rw form refl), (λ e. absurd cc), (λ e. absurd cc), (λ e. absurd cc))
first_byte (Mark Comma) word form =
    ((λ e. absurd cc), (λ e. absurd cc), (λ e. rw form refl), (λ e. absurd cc), (λ e. absurd cc))
first_byte (Mark Colon) word form =
    ((λ e. absurd cc), (λ e. absurd cc), (λ e. absurd cc), (λ e. rw form refl), (λ e. absurd cc))
first_byte (Mark OpenParen) word form =
    ((λ e. absurd cc), (λ e. absurd cc), (λ e. absurd cc), (λ e. absurd cc), (λ e. rw form refl))
first_byte _ word form = ((λ e. absurd cc), (λ e. absurd cc), (λ e. absurd cc), (λ e. absurd cc), (λ e. absurd cc))

either : {C : Type 0} (a b : Bool) → (a || b) ≡ true → (a ≡ true → C) → (b ≡ true → C) → C
either a b is left right = ⊎_elim left right (or_cases a b is)

stops_by : (k : TokenKind) (c d : ℕ) → c ≡ d → goes_on k d ≡ false → goes_on k c ≡ false
stops_by k c d same stops = ap (goes_on k) same ∙ stops

-- where nothing stands between, nothing goes on
nothing_parts : (s : Seam) (word : List ℕ) → is_line_comment s.left ≡ false → IsForm s.right word
    → (touches s || is_lone_item s) ≡ true → goes_on s.left (get_or word 0 0) ≡ false
nothing_parts s word other form is =
    let b = first_byte s.right word form in
    let c = get_or word 0 0 in
    either (touches s) (is_lone_item s) is
    (λ touch. either _ (is_ident s.left && opens_call s.right) touch
    (λ r5. either _ (is_colon s.right) r5
    (λ r4. either _ (is_comma s.right) r4
    (λ r3. either _ (closes_call s.right) r3
    (λ r2. either (is_empty_pair s.left s.right) (opens_call s.left) r2
    (λ pair. either (opens_list s.left && closes_list s.right) (opens_map s.left && closes_map s.right) pair
    (λ e. opens_list_stops s.left c (and_parts _ _ e).0) (λ e. opens_map_stops s.left c (and_parts _ _ e).0))
    (opens_call_stops s.left c))
    (λ e. stops_by s.left c 41 (b.1 e) (paren_stops s.left other)))
    (λ e. stops_by s.left c 44 (b.2 e) (comma_stops s.left other)))
    (λ e. stops_by s.left c 58 (b.3 e) (colon_stops s.left other)))
    (λ e. let p = and_parts (is_ident s.left) (opens_call s.right) e in
    stops_by s.left c 40 (b.4 p.1) (ident_stops s.left p.0)))
    (λ lone.
    either (opens_list s.left && some_is closes_list s.after) (closes_list s.right && some_is opens_list s.before) lone
    (λ e. opens_list_stops s.left c (and_parts _ _ e).0)
    (λ e. stops_by s.left c 93 (b.0 (and_parts _ _ e).0) (bracket_stops s.left other)))

word_parts : (s : Seam) (word : List ℕ) → is_line_comment s.left ≡ false → IsForm s.right word
    → Parts s.left (get_or word 0 0) (gap s)
word_parts s word other form =
    let P = Parts s.left (get_or word 0 0) in
    let space = space_stops s.left other in
    cond_both (is_comment s.right && not s.broken) _ _ P (λ _. space) (λ _.
    cond_both s.ends _ _ P (λ _. tt) (λ _.
    cond_both (is_comment s.left) _ _ P
    (λ _. cond_both (is_line_comment s.left || s.broken) _ _ P (λ _. tt) (λ _. space)) (λ _.
    cond_both (is_comment s.right) _ _ P (λ _. tt) (λ _.
    cond_both (touches s || is_lone_item s) _ _ P (λ yes. nothing_parts s word other form yes) (λ _.
    cond_both (breaks s) _ _ P (λ _. tt) (λ _. space))))))

-- behind a line's comment a line begins
line_parts : (s : Seam) (c : ℕ) → is_line_comment s.left ≡ true → s.broken ≡ true → is_comment s.left ≡ true
    → Parts s.left c (gap s)
line_parts s c line lf comment =
    let P = Parts s.left c in
    cond_both (is_comment s.right && not s.broken) _ _ P
    (λ e. absurd (false≢true (sym (ap not lf) ∙ (and_parts _ _ e).1))) (λ _.
    cond_both s.ends _ _ P (λ _. tt) (λ _.
    cond_both (is_comment s.left) _ _ P
    (λ _. cond_both (is_line_comment s.left || s.broken) _ _ P (λ _. tt)
    (λ e. absurd (false≢true (sym (or_parts _ _ e).0 ∙ line))))
    (λ e. absurd (false≢true (sym e ∙ comment)))))

line_is_comment : (k : TokenKind) → is_line_comment k ≡ true → is_comment k ≡ true
line_is_comment LineComment is = refl
line_is_comment _ is = absurd cc

pub parts : (s : Seam) (word : List ℕ) → (is_line_comment s.left ≡ true → s.broken ≡ true) → IsForm s.right word
    → Parts s.left (get_or word 0 0) (gap s)
parts s word line form =
    ⊎_elim
    (λ yes. line_parts s (get_or word 0 0) yes (line yes) (line_is_comment s.left yes))
    (λ other. word_parts s word other form)
    (cases_Bool (is_line_comment s.left))

-- no token goes on behind the end of a line
pub line_end_stops : (k : TokenKind) → goes_on k 10 ≡ false
line_end_stops Ident = refl
line_end_stops Int = refl
line_end_stops (Mark Plus) = refl
line_end_stops LineComment = refl
line_end_stops _ = refl

-- the seam with the gap's own line end
abbrev pub with_gap : Seam → Gap → Seam
with_gap s g = record s { broken = has_line_end (gap_text g) }

-- no rule but the first and that behind a comment asks for line ends
at_words : (s : Seam) (b : Bool) → is_comment s.right ≡ false → s.ends ≡ false → is_comment s.left ≡ false
    → gap (record s { broken = b }) ≡ word_gap s
at_words s b right ends left =
    cond-false (is_comment s.right && not b) _ _ (and_left _ _ right)
    ∙ cond-false s.ends _ _ ends
    ∙ cond-false (is_comment s.left) _ _ left
    ∙ cond-false (is_comment s.right) _ _ right

with_line : (s : Seam) → s.ends ≡ false → is_comment s.left ≡ false → is_comment s.right ≡ true
    → gap (record s { broken = true }) ≡ new_line s
with_line s ends left right =
    cond-false (is_comment s.right && not true) _ _ (and_right _ _ refl)
    ∙ cond-false s.ends _ _ ends
    ∙ cond-false (is_comment s.left) _ _ left
    ∙ cond-true (is_comment s.right) _ _ right

behind_line : (s : Seam) → s.ends ≡ false → is_comment s.left ≡ true → gap (record s { broken = true }) ≡ new_line s
behind_line s ends left =
    cond-false (is_comment s.right && not true) _ _ (and_right _ _ refl)
    ∙ cond-false s.ends _ _ ends
    ∙ cond-true (is_comment s.left) _ _ left
    ∙ cond-true (is_line_comment s.left || true) _ _ (or_right _ _ refl)

behind_space : (s : Seam) → s.ends ≡ false → is_comment s.left ≡ true → is_comment s.right ≡ false
    → is_line_comment s.left ≡ false → gap (record s { broken = false }) ≡ Space
behind_space s ends left right line =
    cond-false (is_comment s.right && not false) _ _ (and_left _ _ right)
    ∙ cond-false s.ends _ _ ends
    ∙ cond-true (is_comment s.left) _ _ left
    ∙ cond-false (is_line_comment s.left || false) _ _ (or_from _ _ line refl)

with_space : (s : Seam) → is_comment s.right ≡ true → gap (record s { broken = false }) ≡ Space
with_space s right = cond-true (is_comment s.right && not false) _ _ (and_from _ _ right refl)

at_end : (s : Seam) → s.ends ≡ true → gap (record s { broken = true }) ≡ EmptyLine
at_end s ends = cond-false (is_comment s.right && not true) _ _ (and_right _ _ refl) ∙ cond-true s.ends _ _ ends

no_comment : (s : Seam) → (is_comment s.right && not s.broken) ≡ false → s.broken ≡ false → is_comment s.right ≡ false
no_comment s first lf =
    ⊎_elim (λ e. e) (λ e. absurd (false≢true (sym e ∙ ap not lf))) (and_cases (is_comment s.right) (not s.broken) first)

-- A gap, read again with its own line end, is the same gap.
pub gap_again : (s : Seam) → gap (with_gap s (gap s)) ≡ gap s
gap_again s =
    let P = λ (g : Gap). gap (with_gap s g) ≡ g in
    cond_both (is_comment s.right && not s.broken) _ _ P (λ e. with_space s (and_parts _ _ e).0) (λ first.
    cond_both s.ends _ _ P (λ e. at_end s e) (λ ends.
    cond_both (is_comment s.left) _ _ P
    (λ left. cond_both (is_line_comment s.left || s.broken) _ _ P
    (λ _. behind_line s ends left)
    (λ e. let p = or_parts (is_line_comment s.left) s.broken e in
    behind_space s ends left (no_comment s first p.1) p.0))
    (λ left.
    cond_both (is_comment s.right) _ _ P (λ right. with_line s ends left right)
    (λ right. at_words s _ right ends left))))
