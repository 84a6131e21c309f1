-- A text has one meaning: one token list, or one first fault.
use Rattle.std.proofs.Common.{◌≡◌, ℕ, ◌-◌, ◌<◌, ◌≤◌, false, List, [], ◌∷◌, length, get_or, take, drop, sym, refl, ap}
use Rattle.std.proofs.Common.{◌∙◌, subst, ⊎_elim, inl, inr, arith, length-drop, length-take-le, take-append-drop}
use Rattle.std.proofs.Common.{get_or-drop, get_or-take, add-zero, Result, Ok, Err}
use Rattle.std.proofs.lemmas.Bool.{cases_order, false≢true}
use Rattle.bp_faults.specs.declared.fault.Fault.{Fault}
use Rattle.bp_lexer.specs.declared.flaw.Flaw.{Flaw}
use Rattle.bp_lexer.specs.declared.flaw.Flaw.TheVariants.{BadChar, OpenString, OpenComment, BadEscape, BadNumber}
use Rattle.bp_lexer.specs.declared.token.Token.{Token}
use Rattle.bp_lexer.specs.declared.token.TokenKind.{TokenKind}
use Rattle.bp_lexer.specs.declared.token.TokenKind.TheVariants.{Int}
use Rattle.bp_lexer.specs.Classes.{is_white}
use Rattle.bp_lexer.specs.Faults.{HasFlaw, IsInRange, lex_fault}
use Rattle.bp_lexer.specs.Forms.{IsForm, IsLongest, HasNoForm}
use Rattle.bp_lexer.specs.Meaning.{IsBlank, IsToken, Covers, IsTokenList, IsFaultAt, IsFirstLexFault, LexMeans, word_of}
use Rattle.bp_lexer.specs.Places.{place_at}
use Rattle.bp_lexer.proofs.Bodies.{bad_once}
use Rattle.bp_lexer.proofs.Comments.{slash_first}
use Rattle.bp_lexer.proofs.TokenKinds.{form_first, form_kind, kind_of}

-- the longest form is one
one_longest : (rest : List ℕ) (j k : TokenKind) (m n : ℕ) → IsLongest rest j m → IsLongest rest k n → (j ≡ k) × (m ≡ n)
one_longest rest j k m n a b =
    let le = a.longest k (take n rest) (drop n rest) (sym (take-append-drop n rest)) b.form in
    let ge = b.longest j (take m rest) (drop m rest) (sym (take-append-drop m rest)) a.form in
    let same : m ≡ n = omega (arith, length-take-le n rest b.within, length-take-le m rest a.within) in (
      form_kind j (take m rest) a.form ∙ ap (λ i. kind_of (take i rest)) same ∙ sym (form_kind k (take n rest) b.form),
      same,
    )

-- the token has a byte, and its first one is no white space
pub token_first : (file : ℕ) (text : List ℕ) (t : Token) → IsToken file text t
    → (t.start < t.end) × (t.end ≤ length text) × (is_white (get_or text t.start 0) ≡ false)
token_first file text t token =
    let rest = drop t.start text in
    let n = t.end - t.start in
    let first = form_first t.kind (take n rest) token.longest.form in
    let len = length-take-le n rest token.longest.within in
    let some : 0 < n = omega arith in (
      omega arith,
      omega (arith, token.longest.within, length-drop t.start text, token.inside),
      ap is_white (ap (λ i. get_or text i 0) (sym (add-zero t.start)) ∙ sym (get_or-drop t.start text 0 0)
          ∙ sym (get_or-take n rest 0 0 some))
          ∙ first.1,
    )

same_token : (t u : Token) → t.kind ≡ u.kind → t.start ≡ u.start → t.end ≡ u.end → t.place ≡ u.place → t ≡ u
same_token t u kind start end place = λ i. record { kind = kind i; start = start i; end = end i; place = place i }

-- two tokens, each the first behind i, are one
same_first : (file : ℕ) (text : List ℕ) (i : ℕ) (t u : Token) → IsBlank text i t.start → IsToken file text t
    → IsBlank text i u.start → IsToken file text u → t ≡ u
same_first file text i t u blank_t token_t blank_u token_u =
    let first_t = token_first file text t token_t in
    let first_u = token_first file text u token_u in
    let starts : t.start ≡ u.start =
    ⊎_elim (λ same. same) (λ apart. ⊎_elim
    (λ before. absurd (false≢true (sym first_t.2 ∙ blank_u.1 t.start (omega arith) before)))
    (λ behind. absurd (false≢true (sym first_u.2 ∙ blank_t.1 u.start (omega arith) behind)))
    apart) (cases_order t.start u.start) in
    let spans = one_longest (drop t.start text) t.kind u.kind (t.end - t.start) (u.end - u.start) token_t.longest
    (rw starts token_u.longest) in
    same_token t u spans.0 starts (omega (arith, spans.1))
    (token_t.place ∙ ap (place_at file text) starts ∙ sym token_u.place)

covers_le : (file : ℕ) (text : List ℕ) (i n : ℕ) (ts : List Token) → Covers file text i n ts → i ≤ n
covers_le file text i n [] covers = covers.0
covers_le file text i n (t ∷ ts) covers =
    let first = token_first file text t covers.1 in
    omega (arith, covers_le file text t.end n ts covers.2, covers.0.0)

-- where there is only white space, no token stands
blank_or_token : (file : ℕ) (text : List ℕ) (i n : ℕ) (t : Token) (ts : List Token) → IsBlank text i n
    → Covers file text i n (t ∷ ts) → ⊥
blank_or_token file text i n t ts blank covers =
    let first = token_first file text t covers.1 in
    false≢true (sym first.2 ∙ blank.1 t.start covers.0.0 (omega (arith, covers_le file text t.end n ts covers.2)))

pub one_list : (file : ℕ) (text : List ℕ) (i n : ℕ) (ts us : List Token) → Covers file text i n ts
    → Covers file text i n us → ts ≡ us
one_list file text i n [] [] a b = refl
one_list file text i n [] (u ∷ us) a b = absurd (blank_or_token file text i n u us a b)
one_list file text i n (t ∷ ts) [] a b = absurd (blank_or_token file text i n t ts b a)
one_list file text i n (t ∷ ts) (u ∷ us) a b =
    let same : t ≡ u = same_first file text i t u a.0 a.1 b.0 b.1 in
    let rest =
    one_list file text t.end n ts us a.2 (subst (λ (v : Token). Covers file text v.end n us) (sym same) b.2) in
    λ k. same k ∷ rest k

-- at this place begins no token that a token list could have
abbrev NoToken : ℕ → List ℕ → ℕ → Type 0
NoToken file text at = (t : Token) → t.start ≡ at → IsToken file text t → ⊥

-- no form, no token
no_form_no_token : (file : ℕ) (text : List ℕ) (at : ℕ) → HasNoForm (drop at text) → NoToken file text at
no_form_no_token file text at none t same token =
    let form : IsForm t.kind (take (t.end - t.start) (drop at text)) =
    subst (λ p. IsForm t.kind (take (t.end - t.start) (drop p text))) same token.longest.form in
    none t.kind (take (t.end - t.start) (drop at text)) (drop (t.end - t.start) (drop at text))
    (sym (take-append-drop _ _)) form

flaw_no_token : (file : ℕ) (text : List ℕ) (at : ℕ) (flaw : Flaw) → HasFlaw (drop at text) flaw → NoToken file text at
flaw_no_token file text at BadChar wrong = no_form_no_token file text at wrong.0
flaw_no_token file text at OpenString wrong = no_form_no_token file text at wrong.0
flaw_no_token file text at OpenComment wrong = no_form_no_token file text at wrong.0
flaw_no_token file text at (BadEscape k) wrong = no_form_no_token file text at wrong.0
flaw_no_token file text at (BadNumber n) wrong = λ t same token.
    let one = one_longest (drop at text) t.kind Int (t.end - t.start) n
    (subst (λ p. IsLongest (drop p text) t.kind (t.end - t.start)) same token.longest) wrong.0 in
    let word : word_of text t ≡ take n (drop at text) = (λ i. take (one.1 i) (drop (same i) text)) in
    wrong.1 (subst IsInRange word (token.number one.0))

fault_no_token : (file : ℕ) (text : List ℕ) (at : ℕ) (fault : Fault) → IsFaultAt file text at fault
    → NoToken file text at
fault_no_token file text at fault wrong = flaw_no_token file text at wrong.0 wrong.1

-- tokens cover no place where none begins
stops : (file : ℕ) (text : List ℕ) (i at n : ℕ) (us ts : List Token) → Covers file text i at us
    → is_white (get_or text at 0) ≡ false → NoToken file text at → at < n → Covers file text i n ts → ⊥
stops file text i at n [] [] a other none below b = false≢true (sym other ∙ b.1 at a.0 below)
stops file text i at n [] (t ∷ ts) a other none below b =
    let first = token_first file text t b.1 in
    ⊎_elim
    (λ same. none t (sym same) b.1)
    (λ apart. ⊎_elim
    (λ before. false≢true (sym other ∙ b.0.1 at a.0 before))
    (λ behind. false≢true (sym first.2 ∙ a.1 t.start b.0.0 behind))
    apart)
    (cases_order at t.start)
stops file text i at n (u ∷ us) [] a other none below b =
    let first = token_first file text u a.1 in
    false≢true (sym first.2 ∙ b.1 u.start a.0.0 (omega (arith, covers_le file text u.end at us a.2)))
stops file text i at n (u ∷ us) (t ∷ ts) a other none below b =
    let same : t ≡ u = same_first file text i t u b.0 b.1 a.0 a.1 in
    stops file text u.end at n us ts a.2 other none below (subst (λ (v : Token). Covers file text v.end n ts) same b.2)

pub list_or_fault : (file : ℕ) (text : List ℕ) (ts : List Token) (fault : Fault) → IsTokenList file text ts
    → IsFirstLexFault file text fault → ⊥
list_or_fault file text ts fault list first =
    stops file text 0 first.at (length text) first.before ts first.covered first.not_white
    (fault_no_token file text first.at fault first.wrong) first.inside list

-- the place of a first fault is one
one_place : (file : ℕ) (text : List ℕ) (a b : Fault) (first : IsFirstLexFault file text a)
    (second : IsFirstLexFault file text b) → first.at ≡ second.at
one_place file text a b first second =
    ⊎_elim (λ same. same) (λ apart. ⊎_elim
    (λ before. absurd (stops file text 0 first.at second.at first.before second.before first.covered first.not_white
    (fault_no_token file text first.at a first.wrong) before second.covered))
    (λ behind. absurd (stops file text 0 second.at first.at second.before first.before second.covered second.not_white
    (fault_no_token file text second.at b second.wrong) behind first.covered))
    apart) (cases_order first.at second.at)

no_form_no_longest : (text : List ℕ) (k : TokenKind) (n : ℕ) → HasNoForm text → IsLongest text k n → ⊥
no_form_no_longest text k n none longest =
    none k (take n text) (drop n text) (sym (take-append-drop n text)) longest.form

rank : Flaw → ℕ
rank BadChar = 0
rank OpenString = 1
rank OpenComment = 2
rank (BadEscape k) = 3
rank (BadNumber n) = 4

rank_le : (k : Flaw) → rank k ≤ 4
unfolding rank
rank_le BadChar = omega arith
rank_le OpenString = omega arith
rank_le OpenComment = omega arith
rank_le (BadEscape k) = omega arith
rank_le (BadNumber n) = omega arith

-- two kinds of flaw are never at one place
excludes : (text : List ℕ) (j k : Flaw) → rank j < rank k → HasFlaw text j → HasFlaw text k → ⊥
unfolding rank
excludes text BadChar OpenString less a b = a.1 (⊎_elim (λ quote. inl quote.0) (λ back. inr (inl back)) b.1)
excludes text BadChar OpenComment less a b = a.1 (inr (inr b.1))
excludes text BadChar (BadEscape k) less a b = a.1 (inl b.1.0)
excludes text BadChar (BadNumber n) less a b = no_form_no_longest text Int n a.0 b.0
excludes text OpenString OpenComment less a b =
    let slash = slash_first text b.1 in
    ⊎_elim (λ quote. omega (arith, quote.0)) (λ back. omega arith) a.1
excludes text OpenString (BadEscape k) less a b =
    ⊎_elim (λ quote. quote.1 b.1.1.0 b.1.1.1) (λ back. omega (arith, b.1.0)) a.1
excludes text OpenString (BadNumber n) less a b = no_form_no_longest text Int n a.0 b.0
excludes text OpenComment (BadEscape k) less a b =
    let slash = slash_first text a.1 in
    omega (arith, b.1.0)
excludes text OpenComment (BadNumber n) less a b = no_form_no_longest text Int n a.0 b.0
excludes text (BadEscape k) (BadNumber n) less a b = no_form_no_longest text Int n a.0 b.0
excludes text j k less a b = absurd (omega (arith, rank_le k))

alike : (text : List ℕ) (j k : Flaw) → rank j ≡ rank k → HasFlaw text j → HasFlaw text k → j ≡ k
unfolding rank
alike text BadChar BadChar same a b = refl
alike text OpenString OpenString same a b = refl
alike text OpenComment OpenComment same a b = refl
alike text (BadEscape k) (BadEscape j) same a b = ap BadEscape (bad_once (drop 1 text) k j a.1.2 b.1.2)
alike text (BadNumber m) (BadNumber n) same a b = ap BadNumber (one_longest text Int Int m n a.0 b.0).1
alike text j k same a b = absurd (omega arith)

one_flaw : (text : List ℕ) (j k : Flaw) → HasFlaw text j → HasFlaw text k → j ≡ k
one_flaw text j k a b =
    ⊎_elim (λ same. alike text j k same a b) (λ apart. ⊎_elim
    (λ before. absurd (excludes text j k before a b))
    (λ behind. absurd (excludes text k j behind b a))
    apart) (cases_order (rank j) (rank k))

-- at one place only one thing is wrong
one_fault_at : (file : ℕ) (text : List ℕ) (at : ℕ) (a b : Fault) → IsFaultAt file text at a → IsFaultAt file text at b
    → a ≡ b
one_fault_at file text at a b first second =
    first.2 ∙ ap (lex_fault file text at) (one_flaw (drop at text) first.0 second.0 first.1 second.1) ∙ sym second.2

pub one_fault : (file : ℕ) (text : List ℕ) (a b : Fault) → IsFirstLexFault file text a → IsFirstLexFault file text b
    → a ≡ b
one_fault file text a b first second =
    let here : IsFaultAt file text second.at a =
    subst (λ at. IsFaultAt file text at a) (one_place file text a b first second) first.wrong in
    one_fault_at file text second.at a b here second.wrong

pub one_meaning : (file : ℕ) (text : List ℕ) (a b : Result (List Token) Fault) → LexMeans file text a
    → LexMeans file text b → a ≡ b
one_meaning file text (Ok ts) (Ok us) a b = ap Ok (one_list file text 0 (length text) ts us a b)
one_meaning file text (Ok ts) (Err fault) a b = absurd (list_or_fault file text ts fault a b)
one_meaning file text (Err fault) (Ok us) a b = absurd (list_or_fault file text us fault b a)
one_meaning file text (Err fault) (Err other) a b = ap Err (one_fault file text fault other a b)
