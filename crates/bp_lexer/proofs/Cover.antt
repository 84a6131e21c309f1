-- The way over a text: white space and tokens.
use Rattle.std.proofs.Common.{◌≡◌, ℕ, zero, suc, add-zero, sym, ◌+◌, ◌<◌, true, List, [], ◌∷◌, ◌++◌, get_or, length}
use Rattle.std.proofs.Common.{drop, subst, ap, ◌∙◌, false, ⊎_elim, arith}
use Rattle.std.proofs.lemmas.Bool.{cases_lt}
use Rattle.bp_faults.specs.declared.fault.Fault.{Fault}
use Rattle.bp_faults.specs.declared.place.Place.{Place}
use Rattle.bp_lexer.specs.declared.flaw.Flaw.{Flaw}
use Rattle.bp_lexer.specs.Faults.{HasFlaw, lex_fault}
use Rattle.bp_lexer.specs.declared.token.Token.{Token}
use Rattle.bp_lexer.specs.Classes.{is_white}
use Rattle.bp_lexer.specs.Places.{place_at}
use Rattle.bp_lexer.specs.Meaning.{IsBlank, IsToken, Covers, IsFirstLexFault}
use Rattle.bp_lexer.proofs.Places.{file_of}

blank_more : (text : List ℕ) (i j : ℕ) → IsBlank text i j → is_white (get_or text j 0) ≡ true → IsBlank text i (j + 1)
blank_more text i j blank white = (
  omega arith,
  λ k low high.
      ⊎_elim (λ below. blank.1 k low below) (λ above. let same : k ≡ j = omega arith in rw same white) (cases_lt k j),
)

pub covers_white : (file : ℕ) (text : List ℕ) (i j : ℕ) (ts : List Token) → Covers file text i j ts
    → is_white (get_or text j 0) ≡ true → Covers file text i (j + 1) ts
covers_white file text i j [] covers white = blank_more text i j covers white
covers_white file text i j (t ∷ ts) covers white =
    (covers.0, covers.1, covers_white file text t.end j ts covers.2 white)

pub covers_run : (file : ℕ) (text : List ℕ) (i j n : ℕ) (ts : List Token) → Covers file text i j ts
    → ((k : ℕ) → k < n → is_white (get_or text (j + k) 0) ≡ true) → Covers file text i (j + n) ts
covers_run file text i j zero ts covers white = subst (λ k. Covers file text i k ts) (sym (add-zero j)) covers
covers_run file text i j (suc n) ts covers white =
    let next : j + n + 1 ≡ j + suc n = omega arith in
    subst (λ k. Covers file text i k ts) next (covers_white file text i (j + n) ts
    (covers_run file text i j n ts covers (λ k low. white k (omega arith))) (white n (omega arith)))

pub blank_none : (text : List ℕ) (i : ℕ) → IsBlank text i i
blank_none text i = (omega arith, λ k low high. absurd (omega arith))

pub covers_token : (file : ℕ) (text : List ℕ) (i : ℕ) (ts : List Token) (t : Token) → Covers file text i t.start ts
    → IsToken file text t → Covers file text i t.end (ts ++ t ∷ [])
covers_token file text i [] t covers token = (covers, token, blank_none text t.end)
covers_token file text i (u ∷ ts) t covers token =
    (covers.0, covers.1, covers_token file text u.end ts t covers.2 token)

-- what is wrong where the tokens stop is the first fault
pub first_fault : (file : ℕ) (bytes text : List ℕ) (at : ℕ) (before : List Token) (flaw : Flaw) (place : Place)
    (fault : Fault) → bytes ≡ text → Covers file bytes 0 at before → at < length bytes
    → is_white (get_or bytes at 0) ≡ false → HasFlaw (drop at text) flaw → place ≡ place_at file bytes at
    → fault ≡ lex_fault place.file text at flaw → IsFirstLexFault file text fault
first_fault file bytes text at before flaw place fault same covered inside other wrong here is = record {
  at = at;
  before = before;
  covered = subst (λ t. Covers file t 0 at before) same covered;
  inside = subst (λ t. at < length t) same inside;
  not_white = subst (λ t. is_white (get_or t at 0) ≡ false) same other;
  wrong = (flaw, wrong, is ∙ ap (λ f. lex_fault f text at flaw) (file_of file bytes at place here));
}
