-- Formatting a text comes to one layout or one fault.
use Rattle.std.proofs.Common.{◌≡◌, ℕ, ⊎_elim, refl, List, [], length, sym, ap, ◌∙◌, subst, inl, inr, arith, Result, Ok}
use Rattle.std.proofs.Common.{Err}
use Rattle.std.proofs.lemmas.Bool.{cases_lt}
use Rattle.bp_faults.specs.Faults.{fault_at, file_start}
use Rattle.bp_faults.specs.declared.fault.Fault.{Fault}
use Rattle.bp_faults.specs.declared.kind.FaultKind.TheVariants.{TextTooLong}
use Rattle.bp_faults.specs.declared.limits.TheConstants.{LARGEST_FILE}
use Rattle.bp_lexer.specs.declared.token.Token.{Token}
use Rattle.bp_lexer.specs.Meaning.{IsTokenList}
use Rattle.bp_lexer.specs.Laws.{OneTokenList, SomeListOrFault, NotListAndFault, OneFault as OneLexFault}
use Rattle.bp_parser.specs.Meaning.{IsFirstParseFault as IsTreeFault}
use Rattle.bp_parser.specs.Words.{words_of}
use Rattle.bp_parser.specs.Laws.{OneTree, SomeTreeOrFault, NotTreeAndFault, OneFault as OneTreeFault}
use Rattle.bp_format.specs.Layout.{layout}
use Rattle.bp_format.specs.Ends.{pieces}
use Rattle.bp_format.specs.Meaning.{HasLayout, FormatMeans}
use Rattle.bp_format.proofs.Theorem.{laid_by, has_layout}

-- the laws by which a text means one thing to the lexer and to the parser
pub record Readings : Type 0 where
  pub one_list : OneTokenList
  pub some : SomeListOrFault
  pub not_both : NotListAndFault
  pub one_fault : OneLexFault
  pub one_tree : OneTree
  pub some_tree : SomeTreeOrFault
  pub no_tree : NotTreeAndFault
  pub one_wrong : OneTreeFault

one_layout : Readings → (file : ℕ) (text a b : List ℕ) → HasLayout file text a → HasLayout file text b → a ≡ b
one_layout law file text a b h k =
    laid_by file text a h
    ∙ ap (λ ts. layout (pieces [] text ts)) (law.one_list file text h.tokens k.tokens h.listed k.listed)
    ∙ sym (laid_by file text b k)

no_tree_fault : Readings → (file : ℕ) (text out : List ℕ) (ts : List Token) (fault : Fault) → HasLayout file text out
    → IsTokenList file text ts → IsTreeFault text (words_of text ts) fault → ⊥
no_tree_fault law file text out ts fault h listed wrong =
    law.no_tree text (words_of text h.tokens) h.tree fault h.parsed
    (subst (λ l. IsTreeFault text (words_of text l) fault) (law.one_list file text ts h.tokens listed h.listed) wrong)

pub one_format : Readings → (file : ℕ) (text : List ℕ) (a b : Result (List ℕ) Fault) → FormatMeans file text a
    → FormatMeans file text b → a ≡ b
one_format law file text (Ok a) (Ok b) h k = ap Ok (one_layout law file text a b h.0 k.0)
one_format law file text (Ok a) (Err f) h (inl k) = absurd (law.not_both file text h.0.tokens f h.0.listed k)
one_format law file text (Ok a) (Err f) h (inr (inl k)) = absurd (no_tree_fault law file text a k.0 f h.0 k.1 k.2)
one_format law file text (Ok a) (Err f) h (inr (inr k)) =
    absurd (omega (arith, h.1, k.2, ap length (one_layout law file text a k.0 h.0 k.1)))
one_format law file text (Err f) (Ok b) (inl h) k = absurd (law.not_both file text k.0.tokens f k.0.listed h)
one_format law file text (Err f) (Ok b) (inr (inl h)) k = absurd (no_tree_fault law file text b h.0 f k.0 h.1 h.2)
one_format law file text (Err f) (Ok b) (inr (inr h)) k =
    absurd (omega (arith, k.1, h.2, ap length (one_layout law file text b h.0 k.0 h.1)))
one_format law file text (Err f) (Err g) (inl h) (inl k) = ap Err (law.one_fault file text f g h k)
one_format law file text (Err f) (Err g) (inl h) (inr (inl k)) = absurd (law.not_both file text k.0 f k.1 h)
one_format law file text (Err f) (Err g) (inl h) (inr (inr k)) =
    absurd (law.not_both file text k.1.tokens f k.1.listed h)
one_format law file text (Err f) (Err g) (inr (inl h)) (inl k) = absurd (law.not_both file text h.0 g h.1 k)
one_format law file text (Err f) (Err g) (inr (inl h)) (inr (inl k)) =
    ap Err (law.one_wrong text (words_of text k.0) f g
    (subst (λ l. IsTreeFault text (words_of text l) f) (law.one_list file text h.0 k.0 h.1 k.1) h.2) k.2)
one_format law file text (Err f) (Err g) (inr (inl h)) (inr (inr k)) =
    absurd (no_tree_fault law file text k.0 h.0 f k.1 h.1 h.2)
one_format law file text (Err f) (Err g) (inr (inr h)) (inl k) =
    absurd (law.not_both file text h.1.tokens g h.1.listed k)
one_format law file text (Err f) (Err g) (inr (inr h)) (inr (inl k)) =
    absurd (no_tree_fault law file text h.0 k.0 g h.1 k.1 k.2)
one_format law file text (Err f) (Err g) (inr (inr h)) (inr (inr k)) = ap Err (h.3 ∙ sym k.3)

-- a layout, or that it is too long
fits : (file : ℕ) (text out : List ℕ) → HasLayout file text out
    → (outcome : Result (List ℕ) Fault) × FormatMeans file text outcome
fits file text out h = ⊎_elim
    (λ past. (Err (fault_at TextTooLong (file_start file)), inr (inr (out, h, past, refl))))
    (λ short. (Ok out, (h, short)))
    (cases_lt LARGEST_FILE (length out))

pub some_format : Readings → (file : ℕ) (text : List ℕ)
    → (outcome : Result (List ℕ) Fault) × FormatMeans file text outcome
some_format law file text = ⊎_elim
    (λ read. ⊎_elim
    (λ tree. fits file text (layout (pieces [] text read.0))
    (has_layout file text (layout (pieces [] text read.0)) read.0 tree.0 read.1 tree.1 refl))
    (λ wrong. (Err wrong.0, inr (inl (read.0, read.1, wrong.1))))
    (law.some_tree text (words_of text read.0)))
    (λ wrong. (Err wrong.0, inl wrong.1))
    (law.some file text)
