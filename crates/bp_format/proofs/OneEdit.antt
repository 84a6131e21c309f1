-- Setting a list in a text comes to one edited text or one fault.
use Rattle.std.proofs.Common.{◌≡◌, ℕ, List, ◌++◌, length, take, drop, Some, Result, Ok, Err, sym, refl, ap, ◌∙◌, subst}
use Rattle.std.proofs.Common.{⊎_elim, inl, inr}
use Rattle.std.specs.Prelude.{◌⊎◌, if◌then◌else◌, nat_le, [], Option, None}
use Rattle.std.proofs.lemmas.Bool.{cases_lt, cond-true, cond-false, le-leb, lt-leb}
use Rattle.bp_faults.specs.Answers.{then_do}
use Rattle.bp_faults.specs.Faults.{fault_at, file_start}
use Rattle.bp_faults.specs.declared.fault.Fault.{Fault}
use Rattle.bp_faults.specs.declared.kind.FaultKind.TheVariants.{TextTooLong}
use Rattle.bp_faults.specs.declared.limits.TheConstants.{LARGEST_FILE}
use Rattle.bp_lexer.specs.Laws.{PlacesRise, TokensStandWithin}
use Rattle.bp_lexer.specs.Meaning.{IsTokenList, IsFirstLexFault as IsLexFault}
use Rattle.bp_lexer.specs.declared.token.Token.{Token}
use Rattle.bp_parser.specs.Meaning.{IsTree, IsFirstParseFault as IsTreeFault}
use Rattle.bp_parser.specs.Trees.{File}
use Rattle.bp_parser.specs.Words.{words_of}
use Rattle.bp_format.specs.declared.spot.Spot.{Spot}
use Rattle.bp_format.specs.Editing.{Wanted, IsFile, IsEdited, EditMeans, put_in}
use Rattle.bp_format.specs.Spans.{span}
use Rattle.bp_format.specs.Spots.{spot}
use Rattle.bp_format.proofs.Edited.{was_edited}
use Rattle.bp_format.proofs.HasSpan.{has_span}
use Rattle.bp_format.proofs.OneFormat.{Readings}

-- the text with what is put into a span
abbrev put : List ℕ → Wanted → Spot → Option (ℕ × ℕ) → List ℕ
put text w s None = []
put text w s (Some b) = take b.0 text ++ (put_in w.property w.items s ++ drop b.1 text)

abbrev sized : ℕ → List ℕ → Result (List ℕ) Fault
sized file out = if nat_le (length out) LARGEST_FILE then Ok out else Err (fault_at TextTooLong (file_start file))

-- what an edit comes to once the text has been read
abbrev rest_of : ℕ → List ℕ → Wanted → List Token → File → Result (List ℕ) Fault
rest_of file text w ts tree =
    then_do (spot file w.name w.property tree.defs) (λ s. sized file (put text w s (span s ts)))

-- what an edit comes to: a fault of the tokens, a fault of the tree, or the rest
abbrev Staged : ℕ → List ℕ → Wanted → Result (List ℕ) Fault → Type 0
Staged file text w a =
    ((f : Fault) × IsLexFault file text f × (a ≡ Err f))
    ⊎ (((ts : List Token) × IsTokenList file text ts
    × ((f : Fault) × IsTreeFault text (words_of text ts) f × (a ≡ Err f)))
    ⊎ ((read : IsFile file text) × (a ≡ rest_of file text w read.tokens read.tree)))

rest_edited : (file : ℕ) (text out : List ℕ) (w : Wanted) (e : IsEdited file text w out)
    → rest_of file text w e.read.tokens e.read.tree ≡ sized file out
rest_edited file text out w e =
    ap (λ r. then_do r (λ s. sized file (put text w s (span s e.read.tokens)))) e.found
    ∙ ap (λ b. sized file (put text w e.place b)) e.spanned ∙ ap (sized file) (sym e.edited)

staged : (file : ℕ) (text : List ℕ) (w : Wanted) (a : Result (List ℕ) Fault) → EditMeans file text w a
    → Staged file text w a
staged file text w (Ok out) m =
    inr (inr (
      m.0.read,
      sym (rest_edited file text out w m.0
          ∙ cond-true (nat_le (length out) LARGEST_FILE) _ _ (le-leb (length out) LARGEST_FILE m.1)),
    ))
staged file text w (Err f) (inl m) = inl (f, m, refl)
staged file text w (Err f) (inr (inl m)) = inr (inl (m.0, m.1, (f, m.2, refl)))
staged file text w (Err f) (inr (inr (inl m))) =
    inr (inr (m.0, sym (ap (λ r. then_do r (λ s. sized file (put text w s (span s m.0.tokens)))) m.1)))
staged file text w (Err f) (inr (inr (inr m))) =
    inr (inr (
      m.1.read,
      sym (rest_edited file text m.0 w m.1
          ∙ cond-false (nat_le (length m.0) LARGEST_FILE) _ _ (lt-leb (length m.0) LARGEST_FILE m.2)
          ∙ ap Err (sym m.3)),
    ))

-- a text is read in one way
same_rest : Readings → (file : ℕ) (text : List ℕ) (w : Wanted) (r s : IsFile file text)
    → rest_of file text w r.tokens r.tree ≡ rest_of file text w s.tokens s.tree
same_rest law file text w r s =
    let tokens : r.tokens ≡ s.tokens = law.one_list file text r.tokens s.tokens r.listed s.listed in
    let tree : r.tree ≡ s.tree = law.one_tree (words_of text s.tokens) r.tree s.tree
    (subst (λ ts. IsTree (words_of text ts) r.tree) tokens r.parsed) s.parsed in
    λ i. rest_of file text w (tokens i) (tree i)

no_fault : Readings → (file : ℕ) (text : List ℕ) (r : IsFile file text) (ts : List Token) (f : Fault)
    → IsTokenList file text ts → IsTreeFault text (words_of text ts) f → ⊥
no_fault law file text r ts f listed wrong =
    law.no_tree text (words_of text ts) r.tree f
    (subst (λ l. IsTree (words_of text l) r.tree) (law.one_list file text r.tokens ts r.listed listed) r.parsed) wrong

one_staged : Readings → (file : ℕ) (text : List ℕ) (w : Wanted) (a b : Result (List ℕ) Fault) → Staged file text w a
    → Staged file text w b → a ≡ b
one_staged law file text w a b (inl x) (inl y) = x.2 ∙ ap Err (law.one_fault file text x.0 y.0 x.1 y.1) ∙ sym y.2
one_staged law file text w a b (inl x) (inr (inl y)) = absurd (law.not_both file text y.0 x.0 y.1 x.1)
one_staged law file text w a b (inl x) (inr (inr y)) = absurd (law.not_both file text y.0.tokens x.0 y.0.listed x.1)
one_staged law file text w a b (inr (inl x)) (inl y) = absurd (law.not_both file text x.0 y.0 x.1 y.1)
one_staged law file text w a b (inr (inl x)) (inr (inl y)) =
    let same : x.0 ≡ y.0 = law.one_list file text x.0 y.0 x.1 y.1 in
    x.2.2
    ∙ ap Err (law.one_wrong text (words_of text y.0) x.2.0 y.2.0
    (subst (λ l. IsTreeFault text (words_of text l) x.2.0) same x.2.1) y.2.1)
    ∙ sym y.2.2
one_staged law file text w a b (inr (inl x)) (inr (inr y)) = absurd (no_fault law file text y.0 x.0 x.2.0 x.1 x.2.1)
one_staged law file text w a b (inr (inr x)) (inl y) = absurd (law.not_both file text x.0.tokens y.0 x.0.listed y.1)
one_staged law file text w a b (inr (inr x)) (inr (inl y)) = absurd (no_fault law file text x.0 y.0 y.2.0 y.1 y.2.1)
one_staged law file text w a b (inr (inr x)) (inr (inr y)) = x.1 ∙ same_rest law file text w x.0 y.0 ∙ sym y.1

pub one_edit : Readings → (file : ℕ) (text : List ℕ) (w : Wanted) (a b : Result (List ℕ) Fault)
    → EditMeans file text w a → EditMeans file text w b → a ≡ b
one_edit law file text w a b m n = one_staged law file text w a b (staged file text w a m) (staged file text w b n)

-- an edited text, or that it is too long
fits : (file : ℕ) (text out : List ℕ) (w : Wanted) → IsEdited file text w out
    → (outcome : Result (List ℕ) Fault) × EditMeans file text w outcome
fits file text out w e = ⊎_elim
    (λ past. (Err (fault_at TextTooLong (file_start file)), inr (inr (inr (out, e, past, refl)))))
    (λ short. (Ok out, (e, short)))
    (cases_lt LARGEST_FILE (length out))

some_place : TokensStandWithin → PlacesRise
    → (file : ℕ) (text : List ℕ) (w : Wanted) (read : IsFile file text) (found : Result Spot Fault)
    → spot file w.name w.property read.tree.defs ≡ found
    → (outcome : Result (List ℕ) Fault) × EditMeans file text w outcome
some_place within rise file text w read (Err f) is = (Err f, inr (inr (inl (read, is))))
some_place within rise file text w read (Ok place) is =
    let b = has_span within rise file text w.name w.property read.tokens read.tree.defs place read.listed
    read.parsed.spelled is in
    fits file text (put text w place (Some b.0)) w
    (was_edited within file text (put text w place (Some b.0)) w read place b.0 read.tokens is refl (sym b.1) refl)

pub some_edit : Readings → TokensStandWithin → PlacesRise → (file : ℕ) (text : List ℕ) (w : Wanted)
    → (outcome : Result (List ℕ) Fault) × EditMeans file text w outcome
some_edit law within rise file text w = ⊎_elim
    (λ read. ⊎_elim
    (λ tree.
    some_place within rise file text w (record { tokens = read.0; listed = read.1; tree = tree.0; parsed = tree.1 })
    (spot file w.name w.property tree.0.defs) refl)
    (λ wrong. (Err wrong.0, inr (inl (read.0, read.1, wrong.1))))
    (law.some_tree text (words_of text read.0)))
    (λ wrong. (Err wrong.0, inl wrong.1))
    (law.some file text)
