-- What the calls of the editor add up to.
use Rattle.std.proofs.Common.{◌≡◌, ℕ, List, ◌++◌, take, drop, Option, Some, sym, refl, ap, ◌∙◌, subst, inl, inr, Result}
use Rattle.std.proofs.Common.{Ok, Err}
use Rattle.std.specs.Option.{IsSome}
use Rattle.bp_faults.specs.Answers.{Refuses, Tells}
use Rattle.bp_faults.specs.declared.refusal.Refusal.{Refusal}
use Rattle.bp_faults.specs.declared.refusal.Refusal.TheVariants.{Bad, OutOfMemory}
use Rattle.bp_lexer.specs.declared.token.Token.{Token}
use Rattle.bp_lexer.specs.Laws.{PlacesRise, TokensStandWithin}
use Rattle.bp_lexer.specs.Meaning.{IsTokenList}
use Rattle.bp_parser.specs.Trees.{File}
use Rattle.bp_parser.specs.Words.{words_of}
use Rattle.bp_parser.specs.Meaning.{IsTree}
use Rattle.bp_format.specs.declared.spot.Spot.{Spot}
use Rattle.bp_format.specs.Spots.{spot}
use Rattle.bp_format.specs.Spans.{span}
use Rattle.bp_format.specs.Editing.{Wanted, IsFile, IsEdited, EditMeans, put_in}
use Rattle.bp_format.proofs.SpanFacts.{span_facts}
use Rattle.bp_format.proofs.HasSpan.{has_span}

is_some : {A : Type 0} (x : A) → IsSome (Some x)
is_some x = refl

-- the span that the code takes is there
pub span_taken : TokensStandWithin → PlacesRise → (file : ℕ) (text wanted property : List ℕ) (ts us vs : List Token)
    (tree : File) (place : Spot) (found : Option (ℕ × ℕ)) → IsTokenList file text ts → us ≡ ts
    → IsTree (words_of text us) tree → spot file wanted property tree.defs ≡ Ok place → vs ≡ ts → found ≡ span place vs
    → IsSome found
span_taken law rise file text wanted property ts us vs tree place found listed same parsed at again is =
    let b = has_span law rise file text wanted property ts tree.defs place listed
    (subst (λ l. IsTree (words_of text l) tree) same parsed).spelled at in
    subst IsSome (sym (is ∙ ap (span place) again ∙ b.1)) (is_some b.0)

-- a text that was read, with the tokens as two calls saw them
abbrev pub was_read : (file : ℕ) (text : List ℕ) (ts us : List Token) (tree : File) → IsTokenList file text ts → us ≡ ts
    → IsTree (words_of text us) tree → IsFile file text
was_read file text ts us tree listed same parsed = record {
  tokens = ts;
  listed = listed;
  tree = tree;
  parsed = subst (λ l. IsTree (words_of text l) tree) same parsed;
}

pub no_spot : {T : Type 0} (view : T → List ℕ) (result : Result T Refusal) (file : ℕ) (text : List ℕ) (w : Wanted)
    (read : IsFile file text) (refusal : Refusal) → result ≡ Err refusal
    → Refuses refusal (spot file w.name w.property read.tree.defs) → Tells view (EditMeans file text w) result
no_spot view result file text w read (Bad fault) is meant = rw is (inr (inr (inl (read, meant))))
no_spot view result file text w read OutOfMemory is meant = rw is tt

pub was_edited : TokensStandWithin
    → (file : ℕ) (text out : List ℕ) (w : Wanted) (read : IsFile file text) (place : Spot) (b : ℕ × ℕ) (us : List Token)
    → spot file w.name w.property read.tree.defs ≡ Ok place → us ≡ read.tokens → Some b ≡ span place us
    → out ≡ take b.0 text ++ (put_in w.property w.items place ++ drop b.1 text) → IsEdited file text w out
was_edited law file text out w read place b us found same spanned edited =
    let here : span place read.tokens ≡ Some b = ap (span place) (sym same) ∙ sym spanned in
    let facts = span_facts law file text read.tokens place b read.listed here in
    record {
      read = read;
      place = place;
      found = found;
      from = b.0;
      to = b.1;
      spanned = here;
      in_order = facts.in_order;
      within = facts.within;
      edited = edited;
    }
