-- What the functions that read lists and maps owe, on lists.
use Rattle.std.specs.List.{Contains}
use Rattle.std.proofs.Common.{◌≡◌, ℕ, ◌+◌, ◌≤◌, length, drop, arith, List, [], ◌∷◌, map, Bool, true, false, not, Some}
use Rattle.std.proofs.Common.{sym, refl, ap, ◌∙◌, subst, inl, inr}
use Rattle.std.proofs.lemmas.Map.Views.{Contains-from_any}
use Rattle.bp_faults.specs.declared.place.Place.{Place}
use Rattle.bp_faults.specs.declared.limits.TheConstants.{DEEPEST_NESTING}
use Rattle.bp_faults.proofs.Lists.{same_bytes}
use Rattle.bp_lexer.specs.declared.token.Punct.{Punct}
use Rattle.bp_lexer.specs.declared.token.Punct.TheVariants.{OpenBrace, CloseBrace, CloseBracket, Comma}
use Rattle.bp_lexer.specs.declared.token.Token.{Token}
use Rattle.bp_lexer.specs.declared.token.TokenKind.TheVariants.{Ident, Punct as Mark}
use Rattle.bp_lexer.specs.Meaning.{word_of}
use Rattle.bp_parser.specs.declared.flaw.Flaw.TheVariants.{TooNested}
use Rattle.bp_parser.specs.declared.stop.Stop.{Stop}
use Rattle.bp_parser.specs.declared.stop.Stop.TheVariants.{Bad}
use Rattle.bp_parser.specs.declared.tree.EntryExpr.{EntryExpr}
use Rattle.bp_parser.specs.Trees.{Trees, Entries, no_entry, entry_of, entries_then}
use Rattle.bp_parser.specs.Words.{Word, all_words}
use Rattle.bp_parser.specs.Grammar.{IsWord, IsMark, SpellsItems, SpellsMoreItems, SpellsEntries, SpellsMoreEntries}
use Rattle.bp_parser.specs.Flaws.{SpellsFirst, IsRepeated}
use Rattle.bp_parser.specs.Machine.{Part, an_expr, items, more_items, entries, more_entries, stuck, behind_all, flaw_at}
use Rattle.bp_parser.specs.Machine.{is_among, bracket_flaw, StopsWith}
use Rattle.bp_parser.specs.Reading.{IsTokenAt, LacksMark, EndsPart}
use Rattle.bp_parser.proofs.Firsts.{true_false}
use Rattle.bp_parser.proofs.Steps.{pass_mark, halt, full, after_item, at_last_item, after_entry, at_last_entry}
use Rattle.bp_parser.proofs.Steps.{names_in, names_then}

-- the identifier that a token is
pub ident_here : (text : List ℕ) (ts : List Token) (at : ℕ) (t : Token) → IsTokenAt text ts at t → t.kind ≡ Ident
    → IsWord Ident t.place (word_of text t) (drop at (all_words text ts)) (drop (at + 1) (all_words text ts))
ident_here text ts at t here ident =
    here.here
    ∙ ap (λ k. record { kind = k; at = t.place; text = word_of text t } ∷ drop (at + 1) (all_words text ts)) ident

-- behind an item, where the next may begin

pub item_spelled : (text : List ℕ) (ts : List Token) (at next : ℕ) (more : Trees) (rest : List Word)
    → EndsPart CloseBracket ts at next → SpellsItems more (drop next (all_words text ts)) rest
    → SpellsMoreItems more (drop at (all_words text ts)) rest
item_spelled text ts at next more rest (inl comma) s =
    let ws = all_words text ts in
    after_item ws at more rest (comma.0.here text) (subst (λ i. SpellsItems more (drop i ws) rest) comma.1 s)
item_spelled text ts at next more rest (inr close) s =
    let ws = all_words text ts in
    at_last_item (drop at ws) (drop (at + 1) ws) more rest (close.0.here text)
    (subst (λ i. SpellsItems more (drop i ws) rest) close.1 s)

pub item_passed : (text : List ℕ) (ts : List Token) (at next : ℕ) (parts : List Part) → EndsPart CloseBracket ts at next
    → stuck (drop at (all_words text ts)) at (more_items ∷ parts)
    ≡ stuck (drop next (all_words text ts)) next (items ∷ parts)
item_passed text ts at next parts (inl comma) =
    let ws = all_words text ts in
    pass_mark Comma (drop at ws) (drop (at + 1) ws) at (more_items ∷ parts) (items ∷ parts) (comma.0.here text)
    (λ n. refl) (λ n. refl) ∙
    ap (λ i. stuck (drop i ws) i (items ∷ parts)) (sym comma.1)
item_passed text ts at next parts (inr close) =
    let ws = all_words text ts in
    pass_mark CloseBracket (drop at ws) (drop (at + 1) ws) at (more_items ∷ parts) parts (close.0.here text) (λ n. refl)
    (λ n. refl) ∙
    sym (pass_mark CloseBracket (drop at ws) (drop (at + 1) ws) at (items ∷ parts) parts (close.0.here text) (λ n. refl)
    (λ n. refl)) ∙
    ap (λ i. stuck (drop i ws) i (items ∷ parts)) (sym close.1)

-- behind an entry

pub entry_spelled : (text : List ℕ) (ts : List Token) (at next : ℕ) (more : Entries) (rest : List Word)
    → EndsPart CloseBrace ts at next → SpellsEntries more (drop next (all_words text ts)) rest
    → SpellsMoreEntries more (drop at (all_words text ts)) rest
entry_spelled text ts at next more rest (inl comma) s =
    let ws = all_words text ts in
    after_entry ws at more rest (comma.0.here text) (subst (λ i. SpellsEntries more (drop i ws) rest) comma.1 s)
entry_spelled text ts at next more rest (inr close) s =
    let ws = all_words text ts in
    at_last_entry (drop at ws) (drop (at + 1) ws) more rest (close.0.here text)
    (subst (λ i. SpellsEntries more (drop i ws) rest) close.1 s)

pub entry_passed : (text : List ℕ) (ts : List Token) (at next : ℕ) (names : List (List ℕ)) (parts : List Part)
    → EndsPart CloseBrace ts at next → stuck (drop at (all_words text ts)) at (more_entries names ∷ parts)
    ≡ stuck (drop next (all_words text ts)) next (entries names ∷ parts)
entry_passed text ts at next names parts (inl comma) =
    let ws = all_words text ts in
    pass_mark Comma (drop at ws) (drop (at + 1) ws) at (more_entries names ∷ parts) (entries names ∷ parts)
    (comma.0.here text) (λ n. refl) (λ n. refl) ∙
    ap (λ i. stuck (drop i ws) i (entries names ∷ parts)) (sym comma.1)
entry_passed text ts at next names parts (inr close) =
    let ws = all_words text ts in
    pass_mark CloseBrace (drop at ws) (drop (at + 1) ws) at (more_entries names ∷ parts) parts (close.0.here text)
    (λ n. refl) (λ n. refl) ∙
    sym (pass_mark CloseBrace (drop at ws) (drop (at + 1) ws) at (entries names ∷ parts) parts (close.0.here text)
    (λ n. refl) (λ n. refl)) ∙
    ap (λ i. stuck (drop i ws) i (entries names ∷ parts)) (sym close.1)

-- where a further entry may begin there stands a comma
pub comma_before : (text : List ℕ) (ts : List Token) (at next : ℕ) → EndsPart CloseBrace ts at next
    → LacksMark CloseBrace ts next → IsMark Comma (drop at (all_words text ts)) (drop next (all_words text ts))
comma_before text ts at next (inl comma) other =
    subst (λ i. IsMark Comma (drop at (all_words text ts)) (drop i (all_words text ts))) (sym comma.1)
    (comma.0.here text)
comma_before text ts at next (inr close) other =
    let ws = all_words text ts in
    let here : IsMark CloseBrace (drop next ws) (drop (at + 1) ws) =
    subst (λ i. IsMark CloseBrace (drop i ws) (drop (at + 1) ws)) (sym close.1) (close.0.here text) in
    absurd (other text (record { kind = Mark CloseBrace; at = here.0; text = here.1.0 })
    (drop (at + 1) ws) here.1.1 refl)

pub within_part : (close : Punct) (ts : List Token) (at next : ℕ) → at ≤ length ts → EndsPart close ts at next
    → (at ≤ next) × (next ≤ length ts)
within_part close ts at next within (inl comma) = (omega (arith, comma.1), omega (arith, comma.1, comma.0.within))
within_part close ts at next within (inr end) = (omega (arith, end.1), omega (arith, end.1))

-- a bracket too many
pub too_nested : (mark : Punct) (new : List Part → List Part) (ws : List Word) (at depth : ℕ) (stop : Stop)
    → IsMark mark (drop at ws) (drop (at + 1) ws)
    → ((n : List ℕ) (parts : List Part) → behind_all (an_expr ∷ parts) (Mark mark) n ≡ Some (new parts))
    → ((n : List ℕ) (parts : List Part) → flaw_at (an_expr ∷ parts) (Mark mark) n at ≡ bracket_flaw parts at)
    → (stop ≡ Bad (TooNested at)) × (depth ≡ DEEPEST_NESTING) → StopsWith (an_expr ∷ []) ws at depth stop
too_nested mark new ws at depth stop s goes opens why =
    subst (StopsWith (an_expr ∷ []) ws at depth) (sym why.0) (
      (λ parts deep. halt (Mark mark) s.0 s.1.0 (drop at ws) (drop (at + 1) ws) at (an_expr ∷ parts) (new parts)
          (TooNested at) s.1.1 (goes s.1.0 parts) (opens s.1.0 parts ∙ full parts at (deep ∙ why.1))),
      tt,
    )

-- whether a name is new

pub known_from : (new known : Bool) → new ≡ not known → new ≡ false → known ≡ true
known_from new true is no' = refl
known_from new false is no' = absurd (true_false (sym is ∙ no'))

pub new_from : (new known : Bool) → new ≡ not known → new ≡ true → known ≡ false
new_from new true is fresh = absurd (true_false (sym fresh ∙ is))
new_from new false is fresh = refl

-- a name again
pub repeated : (ws inner : List Word) (brace k : ℕ) (es : List EntryExpr) (place : Place) (name : List ℕ)
    → IsMark OpenBrace (drop brace ws) inner → SpellsFirst (entries_then (map entry_of es) no_entry) inner (drop k ws)
    → IsWord Ident place name (drop k ws) (drop (k + 1) ws) → is_among name (names_in es) ≡ true → IsRepeated ws k
repeated ws inner brace k es place name opened spelled here again = record {
  brace = brace;
  inner = inner;
  opened = opened;
  before = entries_then (map entry_of es) no_entry;
  spelled = spelled;
  name = name;
  place = place;
  at = here;
  again = subst (λ l. Contains l name) (sym (names_then es)) (Contains-from_any same_bytes name (names_in es) again);
}
