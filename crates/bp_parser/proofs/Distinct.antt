-- The names of each map of a tree differ, where no name of the words is repeated.
use Rattle.std.specs.Prelude.{◌≢◌}
use Rattle.std.specs.List.{All, Contains}
use Rattle.std.proofs.Common.{◌≡◌, ℕ, zero, suc, ◌+◌, List, [], ◌∷◌, ◌++◌, length, drop, refl, sym, ap, ◌∙◌, subst, inl}
use Rattle.std.proofs.Common.{inr, arith, append_assoc, length-append}
use Rattle.std.proofs.lemmas.List.{take-append-drop}
use Rattle.std.proofs.lemmas.List.Elements.{All-nil, All-cons, Contains-get_or, Contains-append_left, Contains-push}
use Rattle.std.proofs.lemmas.List.Kept.{AllPairs-cons}
use Rattle.std.proofs.lemmas.List.Prefix.{front_rest}
use Rattle.bp_faults.specs.declared.place.Place.{Place}
use Rattle.bp_lexer.specs.declared.token.Punct.{Punct}
use Rattle.bp_lexer.specs.declared.token.Punct.TheVariants.{OpenBrace, Comma, Colon}
use Rattle.bp_lexer.specs.declared.token.TokenKind.{TokenKind}
use Rattle.bp_lexer.specs.declared.token.TokenKind.TheVariants.{Ident, Punct as Mark}
use Rattle.bp_parser.specs.declared.flaw.Flaw.TheVariants.{Duplicate}
use Rattle.bp_parser.specs.Trees.{Tree, Leaf, Items, Body, Sum, Trees, no_tree, tree_and, Terms, no_term, term_and}
use Rattle.bp_parser.specs.Trees.{Entries, no_entry, entry_and, Definition, Assigns, Extends, Declares, File}
use Rattle.bp_parser.specs.Names.{entry_names, AreDistinct, TreeHasDistinctNames, ItemsHaveDistinctNames}
use Rattle.bp_parser.specs.Names.{TermsHaveDistinctNames, ValuesHaveDistinctNames, DefinitionHasDistinctNames}
use Rattle.bp_parser.specs.Words.{Word}
use Rattle.bp_parser.specs.Grammar.{IsWord, IsMark, Spells, SpellsTerms, SpellsItems, SpellsMoreItems, SpellsEntries}
use Rattle.bp_parser.specs.Grammar.{SpellsMoreEntries, SpellsDef, SpellsFile}
use Rattle.bp_parser.specs.Flaws.{SpellsFirst, IsRepeated}
use Rattle.bp_parser.specs.Meaning.{IsTree}
use Rattle.bp_parser.proofs.Tracks.{and_then, names_and_then, first_and_then}

-- The words end with ts.
abbrev EndWith : List Word → List Word → Type 0
EndWith ws ts = (front : List Word) × (ws ≡ front ++ ts)

-- no name of the words is repeated
abbrev AreFresh : List Word → Type 0
AreFresh ws = (k : ℕ) → IsRepeated ws k → ⊥

over_word : (ws ts rest : List Word) (kind : TokenKind) (at : Place) (text : List ℕ) → EndWith ws ts
    → IsWord kind at text ts rest → EndWith ws rest
over_word ws ts rest kind at text end s =
    let w : Word = record { kind = kind; at = at; text = text } in
    (end.0 ++ w ∷ [], end.1 ∙ ap (λ l. end.0 ++ l) s ∙ sym (append_assoc end.0 (w ∷ []) rest))

over_mark : (ws ts rest : List Word) (mark : Punct) → EndWith ws ts → IsMark mark ts rest → EndWith ws rest
over_mark ws ts rest mark end s = over_word ws ts rest (Mark mark) s.0 s.1.0 end s.1.1

-- entries of a map have been read, each with a comma behind it
record InMap (ws : List Word) (before : Entries) (here : List Word) : Type 0 where
  brace : ℕ
  inner : List Word
  opened : IsMark OpenBrace (drop brace ws) inner
  spelled : SpellsFirst before inner here

-- a name there is none of theirs
new_name : (ws : List Word) (before : Entries) (here colon : List Word) (at : Place) (name : List ℕ) → AreFresh ws
    → EndWith ws here → InMap ws before here → IsWord Ident at name here colon → Contains (entry_names before) name → ⊥
unfolding over_word
new_name ws before here colon at name fresh end m s again =
    let w : Word = record { kind = Ident; at = at; text = name } in
    let k = length end.0 in
    let first : drop k ws ≡ here = front_rest ws end.0 here end.1 in
    let more = over_word ws here colon Ident at name end s in
    let long : length more.0 ≡ k + 1 = length-append end.0 (w ∷ []) in
    let next : drop (k + 1) ws ≡ colon = ap (λ i. drop i ws) (sym long) ∙ front_rest ws more.0 colon more.1 in
    fresh k (record {
      brace = m.brace;
      inner = m.inner;
      opened = m.opened;
      before = before;
      spelled = subst (SpellsFirst before m.inner) (sym first) m.spelled;
      name = name;
      place = at;
      at = first ∙ s ∙ ap (λ l. w ∷ l) (sym next);
      again = again;
    })

-- names that follow a name and are not among those up to it
record AreNew (before es : Entries) : Type 0 where
  distinct : AreDistinct (entry_names es)
  apart : (m : List ℕ) → Contains (entry_names es) m → Contains (entry_names before) m → ⊥

no_names : (before : Entries) → AreNew before no_entry
no_names before = record {
  distinct = λ i j d less within. absurd (omega arith);
  apart = λ m c b. let within = c.1 in absurd (omega arith);
}

contained_cases : (name m : List ℕ) (names : List (List ℕ)) → {A : Type 0} → Contains (name ∷ names) m → (name ≡ m → A)
    → (Contains names m → A) → A
contained_cases name m names (zero, within, same) here later = here same
contained_cases name m names (suc k, within, same) here later = later (k, omega arith, same)

name_then : (before : Entries) (name : List ℕ) (at : Place) (x : Tree) (es : Entries)
    → (Contains (entry_names before) name → ⊥) → AreNew (and_then before name at x) es
    → AreNew before (entry_and name at x es)
name_then before name at x es new more =
    let known : entry_names (and_then before name at x) ≡ entry_names before ++ name ∷ [] =
    names_and_then before name at x in
    record {
      distinct = AllPairs-cons (λ a b. a ≢ b) name (entry_names es)
          (λ k d within same. more.apart name
          (subst (Contains (entry_names es)) (sym same) (Contains-get_or (entry_names es) k d within))
          (subst (λ l. Contains l name) (sym known) (Contains-push (entry_names before) name)))
          more.distinct;
      apart = λ m c b. contained_cases name m (entry_names es) c
          (λ same. new (subst (Contains (entry_names before)) (sym same) b))
          (λ later. more.apart m later
          (subst (λ l. Contains l m) (sym known) (Contains-append_left (entry_names before) (name ∷ []) m b)));
    }

-- what is found of entries: their names and values, and where they end
record EntriesFound (ws : List Word) (before es : Entries) (rest : List Word) : Type 0 where
  names : AreNew before es
  values : ValuesHaveDistinctNames es
  end : EndWith ws rest

abbrev Found : List Word → Type 0 → List Word → Type 0
Found ws Names rest = Names × EndWith ws rest

mutual
  tree_names : (x : Tree) (ws ts rest : List Word) → AreFresh ws → EndWith ws ts → Spells x ts rest
      → Found ws (TreeHasDistinctNames x) rest
  tree_names (Leaf at atom) ws ts rest fresh end s = (tt, over_word ws ts rest s.0 at s.1 end s.2)
  tree_names (Items at xs) ws ts rest fresh end s =
      items_names xs ws s.0 rest fresh (over_mark ws ts s.0 _ end (at, s.1)) s.2
  tree_names (Body at es) ws ts rest fresh end s =
      let inner = over_mark ws ts s.0 OpenBrace end (at, s.1) in
      let brace : drop (length end.0) ws ≡ ts = front_rest ws end.0 ts end.1 in
      let m : InMap ws no_entry s.0 = record {
        brace = length end.0;
        inner = s.0;
        opened = subst (λ l. IsMark OpenBrace l s.0) (sym brace) (at, s.1);
        spelled = refl;
      } in
      let f = entries_names es no_entry ws s.0 rest fresh inner m s.2 in
      ((f.names.distinct, f.values), f.end)
  tree_names (Sum x terms) ws ts rest fresh end s =
      let f = tree_names x ws ts s.0 fresh end s.3 in
      let g = terms_names terms ws s.0 rest fresh f.1 s.4 in
      ((f.0, g.0), g.1)

  terms_names : (xs : Terms) (ws ts rest : List Word) → AreFresh ws → EndWith ws ts → SpellsTerms xs ts rest
      → Found ws (TermsHaveDistinctNames xs) rest
  terms_names no_term ws ts rest fresh end s = (tt, subst (EndWith ws) s end)
  terms_names (term_and at x xs) ws ts rest fresh end s =
      let f = tree_names x ws s.0 s.1 fresh (over_mark ws ts s.0 _ end (at, s.2)) s.4 in
      let g = terms_names xs ws s.1 rest fresh f.1 s.5 in
      ((f.0, g.0), g.1)

  items_names : (xs : Trees) (ws ts rest : List Word) → AreFresh ws → EndWith ws ts → SpellsItems xs ts rest
      → Found ws (ItemsHaveDistinctNames xs) rest
  items_names no_tree ws ts rest fresh end s = (tt, over_mark ws ts rest _ end s)
  items_names (tree_and x xs) ws ts rest fresh end s =
      let f = tree_names x ws ts s.0 fresh end s.1 in
      let g = more_items_names xs ws s.0 rest fresh f.1 s.2 in
      ((f.0, g.0), g.1)

  more_items_names : (xs : Trees) (ws ts rest : List Word) → AreFresh ws → EndWith ws ts → SpellsMoreItems xs ts rest
      → Found ws (ItemsHaveDistinctNames xs) rest
  more_items_names no_tree ws ts rest fresh end (inl s) = (tt, over_mark ws ts rest _ end s)
  more_items_names no_tree ws ts rest fresh end (inr s) =
      (tt, over_mark ws s.0 rest _ (over_mark ws ts s.0 _ end s.1) s.2)
  more_items_names (tree_and x xs) ws ts rest fresh end s =
      let f = tree_names x ws s.0 s.1 fresh (over_mark ws ts s.0 _ end s.2) s.3 in
      let g = more_items_names xs ws s.1 rest fresh f.1 s.4 in
      ((f.0, g.0), g.1)

  entries_names : (es before : Entries) (ws ts rest : List Word) → AreFresh ws → EndWith ws ts → InMap ws before ts
      → SpellsEntries es ts rest → EntriesFound ws before es rest
  entries_names no_entry before ws ts rest fresh end m s = record {
    names = no_names before;
    values = tt;
    end = over_mark ws ts rest _ end s;
  }
  entries_names (entry_and name at x es) before ws ts rest fresh end m s =
      let colon = over_word ws ts s.0 Ident at name end s.3 in
      let next = over_mark ws s.0 s.1 Colon colon s.4 in
      let f = tree_names x ws s.1 s.2 fresh next s.5 in
      let g = more_entries_names es before name at x ws ts s.0 s.1 s.2 rest fresh f.1 m s.3 s.4 s.5 s.6 in
      record {
        names = name_then before name at x es (new_name ws before ts s.0 at name fresh end m s.3) g.names;
        values = (f.0, g.values);
        end = g.end;
      }

  more_entries_names : (es before : Entries) (name : List ℕ) (at : Place) (x : Tree)
      (ws here colon value mid rest : List Word) → AreFresh ws → EndWith ws mid → InMap ws before here
      → IsWord Ident at name here colon → IsMark Colon colon value → Spells x value mid → SpellsMoreEntries es mid rest
      → EntriesFound ws (and_then before name at x) es rest
  more_entries_names no_entry before name at x ws here colon value mid rest fresh end m n c v (inl s) = record {
    names = no_names (and_then before name at x);
    values = tt;
    end = over_mark ws mid rest _ end s;
  }
  more_entries_names no_entry before name at x ws here colon value mid rest fresh end m n c v (inr s) = record {
    names = no_names (and_then before name at x);
    values = tt;
    end = over_mark ws s.0 rest _ (over_mark ws mid s.0 _ end s.1) s.2;
  }
  more_entries_names (entry_and name' at' x' es) before name at x ws here colon value mid rest fresh end m n c v s =
      let known = and_then before name at x in
      let inside : InMap ws known s.0 = record {
        brace = m.brace;
        inner = m.inner;
        opened = m.opened;
        spelled = first_and_then before name at x m.inner here colon value mid s.0 m.spelled n c v s.4;
      } in
      let first = over_mark ws mid s.0 Comma end s.4 in
      let colon' = over_word ws s.0 s.1 Ident at' name' first s.5 in
      let next = over_mark ws s.1 s.2 Colon colon' s.6 in
      let f = tree_names x' ws s.2 s.3 fresh next s.7 in
      let g = more_entries_names es known name' at' x' ws s.0 s.1 s.2 s.3 rest fresh f.1 inside s.5 s.6 s.7 s.8 in
      record {
        names = name_then known name' at' x' es (new_name ws known s.0 s.1 at' name' fresh first inside s.5) g.names;
        values = (f.0, g.values);
        end = g.end;
      }

definition_names : (d : Definition) (ws ts rest : List Word) → AreFresh ws → EndWith ws ts → SpellsDef d ts rest
    → Found ws (DefinitionHasDistinctNames d) rest
definition_names (Assigns name at x) ws ts rest fresh end s =
    tree_names x ws s.1 rest fresh (over_mark ws s.0 s.1 _ (over_word ws ts s.0 Ident at name end s.2.0) s.3) s.4
definition_names (Extends name at x) ws ts rest fresh end s =
    tree_names x ws s.1 rest fresh (over_mark ws s.0 s.1 _ (over_word ws ts s.0 Ident at name end s.2.0) s.3) s.4
definition_names (Declares kind at m) ws ts rest fresh end s =
    tree_names (Body m.at m.entries) ws s.0 rest fresh (over_word ws ts s.0 Ident at kind end s.1.0) s.2

file_names : (ds : List Definition) (ws ts : List Word) → AreFresh ws → EndWith ws ts → SpellsFile ds ts
    → All DefinitionHasDistinctNames ds
file_names [] ws ts fresh end s = All-nil DefinitionHasDistinctNames
file_names (d ∷ ds) ws ts fresh end s =
    let f = definition_names d ws ts s.0 fresh end s.1 in
    All-cons DefinitionHasDistinctNames d ds f.0 (file_names ds ws s.0 fresh f.1 s.2)

-- a name that is repeated is a flaw, since all the words are a file's
fresh_words : (ws : List Word) (tree : File) → IsTree ws tree → AreFresh ws
fresh_words ws tree is k repeated = is.sound (Duplicate k) (record {
  repeated = repeated;
  expected = (drop (k + 1) ws, tree.defs, subst (SpellsFile tree.defs) (sym (take-append-drop (k + 1) ws)) is.spelled);
})

pub distinct_names : (ws : List Word) (tree : File) → IsTree ws tree → All DefinitionHasDistinctNames tree.defs
distinct_names ws tree is = file_names tree.defs ws ws (fresh_words ws tree is) ([], refl) is.spelled
