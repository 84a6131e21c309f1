-- Words have at most one tree.
use Rattle.std.specs.Prelude.{◌⊎◌}
use Rattle.std.proofs.Common.{◌≡◌, ℕ, List, [], ◌∷◌, Some, sym, refl, ap, ◌∙◌, subst, inl, inr}
use Rattle.bp_faults.specs.declared.place.Place.{Place}
use Rattle.bp_lexer.specs.declared.token.Punct.{Punct}
use Rattle.bp_lexer.specs.declared.token.Punct.TheVariants.{OpenBrace, CloseBrace, OpenBracket, CloseBracket, Colon}
use Rattle.bp_lexer.specs.declared.token.Punct.TheVariants.{Comma, Equal, PlusEqual, Plus}
use Rattle.bp_lexer.specs.declared.token.TokenKind.{TokenKind}
use Rattle.bp_lexer.specs.declared.token.TokenKind.TheVariants.{Ident, Punct as Mark}
use Rattle.bp_parser.specs.Trees.{Atom, Tree, Leaf, Items, Body, Sum, Trees, no_tree, tree_and, Terms, no_term}
use Rattle.bp_parser.specs.Trees.{term_and, Entries, no_entry, entry_and, Definition, Assigns, Extends, Declares}
use Rattle.bp_parser.specs.Words.{Word, atom_of}
use Rattle.bp_parser.specs.Grammar.{IsWord, IsMarkAt, IsMark, IsPrim, Spells, SpellsTerms, SpellsItems, SpellsMoreItems}
use Rattle.bp_parser.specs.Grammar.{SpellsEntries, SpellsMoreEntries, SpellsDef, SpellsFile}
use Rattle.bp_parser.specs.Machine.{StartsNot}
use Rattle.bp_parser.proofs.Firsts.{SameWord, one_word, nil_cons, some_same, none_some, starts_not, no_mark}
use Rattle.bp_parser.proofs.Firsts.{no_plus_items, no_plus_entries, no_plus_file, plus_here, def_ident}

-- two marks at the front are one
one_mark : (m n : Punct) (ts a b : List Word) → (s : IsMark m ts a) → (t : IsMark n ts b)
    → SameWord (Mark m) (Mark n) s.0 t.0 s.1.0 t.1.0 a b
one_mark m n ts a b s t = one_word (Mark m) (Mark n) s.0 t.0 s.1.0 t.1.0 ts a b s.1.1 t.1.1

mark_behind : (m : Punct) (ts a b : List Word) → IsMark m ts a → IsMark m ts b → a ≡ b
mark_behind m ts a b s t = (one_mark m m ts a b s t).rest

-- two different marks
marks_differ : {A : Type 0} (m n : Punct) (ts a b : List Word) → (m ≡ n → ⊥) → IsMark m ts a → IsMark n ts b → A
marks_differ m n ts a b apart s t = absurd (apart (let k = (one_mark m n ts a b s t).kind in cc))

-- what spells x and, with another rest, y, is one tree
abbrev IsOnly : Tree → Type 0
IsOnly x =
    (y : Tree) (ts a b : List Word) → Spells x ts a → Spells y ts b → StartsNot (Mark Plus) a → StartsNot (Mark Plus) b
    → (x ≡ y) × (a ≡ b)

-- the same where neither is a sum
abbrev IsOnlyPrim : Tree → Type 0
IsOnlyPrim x = (y : Tree) (ts a b : List Word) → IsPrim y → Spells x ts a → Spells y ts b → (x ≡ y) × (a ≡ b)

-- a sum goes on with a plus
only : (x : Tree) → IsPrim x → IsOnlyPrim x → IsOnly x
only x prim same (Leaf at atom) ts a b s t na nb = same (Leaf at atom) ts a b tt s t
only x prim same (Items at ys) ts a b s t na nb = same (Items at ys) ts a b tt s t
only x prim same (Body at es) ts a b s t na nb = same (Body at es) ts a b tt s t
only x prim same (Sum y terms) ts a b s t na nb =
    let f = same y ts a t.0 t.1 s t.3 in
    absurd (plus_here terms t.0 b t.2 t.4 (subst (StartsNot (Mark Plus)) f.1 na))

abbrev IsOnlyTerms : Terms → Type 0
IsOnlyTerms xs =
    (ys : Terms) (ts a b : List Word) → SpellsTerms xs ts a → SpellsTerms ys ts b → StartsNot (Mark Plus) a
    → StartsNot (Mark Plus) b → (xs ≡ ys) × (a ≡ b)

sum_starts : (x : Tree) (terms : Terms) → IsOnlyPrim x → (y : Tree) (ts a b : List Word) → IsPrim y
    → Spells (Sum x terms) ts a → Spells y ts b → StartsNot (Mark Plus) b → ⊥
sum_starts x terms same y ts a b prim s t nb =
    let f = same y ts s.0 b prim s.3 t in
    plus_here terms s.0 a s.2 s.4 (subst (StartsNot (Mark Plus)) (sym f.1) nb)

only_sum : (x : Tree) (terms : Terms) → (IsPrim x → IsOnlyPrim x) → IsOnlyTerms terms → IsOnly (Sum x terms)
only_sum x terms same more (Leaf at atom) ts a b s t na nb =
    absurd (sum_starts x terms (same s.1) (Leaf at atom) ts a b tt s t nb)
only_sum x terms same more (Items at ys) ts a b s t na nb =
    absurd (sum_starts x terms (same s.1) (Items at ys) ts a b tt s t nb)
only_sum x terms same more (Body at es) ts a b s t na nb =
    absurd (sum_starts x terms (same s.1) (Body at es) ts a b tt s t nb)
only_sum x terms same more (Sum y others) ts a b s t na nb =
    let f = same s.1 y ts s.0 t.0 t.1 s.3 t.3 in
    let g = more others t.0 a b (subst (λ l. SpellsTerms terms l a) f.1 s.4) t.4 na nb in
    ((λ i. Sum (f.0 i) (g.0 i)), g.1)

leaf_word : (k : TokenKind) (n : List ℕ) (atom : Atom) (m : Punct) → atom_of k n ≡ Some atom → k ≡ Mark m → ⊥
leaf_word k n atom m is mark = none_some atom (sym (ap (λ l. atom_of l n) mark) ∙ is)

only_leaf : (at : Place) (atom : Atom) → IsOnlyPrim (Leaf at atom)
only_leaf at atom (Leaf p other) ts a b prim s t =
    let w = one_word s.0 t.0 at p s.1 t.1 ts a b s.2 t.2 in
    let same : atom ≡ other =
    some_same atom other (sym s.3 ∙ ap (λ k. atom_of k s.1) w.kind ∙ ap (atom_of t.0) w.text ∙ t.3) in
    ((λ i. Leaf (w.at i) (same i)), w.rest)
only_leaf at atom (Items p ys) ts a b prim s t =
    absurd (leaf_word s.0 s.1 atom OpenBracket s.3
    (one_word s.0 (Mark OpenBracket) at p s.1 t.1.0 ts a t.0 s.2 t.1.1).kind)
only_leaf at atom (Body p es) ts a b prim s t =
    absurd (leaf_word s.0 s.1 atom OpenBrace s.3 (one_word s.0 (Mark OpenBrace) at p s.1 t.1.0 ts a t.0 s.2 t.1.1).kind)
only_leaf at atom (Sum y terms) ts a b prim s t = absurd prim

only_items : (at : Place) (xs : Trees)
    → ((ys : Trees) (ts a b : List Word) → SpellsItems xs ts a → SpellsItems ys ts b → (xs ≡ ys) × (a ≡ b))
    → IsOnlyPrim (Items at xs)
only_items at xs inside (Leaf p atom) ts a b prim s t =
    absurd (leaf_word t.0 t.1 atom OpenBracket t.3
    (one_word t.0 (Mark OpenBracket) p at t.1 s.1.0 ts b s.0 t.2 s.1.1).kind)
only_items at xs inside (Items p ys) ts a b prim s t =
    let w = one_mark OpenBracket OpenBracket ts s.0 t.0 (at, s.1) (p, t.1) in
    let f = inside ys t.0 a b (subst (λ l. SpellsItems xs l a) w.rest s.2) t.2 in
    ((λ i. Items (w.at i) (f.0 i)), f.1)
only_items at xs inside (Body p es) ts a b prim s t =
    marks_differ OpenBracket OpenBrace ts s.0 t.0 (λ e. cc) (at, s.1) (p, t.1)
only_items at xs inside (Sum y terms) ts a b prim s t = absurd prim

only_body : (at : Place) (ds : Entries)
    → ((es : Entries) (ts a b : List Word) → SpellsEntries ds ts a → SpellsEntries es ts b → (ds ≡ es) × (a ≡ b))
    → IsOnlyPrim (Body at ds)
only_body at ds inside (Leaf p atom) ts a b prim s t =
    absurd (leaf_word t.0 t.1 atom OpenBrace t.3 (one_word t.0 (Mark OpenBrace) p at t.1 s.1.0 ts b s.0 t.2 s.1.1).kind)
only_body at ds inside (Items p ys) ts a b prim s t =
    marks_differ OpenBrace OpenBracket ts s.0 t.0 (λ e. cc) (at, s.1) (p, t.1)
only_body at ds inside (Body p es) ts a b prim s t =
    let w = one_mark OpenBrace OpenBrace ts s.0 t.0 (at, s.1) (p, t.1) in
    let f = inside es t.0 a b (subst (λ l. SpellsEntries ds l a) w.rest s.2) t.2 in
    ((λ i. Body (w.at i) (f.0 i)), f.1)
only_body at ds inside (Sum y terms) ts a b prim s t = absurd prim

-- two ends of a list or a map, with and without a comma
one_end : (close : Punct) (ts a b : List Word) → (close ≡ Comma → ⊥)
    → IsMark close ts a ⊎ ((next : List Word) × IsMark Comma ts next × IsMark close next a)
    → IsMark close ts b ⊎ ((next : List Word) × IsMark Comma ts next × IsMark close next b) → a ≡ b
one_end close ts a b apart (inl s) (inl t) = mark_behind close ts a b s t
one_end close ts a b apart (inl s) (inr t) = marks_differ close Comma ts a t.0 apart s t.1
one_end close ts a b apart (inr s) (inl t) = marks_differ close Comma ts b s.0 apart t s.1
one_end close ts a b apart (inr s) (inr t) =
    mark_behind close t.0 a b (subst (λ l. IsMark close l a) (mark_behind Comma ts s.0 t.0 s.1 t.1) s.2) t.2

-- no item behind the end
end_or_item : {A : Type 0} (y : Tree) (ts a next mid : List Word)
    → IsMark CloseBracket ts a ⊎ ((next : List Word) × IsMark Comma ts next × IsMark CloseBracket next a)
    → IsMark Comma ts next → Spells y next mid → A
end_or_item y ts a next mid (inl s) comma t = marks_differ CloseBracket Comma ts a next (λ e. cc) s comma
end_or_item y ts a next mid (inr s) comma t =
    absurd (no_mark CloseBracket y next mid a refl t
    (subst (λ l. IsMark CloseBracket l a) (mark_behind Comma ts s.0 next s.1 comma) s.2))

-- no entry behind the end
end_or_entry : {A : Type 0} (at : Place) (name : List ℕ) (ts a next colon : List Word)
    → IsMark CloseBrace ts a ⊎ ((next : List Word) × IsMark Comma ts next × IsMark CloseBrace next a)
    → IsMark Comma ts next → IsWord Ident at name next colon → A
end_or_entry at name ts a next colon (inl s) comma t = marks_differ CloseBrace Comma ts a next (λ e. cc) s comma
end_or_entry at name ts a next colon (inr s) comma t =
    let close = subst (λ l. IsMark CloseBrace l a) (mark_behind Comma ts s.0 next s.1 comma) s.2 in
    absurd (starts_not Ident (Mark CloseBrace) at name next colon (λ e. cc) t
    (record { kind = Mark CloseBrace; at = close.0; text = close.1.0 }) a close.1.1 refl)

mutual
  tree_only : (x : Tree) → (IsPrim x → IsOnlyPrim x) × IsOnly x
  tree_only (Leaf at atom) = let same = only_leaf at atom in ((λ prim. same), only (Leaf at atom) tt same)
  tree_only (Items at xs) =
      let same = only_items at xs (λ ys ts a b s t. items_only xs ys ts a b s t) in
      ((λ prim. same), only (Items at xs) tt same)
  tree_only (Body at es) =
      let same = only_body at es (λ fs ts a b s t. entries_only es fs ts a b s t) in
      ((λ prim. same), only (Body at es) tt same)
  tree_only (Sum x terms) = (
    (λ prim. absurd prim),
    only_sum x terms (tree_only x).0 (λ ys ts a b s t na nb. terms_only terms ys ts a b s t na nb),
  )

  terms_only : (xs : Terms) → IsOnlyTerms xs
  terms_only no_term no_term ts a b s t na nb = (refl, sym s ∙ t)
  terms_only no_term (term_and q y ys) ts a b s t na nb =
      absurd (plus_here (term_and q y ys) ts b tt t (subst (StartsNot (Mark Plus)) (sym s) na))
  terms_only (term_and p x xs) no_term ts a b s t na nb =
      absurd (plus_here (term_and p x xs) ts a tt s (subst (StartsNot (Mark Plus)) (sym t) nb))
  terms_only (term_and p x xs) (term_and q y ys) ts a b s t na nb =
      let w = one_mark Plus Plus ts s.0 t.0 (p, s.2) (q, t.2) in
      let f = (tree_only x).0 s.3 y t.0 s.1 t.1 t.3 (subst (λ l. Spells x l s.1) w.rest s.4) t.4 in
      let g = terms_only xs ys t.1 a b (subst (λ l. SpellsTerms xs l a) f.1 s.5) t.5 na nb in
      ((λ i. term_and (w.at i) (f.0 i) (g.0 i)), g.1)

  items_only : (xs ys : Trees) (ts a b : List Word) → SpellsItems xs ts a → SpellsItems ys ts b → (xs ≡ ys) × (a ≡ b)
  items_only no_tree no_tree ts a b s t = (refl, mark_behind CloseBracket ts a b s t)
  items_only no_tree (tree_and y ys) ts a b s t = absurd (no_mark CloseBracket y ts t.0 a refl t.1 s)
  items_only (tree_and x xs) no_tree ts a b s t = absurd (no_mark CloseBracket x ts s.0 b refl s.1 t)
  items_only (tree_and x xs) (tree_and y ys) ts a b s t =
      let f = (tree_only x).1 y ts s.0 t.0 s.1 t.1 (no_plus_items xs s.0 a s.2) (no_plus_items ys t.0 b t.2) in
      let g = more_items_only xs ys t.0 a b (subst (λ l. SpellsMoreItems xs l a) f.1 s.2) t.2 in
      ((λ i. tree_and (f.0 i) (g.0 i)), g.1)

  more_items_only : (xs ys : Trees) (ts a b : List Word) → SpellsMoreItems xs ts a → SpellsMoreItems ys ts b
      → (xs ≡ ys) × (a ≡ b)
  more_items_only no_tree no_tree ts a b s t = (refl, one_end CloseBracket ts a b (λ e. cc) s t)
  more_items_only no_tree (tree_and y ys) ts a b s t = end_or_item y ts a t.0 t.1 s t.2 t.3
  more_items_only (tree_and x xs) no_tree ts a b s t = end_or_item x ts b s.0 s.1 t s.2 s.3
  more_items_only (tree_and x xs) (tree_and y ys) ts a b s t =
      let next = mark_behind Comma ts s.0 t.0 s.2 t.2 in
      let f = (tree_only x).1 y t.0 s.1 t.1 (subst (λ l. Spells x l s.1) next s.3) t.3 (no_plus_items xs s.1 a s.4)
      (no_plus_items ys t.1 b t.4) in
      let g = more_items_only xs ys t.1 a b (subst (λ l. SpellsMoreItems xs l a) f.1 s.4) t.4 in
      ((λ i. tree_and (f.0 i) (g.0 i)), g.1)

  entries_only : (ds es : Entries) (ts a b : List Word) → SpellsEntries ds ts a → SpellsEntries es ts b
      → (ds ≡ es) × (a ≡ b)
  entries_only no_entry no_entry ts a b s t = (refl, mark_behind CloseBrace ts a b s t)
  entries_only no_entry (entry_and n q y es) ts a b s t =
      absurd (starts_not Ident (Mark CloseBrace) q n ts t.0 (λ e. cc) t.3
      (record { kind = Mark CloseBrace; at = s.0; text = s.1.0 }) a s.1.1 refl)
  entries_only (entry_and m p x ds) no_entry ts a b s t =
      absurd (starts_not Ident (Mark CloseBrace) p m ts s.0 (λ e. cc) s.3
      (record { kind = Mark CloseBrace; at = t.0; text = t.1.0 }) b t.1.1 refl)
  entries_only (entry_and m p x ds) (entry_and n q y es) ts a b s t =
      let w = one_word Ident Ident p q m n ts s.0 t.0 s.3 t.3 in
      let next = mark_behind Colon t.0 s.1 t.1 (subst (λ l. IsMark Colon l s.1) w.rest s.4) t.4 in
      let f = (tree_only x).1 y t.1 s.2 t.2 (subst (λ l. Spells x l s.2) next s.5) t.5 (no_plus_entries ds s.2 a s.6)
      (no_plus_entries es t.2 b t.6) in
      let g = more_entries_only ds es t.2 a b (subst (λ l. SpellsMoreEntries ds l a) f.1 s.6) t.6 in
      ((λ i. entry_and (w.text i) (w.at i) (f.0 i) (g.0 i)), g.1)

  more_entries_only : (ds es : Entries) (ts a b : List Word) → SpellsMoreEntries ds ts a → SpellsMoreEntries es ts b
      → (ds ≡ es) × (a ≡ b)
  more_entries_only no_entry no_entry ts a b s t = (refl, one_end CloseBrace ts a b (λ e. cc) s t)
  more_entries_only no_entry (entry_and n q y es) ts a b s t = end_or_entry q n ts a t.0 t.1 s t.4 t.5
  more_entries_only (entry_and m p x ds) no_entry ts a b s t = end_or_entry p m ts b s.0 s.1 t s.4 s.5
  more_entries_only (entry_and m p x ds) (entry_and n q y es) ts a b s t =
      let first = mark_behind Comma ts s.0 t.0 s.4 t.4 in
      let w = one_word Ident Ident p q m n t.0 s.1 t.1 (subst (λ l. IsWord Ident p m l s.1) first s.5) t.5 in
      let next = mark_behind Colon t.1 s.2 t.2 (subst (λ l. IsMark Colon l s.2) w.rest s.6) t.6 in
      let f = (tree_only x).1 y t.2 s.3 t.3 (subst (λ l. Spells x l s.3) next s.7) t.7 (no_plus_entries ds s.3 a s.8)
      (no_plus_entries es t.3 b t.8) in
      let g = more_entries_only ds es t.3 a b (subst (λ l. SpellsMoreEntries ds l a) f.1 s.8) t.8 in
      ((λ i. entry_and (w.text i) (w.at i) (f.0 i) (g.0 i)), g.1)

-- the values of definitions, behind one name
one_value : (mark : Punct) (m n : List ℕ) (p q : Place) (x y : Tree) (ts a b ma mb na nb : List Word)
    → IsWord Ident p m ts ma → IsMark mark ma na → Spells x na a → IsWord Ident q n ts mb → IsMark mark mb nb
    → Spells y nb b → StartsNot (Mark Plus) a → StartsNot (Mark Plus) b → (p ≡ q) × (m ≡ n) × (x ≡ y) × (a ≡ b)
one_value mark m n p q x y ts a b ma mb na nb s0 s1 s2 t0 t1 t2 ea eb =
    let w = one_word Ident Ident p q m n ts ma mb s0 t0 in
    let next = mark_behind mark mb na nb (subst (λ l. IsMark mark l na) w.rest s1) t1 in
    let f = (tree_only x).1 y nb a b (subst (λ l. Spells x l a) next s2) t2 ea eb in
    (w.at, w.text, f.0, f.1)

-- behind one name stands one mark
other_mark : {A : Type 0} (j k : Punct) (m n : List ℕ) (p q : Place) (ts ma mb na nb : List Word) → (j ≡ k → ⊥)
    → IsWord Ident p m ts ma → IsMark j ma na → IsWord Ident q n ts mb → IsMark k mb nb → A
other_mark j k m n p q ts ma mb na nb apart s0 s1 t0 t1 =
    let w = one_word Ident Ident p q m n ts ma mb s0 t0 in
    marks_differ j k mb na nb apart (subst (λ l. IsMark j l na) w.rest s1) t1

one_def : (d e : Definition) (ts a b : List Word) → SpellsDef d ts a → SpellsDef e ts b → StartsNot (Mark Plus) a
    → StartsNot (Mark Plus) b → (d ≡ e) × (a ≡ b)
one_def (Assigns m p x) (Assigns n q y) ts a b s t na nb =
    let f = one_value Equal m n p q x y ts a b s.0 t.0 s.1 t.1 s.2.0 s.3 s.4 t.2.0 t.3 t.4 na nb in
    ((λ i. Assigns (f.1 i) (f.0 i) (f.2 i)), f.3)
one_def (Assigns m p x) (Extends n q y) ts a b s t na nb =
    other_mark Equal PlusEqual m n p q ts s.0 t.0 s.1 t.1 (λ e. cc) s.2.0 s.3 t.2.0 t.3
one_def (Assigns m p x) (Declares n q y) ts a b s t na nb =
    other_mark Equal OpenBrace m n p q ts s.0 t.0 s.1 t.2.0 (λ e. cc) s.2.0 s.3 t.1.0 (y.at, t.2.1)
one_def (Extends m p x) (Assigns n q y) ts a b s t na nb =
    other_mark PlusEqual Equal m n p q ts s.0 t.0 s.1 t.1 (λ e. cc) s.2.0 s.3 t.2.0 t.3
one_def (Extends m p x) (Extends n q y) ts a b s t na nb =
    let f = one_value PlusEqual m n p q x y ts a b s.0 t.0 s.1 t.1 s.2.0 s.3 s.4 t.2.0 t.3 t.4 na nb in
    ((λ i. Extends (f.1 i) (f.0 i) (f.2 i)), f.3)
one_def (Extends m p x) (Declares n q y) ts a b s t na nb =
    other_mark PlusEqual OpenBrace m n p q ts s.0 t.0 s.1 t.2.0 (λ e. cc) s.2.0 s.3 t.1.0 (y.at, t.2.1)
one_def (Declares m p x) (Assigns n q y) ts a b s t na nb =
    other_mark OpenBrace Equal m n p q ts s.0 t.0 s.2.0 t.1 (λ e. cc) s.1.0 (x.at, s.2.1) t.2.0 t.3
one_def (Declares m p x) (Extends n q y) ts a b s t na nb =
    other_mark OpenBrace PlusEqual m n p q ts s.0 t.0 s.2.0 t.1 (λ e. cc) s.1.0 (x.at, s.2.1) t.2.0 t.3
one_def (Declares m p x) (Declares n q y) ts a b s t na nb =
    let w = one_word Ident Ident p q m n ts s.0 t.0 s.1.0 t.1.0 in
    let brace = one_mark OpenBrace OpenBrace t.0 s.2.0 t.2.0
    (x.at, subst (λ l. IsMarkAt OpenBrace x.at l s.2.0) w.rest s.2.1) (y.at, t.2.1) in
    let f =
    entries_only x.entries y.entries t.2.0 a b (subst (λ l. SpellsEntries x.entries l a) brace.rest s.2.2) t.2.2 in
    ((λ i. Declares (w.text i) (w.at i) (record { at = brace.at i; entries = f.0 i })), f.1)

pub one_file : (ds es : List Definition) (ts : List Word) → SpellsFile ds ts → SpellsFile es ts → ds ≡ es
one_file [] [] ts s t = refl
one_file [] (e ∷ es) ts s t = let i = def_ident e ts t.0 t.1 in nil_cons (sym s ∙ i.3)
one_file (d ∷ ds) [] ts s t = let i = def_ident d ts s.0 s.1 in nil_cons (sym t ∙ i.3)
one_file (d ∷ ds) (e ∷ es) ts s t =
    let f = one_def d e ts s.0 t.0 s.1 t.1 (no_plus_file ds s.0 s.2) (no_plus_file es t.0 t.2) in
    let g = one_file ds es t.0 (subst (SpellsFile ds) f.1 s.2) t.2 in
    λ i. f.0 i ∷ g i
