-- What is spelled stands in a front of the words, and like words spell a tree that is the same but for places.
use Rattle.std.proofs.Common.{◌≡◌, ℕ, List, [], ◌∷◌, ◌++◌, sym, refl, ap, ◌∙◌, subst, inl, inr, append_assoc}
use Rattle.std.specs.Prelude.{⊤}
use Rattle.bp_faults.specs.declared.place.Place.{Place}
use Rattle.bp_lexer.specs.declared.token.Punct.{Punct}
use Rattle.bp_lexer.specs.declared.token.Punct.TheVariants.{OpenBrace, CloseBrace, OpenBracket, CloseBracket, Colon}
use Rattle.bp_lexer.specs.declared.token.Punct.TheVariants.{Comma, Equal, PlusEqual, Plus}
use Rattle.bp_lexer.specs.declared.token.TokenKind.{TokenKind}
use Rattle.bp_lexer.specs.declared.token.TokenKind.TheVariants.{Ident, Punct as Mark}
use Rattle.bp_parser.specs.Trees.{Tree, Leaf, Items, Body, Sum, Trees, no_tree, tree_and, Terms, no_term, term_and}
use Rattle.bp_parser.specs.Trees.{Entries, no_entry, entry_and, Definition, Assigns, Extends, Declares}
use Rattle.bp_parser.specs.Words.{Word}
use Rattle.bp_parser.specs.Grammar.{IsWord, IsMarkAt, IsMark, IsPrim, HasTerm, Spells, SpellsTerms, SpellsItems}
use Rattle.bp_parser.specs.Grammar.{SpellsMoreItems, SpellsEntries, SpellsMoreEntries, SpellsDef}
use Rattle.bp_format.specs.WithoutPlaces.{tree_without_places, items_without_places, terms_without_places}
use Rattle.bp_format.specs.WithoutPlaces.{entries_without_places, definition_without_places, word_content}
use Rattle.bp_format.specs.WithoutPlaces.{word_contents, origin}

-- the words are the same but for places
abbrev pub Alike : List Word → List Word → Type 0
Alike ts us = word_contents ts ≡ word_contents us

-- R says that x is spelled by ts up to rest: then it is spelled by a front, and what is like that front spells the same
-- but for places.
pub record Moves {A : Type 0} (R : A → List Word → List Word → Type 0) (Same : A → A → Type 0) (x : A)
    (ts rest : List Word) : Type 0 where
  pub front : List Word
  pub split : ts ≡ front ++ rest
  pub again : (us : List Word) → Alike front us → (y : A) × Same x y × ((other : List Word) → R y (us ++ other) other)

-- a list that is like two, one behind the other
pub alike_parts : (a b us : List Word) → Alike (a ++ b) us → (u v : List Word) × (us ≡ u ++ v) × Alike a u × Alike b v
alike_parts [] b us same = ([], us, refl, refl, same)
alike_parts (w ∷ a) b [] same = absurd cc
alike_parts (w ∷ a) b (x ∷ us) same =
    let head : word_content w ≡ word_content x = cc in
    let rest : Alike (a ++ b) us = cc in
    let p = alike_parts a b us rest in
    (x ∷ p.0, p.1, ap (λ l. x ∷ l) p.2, (λ i. head i ∷ p.3 i), p.4)

pub both : {A B : Type 0} {R : A → List Word → List Word → Type 0} {S : A → A → Type 0} {Q : B → List Word → List Word
    → Type 0} {T : B → B → Type 0} {x : A} {y : B} {ts mid rest : List Word} → Moves R S x ts mid
    → Moves Q T y mid rest →
    Moves (λ (p : A × B) us other. (mid : List Word) × R p.0 us mid × Q p.1 mid other) (λ p q. S p.0 q.0 × T p.1 q.1)
    (x, y) ts rest
both {R = R} {rest = rest} m n = record {
  front = m.front ++ n.front;
  split = m.split ∙ ap (λ l. m.front ++ l) n.split ∙ sym (append_assoc m.front n.front rest);
  again = λ us same.
      let p = alike_parts m.front n.front us same in
      let a = m.again p.0 p.3 in
      let b = n.again p.1 p.4 in (
        (a.0, b.0),
        (a.1, b.1),
        λ other. (
          p.1 ++ other,
          subst (λ l. R a.0 l (p.1 ++ other)) (sym (ap (λ l. l ++ other) p.2 ∙ append_assoc p.0 p.1 other))
              (a.2 (p.1 ++ other)),
          b.2 other,
        ),
      );
}

pub change : {A B : Type 0} {R : A → List Word → List Word → Type 0} {S : A → A → Type 0} {Q : B → List Word → List Word
    → Type 0} {T : B → B → Type 0} {x : A} {ts rest : List Word} (f : A → B) → ((y : A) → S x y → T (f x) (f y))
    → ((y : A) → S x y → (us other : List Word) → R y us other → Q (f y) us other) → Moves R S x ts rest
    → Moves Q T (f x) ts rest
change f same keeps m = record {
  front = m.front;
  split = m.split;
  again = λ us alike.
      let a = m.again us alike in
      (f a.0, same a.0 a.1, λ other. keeps a.0 a.1 (us ++ other) other (a.2 other));
}

abbrev pub Any : Place → Place → Type 0
Any p q = ⊤

abbrev pub HasWord : TokenKind → List ℕ → Place → List Word → List Word → Type 0
HasWord kind text at ts rest = IsWord kind at text ts rest

like_word : (kind : TokenKind) (at : Place) (text : List ℕ) (us : List Word)
    → Alike (record { kind = kind; at = at; text = text } ∷ []) us
    → (place : Place) × (us ≡ record { kind = kind; at = place; text = text } ∷ [])
like_word kind at text [] same = absurd cc
like_word kind at text (u ∷ v ∷ us) same = absurd cc
like_word kind at text (u ∷ []) same =
    let head : (kind, text) ≡ word_content u = cc in
    (u.at, λ i. record { kind = (sym head i).0; at = u.at; text = (sym head i).1 } ∷ [])

pub word : (kind : TokenKind) (at : Place) (text : List ℕ) (ts rest : List Word) → IsWord kind at text ts rest
    → Moves (HasWord kind text) Any at ts rest
word kind at text ts rest is = record {
  front = record { kind = kind; at = at; text = text } ∷ [];
  split = is;
  again = λ us alike.
      let w = like_word kind at text us alike in
      (w.0, tt, λ other. ap (λ l. l ++ other) w.1);
}

pub mark : (m : Punct) (at : Place) (ts rest : List Word) → IsMarkAt m at ts rest → Moves (IsMarkAt m) Any at ts rest
mark m at ts rest is = change (λ p. p) (λ y s. s) (λ y s us other w. (is.0, w)) (word (Mark m) at is.0 ts rest is.1)

abbrev pub SameTree : Tree → Tree → Type 0
SameTree x y = tree_without_places x ≡ tree_without_places y

abbrev pub SameTerms : Terms → Terms → Type 0
SameTerms x y = terms_without_places x ≡ terms_without_places y

abbrev pub SameItems : Trees → Trees → Type 0
SameItems x y = items_without_places x ≡ items_without_places y

abbrev pub SameEntries : Entries → Entries → Type 0
SameEntries x y = entries_without_places x ≡ entries_without_places y

prim_bare : (x : Tree) → IsPrim x → IsPrim (tree_without_places x)
prim_bare (Leaf at atom) is = tt
prim_bare (Items at xs) is = tt
prim_bare (Body at es) is = tt
prim_bare (Sum x terms) is = is

bare_prim : (x : Tree) → IsPrim (tree_without_places x) → IsPrim x
bare_prim (Leaf at atom) is = tt
bare_prim (Items at xs) is = tt
bare_prim (Body at es) is = tt
bare_prim (Sum x terms) is = is

prim_kept : (x y : Tree) → SameTree x y → IsPrim x → IsPrim y
prim_kept x y same is = bare_prim y (subst IsPrim same (prim_bare x is))

term_bare : (x : Terms) → HasTerm x → HasTerm (terms_without_places x)
term_bare no_term is = is
term_bare (term_and at x terms) is = tt

bare_term : (x : Terms) → HasTerm (terms_without_places x) → HasTerm x
bare_term no_term is = is
bare_term (term_and at x terms) is = tt

term_kept : (x y : Terms) → SameTerms x y → HasTerm x → HasTerm y
term_kept x y same is = bare_term y (subst HasTerm same (term_bare x is))

-- a mark at any place
end_mark : {B : Type 0} {Q : B → List Word → List Word → Type 0} {T : B → B → Type 0} (m : Punct) (b : B)
    (ts rest : List Word) → T b b → ((us other : List Word) → IsMark m us other → Q b us other) → IsMark m ts rest
    → Moves Q T b ts rest
end_mark m b ts rest same keeps is =
    change (λ (p : Place). b) (λ y s. same) (λ y s us other r. keeps us other (y, r)) (mark m is.0 ts rest is.1)

-- a comma and a mark
end_comma : {B : Type 0} {Q : B → List Word → List Word → Type 0} {T : B → B → Type 0} (m : Punct) (b : B)
    (ts next rest : List Word) → T b b
    → ((us mid other : List Word) → IsMark Comma us mid → IsMark m mid other → Q b us other) → IsMark Comma ts next
    → IsMark m next rest → Moves Q T b ts rest
end_comma m b ts next rest same keeps comma is =
    change (λ (p : Place × Place). b) (λ y s. same) (λ y s us other r. keeps us r.0 other (y.0, r.1) (y.1, r.2))
    (both (mark Comma comma.0 ts next comma.1) (mark m is.0 next rest is.1))

pub no_word : (us : List Word) → Alike [] us → us ≡ []
no_word [] same = refl
no_word (u ∷ us) same = absurd cc

mutual
  pub moves : (x : Tree) (ts rest : List Word) → Spells x ts rest → Moves Spells SameTree x ts rest
  moves (Leaf at atom) ts rest s =
      change (λ (p : Place). Leaf p atom) (λ y e. refl) (λ y e us other w. (s.0, s.1, w, s.3))
      (word s.0 at s.1 ts rest s.2)
  moves (Items at xs) ts rest s =
      change (λ (p : Place × Trees). Items p.0 p.1) (λ y e. ap (Items origin) e.1) (λ y e us other r. (r.0, r.1, r.2))
      (both (mark OpenBracket at ts s.0 s.1) (moves_items xs s.0 rest s.2))
  moves (Body at es) ts rest s =
      change (λ (p : Place × Entries). Body p.0 p.1) (λ y e. ap (Body origin) e.1) (λ y e us other r. (r.0, r.1, r.2))
      (both (mark OpenBrace at ts s.0 s.1) (moves_entries es s.0 rest s.2))
  moves (Sum x terms) ts rest s =
      change (λ (p : Tree × Terms). Sum p.0 p.1) (λ y e. (λ i. Sum (e.0 i) (e.1 i)))
      (λ y e us other r. (r.0, prim_kept x y.0 e.0 s.1, term_kept terms y.1 e.1 s.2, r.1, r.2))
      (both (moves x ts s.0 s.3) (moves_terms terms s.0 rest s.4))

  moves_terms : (x : Terms) (ts rest : List Word) → SpellsTerms x ts rest → Moves SpellsTerms SameTerms x ts rest
  moves_terms no_term ts rest s = record {
    front = [];
    split = s;
    again = λ us alike. (no_term, refl, λ other. ap (λ l. l ++ other) (no_word us alike));
  }
  moves_terms (term_and at x terms) ts rest s =
      change (λ (p : Place × (Tree × Terms)). term_and p.0 p.1.0 p.1.1)
      (λ y e. (λ i. term_and origin (e.1.0 i) (e.1.1 i)))
      (λ y e us other r. (r.0, r.2.0, r.1, prim_kept x y.1.0 e.1.0 s.3, r.2.1, r.2.2))
      (both (mark Plus at ts s.0 s.2) (both (moves x s.0 s.1 s.4) (moves_terms terms s.1 rest s.5)))

  moves_items : (xs : Trees) (ts rest : List Word) → SpellsItems xs ts rest → Moves SpellsItems SameItems xs ts rest
  moves_items no_tree ts rest s = end_mark CloseBracket no_tree ts rest refl (λ us other m. m) s
  moves_items (tree_and x xs) ts rest s =
      change (λ (p : Tree × Trees). tree_and p.0 p.1) (λ y e. (λ i. tree_and (e.0 i) (e.1 i)))
      (λ y e us other r. (r.0, r.1, r.2)) (both (moves x ts s.0 s.1) (moves_more_items xs s.0 rest s.2))

  moves_more_items : (xs : Trees) (ts rest : List Word) → SpellsMoreItems xs ts rest
      → Moves SpellsMoreItems SameItems xs ts rest
  moves_more_items no_tree ts rest (inl s) = end_mark CloseBracket no_tree ts rest refl (λ us other m. inl m) s
  moves_more_items no_tree ts rest (inr s) =
      end_comma CloseBracket no_tree ts s.0 rest refl (λ us mid other c m. inr (mid, c, m)) s.1 s.2
  moves_more_items (tree_and x xs) ts rest s =
      change (λ (p : Place × (Tree × Trees)). tree_and p.1.0 p.1.1) (λ y e. (λ i. tree_and (e.1.0 i) (e.1.1 i)))
      (λ y e us other r. (r.0, r.2.0, (y.0, r.1), r.2.1, r.2.2))
      (both (mark Comma s.2.0 ts s.0 s.2.1) (both (moves x s.0 s.1 s.3) (moves_more_items xs s.1 rest s.4)))

  moves_entries : (es : Entries) (ts rest : List Word) → SpellsEntries es ts rest
      → Moves SpellsEntries SameEntries es ts rest
  moves_entries no_entry ts rest s = end_mark CloseBrace no_entry ts rest refl (λ us other m. m) s
  moves_entries (entry_and name at x es) ts rest s =
      change (λ (p : Place × (Place × (Tree × Entries))). entry_and name p.0 p.1.1.0 p.1.1.1)
      (λ y e. (λ i. entry_and name origin (e.1.1.0 i) (e.1.1.1 i)))
      (λ y e us other r. (r.0, r.2.0, r.2.2.0, r.1, (y.1.0, r.2.1), r.2.2.1, r.2.2.2))
      (both (word Ident at name ts s.0 s.3)
      (both (mark Colon s.4.0 s.0 s.1 s.4.1) (both (moves x s.1 s.2 s.5) (moves_more_entries es s.2 rest s.6))))

  moves_more_entries : (es : Entries) (ts rest : List Word) → SpellsMoreEntries es ts rest
      → Moves SpellsMoreEntries SameEntries es ts rest
  moves_more_entries no_entry ts rest (inl s) = end_mark CloseBrace no_entry ts rest refl (λ us other m. inl m) s
  moves_more_entries no_entry ts rest (inr s) =
      end_comma CloseBrace no_entry ts s.0 rest refl (λ us mid other c m. inr (mid, c, m)) s.1 s.2
  moves_more_entries (entry_and name at x es) ts rest s =
      change (λ (p : Place × (Place × (Place × (Tree × Entries)))). entry_and name p.1.0 p.1.1.1.0 p.1.1.1.1)
      (λ y e. (λ i. entry_and name origin (e.1.1.1.0 i) (e.1.1.1.1 i)))
      (λ y e us other r. (r.0, r.2.0, r.2.2.0, r.2.2.2.0, (y.0, r.1), r.2.1, (y.1.1.0, r.2.2.1), r.2.2.2.1, r.2.2.2.2))
      (both (mark Comma s.4.0 ts s.0 s.4.1) (both (word Ident at name s.0 s.1 s.5)
      (both (mark Colon s.6.0 s.1 s.2 s.6.1) (both (moves x s.2 s.3 s.7) (moves_more_entries es s.3 rest s.8)))))

abbrev pub SameDef : Definition → Definition → Type 0
SameDef d e = definition_without_places d ≡ definition_without_places e

pub moves_def : (d : Definition) (ts rest : List Word) → SpellsDef d ts rest → Moves SpellsDef SameDef d ts rest
moves_def (Assigns name at x) ts rest s =
    change (λ (p : Place × (Place × Tree)). Assigns name p.0 p.1.1) (λ y e. ap (Assigns name origin) e.1.1)
    (λ y e us other r. (r.0, r.2.0, (r.1, s.2.1), (y.1.0, r.2.1), r.2.2))
    (both (word Ident at name ts s.0 s.2.0) (both (mark Equal s.3.0 s.0 s.1 s.3.1) (moves x s.1 rest s.4)))
moves_def (Extends name at x) ts rest s =
    change (λ (p : Place × (Place × Tree)). Extends name p.0 p.1.1) (λ y e. ap (Extends name origin) e.1.1)
    (λ y e us other r. (r.0, r.2.0, (r.1, s.2.1), (y.1.0, r.2.1), r.2.2))
    (both (word Ident at name ts s.0 s.2.0) (both (mark PlusEqual s.3.0 s.0 s.1 s.3.1) (moves x s.1 rest s.4)))
moves_def (Declares kind at m) ts rest s =
    change (λ (p : Place × (Place × Entries)). Declares kind p.0 (record { at = p.1.0; entries = p.1.1 }))
    (λ y e. ap (λ es. Declares kind origin (record { at = origin; entries = es })) e.1.1)
    (λ y e us other r. (r.0, (r.1, s.1.1), (r.2.0, r.2.1, r.2.2)))
    (both (word Ident at kind ts s.0 s.1.0)
    (both (mark OpenBrace m.at s.0 s.2.0 s.2.1) (moves_entries m.entries s.2.0 rest s.2.2)))
