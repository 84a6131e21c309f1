-- The first word of what is spelled.
use Rattle.std.proofs.Common.{◌≡◌, ℕ, List, [], ◌∷◌, Bool, true, false, Some, None, sym, refl, ap, ◌∙◌, subst, inl, inr}
use Rattle.bp_faults.specs.declared.place.Place.{Place}
use Rattle.bp_lexer.specs.declared.token.Punct.{Punct}
use Rattle.bp_lexer.specs.declared.token.Punct.TheVariants.{OpenBrace, CloseBrace, OpenBracket, CloseBracket, Comma}
use Rattle.bp_lexer.specs.declared.token.Punct.TheVariants.{Plus}
use Rattle.bp_lexer.specs.declared.token.TokenKind.{TokenKind}
use Rattle.bp_lexer.specs.declared.token.TokenKind.TheVariants.{Ident, Int, Quoted, Raw, Punct as Mark}
use Rattle.bp_parser.specs.Trees.{Atom, Tree, Leaf, Items, Body, Sum, Trees, no_tree, tree_and, Terms, no_term}
use Rattle.bp_parser.specs.Trees.{term_and, Entries, no_entry, entry_and, Definition, Assigns, Extends, Declares}
use Rattle.bp_parser.specs.Words.{Word, atom_of}
use Rattle.bp_parser.specs.Grammar.{IsWord, IsMark, Spells, SpellsTerms, SpellsMoreItems, SpellsMoreEntries, SpellsDef}
use Rattle.bp_parser.specs.Grammar.{SpellsFile, HasTerm}
use Rattle.bp_parser.specs.Machine.{StartsNot}

pub same_head : (v w : Word) (ts us : List Word) → v ∷ ts ≡ w ∷ us → (v ≡ w) × (ts ≡ us)
same_head v w ts us e = (cc, cc)

pub nil_cons : {A : Type 0} {w : Word} {ts : List Word} → [] ≡ w ∷ ts → A
nil_cons e = absurd cc

pub none_some : {A : Type 0} {B : Type 0} (x : A) → None ≡ Some x → B
none_some x e = absurd cc

pub some_same : {A : Type 0} (x y : A) → Some x ≡ Some y → x ≡ y
some_same x y e = cc

pub true_false : {A : Type 0} → true ≡ false → A
true_false e = absurd cc

-- two first words are one
pub record SameWord (k l : TokenKind) (p q : Place) (m n : List ℕ) (a b : List Word) : Type 0 where
  pub kind : k ≡ l
  pub at : p ≡ q
  pub text : m ≡ n
  pub rest : a ≡ b

pub one_word : (k l : TokenKind) (p q : Place) (m n : List ℕ) (ts a b : List Word) → IsWord k p m ts a
    → IsWord l q n ts b → SameWord k l p q m n a b
one_word k l p q m n ts a b s t =
    let v : Word = record { kind = k; at = p; text = m } in
    let w : Word = record { kind = l; at = q; text = n } in
    let e = same_head v w a b (sym s ∙ t) in
    record {
      kind = ap (λ (x : Word). x.kind) e.0;
      at = ap (λ (x : Word). x.at) e.0;
      text = ap (λ (x : Word). x.text) e.0;
      rest = e.1;
    }

-- what begins with one word begins with no other
pub starts_not : (k other : TokenKind) (p : Place) (n : List ℕ) (ts rest : List Word) → (k ≡ other → ⊥)
    → IsWord k p n ts rest → StartsNot other ts
starts_not k other p n ts rest apart s w more is kind =
    let e = same_head w (record { kind = k; at = p; text = n }) more rest (sym is ∙ s) in
    apart (sym (ap (λ (x : Word). x.kind) e.0) ∙ kind)

pub mark_not : (m : Punct) (other : TokenKind) (ts rest : List Word) → (Mark m ≡ other → ⊥) → IsMark m ts rest
    → StartsNot other ts
mark_not m other ts rest apart s = starts_not (Mark m) other s.0 s.1.0 ts rest apart s.1.1

pub none_starts : (kind : TokenKind) → StartsNot kind []
none_starts kind w rest is same = nil_cons is

-- what an expression begins with
abbrev pub starts : TokenKind → Bool
starts Ident = true
starts Int = true
starts Quoted = true
starts Raw = true
starts (Mark OpenBracket) = true
starts (Mark OpenBrace) = true
starts _ = false

atom_starts : (k : TokenKind) (n : List ℕ) (atom : Atom) → atom_of k n ≡ Some atom → starts k ≡ true
atom_starts Ident n atom e = refl
atom_starts Int n atom e = refl
atom_starts Quoted n atom e = refl
atom_starts Raw n atom e = refl
atom_starts _ n atom e = none_some atom e

pub first_word : (x : Tree) (ts rest : List Word) → Spells x ts rest
    → (w : Word) × (more : List Word) × (ts ≡ w ∷ more) × (starts w.kind ≡ true)
first_word (Leaf at atom) ts rest s =
    (record { kind = s.0; at = at; text = s.1 }, rest, s.2, atom_starts s.0 s.1 atom s.3)
first_word (Items at xs) ts rest s = (record { kind = Mark OpenBracket; at = at; text = s.1.0 }, s.0, s.1.1, refl)
first_word (Body at es) ts rest s = (record { kind = Mark OpenBrace; at = at; text = s.1.0 }, s.0, s.1.1, refl)
first_word (Sum x terms) ts rest s = first_word x ts s.0 s.3

pub no_mark : (m : Punct) (x : Tree) (ts mid rest : List Word) → starts (Mark m) ≡ false → Spells x ts mid
    → IsMark m ts rest → ⊥
no_mark m x ts mid rest apart s t =
    let f = first_word x ts mid s in
    let e = same_head f.0 (record { kind = Mark m; at = t.0; text = t.1.0 }) f.1 rest (sym f.2 ∙ t.1.1) in
    true_false (sym f.3 ∙ ap (λ (w : Word). starts w.kind) e.0 ∙ apart)

-- no plus stands behind an item, an entry or a definition

pub no_plus_items : (xs : Trees) (ts rest : List Word) → SpellsMoreItems xs ts rest → StartsNot (Mark Plus) ts
no_plus_items no_tree ts rest (inl s) = mark_not CloseBracket (Mark Plus) ts rest (λ e. cc) s
no_plus_items no_tree ts rest (inr s) = mark_not Comma (Mark Plus) ts s.0 (λ e. cc) s.1
no_plus_items (tree_and x xs) ts rest s = mark_not Comma (Mark Plus) ts s.0 (λ e. cc) s.2

pub no_plus_entries : (es : Entries) (ts rest : List Word) → SpellsMoreEntries es ts rest → StartsNot (Mark Plus) ts
no_plus_entries no_entry ts rest (inl s) = mark_not CloseBrace (Mark Plus) ts rest (λ e. cc) s
no_plus_entries no_entry ts rest (inr s) = mark_not Comma (Mark Plus) ts s.0 (λ e. cc) s.1
no_plus_entries (entry_and n at x es) ts rest s = mark_not Comma (Mark Plus) ts s.0 (λ e. cc) s.4

-- the name that a definition begins with
pub def_ident : (d : Definition) (ts rest : List Word) → SpellsDef d ts rest
    → (at : Place) × (name : List ℕ) × (more : List Word) × IsWord Ident at name ts more
def_ident (Assigns name at x) ts rest s = (at, name, s.0, s.2.0)
def_ident (Extends name at x) ts rest s = (at, name, s.0, s.2.0)
def_ident (Declares kind at m) ts rest s = (at, kind, s.0, s.1.0)

pub no_plus_file : (ds : List Definition) (ts : List Word) → SpellsFile ds ts → StartsNot (Mark Plus) ts
no_plus_file [] ts s = subst (StartsNot (Mark Plus)) (sym s) (none_starts (Mark Plus))
no_plus_file (d ∷ ds) ts s = let i = def_ident d ts s.0 s.1 in starts_not Ident (Mark Plus) i.0 i.1 ts i.2 (λ e. cc) i.3

pub plus_here : (terms : Terms) (ts rest : List Word) → HasTerm terms → SpellsTerms terms ts rest
    → StartsNot (Mark Plus) ts → ⊥
plus_here no_term ts rest has s none' = has
plus_here (term_and at x terms) ts rest has s none' =
    none' (record { kind = Mark Plus; at = at; text = s.2.0 }) s.0 s.2.1 refl
