-- What the parts that are expected stand for. A word is expected where it begins them, and only there.
use Rattle.std.specs.Prelude.{◌⊎◌, cond}
use Rattle.std.proofs.Common.{◌≡◌, ℕ, List, [], ◌∷◌, ◌++◌, Bool, true, false, Option, Some, None, sym, refl, ap, ◌∙◌}
use Rattle.std.proofs.Common.{subst, inl, inr}
use Rattle.std.proofs.lemmas.Bool.{cond-true, cond-false}
use Rattle.bp_faults.specs.Faults.{file_start}
use Rattle.bp_faults.specs.declared.place.Place.{Place}
use Rattle.bp_lexer.specs.declared.token.Punct.{Punct}
use Rattle.bp_lexer.specs.declared.token.Punct.TheVariants.{OpenBrace, CloseBrace, OpenBracket, CloseBracket, Colon}
use Rattle.bp_lexer.specs.declared.token.Punct.TheVariants.{Comma, Equal, PlusEqual, Plus}
use Rattle.bp_lexer.specs.declared.token.TokenKind.{TokenKind}
use Rattle.bp_lexer.specs.declared.token.TokenKind.TheVariants.{Ident, Int, Quoted, Raw, Punct as Mark}
use Rattle.bp_lexer.specs.Meaning.{string_of}
use Rattle.bp_parser.specs.declared.flaw.Flaw.{Flaw}
use Rattle.bp_parser.specs.declared.flaw.Flaw.TheVariants.{Unexpected}
use Rattle.bp_parser.specs.Trees.{Atom, Str, Tree, Leaf, Items, Body, Sum, Trees, no_tree, tree_and, Terms, no_term}
use Rattle.bp_parser.specs.Trees.{term_and, Entries, no_entry, entry_and, Definition, Assigns, Extends, Declares}
use Rattle.bp_parser.specs.Words.{Word, is_truth, atom_of}
use Rattle.bp_parser.specs.Grammar.{IsWord, IsMarkAt, IsMark, IsPrim, Spells, SpellsTerms, SpellsItems, SpellsMoreItems}
use Rattle.bp_parser.specs.Grammar.{SpellsEntries, SpellsMoreEntries, SpellsDef, SpellsFile}
use Rattle.bp_parser.specs.Machine.{Part, an_expr, more_terms, items, more_items, a_colon, entries, more_entries}
use Rattle.bp_parser.specs.Machine.{a_value, expected_behind, with_rest, is_plus, begin_def, behind_all, at_end}
use Rattle.bp_parser.specs.Machine.{StartsNot}
use Rattle.bp_parser.proofs.Firsts.{same_head, nil_cons, none_some, some_same, true_false, starts_not, none_starts}
use Rattle.bp_parser.proofs.Firsts.{first_word, no_plus_items, no_plus_entries, no_plus_file}

-- { "+" Prim }, and no plus behind
abbrev pub SpelledTerms : List Word → List Word → Type 0
SpelledTerms ts rest = (terms : Terms) × SpellsTerms terms ts rest × StartsNot (Mark Plus) rest

-- Prim { "+" Prim }, and no plus behind
abbrev pub SpelledExpr : List Word → List Word → Type 0
SpelledExpr ts rest = (x : Tree) × (mid : List Word) × IsPrim x × Spells x ts mid × SpelledTerms mid rest

-- what stands behind the name of a definition
abbrev pub SpelledValue : List Word → List Word → Type 0
SpelledValue ts rest =
    ((next : List Word) × IsMark Equal ts next × SpelledExpr next rest)
    ⊎ (((next : List Word) × IsMark PlusEqual ts next × SpelledExpr next rest)
    ⊎ ((at : Place) × (es : Entries) × Spells (Body at es) ts rest))

-- ts is a spelling of the part, and rest behind it
abbrev pub Spelled : Part → List Word → List Word → Type 0
Spelled an_expr ts rest = SpelledExpr ts rest
Spelled more_terms ts rest = SpelledTerms ts rest
Spelled items ts rest = (xs : Trees) × SpellsItems xs ts rest
Spelled more_items ts rest = (xs : Trees) × SpellsMoreItems xs ts rest
Spelled a_colon ts rest = IsMark Colon ts rest
Spelled (entries names) ts rest = (es : Entries) × SpellsEntries es ts rest
Spelled (more_entries names) ts rest = (es : Entries) × SpellsMoreEntries es ts rest
Spelled a_value ts rest = SpelledValue ts rest

abbrev pub Chain : List Part → List Word → List Word → Type 0
Chain [] ts rest = ts ≡ rest
Chain (p ∷ ps) ts rest = (mid : List Word) × Spelled p ts mid × Chain ps mid rest

-- the words are the parts, and definitions behind them
abbrev pub Lang : List Part → List Word → Type 0
Lang [] ts = (ds : List Definition) × SpellsFile ds ts
Lang (p ∷ ps) ts = (mid : List Word) × Spelled p ts mid × Lang ps mid

chain_append : (ps qs : List Part) (a b c : List Word) → Chain ps a b → Chain qs b c → Chain (ps ++ qs) a c
chain_append [] qs a b c x y = subst (λ l. Chain qs l c) (sym x) y
chain_append (p ∷ ps) qs a b c x y = (x.0, x.1, chain_append ps qs x.0 b c x.2 y)

chain_lang : (ps qs : List Part) (a b : List Word) → Chain ps a b → Lang qs b → Lang (ps ++ qs) a
chain_lang [] qs a b x y = subst (Lang qs) (sym x) y
chain_lang (p ∷ ps) qs a b x y = (x.0, x.1, chain_lang ps qs x.0 b x.2 y)

lang_chain : (ps qs : List Part) (a : List Word) → Lang (ps ++ qs) a → (b : List Word) × Chain ps a b × Lang qs b
lang_chain [] qs a x = (a, refl, x)
lang_chain (p ∷ ps) qs a x = let f = lang_chain ps qs x.0 x.2 in (f.0, (x.0, x.1, f.1), f.2)

-- an expression is a first term and others

split_expr : (x : Tree) (ts rest : List Word) → Spells x ts rest → StartsNot (Mark Plus) rest → SpelledExpr ts rest
split_expr (Leaf at atom) ts rest s none' = (Leaf at atom, rest, tt, s, (no_term, refl, none'))
split_expr (Items at xs) ts rest s none' = (Items at xs, rest, tt, s, (no_term, refl, none'))
split_expr (Body at es) ts rest s none' = (Body at es, rest, tt, s, (no_term, refl, none'))
split_expr (Sum x terms) ts rest s none' = (x, s.0, s.1, s.3, (terms, s.4, none'))

join_terms : (x : Tree) (terms : Terms) (ts mid rest : List Word) → IsPrim x → Spells x ts mid
    → SpellsTerms terms mid rest → (y : Tree) × Spells y ts rest
join_terms x no_term ts mid rest prim s t = (x, subst (Spells x ts) t s)
join_terms x (term_and at y terms) ts mid rest prim s t = (Sum x (term_and at y terms), (mid, prim, tt, s, t))

pub join_expr : (ts rest : List Word) → SpelledExpr ts rest → (y : Tree) × Spells y ts rest
join_expr ts rest s = join_terms s.0 s.4.0 ts s.1 rest s.2 s.3 s.4.1

-- the first word of a spelling is expected

pub record Sound (p : Part) (w : Word) (ts rest : List Word) : Type 0 where
  pub new : List Part
  pub next : expected_behind p w.kind w.text ≡ Some new
  pub spelled : Chain new ts rest

pub record SoundPrim (w : Word) (ts rest : List Word) : Type 0 where
  pub new : List Part
  pub alone : expected_behind an_expr w.kind w.text ≡ Some (new ++ more_terms ∷ [])
  pub item : expected_behind items w.kind w.text ≡ Some (new ++ more_terms ∷ more_items ∷ [])
  pub spelled : Chain new ts rest

pub atom_alone : (k : TokenKind) (n : List ℕ) (atom : Atom) → atom_of k n ≡ Some atom
    → expected_behind an_expr k n ≡ Some (more_terms ∷ [])
atom_alone Ident n atom e = refl
atom_alone Int n atom e = refl
atom_alone Quoted n atom e = refl
atom_alone Raw n atom e = refl
atom_alone _ n atom e = none_some atom e

atom_item : (k : TokenKind) (n : List ℕ) (atom : Atom) → atom_of k n ≡ Some atom
    → expected_behind items k n ≡ Some (more_terms ∷ more_items ∷ [])
atom_item Ident n atom e = refl
atom_item Int n atom e = refl
atom_item Quoted n atom e = refl
atom_item Raw n atom e = refl
atom_item _ n atom e = none_some atom e

-- what is expected behind a word is so by its kind and its text
behind_word : (p : Part) (v w : Word) (new : List Part) → v ≡ w → expected_behind p w.kind w.text ≡ Some new
    → expected_behind p v.kind v.text ≡ Some new
behind_word p v w new same e = ap (λ (x : Word). expected_behind p x.kind x.text) same ∙ e

sound_prim : (x : Tree) (w : Word) (ts rest : List Word) → IsPrim x → Spells x (w ∷ ts) rest → SoundPrim w ts rest
sound_prim (Leaf at atom) w ts rest prim s =
    let v : Word = record { kind = s.0; at = at; text = s.1 } in
    let e = same_head w v ts rest s.2 in
    record {
      new = [];
      alone = behind_word an_expr w v (more_terms ∷ []) e.0 (atom_alone s.0 s.1 atom s.3);
      item = behind_word items w v (more_terms ∷ more_items ∷ []) e.0 (atom_item s.0 s.1 atom s.3);
      spelled = e.1;
    }
sound_prim (Items at xs) w ts rest prim s =
    let v : Word = record { kind = Mark OpenBracket; at = at; text = s.1.0 } in
    let e = same_head w v ts s.0 s.1.1 in
    record {
      new = items ∷ [];
      alone = behind_word an_expr w v (items ∷ more_terms ∷ []) e.0 refl;
      item = behind_word items w v (items ∷ more_terms ∷ more_items ∷ []) e.0 refl;
      spelled = (rest, (xs, subst (λ l. SpellsItems xs l rest) (sym e.1) s.2), refl);
    }
sound_prim (Body at es) w ts rest prim s =
    let v : Word = record { kind = Mark OpenBrace; at = at; text = s.1.0 } in
    let e = same_head w v ts s.0 s.1.1 in
    record {
      new = entries [] ∷ [];
      alone = behind_word an_expr w v (entries [] ∷ more_terms ∷ []) e.0 refl;
      item = behind_word items w v (entries [] ∷ more_terms ∷ more_items ∷ []) e.0 refl;
      spelled = (rest, (es, subst (λ l. SpellsEntries es l rest) (sym e.1) s.2), refl);
    }
sound_prim (Sum x terms) w ts rest prim s = absurd prim

sound_expr : (w : Word) (ts rest : List Word) → SpelledExpr (w ∷ ts) rest → Sound an_expr w ts rest
sound_expr w ts rest s =
    let f = sound_prim s.0 w ts s.1 s.2 s.3 in
    record {
      new = f.new ++ more_terms ∷ [];
      next = f.alone;
      spelled = chain_append f.new (more_terms ∷ []) ts s.1 rest f.spelled (rest, s.4, refl);
    }

-- a mark that is expected
sound_mark : (p : Part) (m : Punct) (new : List Part) (w : Word) (ts next rest : List Word)
    → ((n : List ℕ) → expected_behind p (Mark m) n ≡ Some new) → IsMark m (w ∷ ts) next → Chain new next rest
    → Sound p w ts rest
sound_mark p m new w ts next rest expects s chain =
    let v : Word = record { kind = Mark m; at = s.0; text = s.1.0 } in
    let e = same_head w v ts next s.1.1 in
    record {
      new = new;
      next = behind_word p w v new e.0 (expects s.1.0);
      spelled = subst (λ l. Chain new l rest) (sym e.1) chain;
    }

sound_items : (xs : Trees) (w : Word) (ts rest : List Word) → SpellsItems xs (w ∷ ts) rest → Sound items w ts rest
sound_items no_tree w ts rest s = sound_mark items CloseBracket [] w ts rest rest (λ n. refl) s refl
sound_items (tree_and x xs) w ts rest s =
    let g = split_expr x (w ∷ ts) s.0 s.1 (no_plus_items xs s.0 rest s.2) in
    let f = sound_prim g.0 w ts g.1 g.2 g.3 in
    record {
      new = f.new ++ more_terms ∷ more_items ∷ [];
      next = f.item;
      spelled =
          chain_append f.new (more_terms ∷ more_items ∷ []) ts g.1 rest f.spelled (s.0, g.4, (rest, (xs, s.2), refl));
    }

sound_more_items : (xs : Trees) (w : Word) (ts rest : List Word) → SpellsMoreItems xs (w ∷ ts) rest
    → Sound more_items w ts rest
sound_more_items no_tree w ts rest (inl s) = sound_mark more_items CloseBracket [] w ts rest rest (λ n. refl) s refl
sound_more_items no_tree w ts rest (inr s) =
    sound_mark more_items Comma (items ∷ []) w ts s.0 rest (λ n. refl) s.1 (rest, (no_tree, s.2), refl)
sound_more_items (tree_and x xs) w ts rest s =
    sound_mark more_items Comma (items ∷ []) w ts s.0 rest (λ n. refl) s.2
    (rest, (tree_and x xs, (s.1, s.3, s.4)), refl)

sound_entries : (names : List (List ℕ)) (es : Entries) (w : Word) (ts rest : List Word) → SpellsEntries es (w ∷ ts) rest
    → Sound (entries names) w ts rest
sound_entries names no_entry w ts rest s = sound_mark (entries names) CloseBrace [] w ts rest rest (λ n. refl) s refl
sound_entries names (entry_and n at x es) w ts rest s =
    let v : Word = record { kind = Ident; at = at; text = n } in
    let e = same_head w v ts s.0 s.3 in
    let value = split_expr x s.1 s.2 s.5 (no_plus_entries es s.2 rest s.6) in
    let new = a_colon ∷ an_expr ∷ more_entries (names ++ n ∷ []) ∷ [] in
    record {
      new = new;
      next = behind_word (entries names) w v new e.0 refl;
      spelled = subst (λ l. Chain new l rest) (sym e.1) (s.1, s.4, (s.2, value, (rest, (es, s.6), refl)));
    }

sound_more_entries : (names : List (List ℕ)) (es : Entries) (w : Word) (ts rest : List Word)
    → SpellsMoreEntries es (w ∷ ts) rest → Sound (more_entries names) w ts rest
sound_more_entries names no_entry w ts rest (inl s) =
    sound_mark (more_entries names) CloseBrace [] w ts rest rest (λ n. refl) s refl
sound_more_entries names no_entry w ts rest (inr s) =
    sound_mark (more_entries names) Comma (entries names ∷ []) w ts s.0 rest (λ n. refl) s.1
    (rest, (no_entry, s.2), refl)
sound_more_entries names (entry_and n at x es) w ts rest s =
    sound_mark (more_entries names) Comma (entries names ∷ []) w ts s.0 rest (λ n. refl) s.4
    (rest, (entry_and n at x es, (s.1, s.2, s.3, s.5, s.6, s.7, s.8)), refl)

sound_value : (w : Word) (ts rest : List Word) → SpelledValue (w ∷ ts) rest → Sound a_value w ts rest
sound_value w ts rest (inl s) = sound_mark a_value Equal (an_expr ∷ []) w ts s.0 rest (λ n. refl) s.1 (rest, s.2, refl)
sound_value w ts rest (inr (inl s)) =
    sound_mark a_value PlusEqual (an_expr ∷ []) w ts s.0 rest (λ n. refl) s.1 (rest, s.2, refl)
sound_value w ts rest (inr (inr s)) =
    sound_mark a_value OpenBrace (entries [] ∷ []) w ts s.2.0 rest (λ n. refl) (s.0, s.2.1) (rest, (s.1, s.2.2), refl)

abbrev IsTerms : Part → Type 0
IsTerms more_terms = Unit {0}
IsTerms _ = ⊥

-- of more_terms `behind_all` takes care
sound : (p : Part) (w : Word) (ts rest : List Word) → (IsTerms p → ⊥) → Spelled p (w ∷ ts) rest → Sound p w ts rest
sound an_expr w ts rest other s = sound_expr w ts rest s
sound more_terms w ts rest other s = absurd (other tt)
sound items w ts rest other s = sound_items s.0 w ts rest s.1
sound more_items w ts rest other s = sound_more_items s.0 w ts rest s.1
sound a_colon w ts rest other s = sound_mark a_colon Colon [] w ts rest rest (λ n. refl) s refl
sound (entries names) w ts rest other s = sound_entries names s.0 w ts rest s.1
sound (more_entries names) w ts rest other s = sound_more_entries names s.0 w ts rest s.1
sound a_value w ts rest other s = sound_value w ts rest s

-- behind what is expected comes what a word begins
pub record SoundAll (ps : List Part) (w : Word) (ts : List Word) : Type 0 where
  pub new : List Part
  pub next : behind_all ps w.kind w.text ≡ Some new
  pub lang : Lang new ts

with_part : (p : Part) (ps : List Part) (w : Word) (ts rest : List Word) → ((o : Option (List Part))
    → expected_behind p w.kind w.text ≡ o → behind_all (p ∷ ps) w.kind w.text ≡ with_rest o ps) → Sound p w ts rest
    → Lang ps rest → SoundAll (p ∷ ps) w ts
with_part p ps w ts rest goes f more = record {
  new = f.new ++ ps;
  next = goes (Some f.new) f.next;
  lang = chain_lang f.new ps ts rest f.spelled more;
}

def_value : (d : Definition) (ts rest : List Word) → SpellsDef d ts rest → StartsNot (Mark Plus) rest
    → (at : Place) × (name : List ℕ) × (more : List Word) × IsWord Ident at name ts more × (is_truth name ≡ false)
    × SpelledValue more rest
def_value (Assigns name at x) ts rest s none' =
    (at, name, s.0, s.2.0, s.2.1, inl (s.1, s.3, split_expr x s.1 rest s.4 none'))
def_value (Extends name at x) ts rest s none' =
    (at, name, s.0, s.2.0, s.2.1, inr (inl (s.1, s.3, split_expr x s.1 rest s.4 none')))
def_value (Declares kind at m) ts rest s none' = (at, kind, s.0, s.1.0, s.1.1, inr (inr (m.at, m.entries, s.2)))

begin_name : (n : List ℕ) → is_truth n ≡ false → begin_def Ident n ≡ Some (a_value ∷ [])
begin_name n name = cond-false (is_truth n) _ _ name

sound_def : (d : Definition) (ds : List Definition) (w : Word) (ts rest : List Word) → SpellsDef d (w ∷ ts) rest
    → SpellsFile ds rest → SoundAll [] w ts
sound_def d ds w ts rest s file =
    let f = def_value d (w ∷ ts) rest s (no_plus_file ds rest file) in
    let v : Word = record { kind = Ident; at = f.0; text = f.1 } in
    let e = same_head w v ts f.2 f.3 in
    record {
      new = a_value ∷ [];
      next = ap (λ (x : Word). begin_def x.kind x.text) e.0 ∙ begin_name f.1 f.4;
      lang = subst (λ l. Lang (a_value ∷ []) l) (sym e.1) (rest, f.5, (ds, file));
    }

plus_next : (ps : List Part) (k : TokenKind) (n : List ℕ) → is_plus k ≡ true
    → behind_all (more_terms ∷ ps) k n ≡ Some (an_expr ∷ ps)
plus_next ps k n plus = cond-true (is_plus k) _ _ plus

pub no_plus_next : (ps : List Part) (k : TokenKind) (n : List ℕ) → is_plus k ≡ false
    → behind_all (more_terms ∷ ps) k n ≡ behind_all ps k n
no_plus_next ps k n other = cond-false (is_plus k) _ _ other

pub not_plus : (k : TokenKind) → (k ≡ Mark Plus → ⊥) → is_plus k ≡ false
not_plus (Mark Plus) other = absurd (other refl)
not_plus _ other = refl

pub plus_kind : (k : TokenKind) → is_plus k ≡ true → k ≡ Mark Plus
plus_kind (Mark Plus) plus = refl
plus_kind _ plus = true_false (sym plus)

-- a further term, or none
sound_terms : (terms : Terms) (ps : List Part) (w : Word) (ts mid : List Word) → SpellsTerms terms (w ∷ ts) mid
    → StartsNot (Mark Plus) mid → Lang ps mid → (Lang ps (w ∷ ts) → SoundAll ps w ts) → SoundAll (more_terms ∷ ps) w ts
sound_terms no_term ps w ts mid s none' more below =
    let f = below (subst (Lang ps) (sym s) more) in
    let other = not_plus w.kind (λ k. subst (StartsNot (Mark Plus)) (sym s) none' w ts refl k) in
    record { new = f.new; next = no_plus_next ps w.kind w.text other ∙ f.next; lang = f.lang }
sound_terms (term_and at x terms) ps w ts mid s none' more below =
    let v : Word = record { kind = Mark Plus; at = at; text = s.2.0 } in
    let e = same_head w v ts s.0 s.2.1 in
    record {
      new = an_expr ∷ ps;
      next = plus_next ps w.kind w.text (ap (λ (x : Word). is_plus x.kind) e.0);
      lang = (mid, (x, s.1, s.3, subst (λ l. Spells x l s.1) (sym e.1) s.4, (terms, s.5, none')), more);
    }

pub sound_all : (ps : List Part) (w : Word) (ts : List Word) → Lang ps (w ∷ ts) → SoundAll ps w ts
sound_all [] w ts ([], s) = nil_cons (sym s)
sound_all [] w ts ((d ∷ ds), s) = sound_def d ds w ts s.0 s.1 s.2
sound_all (more_terms ∷ ps) w ts (rest, s, more) =
    sound_terms s.0 ps w ts rest s.1 s.2 more (λ lang. sound_all ps w ts lang)
sound_all (an_expr ∷ ps) w ts (rest, s, more) =
    with_part an_expr ps w ts rest (λ o e. ap (λ l. with_rest l ps) e) (sound an_expr w ts rest (λ t. t) s) more
sound_all (items ∷ ps) w ts (rest, s, more) =
    with_part items ps w ts rest (λ o e. ap (λ l. with_rest l ps) e) (sound items w ts rest (λ t. t) s) more
sound_all (more_items ∷ ps) w ts (rest, s, more) =
    with_part more_items ps w ts rest (λ o e. ap (λ l. with_rest l ps) e) (sound more_items w ts rest (λ t. t) s) more
sound_all (a_colon ∷ ps) w ts (rest, s, more) =
    with_part a_colon ps w ts rest (λ o e. ap (λ l. with_rest l ps) e) (sound a_colon w ts rest (λ t. t) s) more
sound_all (entries names ∷ ps) w ts (rest, s, more) =
    with_part (entries names) ps w ts rest (λ o e. ap (λ l. with_rest l ps) e)
    (sound (entries names) w ts rest (λ t. t) s) more
sound_all (more_entries names ∷ ps) w ts (rest, s, more) =
    with_part (more_entries names) ps w ts rest (λ o e. ap (λ l. with_rest l ps) e)
    (sound (more_entries names) w ts rest (λ t. t) s) more
sound_all (a_value ∷ ps) w ts (rest, s, more) =
    with_part a_value ps w ts rest (λ o e. ap (λ l. with_rest l ps) e) (sound a_value w ts rest (λ t. t) s) more

-- an expected word is the first of a spelling

abbrev Completes : Option (List Part) → Part → Word → List Word → List Word → Type 0
Completes None p w ts rest = Unit {0}
Completes (Some new) p w ts rest = Chain new ts rest → Spelled p (w ∷ ts) rest

-- the last part of a chain
last : (p : Part) (ts rest : List Word) → Chain (p ∷ []) ts rest → Spelled p ts rest
last p ts rest chain = subst (Spelled p ts) chain.2 chain.1

pub item : (ts mid rest : List Word) → SpelledExpr ts mid → Spelled more_items mid rest → Spelled items ts rest
item ts mid rest s more = let x = join_expr ts mid s in (tree_and x.0 more.0, (mid, x.1, more.1))

pub after_comma_items : (xs : Trees) (ts next rest : List Word) → IsMark Comma ts next → SpellsItems xs next rest
    → SpellsMoreItems xs ts rest
after_comma_items no_tree ts next rest comma s = inr (next, comma, s)
after_comma_items (tree_and x xs) ts next rest comma s = (next, s.0, comma, s.1, s.2)

pub after_comma_entries : (es : Entries) (ts next rest : List Word) → IsMark Comma ts next → SpellsEntries es next rest
    → SpellsMoreEntries es ts rest
after_comma_entries no_entry ts next rest comma s = inr (next, comma, s)
after_comma_entries (entry_and n at x es) ts next rest comma s = (next, s.0, s.1, s.2, comma, s.3, s.4, s.5, s.6)

-- a token that is an expression by itself, and terms behind it
pub leaf_expr : (k : TokenKind) (at : Place) (n : List ℕ) (atom : Atom) (ts rest : List Word) → atom_of k n ≡ Some atom
    → SpelledTerms ts rest → SpelledExpr (record { kind = k; at = at; text = n } ∷ ts) rest
leaf_expr k at n atom ts rest is terms = (Leaf at atom, ts, tt, (k, n, refl, is), terms)

pub list_expr : (at : Place) (n : List ℕ) (ts mid rest : List Word) → Spelled items ts mid → SpelledTerms mid rest
    → SpelledExpr (record { kind = Mark OpenBracket; at = at; text = n } ∷ ts) rest
list_expr at n ts mid rest s terms = (Items at s.0, mid, tt, (ts, (n, refl), s.1), terms)

pub map_expr : (at : Place) (n : List ℕ) (ts mid rest : List Word) → Spelled (entries []) ts mid → SpelledTerms mid rest
    → SpelledExpr (record { kind = Mark OpenBrace; at = at; text = n } ∷ ts) rest
map_expr at n ts mid rest s terms = (Body at s.0, mid, tt, (ts, (n, refl), s.1), terms)

complete : (p : Part) (k : TokenKind) (at : Place) (n : List ℕ) (ts rest : List Word)
    → Completes (expected_behind p k n) p (record { kind = k; at = at; text = n }) ts rest
complete an_expr Ident at n ts rest = λ chain. leaf_expr Ident at n _ ts rest refl (last more_terms ts rest chain)
complete an_expr Int at n ts rest = λ chain. leaf_expr Int at n _ ts rest refl (last more_terms ts rest chain)
complete an_expr Quoted at n ts rest = λ chain. leaf_expr Quoted at n _ ts rest refl (last more_terms ts rest chain)
complete an_expr Raw at n ts rest = λ chain. leaf_expr Raw at n _ ts rest refl (last more_terms ts rest chain)
complete an_expr (Mark OpenBracket) at n ts rest =
    λ chain. list_expr at n ts chain.0 rest chain.1 (last more_terms chain.0 rest chain.2)
complete an_expr (Mark OpenBrace) at n ts rest =
    λ chain. map_expr at n ts chain.0 rest chain.1 (last more_terms chain.0 rest chain.2)
complete an_expr _ at n ts rest = tt
complete more_terms _ at n ts rest = tt
complete items (Mark CloseBracket) at n ts rest =
    λ chain. (no_tree, (at, (n, ap (λ l. record { kind = Mark CloseBracket; at = at; text = n } ∷ l) chain)))
complete items Ident at n ts rest =
    λ chain. item _ chain.0 rest (leaf_expr Ident at n _ ts chain.0 refl chain.1) (last more_items chain.0 rest chain.2)
complete items Int at n ts rest =
    λ chain. item _ chain.0 rest (leaf_expr Int at n _ ts chain.0 refl chain.1) (last more_items chain.0 rest chain.2)
complete items Quoted at n ts rest =
    λ chain.
    item _ chain.0 rest (leaf_expr Quoted at n _ ts chain.0 refl chain.1) (last more_items chain.0 rest chain.2)
complete items Raw at n ts rest =
    λ chain. item _ chain.0 rest (leaf_expr Raw at n _ ts chain.0 refl chain.1) (last more_items chain.0 rest chain.2)
complete items (Mark OpenBracket) at n ts rest =
    λ chain. item _ chain.2.0 rest (list_expr at n ts chain.0 chain.2.0 chain.1 chain.2.1)
    (last more_items chain.2.0 rest chain.2.2)
complete items (Mark OpenBrace) at n ts rest =
    λ chain. item _ chain.2.0 rest (map_expr at n ts chain.0 chain.2.0 chain.1 chain.2.1)
    (last more_items chain.2.0 rest chain.2.2)
complete items _ at n ts rest = tt
complete more_items (Mark CloseBracket) at n ts rest =
    λ chain. (no_tree, inl (at, (n, ap (λ l. record { kind = Mark CloseBracket; at = at; text = n } ∷ l) chain)))
complete more_items (Mark Comma) at n ts rest =
    λ chain. let s = last items ts rest chain in (s.0, after_comma_items s.0 _ ts rest (at, (n, refl)) s.1)
complete more_items _ at n ts rest = tt
complete a_colon (Mark Colon) at n ts rest =
    λ chain. (at, (n, ap (λ l. record { kind = Mark Colon; at = at; text = n } ∷ l) chain))
complete a_colon _ at n ts rest = tt
complete (entries names) (Mark CloseBrace) at n ts rest =
    λ chain. (no_entry, (at, (n, ap (λ l. record { kind = Mark CloseBrace; at = at; text = n } ∷ l) chain)))
complete (entries names) Ident at n ts rest = λ chain.
    let x = join_expr chain.0 chain.2.0 chain.2.1 in
    let more = last (more_entries (names ++ n ∷ [])) chain.2.0 rest chain.2.2 in
    (entry_and n at x.0 more.0, (ts, chain.0, chain.2.0, refl, chain.1, x.1, more.1))
complete (entries names) _ at n ts rest = tt
complete (more_entries names) (Mark CloseBrace) at n ts rest =
    λ chain. (no_entry, inl (at, (n, ap (λ l. record { kind = Mark CloseBrace; at = at; text = n } ∷ l) chain)))
complete (more_entries names) (Mark Comma) at n ts rest =
    λ chain. let s = last (entries names) ts rest chain in (s.0, after_comma_entries s.0 _ ts rest (at, (n, refl)) s.1)
complete (more_entries names) _ at n ts rest = tt
complete a_value (Mark Equal) at n ts rest = λ chain. inl (ts, (at, (n, refl)), last an_expr ts rest chain)
complete a_value (Mark PlusEqual) at n ts rest = λ chain. inr (inl (ts, (at, (n, refl)), last an_expr ts rest chain))
complete a_value (Mark OpenBrace) at n ts rest =
    λ chain. let s = last (entries []) ts rest chain in inr (inr (at, s.0, (ts, (n, refl), s.1)))
complete a_value _ at n ts rest = tt

abbrev pub CompletesAll : Option (List Part) → List Part → Word → List Word → Type 0
CompletesAll None ps w ts = Unit {0}
CompletesAll (Some new) ps w ts = Lang new ts → Lang ps (w ∷ ts)

with_more : (o : Option (List Part)) (p : Part) (ps : List Part) (w : Word) (ts : List Word)
    → ((rest : List Word) → Completes o p w ts rest) → CompletesAll (with_rest o ps) (p ∷ ps) w ts
with_more None p ps w ts c = tt
with_more (Some new) p ps w ts c = λ lang. let s = lang_chain new ps ts lang in (s.0, c s.0 s.1, s.2)

-- the definition that a name and a value are
make_def : (at : Place) (n : List ℕ) (ts rest : List Word) → is_truth n ≡ false → SpelledValue ts rest
    → (d : Definition) × SpellsDef d (record { kind = Ident; at = at; text = n } ∷ ts) rest
make_def at n ts rest name (inl s) =
    let x = join_expr s.0 rest s.2 in (Assigns n at x.0, (ts, s.0, (refl, name), s.1, x.1))
make_def at n ts rest name (inr (inl s)) =
    let x = join_expr s.0 rest s.2 in (Extends n at x.0, (ts, s.0, (refl, name), s.1, x.1))
make_def at n ts rest name (inr (inr s)) = (Declares n at (record { at = s.0; entries = s.1 }), (ts, (refl, name), s.2))

complete_name : (b : Bool) (at : Place) (n : List ℕ) (ts : List Word) → is_truth n ≡ b
    → CompletesAll (cond b None (Some (a_value ∷ []))) [] (record { kind = Ident; at = at; text = n }) ts
complete_name true at n ts is = tt
complete_name false at n ts is =
    λ lang. let d = make_def at n ts lang.0 is lang.1 in (d.0 ∷ lang.2.0, (lang.0, d.1, lang.2.1))

complete_def : (k : TokenKind) (at : Place) (n : List ℕ) (ts : List Word)
    → CompletesAll (begin_def k n) [] (record { kind = k; at = at; text = n }) ts
complete_def Ident at n ts = complete_name (is_truth n) at n ts refl
complete_def _ at n ts = tt

-- where a sum ends, what is behind it begins
skip : (o : Option (List Part)) (ps : List Part) (w : Word) (ts : List Word) → is_plus w.kind ≡ false
    → CompletesAll o ps w ts → CompletesAll o (more_terms ∷ ps) w ts
skip None ps w ts other c = tt
skip (Some new) ps w ts other c =
    λ lang. (
      w ∷ ts,
      (
        no_term,
        refl,
        λ v rest e k. true_false (sym (ap is_plus (ap (λ (x : Word). x.kind) (same_head w v ts rest e).0 ∙ k)) ∙ other),
      ),
      c lang,
    )

complete_terms : (b : Bool) (ps : List Part) (k : TokenKind) (at : Place) (n : List ℕ) (ts : List Word) → is_plus k ≡ b
    → CompletesAll (behind_all ps k n) ps (record { kind = k; at = at; text = n }) ts → CompletesAll (cond b
    (Some (an_expr ∷ ps)) (behind_all ps k n)) (more_terms ∷ ps) (record { kind = k; at = at; text = n }) ts
complete_terms true ps k at n ts is c = λ lang.
    let s = lang.1 in
    let plus : IsMarkAt Plus at (record { kind = k; at = at; text = n } ∷ ts) ts =
    (n, ap (λ l. record { kind = l; at = at; text = n } ∷ ts) (plus_kind k is)) in
    (lang.0, (term_and at s.0 s.4.0, (ts, s.1, plus, s.2, s.3, s.4.1), s.4.2), lang.2)
complete_terms false ps k at n ts is c = skip (behind_all ps k n) ps (record { kind = k; at = at; text = n }) ts is c

pub complete_all : (ps : List Part) (k : TokenKind) (at : Place) (n : List ℕ) (ts : List Word)
    → CompletesAll (behind_all ps k n) ps (record { kind = k; at = at; text = n }) ts
complete_all [] k at n ts = complete_def k at n ts
complete_all (more_terms ∷ ps) k at n ts = complete_terms (is_plus k) ps k at n ts refl (complete_all ps k at n ts)
complete_all (an_expr ∷ ps) k at n ts =
    with_more (expected_behind an_expr k n) an_expr ps _ ts (complete an_expr k at n ts)
complete_all (items ∷ ps) k at n ts = with_more (expected_behind items k n) items ps _ ts (complete items k at n ts)
complete_all (more_items ∷ ps) k at n ts =
    with_more (expected_behind more_items k n) more_items ps _ ts (complete more_items k at n ts)
complete_all (a_colon ∷ ps) k at n ts =
    with_more (expected_behind a_colon k n) a_colon ps _ ts (complete a_colon k at n ts)
complete_all (entries names ∷ ps) k at n ts =
    with_more (expected_behind (entries names) k n) (entries names) ps _ ts (complete (entries names) k at n ts)
complete_all (more_entries names ∷ ps) k at n ts =
    with_more (expected_behind (more_entries names) k n) (more_entries names) ps _ ts
    (complete (more_entries names) k at n ts)
complete_all (a_value ∷ ps) k at n ts =
    with_more (expected_behind a_value k n) a_value ps _ ts (complete a_value k at n ts)

-- what is expected can be spelled, and begins with no plus

abbrev a_word : TokenKind → Word
a_word k = record { kind = k; at = file_start 0; text = [] }

begun : (k : TokenKind) (ts : List Word) → (k ≡ Mark Plus → ⊥) → StartsNot (Mark Plus) (a_word k ∷ ts)
begun k ts other = starts_not k (Mark Plus) (file_start 0) [] (a_word k ∷ ts) ts other refl

pub spelling_all : (ps : List Part) → (ts : List Word) × Lang ps ts × StartsNot (Mark Plus) ts
spelling_all [] = ([], ([], refl), none_starts (Mark Plus))
spelling_all (more_terms ∷ ps) = let r = spelling_all ps in (r.0, (r.0, (no_term, refl, r.2), r.1), r.2)
spelling_all (an_expr ∷ ps) =
    let r = spelling_all ps in (
      a_word Quoted ∷ r.0,
      (r.0, leaf_expr Quoted (file_start 0) [] (Str (string_of Quoted [])) r.0 r.0 refl (no_term, refl, r.2), r.1),
      begun Quoted r.0 (λ e. cc),
    )
spelling_all (items ∷ ps) =
    let r = spelling_all ps in (
      a_word (Mark CloseBracket) ∷ r.0,
      (r.0, (no_tree, (file_start 0, ([], refl))), r.1),
      begun (Mark CloseBracket) r.0 (λ e. cc),
    )
spelling_all (more_items ∷ ps) =
    let r = spelling_all ps in (
      a_word (Mark CloseBracket) ∷ r.0,
      (r.0, (no_tree, inl (file_start 0, ([], refl))), r.1),
      begun (Mark CloseBracket) r.0 (λ e. cc),
    )
spelling_all (a_colon ∷ ps) =
    let r = spelling_all ps in
    (a_word (Mark Colon) ∷ r.0, (r.0, (file_start 0, ([], refl)), r.1), begun (Mark Colon) r.0 (λ e. cc))
spelling_all (entries names ∷ ps) =
    let r = spelling_all ps in (
      a_word (Mark CloseBrace) ∷ r.0,
      (r.0, (no_entry, (file_start 0, ([], refl))), r.1),
      begun (Mark CloseBrace) r.0 (λ e. cc),
    )
spelling_all (more_entries names ∷ ps) =
    let r = spelling_all ps in (
      a_word (Mark CloseBrace) ∷ r.0,
      (r.0, (no_entry, inl (file_start 0, ([], refl))), r.1),
      begun (Mark CloseBrace) r.0 (λ e. cc),
    )
spelling_all (a_value ∷ ps) =
    let r = spelling_all ps in
    let close : List Word = a_word (Mark CloseBrace) ∷ r.0 in (
      a_word (Mark OpenBrace) ∷ close,
      (r.0, inr (inr (file_start 0, no_entry, (close, ([], refl), (file_start 0, ([], refl))))), r.1),
      begun (Mark OpenBrace) close (λ e. cc),
    )

-- only a sum may end without a word

no_tree_here : {A : Type 0} (x : Tree) (rest : List Word) → Spells x [] rest → A
no_tree_here x rest s = let f = first_word x [] rest s in nil_cons f.2

no_expr_here : {A : Type 0} (rest : List Word) → SpelledExpr [] rest → A
no_expr_here rest s = no_tree_here s.0 s.1 s.3

no_value_here : {A : Type 0} (rest : List Word) → SpelledValue [] rest → A
no_value_here rest (inl s) = nil_cons s.1.1.1
no_value_here rest (inr (inl s)) = nil_cons s.1.1.1
no_value_here rest (inr (inr s)) = nil_cons s.2.1.1

no_end_here : {A : Type 0} (m : Punct) (rest : List Word) → IsMark m [] rest → A
no_end_here m rest s = nil_cons s.1.1

no_items_here : {A : Type 0} (xs : Trees) (rest : List Word) → SpellsItems xs [] rest → A
no_items_here no_tree rest s = no_end_here CloseBracket rest s
no_items_here (tree_and x xs) rest s = no_tree_here x s.0 s.1

no_more_items_here : {A : Type 0} (xs : Trees) (rest : List Word) → SpellsMoreItems xs [] rest → A
no_more_items_here no_tree rest (inl s) = no_end_here CloseBracket rest s
no_more_items_here no_tree rest (inr s) = no_end_here Comma s.0 s.1
no_more_items_here (tree_and x xs) rest s = no_end_here Comma s.0 s.2

no_entries_here : {A : Type 0} (es : Entries) (rest : List Word) → SpellsEntries es [] rest → A
no_entries_here no_entry rest s = no_end_here CloseBrace rest s
no_entries_here (entry_and n at x es) rest s = nil_cons s.3

no_more_entries_here : {A : Type 0} (es : Entries) (rest : List Word) → SpellsMoreEntries es [] rest → A
no_more_entries_here no_entry rest (inl s) = no_end_here CloseBrace rest s
no_more_entries_here no_entry rest (inr s) = no_end_here Comma s.0 s.1
no_more_entries_here (entry_and n at x es) rest s = no_end_here Comma s.0 s.4

over : (ps : List Part) (rest : List Word) (terms : Terms) → SpellsTerms terms [] rest → Lang ps rest → (Lang ps [] → ⊥)
    → ⊥
over ps rest no_term s lang never = never (subst (Lang ps) (sym s) lang)
over ps rest (term_and at x terms) s lang never = nil_cons s.2.1

pub ends : (ps : List Part) (at : ℕ) (flaw : Flaw) → at_end ps at ≡ Some flaw
    → (flaw ≡ Unexpected at) × (Lang ps [] → ⊥)
ends [] at flaw e = none_some flaw e
ends (more_terms ∷ ps) at flaw e =
    let f = ends ps at flaw e in (f.0, λ lang. over ps lang.0 lang.1.0 lang.1.1 lang.2 f.1)
ends (an_expr ∷ ps) at flaw e = (sym (some_same (Unexpected at) flaw e), λ lang. no_expr_here lang.0 lang.1)
ends (items ∷ ps) at flaw e = (sym (some_same (Unexpected at) flaw e), λ lang. no_items_here lang.1.0 lang.0 lang.1.1)
ends (more_items ∷ ps) at flaw e =
    (sym (some_same (Unexpected at) flaw e), λ lang. no_more_items_here lang.1.0 lang.0 lang.1.1)
ends (a_colon ∷ ps) at flaw e = (sym (some_same (Unexpected at) flaw e), λ lang. no_end_here Colon lang.0 lang.1)
ends (entries names ∷ ps) at flaw e =
    (sym (some_same (Unexpected at) flaw e), λ lang. no_entries_here lang.1.0 lang.0 lang.1.1)
ends (more_entries names ∷ ps) at flaw e =
    (sym (some_same (Unexpected at) flaw e), λ lang. no_more_entries_here lang.1.0 lang.0 lang.1.1)
ends (a_value ∷ ps) at flaw e = (sym (some_same (Unexpected at) flaw e), λ lang. no_value_here lang.0 lang.1)
