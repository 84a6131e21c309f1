-- No name is repeated in words that spell maps whose names differ.
use Rattle.std.specs.Prelude.{◌⊎◌}
use Rattle.std.specs.List.{All}
use Rattle.std.proofs.Common.{◌≡◌, ℕ, zero, suc, ◌+◌, ◌-◌, ◌≤◌, length, take, drop, arith, List, [], ◌∷◌, ◌++◌, Bool}
use Rattle.std.proofs.Common.{true, false, Some, sym, refl, ap, ◌∙◌, subst, inl, inr, append_assoc, length-drop}
use Rattle.std.proofs.Common.{length-append, ⊎_elim}
use Rattle.std.proofs.Math.ListN.{get_or-append}
use Rattle.std.proofs.Math.Seq.{get_or-append_seam}
use Rattle.std.proofs.lemmas.Bool.{cases_Bool, cases_lt, cond-false, false≢true}
use Rattle.std.proofs.lemmas.Cmp.{nat_list_eq_equiv}
use Rattle.std.proofs.lemmas.List.{drop-drop, take-append-drop}
use Rattle.std.proofs.lemmas.Map.Views.{Contains-from_any, list_any-from_Contains}
use Rattle.bp_lexer.specs.declared.token.Punct.{Punct}
use Rattle.bp_lexer.specs.declared.token.Punct.TheVariants.{OpenBrace, CloseBrace, OpenBracket, CloseBracket, Colon}
use Rattle.bp_lexer.specs.declared.token.Punct.TheVariants.{Comma, Equal, PlusEqual, Plus}
use Rattle.bp_lexer.specs.declared.token.TokenKind.{TokenKind}
use Rattle.bp_lexer.specs.declared.token.TokenKind.TheVariants.{Ident, Int, Quoted, Raw, Punct as Mark}
use Rattle.bp_parser.specs.Trees.{Tree, Leaf, Items, Body, Sum, Trees, no_tree, tree_and, Terms, no_term, term_and}
use Rattle.bp_parser.specs.Trees.{Entries, no_entry, entry_and, Definition, Assigns, Extends, Declares}
use Rattle.bp_parser.specs.Names.{entry_names, AreDistinct, TreeHasDistinctNames, ItemsHaveDistinctNames}
use Rattle.bp_parser.specs.Names.{TermsHaveDistinctNames, ValuesHaveDistinctNames, DefinitionHasDistinctNames}
use Rattle.bp_parser.specs.Words.{Word, is_truth}
use Rattle.bp_parser.specs.Grammar.{IsMark, Spells, SpellsTerms, SpellsItems, SpellsMoreItems, SpellsEntries}
use Rattle.bp_parser.specs.Grammar.{SpellsMoreEntries, SpellsDef, SpellsFile}
use Rattle.bp_parser.specs.declared.flaw.Flaw.{Flaw}
use Rattle.bp_parser.specs.declared.flaw.Flaw.TheVariants.{Unexpected, TooNested, Duplicate}
use Rattle.bp_parser.specs.Flaws.{BeginsAFile, IsUnexpected, IsTooNested, IsRepeated, IsFlaw}
use Rattle.bp_parser.specs.Meaning.{IsTree, number_of_file}
use Rattle.bp_parser.specs.Machine.{Part, an_expr, more_terms, items, more_items, a_colon, entries, more_entries}
use Rattle.bp_parser.specs.Machine.{a_value, with_rest, behind_all, is_among}
use Rattle.bp_parser.proofs.Firsts.{none_some, some_same}
use Rattle.bp_parser.proofs.Language.{atom_alone}
use Rattle.bp_faults.proofs.Lists.{same_bytes}
use Rattle.bp_parser.proofs.Runs.{Reaches, stay as stands, one_state, shrinks, run_first}

-- the word is a name that the map has
abbrev has_again : List Part → List ℕ → Bool
has_again (more_terms ∷ parts) n = has_again parts n
has_again (entries names ∷ parts) n = is_among n names
has_again _ n = false

abbrev is_again : List Part → TokenKind → List ℕ → Bool
is_again ps Ident n = has_again ps n
is_again ps _ n = false

-- from ps before ts one comes to qs before rest, and no name on the way is one that its map has
abbrev Goes : List Part → List Word → List Part → List Word → Type 0
Goes ps [] qs rest = (ps ≡ qs) × ([] ≡ rest)
Goes ps (w ∷ ws) qs rest =
    ((ps ≡ qs) × (w ∷ ws ≡ rest)) ⊎ ((new : List Part) × (behind_all ps w.kind w.text ≡ Some new)
    × (is_again ps w.kind w.text ≡ false) × Goes new ws qs rest)

rests : (ps : List Part) (ts : List Word) → Goes ps ts ps ts
rests ps [] = (refl, refl)
rests ps (w ∷ ws) = inl (refl, refl)

next : (ts : List Word) (ps qs rs : List Part) (mid rest : List Word) → Goes ps ts qs mid → Goes qs mid rs rest
    → Goes ps ts rs rest
next [] ps qs rs mid rest a b = subst (λ l. Goes ps l rs rest) (sym a.1) (subst (λ l. Goes l mid rs rest) (sym a.0) b)
next (w ∷ ws) ps qs rs mid rest (inl a) b =
    subst (λ l. Goes ps l rs rest) (sym a.1) (subst (λ l. Goes l mid rs rest) (sym a.0) b)
next (w ∷ ws) ps qs rs mid rest (inr a) b = inr (a.0, a.1, a.2, next ws a.0 qs rs mid rest a.3 b)

over : (ts inner : List Word) (w : Word) (ps new qs : List Part) (rest : List Word) → ts ≡ w ∷ inner
    → behind_all ps w.kind w.text ≡ Some new → is_again ps w.kind w.text ≡ false → Goes new inner qs rest
    → Goes ps ts qs rest
over ts inner w ps new qs rest is goes fresh more =
    subst (λ l. Goes ps l qs rest) (sym is) (inr (new, goes, fresh, more))

over_mark : (m : Punct) (ts inner : List Word) (ps new qs : List Part) (rest : List Word) → IsMark m ts inner
    → ((n : List ℕ) → behind_all ps (Mark m) n ≡ Some new) → Goes new inner qs rest → Goes ps ts qs rest
over_mark m ts inner ps new qs rest s goes more =
    over ts inner (record { kind = Mark m; at = s.0; text = s.1.0 }) ps new qs rest s.1.1 (goes s.1.0) refl more

item_step : (ps : List Part) (k : TokenKind) (n : List ℕ) (new : List Part)
    → behind_all (an_expr ∷ more_items ∷ ps) k n ≡ Some new → behind_all (items ∷ ps) k n ≡ Some new
item_step ps Ident n new e = e
item_step ps Int n new e = e
item_step ps Quoted n new e = e
item_step ps Raw n new e = e
item_step ps (Mark OpenBracket) n new e = e
item_step ps (Mark OpenBrace) n new e = e
item_step ps _ n new e = none_some new e

item_fresh : (ps : List Part) (k : TokenKind) (n : List ℕ) → is_again (items ∷ ps) k n ≡ false
item_fresh ps Ident n = refl
item_fresh ps _ n = refl

expr_fresh : (ps : List Part) (k : TokenKind) (n : List ℕ) → is_again (an_expr ∷ ps) k n ≡ false
expr_fresh ps Ident n = refl
expr_fresh ps _ n = refl

part_apart : {A : Type 0} (ps qs : List Part) → an_expr ∷ ps ≡ more_terms ∷ qs → A
part_apart ps qs e = absurd cc

as_item : (ts : List Word) (ps qs : List Part) (rest : List Word)
    → Goes (an_expr ∷ more_items ∷ ps) ts (more_terms ∷ qs) rest → Goes (items ∷ ps) ts (more_terms ∷ qs) rest
as_item [] ps qs rest a = part_apart (more_items ∷ ps) qs a.0
as_item (w ∷ ws) ps qs rest (inl a) = part_apart (more_items ∷ ps) qs a.0
as_item (w ∷ ws) ps qs rest (inr a) = inr (a.0, item_step ps w.kind w.text a.0 a.1, item_fresh ps w.kind w.text, a.3)

-- a name that differs from those before it is not among them
new_name : (names : List (List ℕ)) (n : List ℕ) (more : List (List ℕ)) → AreDistinct (names ++ n ∷ more)
    → is_among n names ≡ false
new_name names n more distinct = ⊎_elim
    (λ again.
    let c = Contains-from_any same_bytes n names again in
    absurd (distinct c.0 (length names) n c.1 (omega (arith, length-append names (n ∷ more)))
    (get_or-append names (n ∷ more) n c.0 c.1 ∙ c.2 ∙ sym (get_or-append_seam names n more n))))
    (λ other. other)
    (cases_Bool (is_among n names))

next_names : (names : List (List ℕ)) (n : List ℕ) (more : List (List ℕ)) → AreDistinct (names ++ n ∷ more)
    → AreDistinct ((names ++ n ∷ []) ++ more)
next_names names n more distinct = subst AreDistinct (sym (append_assoc names (n ∷ []) more)) distinct

mutual
  goes_tree : (x : Tree) (ts rest : List Word) (ps : List Part) → TreeHasDistinctNames x → Spells x ts rest
      → Goes (an_expr ∷ ps) ts (more_terms ∷ ps) rest
  goes_tree (Leaf at atom) ts rest ps d s =
      over ts rest (record { kind = s.0; at = at; text = s.1 }) (an_expr ∷ ps) (more_terms ∷ ps)
      (more_terms ∷ ps) rest s.2 (ap (λ o. with_rest o ps) (atom_alone s.0 s.1 atom s.3)) (expr_fresh ps s.0 s.1)
      (rests (more_terms ∷ ps) rest)
  goes_tree (Items at xs) ts rest ps d s =
      over_mark OpenBracket ts s.0 (an_expr ∷ ps) (items ∷ more_terms ∷ ps) (more_terms ∷ ps) rest (at, s.1) (λ n. refl)
      (goes_items xs s.0 rest (more_terms ∷ ps) d s.2)
  goes_tree (Body at es) ts rest ps d s =
      over_mark OpenBrace ts s.0 (an_expr ∷ ps) (entries [] ∷ more_terms ∷ ps) (more_terms ∷ ps) rest (at, s.1)
      (λ n. refl) (goes_entries es s.0 rest (more_terms ∷ ps) [] d.0 d.1 s.2)
  goes_tree (Sum x terms) ts rest ps d s =
      next ts (an_expr ∷ ps) (more_terms ∷ ps) (more_terms ∷ ps) s.0 rest (goes_tree x ts s.0 ps d.0 s.3)
      (goes_terms terms s.0 rest ps d.1 s.4)

  goes_terms : (terms : Terms) (ts rest : List Word) (ps : List Part) → TermsHaveDistinctNames terms
      → SpellsTerms terms ts rest → Goes (more_terms ∷ ps) ts (more_terms ∷ ps) rest
  goes_terms no_term ts rest ps d s =
      subst (λ l. Goes (more_terms ∷ ps) ts (more_terms ∷ ps) l) s (rests (more_terms ∷ ps) ts)
  goes_terms (term_and at x terms) ts rest ps d s =
      over_mark Plus ts s.0 (more_terms ∷ ps) (an_expr ∷ ps) (more_terms ∷ ps) rest (at, s.2) (λ n. refl)
      (next s.0 (an_expr ∷ ps) (more_terms ∷ ps) (more_terms ∷ ps) s.1 rest (goes_tree x s.0 s.1 ps d.0 s.4)
      (goes_terms terms s.1 rest ps d.1 s.5))

  goes_items : (xs : Trees) (ts rest : List Word) (ps : List Part) → ItemsHaveDistinctNames xs → SpellsItems xs ts rest
      → Goes (items ∷ ps) ts ps rest
  goes_items no_tree ts rest ps d s =
      over_mark CloseBracket ts rest (items ∷ ps) ps ps rest s (λ n. refl) (rests ps rest)
  goes_items (tree_and x xs) ts rest ps d s =
      next ts (items ∷ ps) (more_terms ∷ more_items ∷ ps) ps s.0 rest (as_item ts ps (more_items ∷ ps) s.0
      (goes_tree x ts s.0 (more_items ∷ ps) d.0 s.1)) (goes_more_items xs s.0 rest ps d.1 s.2)

  goes_more_items : (xs : Trees) (ts rest : List Word) (ps : List Part) → ItemsHaveDistinctNames xs
      → SpellsMoreItems xs ts rest → Goes (more_terms ∷ more_items ∷ ps) ts ps rest
  goes_more_items no_tree ts rest ps d (inl s) =
      over_mark CloseBracket ts rest (more_terms ∷ more_items ∷ ps) ps ps rest s (λ n. refl) (rests ps rest)
  goes_more_items no_tree ts rest ps d (inr s) =
      over_mark Comma ts s.0 (more_terms ∷ more_items ∷ ps) (items ∷ ps) ps rest s.1 (λ n. refl)
      (over_mark CloseBracket s.0 rest (items ∷ ps) ps ps rest s.2 (λ n. refl) (rests ps rest))
  goes_more_items (tree_and x xs) ts rest ps d s =
      over_mark Comma ts s.0 (more_terms ∷ more_items ∷ ps) (items ∷ ps) ps rest s.2 (λ n. refl)
      (next s.0 (items ∷ ps) (more_terms ∷ more_items ∷ ps) ps s.1 rest (as_item s.0 ps (more_items ∷ ps) s.1
      (goes_tree x s.0 s.1 (more_items ∷ ps) d.0 s.3)) (goes_more_items xs s.1 rest ps d.1 s.4))

  goes_entries : (es : Entries) (ts rest : List Word) (ps : List Part) (names : List (List ℕ))
      → AreDistinct (names ++ entry_names es) → ValuesHaveDistinctNames es → SpellsEntries es ts rest
      → Goes (entries names ∷ ps) ts ps rest
  goes_entries no_entry ts rest ps names d v s =
      over_mark CloseBrace ts rest (entries names ∷ ps) ps ps rest s (λ n. refl) (rests ps rest)
  goes_entries (entry_and n at x es) ts rest ps names d v s =
      let more = more_entries (names ++ n ∷ []) ∷ ps in
      over ts s.0 (record { kind = Ident; at = at; text = n }) (entries names ∷ ps)
      (a_colon ∷ an_expr ∷ more) ps rest s.3 refl (new_name names n (entry_names es) d)
      (over_mark Colon s.0 s.1 (a_colon ∷ an_expr ∷ more) (an_expr ∷ more) ps rest s.4 (λ m. refl)
      (next s.1 (an_expr ∷ more) (more_terms ∷ more) ps s.2 rest (goes_tree x s.1 s.2 more v.0 s.5)
      (goes_more_entries es s.2 rest ps (names ++ n ∷ []) (next_names names n (entry_names es) d) v.1 s.6)))

  goes_more_entries : (es : Entries) (ts rest : List Word) (ps : List Part) (names : List (List ℕ))
      → AreDistinct (names ++ entry_names es) → ValuesHaveDistinctNames es → SpellsMoreEntries es ts rest
      → Goes (more_terms ∷ more_entries names ∷ ps) ts ps rest
  goes_more_entries no_entry ts rest ps names d v (inl s) =
      over_mark CloseBrace ts rest (more_terms ∷ more_entries names ∷ ps) ps ps rest s (λ n. refl) (rests ps rest)
  goes_more_entries no_entry ts rest ps names d v (inr s) =
      over_mark Comma ts s.0 (more_terms ∷ more_entries names ∷ ps) (entries names ∷ ps) ps rest s.1 (λ n. refl)
      (over_mark CloseBrace s.0 rest (entries names ∷ ps) ps ps rest s.2 (λ n. refl) (rests ps rest))
  goes_more_entries (entry_and n at x es) ts rest ps names d v s =
      let more = more_entries (names ++ n ∷ []) ∷ ps in
      over_mark Comma ts s.0 (more_terms ∷ more_entries names ∷ ps) (entries names ∷ ps) ps rest s.4 (λ m. refl)
      (over s.0 s.1 (record { kind = Ident; at = at; text = n }) (entries names ∷ ps)
      (a_colon ∷ an_expr ∷ more) ps rest s.5 refl (new_name names n (entry_names es) d)
      (over_mark Colon s.1 s.2 (a_colon ∷ an_expr ∷ more) (an_expr ∷ more) ps rest s.6 (λ m. refl)
      (next s.2 (an_expr ∷ more) (more_terms ∷ more) ps s.3 rest (goes_tree x s.2 s.3 more v.0 s.7)
      (goes_more_entries es s.3 rest ps (names ++ n ∷ []) (next_names names n (entry_names es) d) v.1 s.8))))

-- before a definition a sum may go on, or not
abbrev between : Bool → List Part
between true = more_terms ∷ []
between false = []

begins : (b : Bool) (n : List ℕ) → is_truth n ≡ false → behind_all (between b) Ident n ≡ Some (a_value ∷ [])
begins true n other = cond-false (is_truth n) _ _ other
begins false n other = cond-false (is_truth n) _ _ other

begins_fresh : (b : Bool) (n : List ℕ) → is_again (between b) Ident n ≡ false
begins_fresh true n = refl
begins_fresh false n = refl

abbrev is_value : Definition → Bool
is_value (Declares kind at m) = false
is_value _ = true

goes_def : (d : Definition) (b : Bool) (ts rest : List Word) → DefinitionHasDistinctNames d → SpellsDef d ts rest
    → Goes (between b) ts (between (is_value d)) rest
goes_def (Assigns name at x) b ts rest d s =
    over ts s.0 (record { kind = Ident; at = at; text = name }) (between b) (a_value ∷ []) (more_terms ∷ []) rest s.2.0
    (begins b name s.2.1) (begins_fresh b name)
    (over_mark Equal s.0 s.1 (a_value ∷ []) (an_expr ∷ []) (more_terms ∷ []) rest s.3 (λ n. refl)
    (goes_tree x s.1 rest [] d s.4))
goes_def (Extends name at x) b ts rest d s =
    over ts s.0 (record { kind = Ident; at = at; text = name }) (between b) (a_value ∷ []) (more_terms ∷ []) rest s.2.0
    (begins b name s.2.1) (begins_fresh b name)
    (over_mark PlusEqual s.0 s.1 (a_value ∷ []) (an_expr ∷ []) (more_terms ∷ []) rest s.3 (λ n. refl)
    (goes_tree x s.1 rest [] d s.4))
goes_def (Declares kind at m) b ts rest d s =
    over ts s.0 (record { kind = Ident; at = at; text = kind }) (between b) (a_value ∷ []) [] rest s.1.0
    (begins b kind s.1.1) (begins_fresh b kind)
    (over_mark OpenBrace s.0 s.2.0 (a_value ∷ []) (entries [] ∷ []) [] rest (m.at, s.2.1) (λ n. refl)
    (goes_entries m.entries s.2.0 rest [] [] d.0 d.1 s.2.2))

goes_file : (ds : List Definition) (b : Bool) (ts : List Word) → All DefinitionHasDistinctNames ds → SpellsFile ds ts
    → (qs : List Part) × Goes (between b) ts qs []
goes_file [] b ts d s = (between b, subst (λ l. Goes (between b) l (between b) []) (sym s) (rests (between b) []))
goes_file (x ∷ ds) b ts d s =
    let first : DefinitionHasDistinctNames x = d 0 x (omega arith) in
    let later : All DefinitionHasDistinctNames ds = λ i e within. d (suc i) e (omega arith) in
    let r = goes_file ds (is_value x) s.0 later s.2 in
    (r.0, next ts (between b) (between (is_value x)) r.0 s.0 [] (goes_def x b ts s.0 first s.1) r.1)

-- what is expected on the way to the n-th word, and that it goes on from there
passes : (n : ℕ) (ts : List Word) (ps qs : List Part) → n ≤ length ts → Goes ps ts qs []
    → (s : List Part) × Reaches ps ts s (drop n ts) × Goes s (drop n ts) qs []
passes zero ts ps qs within g = (ps, stands ps ts, g)
passes (suc n) [] ps qs within g = absurd (omega arith)
passes (suc n) (w ∷ ws) ps qs within (inl a) = absurd (omega (arith, ap length a.1))
passes (suc n) (w ∷ ws) ps qs within (inr a) =
    let r = passes n ws a.0 qs (omega arith) a.3 in
    (r.0, inr (a.0, a.1, r.1), r.2)

-- behind a brace entries are expected
braced : (ps : List Part) (n : List ℕ) (new : List Part) → behind_all ps (Mark OpenBrace) n ≡ Some new
    → (qs : List Part) × (new ≡ entries [] ∷ qs)
braced [] n new e = none_some new e
braced (more_terms ∷ ps) n new e = braced ps n new e
braced (an_expr ∷ ps) n new e = (more_terms ∷ ps, sym (some_same (entries [] ∷ more_terms ∷ ps) new e))
braced (items ∷ ps) n new e =
    (more_terms ∷ more_items ∷ ps, sym (some_same (entries [] ∷ more_terms ∷ more_items ∷ ps) new e))
braced (a_value ∷ ps) n new e = (ps, sym (some_same (entries [] ∷ ps) new e))
braced (more_items ∷ ps) n new e = none_some new e
braced (a_colon ∷ ps) n new e = none_some new e
braced (entries names ∷ ps) n new e = none_some new e
braced (more_entries names ∷ ps) n new e = none_some new e

-- the first word is taken, and what is expected behind it
took : (w : Word) (ws ts : List Word) (ps qs : List Part) → ts ≡ w ∷ ws → Goes ps ts qs [] → (new : List Part)
    × (behind_all ps w.kind w.text ≡ Some new) × (is_again ps w.kind w.text ≡ false) × Goes new ws qs []
took w ws ts ps qs is g = go (subst (λ l. Goes ps l qs []) is g) where
  go : Goes ps (w ∷ ws) qs [] → (new : List Part) × (behind_all ps w.kind w.text ≡ Some new)
      × (is_again ps w.kind w.text ≡ false) × Goes new ws qs []
  go (inl a) = absurd (omega (arith, ap length a.1))
  go (inr a) = a

pub no_repeat : (ws : List Word) (ds : List Definition) (k : ℕ) → SpellsFile ds ws → All DefinitionHasDistinctNames ds
    → IsRepeated ws k → ⊥
no_repeat ws ds k s distinct is =
    let g = goes_file ds false ws distinct s in
    let w : Word = record { kind = Mark OpenBrace; at = is.opened.0; text = is.opened.1.0 } in
    let name : Word = record { kind = Ident; at = is.place; text = is.name } in
    let brace = is.brace in
    let a = passes brace ws [] g.0 (omega (arith, ap length is.opened.1.1, length-drop brace ws)) g.1 in
    let t = took w is.inner (drop brace ws) a.0 g.0 is.opened.1.1 a.2 in
    let b = braced a.0 w.text t.0 t.1 in
    let inner : is.inner ≡ drop (brace + 1) ws = ap (drop 1) (sym is.opened.1.1) ∙ drop-drop 1 brace ws in
    let first = run_first is.before is.inner (drop k ws) b.0 [] is.spelled in
    let less = shrinks is.inner (entries [] ∷ b.0) (entries (entry_names is.before) ∷ b.0) (drop k ws) first in
    let n = k - (brace + 1) in
    let order : brace + 1 + n ≡ k =
    omega (arith, less, ap length inner, ap length is.at, length-drop (brace + 1) ws, length-drop k ws) in
    let here : drop n is.inner ≡ drop k ws =
    ap (drop n) inner ∙ drop-drop n (brace + 1) ws ∙ ap (λ i. drop i ws) order in
    let c = passes n is.inner t.0 g.0 (omega (arith, ap length here, length-drop n is.inner, ap length is.at)) t.3 in
    let same : c.0 ≡ entries (entry_names is.before) ∷ b.0 =
    one_state is.inner t.0 c.0 (entries (entry_names is.before) ∷ b.0) (drop k ws)
    (subst (Reaches t.0 is.inner c.0) here c.1)
    (subst (λ l. Reaches l is.inner (entries (entry_names is.before) ∷ b.0) (drop k ws)) (sym b.1) first) in
    let e = took name (drop (k + 1) ws) (drop n is.inner) c.0 g.0 (here ∙ is.at) c.2 in
    false≢true (sym (ap (λ l. has_again l is.name) (sym same) ∙ e.2)
    ∙ list_any-from_Contains nat_list_eq_equiv is.name (entry_names is.before) is.again)

-- words that spell definitions begin a file's at each word
begins_file : (ws : List Word) (ds : List Definition) (k : ℕ) → SpellsFile ds ws → BeginsAFile (take k ws)
begins_file ws ds k s = (drop k ws, ds, subst (SpellsFile ds) (sym (take-append-drop k ws)) s)

not_unexpected : (ws : List Word) (ds : List Definition) (k : ℕ) → SpellsFile ds ws → IsUnexpected ws k → ⊥
not_unexpected ws ds k s is = ⊎_elim
    (λ below. is.word below (begins_file ws ds (k + 1) s))
    (λ past. is.end (omega (arith, is.within)) ds s)
    (cases_lt k (length ws))

pub spelled_tree : (ws : List Word) (ds : List Definition) → SpellsFile ds ws → All DefinitionHasDistinctNames ds
    → ((k : ℕ) → IsTooNested ws k → ⊥) → IsTree ws (record { file = number_of_file ws; defs = ds })
spelled_tree ws ds s distinct shallow = record { file = refl; spelled = s; sound = sound } where
  sound : (flaw : Flaw) → IsFlaw ws flaw → ⊥
  sound (Unexpected k) is = not_unexpected ws ds k s is
  sound (TooNested k) is = shallow k is
  sound (Duplicate k) is = no_repeat ws ds k s distinct is.repeated
