-- A step of the functions that read, on lists.
use Rattle.std.specs.Prelude.{◌||◌, ◌==◌, cond}
use Rattle.std.specs.Str.{bytes_eq}
use Rattle.std.specs.Cmp.Lexicographic.{nat_list_eq_equiv}
use Rattle.std.proofs.Common.{◌≡◌, ℕ, ◌+◌, ◌<◌, length, drop, arith, List, [], ◌∷◌, ◌++◌, map, Bool, true, false, Some}
use Rattle.std.proofs.Common.{None, sym, refl, ap, ◌∙◌, subst, inl, inr}
use Rattle.std.proofs.lemmas.Bool.{cond-true, cond-false, eq-eqb}
use Rattle.std.proofs.lemmas.Bool.Decides.{nat_tests}
use Rattle.std.proofs.lemmas.List.Folds.{list_any-append}
use Rattle.bp_faults.specs.declared.place.Place.{Place}
use Rattle.bp_faults.specs.declared.limits.TheConstants.{DEEPEST_NESTING}
use Rattle.bp_lexer.specs.declared.token.Punct.{Punct}
use Rattle.bp_lexer.specs.declared.token.Punct.TheVariants.{OpenBrace, CloseBrace, OpenBracket, CloseBracket, Colon}
use Rattle.bp_lexer.specs.declared.token.Punct.TheVariants.{Comma, Equal, PlusEqual, Plus}
use Rattle.bp_lexer.specs.declared.token.TokenKind.{TokenKind}
use Rattle.bp_lexer.specs.declared.token.TokenKind.TheVariants.{Ident, Int, Quoted, Raw, Punct as Mark}
use Rattle.bp_parser.specs.declared.flaw.Flaw.{Flaw}
use Rattle.bp_parser.specs.declared.flaw.Flaw.TheVariants.{Unexpected, TooNested, Duplicate}
use Rattle.bp_parser.specs.declared.stop.Stop.{Stop}
use Rattle.bp_parser.specs.declared.stop.Stop.TheVariants.{Bad, OutOfMemory}
use Rattle.bp_parser.specs.declared.tree.Expr.{Expr}
use Rattle.bp_parser.specs.declared.tree.EntryExpr.{EntryExpr}
use Rattle.bp_parser.specs.declared.tree.MapExpr.{MapExpr}
use Rattle.bp_parser.specs.declared.tree.Expr.TheOpen.{MapExpr-F}
use Rattle.bp_parser.specs.declared.tree.Expr.TheViews.{roll-MapExpr}
use Rattle.bp_parser.specs.declared.tree.Expr.TheFolds.{fold-roll-MapExpr}
use Rattle.bp_parser.specs.Trees.{Tree, Sum, Trees, no_tree, tree_and, Terms, no_term, term_and, Entries, no_entry}
use Rattle.bp_parser.specs.Trees.{entry_and, Entry, Map, tree_of, term_of, entry_of, map_of, expr_step, entry_step}
use Rattle.bp_parser.specs.Trees.{map_step, trees_then, terms_then, entries_then}
use Rattle.bp_parser.specs.Words.{Word, is_truth}
use Rattle.bp_parser.specs.Grammar.{IsWord, IsMark, SpellsItems, SpellsMoreItems, SpellsEntries, SpellsMoreEntries}
use Rattle.bp_parser.specs.Names.{entry_names}
use Rattle.bp_parser.specs.Machine.{Part, an_expr, more_terms, items, more_items, a_colon, entries, more_entries}
use Rattle.bp_parser.specs.Machine.{a_value, begin_def, behind_all, flaw_at, bracket_flaw, is_among, at_end, go_behind}
use Rattle.bp_parser.specs.Machine.{stuck, depth_of, StartsNot, StopsWith}
use Rattle.bp_parser.specs.Reading.{sum_of}
use Rattle.bp_parser.proofs.Firsts.{no_mark, starts_not, true_false}
use Rattle.bp_parser.proofs.Language.{not_plus, no_plus_next}

-- the names of entries
abbrev pub names_in : List EntryExpr → List (List ℕ)
names_in es = map (λ e. (entry_of e).name) es

-- one word

pub pass : (k : TokenKind) (p : Place) (n : List ℕ) (ts rest : List Word) (at : ℕ) (ps new : List Part)
    → IsWord k p n ts rest → behind_all ps k n ≡ Some new → flaw_at ps k n at ≡ None
    → stuck ts at ps ≡ stuck rest (at + 1) new
pass k p n ts rest at ps new here goes clean =
    ap (λ l. stuck l at ps) here ∙
    ap (λ o. go_behind o (flaw_at ps k n at) at (λ l. stuck rest (at + 1) l)) goes ∙
    ap (λ f. go_behind (Some new) f at (λ l. stuck rest (at + 1) l)) clean

pub pass_mark : (m : Punct) (ts rest : List Word) (at : ℕ) (ps new : List Part) → IsMark m ts rest
    → ((n : List ℕ) → behind_all ps (Mark m) n ≡ Some new) → ((n : List ℕ) → flaw_at ps (Mark m) n at ≡ None)
    → stuck ts at ps ≡ stuck rest (at + 1) new
pass_mark m ts rest at ps new s goes clean = pass (Mark m) s.0 s.1.0 ts rest at ps new s.1.1 (goes s.1.0) (clean s.1.0)

pub halt : (k : TokenKind) (p : Place) (n : List ℕ) (ts rest : List Word) (at : ℕ) (ps new : List Part) (e : Flaw)
    → IsWord k p n ts rest → behind_all ps k n ≡ Some new → flaw_at ps k n at ≡ Some e → stuck ts at ps ≡ Some e
halt k p n ts rest at ps new e here goes wrong =
    ap (λ l. stuck l at ps) here ∙
    ap (λ o. go_behind o (flaw_at ps k n at) at (λ l. stuck rest (at + 1) l)) goes ∙
    ap (λ f. go_behind (Some new) f at (λ l. stuck rest (at + 1) l)) wrong

-- an unexpected word, or the end
pub refuse : (ts : List Word) (at : ℕ) (ps : List Part) → at_end ps at ≡ Some (Unexpected at)
    → ((w : Word) (rest : List Word) → ts ≡ w ∷ rest → behind_all ps w.kind w.text ≡ None)
    → stuck ts at ps ≡ Some (Unexpected at)
refuse [] at ps end none' = end
refuse (w ∷ ws) at ps end none' =
    ap (λ o. go_behind o (flaw_at ps w.kind w.text at) at (λ l. stuck ws (at + 1) l)) (none' w ws refl)

-- a bracket that may be open, and one that would be too many
pub not_full : (ps : List Part) (at : ℕ) → depth_of ps < DEEPEST_NESTING → bracket_flaw ps at ≡ None
not_full ps at room =
    cond-false (depth_of ps == DEEPEST_NESTING) _ _
    (let apart : (depth_of ps == DEEPEST_NESTING) ≡ false = grind (arith, nat_tests) in apart)

pub full : (ps : List Part) (at : ℕ) → depth_of ps ≡ DEEPEST_NESTING → bracket_flaw ps at ≡ Some (TooNested at)
full ps at deep = cond-true (depth_of ps == DEEPEST_NESTING) _ _ (eq-eqb (depth_of ps) DEEPEST_NESTING deep)

-- a list, a map and a further term begin
pub into_list : (ws : List Word) (at : ℕ) (parts : List Part) → IsMark OpenBracket (drop at ws) (drop (at + 1) ws)
    → depth_of parts < DEEPEST_NESTING
    → stuck (drop at ws) at (an_expr ∷ parts) ≡ stuck (drop (at + 1) ws) (at + 1) (items ∷ more_terms ∷ parts)
into_list ws at parts s room =
    pass_mark OpenBracket (drop at ws) (drop (at + 1) ws) at (an_expr ∷ parts) (items ∷ more_terms ∷ parts) s
    (λ n. refl) (λ n. not_full parts at room)

pub into_map : (ws : List Word) (at : ℕ) (parts : List Part) → IsMark OpenBrace (drop at ws) (drop (at + 1) ws)
    → depth_of parts < DEEPEST_NESTING
    → stuck (drop at ws) at (an_expr ∷ parts) ≡ stuck (drop (at + 1) ws) (at + 1) (entries [] ∷ more_terms ∷ parts)
into_map ws at parts s room =
    pass_mark OpenBrace (drop at ws) (drop (at + 1) ws) at (an_expr ∷ parts) (entries [] ∷ more_terms ∷ parts) s
    (λ n. refl) (λ n. not_full parts at room)

pub pass_plus : (ws : List Word) (at : ℕ) (parts : List Part) → IsMark Plus (drop at ws) (drop (at + 1) ws)
    → stuck (drop at ws) at (more_terms ∷ parts) ≡ stuck (drop (at + 1) ws) (at + 1) (an_expr ∷ parts)
pass_plus ws at parts s =
    pass_mark Plus (drop at ws) (drop (at + 1) ws) at (more_terms ∷ parts) (an_expr ∷ parts) s (λ n. refl) (λ n. refl)

-- where a part ends or goes on

items_next : (k : TokenKind) (n : List ℕ) (parts : List Part) → (k ≡ Mark CloseBracket → ⊥)
    → behind_all (items ∷ parts) k n ≡ behind_all (an_expr ∷ more_items ∷ parts) k n
items_next (Mark CloseBracket) n parts other = absurd (other refl)
items_next Ident n parts other = refl
items_next Int n parts other = refl
items_next Quoted n parts other = refl
items_next Raw n parts other = refl
items_next (Mark OpenBracket) n parts other = refl
items_next (Mark OpenBrace) n parts other = refl
items_next _ n parts other = refl

items_flaw : (k : TokenKind) (n : List ℕ) (at : ℕ) (parts : List Part)
    → flaw_at (items ∷ parts) k n at ≡ flaw_at (an_expr ∷ more_items ∷ parts) k n at
items_flaw Ident n at parts = refl
items_flaw (Mark OpenBracket) n at parts = refl
items_flaw (Mark OpenBrace) n at parts = refl
items_flaw _ n at parts = refl

-- one word, where two states go on alike
pub alike : (ps qs : List Part) (ts : List Word) (at : ℕ) → at_end ps at ≡ at_end qs at
    → ((w : Word) (rest : List Word) → ts ≡ w ∷ rest → (behind_all ps w.kind w.text ≡ behind_all qs w.kind w.text)
    × (flaw_at ps w.kind w.text at ≡ flaw_at qs w.kind w.text at)) → stuck ts at ps ≡ stuck ts at qs
alike ps qs [] at end next = end
alike ps qs (w ∷ ws) at end next =
    let f = next w ws refl in
    ap (λ o. go_behind o (flaw_at ps w.kind w.text at) at (λ l. stuck ws (at + 1) l)) f.0 ∙
    ap (λ e. go_behind (behind_all qs w.kind w.text) e at (λ l. stuck ws (at + 1) l)) f.1

pub items_expr : (ts : List Word) (at : ℕ) (parts : List Part) → StartsNot (Mark CloseBracket) ts
    → stuck ts at (items ∷ parts) ≡ stuck ts at (an_expr ∷ more_items ∷ parts)
items_expr ts at parts other =
    alike (items ∷ parts) (an_expr ∷ more_items ∷ parts) ts at refl
    (λ w rest is. (items_next w.kind w.text parts (other w rest is), items_flaw w.kind w.text at parts))

terms_flaw : (k : TokenKind) (n : List ℕ) (at : ℕ) (parts : List Part)
    → flaw_at (more_terms ∷ parts) k n at ≡ flaw_at parts k n at
terms_flaw Ident n at parts = refl
terms_flaw (Mark OpenBracket) n at parts = refl
terms_flaw (Mark OpenBrace) n at parts = refl
terms_flaw _ n at parts = refl

-- without a plus a sum ends
pub ended : (ts : List Word) (at : ℕ) (parts : List Part) → StartsNot (Mark Plus) ts
    → stuck ts at (more_terms ∷ parts) ≡ stuck ts at parts
ended ts at parts other =
    alike (more_terms ∷ parts) parts ts at refl (λ w rest is.
    (no_plus_next parts w.kind w.text (not_plus w.kind (other w rest is)), terms_flaw w.kind w.text at parts))

-- words that are refused

more_items_none : (k : TokenKind) (n : List ℕ) (parts : List Part) → (k ≡ Mark CloseBracket → ⊥) → (k ≡ Mark Comma → ⊥)
    → behind_all (more_items ∷ parts) k n ≡ None
more_items_none (Mark CloseBracket) n parts close comma = absurd (close refl)
more_items_none (Mark Comma) n parts close comma = absurd (comma refl)
more_items_none _ n parts close comma = refl

pub more_items_stop : (ts : List Word) (at : ℕ) (parts : List Part) → StartsNot (Mark CloseBracket) ts
    → StartsNot (Mark Comma) ts → stuck ts at (more_items ∷ parts) ≡ Some (Unexpected at)
more_items_stop ts at parts close comma =
    refuse ts at (more_items ∷ parts) refl
    (λ w rest is. more_items_none w.kind w.text parts (close w rest is) (comma w rest is))

more_entries_none : (k : TokenKind) (n : List ℕ) (names : List (List ℕ)) (parts : List Part) → (k ≡ Mark CloseBrace → ⊥)
    → (k ≡ Mark Comma → ⊥) → behind_all (more_entries names ∷ parts) k n ≡ None
more_entries_none (Mark CloseBrace) n names parts close comma = absurd (close refl)
more_entries_none (Mark Comma) n names parts close comma = absurd (comma refl)
more_entries_none _ n names parts close comma = refl

pub more_entries_stop : (ts : List Word) (at : ℕ) (names : List (List ℕ)) (parts : List Part)
    → StartsNot (Mark CloseBrace) ts → StartsNot (Mark Comma) ts
    → stuck ts at (more_entries names ∷ parts) ≡ Some (Unexpected at)
more_entries_stop ts at names parts close comma =
    refuse ts at (more_entries names ∷ parts) refl
    (λ w rest is. more_entries_none w.kind w.text names parts (close w rest is) (comma w rest is))

entries_none : (k : TokenKind) (n : List ℕ) (names : List (List ℕ)) (parts : List Part) → (k ≡ Mark CloseBrace → ⊥)
    → (k ≡ Ident → ⊥) → behind_all (entries names ∷ parts) k n ≡ None
entries_none (Mark CloseBrace) n names parts close name = absurd (close refl)
entries_none Ident n names parts close name = absurd (name refl)
entries_none _ n names parts close name = refl

pub entries_stop : (ts : List Word) (at : ℕ) (names : List (List ℕ)) (parts : List Part)
    → StartsNot (Mark CloseBrace) ts → StartsNot Ident ts → stuck ts at (entries names ∷ parts) ≡ Some (Unexpected at)
entries_stop ts at names parts close name =
    refuse ts at (entries names ∷ parts) refl
    (λ w rest is. entries_none w.kind w.text names parts (close w rest is) (name w rest is))

colon_none : (k : TokenKind) (n : List ℕ) (parts : List Part) → (k ≡ Mark Colon → ⊥)
    → behind_all (a_colon ∷ parts) k n ≡ None
colon_none (Mark Colon) n parts other = absurd (other refl)
colon_none _ n parts other = refl

pub colon_stop : (ts : List Word) (at : ℕ) (parts : List Part) → StartsNot (Mark Colon) ts
    → stuck ts at (a_colon ∷ parts) ≡ Some (Unexpected at)
colon_stop ts at parts other =
    refuse ts at (a_colon ∷ parts) refl (λ w rest is. colon_none w.kind w.text parts (other w rest is))

value_none : (k : TokenKind) (n : List ℕ) (parts : List Part) → (k ≡ Mark OpenBrace → ⊥) → (k ≡ Mark Equal → ⊥)
    → (k ≡ Mark PlusEqual → ⊥) → behind_all (a_value ∷ parts) k n ≡ None
value_none (Mark OpenBrace) n parts brace equals plus = absurd (brace refl)
value_none (Mark Equal) n parts brace equals plus = absurd (equals refl)
value_none (Mark PlusEqual) n parts brace equals plus = absurd (plus refl)
value_none _ n parts brace equals plus = refl

pub value_stop : (ts : List Word) (at : ℕ) (parts : List Part) → StartsNot (Mark OpenBrace) ts
    → StartsNot (Mark Equal) ts → StartsNot (Mark PlusEqual) ts → stuck ts at (a_value ∷ parts) ≡ Some (Unexpected at)
value_stop ts at parts brace equals plus =
    refuse ts at (a_value ∷ parts) refl
    (λ w rest is. value_none w.kind w.text parts (brace w rest is) (equals w rest is) (plus w rest is))

def_none : (k : TokenKind) (n : List ℕ) → (k ≡ Ident → is_truth n ≡ true) → begin_def k n ≡ None
def_none Ident n truth = cond-true (is_truth n) _ _ (truth refl)
def_none _ n truth = refl

pub def_stop : (ts : List Word) (at : ℕ) → 0 < length ts
    → ((w : Word) (rest : List Word) → ts ≡ w ∷ rest → w.kind ≡ Ident → is_truth w.text ≡ true)
    → stuck ts at [] ≡ Some (Unexpected at)
def_stop [] at some truth = absurd (omega arith)
def_stop (w ∷ ws) at some truth =
    ap (λ o. go_behind o (flaw_at [] w.kind w.text at) at (λ l. stuck ws (at + 1) l))
    (def_none w.kind w.text (truth w ws refl))

-- behind a part

pub after_item : (ws : List Word) (at : ℕ) (more : Trees) (rest : List Word)
    → IsMark Comma (drop at ws) (drop (at + 1) ws) → SpellsItems more (drop (at + 1) ws) rest
    → SpellsMoreItems more (drop at ws) rest
after_item ws at no_tree rest comma s = inr (drop (at + 1) ws, comma, s)
after_item ws at (tree_and x xs) rest comma s = (drop (at + 1) ws, s.0, comma, s.1, s.2)

pub at_last_item : (ts next : List Word) (more : Trees) (rest : List Word) → IsMark CloseBracket ts next
    → SpellsItems more ts rest → SpellsMoreItems more ts rest
at_last_item ts next no_tree rest close s = inl s
at_last_item ts next (tree_and x xs) rest close s = absurd (no_mark CloseBracket x ts s.0 next refl s.1 close)

pub after_entry : (ws : List Word) (at : ℕ) (more : Entries) (rest : List Word)
    → IsMark Comma (drop at ws) (drop (at + 1) ws) → SpellsEntries more (drop (at + 1) ws) rest
    → SpellsMoreEntries more (drop at ws) rest
after_entry ws at no_entry rest comma s = inr (drop (at + 1) ws, comma, s)
after_entry ws at (entry_and n p x es) rest comma s = (drop (at + 1) ws, s.0, s.1, s.2, comma, s.3, s.4, s.5, s.6)

pub at_last_entry : (ts next : List Word) (more : Entries) (rest : List Word) → IsMark CloseBrace ts next
    → SpellsEntries more ts rest → SpellsMoreEntries more ts rest
at_last_entry ts next no_entry rest close s = inl s
at_last_entry ts next (entry_and n p x es) rest close s =
    absurd (starts_not Ident (Mark CloseBrace) p n ts s.0 (λ e. cc) s.3
    (record { kind = Mark CloseBrace; at = close.0; text = close.1.0 }) next close.1.1 refl)

-- what is read so far

pub trees_then_push : (xs : List Expr) (x : Expr) (more : Trees)
    → trees_then (map tree_of (xs ++ x ∷ [])) more ≡ trees_then (map tree_of xs) (tree_and (tree_of x) more)
trees_then_push [] x more = refl
trees_then_push (y ∷ xs) x more = ap (λ l. tree_and (tree_of y) l) (trees_then_push xs x more)

pub terms_then_push : (xs : List (Place × Expr)) (x : Place × Expr) (more : Terms)
    → terms_then (map term_of (xs ++ x ∷ [])) more ≡ terms_then (map term_of xs) (term_and x.0 (tree_of x.1) more)
terms_then_push [] x more = refl
terms_then_push (y ∷ xs) x more = ap (λ l. term_and y.0 (tree_of y.1) l) (terms_then_push xs x more)

pub entries_then_push : (es : List EntryExpr) (e : EntryExpr) (more : Entries)
    → entries_then (map entry_of (es ++ e ∷ [])) more
    ≡ entries_then (map entry_of es) (entry_and (entry_of e).name (entry_of e).at (entry_of e).value more)
entries_then_push [] e more = refl
entries_then_push (d ∷ es) e more =
    ap (λ l. entry_and (entry_of d).name (entry_of d).at (entry_of d).value l) (entries_then_push es e more)

pub names_push : (es : List EntryExpr) (e : EntryExpr) → names_in (es ++ e ∷ []) ≡ names_in es ++ (entry_of e).name ∷ []
names_push [] e = refl
names_push (d ∷ es) e = ap (λ l. (entry_of d).name ∷ l) (names_push es e)

pub names_then : (es : List EntryExpr) → entry_names (entries_then (map entry_of es) no_entry) ≡ names_in es
names_then [] = refl
names_then (e ∷ es) = ap (λ l. (entry_of e).name ∷ l) (names_then es)

either : (a b : Bool) → (a || (b || false)) ≡ cond b true a
either true true = refl
either true false = refl
either false true = refl
either false false = refl

pub has_name_push : (q n : List ℕ) (names : List (List ℕ))
    → is_among q (names ++ n ∷ []) ≡ cond (bytes_eq n q) true (is_among q names)
has_name_push q n names =
    list_any-append (bytes_eq q) names (n ∷ []) ∙
    ap (λ b. is_among q names || (b || false)) (nat_list_eq_equiv.symm q n) ∙
    either (is_among q names) (bytes_eq n q)

pub map_roll : (m : MapExpr-F Expr EntryExpr MapExpr)
    → map_of (roll-MapExpr m) ≡ record { at = m.at; entries = entries_then (map entry_of m.entries.items) no_entry }
map_roll = fold-roll-MapExpr Tree Entry Map expr_step entry_step map_step

pub sum_is : (first : Tree) (ts : List (Place × Expr)) → (length ts == 0) ≡ false
    → sum_of first (terms_then (map term_of ts) no_term) ≡ Sum first (terms_then (map term_of ts) no_term)
sum_is first [] some = absurd (true_false some)
sum_is first (t ∷ ts) some = refl

-- where the words stop

pub stops_within : (ps qs after : List Part) (ws : List Word) (at next depth deeper : ℕ) (stop : Stop)
    → ((parts : List Part) → depth_of parts ≡ depth → (depth_of (after ++ parts) ≡ deeper)
    × (stuck (drop at ws) at (ps ++ parts) ≡ stuck (drop next ws) next (qs ++ (after ++ parts))))
    → StopsWith qs ws next deeper stop → StopsWith ps ws at depth stop
stops_within ps qs after ws at next depth deeper (Bad flaw) goes stops =
    ((λ parts deep. let g = goes parts deep in g.1 ∙ stops.0 (after ++ parts) g.0), stops.1)
stops_within ps qs after ws at next depth deeper OutOfMemory goes stops = tt

pub stops_at : (ps : List Part) (ws : List Word) (at depth k : ℕ) (stop : Stop) → stop ≡ Bad (Unexpected k)
    → ((parts : List Part) → depth_of parts ≡ depth → stuck (drop at ws) at (ps ++ parts) ≡ Some (Unexpected k))
    → StopsWith ps ws at depth stop
stops_at ps ws at depth k stop is goes = subst (StopsWith ps ws at depth) (sym is) (goes, tt)

-- a name that is new
pub to_colon : (ws : List Word) (next : ℕ) (p : Place) (n : List ℕ) (names : List (List ℕ)) (parts : List Part)
    → IsWord Ident p n (drop next ws) (drop (next + 1) ws) → is_among n names ≡ false
    → stuck (drop next ws) next (entries names ∷ parts)
    ≡ stuck (drop (next + 1) ws) (next + 1) (a_colon ∷ an_expr ∷ more_entries (names ++ n ∷ []) ∷ parts)
to_colon ws next p n names parts name new =
    pass Ident p n (drop next ws) (drop (next + 1) ws) next (entries names ∷ parts)
    (a_colon ∷ an_expr ∷ more_entries (names ++ n ∷ []) ∷ parts) name refl (cond-false (is_among n names) _ _ new)

-- a name that the map has
pub name_again : (ws : List Word) (next : ℕ) (p : Place) (n : List ℕ) (names : List (List ℕ)) (parts : List Part)
    → IsWord Ident p n (drop next ws) (drop (next + 1) ws) → is_among n names ≡ true
    → stuck (drop next ws) next (entries names ∷ parts) ≡ Some (Duplicate next)
name_again ws next p n names parts name again =
    halt Ident p n (drop next ws) (drop (next + 1) ws) next (entries names ∷ parts) (a_colon ∷ an_expr
    ∷ more_entries (names ++ n ∷ []) ∷ parts) (Duplicate next) name refl (cond-true (is_among n names) _ _ again)

-- a name and a colon
pub to_value : (ws : List Word) (next : ℕ) (p : Place) (n : List ℕ) (names : List (List ℕ)) (parts : List Part)
    → IsWord Ident p n (drop next ws) (drop (next + 1) ws) → is_among n names ≡ false
    → IsMark Colon (drop (next + 1) ws) (drop (next + 1 + 1) ws) → stuck (drop next ws) next (entries names ∷ parts)
    ≡ stuck (drop (next + 2) ws) (next + 2) (an_expr ∷ more_entries (names ++ n ∷ []) ∷ parts)
to_value ws next p n names parts name new colon =
    let two : next + 1 + 1 ≡ next + 2 = omega arith in
    to_colon ws next p n names parts name new ∙
    pass_mark Colon (drop (next + 1) ws) (drop (next + 1 + 1) ws) (next + 1)
    (a_colon ∷ an_expr ∷ more_entries (names ++ n ∷ []) ∷ parts)
    (an_expr ∷ more_entries (names ++ n ∷ []) ∷ parts) colon (λ m. refl) (λ m. refl) ∙
    ap (λ i. stuck (drop i ws) i (an_expr ∷ more_entries (names ++ n ∷ []) ∷ parts)) two
