-- How words are read: what is expected behind each, and how many brackets are open.
use Rattle.std.specs.Prelude.{◌⊎◌, cond}
use Rattle.std.specs.List.{count_by}
use Rattle.std.proofs.Common.{◌≡◌, ℕ, ◌+◌, ◌≤◌, length, take, drop, arith, List, [], ◌∷◌, ◌++◌, Bool, true, false}
use Rattle.std.proofs.Common.{Option, Some, None, sym, refl, ap, ◌∙◌, subst, inl, inr, append-nil, append_assoc}
use Rattle.std.proofs.lemmas.List.Sums.{sum_by-cons, sum_by-take-drop}
use Rattle.bp_lexer.specs.declared.token.Punct.{Punct}
use Rattle.bp_lexer.specs.declared.token.Punct.TheVariants.{OpenBrace, CloseBrace, OpenBracket, CloseBracket, Colon}
use Rattle.bp_lexer.specs.declared.token.Punct.TheVariants.{Comma, Equal, PlusEqual, Plus}
use Rattle.bp_lexer.specs.declared.token.TokenKind.{TokenKind}
use Rattle.bp_lexer.specs.declared.token.TokenKind.TheVariants.{Ident, Int, Quoted, Raw, Punct as Mark}
use Rattle.bp_parser.specs.Trees.{Tree, Leaf, Items, Body, Sum, Trees, no_tree, tree_and, Terms, no_term, term_and}
use Rattle.bp_parser.specs.Trees.{Entries, no_entry, entry_and}
use Rattle.bp_parser.specs.Words.{Word, is_truth}
use Rattle.bp_parser.specs.Grammar.{IsMark, Spells, SpellsTerms, SpellsItems, SpellsMoreItems, SpellsEntries}
use Rattle.bp_parser.specs.Grammar.{SpellsMoreEntries}
use Rattle.bp_parser.specs.Names.{entry_names}
use Rattle.bp_parser.specs.Flaws.{SpellsFirst, is_opening, closes}
use Rattle.bp_parser.specs.Machine.{Part, an_expr, more_terms, items, more_items, a_colon, entries, more_entries}
use Rattle.bp_parser.specs.Machine.{a_value, with_rest, begin_def, behind_all, depth_of}
use Rattle.bp_parser.proofs.Firsts.{none_some, some_same}
use Rattle.bp_parser.proofs.Language.{atom_alone}

-- from ps before ts one comes to qs before rest
abbrev pub Reaches : List Part → List Word → List Part → List Word → Type 0
Reaches ps [] qs rest = (ps ≡ qs) × ([] ≡ rest)
Reaches ps (w ∷ ws) qs rest =
    ((ps ≡ qs) × (w ∷ ws ≡ rest))
    ⊎ ((new : List Part) × (behind_all ps w.kind w.text ≡ Some new) × Reaches new ws qs rest)

pub stay : (ps : List Part) (ts : List Word) → Reaches ps ts ps ts
stay ps [] = (refl, refl)
stay ps (w ∷ ws) = inl (refl, refl)

pub also : (ts : List Word) (ps qs rs : List Part) (mid rest : List Word) → Reaches ps ts qs mid
    → Reaches qs mid rs rest → Reaches ps ts rs rest
also [] ps qs rs mid rest a b =
    subst (λ l. Reaches ps l rs rest) (sym a.1) (subst (λ l. Reaches l mid rs rest) (sym a.0) b)
also (w ∷ ws) ps qs rs mid rest (inl a) b =
    subst (λ l. Reaches ps l rs rest) (sym a.1) (subst (λ l. Reaches l mid rs rest) (sym a.0) b)
also (w ∷ ws) ps qs rs mid rest (inr a) b = inr (a.0, a.1, also ws a.0 qs rs mid rest a.2 b)

pub shrinks : (ts : List Word) (ps qs : List Part) (rest : List Word) → Reaches ps ts qs rest → length rest ≤ length ts
shrinks [] ps qs rest a = omega (arith, ap length a.1)
shrinks (w ∷ ws) ps qs rest (inl a) = omega (arith, ap length a.1)
shrinks (w ∷ ws) ps qs rest (inr a) = omega (arith, shrinks ws a.0 qs rest a.2)

pub one_state : (ts : List Word) (ps qs rs : List Part) (rest : List Word) → Reaches ps ts qs rest
    → Reaches ps ts rs rest → qs ≡ rs
one_state [] ps qs rs rest a b = sym a.0 ∙ b.0
one_state (w ∷ ws) ps qs rs rest (inl a) (inl b) = sym a.0 ∙ b.0
one_state (w ∷ ws) ps qs rs rest (inl a) (inr b) = absurd (omega (arith, ap length a.1, shrinks ws b.0 rs rest b.2))
one_state (w ∷ ws) ps qs rs rest (inr a) (inl b) = absurd (omega (arith, ap length b.1, shrinks ws a.0 qs rest a.2))
one_state (w ∷ ws) ps qs rs rest (inr a) (inr b) =
    let same : a.0 ≡ b.0 = some_same a.0 b.0 (sym a.1 ∙ b.1) in
    one_state ws b.0 qs rs rest (subst (λ l. Reaches l ws qs rest) same a.2) b.2

pub first : (ts inner : List Word) (w : Word) (ps new qs : List Part) (rest : List Word) → ts ≡ w ∷ inner
    → behind_all ps w.kind w.text ≡ Some new → Reaches new inner qs rest → Reaches ps ts qs rest
first ts inner w ps new qs rest is goes more = subst (λ l. Reaches ps l qs rest) (sym is) (inr (new, goes, more))

-- over a mark that is expected
over_mark : (m : Punct) (ts inner : List Word) (ps new qs : List Part) (rest : List Word) → IsMark m ts inner
    → ((n : List ℕ) → behind_all ps (Mark m) n ≡ Some new) → Reaches new inner qs rest → Reaches ps ts qs rest
over_mark m ts inner ps new qs rest s goes more =
    first ts inner (record { kind = Mark m; at = s.0; text = s.1.0 }) ps new qs rest s.1.1 (goes s.1.0) more

-- an item is an expression
item_step : (ps : List Part) (k : TokenKind) (n : List ℕ) (new : List Part)
    → behind_all (an_expr ∷ more_items ∷ ps) k n ≡ Some new → behind_all (items ∷ ps) k n ≡ Some new
item_step ps Ident n new e = e
item_step ps Int n new e = e
item_step ps Quoted n new e = e
item_step ps Raw n new e = e
item_step ps (Mark OpenBracket) n new e = e
item_step ps (Mark OpenBrace) n new e = e
item_step ps _ n new e = none_some new e

part_apart : {A : Type 0} (ps qs : List Part) → an_expr ∷ ps ≡ more_terms ∷ qs → A
part_apart ps qs e = absurd cc

as_item : (ts : List Word) (ps qs : List Part) (rest : List Word)
    → Reaches (an_expr ∷ more_items ∷ ps) ts (more_terms ∷ qs) rest → Reaches (items ∷ ps) ts (more_terms ∷ qs) rest
as_item [] ps qs rest a = part_apart (more_items ∷ ps) qs a.0
as_item (w ∷ ws) ps qs rest (inl a) = part_apart (more_items ∷ ps) qs a.0
as_item (w ∷ ws) ps qs rest (inr a) = inr (a.0, item_step ps w.kind w.text a.0 a.1, a.2)

-- what is spelled is read

mutual
  run_tree : (x : Tree) (ts rest : List Word) (ps : List Part) → Spells x ts rest
      → Reaches (an_expr ∷ ps) ts (more_terms ∷ ps) rest
  run_tree (Leaf at atom) ts rest ps s =
      first ts rest (record { kind = s.0; at = at; text = s.1 }) (an_expr ∷ ps) (more_terms ∷ ps)
      (more_terms ∷ ps) rest s.2 (ap (λ o. with_rest o ps) (atom_alone s.0 s.1 atom s.3)) (stay (more_terms ∷ ps) rest)
  run_tree (Items at xs) ts rest ps s =
      over_mark OpenBracket ts s.0 (an_expr ∷ ps) (items ∷ more_terms ∷ ps) (more_terms ∷ ps) rest (at, s.1) (λ n. refl)
      (run_items xs s.0 rest (more_terms ∷ ps) s.2)
  run_tree (Body at es) ts rest ps s =
      over_mark OpenBrace ts s.0 (an_expr ∷ ps) (entries [] ∷ more_terms ∷ ps) (more_terms ∷ ps) rest (at, s.1)
      (λ n. refl) (run_entries es s.0 rest (more_terms ∷ ps) [] s.2)
  run_tree (Sum x terms) ts rest ps s =
      also ts (an_expr ∷ ps) (more_terms ∷ ps) (more_terms ∷ ps) s.0 rest (run_tree x ts s.0 ps s.3)
      (run_terms terms s.0 rest ps s.4)

  run_terms : (terms : Terms) (ts rest : List Word) (ps : List Part) → SpellsTerms terms ts rest
      → Reaches (more_terms ∷ ps) ts (more_terms ∷ ps) rest
  run_terms no_term ts rest ps s =
      subst (λ l. Reaches (more_terms ∷ ps) ts (more_terms ∷ ps) l) s (stay (more_terms ∷ ps) ts)
  run_terms (term_and at x terms) ts rest ps s =
      over_mark Plus ts s.0 (more_terms ∷ ps) (an_expr ∷ ps) (more_terms ∷ ps) rest (at, s.2) (λ n. refl)
      (also s.0 (an_expr ∷ ps) (more_terms ∷ ps) (more_terms ∷ ps) s.1 rest (run_tree x s.0 s.1 ps s.4)
      (run_terms terms s.1 rest ps s.5))

  run_items : (xs : Trees) (ts rest : List Word) (ps : List Part) → SpellsItems xs ts rest
      → Reaches (items ∷ ps) ts ps rest
  run_items no_tree ts rest ps s = over_mark CloseBracket ts rest (items ∷ ps) ps ps rest s (λ n. refl) (stay ps rest)
  run_items (tree_and x xs) ts rest ps s =
      also ts (items ∷ ps) (more_terms ∷ more_items ∷ ps) ps s.0 rest (as_item ts ps (more_items ∷ ps) s.0
      (run_tree x ts s.0 (more_items ∷ ps) s.1)) (run_more_items xs s.0 rest ps s.2)

  run_more_items : (xs : Trees) (ts rest : List Word) (ps : List Part) → SpellsMoreItems xs ts rest
      → Reaches (more_terms ∷ more_items ∷ ps) ts ps rest
  run_more_items no_tree ts rest ps (inl s) =
      over_mark CloseBracket ts rest (more_terms ∷ more_items ∷ ps) ps ps rest s (λ n. refl) (stay ps rest)
  run_more_items no_tree ts rest ps (inr s) =
      over_mark Comma ts s.0 (more_terms ∷ more_items ∷ ps) (items ∷ ps) ps rest s.1 (λ n. refl)
      (over_mark CloseBracket s.0 rest (items ∷ ps) ps ps rest s.2 (λ n. refl) (stay ps rest))
  run_more_items (tree_and x xs) ts rest ps s =
      over_mark Comma ts s.0 (more_terms ∷ more_items ∷ ps) (items ∷ ps) ps rest s.2 (λ n. refl)
      (also s.0 (items ∷ ps) (more_terms ∷ more_items ∷ ps) ps s.1 rest (as_item s.0 ps (more_items ∷ ps) s.1
      (run_tree x s.0 s.1 (more_items ∷ ps) s.3)) (run_more_items xs s.1 rest ps s.4))

  run_entries : (es : Entries) (ts rest : List Word) (ps : List Part) (names : List (List ℕ)) → SpellsEntries es ts rest
      → Reaches (entries names ∷ ps) ts ps rest
  run_entries no_entry ts rest ps names s =
      over_mark CloseBrace ts rest (entries names ∷ ps) ps ps rest s (λ n. refl) (stay ps rest)
  run_entries (entry_and n at x es) ts rest ps names s =
      let more = more_entries (names ++ n ∷ []) ∷ ps in
      first ts s.0 (record { kind = Ident; at = at; text = n }) (entries names ∷ ps)
      (a_colon ∷ an_expr ∷ more) ps rest s.3 refl
      (over_mark Colon s.0 s.1 (a_colon ∷ an_expr ∷ more) (an_expr ∷ more) ps rest s.4 (λ m. refl)
      (also s.1 (an_expr ∷ more) (more_terms ∷ more) ps s.2 rest (run_tree x s.1 s.2 more s.5)
      (run_more_entries es s.2 rest ps (names ++ n ∷ []) s.6)))

  run_more_entries : (es : Entries) (ts rest : List Word) (ps : List Part) (names : List (List ℕ))
      → SpellsMoreEntries es ts rest → Reaches (more_terms ∷ more_entries names ∷ ps) ts ps rest
  run_more_entries no_entry ts rest ps names (inl s) =
      over_mark CloseBrace ts rest (more_terms ∷ more_entries names ∷ ps) ps ps rest s (λ n. refl) (stay ps rest)
  run_more_entries no_entry ts rest ps names (inr s) =
      over_mark Comma ts s.0 (more_terms ∷ more_entries names ∷ ps) (entries names ∷ ps) ps rest s.1 (λ n. refl)
      (over_mark CloseBrace s.0 rest (entries names ∷ ps) ps ps rest s.2 (λ n. refl) (stay ps rest))
  run_more_entries (entry_and n at x es) ts rest ps names s =
      let more = more_entries (names ++ n ∷ []) ∷ ps in
      over_mark Comma ts s.0 (more_terms ∷ more_entries names ∷ ps) (entries names ∷ ps) ps rest s.4 (λ m. refl)
      (first s.0 s.1 (record { kind = Ident; at = at; text = n }) (entries names ∷ ps)
      (a_colon ∷ an_expr ∷ more) ps rest s.5 refl
      (over_mark Colon s.1 s.2 (a_colon ∷ an_expr ∷ more) (an_expr ∷ more) ps rest s.6 (λ m. refl)
      (also s.2 (an_expr ∷ more) (more_terms ∷ more) ps s.3 rest (run_tree x s.2 s.3 more s.7)
      (run_more_entries es s.3 rest ps (names ++ n ∷ []) s.8))))

pub run_first : (es : Entries) (ts rest : List Word) (ps : List Part) (names : List (List ℕ)) → SpellsFirst es ts rest
    → Reaches (entries names ∷ ps) ts (entries (names ++ entry_names es) ∷ ps) rest
run_first no_entry ts rest ps names s =
    subst (λ l. Reaches (entries names ∷ ps) ts (entries l ∷ ps) rest) (sym (append-nil names))
    (subst (λ l. Reaches (entries names ∷ ps) ts (entries names ∷ ps) l) s (stay (entries names ∷ ps) ts))
run_first (entry_and n at x es) ts rest ps names s =
    let known = names ++ n ∷ [] in
    let end = entries (known ++ entry_names es) ∷ ps in
    let more = more_entries known ∷ ps in
    let all : known ++ entry_names es ≡ names ++ (n ∷ entry_names es) = append_assoc names (n ∷ []) (entry_names es) in
    subst (λ l. Reaches (entries names ∷ ps) ts (entries l ∷ ps) rest) all
    (first ts s.0 (record { kind = Ident; at = at; text = n }) (entries names ∷ ps)
    (a_colon ∷ an_expr ∷ more) end rest s.4 refl
    (over_mark Colon s.0 s.1 (a_colon ∷ an_expr ∷ more) (an_expr ∷ more) end rest s.5 (λ m. refl)
    (also s.1 (an_expr ∷ more) (more_terms ∷ more) end s.2 rest (run_tree x s.1 s.2 more s.6)
    (over_mark Comma s.2 s.3 (more_terms ∷ more) (entries known ∷ ps) end rest s.7 (λ m. refl)
    (run_first es s.3 rest ps known s.8)))))

-- how many brackets are open

abbrev Deep : Option (List Part) → ℕ → TokenKind → Type 0
Deep None d k = Unit {0}
Deep (Some new) d k = cond (is_opening k) 1 0 + d ≡ cond (closes k) 1 0 + depth_of new

deep_name : (b : Bool) → Deep (cond b None (Some (a_value ∷ []))) 0 Ident
deep_name true = tt
deep_name false = refl

deep_def : (k : TokenKind) (n : List ℕ) → Deep (begin_def k n) 0 k
deep_def Ident n = deep_name (is_truth n)
deep_def _ n = tt

deep_terms : (ps : List Part) (k : TokenKind) (n : List ℕ) → Deep (behind_all ps k n) (depth_of ps) k
    → Deep (behind_all (more_terms ∷ ps) k n) (depth_of ps) k
deep_terms ps (Mark Plus) n below = refl
deep_terms ps _ n below = below

deep : (ps : List Part) (k : TokenKind) (n : List ℕ) → Deep (behind_all ps k n) (depth_of ps) k
deep [] k n = deep_def k n
deep (more_terms ∷ ps) k n = deep_terms ps k n (deep ps k n)
deep (an_expr ∷ ps) Ident n = refl
deep (an_expr ∷ ps) Int n = refl
deep (an_expr ∷ ps) Quoted n = refl
deep (an_expr ∷ ps) Raw n = refl
deep (an_expr ∷ ps) (Mark OpenBracket) n = omega arith
deep (an_expr ∷ ps) (Mark OpenBrace) n = omega arith
deep (an_expr ∷ ps) _ n = tt
deep (items ∷ ps) (Mark CloseBracket) n = omega arith
deep (items ∷ ps) Ident n = refl
deep (items ∷ ps) Int n = refl
deep (items ∷ ps) Quoted n = refl
deep (items ∷ ps) Raw n = refl
deep (items ∷ ps) (Mark OpenBracket) n = omega arith
deep (items ∷ ps) (Mark OpenBrace) n = omega arith
deep (items ∷ ps) _ n = tt
deep (more_items ∷ ps) (Mark CloseBracket) n = omega arith
deep (more_items ∷ ps) (Mark Comma) n = refl
deep (more_items ∷ ps) _ n = tt
deep (a_colon ∷ ps) (Mark Colon) n = refl
deep (a_colon ∷ ps) _ n = tt
deep (entries names ∷ ps) (Mark CloseBrace) n = omega arith
deep (entries names ∷ ps) Ident n = refl
deep (entries names ∷ ps) _ n = tt
deep (more_entries names ∷ ps) (Mark CloseBrace) n = omega arith
deep (more_entries names ∷ ps) (Mark Comma) n = refl
deep (more_entries names ∷ ps) _ n = tt
deep (a_value ∷ ps) (Mark Equal) n = refl
deep (a_value ∷ ps) (Mark PlusEqual) n = refl
deep (a_value ∷ ps) (Mark OpenBrace) n = omega arith
deep (a_value ∷ ps) _ n = tt

abbrev opens_word : Word → ℕ
opens_word w = cond (is_opening w.kind) 1 0

abbrev closes_word : Word → ℕ
closes_word w = cond (closes w.kind) 1 0

abbrev opened_in : List Word → ℕ
opened_in ws = count_by (λ w. is_opening w.kind) ws

abbrev closed_in : List Word → ℕ
closed_in ws = count_by (λ w. closes w.kind) ws

depth_along : (ts : List Word) (ps qs : List Part) (rest : List Word) → Reaches ps ts qs rest
    → opened_in ts + depth_of ps + closed_in rest ≡ closed_in ts + depth_of qs + opened_in rest
depth_along [] ps qs rest a = omega (arith, ap depth_of a.0, ap opened_in a.1, ap closed_in a.1)
depth_along (w ∷ ws) ps qs rest (inl a) = omega (arith, ap depth_of a.0, ap opened_in a.1, ap closed_in a.1)
depth_along (w ∷ ws) ps qs rest (inr a) =
    let step : cond (is_opening w.kind) 1 0 + depth_of ps ≡ cond (closes w.kind) 1 0 + depth_of a.0 =
    subst (λ o. Deep o (depth_of ps) w.kind) a.1 (deep ps w.kind w.text) in
    omega (arith, step, depth_along ws a.0 qs rest a.2, sum_by-cons opens_word w ws, sum_by-cons closes_word w ws)

pub depth_before : (ts : List Word) (k : ℕ) (qs : List Part) → Reaches [] ts qs (drop k ts)
    → opened_in (take k ts) ≡ closed_in (take k ts) + depth_of qs
depth_before ts k qs a =
    omega (
      arith,
      depth_along ts [] qs (drop k ts) a,
      sum_by-take-drop opens_word ts k,
      sum_by-take-drop closes_word ts k,
    )
