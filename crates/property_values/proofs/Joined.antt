-- Components joined by slashes: a path that grows part by part, and paths in normal form.
use Rattle.std.proofs.Common.{◌≡◌, ℕ, Bool, true, false, cond, List, [], ◌∷◌, ◌++◌, refl, ap, sym, ◌∙◌, append_assoc}
use Rattle.std.proofs.Common.{eqb, true≢false}
use Rattle.std.specs.Prelude.{filter, not, ◌||◌}
use Rattle.std.specs.List.{fold, list_all, list_any, onto_first, join_with_byte}
use Rattle.std.proofs.lemmas.Bool.{and_parts, and_from}
use Rattle.std.proofs.lemmas.List.{append-nil}
use Rattle.std.proofs.lemmas.List.Splits.{join_with_byte-slice_split, slice_split-cons_no}
use Rattle.bp_faults.specs.Paths.{is_component, is_normal}
use Rattle.bp_faults.proofs.Paths.{normal_of_parts}
use Rattle.property_values.specs.Paths.{parts, components, path_below}
use Rattle.property_values.specs.Inside.{behind, path_and}
use Rattle.property_values.specs.Fits.{is_empty}
use Rattle.property_values.specs.Laws.{StaysBelow}

abbrev join : List (List ℕ) → List ℕ
join = join_with_byte 47

abbrev NoSlash : List ℕ → Type 0
NoSlash [] = Unit {0}
NoSlash (b ∷ bs) = (eqb b 47 ≡ false) × NoSlash bs

abbrev NoSlashes : List (List ℕ) → Type 0
NoSlashes [] = Unit {0}
NoSlashes (p ∷ ps) = NoSlash p × NoSlashes ps

-- components that hold no slash
abbrev Solid : List (List ℕ) → Type 0
Solid [] = Unit {0}
Solid (c ∷ cs) = ((is_component c ≡ true) × NoSlash c) × Solid cs

solid_append : (xs ys : List (List ℕ)) → Solid xs → Solid ys → Solid (xs ++ ys)
solid_append [] ys all more = more
solid_append (x ∷ xs) ys all more = (all.0, solid_append xs ys all.1 more)

-- what is cut at the slashes holds none

onto_part : (b : ℕ) (ps : List (List ℕ)) → eqb b 47 ≡ false → NoSlashes ps → NoSlashes (onto_first b ps)
onto_part b [] other all = ((other, tt), tt)
onto_part b (p ∷ ps) other all = ((other, all.0), all.1)

no_slashes : (text : List ℕ) → NoSlashes (parts text)
no_slashes [] = (tt, tt)
no_slashes (b ∷ text) = by (eqb b 47) refl (no_slashes text)
  where
    by : (slash : Bool) → eqb b 47 ≡ slash → NoSlashes (parts text)
        → NoSlashes (cond slash ([] ∷ parts text) (onto_first b (parts text)))
    by true is rest = (tt, rest)
    by false is rest = onto_part b (parts text) is rest

solid_filter : (ps : List (List ℕ)) → NoSlashes ps → Solid (filter is_component ps)
solid_filter [] all = tt
solid_filter (p ∷ ps) all = by (is_component p) refl (solid_filter ps all.1)
  where
    by : (kept : Bool) → is_component p ≡ kept → Solid (filter is_component ps)
        → Solid (cond kept (p ∷ filter is_component ps) (filter is_component ps))
    by true is rest = ((is, all.0), rest)
    by false is rest = rest

solid_components : (text : List ℕ) → Solid (components text)
solid_components text = solid_filter (parts text) (no_slashes text)

-- what is joined is cut at the slashes into the same components

split_one : (c : List ℕ) → NoSlash c → parts c ≡ c ∷ []
split_one [] none = refl
split_one (b ∷ bs) none = slice_split-cons_no (λ x. eqb x 47) b bs none.0 ∙ ap (onto_first b) (split_one bs none.1)

split_at : (c more : List ℕ) → NoSlash c → parts (c ++ 47 ∷ more) ≡ c ∷ parts more
split_at [] more none = refl
split_at (b ∷ bs) more none = slice_split-cons_no (λ x. eqb x 47) b (bs ++ 47 ∷ more) none.0
    ∙ ap (onto_first b) (split_at bs more none.1)

split_join : (c : List ℕ) (cs : List (List ℕ)) → Solid (c ∷ cs) → parts (join (c ∷ cs)) ≡ c ∷ cs
split_join c [] all = split_one c all.0.1
split_join c (d ∷ ds) all = split_at c (join (d ∷ ds)) all.0.1 ∙ ap (λ rest. c ∷ rest) (split_join d ds all.1)

all_components : (cs : List (List ℕ)) → Solid cs → list_all is_component cs ≡ true
all_components [] all = refl
all_components (c ∷ cs) all = and_from (is_component c) (list_all is_component cs) all.0.0 (all_components cs all.1)

normal_join : (cs : List (List ℕ)) → Solid cs → is_normal (join cs) ≡ true
normal_join [] all = refl
normal_join (c ∷ cs) all = normal_of_parts (join (c ∷ cs))
    (ap (list_all is_component) (split_join c cs all) ∙ all_components (c ∷ cs) all)

-- the path of an item is in normal form
pub normal_placed : (dir item : List ℕ) → is_normal (path_below dir item) ≡ true
normal_placed dir item = normal_join (components dir ++ components item)
    (solid_append (components dir) (components item) (solid_components dir) (solid_components item))

-- a path that grows part by part

join_push : (c : List ℕ) (cs : List (List ℕ)) (d : List ℕ) → join (c ∷ cs) ++ 47 ∷ d ≡ join (c ∷ (cs ++ d ∷ []))
join_push c [] d = refl
join_push c (e ∷ es) d = append_assoc c (47 ∷ join (e ∷ es)) (47 ∷ d) ∙ ap (λ rest. c ++ 47 ∷ rest) (join_push e es d)

behind_full : (c more d : List ℕ) → is_component c ≡ true → behind (c ++ more) d ≡ (c ++ more) ++ 47 ∷ d
behind_full [] more d is = absurd (true≢false (sym is))
behind_full (b ∷ bs) more d is = refl

tail_of_join : (c : List ℕ) (cs : List (List ℕ)) → (more : List ℕ) × (join (c ∷ cs) ≡ c ++ more)
tail_of_join c [] = ([], sym (append-nil c))
tail_of_join c (d ∷ ds) = (47 ∷ join (d ∷ ds), refl)

behind_join : (cs : List (List ℕ)) (d : List ℕ) → Solid cs → behind (join cs) d ≡ join (cs ++ d ∷ [])
behind_join [] d all = refl
behind_join (c ∷ cs) d all =
    let tail = tail_of_join c cs in
    ap (λ text. behind text d) tail.1 ∙ behind_full c tail.0 d all.0.0
    ∙ ap (λ text. text ++ 47 ∷ d) (sym tail.1) ∙ join_push c cs d

-- the parts of an item put behind a path one by one
grown : (ps cs : List (List ℕ)) → NoSlashes ps → Solid cs
    → fold path_and (join cs) ps ≡ join (cs ++ filter is_component ps)
grown [] cs none all = ap join (sym (append-nil cs))
grown (p ∷ ps) cs none all = by (is_component p) refl (λ more solid. grown ps more none.1 solid)
  where
    by : (kept : Bool) → is_component p ≡ kept
        → ((more : List (List ℕ)) → Solid more → fold path_and (join more) ps ≡ join (more ++ filter is_component ps))
        → fold path_and (cond kept (behind (join cs) p) (join cs)) ps ≡ join
        (cs ++ cond kept (p ∷ filter is_component ps) (filter is_component ps))
    by true is next =
        ap (λ path. fold path_and path ps) (behind_join cs p all)
        ∙ next (cs ++ p ∷ []) (solid_append cs (p ∷ []) all ((is, none.0), tt))
        ∙ ap join (append_assoc cs (p ∷ []) (filter is_component ps))
    by false is next = next cs all

filter_whole : (ps : List (List ℕ)) → list_all is_component ps ≡ true → filter is_component ps ≡ ps
filter_whole [] all = refl
filter_whole (p ∷ ps) all =
    let both = and_parts (is_component p) (list_all is_component ps) all in
    rw both.0 (ap (λ rest. p ∷ rest) (filter_whole ps both.1))

-- a path in normal form is its components, joined
dir_joined : (dir : List ℕ) → is_normal dir ≡ true → dir ≡ join (components dir)
dir_joined [] normal = refl
dir_joined (b ∷ bs) normal =
    sym (ap join (filter_whole (parts (b ∷ bs)) normal) ∙ join_with_byte-slice_split 47 (b ∷ bs))

pub grown_placed : (dir item : List ℕ) → is_normal dir ≡ true → fold path_and dir (parts item) ≡ path_below dir item
grown_placed dir item normal =
    ap (λ path. fold path_and path (parts item)) (dir_joined dir normal)
    ∙ grown (parts item) (components dir) (no_slashes item) (solid_components dir)

-- some part is a component where the components are some
pub some_component : (ps : List (List ℕ)) → list_any is_component ps ≡ not (is_empty (filter is_component ps))
some_component [] = refl
some_component (p ∷ ps) = by (is_component p) (some_component ps)
  where
    by : (kept : Bool) → list_any is_component ps ≡ not (is_empty (filter is_component ps))
        → (kept || list_any is_component ps) ≡ not
        (is_empty (cond kept (p ∷ filter is_component ps) (filter is_component ps)))
    by true rest = refl
    by false rest = rest

components_join : (cs : List (List ℕ)) → Solid cs → components (join cs) ≡ cs
components_join [] all = refl
components_join (c ∷ cs) all = ap (filter is_component) (split_join c cs all)
    ∙ filter_whole (c ∷ cs) (all_components (c ∷ cs) all)

-- the path of an item has the components of its directory and its own
pub components_placed : (dir item : List ℕ) → components (path_below dir item) ≡ components dir ++ components item
components_placed dir item = components_join (components dir ++ components item)
    (solid_append (components dir) (components item) (solid_components dir) (solid_components item))

-- the law of paths
pub stays_below : (dir item : List ℕ) → StaysBelow dir item
stays_below dir item = record { normal = normal_placed dir item; parts = components_placed dir item }
