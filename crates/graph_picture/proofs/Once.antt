-- What is marked stands in the clusters once, each module in one of them, and each edge in its list once.
use Rattle.std.proofs.Common.{◌≡◌, ◌≢◌, ◌∙◌, ◌+◌, ◌<◌, ◌≤◌, ◌&&◌, ◌++◌, ℕ, zero, suc, Bool, true, false, cond, List, []}
use Rattle.std.proofs.Common.{◌∷◌, length, map, get_or, ap, sym, subst, refl, arith, Contains, AllPairs, IsPermutation}
use Rattle.std.proofs.Common.{append_assoc, append-nil}
use Rattle.std.specs.List.{AllByRecursion, filter, flat_map}
use Rattle.std.specs.List.Sorted.{IsStrictlyIncreasing}
use Rattle.std.specs.Str.{bytes_eq}
use Rattle.std.proofs.lemmas.List.{map-append}
use Rattle.std.proofs.lemmas.List.Elements.{All-from_recursion, filter-append}
use Rattle.std.proofs.lemmas.List.Sorted.{IsPermutation-refl, IsPermutation-trans, IsPermutation-append_comm}
use Rattle.std.proofs.lemmas.List.Sorted.{IsPermutation-append_left, IsPermutation-append_right}
use Rattle.std.proofs.lemmas.Slice.Eq.{bytes_eq-Decides}
use Rattle.bp_faults.proofs.Lists.{same_bytes}
use Rattle.graph_nodes.specs.Numbered.{by_number}
use Rattle.graph_picture.specs.declared.clusters.Cluster.{Cluster}
use Rattle.graph_picture.specs.declared.variant.Arrow.{Arrow}
use Rattle.graph_picture.specs.declared.variant.Variant.{Variant}
use Rattle.graph_picture.specs.Drawing.{clusters_behind, is_inside, marked_numbers, module_name_at, numbers_in}
use Rattle.graph_picture.specs.Drawing.{clusters_with, shown_clusters}
use Rattle.graph_picture.specs.Laws.{HasOneModule, Differ, EachVariantStandsOnce, EachModuleHasOneCluster}
use Rattle.graph_picture.specs.Laws.{EachEdgeIsShownOnce}
use Rattle.graph_picture.specs.Reach.{IsKept, mark_at}
use Rattle.graph_picture.proofs.Growth.{contains_none}

-- numbers that rise from k on
abbrev Rising : ℕ → List ℕ → Type 0
Rising k [] = Unit {0}
Rising k (x ∷ xs) = (k ≤ x) × Rising (x + 1) xs

rises_later : (k j : ℕ) (xs : List ℕ) → k ≤ j → Rising j xs → Rising k xs
rises_later k j [] le r = tt
rises_later k j (x ∷ xs) le r = (omega (arith, le, r.0), r.1)

increasing : (k : ℕ) (xs : List ℕ) → Rising k xs → IsStrictlyIncreasing xs
increasing k [] r i lt = absurd (omega arith)
increasing k (x ∷ []) r i lt = absurd (omega arith)
increasing k (x ∷ y ∷ xs) r zero lt = omega (arith, r.1.0)
increasing k (x ∷ y ∷ xs) r (suc i) lt =
    subst (λ (j : ℕ). get_or (y ∷ xs) i 0 < get_or (x ∷ y ∷ xs) j 0)
    (let e : suc (i + 1) ≡ suc i + 1 = omega arith in e)
    (increasing (x + 1) (y ∷ xs) r.1 i (omega arith))

-- the marked numbers, from k on
abbrev marked_from : ℕ → List Bool → List ℕ
marked_from = by_number (λ n (mark : Bool). cond mark (n ∷ []) [])

marked_rise : (k : ℕ) (marks : List Bool) → Rising k (marked_from k marks)
marked_rise k [] = tt
marked_rise k (true ∷ marks) = (omega arith, marked_rise (k + 1) marks)
marked_rise k (false ∷ marks) =
    rises_later k (k + 1) (marked_from (k + 1) marks) (omega arith) (marked_rise (k + 1) marks)

marked_to : (k : ℕ) (marks : List Bool) (n : ℕ) → Contains (marked_from k marks) n
    → (i : ℕ) × (n ≡ k + i) × (mark_at marks i ≡ true)
marked_to k [] n h = absurd (contains_none n h)
marked_to k (true ∷ marks) n (zero, lt, is) = (0, (let e : k ≡ n = is in omega arith), refl)
marked_to k (true ∷ marks) n (suc j, lt, is) =
    let r = marked_to (k + 1) marks n (j, omega arith, is) in (suc r.0, omega (arith, r.1), r.2)
marked_to k (false ∷ marks) n h =
    let r = marked_to (k + 1) marks n h in (suc r.0, omega (arith, r.1), r.2)

marked_back : (k : ℕ) (marks : List Bool) (i : ℕ) → mark_at marks i ≡ true → Contains (marked_from k marks) (k + i)
marked_back k [] i e = absurd (let f : false ≡ true = e in cc)
marked_back k (true ∷ marks) zero e = (0, omega arith, (let f : k ≡ k + 0 = omega arith in f))
marked_back k (false ∷ marks) zero e = absurd (let f : false ≡ true = e in cc)
marked_back k (true ∷ marks) (suc i) e =
    let r = marked_back (k + 1) marks i e in
    subst (λ (n : ℕ). Contains (k ∷ marked_from (k + 1) marks) n) (let f : k + 1 + i ≡ k + suc i = omega arith in f)
    (suc r.0, omega (arith, r.1), r.2)
marked_back k (false ∷ marks) (suc i) e =
    subst (λ (n : ℕ). Contains (marked_from (k + 1) marks) n) (let f : k + 1 + i ≡ k + suc i = omega arith in f)
    (marked_back (k + 1) marks i e)

marked_inside : (marks : List Bool) (n : ℕ) → mark_at marks n ≡ true → n < length marks
marked_inside [] n e = absurd (let f : false ≡ true = e in cc)
marked_inside (mark ∷ marks) zero e = omega arith
marked_inside (mark ∷ marks) (suc n) e = omega (arith, marked_inside marks n e)

module _ (vs : List Variant) where
  abbrev joined : List Cluster → List ℕ
  joined = flat_map numbers_in

  -- a number that is put into the clusters is one more in them
  joined_put : (n : ℕ) (cs : List Cluster) → IsPermutation (joined cs ++ n ∷ []) (joined (clusters_with vs n cs))
  joined_put n [] = IsPermutation-refl (n ∷ [])
  joined_put n (c ∷ cs) = by (joined_put n cs) (bytes_eq (module_name_at vs n) (module_name_at vs c.first))
    where
      whole : numbers_in c ++ (joined cs ++ n ∷ []) ≡ joined (c ∷ cs) ++ n ∷ []
      whole = sym (append_assoc (numbers_in c) (joined cs) (n ∷ []))

      by : IsPermutation (joined cs ++ n ∷ []) (joined (clusters_with vs n cs)) → (b : Bool)
          → IsPermutation (joined (c ∷ cs) ++ n ∷ [])
          (joined (cond b (record { first = c.first; others = c.others ++ n ∷ [] } ∷ cs) (c ∷ clusters_with vs n cs)))
      by rest true =
          subst (λ (l : List ℕ). IsPermutation l ((numbers_in c ++ n ∷ []) ++ joined cs)) whole
          (subst (IsPermutation (numbers_in c ++ (joined cs ++ n ∷ [])))
          (sym (append_assoc (numbers_in c) (n ∷ []) (joined cs)))
          (IsPermutation-append_right (numbers_in c) (joined cs ++ n ∷ []) (n ∷ joined cs)
          (IsPermutation-append_comm (joined cs) (n ∷ []))))
      by rest false =
          subst (λ (l : List ℕ). IsPermutation l (numbers_in c ++ joined (clusters_with vs n cs))) whole
          (IsPermutation-append_right (numbers_in c) (joined cs ++ n ∷ []) (joined (clusters_with vs n cs)) rest)

  joined_behind : (cs : List Cluster) (ns : List ℕ)
      → IsPermutation (joined cs ++ ns) (joined (clusters_behind vs cs ns))
  joined_behind cs [] =
      subst (λ (l : List ℕ). IsPermutation l (joined cs)) (sym (append-nil (joined cs)))
      (IsPermutation-refl (joined cs))
  joined_behind cs (n ∷ ns) =
      subst (λ (l : List ℕ). IsPermutation l (joined (clusters_behind vs (clusters_with vs n cs) ns)))
      (append_assoc (joined cs) (n ∷ []) ns)
      (IsPermutation-trans ((joined cs ++ n ∷ []) ++ ns) (joined (clusters_with vs n cs) ++ ns)
      (joined (clusters_behind vs (clusters_with vs n cs) ns))
      (IsPermutation-append_left ns (joined cs ++ n ∷ []) (joined (clusters_with vs n cs)) (joined_put n cs))
      (joined_behind (clusters_with vs n cs) ns))

  all_put : (P : ℕ → Type 0) (ns : List ℕ) (n : ℕ) → AllByRecursion P ns → P n → AllByRecursion P (ns ++ n ∷ [])
  all_put P [] n all p = (p, tt)
  all_put P (k ∷ ns) n all p = (all.0, all_put P ns n all.1 p)

  -- each cluster has one module still
  one_module : (n : ℕ) (cs : List Cluster) → AllByRecursion (HasOneModule vs) cs
      → AllByRecursion (HasOneModule vs) (clusters_with vs n cs)
  one_module n [] all = (tt, tt)
  one_module n (c ∷ cs) all =
      by (one_module n cs all.1) (bytes_eq (module_name_at vs n) (module_name_at vs c.first))
      (same_bytes (module_name_at vs n) (module_name_at vs c.first))
    where
      by : AllByRecursion (HasOneModule vs) (clusters_with vs n cs) → (b : Bool)
          → (b ≡ true → module_name_at vs n ≡ module_name_at vs c.first)
          → AllByRecursion (HasOneModule vs)
          (cond b (record { first = c.first; others = c.others ++ n ∷ [] } ∷ cs) (c ∷ clusters_with vs n cs))
      by rest true same =
          (all_put (λ k. module_name_at vs k ≡ module_name_at vs c.first) c.others n all.0 (same refl), all.1)
      by rest false same = (all.0, rest)

  -- a cluster differs from the others, and from that of one more variant
  differs_put : (c : Cluster) (n : ℕ) (cs : List Cluster) → module_name_at vs c.first ≢ module_name_at vs n
      → AllByRecursion (Differ vs c) cs → AllByRecursion (Differ vs c) (clusters_with vs n cs)
  differs_put c n [] other all = (other, tt)
  differs_put c n (d ∷ cs) other all =
      by (differs_put c n cs other all.1) (bytes_eq (module_name_at vs n) (module_name_at vs d.first))
    where
      by : AllByRecursion (Differ vs c) (clusters_with vs n cs) → (b : Bool)
          → AllByRecursion (Differ vs c)
          (cond b (record { first = d.first; others = d.others ++ n ∷ [] } ∷ cs) (d ∷ clusters_with vs n cs))
      by rest true = all
      by rest false = (all.0, rest)

  abbrev Apart : List Cluster → Type 0
  Apart [] = Unit {0}
  Apart (c ∷ cs) = AllByRecursion (Differ vs c) cs × Apart cs

  apart_put : (n : ℕ) (cs : List Cluster) → Apart cs → Apart (clusters_with vs n cs)
  apart_put n [] apart = (tt, tt)
  apart_put n (c ∷ cs) apart =
      by (apart_put n cs apart.1) (bytes_eq (module_name_at vs n) (module_name_at vs c.first))
      (bytes_eq-Decides (module_name_at vs n) (module_name_at vs c.first)).1
    where
      by : Apart (clusters_with vs n cs) → (b : Bool) → (module_name_at vs n ≡ module_name_at vs c.first → b ≡ true)
          → Apart (cond b (record { first = c.first; others = c.others ++ n ∷ [] } ∷ cs) (c ∷ clusters_with vs n cs))
      by rest true same = apart
      by rest false same = (
        differs_put c n cs (λ e. let f : false ≡ true = same (sym e) in cc) apart.0,
        rest,
      )

  both_behind : (cs : List Cluster) (ns : List ℕ) → AllByRecursion (HasOneModule vs) cs → Apart cs
      → AllByRecursion (HasOneModule vs) (clusters_behind vs cs ns) × Apart (clusters_behind vs cs ns)
  both_behind cs [] all apart = (all, apart)
  both_behind cs (n ∷ ns) all apart =
      both_behind (clusters_with vs n cs) ns (one_module n cs all) (apart_put n cs apart)

  pairs : (cs : List Cluster) → Apart cs → AllPairs (Differ vs) cs
  pairs [] apart i j d lt le = absurd (omega arith)
  pairs (c ∷ cs) apart i zero d lt le = absurd (omega arith)
  pairs (c ∷ cs) apart zero (suc j) d lt le = All-from_recursion (Differ vs c) cs apart.0 j d (omega arith)
  pairs (c ∷ cs) apart (suc i) (suc j) d lt le = pairs cs apart.1 i j d (omega arith) (omega arith)

pub each_variant_stands_once : EachVariantStandsOnce
each_variant_stands_once vs focus marks m = record {
  rising = marked_numbers marks;
  rise = increasing 0 (marked_numbers marks) (marked_rise 0 marks);
  exact = λ n. (to n, from n);
  same = joined_behind vs [] (marked_numbers marks);
}
  where
    to : (n : ℕ) → Contains (marked_numbers marks) n → (n < length vs) × IsKept vs focus n
    to n h =
        let r = marked_to 0 marks n h in
        let set : mark_at marks n ≡ true = ap (mark_at marks) (let e : n ≡ r.0 = omega (arith, r.1) in e) ∙ r.2 in
        let inside : n < length vs = omega (arith, m.size, marked_inside marks n set) in
        (inside, (m.exact n inside).0 set)

    from : (n : ℕ) → (n < length vs) × IsKept vs focus n → Contains (marked_numbers marks) n
    from n h =
        subst (Contains (marked_numbers marks)) (let e : 0 + n ≡ n = omega arith in e)
        (marked_back 0 marks n ((m.exact n h.0).1 h.1))

pub each_module_has_one_cluster : EachModuleHasOneCluster
each_module_has_one_cluster vs marks =
    let r = both_behind vs [] (marked_numbers marks) tt tt in
    (r.0, pairs vs (shown_clusters vs marks) r.1)

-- the edges at a number are the edges
edges_at : (n : ℕ) (edges : List Arrow) → map (λ (a : ℕ × Arrow). a.1) (map (λ (a : Arrow). (n, a)) edges) ≡ edges
edges_at n [] = refl
edges_at n (a ∷ edges) = ap (λ (l : List Arrow). a ∷ l) (edges_at n edges)

abbrev arrows_from : ℕ → List Variant → List (ℕ × Arrow)
arrows_from = by_number (λ n (v : Variant). map (λ (a : Arrow). (n, a)) v.edges)

edges_from : (k : ℕ) (vs : List Variant)
    → map (λ (a : ℕ × Arrow). a.1) (arrows_from k vs) ≡ flat_map (λ (v : Variant). v.edges) vs
edges_from k [] = refl
edges_from k (v ∷ vs) =
    map-append (λ (a : ℕ × Arrow). a.1) (map (λ (a : Arrow). (k, a)) v.edges) (arrows_from (k + 1) vs)
    ∙ ap (λ (l : List Arrow). l ++ map (λ (a : ℕ × Arrow). a.1) (arrows_from (k + 1) vs)) (edges_at k v.edges)
    ∙ ap (λ (l : List Arrow). v.edges ++ l) (edges_from (k + 1) vs)

module _ (marks : List Bool) (count : ℕ) (set : (n : ℕ) → n < count → mark_at marks n ≡ true) where
  here_all : (n : ℕ) (edges : List Arrow) → n < count → AllByRecursion (λ (a : Arrow). a.to < count) edges
      → filter (is_inside marks) (map (λ (a : Arrow). (n, a)) edges) ≡ map (λ (a : Arrow). (n, a)) edges
  here_all n [] lt all = refl
  here_all n (a ∷ edges) lt all =
      let inside : is_inside marks (n, a) ≡ true =
      ap (λ (b : Bool). b && mark_at marks a.to) (set n lt) ∙ set a.to all.0 in
      let rest = filter (is_inside marks) (map (λ (b : Arrow). (n, b)) edges) in
      ap (λ (b : Bool). cond b ((n, a) ∷ rest) rest) inside
      ∙ ap (λ (l : List (ℕ × Arrow)). (n, a) ∷ l) (here_all n edges lt all.1)

  from_all : (k : ℕ) (vs : List Variant) → k + length vs ≤ count
      → AllByRecursion (λ (v : Variant). AllByRecursion (λ (a : Arrow). a.to < count) v.edges) vs
      → filter (is_inside marks) (arrows_from k vs) ≡ arrows_from k vs
  from_all k [] le all = refl
  from_all k (v ∷ vs) le all =
      let here : List (ℕ × Arrow) = map (λ (a : Arrow). (k, a)) v.edges in
      filter-append (is_inside marks) here (arrows_from (k + 1) vs)
      ∙ ap (λ (l : List (ℕ × Arrow)). l ++ filter (is_inside marks) (arrows_from (k + 1) vs))
      (here_all k v.edges (omega arith) all.0)
      ∙ ap (λ (l : List (ℕ × Arrow)). here ++ l) (from_all (k + 1) vs (omega arith) all.1)

pub each_edge_is_shown_once : EachEdgeIsShownOnce
each_edge_is_shown_once vs marks graph m = (
  edges_from 0 vs,
  from_all marks (length vs) (λ n lt. (m.exact n lt).1 tt) 0 vs (omega arith) graph.ends,
)
