-- The graph after a split is valid.
use Rattle.std.proofs.Common.{◌≡◌, ◌≢◌, ◌+◌, ◌<◌, ◌≤◌, ◌++◌, ℕ, suc, List, [], ◌∷◌, map, length, get_or, set, refl, ap}
use Rattle.std.proofs.Common.{◌∙◌, sym, subst, arith, zero-add, add-zero, append_assoc, Option, Some, None}
use Rattle.std.specs.Prelude.{slice_get, slice_set, ⊤}
use Rattle.std.specs.Option.{option_map}
use Rattle.std.specs.List.{AllByRecursion, AllPairs, filter_map}
use Rattle.std.proofs.lemmas.List.{length-map, set-set, set-get_or, get_or-set_same}
use Rattle.std.proofs.lemmas.List.Elements.{All-from_recursion}
use Rattle.std.proofs.lemmas.Option.{get_or_from_slice_get, slice_get_within}
use Rattle.serial_pass.specs.declared.plan.PlanEdge.{PlanEdge}
use Rattle.serial_pass.specs.Plans.{HasNoCycle}
use Rattle.bp_faults.proofs.Lists.{all_with, all_append, all_image}
use Rattle.bp_faults.proofs.Lists.{all_split, Apart, apart_pairs, pairs_apart, apart_append, apart_image, all_each}
use Rattle.bp_faults.proofs.Lists.{all_before}
use Rattle.graph_nodes.specs.declared.graph.Edge.{Edge}
use Rattle.graph_nodes.specs.declared.graph.Node.{Node}
use Rattle.graph_nodes.specs.declared.variation.Variation.{Variation}
use Rattle.graph_nodes.specs.declared.variation.Variation.TheVariants.{Empty}
use Rattle.graph_nodes.specs.Axes.{axis_index}
use Rattle.graph_nodes.specs.Numbered.{by_number}
use Rattle.graph_nodes.specs.Nodes.{NameNodes}
use Rattle.module_graph.specs.Graphs.{outward, edges_of, IsValid}
use Rattle.variant_graphs.proofs.Alls.{all_by_number, all_kept}
use Rattle.module_graph.specs.Laws.{NoneReturnsWhereNumberingRises, EdgesJoinNodes}
use Rattle.variant_graphs.specs.Splitting.{Splitting, variants_at, first_of, led_edge, variant_node, split_nodes}
use Rattle.variant_graphs.specs.Splitting.{HasFreeAxis}
use Rattle.variant_graphs.specs.Splits.{IsSplitting}
use Rattle.variant_graphs.proofs.NewNodes.{piece, first_more, variant_inside}
use Rattle.variant_graphs.proofs.Owners.{owner_from, owner_is}

pub by_number_append : {X A : Type 0} (f : ℕ → X → List A) (k : ℕ) (xs ys : List X)
    → by_number f k (xs ++ ys) ≡ by_number f k xs ++ by_number f (k + length xs) ys
by_number_append f k [] ys = ap (λ n. by_number f n ys) (sym (add-zero k))
by_number_append f k (x ∷ xs) ys =
    let e : (k + 1) + length xs ≡ k + suc (length xs) = omega arith in
    ap (λ l. f k x ++ l) (by_number_append f (k + 1) xs ys ∙ ap (λ n. by_number f (k + 1) xs ++ by_number f n ys) e)
    ∙ sym (append_assoc (f k x) (by_number f (k + 1) xs) (by_number f (k + suc (length xs)) ys))

-- variations that were free at an index are the same where they are the same after one is set there
pub same_but_set : (vars other : List Variation) (index : ℕ) (v w : Variation) → slice_get vars index ≡ Some Empty
    → slice_get other index ≡ Some Empty → slice_set vars index v ≡ slice_set other index w → vars ≡ other
same_but_set vars other index v w free free2 e =
    let a = get_or_from_slice_get vars index Empty Empty free in
    let b = get_or_from_slice_get other index Empty Empty free2 in
    sym (set-get_or vars index Empty)
    ∙ ap (λ z. set vars index z) a
    ∙ sym (set-set vars index v Empty)
    ∙ ap (λ l. set l index Empty) e
    ∙ set-set other index w Empty
    ∙ ap (λ z. set other index z) (sym b)
    ∙ set-get_or other index Empty

pub same_set : (vars : List Variation) (index : ℕ) (v w : Variation) → slice_get vars index ≡ Some Empty
    → slice_set vars index v ≡ slice_set vars index w → v ≡ w
same_set vars index v w free e =
    let lt = slice_get_within vars index Empty free in
    sym (get_or-set_same vars index v Empty lt)
    ∙ ap (λ l. get_or l index Empty) e
    ∙ get_or-set_same vars index w Empty lt

module _ {P : Type 0} where
  abbrev pub Differ : Node P → Node P → Type 0
  Differ x y = x.«module» ≡ y.«module» → x.vars ≡ y.vars → ⊥

module _ {P B : Type 0} (s : Splitting P B) (nodes : List (Node P)) (named : NameNodes nodes)
    (splits : IsSplitting s nodes) where
  -- each new edge names a new node
  pub ends_stay : NameNodes (split_nodes s nodes)
  ends_stay =
      all_by_number (λ (x : Node P). AllByRecursion (λ (e : Edge). e.to.0 < length nodes) x.edges)
      (λ (y : Node P). AllByRecursion (λ (e : Edge). e.to.0 < length (split_nodes s nodes)) y.edges) (length nodes)
      (piece s nodes splits.many)
      (λ n x lt h. all_image (λ (b : B). ⊤) (λ (y : Node P).
      AllByRecursion (λ (e : Edge). e.to.0 < length (split_nodes s nodes)) y.edges) (variant_node s n x)
      (λ b _. all_kept (λ (e : Edge). e.to.0 < length nodes) (λ (e : Edge). e.to.0 < length (split_nodes s nodes))
      (led_edge s n (s.variation b))
      (λ e y inside is. one n (s.variation b) e y inside (s.lead n (s.variation b) e) refl is) x.edges h)
      (variants_at s n) (all_each (λ (b : B). ⊤) (λ b. tt) (variants_at s n))) 0 nodes (zero-add (length nodes)) named
    where
      one : (n : ℕ) (v : Variation) (e y : Edge) → e.to.0 < length nodes → (o : Option ℕ) → s.lead n v e ≡ o
          → option_map (λ index. record { kind = e.kind; to = record { 0 = first_of s e.to.0 + index }; at = e.at }) o
          ≡ Some y → y.to.0 < length (split_nodes s nodes)
      one n v e y inside None is h = cc
      one n v e y inside (Some index) is h =
          let same : first_of s e.to.0 + index ≡ y.to.0 =
          (let t : Some (first_of s e.to.0 + index) ≡ Some y.to.0 = ap (option_map (λ (z : Edge). z.to.0)) h in cc) in
          subst (λ k. k < length (split_nodes s nodes)) same
          (variant_inside s nodes splits.many e.to.0 index inside (splits.within n v e index is))

module _ {P B : Type 0} (join : EdgesJoinNodes P) (rising : NoneReturnsWhereNumberingRises) (s : Splitting P B)
    (nodes : List (Node P)) (valid : IsValid nodes) (free : HasFreeAxis s.axis nodes)
    (splits : IsSplitting s nodes) where
  abbrev Free : Node P → Type 0
  Free x = slice_get x.vars (axis_index s.axis) ≡ Some Empty

  -- variants of one node differ
  apart_here : (n : ℕ) (x : Node P) → n < length nodes → Free x
      → Apart Differ (map (variant_node s n x) (variants_at s n))
  apart_here n x lt open' =
      apart_image (λ (b c : B). s.variation b ≢ s.variation c) Differ (variant_node s n x)
      (λ b c ne _ e. ne (same_set x.vars (axis_index s.axis) (s.variation b) (s.variation c) open' e)) (variants_at s n)
      (apart_pairs (λ (b c : B). s.variation b ≢ s.variation c) (variants_at s n)
      (All-from_recursion (AllPairs (λ (b c : B). s.variation b ≢ s.variation c)) s.variants splits.differ n []
      (let e = splits.many in omega arith)))

  apart_from : (k : ℕ) (xs : List (Node P)) → k + length xs ≡ length nodes → Apart Differ xs → AllByRecursion Free xs
      → Apart Differ (by_number (piece s nodes splits.many) k xs)
  apart_from k [] e h open' = tt
  apart_from k (x ∷ xs) e h open' =
      apart_append Differ (map (variant_node s k x) (variants_at s k)) (by_number (piece s nodes splits.many)
      (k + 1) xs) (apart_here k x (omega arith) open'.0) (apart_from (k + 1) xs (omega arith) h.1 open'.1)
      (all_image (λ (b : B). ⊤) (λ (y : Node P).
      AllByRecursion (Differ y) (by_number (piece s nodes splits.many) (k + 1) xs)) (variant_node s k x)
      (λ b _. all_by_number (λ (z : Node P). Differ x z × Free z) (λ (w : Node P). Differ (variant_node s k x b) w)
      (length nodes) (piece s nodes splits.many)
      (λ n z lt hz. all_image (λ (c : B). ⊤) (λ (w : Node P). Differ (variant_node s k x b) w) (variant_node s n z)
      (λ c _ same vars. hz.0 same (same_but_set x.vars z.vars (axis_index s.axis) (s.variation b)
      (s.variation c) open'.0 hz.1 vars)) (variants_at s n) (all_each (λ (c : B). ⊤) (λ c. tt) (variants_at s n)))
      (k + 1) xs (omega arith)
      (all_with (Differ x) Free (λ (z : Node P). Differ x z × Free z) (λ z a f. (a, f)) xs h.0 open'.1))
      (variants_at s k) (all_each (λ (b : B). ⊤) (λ b. tt) (variants_at s k)))

  old_free : HasNoCycle (edges_of nodes)
  old_free = (rising (length nodes) (edges_of nodes) (join nodes valid.ends)).0 valid.acyclic

  -- a new node has the rank of its old node
  abbrev level : ℕ → ℕ
  level i = old_free.rank (owner_from 0 s.variants i)

  level_is : (n index : ℕ) → n < length nodes → index < length (variants_at s n)
      → level (first_of s n + index) ≡ old_free.rank n
  level_is n index lt within =
      ap old_free.rank (owner_is 0 s.variants n index (let e = splits.many in omega arith) within ∙ zero-add n)

  abbrev Rises : PlanEdge → Type 0
  Rises e = level e.from.0 < level e.to.0

  abbrev OldRises : PlanEdge → Type 0
  OldRises e = old_free.rank e.from.0 < old_free.rank e.to.0

  -- the edges of one variant rise
  variant_rises : (n index : ℕ) (v : Variation) (es : List Edge) → n < length nodes → index < length (variants_at s n)
      → AllByRecursion (λ (e : Edge). e.to.0 < length nodes) es
      → AllByRecursion (λ (e : Edge). old_free.rank n < old_free.rank e.to.0) es
      → AllByRecursion Rises (map (outward (first_of s n + index)) (filter_map (led_edge s n v) es))
  variant_rises n index v es lt within inside rise =
      all_image (λ (e : Edge). old_free.rank n < level e.to.0) Rises (outward (first_of s n + index))
      (λ e h. let a = level_is n index lt within in omega arith) (filter_map (led_edge s n v) es)
      (all_kept (λ (e : Edge). (e.to.0 < length nodes) × (old_free.rank n < old_free.rank e.to.0)) (λ (e : Edge).
      old_free.rank n < level e.to.0) (led_edge s n v) (λ e y h is. one e y h.0 h.1 (s.lead n v e) refl is) es
      (all_with (λ (e : Edge). e.to.0 < length nodes) (λ (e : Edge). old_free.rank n < old_free.rank e.to.0)
      (λ (e : Edge). (e.to.0 < length nodes) × (old_free.rank n < old_free.rank e.to.0))
      (λ e a b. (a, b)) es inside rise))
    where
      one : (e y : Edge) → e.to.0 < length nodes → old_free.rank n < old_free.rank e.to.0 → (o : Option ℕ)
          → s.lead n v e ≡ o
          → option_map (λ index. record { kind = e.kind; to = record { 0 = first_of s e.to.0 + index }; at = e.at }) o
          ≡ Some y → old_free.rank n < level y.to.0
      one e y inside rise None is h = cc
      one e y inside rise (Some index) is h =
          let same : first_of s e.to.0 + index ≡ y.to.0 =
          (let t : Some (first_of s e.to.0 + index) ≡ Some y.to.0 = ap (option_map (λ (z : Edge). z.to.0)) h in cc) in
          subst (λ k. old_free.rank n < level k) same
          (let a = level_is e.to.0 index inside (splits.within n v e index is) in omega arith)

  -- and those of some variants of a node
  variants_rise : (n index : ℕ) (x : Node P) (bs : List B) → n < length nodes
      → index + length bs ≤ length (variants_at s n) → AllByRecursion (λ (e : Edge). e.to.0 < length nodes) x.edges
      → AllByRecursion (λ (e : Edge). old_free.rank n < old_free.rank e.to.0) x.edges
      → AllByRecursion Rises
      (by_number (λ i (y : Node P). map (outward i) y.edges) (first_of s n + index) (map (variant_node s n x) bs))
  variants_rise n index x [] lt within inside rise = tt
  variants_rise n index x (b ∷ bs) lt within inside rise =
      let e : first_of s n + (index + 1) ≡ (first_of s n + index) + 1 = omega arith in
      all_append Rises (map (outward (first_of s n + index)) (filter_map (led_edge s n (s.variation b)) x.edges))
      (by_number (λ i (y : Node P). map (outward i) y.edges) ((first_of s n + index) + 1) (map (variant_node s n x) bs))
      (variant_rises n index (s.variation b) x.edges lt (omega arith) inside rise)
      (subst (λ k. AllByRecursion Rises (by_number (λ i (y : Node P). map (outward i) y.edges) k
      (map (variant_node s n x) bs))) e (variants_rise n (index + 1) x bs lt (omega arith) inside rise))

  rises_from : (k : ℕ) (xs : List (Node P)) → k + length xs ≡ length nodes
      → AllByRecursion (λ (x : Node P). AllByRecursion (λ (e : Edge). e.to.0 < length nodes) x.edges) xs
      → AllByRecursion OldRises (by_number (λ n (x : Node P). map (outward n) x.edges) k xs)
      → AllByRecursion Rises (by_number (λ i (y : Node P). map (outward i) y.edges) (first_of s k)
      (by_number (piece s nodes splits.many) k xs))
  rises_from k [] e inside rise = tt
  rises_from k (x ∷ xs) e inside rise =
      let out = λ (i : ℕ) (y : Node P). map (outward i) y.edges in
      let here = map (variant_node s k x) (variants_at s k) in
      let rest = by_number (piece s nodes splits.many) (k + 1) xs in
      let lt : k < length nodes = omega arith in
      let old = all_split OldRises (map (outward k) x.edges) (by_number out (k + 1) xs) rise in
      let next : first_of s k + length here ≡ first_of s (k + 1) =
      ap (λ j. first_of s k + j) (length-map (variants_at s k) (variant_node s k x))
      ∙ sym (first_more s nodes splits.many k lt) in
      subst (λ (l : List PlanEdge). AllByRecursion Rises l) (sym (by_number_append out (first_of s k) here rest
      ∙ ap (λ j. by_number out (first_of s k) here ++ by_number out j rest) next))
      (all_append Rises (by_number out (first_of s k) here) (by_number out (first_of s (k + 1)) rest)
      (subst (λ j. AllByRecursion Rises (by_number out j here)) (add-zero (first_of s k))
      (variants_rise k 0 x (variants_at s k) lt (omega arith) inside.0 (all_before (outward k) OldRises x.edges old.0)))
      (rises_from (k + 1) xs (omega arith) inside.1 old.1))

  pub stays_valid : IsValid (split_nodes s nodes)
  stays_valid = record {
    ends = ends_stay s nodes valid.ends splits;
    distinct =
        pairs_apart Differ (split_nodes s nodes)
        (apart_from 0 nodes (zero-add (length nodes)) (apart_pairs Differ nodes valid.distinct) free);
    acyclic =
        (rising (length (split_nodes s nodes)) (edges_of (split_nodes s nodes))
        (join (split_nodes s nodes) (ends_stay s nodes valid.ends splits))).1
        (record { rank = level; rises = rises_from 0 nodes (zero-add (length nodes)) valid.ends old_free.rises });
  }
