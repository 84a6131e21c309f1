-- One more item at the next free slot of a list.
use Rattle.std.proofs.Common.{◌≡◌, ◌≢◌, ◌+◌, ◌<◌, ◌≤◌, ◌==◌, ◌++◌, ℕ, suc, zero, List, [], ◌∷◌, Bool, true, false, cond}
use Rattle.std.proofs.Common.{map, length, get_or, set, take, refl, ap, ◌∙◌, sym, subst, arith, append_assoc}
use Rattle.std.proofs.Common.{length-append, get_or-set_same, get_or-set_other, eq-eqb, ne_eqb, append-nil}
use Rattle.std.specs.Prelude.{slice_index}
use Rattle.std.proofs.Math.Decide.{dec_lt}
use Rattle.std.proofs.Math.Path.{fun_ext}
use Rattle.std.proofs.Math.Seq.{get_or-append_seam}
use Rattle.std.proofs.lemmas.List.{length-map, map-append, get_or_append_left, take_more, take_all}
use Rattle.std.specs.List.{AllByRecursion}
use Rattle.std.proofs.lemmas.List.Elements.{filter-append, All-from_recursion}
use mathlib.Core.Logic.{dite}
use native.Mathlib.Decide.{ℕ_discrete}
use Rattle.bp_faults.specs.declared.ids.NodeId.{NodeId}
use Rattle.graph_nodes.specs.declared.graph.Edge.{Edge}
use Rattle.graph_nodes.specs.declared.graph.EdgeKind.{EdgeKind}
use Rattle.graph_nodes.specs.declared.graph.EdgeKind.TheVariants.{Defaults}
use Rattle.graph_nodes.specs.declared.graph.Node.{Node}
use Rattle.graph_nodes.specs.Laws.{OneMoreItem}
use Rattle.graph_nodes.specs.Nodes.{NameNodes}
use Rattle.graph_nodes.specs.Numbered.{by_number}
use Rattle.mutator_rules.specs.Arrivals.{edges_to, from_node, arrivals}
use Rattle.mutator_rules.specs.Inside.{HaveRoom, StandFrom}
use Rattle.mutator_rules.proofs.Arrived.{arrivals_more}

-- some lists stand among the items, and the next free slot of each is behind it
pub record ArePut {A : Type 0} (count : ℕ) (begins : ℕ → ℕ) (lists : ℕ → List A) (next : List ℕ)
    (items : List A) : Type 0 where
  pub free : (t : ℕ) → t < count → slice_index next t ≡ begins t + length (lists t)
  pub stand : StandFrom count begins lists items

module _ {A : Type 0} (count : ℕ) (begins full : ℕ → ℕ) (lists more : ℕ → List A) (next : List ℕ) (items : List A)
    (t : ℕ) (x : A)
    (apart : (a b : ℕ) → a < b → b < count → begins a + full a ≤ begins b)
    (fits : (u : ℕ) → u < count → length (more u) ≤ full u)
    (inside : t < count) (many : count ≤ length next) (room : begins t + length (lists t) < length items)
    (here : more t ≡ lists t ++ x ∷ []) (rest : (u : ℕ) → u ≢ t → more u ≡ lists u)
    (put : ArePut count begins lists next items) where
  abbrev slot : ℕ
  slot = begins t + length (lists t)

  longer : length (more t) ≡ length (lists t) + 1
  longer = ap length here ∙ length-append (lists t) (x ∷ [])

  free_after : (u : ℕ) → u < count → slice_index (set next t (slot + 1)) u ≡ begins u + length (more u)
  free_after u lu = dite (ℕ_discrete u t)
      (λ same. subst (λ k. slice_index (set next t (slot + 1)) k ≡ begins k + length (more k)) (sym same)
      (get_or-set_same next t (slot + 1) 0 (omega arith) ∙ (let long = longer in omega arith)))
      (λ other. get_or-set_other next t u (slot + 1) 0 other ∙ put.free u lu ∙ ap (λ l. begins u + length l) (sym
      (rest u other)))

  stand_here : (j : ℕ) (d : A) → j < length (more t) → get_or (set items slot x) (begins t + j) d ≡ get_or (more t) j d
  stand_here j d lj = dite (ℕ_discrete j (length (lists t)))
      (λ last. ap (λ k. get_or (set items slot x) (begins t + k) d) last ∙ get_or-set_same items slot x d room
      ∙ sym (ap (λ l. get_or l j d) here ∙ ap (λ k. get_or (lists t ++ x ∷ []) k d) last ∙ get_or-append_seam
      (lists t) x [] d))
      (λ earlier. let long = longer in let before : j < length (lists t) = omega arith in
      get_or-set_other items slot (begins t + j) x d (λ e. earlier (omega arith)) ∙ put.stand t j d inside before
      ∙ sym (ap (λ l. get_or l j d) here ∙ get_or_append_left (lists t) (x ∷ []) d j before))

  elsewhere : (u j : ℕ) → u < count → u ≢ t → j < length (lists u) → begins u + j ≢ slot
  elsewhere u j lu other lj = λ e.
      let long = longer in
      let fit = fits t inside in
      let size : length (more u) ≡ length (lists u) = ap length (rest u other) in
      let own = fits u lu in
      dite (dec_lt u t)
      (λ less. let gap = apart u t less inside in omega arith)
      (λ not_less. let gap = apart t u (omega arith) lu in omega arith)

  stand_else : (u j : ℕ) (d : A) → u < count → u ≢ t → j < length (more u)
      → get_or (set items slot x) (begins u + j) d ≡ get_or (more u) j d
  stand_else u j d lu other lj =
      let lj' : j < length (lists u) = subst (λ l. j < length l) (rest u other) lj in
      get_or-set_other items slot (begins u + j) x d (elsewhere u j lu other lj') ∙ put.stand u j d lu lj'
      ∙ sym (ap (λ l. get_or l j d) (rest u other))

  pub put_one : ArePut count begins more (set next t (slot + 1)) (set items slot x)
  put_one = record {
    free = free_after;
    stand = λ u j d lu lj. dite (ℕ_discrete u t)
        (λ same. subst (λ k. j < length (more k) → get_or (set items slot x) (begins k + j) d ≡ get_or (more k) j d)
        (sym same) (stand_here j d) lj)
        (λ other. stand_else u j d lu other lj);
  }

-- the edges to a number are those before, and an edge more that leads to it
edges_hit : (t : ℕ) (es : List Edge) (e : Edge) → e.to.0 ≡ t → edges_to t (es ++ e ∷ []) ≡ edges_to t es ++ e ∷ []
edges_hit t es e h = filter-append (λ (x : Edge). x.to.0 == t) es (e ∷ []) ∙ rw (eq-eqb e.to.0 t h) refl

edges_miss : (t : ℕ) (es : List Edge) (e : Edge) → e.to.0 ≢ t → edges_to t (es ++ e ∷ []) ≡ edges_to t es
edges_miss t es e h = filter-append (λ (x : Edge). x.to.0 == t) es (e ∷ []) ∙ rw (ne_eqb e.to.0 t h) (append-nil
    (edges_to t es))

edges_part : (t k : ℕ) (es : List Edge) → length (edges_to t (take k es)) ≤ length (edges_to t es)
edges_part t zero es = omega arith
edges_part t (suc k) [] = omega arith
edges_part t (suc k) (e ∷ es) = by (e.to.0 == t) (edges_part t k es)
  where
    by : (b : Bool) → length (edges_to t (take k es)) ≤ length (edges_to t es)
        → length (cond b (e ∷ edges_to t (take k es)) (edges_to t (take k es))) ≤ length (cond b (e ∷ edges_to t es)
        (edges_to t es))
    by true rest = omega arith
    by false rest = rest

by_part : {X A : Type 0} (f : ℕ → X → List A) (k m : ℕ) (xs : List X) → length (by_number f k (take m xs)) ≤ length
    (by_number f k xs)
by_part f k zero xs = omega arith
by_part f k (suc m) [] = omega arith
by_part f k (suc m) (x ∷ xs) =
    let rest = by_part f (k + 1) m xs in
    let some = length-append (f k x) (by_number f (k + 1) (take m xs)) in
    let all = length-append (f k x) (by_number f (k + 1) xs) in
    omega arith

-- what indexing gives outside
abbrev pub no_edge : Edge
no_edge = record { kind = Defaults; to = record { 0 = 0 }; at = record { file = 0; line = 0; col = 0 } }

-- what stands of the edges that lead to a node after so many nodes, and some edges of the next
module _ {P : Type 0} (nodes : List (Node P)) (n : ℕ) where
  abbrev pub so_far : List Edge → ℕ → List (NodeId × EdgeKind)
  so_far es t = arrivals (take n nodes) t ++ from_node t n es

  module _ (es : List Edge) (i : ℕ) (d : Edge) (lt : i < length es) where
    abbrev edge : Edge
    edge = get_or es i d

    far_hit : so_far (take (i + 1) es) edge.to.0 ≡ so_far (take i es) edge.to.0 ++ (record { 0 = n }, edge.kind) ∷ []
    far_hit =
        ap (λ l. so_far l edge.to.0) (take_more es i d lt)
        ∙ ap (λ (l : List Edge). arrivals (take n nodes) edge.to.0 ++ map (λ (e : Edge).
        (record { 0 = n }, e.kind)) l) (edges_hit edge.to.0 (take i es) edge refl)
        ∙ ap (λ (l : List (NodeId × EdgeKind)). arrivals (take n nodes) edge.to.0 ++ l)
        (map-append (λ (e : Edge). (record { 0 = n }, e.kind)) (edges_to edge.to.0 (take i es)) (edge ∷ []))
        ∙ sym (append_assoc (arrivals (take n nodes) edge.to.0) (from_node edge.to.0 n (take i es))
        ((record { 0 = n }, edge.kind) ∷ []))

    far_miss : (t : ℕ) → t ≢ edge.to.0 → so_far (take (i + 1) es) t ≡ so_far (take i es) t
    far_miss t other =
        ap (λ l. so_far l t) (take_more es i d lt)
        ∙ ap (λ (l : List Edge). arrivals (take n nodes) t ++ map (λ (e : Edge). (record { 0 = n }, e.kind)) l)
        (edges_miss t (take i es) edge (λ same. other (sym same)))

  module _ (one_more : OneMoreItem (Node P) (NodeId × EdgeKind)) (node : Node P) (lt : n < length nodes)
      (is : node ≡ get_or nodes n node) where
    far_done : (t : ℕ) → arrivals (take (n + 1) nodes) t ≡ so_far node.edges t
    far_done t = arrivals_more one_more nodes n t node lt is

    -- they are no more than all that lead there
    far_fits : (k t : ℕ) → length (so_far (take k node.edges) t) ≤ length (arrivals nodes t)
    far_fits k t =
        let all = by_part (λ d (x : Node P). from_node t d x.edges) 0 (n + 1) nodes in
        let done = ap length (far_done t) ∙ length-append (arrivals (take n nodes) t) (from_node t n node.edges) in
        let now = length-append (arrivals (take n nodes) t) (from_node t n (take k node.edges)) in
        let part = edges_part t k node.edges in
        let long : length (from_node t n node.edges) ≡ length (edges_to t node.edges) =
        length-map (edges_to t node.edges) (λ (e : Edge). (record { 0 = n }, e.kind)) in
        let short : length (from_node t n (take k node.edges)) ≡ length (edges_to t (take k node.edges)) =
        length-map (edges_to t (take k node.edges)) (λ (e : Edge). (record { 0 = n }, e.kind)) in
        omega arith

    module _ (begins : ℕ → ℕ) (next : List ℕ) (items : List (NodeId × EdgeKind)) where
      -- before the first edge
      pub far_begun : (es : List Edge) → ArePut (length nodes) begins (arrivals (take n nodes)) next items
          → ArePut (length nodes) begins (so_far (take 0 es)) next items
      far_begun es put =
          subst (λ (f : ℕ → List (NodeId × EdgeKind)). ArePut (length nodes) begins f next items)
          (fun_ext (λ t. sym (append-nil (arrivals (take n nodes) t)))) put

      -- after the last
      pub far_ended : (i : ℕ) (es : List Edge) → es ≡ node.edges → length es ≤ i
          → ArePut (length nodes) begins (so_far (take i es)) next items
          → ArePut (length nodes) begins (arrivals (take (n + 1) nodes)) next items
      far_ended i es same le put =
          subst (λ (f : ℕ → List (NodeId × EdgeKind)). ArePut (length nodes) begins f next items)
          (fun_ext (λ t. ap (λ l. so_far l t) (take_all i es le ∙ same) ∙ sym (far_done t))) put

      module _ (room : HaveRoom begins nodes (length items)) (es : List Edge) (same : es ≡ node.edges) (i : ℕ)
          (d : Edge) (li : i < length es)
          (inside : (get_or es i d).to.0 < length nodes) (put : ArePut (length nodes) begins (so_far
          (take i es)) next items) where
        abbrev to : ℕ
        to = (get_or es i d).to.0

        part_fits : (t : ℕ) → length (so_far (take (i + 1) es) t) ≤ length (arrivals nodes t)
        part_fits t = subst (λ l. length (so_far (take (i + 1) l) t) ≤ length (arrivals nodes t)) (sym same)
            (far_fits (i + 1) t)

        -- the next free slot of an edge's target is inside
        pub far_free : (p : ℕ) → p ≡ slice_index next to → p < length items
        far_free p is_p =
            let free = put.free to inside in
            let fit = part_fits to in
            let more = ap length (far_hit es i d li) ∙ length-append (so_far (take i es) to) ((
              record { 0 = n },
              (get_or es i d).kind,
            ) ∷ []) in
            let within = room.within to inside in
            omega arith

        -- one edge more stands there
        pub far_put : (p : ℕ) → p ≡ slice_index next to → length nodes ≤ length next
            → ArePut (length nodes) begins (so_far (take (i + 1) es)) (set next to (p + 1)) (set items p
            (record { 0 = n }, (get_or es i d).kind))
        far_put p is_p many =
            let free = put.free to inside in
            let within = far_free p is_p in
            subst (λ k. ArePut (length nodes) begins (so_far (take (i + 1) es)) (set next to (k + 1)) (set items k
            (record { 0 = n }, (get_or es i d).kind)))
            (sym (is_p ∙ free))
            (put_one (length nodes) begins (λ t. length (arrivals nodes t)) (so_far (take i es)) (so_far (take
            (i + 1) es)) next items to
            (record { 0 = n }, (get_or es i d).kind) room.apart (λ u lu. part_fits u) inside many (omega arith)
            (far_hit es i d li) (λ u other. far_miss es i d li u other) put)

-- the target of each edge is a node
pub far_inside : {P : Type 0} (nodes : List (Node P)) (n : ℕ) (node : Node P) → NameNodes nodes → n < length nodes
    → node ≡ get_or nodes n node
    → (es : List Edge) (i : ℕ) (d : Edge) → es ≡ node.edges → i < length es → (get_or es i d).to.0 < length nodes
far_inside nodes n node ends lt is es i d same li =
    let own : AllByRecursion (λ (e : Edge). e.to.0 < length nodes) node.edges =
    subst (λ (x : Node _). AllByRecursion (λ (e : Edge). e.to.0 < length nodes) x.edges) (sym is)
    (All-from_recursion (λ (x : Node _). AllByRecursion (λ (e : Edge). e.to.0 < length nodes) x.edges) nodes ends n
    node lt) in
    All-from_recursion (λ (e : Edge). e.to.0 < length nodes) es
    (subst (λ (l : List Edge). AllByRecursion (λ (e : Edge). e.to.0 < length nodes) l) (sym same) own) i d li
