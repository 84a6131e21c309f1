-- Which items a list has, by recursion on it.
use Rattle.std.proofs.Common.{◌≡◌, ◌+◌, ◌<◌, ◌≤◌, ◌++◌, ◌||◌, nat_lt, ◌⊎◌, inl, inr, ℕ, zero, suc, Bool, true, false}
use Rattle.std.proofs.Common.{cond, List, [], ◌∷◌, map, length, get_or, refl, ap, ◌∙◌, sym, subst, arith, Some, None}
use Rattle.std.proofs.Common.{eq-eqb, zero-add}
use Rattle.std.specs.Prelude.{Contains, ◌==◌, take}
use Rattle.std.specs.List.{AllByRecursion, list_any, position, position_or_len}
use Rattle.std.proofs.lemmas.Bool.Decides.{nat_tests}
use Rattle.std.proofs.lemmas.List.Sums.{fails_before_first}
use Rattle.std.proofs.lemmas.List.Elements.{recursion_from_All, All-contains_itself}
use Rattle.bp_faults.specs.declared.ids.NodeId.{NodeId}
use Rattle.bp_faults.proofs.Lists.{all_map}
use Rattle.graph_nodes.specs.declared.graph.Edge.{Edge}
use Rattle.graph_nodes.specs.declared.graph.EdgeKind.{EdgeKind}
use Rattle.graph_nodes.specs.declared.graph.Node.{Node}
use Rattle.graph_nodes.specs.declared.variation.Variation.{Variation}
use Rattle.graph_nodes.specs.Nodes.{edges_at}
use Rattle.graph_nodes.specs.Numbered.{by_number}
use Rattle.graph_nodes.specs.Laws.{SameMeansEqual}
use Rattle.mutator_rules.specs.Arrivals.{edges_to, from_node, arrivals}
use Rattle.graph_nodes.specs.Same.{same}
use Rattle.transition_rules.proofs.Pieces.{by_number_at}

module _ {A : Type 0} where
  abbrev pub Has : List A → A → Type 0
  Has [] x = ⊥
  Has (y ∷ ys) x = (y ≡ x) ⊎ Has ys x

  pub has_all : (P : A → Type 0) (xs : List A) (x : A) → AllByRecursion P xs → Has xs x → P x
  has_all P [] x h has = absurd has
  has_all P (y ∷ ys) x h (inl e) = subst P e h.0
  has_all P (y ∷ ys) x h (inr has) = has_all P ys x h.1 has

  pub has_left : (xs ys : List A) (x : A) → Has xs x → Has (xs ++ ys) x
  has_left [] ys x has = absurd has
  has_left (y ∷ xs) ys x (inl e) = inl e
  has_left (y ∷ xs) ys x (inr has) = inr (has_left xs ys x has)

  pub has_right : (xs ys : List A) (x : A) → Has ys x → Has (xs ++ ys) x
  has_right [] ys x has = has
  has_right (y ∷ xs) ys x has = inr (has_right xs ys x has)

  pub all_have : (xs : List A) → AllByRecursion (Has xs) xs
  all_have [] = tt
  all_have (x ∷ xs) = (inl refl, all_map (Has xs) (Has (x ∷ xs)) (λ y has. inr has) xs (all_have xs))

  -- where no index is found, no item passes
  position_fails : (p : A → Bool) (xs : List A) → position p xs ≡ None → (x : A) → Contains xs x → p x ≡ false
  position_fails p xs none x has = by (nat_lt (position_or_len p xs) (length xs)) refl none
    where
      by : (b : Bool) → nat_lt (position_or_len p xs) (length xs) ≡ b → cond b (Some (position_or_len p xs)) None ≡ None
          → p x ≡ false
      by true is e = cc
      by false is e =
          let long : length xs ≤ position_or_len p xs = grind (arith, nat_tests) in
          let fails = fails_before_first p xs has.0 x (let a = has.1 in omega arith) in
          ap p (sym has.2) ∙ fails

  pub none_at_position : (p : A → Bool) (xs : List A) → position p xs ≡ None → AllByRecursion (λ x. p x ≡ false) xs
  none_at_position p xs none =
      all_map (Contains xs) (λ x. p x ≡ false) (λ x has. position_fails p xs none x has) xs
      (recursion_from_All (Contains xs) xs (All-contains_itself xs))

module _ {A B : Type 0} where
  pub has_image : (f : A → B) (xs : List A) (x : A) → Has xs x → Has (map f xs) (f x)
  has_image f [] x has = absurd has
  has_image f (y ∷ ys) x (inl e) = inl (ap f e)
  has_image f (y ∷ ys) x (inr has) = inr (has_image f ys x has)

or_false : (a b : Bool) → (a || b) ≡ false → (a ≡ false) × (b ≡ false)
or_false true b h = cc
or_false false b h = (refl, h)

pub none_same : (w : Variation) (xs : List Variation) → list_any (same w) xs ≡ false
    → AllByRecursion (λ x. same w x ≡ false) xs
none_same w [] h = tt
none_same w (x ∷ xs) h = let r = or_false (same w x) (list_any (same w) xs) h in (r.0, none_same w xs r.1)

pub any_same : SameMeansEqual → (w : Variation) (xs : List Variation) → list_any (same w) xs ≡ true → Has xs w
any_same means w [] h = cc
any_same means w (x ∷ xs) h = by (same w x) refl h (any_same means w xs)
  where
    by : (b : Bool) → same w x ≡ b → (b || list_any (same w) xs) ≡ true → (list_any (same w) xs ≡ true → Has xs w)
        → (x ≡ w) ⊎ Has xs w
    by true is h rest = inl (sym ((means w x).0 is))
    by false is h rest = inr (rest h)

-- a node's edge arrives at its target
edge_arrives : (d : ℕ) (es : List Edge) (e : Edge) → Has es e
    → Has {A = NodeId × EdgeKind} (from_node e.to.0 d es) (record { 0 = d }, e.kind)
edge_arrives d [] e has = absurd has
edge_arrives d (y ∷ ys) e (inl eq) =
    subst (λ (x : Edge). Has {A = NodeId × EdgeKind} (from_node x.to.0 d (y ∷ ys)) (record { 0 = d }, x.kind)) eq
    (subst (λ b. Has {A = NodeId × EdgeKind}
    (map (λ (e : Edge). (record { 0 = d }, e.kind)) (cond b (y ∷ edges_to y.to.0 ys) (edges_to y.to.0 ys)))
    (record { 0 = d }, y.kind)) (sym (eq-eqb y.to.0 y.to.0 refl)) (inl refl))
edge_arrives d (y ∷ ys) e (inr has) = by (y.to.0 == e.to.0) (edge_arrives d ys e has)
  where
    by : (b : Bool) → Has {A = NodeId × EdgeKind} (from_node e.to.0 d ys) (record { 0 = d }, e.kind)
        → Has {A = NodeId × EdgeKind} (map (λ (e : Edge). (record { 0 = d }, e.kind))
        (cond b (y ∷ edges_to e.to.0 ys) (edges_to e.to.0 ys))) (record { 0 = d }, e.kind)
    by true rest = inr rest
    by false rest = rest

pub edges_at_is : {P : Type 0} (nodes : List (Node P)) (n : ℕ) (x : Node P) → n < length nodes
    → edges_at nodes n ≡ (get_or nodes n x).edges
edges_at_is [] n x lt = absurd (omega arith)
edges_at_is (y ∷ ys) zero x lt = refl
edges_at_is (y ∷ ys) (suc n) x lt = edges_at_is ys n x (omega arith)

first_of_nodes : {P : Type 0} (xs : List (Node P)) (n : ℕ) → n < length xs → Node P
first_of_nodes [] n lt = absurd (omega arith)
first_of_nodes (x ∷ xs) n lt = x

-- each edge of a node arrives at its target
pub edges_arrive : {P : Type 0} (nodes : List (Node P)) (n : ℕ) → n < length nodes → AllByRecursion (λ (e : Edge).
    Has {A = NodeId × EdgeKind} (arrivals nodes e.to.0) (record { 0 = n }, e.kind)) (edges_at nodes n)
edges_arrive {P} nodes n lt =
    let x = first_of_nodes nodes n lt in
    let es = (get_or nodes n x).edges in
    subst (λ (l : List Edge). AllByRecursion (λ (e : Edge).
    Has {A = NodeId × EdgeKind} (arrivals nodes e.to.0) (record { 0 = n }, e.kind)) l) (sym (edges_at_is nodes n x lt))
    (all_map (Has es) (λ (e : Edge). Has {A = NodeId × EdgeKind} (arrivals nodes e.to.0) (record { 0 = n }, e.kind))
    (λ e has. let all = by_number_at (λ d (x : Node P). from_node e.to.0 d x.edges) 0 nodes n x lt in
    subst (λ (l : List (NodeId × EdgeKind)). Has {A = NodeId × EdgeKind} l (record { 0 = n }, e.kind)) (sym all.1)
    (has_right (by_number (λ d (x : Node P). from_node e.to.0 d x.edges) 0 (take n nodes))
    (from_node e.to.0 (0 + n) es ++ all.0) (record { 0 = n }, e.kind)
    (has_left (from_node e.to.0 (0 + n) es) all.0 (record { 0 = n }, e.kind) (subst (λ k. Has {A = NodeId × EdgeKind}
    (from_node e.to.0 k es) (record { 0 = n }, e.kind)) (sym (zero-add n)) (edge_arrives n es e has)))))
    es (all_have es))
