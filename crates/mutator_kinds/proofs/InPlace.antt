-- Nodes that are changed in place are those that results mean.
use Rattle.std.proofs.Common.{◌≡◌, ◌∙◌, ◌<◌, ◌≤◌, ◌+◌, ◌++◌, ap, subst, sym, refl, arith, length, map, take, get_or}
use Rattle.std.proofs.Common.{zero-add, ℕ, zero, suc, List, [], ◌∷◌, true, Option, Some, None, Result, Ok, Err}
use Rattle.std.specs.Prelude.{slice_get, slice_set, IsErr, IsErrAnd}
use Rattle.std.specs.Option.{option_map}
use Rattle.std.specs.List.{AllByRecursion, cons_option, filter_map, list_all, sum_by}
use Rattle.std.proofs.lemmas.Bool.{and_parts, eqb-true}
use Rattle.std.proofs.lemmas.List.{length-map}
use Rattle.std.proofs.lemmas.List.Sums.{sum_by_more}
use Rattle.bp_faults.specs.declared.ids.ModuleId.{ModuleId}
use Rattle.bp_faults.specs.declared.ids.NodeId.{NodeId}
use Rattle.bp_faults.specs.declared.limits.TheConstants.{MOST_EDGES, MOST_NODES}
use Rattle.bp_faults.specs.declared.place.Place.{Place}
use Rattle.graph_nodes.specs.declared.graph.Edge.{Edge}
use Rattle.graph_nodes.specs.declared.graph.Node.{Node}
use Rattle.graph_nodes.specs.declared.variation.Variation.{Variation}
use Rattle.graph_nodes.specs.declared.variations.Axis.{Axis}
use Rattle.graph_nodes.specs.Axes.{axis_index}
use Rattle.graph_nodes.specs.Nodes.{NameNodes, all_edges}
use Rattle.graph_nodes.specs.Numbered.{by_number}
use Rattle.mutator_rules.specs.declared.error.KindError.{KindError}
use Rattle.mutator_rules.specs.declared.error.KindError.TheVariants.{At, Nodes, Edges, OutOfMemory}
use Rattle.mutator_rules.specs.declared.request.Request.{Request}
use Rattle.mutator_rules.specs.declared.split.Split.{Split}
use Rattle.mutator_rules.specs.Outcomes.{AnswersKind}
use Rattle.variant_graphs.specs.Limits.{AnswersLimits, IsWithinLimits, IsFirstNodeBeyond, IsFirstEdgeBeyond}
use Rattle.variant_graphs.specs.Payloads.{with_payload, with_payloads}
use Rattle.variant_graphs.specs.Splitting.{Splitting, splitting, variants_at, variant_node, first_of, led_edge}
use Rattle.mutator_kinds.specs.BottomUp.{chosen, rule_along, variants_of, first_payload, first_payloads, new_nodes}
use Rattle.mutator_kinds.specs.BottomUp.{ResultsMean}
use Rattle.mutator_kinds.specs.Inside.{HaveOneEach, has_one_variant, with_first, with_firsts}
use Rattle.mutator_kinds.proofs.Firsts.{length-with_firsts}
use Rattle.mutator_kinds.proofs.Fit.{chosen_within, chosen_none}

pub chosen_of_one : (v : Variation) (ws : List Variation) → length ws ≡ 1 → chosen v ws ≡ Some 0
chosen_of_one v ws one = by (chosen v ws) refl
  where
    by : (o : Option ℕ) → chosen v ws ≡ o → chosen v ws ≡ Some 0
    by None is = let none = chosen_none v ws is in absurd (omega arith)
    by (Some index) is =
        let within = chosen_within v ws index is in let first : index ≡ 0 = omega arith in is ∙ ap Some first

abbrev EndsBelow : ℕ → List Edge → Type 0
EndsBelow count es = AllByRecursion (λ (e : Edge). e.to.0 < count) es

module _ {B : Type 0} where
  abbrev AreSingle : List (List B) → Type 0
  AreSingle lists = AllByRecursion (λ (l : List B). length l ≡ 1) lists

  single_at : (lists : List (List B)) (t : ℕ) → AreSingle lists → t < length lists → length (get_or lists t []) ≡ 1
  single_at [] t h lt = absurd (omega arith)
  single_at (l ∷ lists) zero h lt = h.0
  single_at (l ∷ lists) (suc t) h lt = single_at lists t h.1 (omega arith)

  single_before : (lists : List (List B)) (t : ℕ) → AreSingle lists → t ≤ length lists
      → sum_by length (take t lists) ≡ t
  single_before lists zero h le = refl
  single_before lists (suc t) h le =
      let next : suc t ≡ t + 1 = omega arith in
      let one = single_at lists t h (omega arith) in
      let before = single_before lists t h (omega arith) in
      let more = sum_by_more length lists t [] (omega arith) in
      let sum : sum_by length (take (t + 1) lists) ≡ suc t = omega arith in
      ap (λ k. sum_by length (take k lists)) next ∙ sum

-- lists of one variant each make of each node one, at its own number and with its own edges
module _ {P : Type 0} (axis : Axis) (lists : List (List (Variation × P))) (single : AreSingle lists) where
  abbrev along_axis : Splitting P (Variation × P)
  along_axis = splitting (rule_along axis) lists

  abbrev variations_at : ℕ → List Variation
  variations_at t = map (λ (b : Variation × P). b.0) (get_or lists t [])

  abbrev edge_to : Edge → ℕ → Edge
  edge_to e t = record { kind = e.kind; to = record { 0 = t }; at = e.at }

  led-own : (n : ℕ) (v : Variation) (e : Edge) → e.to.0 < length lists → led_edge along_axis n v e ≡ Some e
  led-own n v e lt =
      let one : length (variations_at e.to.0) ≡ 1 =
      length-map (get_or lists e.to.0 []) (λ (b : Variation × P). b.0) ∙ single_at lists e.to.0 single lt in
      let before = single_before lists e.to.0 single (omega arith) in
      let own : first_of along_axis e.to.0 + 0 ≡ e.to.0 = omega arith in
      ap (option_map (λ index. edge_to e (first_of along_axis e.to.0 + index)))
      (chosen_of_one v (variations_at e.to.0) one)
      ∙ ap (λ t. Some (edge_to e t)) own

  edges_stay : (n : ℕ) (v : Variation) (es : List Edge) → EndsBelow (length lists) es
      → filter_map (led_edge along_axis n v) es ≡ es
  edges_stay n v [] h = refl
  edges_stay n v (e ∷ es) h =
      ap (λ o. cons_option o (filter_map (led_edge along_axis n v) es)) (led-own n v e h.0)
      ∙ ap (λ l. e ∷ l) (edges_stay n v es h.1)

  abbrev variant_with : Node P → Variation × P → List Edge → Node P
  variant_with x b es = record {
    «module» = x.«module»;
    vars = slice_set x.vars (axis_index axis) b.0;
    payload = b.1;
    edges = es;
  }

  abbrev piece : ℕ → Node P → List (Node P)
  piece n x = map (variant_node along_axis n x) (variants_at along_axis n)

  variant_is_first : (n : ℕ) (x : Node P) (bs : List (Variation × P)) → length bs ≡ 1
      → EndsBelow (length lists) x.edges
      → map (variant_node along_axis n x) bs ≡ with_first (Some axis) x bs ∷ []
  variant_is_first n x [] one ends = absurd (omega arith)
  variant_is_first n x (b ∷ []) one ends = ap (λ es. variant_with x b es ∷ []) (edges_stay n b.0 x.edges ends)
  variant_is_first n x (b ∷ c ∷ bs) one ends = absurd (omega arith)

  -- from number k on
  firsts_are_pieces : (k : ℕ) (xs : List (Node P)) (outs : List (Split P)) → length outs ≡ length xs
      → AreSingle (variants_of outs) → AllByRecursion (λ (x : Node P). EndsBelow (length lists) x.edges) xs
      → ((i : ℕ) → variants_at along_axis (k + i) ≡ get_or (variants_of outs) i [])
      → with_firsts (Some axis) xs outs ≡ by_number piece k xs
  firsts_are_pieces k [] outs many one ends at = refl
  firsts_are_pieces k (x ∷ xs) [] many one ends at = absurd (omega arith)
  firsts_are_pieces k (x ∷ xs) (o ∷ outs) many one ends at =
      let same_number : k ≡ k + 0 = omega arith in
      let here : variants_at along_axis k ≡ o.variants = ap (variants_at along_axis) same_number ∙ at 0 in
      let next = λ (i : ℕ). (let e : (k + 1) + i ≡ k + suc i = omega arith in e) in
      let rest = firsts_are_pieces (k + 1) xs outs (omega arith) one.1 ends.1
      (λ i. ap (variants_at along_axis) (next i) ∙ at (suc i)) in
      let first : piece k x ≡ with_first (Some axis) x o.variants ∷ [] =
      ap (map (variant_node along_axis k x)) here ∙ variant_is_first k x o.variants one.0 ends.0 in
      ap (λ (l : List (Node P)). with_first (Some axis) x o.variants ∷ l) rest
      ∙ ap (λ (l : List (Node P)). l ++ by_number piece (k + 1) xs) (sym first)

module _ {P : Type 0} where
  single_variants : (outs : List (Split P)) → list_all has_one_variant outs ≡ true → AreSingle (variants_of outs)
  single_variants [] is = tt
  single_variants (o ∷ outs) is =
      let parts = and_parts (has_one_variant o) (list_all has_one_variant outs) is in
      (eqb-true (length o.variants) 1 parts.0, single_variants outs parts.1)

  firsts_are_payloads : (xs : List (Node P)) (outs : List (Split P))
      → with_firsts None xs outs ≡ with_payloads xs (first_payloads xs outs)
  firsts_are_payloads [] outs = refl
  firsts_are_payloads (x ∷ xs) [] = refl
  firsts_are_payloads (x ∷ xs) (o ∷ outs) =
      ap (λ (y : Node P). y ∷ with_firsts None xs outs) (here o.variants)
      ∙ ap (λ (l : List (Node P)). with_payload x (first_payload x.payload o.variants) ∷ l)
      (firsts_are_payloads xs outs)
    where
      here : (bs : List (Variation × P)) → with_first None x bs ≡ with_payload x (first_payload x.payload bs)
      here [] = refl
      here (b ∷ bs) = refl

  pub firsts_are_new : (along : Option Axis) (nodes : List (Node P)) (outs : List (Split P))
      → length outs ≡ length nodes → NameNodes nodes → HaveOneEach along outs
      → with_firsts along nodes outs ≡ new_nodes along nodes outs
  firsts_are_new None nodes outs many ends one = firsts_are_payloads nodes outs
  firsts_are_new (Some axis) nodes outs many ends one =
      let single = single_variants outs one in
      let count : length nodes ≡ length (variants_of outs) =
      sym (length-map outs (λ (made : Split P). made.variants) ∙ many) in
      firsts_are_pieces axis (variants_of outs) single 0 nodes outs many single
      (subst (λ n. AllByRecursion (λ (x : Node P). EndsBelow n x.edges) nodes) count ends)
      (λ i. ap (λ k. get_or (variants_of outs) k []) (zero-add i))

-- edges and modules stay, so the limits do
module _ {P : Type 0} (along : Option Axis) where
  abbrev module_at : List (Node P) → ℕ → Option ModuleId
  module_at xs n = option_map (λ (x : Node P). x.«module») (slice_get xs n)

  edges_kept : (xs : List (Node P)) (outs : List (Split P)) → all_edges (with_firsts along xs outs) ≡ all_edges xs
  edges_kept [] outs = refl
  edges_kept (x ∷ xs) [] = refl
  edges_kept (x ∷ xs) (o ∷ outs) =
      ap (λ es. es ++ all_edges (with_firsts along xs outs)) (own along o.variants)
      ∙ ap (λ es. x.edges ++ es) (edges_kept xs outs)
    where
      own : (axis : Option Axis) (bs : List (Variation × P)) → (with_first axis x bs).edges ≡ x.edges
      own axis [] = refl
      own None (b ∷ bs) = refl
      own (Some axis) (b ∷ bs) = refl

  module_kept : (xs : List (Node P)) (outs : List (Split P)) (n : ℕ)
      → module_at (with_firsts along xs outs) n ≡ module_at xs n
  module_kept [] outs n = refl
  module_kept (x ∷ xs) [] n = refl
  module_kept (x ∷ xs) (o ∷ outs) zero = ap Some (own along o.variants)
    where
      own : (axis : Option Axis) (bs : List (Variation × P)) → (with_first axis x bs).«module» ≡ x.«module»
      own axis [] = refl
      own None (b ∷ bs) = refl
      own (Some axis) (b ∷ bs) = refl
  module_kept (x ∷ xs) (o ∷ outs) (suc n) = module_kept xs outs n

  module _ (xs : List (Node P)) (outs : List (Split P)) where
    pub within_kept : IsWithinLimits xs → IsWithinLimits (with_firsts along xs outs)
    within_kept h = record {
      few_nodes = subst (λ n. n ≤ MOST_NODES) (sym (length-with_firsts along xs outs)) h.few_nodes;
      few_edges = subst (λ (es : List Edge). length es ≤ MOST_EDGES) (sym (edges_kept xs outs)) h.few_edges;
    }

    node_kept : (m : ModuleId) → IsFirstNodeBeyond xs m → IsFirstNodeBeyond (with_firsts along xs outs) m
    node_kept m h = module_kept xs outs MOST_NODES ∙ h

    edge_kept : (p : Place) → IsFirstEdgeBeyond xs p → IsFirstEdgeBeyond (with_firsts along xs outs) p
    edge_kept p h = record {
      few_nodes = subst (λ n. n ≤ MOST_NODES) (sym (length-with_firsts along xs outs)) h.few_nodes;
      beyond = ap (λ (es : List Edge). option_map (λ (e : Edge). e.at) (slice_get es MOST_EDGES)) (edges_kept xs outs)
          ∙ h.beyond;
    }

module _ {P T : Type 0} (view : T → List (Node P) × List (NodeId × Request)) (along : Option Axis)
    (nodes : List (Node P)) (outs : List (Split P))
    (new : with_firsts along nodes outs ≡ new_nodes along nodes outs) where
  abbrev over : KindError → Result (Unit {0}) KindError
  over error = Err error

  beyond : (error : KindError) → AnswersLimits nodes (over error)
      → AnswersKind view (ResultsMean along nodes outs) (Err error)
  beyond (At n fault) h = absurd h
  beyond (Nodes m) h = subst (λ xs. IsFirstNodeBeyond xs m) new (node_kept along nodes outs m h)
  beyond (Edges p) h = subst (λ xs. IsFirstEdgeBeyond xs p) new (edge_kept along nodes outs p h)
  beyond OutOfMemory h = tt

  pub limits_passed : (error : KindError) (r : Result T KindError) → AnswersLimits nodes (over error)
      → IsErr r → IsErrAnd r (λ e. e ≡ error) → AnswersKind view (ResultsMean along nodes outs) r
  limits_passed error (Ok x) h err eq = cc
  limits_passed error (Err e) h err eq =
      subst (λ x. AnswersKind view (ResultsMean along nodes outs) (Err x)) (sym eq) (beyond error h)
