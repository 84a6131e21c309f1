-- What stays from pass to pass: the nodes that ask are nodes, and the axes of later passes are free.
use Rattle.std.proofs.Common.{◌≡◌, ◌<◌, ◌≤◌, ◌↔◌, ◌+◌, ◌∙◌, ◌++◌, ℕ, zero, suc, List, [], ◌∷◌, length, map, Option}
use Rattle.std.proofs.Common.{Some, None}
use Rattle.std.proofs.Common.{Result, Ok, Err, refl, ap, sym, subst, arith}
use Rattle.std.specs.Prelude.{slice_get, IfOk}
use Rattle.std.specs.List.{AllByRecursion}
use Rattle.bp_faults.specs.declared.ids.NodeId.{NodeId}
use Rattle.bp_faults.specs.declared.limits.TheConstants.{MOST_EDGES}
use Rattle.bp_faults.specs.declared.refusal.Refusal.{Refusal}
use Rattle.bp_faults.proofs.Lists.{all_map}
use Rattle.bp_props.specs.declared.module.Module.{Module}
use Rattle.bp_props.specs.declared.props.Props.{Props}
use Rattle.serial_pass.specs.Laws.{OutsAreMany}
use Rattle.graph_nodes.specs.declared.graph.Graph.{Graph}
use Rattle.graph_nodes.specs.declared.graph.Node.{Node}
use Rattle.graph_nodes.specs.declared.variation.Variation.{Variation}
use Rattle.graph_nodes.specs.declared.variations.Axis.{Axis}
use Rattle.graph_nodes.specs.declared.variations.Axis.TheVariants.{Target, Image, Link, PerSource, Sanitize}
use Rattle.graph_nodes.specs.Axes.{axis_index}
use Rattle.graph_nodes.specs.Nodes.{all_edges}
use Rattle.graph_nodes.specs.Numbered.{by_number}
use Rattle.module_graph.specs.declared.direction.Direction.TheVariants.{BottomUp}
use Rattle.module_graph.specs.Planned.{plan_of}
use Rattle.mutator_rules.specs.declared.request.Request.{Request}
use Rattle.mutator_rules.specs.declared.split.Split.{Split}
use Rattle.mutator_rules.specs.Conditions.{MayRun, indices_in}
use Rattle.mutator_rules.specs.Outcomes.{KindOutcome, Made, FaultAt, NodesBeyond, EdgesBeyond}
use Rattle.mutator_kinds.specs.BottomUp.{BottomUpMeans, first_payloads}
use Rattle.reverse_deps.specs.Applied.{AskInside}
use Rattle.reverse_deps.specs.Linked.{without_edges}
use Rattle.variant_graphs.specs.Payloads.{with_payloads}
use Rattle.variant_graphs.specs.Splitting.{HasFreeAxis, StayFree}
use Rattle.bp_pipeline.specs.Inside.{AreFreeAt, split_at}
use Rattle.bp_pipeline.specs.Limits.{ComesTo, graph_or_fault}
use Rattle.bp_pipeline.specs.Passes.{AnswerOver, pass_at}
use Rattle.bp_pipeline.specs.declared.passes.Pass.{Pass}
use Rattle.bp_pipeline.specs.declared.passes.Pass.TheVariants.{AskDefaults, MergeDefaults, SplitTargets, SplitImages}
use Rattle.bp_pipeline.specs.declared.passes.Pass.TheVariants.{SplitLinks, AskDependencies, AskPlugins, SplitSources}
use Rattle.bp_pipeline.specs.declared.passes.Pass.TheVariants.{SplitSanitized, MarkSanitized, HandLevels, GatherInfo}

abbrev Asks : ℕ → NodeId × Request → Type 0
Asks count a = a.0.0 < count

-- The nodes and what they ask for.
abbrev Asked : Type 0 → Type 0
Asked P = List (Node P) × List (NodeId × Request)

all_joined : (count : ℕ) (xs ys : List (NodeId × Request)) → AllByRecursion (Asks count) xs
    → AllByRecursion (Asks count) ys → AllByRecursion (Asks count) (xs ++ ys)
all_joined count [] ys first second = second
all_joined count (x ∷ xs) ys first second = (first.0, all_joined count xs ys first.1 second)

all_of_node : (count n : ℕ) → n < count → (requests : List Request)
    → AllByRecursion (Asks count) (map (λ r. (record { 0 = n }, r)) requests)
all_of_node count n below [] = tt
all_of_node count n below (r ∷ rs) = (below, all_of_node count n below rs)

all_asked : {P : Type 0} (count k : ℕ) (outs : List (Split P)) → k + length outs ≤ count
    → AllByRecursion (Asks count)
    (by_number (λ n (made : Split P). map (λ r. (record { 0 = n }, r)) made.requests) k outs)
all_asked count k [] few = tt
all_asked count k (out ∷ outs) few =
    all_joined count (map (λ r. (record { 0 = k }, r)) out.requests)
    (by_number (λ n (made : Split _). map (λ r. (record { 0 = n }, r)) made.requests) (k + 1) outs)
    (all_of_node count k (omega arith) out.requests) (all_asked count (k + 1) outs (omega arith))

length-with_payloads : {P : Type 0} (nodes : List (Node P)) (ps : List P)
    → length (with_payloads nodes ps) ≡ length nodes
length-with_payloads [] ps = refl
length-with_payloads (x ∷ xs) [] = refl
length-with_payloads (x ∷ xs) (p ∷ ps) = ap suc (length-with_payloads xs ps)

module _ {P : Type 0} (many : OutsAreMany (Split P)) (mods : List Module) (answer : AnswerOver P)
    (nodes : List (Node P)) where
  inside : (made : Asked P) → BottomUpMeans answer nodes None (Made made) → AskInside (length made.0) made.1
  inside made (outs, splits, results) =
      let count : length outs ≡ length nodes = many (answer nodes) (plan_of BottomUp nodes) outs splits in
      let size : length made.0 ≡ length nodes =
      ap length results.1 ∙ length-with_payloads nodes (first_payloads nodes outs) in
      subst (AskInside (length made.0)) (sym results.2) (all_asked (length made.0) 0 outs (omega (arith, count, size)))

  -- the nodes that ask are nodes
  pub asked_inside : (made : Asked P) → ComesTo mods (BottomUpMeans answer nodes None) (Ok made)
      → AskInside (length made.0) made.1
  asked_inside made (outcome, means, is) = by outcome means is
    where
      by : (outcome : KindOutcome (Asked P)) → BottomUpMeans answer nodes None outcome
          → graph_or_fault mods outcome ≡ Ok made → AskInside (length made.0) made.1
      by (Made other) means is = let same : other ≡ made = cc in
          subst (λ (m : Asked P). AskInside (length m.0) m.1) same (inside other means)
      by (FaultAt n fault) means is = absurd (cc)
      by (NodesBeyond m) means is = absurd (cc)
      by (EdgesBeyond at) means is = absurd (cc)

-- a graph that a pass comes to is within the limit on edges
pub few_asked : {P : Type 0} (mods : List Module) (answer : AnswerOver P) (nodes : List (Node P)) (made : Asked P)
    → ComesTo mods (BottomUpMeans answer nodes None) (Ok made) → length (all_edges made.0) ≤ MOST_EDGES
few_asked {P} mods answer nodes made (outcome, means, is) = by outcome means is
  where
    few : (other : Asked P) → BottomUpMeans answer nodes None (Made other) → length (all_edges other.0) ≤ MOST_EDGES
    few other (outs, splits, results) =
        subst (λ (xs : List (Node P)). length (all_edges xs) ≤ MOST_EDGES) (sym results.1) results.0.few_edges

    by : (outcome : KindOutcome (Asked P)) → BottomUpMeans answer nodes None outcome
        → graph_or_fault mods outcome ≡ Ok made → length (all_edges made.0) ≤ MOST_EDGES
    by (Made other) means is = let same : other ≡ made = cc in
        subst (λ (m : Asked P). length (all_edges m.0) ≤ MOST_EDGES) same (few other means)
    by (FaultAt n fault) means is = absurd (cc)
    by (NodesBeyond m) means is = absurd (cc)
    by (EdgesBeyond at) means is = absurd (cc)

-- nodes that are the same but for their edges have the same free axes
bare_free : {P : Type 0} (axis : Axis) (xs ys : List (Node P)) → map without_edges xs ≡ map without_edges ys
    → HasFreeAxis axis ys
    → HasFreeAxis axis xs
bare_free axis [] ys same free = tt
bare_free axis (x ∷ xs) [] same free = absurd (cc)
bare_free axis (x ∷ xs) (y ∷ ys) same free =
    let head : without_edges x ≡ without_edges y = cc in
    let vars : x.vars ≡ y.vars = ap (λ (z : Node _). z.vars) head in
    (ap (λ (vs : List Variation). slice_get vs (axis_index axis)) vars ∙ free.0, bare_free axis xs ys (cc) free.1)

-- what edges are added leaves the axes free
linked_free : {P : Type 0} (along : Option Axis) (old made new : List (Node P)) → along ≡ None → StayFree along old made
    → map without_edges new ≡ map without_edges made → StayFree None old new
linked_free along old made new none stay same axis other free =
    bare_free axis new made same (stay axis (λ is. let no : None ≡ Some axis = sym none ∙ is in absurd (cc)) free)

pub applied_free : {P : Type 0} (along : Option Axis) (old made : List (Node P)) → along ≡ None
    → StayFree along old made
    → (r : Result (Graph P) Refusal) → IfOk r (λ g. map without_edges g.nodes ≡ map without_edges made)
    → IfOk r (λ g. StayFree None old g.nodes)
applied_free along old made none stay (Ok g) same = linked_free along old made g.nodes none stay same
applied_free along old made none stay (Err e) same = tt

-- the axes of later passes stay free, where the pass splits along its own
still_free : (p : ℕ) (along : Option Axis) (old new : List (Node Props))
    → ((axis : Axis) → along ≡ Some axis → split_at axis ≡ p) → AreFreeAt p old → StayFree along old new
    → AreFreeAt (p + 1) new
still_free p along old new own free stay axis later =
    stay axis (λ is. let here = own axis is in omega (arith, here, later)) (free axis (omega (arith, later)))

-- a pass that splits along an axis
one_axis : (own axis : Axis) → Some own ≡ Some axis → split_at axis ≡ split_at own
one_axis own axis is = let same : own ≡ axis = cc in ap split_at (sym same)

-- the axis along which a pass splits
abbrev pub axis_of : Pass → Option Axis
axis_of AskDefaults = None
axis_of MergeDefaults = None
axis_of SplitTargets = Some Target
axis_of SplitImages = Some Image
axis_of SplitLinks = Some Link
axis_of AskDependencies = None
axis_of AskPlugins = None
axis_of SplitSources = Some PerSource
axis_of SplitSanitized = Some Sanitize
axis_of MarkSanitized = None
axis_of HandLevels = None
axis_of GatherInfo = None

pub own_axis : (p : ℕ) (axis : Axis) → axis_of (pass_at p) ≡ Some axis → split_at axis ≡ p
own_axis zero axis is = absurd (cc)
own_axis (suc zero) axis is = absurd (cc)
own_axis (suc (suc zero)) axis is = one_axis Target axis is
own_axis (suc (suc (suc zero))) axis is = one_axis Image axis is
own_axis (suc (suc (suc (suc zero)))) axis is = one_axis Link axis is
own_axis (suc (suc (suc (suc (suc zero))))) axis is = absurd (cc)
own_axis (suc (suc (suc (suc (suc (suc zero)))))) axis is = absurd (cc)
own_axis (suc (suc (suc (suc (suc (suc (suc zero))))))) axis is = one_axis PerSource axis is
own_axis (suc (suc (suc (suc (suc (suc (suc (suc zero)))))))) axis is = one_axis Sanitize axis is
own_axis (suc (suc (suc (suc (suc (suc (suc (suc (suc zero))))))))) axis is = absurd (cc)
own_axis (suc (suc (suc (suc (suc (suc (suc (suc (suc (suc zero)))))))))) axis is = absurd (cc)
own_axis (suc (suc (suc (suc (suc (suc (suc (suc (suc (suc (suc p))))))))))) axis is = absurd (cc)

-- the axes of later passes are free behind a pass
pub next_free : (p : ℕ) (pass : Pass) → pass_at p ≡ pass → (old : List (Node Props)) → AreFreeAt p old
    → (r : Result (Graph Props) Refusal) → IfOk r (λ g. StayFree (axis_of pass) old g.nodes)
    → IfOk r (λ g. AreFreeAt (p + 1) g.nodes)
next_free p pass at old free (Ok g) stay =
    still_free p (axis_of pass) old g.nodes
    (λ axis is. own_axis p axis (ap axis_of at ∙ is)) free stay
next_free p pass at old free (Err e) stay = tt

-- A rule that accepts the modules of a list may be run where indices in the list may.
pub may_indices : {P : Type 0} (Accepts : ℕ → Type 0) (count : ℕ) (nodes : List (Node P))
    → ((m : ℕ) → Accepts m ↔ indices_in count m) → MayRun Accepts nodes → MayRun (indices_in count) nodes
may_indices Accepts count nodes same may = record {
  numbered = may.numbered;
  accepted =
      all_map (λ (x : Node _). Accepts x.«module».0) (λ (x : Node _). indices_in count x.«module».0)
      (λ x accepted. (same x.«module».0).0 accepted) nodes may.accepted;
}
