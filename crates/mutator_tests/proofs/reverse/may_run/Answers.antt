use Rattle.std.proofs.Common.{◌≡◌, ◌∙◌, ◌+◌, ◌<◌, ◌≤◌, ◌^◌, ◌++◌, List, [], ◌∷◌, ℕ, ap, subst, sym, refl, arith}
use Rattle.std.proofs.Common.{take, length, map}
use Rattle.std.specs.List.{AllByRecursion}
use Rattle.std.proofs.lemmas.Bool.Decides.{nat_tests}
use Rattle.bp_faults.proofs.Lists.{all_map, all_pushed, take-more, take-past}
use Rattle.graph_nodes.specs.declared.graph.Edge.{Edge}
use Rattle.graph_nodes.specs.declared.graph.Node.{Node}
use Rattle.graph_nodes.specs.Numbered.{by_number}
use Rattle.module_graph.specs.Graphs.{outward}
use Rattle.mutator_rules.specs.Conditions.{MayRun, indices_in}
use Rattle.mutator_tests.proofs.reverse.may_run.Invariants.{IsBare}
use Rattle.mutator_tests.proofs.reverse.may_run.Goals as goal

none_left : {X : Type 0} (xs : List X) → length xs ≤ 0 → xs ≡ []
none_left [] few = refl
none_left (x ∷ xs) few = absurd (omega arith)

module _ {P : Type 0} (count : ℕ) where
  no_edges : (k : ℕ) (xs : List (Node P)) → AllByRecursion (IsBare count) xs
      → by_number (λ n (x : Node P). map (outward n) x.edges) k xs ≡ []
  no_edges k [] all = refl
  no_edges k (x ∷ xs) all =
      ap (λ (es : List Edge). map (outward k) es ++ by_number (λ n (y : Node P). map (outward n) y.edges) (k + 1) xs)
      all.0.0
      ∙ no_edges (k + 1) xs all.1

  bare_run : (nodes : List (Node P)) → length nodes < 2 ^ 32 → AllByRecursion (IsBare count) nodes
      → MayRun (indices_in count) nodes
  bare_run nodes few all = record {
    numbered = record {
      few_nodes = few;
      few_edges = let none = ap length (no_edges 0 nodes all) in omega arith;
      ends = all_map (IsBare count) (λ (x : Node P). AllByRecursion (λ (e : Edge). e.to.0 < length nodes) x.edges)
          (λ x bare. subst (AllByRecursion (λ (e : Edge). e.to.0 < length nodes)) (sym bare.0) tt) nodes all;
    };
    accepted = all_map (IsBare count) (λ (x : Node P). x.«module».0 < count) (λ x bare. bare.1) nodes all;
  }

pub loop-node-preserved : goal.loop-node-preserved
loop-node-preserved c =
    let count = length c.args.mods.now in
    let nodes = c.as_slice-nodes.result.now in
    let i = c.loop-node.node-index in
    let x = c.node-item.result in
    subst (AllByRecursion (IsBare count)) (sym (take-more nodes i x c.loop-node-test.true c.node-item.is))
    (all_pushed (IsBare count) (take i nodes) x c.loop-node.invariant (
      sym c.as_slice-edges.ensures ∙ none_left c.as_slice-edges.result.now (omega (arith, c.if-edges-gt0.false)),
      c.if-node-mods.false,
    ))

pub returns : goal.returns
returns c told =
    subst (MayRun (indices_in (length c.args.mods.now))) c.as_slice-nodes.ensures
    (bare_run (length c.args.mods.now) c.as_slice-nodes.result.now (grind (arith, nat_tests, told))
    (subst (AllByRecursion (IsBare (length c.args.mods.now)))
    (take-past c.loop-node.node-index c.as_slice-nodes.result.now c.loop-node-test.false)
    c.loop-node.invariant))
