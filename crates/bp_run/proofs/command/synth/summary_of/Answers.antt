use Rattle.std.proofs.Common.{◌≡◌, ◌∙◌, ◌<◌, ℕ, suc, List, Ok, refl, ap, lit<, length}
use Rattle.std.specs.Prelude.{slice_index_or}
use Rattle.std.proofs.lemmas.Option.{get_or_from_slice_get}
use Rattle.bp_props.specs.declared.module.Module.{Module}
use Rattle.bp_props.specs.declared.props.Props.{Props}
use Rattle.graph_nodes.specs.declared.graph.Node.{Node}
use Rattle.bp_pipeline.specs.declared.sizes.Sizes.{Sizes}
use Rattle.bp_pipeline.specs.Course.{GraphAfter}
use Rattle.bp_pipeline.specs.Generated.{AreSizes, sizes_of}
use Rattle.bp_pipeline.specs.Mutators.{mutator_count}
use Rattle.bp_run.specs.Job.{synth_config}
use Rattle.bp_run.proofs.command.synth.summary_of.Goals as goal

-- the size of the graph after a mutator, by its index in the list
size_at : (typed : List Module) (sizes given : List Sizes) → given ≡ sizes → AreSizes typed synth_config sizes
    → (k : ℕ) → k < mutator_count → (none : Sizes)
    → (nodes : List (Node Props)) × GraphAfter typed synth_config (suc k) (Ok nodes)
    × (slice_index_or given k none ≡ sizes_of nodes)
size_at typed sizes given same are k within none =
    let here = are.each k within in (
      here.0,
      here.1,
      ap (λ s. slice_index_or s k none) same ∙ get_or_from_slice_get sizes k (sizes_of here.0) none here.2,
    )

pub returns : goal.returns
returns c =
    λ typed are count.
    let at = size_at typed c.args.made.now.sizes c.as_slice-sizes.result.now c.as_slice-sizes.ensures are in
    let none : Sizes = record { nodes = 0; edges = 0 } in
    let linked = at 4 (lit< tt) none in
    let edges = at 6 (lit< tt) none in
    let nodes = at 10 (lit< tt) none in
    record {
      modules = refl;
      linked = (linked.0, linked.1, ap (λ s. s.nodes) linked.2);
      edges = (edges.0, edges.1, ap (λ s. s.edges) edges.2);
      nodes = (nodes.0, nodes.1, ap (λ s. s.nodes) nodes.2);
      statements = count;
      bytes = ap length c.as_slice.ensures;
    }
