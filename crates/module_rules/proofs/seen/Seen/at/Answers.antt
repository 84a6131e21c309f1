use Rattle.std.proofs.Common.{◌≡◌, ◌<◌, ◌∙◌, ap, refl, length, get_or}
use Rattle.std.proofs.lemmas.Option.{slice_get_read, get_or_from_slice_get}
use Rattle.graph_nodes.specs.declared.graph.Node.{Node}
use Rattle.module_rules.specs.Seen.{node_empty, module_at, module_empty}
use Rattle.module_rules.proofs.Seeing.{targets_at, all_within}
use Rattle.module_rules.proofs.seen.Seen.at.Goals as goal

pub returns : goal.returns
returns c =
    let nodes = c.args.g.now.nodes in
    let mods = c.args.mods.now in
    let n = c.args.n.0 in
    let node = c.index-as_slice-n.result in
    let is : node ≡ get_or nodes n node = c.index-as_slice-n.is ∙ ap (λ l. get_or l n node) c.as_slice.ensures in
    let inside = c.requires.inside in
    let has_module =
    all_within (λ (x : Node _). x.«module».0 < length mods) nodes n node inside is c.requires.may_run.accepted in
    let node_is = slice_get_read nodes _ n node refl inside is in
    let module_is =
    slice_get_read mods _ node.«module».0 c.index-mods-node.result refl has_module c.index-mods-node.is in
    let here = get_or_from_slice_get nodes n node node_empty node_is in
    record {
      node_is = node_is;
      module_is = module_is;
      node_here = here;
      module_here =
          ap (λ (x : Node _). module_at mods x.«module».0) here
          ∙ get_or_from_slice_get mods node.«module».0 _ module_empty module_is;
      targets_are = targets_at nodes n node inside is;
    }
