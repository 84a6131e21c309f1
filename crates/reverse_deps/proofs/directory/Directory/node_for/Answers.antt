use Rattle.std.proofs.Common.{◌∙◌, ap, [], arith}
use Rattle.std.specs.List.{find}
use Rattle.std.proofs.lemmas.List.{get_or_read}
use Rattle.reverse_deps.specs.Inside.{is_wanted_at}
use Rattle.reverse_deps.proofs.Listed.{first_of_module}
use Rattle.reverse_deps.proofs.directory.Directory.node_for.Goals as goal

pub returns : goal.returns
returns g c =
    let nodes = c.args.g.now.nodes in
    c.first_wanted.ensures
    ∙ ap (find (is_wanted_at nodes c.args.want)) (c.as_slice.ensures
    ∙ get_or_read c.args.self.now.nodes.items _ _ (omega (arith, c.requires.directory.many)) c.index.ensures []
    ∙ c.requires.directory.each c.args.m c.requires.inside)
    ∙ first_of_module nodes c.args.m c.args.want
