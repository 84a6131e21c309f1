use Rattle.transition_rules.proofs.wants_pass.split.Goals as goal

pub split_graph-requires-clause-may : goal.split_graph-requires-clause-may
split_graph-requires-clause-may g c = λ n e from to. (c.requires.may, from, to)

pub split_graph-requires-clause-splits : goal.split_graph-requires-clause-splits
split_graph-requires-clause-splits g c =
    c.wants_split.ensures (g.M.Transition.meaning c.args.rule.now) c.args.g.now.nodes c.args.lists.items
    c.requires.may.numbered c.requires.valid c.requires.differ c.requires.wants
