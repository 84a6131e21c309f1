use Rattle.mutator_kinds.proofs.upward.has_shape.Goals as goal

pub returns : goal.returns
returns g c = g.met.M.BottomUp.shaped c.args.rule.now
