use Rattle.std.proofs.Common.{sym, ◌∙◌}
use Rattle.bp_values.proofs.Scopes.{outer_at, outer_nowhere}
use Rattle.bp_values.proofs.scope.Scope.has_outer.Goals as goal

pub returns-in-Some : goal.returns-in-Some
returns-in-Some c =
    outer_at c.args.self.now.values.entries c.args.name.now c.in-Some.index c.args.count
    (sym c.get_index_of.ensures.index ∙ c.in-Some.is)

pub returns-in-None : goal.returns-in-None
returns-in-None c =
    outer_nowhere c.args.self.now.values.entries c.args.name.now c.args.count
    (sym c.get_index_of.ensures.index ∙ c.in-None.is)
