use Rattle.std.proofs.Common.{map, take, sym, ap, ◌∙◌}
use Rattle.std.proofs.lemmas.List.{take-map}
use Rattle.bp_values.specs.Scopes.{pair_of, pairs_of}
use Rattle.bp_values.proofs.Scopes.{outer_again}
use Rattle.bp_values.proofs.scope.Scope.outer.Goals as goal

pub returns-clause-pairs : goal.returns-clause-pairs
returns-clause-pairs c =
    ap (map pair_of) c.truncate.ensures.entries ∙ sym (take-map pair_of c.args.count c.args.self.values.entries)

pub returns-clause-outer : goal.returns-clause-outer
returns-clause-outer c n few =
    ap (take n)
    (ap (map pair_of) c.truncate.ensures.entries ∙ sym (take-map pair_of c.args.count c.args.self.values.entries))
    ∙ outer_again n c.args.count (pairs_of c.args.self) few
