use Rattle.std.proofs.Common.{ap, ◌∙◌}
use Rattle.std.specs.Str.{bytes_eq}
use Rattle.std.specs.Option.{option_map}
use Rattle.bp_values.specs.Values.{meaning}
use Rattle.bp_values.proofs.Pairs.{lookup_pairs, borrowed}
use Rattle.bp_values.proofs.scope.Scope.get.Goals as goal

pub returns : goal.returns
returns c =
    borrowed c.get.result
    ∙ ap (option_map meaning) c.get.ensures.value
    ∙ lookup_pairs (bytes_eq c.args.name.now) c.args.self.now.values.entries
