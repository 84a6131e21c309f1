use Rattle.std.proofs.Common.{ap, ◌∙◌}
use Rattle.std.specs.Str.{bytes_eq}
use Rattle.std.proofs.lemmas.Map.Text.{btree_map_updates_str}
use Rattle.bp_values.specs.KeptIndices.{if_any}
use Rattle.bp_values.proofs.Kept.{any_put}
use Rattle.bp_values.proofs.kept_indices.KeptIndices.keep.Goals as goal

pub returns-in-Some-clause-kept : goal.returns-in-Some-clause-kept
returns-in-Some-clause-kept c = λ name.
    ap if_any (btree_map_updates_str c.args.variable.now c.args.self.now.known c.insert.new.self _
    c.in_ok-had.ensures.updates name)
    ∙ any_put (bytes_eq c.args.variable.now name) c.args.indices _

pub returns-in-None-clause-kept : goal.returns-in-None-clause-kept
returns-in-None-clause-kept c = λ name.
    ap if_any (btree_map_updates_str c.args.variable.now c.args.self.now.known c.insert.new.self _
    c.in_ok-had.ensures.updates name)
    ∙ any_put (bytes_eq c.args.variable.now name) c.args.indices _
