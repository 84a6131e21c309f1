use Rattle.std.proofs.Common.{◌∙◌}
use Rattle.std.specs.Str.{chars}
use Rattle.near_names.proofs.Edits.{table_is_edits}
use Rattle.near_names.proofs.near.distance.Goals as goal

pub returns : goal.returns
returns c =
    c.in_ok-edits.ensures.value ∙ table_is_edits (chars c.args.word.now) (chars c.args.other.now)
