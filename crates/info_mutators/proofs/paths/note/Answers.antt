use Rattle.std.proofs.Common.{ap, ◌∙◌}
use Rattle.std.specs.Str.{bytes_eq}
use Rattle.info_mutators.specs.Inside.{values_behind}
use Rattle.info_mutators.proofs.Noted.{note_behind}
use Rattle.info_mutators.proofs.paths.note.Goals as goal

pub returns : goal.returns
returns c = ap values_behind c.in_ok-insert_full.ensures.keys ∙ note_behind bytes_eq c.args.seen.now.keys c.args.path
