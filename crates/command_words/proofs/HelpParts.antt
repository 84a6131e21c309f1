-- The help and its parts.
use Rattle.std.proofs.Common.{◌≡◌, take, length, refl}
use Rattle.command_words.specs.declared.command.CommandName.{CommandName}
use Rattle.command_words.specs.declared.command.CommandName.TheVariants.{Build, Replay, Graph, Synth, Format, Edit}
use Rattle.command_words.specs.declared.notices.Notice.TheVariants.{Help}
use Rattle.command_words.specs.Laws.{part_head, with_blanks}
use Rattle.command_words.specs.Notices.{help_parts, notice_text, part_of}

pub headed : (c : CommandName) → take (length (part_head c)) (part_of c) ≡ part_head c
headed Build = refl
headed Replay = refl
headed Graph = refl
headed Synth = refl
headed Format = refl
headed Edit = refl

pub help_is : notice_text Help ≡ with_blanks help_parts
help_is = refl
