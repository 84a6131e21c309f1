-- Words that ask for a text in place of a command.
use Rattle.std.specs.Prelude.{ℕ, List, [], ◌∷◌, ◌||◌, Option, Some, None, codes, if◌then◌else◌, map, option_map}
use Rattle.std.specs.Prelude.{slice_get}
use Rattle.std.specs.Prelude.{unwrap_or}
use Rattle.std.specs.Str.{bytes_eq}
use Rattle.command_words.specs.declared.command.CommandName.{CommandName}
use Rattle.command_words.specs.declared.help.TheConstants.{HELP, HELP_PARTS, VERSION}
use Rattle.command_words.specs.declared.notices.Notice.{Notice}
use Rattle.command_words.specs.declared.notices.Notice.TheVariants.{Help, Version, Part}
use Rattle.command_words.specs.Options.{command_named, command_row}

-- The notice that a word asks for.
abbrev pub notice_named : List ℕ → Option Notice
notice_named word =
    if bytes_eq word (codes "--help") || (bytes_eq word (codes "-h") || bytes_eq word (codes "help")) then Some Help
    else if bytes_eq word (codes "--version") || bytes_eq word (codes "-V") then Some Version
    else None

-- The command of whose part of the help two words ask: `help` and the command, or the command and `--help`.
abbrev pub part_asked : List ℕ → List ℕ → Option CommandName
part_asked first second =
    if bytes_eq first (codes "help") then command_named second
    else if bytes_eq second (codes "--help") then command_named first
    else None

-- The notice that the words ask for: exactly one word does, or exactly two.
abbrev pub notice_of : List (List ℕ) → Option Notice
notice_of (word ∷ []) = notice_named word
notice_of (first ∷ second ∷ []) = option_map Part (part_asked first second)
notice_of words = None

-- The parts of the help.
abbrev pub help_parts : List (List ℕ)
help_parts = map (λ part. part.now) HELP_PARTS

-- A command's part of the help.
abbrev pub part_of : CommandName → List ℕ
part_of c = unwrap_or (slice_get help_parts (command_row c).part) []

-- The text of a notice.
abbrev pub notice_text : Notice → List ℕ
notice_text Help = HELP.now
notice_text Version = VERSION.now
notice_text (Part c) = part_of c

-- `help` and other words behind it ask what is wrong with these.
abbrev pub question_of : List (List ℕ) → Option (List (List ℕ))
question_of (word ∷ other ∷ words) = if bytes_eq word (codes "help") then Some (other ∷ words) else None
question_of words = None
