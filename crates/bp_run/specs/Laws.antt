-- What holds of all commands and files.
use Rattle.std.specs.Prelude.{◌≡◌, ℕ, List, ◌++◌}
use Rattle.bp_faults.specs.Phases.{HasOutcome, IsOnce}
use Rattle.bp_ports.specs.Files.{Files}
use Rattle.build_parts.specs.Head.{head_lines}
use Rattle.build_actions.specs.declared.actions.Actions.{Actions}
use Rattle.build_actions.specs.File.{file_of_actions}
use Rattle.ninja_write.specs.Meaning.{text_of, joined_text}
use Rattle.command_words.specs.declared.configuration.Configuration.{Configuration}
use Rattle.command_words.specs.declared.configuration.Configuration.TheVariants.{Edit}
use Rattle.command_words.specs.declared.configuration.Edit.{Edit as EditWords}
use Rattle.command_words.specs.Words.{IsSoundConfiguration}
use Rattle.bp_run.specs.Commands.{description_of}
use Rattle.bp_run.specs.Tree.{ListLoads}

-- A command comes to one outcome.
abbrev pub OneOutcome : Type 0
OneOutcome = (c : Configuration) (files : Files) → IsOnce ((description_of c).gives files)

-- What a list and the files that it names load as has an outcome, over all files.
abbrev pub SomeListed : Type 0
SomeListed = (list : List ℕ) (files : Files) → HasOutcome (ListLoads list files)

-- A sound command comes to an outcome over all files: a text or a fault.
abbrev pub SomeOutcome : Type 0
SomeOutcome = (c : Configuration) (files : Files) → IsSoundConfiguration c → HasOutcome ((description_of c).gives files)

-- `edit` comes to an outcome over all files, whatever its words are.
abbrev pub SomeEdited : Type 0
SomeEdited = (words : EditWords) (files : Files) → HasOutcome ((description_of (Edit words)).gives files)

-- Every written text begins with the literal lines of the head.
abbrev pub HeadIsText : Type 0
HeadIsText = (made : List Actions) → (rest : List ℕ) × (text_of (file_of_actions made) ≡ joined_text head_lines ++ rest)
