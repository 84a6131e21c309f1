-- What holds of all words.
use Rattle.std.specs.Prelude.{◌≡◌, ◌↔◌, ℕ, List, [], ◌∷◌, ◌++◌, Some, None, IsSome, codes, length, take}
use Rattle.std.specs.List.{All}
use Rattle.command_words.specs.declared.command.CommandName.{CommandName}
use Rattle.command_words.specs.declared.configuration.Configuration.{Configuration}
use Rattle.command_words.specs.declared.notices.Notice.{Notice}
use Rattle.command_words.specs.declared.notices.Notice.TheVariants.{Help}
use Rattle.command_words.specs.Causes.{causes_of, first_cause}
use Rattle.command_words.specs.Holds.{HoldsOf}
use Rattle.command_words.specs.Notices.{help_parts, notice_of, notice_text, part_of, question_of}
use Rattle.command_words.specs.Options.{command_name}
use Rattle.command_words.specs.Words.{IsSoundConfiguration}
use Rattle.command_words.specs.Words.{configuration_of}

-- Every configuration that words give is sound.
abbrev pub EachConfigurationIsSound : Type 0
EachConfigurationIsSound =
    (words : List (List ℕ)) (c : Configuration) → configuration_of words ≡ Some c → IsSoundConfiguration c

-- Words that ask for a notice give no configuration.
abbrev pub NoticesAreNoCommands : Type 0
NoticesAreNoCommands =
    (words : List (List ℕ)) (notice : Notice) → notice_of words ≡ Some notice → configuration_of words ≡ None

-- Words that ask what is wrong with others give no configuration.
abbrev pub QuestionsAreNoCommands : Type 0
QuestionsAreNoCommands =
    (words asked : List (List ℕ)) → question_of words ≡ Some asked → configuration_of words ≡ None

-- How a command's part of the help begins.
abbrev pub part_head : CommandName → List ℕ
part_head c = command_name c ++ codes ": "

-- Each command's part of the help begins with the command's name.
abbrev pub EachPartIsOfItsCommand : Type 0
EachPartIsOfItsCommand = (c : CommandName) → take (length (part_head c)) (part_of c) ≡ part_head c

-- Texts behind others, with a blank line before each.
abbrev pub behind_blanks : List (List ℕ) → List ℕ
behind_blanks [] = []
behind_blanks (text ∷ texts) = codes "\n" ++ (text ++ behind_blanks texts)

-- Texts with a blank line between them.
abbrev pub with_blanks : List (List ℕ) → List ℕ
with_blanks [] = []
with_blanks (text ∷ texts) = text ++ behind_blanks texts

-- The help is its parts.
abbrev pub HelpIsItsParts : Type 0
HelpIsItsParts = notice_text Help ≡ with_blanks help_parts

-- Each cause holds of the words.
abbrev pub EachCauseHolds : Type 0
EachCauseHolds = (words : List (List ℕ)) → All (HoldsOf words) (causes_of words)

-- There is a cause exactly where words give no configuration.
abbrev pub EachRefusalHasACause : Type 0
EachRefusalHasACause =
    (words : List (List ℕ)) → IsSome (first_cause (causes_of words)) ↔ (configuration_of words ≡ None)
