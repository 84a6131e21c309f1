-- The commands and their options.
use Rattle.std.specs.Prelude.{ℕ, List, [], ◌∷◌, Bool, true, false, ◌||◌, Option, Some, None, find, codes}
use Rattle.std.specs.Str.{bytes_eq}
use Rattle.command_words.specs.declared.command.CommandName.{CommandName}
use Rattle.command_words.specs.declared.command.CommandName.TheVariants.{Build, Replay, Graph, Synth, Format, Edit}
use Rattle.command_words.specs.declared.option.OptionName.{OptionName}
use Rattle.command_words.specs.declared.option.OptionName.TheVariants as option

-- An option's long name.
abbrev pub option_name : OptionName → List ℕ
option_name option.List = codes "list"
option_name option.Out = codes "out"
option_name option.Jobs = codes "jobs"
option_name option.Targets = codes "targets"
option_name option.Journal = codes "journal"
option_name option.Order = codes "order"
option_name option.After = codes "after"
option_name option.Seed = codes "seed"
option_name option.Modules = codes "modules"
option_name option.In = codes "in"
option_name option.Module = codes "module"
option_name option.Property = codes "property"
option_name option.Items = codes "items"

-- An option's short name, where it has one: `l`, `o`, `j`, `t`, `a`, `i`, `m`, `p`.
abbrev pub short_name : OptionName → Option ℕ
short_name option.List = Some 108
short_name option.Out = Some 111
short_name option.Jobs = Some 106
short_name option.Targets = Some 116
short_name option.After = Some 97
short_name option.In = Some 105
short_name option.Module = Some 109
short_name option.Property = Some 112
short_name _ = None

-- The word is `-` and the short name, where there is one.
abbrev pub is_short_spelling : Option ℕ → List ℕ → Bool
is_short_spelling None word = false
is_short_spelling (Some c) word = bytes_eq word (45 ∷ c ∷ [])

-- The word is the option in one of its two spellings: `--` and the long name, `-` and the short name.
abbrev pub is_spelling : OptionName → List ℕ → Bool
is_spelling o word = bytes_eq word (45 ∷ 45 ∷ option_name o) || is_short_spelling (short_name o) word

-- A row of the table of commands: the word that names the command; its options, of which those that must be given stand
-- first; those of them from whose paths OUT differs; and the place of its part among the parts of the help.
pub record Row : Type 0 where
  pub name : List ℕ
  pub options : List OptionName
  pub apart : List OptionName
  pub part : ℕ

-- The table of commands.
abbrev pub command_row : CommandName → Row
command_row Build = record {
  name = codes "build";
  options = option.List ∷ option.Out ∷ option.Jobs ∷ option.Targets ∷ option.Journal ∷ [];
  apart = option.List ∷ option.Journal ∷ [];
  part = 1;
}
command_row Replay = record {
  name = codes "replay";
  options = option.List ∷ option.Out ∷ option.Order ∷ option.Targets ∷ [];
  apart = option.List ∷ option.Order ∷ [];
  part = 2;
}
command_row Graph = record {
  name = codes "graph";
  options = option.List ∷ option.After ∷ option.Jobs ∷ option.Targets ∷ [];
  apart = [];
  part = 3;
}
command_row Synth = record {
  name = codes "synth";
  options = option.Seed ∷ option.Modules ∷ option.Jobs ∷ [];
  apart = [];
  part = 4;
}
command_row Format = record { name = codes "fmt"; options = option.In ∷ option.Out ∷ []; apart = []; part = 5 }
command_row Edit = record {
  name = codes "edit";
  options = option.In ∷ option.Out ∷ option.Module ∷ option.Property ∷ option.Items ∷ [];
  apart = [];
  part = 6;
}

-- A command's name.
abbrev pub command_name : CommandName → List ℕ
command_name c = (command_row c).name

-- The options of a command.
abbrev pub options_of : CommandName → List OptionName
options_of c = (command_row c).options

-- The options of a command from whose paths OUT differs.
abbrev pub apart_of : CommandName → List OptionName
apart_of c = (command_row c).apart

-- The commands, in the order in which the help names them.
abbrev pub commands : List CommandName
commands = Build ∷ Replay ∷ Graph ∷ Synth ∷ Format ∷ Edit ∷ []

-- The command of a name.
abbrev pub command_named : List ℕ → Option CommandName
command_named word = find (λ c. bytes_eq word (command_name c)) commands

-- Where a command has the option, the option must be given.
abbrev pub is_required : OptionName → Bool
is_required option.Jobs = false
is_required option.Targets = false
is_required option.Journal = false
is_required option.Items = false
is_required _ = true

-- Two options are the same one.
abbrev pub is_same : OptionName → OptionName → Bool
is_same a b = bytes_eq (option_name a) (option_name b)

-- The line for words that give no configuration names the commands that bpgen has.
abbrev pub usage_line : List ℕ
usage_line = codes "usage: bpgen build|replay|graph|synth|fmt|edit OPTIONS\n"
