-- What `clap` is told of the commands, and what it reads of plain words.
use Rattle.std.specs.Prelude.{◌≡◌, ℕ, List, true, Some, map, drop, IsSomeAnd}
use Rattle.clap.specs.Words.{App, Rule, new_rule, new_app, first_value, found_of}
use Rattle.clap.specs.declared.builder.action.ArgAction.TheVariants.{Set}
use Rattle.clap.specs.declared.parser.matches.ArgMatches.{ArgMatches}
use Rattle.command_words.specs.declared.command.CommandName.{CommandName}
use Rattle.command_words.specs.declared.option.OptionName.{OptionName}
use Rattle.command_words.specs.declared.pairs.Pair.{Pair}
use Rattle.command_words.specs.Options.{option_name, short_name, is_required, options_of, command_name}
use Rattle.command_words.specs.Words.{option_pairs, are_plain_pairs, option_value}

-- What `clap` is told of an option: it takes one value.
abbrev pub rule_for : OptionName → Rule
rule_for o = record (new_rule (option_name o)) {
  long = Some (option_name o);
  short = short_name o;
  action = Some Set;
  required = is_required o;
}

-- A command without options, and without a flag for help.
abbrev pub bare_app : List ℕ → App
bare_app name = record (new_app name) { top = record (new_app name).top { disable_help_flag = true } }

-- A command with some options.
abbrev pub app_with : List ℕ → List OptionName → App
app_with name options = record (bare_app name) { top = record (bare_app name).top { rules = map rule_for options } }

-- What `clap` is told of a command.
abbrev pub app_for : CommandName → App
app_for c = app_with (command_name c) (options_of c)

-- The words after the first are plain pairs of the command.
abbrev pub IsPlainLine : CommandName → List (List ℕ) → Type 0
IsPlainLine c words = IsSomeAnd (option_pairs c (drop 1 words)) (λ ps. are_plain_pairs c ps ≡ true)

-- Each option has the value that the pairs give it.
abbrev pub ReadsOptions : CommandName → List (List ℕ) → ArgMatches → Type 0
ReadsOptions c words m =
    (ps : List Pair) → option_pairs c (drop 1 words) ≡ Some ps
    → (o : OptionName) → first_value (found_of m) (option_name o) ≡ option_value ps o
