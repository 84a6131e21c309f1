-- What `clap` found for each option.
use Rattle.std.specs.Prelude.{ℕ, List, Option}
use Rattle.clap.specs.Words.{first_value, found_of}
use Rattle.clap.specs.declared.parser.matches.ArgMatches.{ArgMatches}
use Rattle.command_words.specs.declared.option.OptionName.{OptionName}
use Rattle.command_words.specs.Options.{option_name}

-- The value that was found for an option.
abbrev pub value_found : ArgMatches → OptionName → Option (List ℕ)
value_found m o = first_value (found_of m) (option_name o)
