-- Why words give no configuration: all causes, in the order of the words that they speak of.
use Rattle.std.specs.Prelude.{ℕ, List, [], ◌∷◌, ◌++◌, Bool, false, ◌&&◌, not, Option, Some, None, filter_map}
use Rattle.std.specs.Prelude.{option_to_list, if◌then◌else◌}
use Rattle.std.specs.List.{list_any}
use Rattle.std.specs.Str.{bytes_eq}
use Rattle.command_words.specs.declared.cause.Cause.{Cause}
use Rattle.command_words.specs.declared.cause.Cause.TheVariants.{NoCommand, UnknownCommand, UnknownOption, OptionTwice}
use Rattle.command_words.specs.declared.cause.Cause.TheVariants.{ValueMissing, ValueOutOfForm, OptionMissing}
use Rattle.command_words.specs.declared.cause.Cause.TheVariants.{EqualPaths}
use Rattle.command_words.specs.declared.command.CommandName.{CommandName}
use Rattle.command_words.specs.declared.option.OptionName.{OptionName}
use Rattle.command_words.specs.declared.option.OptionName.TheVariants as option
use Rattle.command_words.specs.Forms.{is_value_of}
use Rattle.command_words.specs.Options.{command_named, options_of, apart_of, is_required, is_same}
use Rattle.command_words.specs.Places.{Place, places_of, is_given, given_value}
use Rattle.command_words.specs.Plain.{plain_words}
use Rattle.command_words.specs.Words.{Given}

-- The cause in a word behind the command: it spells no option of the command, or one that stood before.
abbrev pub word_cause : CommandName → List OptionName → List ℕ → Option OptionName → Option Cause
word_cause c before word None = Some (UnknownOption c word)
word_cause c before word (Some o) = if list_any (λ b. is_same b o) before then Some (OptionTwice word) else None

-- The cause in the value of an option: there is none, or it is out of form.
abbrev pub option_value_cause : List ℕ → OptionName → Option (List ℕ) → Option Cause
option_value_cause word o None = Some (ValueMissing word)
option_value_cause word o (Some value) = if is_value_of o value then None else Some (ValueOutOfForm o value)

-- The cause in a value. What stands behind a word that spells no option isn't looked at.
abbrev pub value_cause : List ℕ → Option OptionName → Option (List ℕ) → Option Cause
value_cause word None value = None
value_cause word (Some o) value = option_value_cause word o value

-- The causes at a place behind some options: those in its word stand before those in its value.
abbrev pub place_causes : CommandName → List OptionName → Place → List Cause
place_causes c before p =
    option_to_list (word_cause c before p.word p.option) ++ option_to_list (value_cause p.word p.option p.value)

-- The causes at some places behind some options, place by place.
abbrev pub causes_at : CommandName → List OptionName → List Place → List Cause
causes_at c before [] = []
causes_at c before (p ∷ ps) = place_causes c before p ++ causes_at c (before ++ option_to_list p.option) ps

-- The cause in an option that must be given and isn't.
abbrev pub missing_cause : (OptionName → Bool) → OptionName → Option Cause
missing_cause is_given o = if is_required o && not (is_given o) then Some (OptionMissing o) else None

-- The causes in options that are missing, in the order of the command's row.
abbrev pub missing_causes : CommandName → (OptionName → Bool) → List Cause
missing_causes c is_given = filter_map (missing_cause is_given) (options_of c)

-- OUT is the path of an option.
abbrev pub is_equal_path : List ℕ → Option (List ℕ) → Bool
is_equal_path out None = false
is_equal_path out (Some path) = bytes_eq out path

-- The cause in OUT and the path of an option.
abbrev pub equal_cause : List ℕ → OptionName → Option (List ℕ) → Option Cause
equal_cause out o path = if is_equal_path out path then Some (EqualPaths o out) else None

-- The causes in OUT, where it's given, and the paths of some options.
abbrev pub equal_causes : List OptionName → Given → Option (List ℕ) → List Cause
equal_causes options given None = []
equal_causes options given (Some out) = filter_map (λ o. equal_cause out o (given o)) options

-- The causes in the paths from which OUT differs, in the order of the command's row.
abbrev pub path_causes : CommandName → Given → List Cause
path_causes c given = equal_causes (apart_of c) given (given option.Out)

-- The causes at the places behind a command, then those in options that are missing, then those in equal paths.
abbrev pub causes_among : CommandName → List Place → List Cause
causes_among c places =
    causes_at c [] places ++ (missing_causes c (is_given places) ++ path_causes c (given_value places))

-- The causes in the words behind the first, which names a command or not. Behind an unknown one nothing is looked at.
abbrev pub causes_behind : List ℕ → List (List ℕ) → Option CommandName → List Cause
causes_behind word words None = UnknownCommand word ∷ []
causes_behind word words (Some c) = causes_among c (places_of c words)

-- The causes in plain words, of which the first is the command.
abbrev pub causes_of_plain : List (List ℕ) → List Cause
causes_of_plain [] = NoCommand ∷ []
causes_of_plain (word ∷ words) = causes_behind word words (command_named word)

-- All causes why the words give no configuration.
abbrev pub causes_of : List (List ℕ) → List Cause
causes_of words = causes_of_plain (plain_words words)

-- The first of some causes, where there is one.
abbrev pub first_cause : List Cause → Option Cause
first_cause [] = None
first_cause (cause ∷ causes) = Some cause
