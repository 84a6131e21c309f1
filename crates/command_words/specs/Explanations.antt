-- The line that says why words give no configuration.
use Rattle.std.specs.Prelude.{ℕ, List, [], ◌∷◌, ◌++◌, Option, Some, None, codes, map}
use Rattle.std.specs.Fmt.{decimal}
use Rattle.bp_faults.specs.Line.{shown_text}
use Rattle.near_names.specs.Joined.{comma_list}
use Rattle.near_names.specs.Nearest.{nearest_names}
use Rattle.command_words.specs.declared.cause.Cause.{Cause}
use Rattle.command_words.specs.declared.cause.Cause.TheVariants.{NoCommand, UnknownCommand, UnknownOption, OptionTwice}
use Rattle.command_words.specs.declared.cause.Cause.TheVariants.{ValueMissing, ValueOutOfForm, OptionMissing}
use Rattle.command_words.specs.declared.cause.Cause.TheVariants.{EqualPaths}
use Rattle.command_words.specs.declared.form.Form.{Form}
use Rattle.command_words.specs.declared.form.Form.TheVariants.{Plain, Number, Targets, Mutator, Identifier, Items}
use Rattle.command_words.specs.declared.option.OptionName.{OptionName}
use Rattle.command_words.specs.Causes.{causes_of, first_cause}
use Rattle.command_words.specs.Forms.{value_form}
use Rattle.command_words.specs.Options.{command_name, commands, option_name, options_of}
use Rattle.command_words.specs.Values.{mutator_names, target_names}

-- The long spelling of an option.
abbrev pub long_spelling : OptionName → List ℕ
long_spelling o = codes "--" ++ option_name o

-- The names are told, where there are some.
abbrev pub names_told : List (List ℕ) → List ℕ
names_told [] = []
names_told (name ∷ names) = codes "; nearest: " ++ comma_list (name ∷ names)

-- The known names that are nearest to a word are told.
abbrev pub nearest_told : List (List ℕ) → List ℕ → List ℕ
nearest_told known word = names_told (nearest_names known word)

-- What is said of the form of a value.
abbrev pub form_text : Form → List ℕ
form_text Plain = codes "a text that isn't empty and doesn't begin with -"
form_text (Number low high) =
    codes "a number from " ++ (decimal low ++ (codes " to " ++ (decimal high ++ codes ", of 1 to 10 digits")))
form_text Targets = codes "names of targets, joined by commas, none twice"
form_text Mutator = codes "the name of a mutator"
form_text Identifier = codes "an identifier: a letter or _, and then letters, digits and _"
form_text Items = codes "texts joined by commas, none of them empty; the first doesn't begin with -"

-- The names that a form knows.
abbrev pub known_names : Form → List (List ℕ)
known_names Targets = target_names
known_names Mutator = mutator_names
known_names _ = []

-- What is said of a cause, with the word that it speaks of.
abbrev pub cause_text : Cause → List ℕ
cause_text NoCommand = codes "no command"
cause_text (UnknownCommand word) =
    codes "unknown command: " ++ (shown_text word ++ nearest_told (map command_name commands) word)
cause_text (UnknownOption c word) =
    codes "unknown option of " ++ (command_name c ++ (codes ": "
    ++ (shown_text word ++ nearest_told (map long_spelling (options_of c)) word)))
cause_text (OptionTwice word) = codes "option given twice: " ++ shown_text word
cause_text (ValueMissing word) = codes "option without a value: " ++ shown_text word
cause_text (ValueOutOfForm o value) =
    codes "value out of form: " ++ (shown_text value ++ (codes "; --" ++ (option_name o ++ (codes " takes "
    ++ (form_text (value_form o) ++ nearest_told (known_names (value_form o)) value)))))
cause_text (OptionMissing o) = codes "missing option: --" ++ option_name o
cause_text (EqualPaths o path) =
    codes "equal paths of --out and --" ++ (option_name o ++ (codes ": " ++ shown_text path))

-- The line of a cause, or the one that says that there is none.
abbrev pub cause_line : Option Cause → List ℕ
cause_line None = codes "these words are accepted\n"
cause_line (Some cause) = cause_text cause ++ codes "\n"

-- What is said of words.
abbrev pub explanation_of : List (List ℕ) → List ℕ
explanation_of words = cause_line (first_cause (causes_of words))
