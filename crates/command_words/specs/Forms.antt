-- The form that an option's value has.
use Rattle.std.specs.Prelude.{ℕ, List, Bool, true, ◌&&◌, is_some}
use Rattle.bp_faults.specs.declared.limits.TheConstants.{MOST_SYNTHETIC_MODULES, MOST_WORKERS}
use Rattle.command_words.specs.declared.form.Form.{Form}
use Rattle.command_words.specs.declared.form.Form.TheVariants.{Plain, Number, Targets, Mutator, Identifier, Items}
use Rattle.command_words.specs.declared.option.OptionName.{OptionName}
use Rattle.command_words.specs.declared.option.OptionName.TheVariants as option
use Rattle.command_words.specs.Values.{is_option_value, number_in, targets_of, mutator_number, is_identifier, items_of}

-- The form of each option's value.
abbrev pub value_form : OptionName → Form
value_form option.Jobs = Number 1 MOST_WORKERS
value_form option.Targets = Targets
value_form option.After = Mutator
value_form option.Seed = Number 0 4294967295
value_form option.Modules = Number 1 MOST_SYNTHETIC_MODULES
value_form option.Property = Identifier
value_form option.Items = Items
value_form _ = Plain

-- The text has the form. Every text is plain.
abbrev pub has_form : Form → List ℕ → Bool
has_form Plain text = true
has_form (Number low high) text = is_some (number_in low high text)
has_form Targets text = is_some (targets_of text)
has_form Mutator text = is_some (mutator_number text)
has_form Identifier text = is_identifier text
has_form Items text = is_some (items_of text)

-- The value is one, and has the form of the option's values.
abbrev pub is_value_of : OptionName → List ℕ → Bool
is_value_of o value = is_option_value value && has_form (value_form o) value
