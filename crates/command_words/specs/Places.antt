-- The places behind a command: words and their values.
use Rattle.std.specs.Prelude.{ℕ, List, [], ◌∷◌, Bool, false, Option, Some, None, find, option_and_then}
use Rattle.std.specs.List.{list_any}
use Rattle.command_words.specs.declared.command.CommandName.{CommandName}
use Rattle.command_words.specs.declared.option.OptionName.{OptionName}
use Rattle.command_words.specs.Options.{is_same}
use Rattle.command_words.specs.Words.{option_of}

-- A place: a word, the option of the command that it spells, and the value behind it, where there are such.
pub record Place : Type 0 where
  pub word : List ℕ
  pub option : Option OptionName
  pub value : Option (List ℕ)

-- The place of a word and a value.
abbrev pub place_of : CommandName → List ℕ → Option (List ℕ) → Place
place_of c word value = record { word = word; option = option_of c word; value = value }

-- The places of the words behind a command: each second word is the value of the one before it.
abbrev pub places_of : CommandName → List (List ℕ) → List Place
places_of c [] = []
places_of c (word ∷ []) = place_of c word None ∷ []
places_of c (word ∷ value ∷ rest) = place_of c word (Some value) ∷ places_of c rest

-- The option is this one.
abbrev pub is_option : OptionName → Option OptionName → Bool
is_option o None = false
is_option o (Some other) = is_same other o

-- Some place spells the option.
abbrev pub is_given : List Place → OptionName → Bool
is_given places o = list_any (λ p. is_option o p.option) places

-- The value at the first place that spells the option.
abbrev pub given_value : List Place → OptionName → Option (List ℕ)
given_value places o = option_and_then (λ p. p.value) (find (λ p. is_option o p.option) places)
