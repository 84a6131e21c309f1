-- What each cause says of the words.
use Rattle.std.specs.Prelude.{◌≡◌, ℕ, List, [], ◌∷◌, ◌++◌, Bool, true, false, Some, None, IsSome, IsSomeAnd}
use Rattle.std.specs.List.{list_any}
use Rattle.command_words.specs.declared.cause.Cause.{Cause}
use Rattle.command_words.specs.declared.cause.Cause.TheVariants.{NoCommand, UnknownCommand, UnknownOption, OptionTwice}
use Rattle.command_words.specs.declared.cause.Cause.TheVariants.{ValueMissing, ValueOutOfForm, OptionMissing}
use Rattle.command_words.specs.declared.cause.Cause.TheVariants.{EqualPaths}
use Rattle.command_words.specs.declared.command.CommandName.{CommandName}
use Rattle.command_words.specs.declared.option.OptionName.{OptionName}
use Rattle.command_words.specs.declared.option.OptionName.TheVariants as option
use Rattle.command_words.specs.Forms.{is_value_of}
use Rattle.command_words.specs.Options.{apart_of, command_named, is_required, is_same, options_of}
use Rattle.command_words.specs.Places.{Place, is_given, places_of, given_value}
use Rattle.command_words.specs.Plain.{plain_words}

-- The option is one of these.
abbrev pub is_among : OptionName → List OptionName → Bool
is_among o os = list_any (λ x. is_same x o) os

-- This holds of a place and of those before it.
abbrev pub SomePlace : List Place → (List Place → Place → Type 0) → Type 0
SomePlace places Holds =
    (before : List Place) × (p : Place) × (rest : List Place) × (places ≡ before ++ p ∷ rest) × Holds before p

-- What a cause says of the places behind a command.
abbrev pub HoldsAmong : CommandName → List Place → Cause → Type 0
HoldsAmong c places NoCommand = ⊥
HoldsAmong c places (UnknownCommand word) = ⊥
HoldsAmong c places (UnknownOption d word) =
    (d ≡ c) × SomePlace places (λ before p. (p.word ≡ word) × (p.option ≡ None))
HoldsAmong c places (OptionTwice word) =
    SomePlace places (λ before p. (p.word ≡ word) × IsSomeAnd p.option (λ o. is_given before o ≡ true))
HoldsAmong c places (ValueMissing word) =
    SomePlace places (λ before p. (p.word ≡ word) × IsSome p.option × (p.value ≡ None))
HoldsAmong c places (ValueOutOfForm o value) =
    SomePlace places (λ before p. (p.option ≡ Some o) × (p.value ≡ Some value) × (is_value_of o value ≡ false))
HoldsAmong c places (OptionMissing o) =
    (is_among o (options_of c) ≡ true) × (is_required o ≡ true) × (is_given places o ≡ false)
HoldsAmong c places (EqualPaths o path) =
    (is_among o (apart_of c) ≡ true) × (given_value places option.Out ≡ Some path) × (given_value places o ≡ Some path)

-- What a cause says of words that name a command and have others behind it.
abbrev pub HoldsBehind : List (List ℕ) → Cause → Type 0
HoldsBehind plain cause =
    (first : List ℕ) × (behind : List (List ℕ)) × (c : CommandName) × (plain ≡ first ∷ behind)
    × (command_named first ≡ Some c) × HoldsAmong c (places_of c behind) cause

-- What a cause says of plain words.
abbrev pub HoldsOfPlain : List (List ℕ) → Cause → Type 0
HoldsOfPlain plain NoCommand = plain ≡ []
HoldsOfPlain plain (UnknownCommand word) =
    (behind : List (List ℕ)) × (plain ≡ word ∷ behind) × (command_named word ≡ None)
HoldsOfPlain plain cause = HoldsBehind plain cause

-- What a cause says of the words.
abbrev pub HoldsOf : List (List ℕ) → Cause → Type 0
HoldsOf words cause = HoldsOfPlain (plain_words words) cause
