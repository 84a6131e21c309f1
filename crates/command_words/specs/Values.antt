-- The values of options.
use Rattle.std.specs.Prelude.{ℕ, List, [], ◌∷◌, Bool, false, ◌&&◌, ◌||◌, ◌==◌, not, nat_le, nat_lt, length}
use Rattle.std.specs.Prelude.{Option, Some, None, option_and_then, if◌then◌else◌, codes, map}
use Rattle.std.specs.Char.{is_ascii_alphabetic, is_ascii_alphanumeric}
use Rattle.std.specs.List.{list_all, slice_split}
use Rattle.std.specs.Str.{bytes_eq}
use Rattle.std.specs.Str.Parse.{digits_value}
use Rattle.bp_faults.specs.Targets.{target_name}
use Rattle.bp_faults.specs.declared.target.Target.{Target}
use Rattle.bp_faults.specs.declared.target.Target.TheVariants.{AndroidArm64, AndroidArm, AndroidX86_64, AndroidX86}
use Rattle.bp_faults.specs.declared.target.Target.TheVariants.{LinuxGlibcX86_64, LinuxGlibcX86}
use Rattle.command_words.specs.declared.mutators.TheConstants.{MUTATORS}
use Rattle.command_words.specs.declared.targets.TheConstants.{TARGETS}
use Rattle.command_words.specs.Once.{has_none_twice}

-- A value isn't empty and doesn't begin with `-`.
abbrev pub is_option_value : List ℕ → Bool
is_option_value [] = false
is_option_value (b ∷ bs) = not (b == 45)

-- A decimal digit.
abbrev pub is_decimal : ℕ → Bool
is_decimal b = nat_le 48 b && nat_le b 57

-- A number is 1 to 10 decimal digits.
abbrev pub is_numeral : List ℕ → Bool
is_numeral text = nat_lt 0 (length text) && (nat_le (length text) 10 && list_all is_decimal text)

-- The number of a text, where it is one from `low` to `high`.
abbrev pub number_in : ℕ → ℕ → List ℕ → Option ℕ
number_in low high text =
    if is_numeral text && (nat_le low (digits_value 10 text) && nat_le (digits_value 10 text) high)
    then Some (digits_value 10 text)
    else None

-- The target of a name.
abbrev pub target_of : List ℕ → Option Target
target_of name =
    if bytes_eq name (codes "android_arm64") then Some AndroidArm64
    else if bytes_eq name (codes "android_arm") then Some AndroidArm
    else if bytes_eq name (codes "android_x86_64") then Some AndroidX86_64
    else if bytes_eq name (codes "android_x86") then Some AndroidX86
    else if bytes_eq name (codes "linux_glibc_x86_64") then Some LinuxGlibcX86_64
    else if bytes_eq name (codes "linux_glibc_x86") then Some LinuxGlibcX86
    else None

-- The texts that a value joins by `,`: there is at least one.
abbrev pub names_in : List ℕ → List (List ℕ)
names_in text = slice_split (λ b. b == 44) text

-- One element before others, where all are there.
abbrev pub with_first : {X : Type 0} → Option X → Option (List X) → Option (List X)
with_first (Some x) (Some xs) = Some (x ∷ xs)
with_first _ _ = None

-- The targets of some names, where each name has one.
abbrev pub targets_named : List (List ℕ) → Option (List Target)
targets_named [] = Some []
targets_named (name ∷ names) = with_first (target_of name) (targets_named names)

-- Two targets are the same one.
abbrev pub is_same_target : Target → Target → Bool
is_same_target a b = bytes_eq (target_name a) (target_name b)

-- The targets, where none of them stands twice.
abbrev pub targets_once : List Target → Option (List Target)
targets_once targets = if has_none_twice is_same_target [] targets then Some targets else None

-- The targets of a value: names joined by `,`, none of them twice.
abbrev pub targets_of : List ℕ → Option (List Target)
targets_of text = option_and_then targets_once (targets_named (names_in text))

-- The names of the targets, in their order.
abbrev pub target_names : List (List ℕ)
target_names = map (λ name. name.now) TARGETS

-- The names of the mutators, in the order in which they run.
abbrev pub mutator_names : List (List ℕ)
mutator_names = map (λ name. name.now) MUTATORS

-- The number of the mutator of a name: so many mutators have run after it.
abbrev pub mutator_number : List ℕ → Option ℕ
mutator_number name =
    if bytes_eq name (codes "defaults_deps") then Some 1
    else if bytes_eq name (codes "defaults") then Some 2
    else if bytes_eq name (codes "arch") then Some 3
    else if bytes_eq name (codes "image") then Some 4
    else if bytes_eq name (codes "link") then Some 5
    else if bytes_eq name (codes "deps") then Some 6
    else if bytes_eq name (codes "plugins") then Some 7
    else if bytes_eq name (codes "per_src") then Some 8
    else if bytes_eq name (codes "sanitize") then Some 9
    else if bytes_eq name (codes "sdk") then Some 10
    else if bytes_eq name (codes "info") then Some 11
    else None

-- What begins an identifier: a letter of ASCII or `_`.
abbrev pub is_first_byte : ℕ → Bool
is_first_byte b = is_ascii_alphabetic b || (b == 95)

-- What an identifier is made of: letters, digits and `_`.
abbrev pub is_further_byte : ℕ → Bool
is_further_byte b = is_ascii_alphanumeric b || (b == 95)

-- The text begins as an identifier does.
abbrev pub has_first_byte : List ℕ → Bool
has_first_byte [] = false
has_first_byte (first ∷ more) = is_first_byte first

-- An identifier, as a name of a property is one in an Android.bp file.
abbrev pub is_identifier : List ℕ → Bool
is_identifier text = has_first_byte text && list_all is_further_byte text

-- A text that isn't empty.
abbrev pub has_bytes : List ℕ → Bool
has_bytes text = nat_lt 0 (length text)

-- The items of a value: texts joined by `,`, none of them empty.
abbrev pub items_of : List ℕ → Option (List (List ℕ))
items_of text = if list_all has_bytes (names_in text) then Some (names_in text) else None
