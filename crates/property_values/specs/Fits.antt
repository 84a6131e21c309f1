-- What a value stands for under a property, or the first fault in it; and in which field a record keeps it.
use Rattle.std.specs.Prelude.{ℕ, Bool, true, false, List, [], ◌∷◌, ◌||◌, ◌&&◌, ◌==◌, nat_le, codes, if◌then◌else◌}
use Rattle.std.specs.Prelude.{Option, Some, None, Result, Ok, Err}
use Rattle.std.specs.Str.{bytes_eq}
use Rattle.std.specs.Str.Parse.{digits_value}
use Rattle.std.specs.Char.{is_ascii_digit}
use Rattle.std.specs.List.{list_any, list_all}
use Rattle.bp_faults.specs.declared.place.Place.{Place}
use Rattle.bp_faults.specs.declared.place.Item.{Item}
use Rattle.bp_faults.specs.declared.fault.Fault.{Fault}
use Rattle.bp_faults.specs.declared.kind.FaultKind.TheVariants.{WrongType, BadValue, BadPath}
use Rattle.bp_faults.specs.Answers.{then_do}
use Rattle.bp_faults.specs.Characters.{is_control}
use Rattle.bp_faults.specs.Phases.{each_in_turn}
use Rattle.bp_faults.specs.Faults.{fault_on}
use Rattle.bp_props.specs.Fields as S
use Rattle.bp_props.specs.Fields.{Shape, Scalar, Items, group_by}
use Rattle.bp_props.specs.Records.{props_by, computed_of}
use Rattle.bp_props.specs.contracts.fields.FieldPartialEq.TheImpl as same
use Rattle.bp_props.specs.declared.fields.GroupProps.{GroupProps}
use Rattle.bp_props.specs.declared.given.Given.{Given}
use Rattle.bp_props.specs.declared.listed.Listed.{Listed}
use Rattle.bp_props.specs.declared.props.Props.{Props}
use Rattle.bp_props.specs.declared.source.Source.{Source}
use Rattle.bp_props.specs.declared.multi.Multi.TheVariants.{Both, First, Only32, Only64}
use Rattle.bp_props.specs.declared.fields.Field.{Field}
use Rattle.bp_props.specs.declared.fields.Field.TheVariants.{IncludeDirs}
use Rattle.bp_values.specs.Values as value
use Rattle.bp_values.specs.Values.{Meaning, MapEntries, MapEntry as Entry}
use Rattle.property_values.specs.declared.row.PropKind.{PropKind}
use Rattle.property_values.specs.declared.row.PropKind.TheVariants as K
use Rattle.property_values.specs.declared.fit.Fit.{Fit}
use Rattle.property_values.specs.declared.fit.Fit.TheVariants as fit
use Rattle.property_values.specs.Paths.{is_refused, components, path_below}

-- The value of an entry may be of another type than its property's.
abbrev pub wrong_type : {A : Type 0} → Place → List ℕ → Result A Fault
wrong_type at path = Err (fault_on WrongType at path)

-- A value has to be a bool.
abbrev pub truth_in : Place → List ℕ → Meaning → Result Bool Fault
truth_in at path (value.Truth b) = Ok b
truth_in at path other = wrong_type at path

-- A value has to be a string.
abbrev pub word_in : Place → List ℕ → Meaning → Result (List ℕ) Fault
word_in at path (value.Str text) = Ok text
word_in at path other = wrong_type at path

-- A value has to be a list of strings.
abbrev pub list_in : Place → List ℕ → Meaning → Result (List Item) Fault
list_in at path (value.Items items) = Ok items
list_in at path other = wrong_type at path

-- A value has to be a map.
abbrev pub map_in : Place → List ℕ → Meaning → Result MapEntries Fault
map_in at path (value.Body entries) = Ok entries
map_in at path other = wrong_type at path

-- A flag holds no control character.
abbrev pub flag_in : List ℕ → Item → Result (List ℕ) Fault
flag_in path item = if list_any is_control item.text then Err (fault_on BadValue item.at path) else Ok item.text

-- A directory is below its base directory; what has no component is the base directory itself.
abbrev pub dir_in : List ℕ → Item → Result (List ℕ) Fault
dir_in base item =
    if is_refused item.text then Err (fault_on BadPath item.at item.text) else Ok (path_below base item.text)

-- A list of components may be empty.
abbrev pub is_empty : List (List ℕ) → Bool
is_empty [] = true
is_empty (c ∷ components) = false

-- A source that is a path has a component, and is below the module's directory.
abbrev pub path_in : List ℕ → Item → Result Source Fault
path_in dir item =
    if is_refused item.text || is_empty (components item.text) then Err (fault_on BadPath item.at item.text)
    else Ok (record { named = false; item = record { text = path_below dir item.text; at = item.at } })

-- A source is a path, or the name of a module behind a colon, which is no path.
abbrev pub source_by : List ℕ → Item → List ℕ → Result Source Fault
source_by dir item [] = path_in dir item
source_by dir item (c ∷ name) =
    if c == 58 then Ok (record { named = true; item = record { text = name; at = item.at } }) else path_in dir item

-- A source is told by its own text.
abbrev pub source_in : List ℕ → Item → Result Source Fault
source_in dir item = source_by dir item item.text

-- A scalar is set at an entry.
abbrev pub given_at : {A : Type 0} → Place → A → Given A
given_at at value = record { value = value; at = at }

-- A list is set at an entry.
abbrev pub listed_at : {A : Type 0} → Place → List A → Listed A
listed_at at items = record { items = items; at = Some at }

-- A word says for which targets of a class a module is built.
abbrev pub multi_in : Place → List ℕ → List ℕ → Result Fit Fault
multi_in at path word =
    if bytes_eq word (codes "both") then Ok (fit.Multi (given_at at Both))
    else if bytes_eq word (codes "first") then Ok (fit.Multi (given_at at First))
    else if bytes_eq word (codes "32") then Ok (fit.Multi (given_at at Only32))
    else if bytes_eq word (codes "64") then Ok (fit.Multi (given_at at Only64))
    else Err (fault_on BadValue at path)

-- A number is a word of digits alone.
abbrev pub is_number : List ℕ → Bool
is_number [] = false
is_number (c ∷ word) = list_all is_ascii_digit (c ∷ word)

-- A level is from 1 to 9999.
abbrev pub in_levels : ℕ → Option ℕ
in_levels n = if nat_le 1 n && nat_le n 9999 then Some n else None

-- A number that is no level is refused.
abbrev pub level_or : Place → List ℕ → Option ℕ → Result Fit Fault
level_or at path (Some n) = Ok (fit.Level (given_at at n))
level_or at path None = Err (fault_on BadValue at path)

-- A number is a level or refused. Any other word, as the name of a level, counts as not set.
abbrev pub level_in : Place → List ℕ → List ℕ → Result Fit Fault
level_in at path word = if is_number word then level_or at path (in_levels (digits_value 10 word)) else Ok fit.Unset

-- The directories of `include_dirs` are relative to the root, and those of other properties to the module.
abbrev pub base_of : List ℕ → Option Field → List ℕ
base_of dir (Some IncludeDirs) = []
base_of dir effect = dir

-- The items of a list are each taken for something, in turn, and set at an entry.
abbrev pub each_listed : {A : Type 0} → List ℕ → Entry → (Item → Result A Fault) → Result (Listed A) Fault
each_listed path entry step = then_do (list_in entry.at path entry.value)
    (λ items. then_do (each_in_turn step items) (λ made. Ok (listed_at entry.at made)))

-- An entry's value stands for something under a kind of property, in a module of this directory, or is refused.
abbrev pub fit_of : List ℕ → Option Field → List ℕ → Entry → PropKind → Result Fit Fault
fit_of dir effect path entry K.Bool =
    then_do (truth_in entry.at path entry.value) (λ b. Ok (fit.Truth (given_at entry.at b)))
fit_of dir effect path entry K.Word =
    then_do (word_in entry.at path entry.value) (λ word. Ok (fit.Word (given_at entry.at word)))
fit_of dir effect path entry K.Words = then_do (list_in entry.at path entry.value) (λ items. Ok fit.Unset)
fit_of dir effect path entry K.Flags = then_do (each_listed path entry (flag_in path)) (λ flags. Ok (fit.Flags flags))
fit_of dir effect path entry K.Names =
    then_do (list_in entry.at path entry.value) (λ items. Ok (fit.Names (listed_at entry.at items)))
fit_of dir effect path entry K.Paths =
    then_do (each_listed path entry (source_in dir)) (λ sources. Ok (fit.Sources sources))
fit_of dir effect path entry K.Dirs =
    then_do (each_listed path entry (dir_in (base_of dir effect))) (λ dirs. Ok (fit.Dirs dirs))
fit_of dir effect path entry K.Multi = then_do (word_in entry.at path entry.value) (λ word. multi_in entry.at path word)
fit_of dir effect path entry K.Level = then_do (word_in entry.at path entry.value) (λ word. level_in entry.at path word)
fit_of dir effect path entry K.Group = then_do (map_in entry.at path entry.value) (λ entries. Ok fit.Unset)

-- A property may set this field.
abbrev pub is_effect : Option Field → Field → Bool
is_effect (Some named) field = (same.ghosts).eq named field
is_effect None field = false

-- A scalar of the field that is meant is what a value of its shape stands for. Any other is what it was.
abbrev pub scalar_set : (shape : Shape) → Fit → Bool → Scalar shape → Scalar shape
scalar_set S.Truth (fit.Truth truth) true old = Some truth
scalar_set S.Word (fit.Word word) true old = Some word
scalar_set S.Multi (fit.Multi multi) true old = Some multi
scalar_set S.Level (fit.Level level) true old = Some level
scalar_set shape other is_meant old = old

-- So is a list.
abbrev pub list_set : (shape : Shape) → Fit → Bool → Items shape → Items shape
list_set S.Flags (fit.Flags flags) true old = flags
list_set S.Dirs (fit.Dirs dirs) true old = dirs
list_set S.Names (fit.Names names) true old = names
list_set S.Sources (fit.Sources sources) true old = sources
list_set shape other is_meant old = old

-- The field of a group is set that a property names.
abbrev pub group_set : Option Field → Fit → GroupProps → GroupProps
group_set effect value g = group_by (λ shape field of. scalar_set shape value (is_effect effect field) (of g))
    (λ shape field of. list_set shape value (is_effect effect field) (of g))

-- The field of a record, or of its own group, is set that a property names.
abbrev pub props_set : Option Field → Fit → Props → Props
props_set effect value p = props_by (λ shape field of. scalar_set shape value (is_effect effect field) (of p))
    (λ shape field of. list_set shape value (is_effect effect field) (of p))
    (group_set effect value p.base) p.groups (computed_of p)
