-- A module that is typed has a sound record and a name that a path may hold.
use Rattle.std.proofs.Common.{◌≡◌, ◌++◌, ◌||◌, ◌==◌, ℕ, Bool, true, false, cond, List, [], ◌∷◌, Option, Some, None}
use Rattle.std.proofs.Common.{Result, Ok, Err, refl}
use Rattle.std.specs.Prelude.{codes, IsTrue}
use Rattle.std.specs.List.{AllByRecursion, list_any}
use Rattle.std.specs.Map.{lookup}
use Rattle.std.specs.Str.{bytes_eq}
use Rattle.std.specs.Str.Parse.{digits_value}
use Rattle.std.proofs.lemmas.Bool.{or_parts}
use Rattle.bp_faults.specs.declared.fault.Fault.{Fault}
use Rattle.bp_faults.specs.declared.place.Item.{Item}
use Rattle.bp_faults.specs.declared.place.Place.{Place}
use Rattle.bp_faults.specs.Answers.{then_do}
use Rattle.bp_faults.specs.Characters.{is_control}
use Rattle.bp_faults.specs.Phases.{each_in_turn}
use Rattle.bp_faults.proofs.Lists.{all_each}
use Rattle.bp_props.specs.declared.fields.Field.{Field}
use Rattle.bp_props.specs.declared.fields.Field.TheVariants as F
use Rattle.bp_props.specs.declared.given.Given.{Given}
use Rattle.bp_props.specs.declared.fields.GroupProps.{GroupProps}
use Rattle.bp_props.specs.declared.group_id.GroupId.{GroupId}
use Rattle.bp_props.specs.declared.kind.ModuleKind.{ModuleKind}
use Rattle.bp_props.specs.declared.listed.Listed.{Listed}
use Rattle.bp_props.specs.declared.module.Module.{Module}
use Rattle.bp_props.specs.declared.props.Props.{Props}
use Rattle.bp_props.specs.declared.source.Source.{Source}
use Rattle.bp_props.specs.Fields as S
use Rattle.bp_props.specs.Groups.{group_empty}
use Rattle.bp_props.specs.Records.{props_empty}
use Rattle.bp_values.specs.Meaning.{Raw}
use Rattle.bp_values.specs.Values.{MapEntries, no_map_entry, map_entry_and, map_entries_then, MapEntry as Entry}
use Rattle.property_tables.specs.Meaning.{each_entry, property_in, inner_prefix, entry_set, groups_with_group}
use Rattle.property_tables.specs.Meaning.{group_typed, groups_entry, groups_typed}
use Rattle.property_tables.specs.Meaning.{inner_typed}
use Rattle.property_tables.specs.Meaning.{entry_typed, module_entry}
use Rattle.property_tables.specs.Meaning.{module_typed, typed_by, typed_module}
use Rattle.property_tables.specs.Meaning.{is_module_name, name_in}
use Rattle.property_tables.specs.Tables.{Property, table_of, group_table, sanitize_table, arch_table, multilib_table}
use Rattle.property_tables.specs.Tables.{target_table}
use Rattle.property_tables.specs.Meaning.{types, is_dropped}
use Rattle.property_values.specs.declared.row.PropKind.{PropKind}
use Rattle.property_values.specs.declared.row.PropKind.TheVariants as K
use Rattle.property_values.specs.declared.fit.Fit.{Fit}
use Rattle.property_values.specs.Fits.{truth_in, word_in, list_in, map_in, flag_in, dir_in, is_empty, path_in}
use Rattle.property_values.specs.Fits.{source_by, source_in, multi_in, is_number, in_levels, level_or, base_of}
use Rattle.property_values.specs.Fits.{listed_at, each_listed, fit_of}
use Rattle.property_values.specs.Paths.{is_refused, components, path_below}
use Rattle.property_values.specs.Fits.{group_set, props_set}
use Rattle.output_forms.specs.Forms.{is_writable, HasTexts, HaveTexts, HasSoundTexts}
use Rattle.output_forms.proofs.Bytes.{IsClear, none_of, bytes_shown, clear_shown, placed_clear, placed_path, item_clear}
use Rattle.output_forms.proofs.Each.{IfThere, IsShown, if_cond}
use Rattle.output_forms.proofs.Only.{IsWritable, Passes, list_passing, only_empty, only_set}
use Rattle.output_forms.proofs.Outs.{IfResult}
use Rattle.output_forms.proofs.Records.{empty_sound, put_texts}

-- one step after another
pub then_if : {A B : Type 0} (P : A → Type 0) (Q : B → Type 0) (r : Result A Fault) (next : A → Result B Fault)
    → IfResult P r → ((a : A) → P a → IfResult Q (next a)) → IfResult Q (then_do r next)
then_if P Q (Ok a) next h each = each a h
then_if P Q (Err fault) next h each = tt

pub then_any : {A B : Type 0} (Q : B → Type 0) (r : Result A Fault) (next : A → Result B Fault)
    → ((a : A) → IfResult Q (next a)) → IfResult Q (then_do r next)
then_any Q (Ok a) next each = each a
then_any Q (Err fault) next each = tt

each_if : {X Y : Type 0} (P : Y → Type 0) (step : X → Result Y Fault) → ((x : X) → IfResult P (step x)) → (xs : List X)
    → IfResult (AllByRecursion P) (each_in_turn step xs)
each_if P step each [] = tt
each_if P step each (x ∷ xs) =
    then_if P (AllByRecursion P) (step x) (λ y. then_do (each_in_turn step xs) (λ ys. Ok (y ∷ ys))) (each x)
    (λ y p. then_if (AllByRecursion P) (AllByRecursion P) (each_in_turn step xs) (λ ys. Ok (y ∷ ys))
    (each_if P step each xs) (λ ys all. (p, all)))

entries_if : {A : Type 0} (P : A → Type 0) (step : A → Entry → Result A Fault)
    → ((made : A) (entry : Entry) → P made → IfResult P (step made entry)) → (made : A) → P made
    → (entries : MapEntries)
    → IfResult P (each_entry step made entries)
entries_if P step each made h no_map_entry = h
entries_if P step each made h (map_entry_and name at value more) =
    then_if P P (step made (record { name = name; at = at; value = value })) (λ next. each_entry step next more)
    (each made (record { name = name; at = at; value = value }) h) (λ next p. entries_if P step each next p more)

-- Items of lists

unless : {A : Type 0} (Q : A → Type 0) (b : Bool) (fault : Fault) (value : A) → (b ≡ false → Q value)
    → IfResult Q (cond b (Err fault) (Ok value))
unless Q true fault value h = tt
unless Q false fault value h = h refl

when : {A : Type 0} (Q : A → Type 0) (b : Bool) (fault : Fault) (value : A) → (b ≡ true → Q value)
    → IfResult Q (cond b (Ok value) (Err fault))
when Q true fault value h = h refl
when Q false fault value h = tt

flag_shown : (path : List ℕ) (item : Item) → IfResult IsShown (flag_in path item)
flag_shown path item =
    unless IsShown (list_any is_control item.text) _ item.text
    (λ e. bytes_shown item.text (none_of is_control item.text e))

dir_shown : (base : List ℕ) → IsClear base → (item : Item) → IfResult IsShown (dir_in base item)
dir_shown base clear item =
    unless IsShown (is_refused item.text) _ (path_below base item.text)
    (λ e. clear_shown (path_below base item.text) (placed_clear base item.text clear (item_clear item.text e)))

path_writable : (dir : List ℕ) → IsClear dir → (item : Item) → IfResult IsWritable (path_in dir item)
path_writable dir clear item =
    unless IsWritable (is_refused item.text || is_empty (components item.text)) _ _
    (λ e. let s = or_parts (is_refused item.text) (is_empty (components item.text)) e in
    placed_path dir item.text clear (item_clear item.text s.0) s.1)

source_writable : (dir : List ℕ) → IsClear dir → (item : Item) → IfResult IsWritable (source_in dir item)
source_writable dir clear item = by item.text
  where
    by : (text : List ℕ) → IfResult IsWritable (source_by dir item text)
    by [] = path_writable dir clear item
    by (c ∷ name) =
        if_cond (IfResult IsWritable) (c == 58)
        (Ok (record { named = true; item = record { text = name; at = item.at } })) (path_in dir item)
        refl (path_writable dir clear item)

base_clear : (dir : List ℕ) (effect : Option Field) → IsClear dir → IsClear (base_of dir effect)
base_clear dir (Some F.IncludeDirs) h = tt
base_clear dir effect h = h

listed_if : {A : Type 0} (P : A → Type 0) (path : List ℕ) (entry : Entry) (step : Item → Result A Fault)
    → ((item : Item) → IfResult P (step item))
    → IfResult (λ (list : Listed A). AllByRecursion P list.items) (each_listed path entry step)
listed_if {A} P path entry step each =
    then_any (λ (list : Listed A). AllByRecursion P list.items) (list_in entry.at path entry.value) _
    (λ items. then_if (AllByRecursion P) (λ (list : Listed A). AllByRecursion P list.items) (each_in_turn step items) _
    (each_if P step each items) (λ made all. all))

-- What a value stands for can be written.
abbrev CanPass : Fit → Type 0
CanPass fit = Passes is_writable fit

multi_passes : (at : Place) (path word : List ℕ) → IfResult CanPass (multi_in at path word)
multi_passes at path word =
    if_cond (IfResult CanPass) (bytes_eq word (codes "both")) _ _ tt
    (if_cond (IfResult CanPass) (bytes_eq word (codes "first")) _ _ tt
    (if_cond (IfResult CanPass) (bytes_eq word (codes "32")) _ _ tt
    (if_cond (IfResult CanPass) (bytes_eq word (codes "64")) _ _ tt tt)))

level_passes : (at : Place) (path : List ℕ) (o : Option ℕ) → IfResult CanPass (level_or at path o)
level_passes at path None = tt
level_passes at path (Some n) = tt

fits_pass : (dir : List ℕ) (effect : Option Field) (path : List ℕ) (entry : Entry) (kind : PropKind) → IsClear dir
    → IfResult CanPass (fit_of dir effect path entry kind)
fits_pass dir effect path entry K.Bool clear = then_any CanPass (truth_in entry.at path entry.value) _ (λ b. tt)
fits_pass dir effect path entry K.Word clear = then_any CanPass (word_in entry.at path entry.value) _ (λ word. tt)
fits_pass dir effect path entry K.Words clear = then_any CanPass (list_in entry.at path entry.value) _ (λ items. tt)
fits_pass dir effect path entry K.Flags clear =
    then_if (λ (list : Listed (List ℕ)). AllByRecursion IsShown list.items) CanPass
    (each_listed path entry (flag_in path)) _ (listed_if IsShown path entry (flag_in path) (flag_shown path))
    (λ flags shown. list_passing (is_writable S.Flags) flags shown)
fits_pass dir effect path entry K.Names clear =
    then_any CanPass (list_in entry.at path entry.value) _
    (λ items. list_passing (is_writable S.Names) (listed_at entry.at items)
    (all_each (λ item. IsTrue (is_writable S.Names item)) (λ item. refl) items))
fits_pass dir effect path entry K.Paths clear =
    then_if (λ (list : Listed Source). AllByRecursion IsWritable list.items) CanPass
    (each_listed path entry (source_in dir)) _
    (listed_if IsWritable path entry (source_in dir) (source_writable dir clear))
    (λ sources writable. list_passing (is_writable S.Sources) sources writable)
fits_pass dir effect path entry K.Dirs clear =
    then_if (λ (list : Listed (List ℕ)). AllByRecursion IsShown list.items) CanPass
    (each_listed path entry (dir_in (base_of dir effect))) _
    (listed_if IsShown path entry (dir_in (base_of dir effect))
    (dir_shown (base_of dir effect) (base_clear dir effect clear)))
    (λ dirs shown. list_passing (is_writable S.Dirs) dirs shown)
fits_pass dir effect path entry K.Multi clear =
    then_any CanPass (word_in entry.at path entry.value) _ (λ word. multi_passes entry.at path word)
fits_pass dir effect path entry K.Level clear =
    then_any CanPass (word_in entry.at path entry.value) _
    (λ word. if_cond (IfResult CanPass) (is_number word) (level_or entry.at path (in_levels (digits_value 10 word))) _
    (level_passes entry.at path (in_levels (digits_value 10 word))) tt)
fits_pass dir effect path entry K.Group clear = then_any CanPass (map_in entry.at path entry.value) _ (λ entries. tt)

-- Entries

record_set : (effect : Option Field) (fit : Fit) (p : Props) → CanPass fit → HasSoundTexts p
    → HasSoundTexts (props_set effect fit p)
record_set effect fit p passes h = record {
  base = only_set is_writable effect fit p.base passes h.base;
  groups = h.groups;
  exports = h.exports;
  includes = h.includes;
}

put_left : (effect : Option Field) (g : GroupProps) (groups : List (GroupId × GroupProps)) → HasTexts g
    → HaveTexts groups → HaveTexts (groups_with_group effect g groups)
put_left (Some (F.Group id)) g groups h k = put_texts groups id g k h
put_left effect g groups h k = k

module _ (dir : List ℕ) (clear : IsClear dir) where
  entry_set_kept : {A : Type 0} (P : A → Type 0) (set : Option Field → Fit → A → A) (table : List Property)
      → ((effect : Option Field) (fit : Fit) (made : A) → CanPass fit → P made → P (set effect fit made))
      → (prefix : List ℕ) (made : A) (entry : Entry) → P made → IfResult P (entry_set set table dir prefix made entry)
  entry_set_kept P set table keeps prefix made entry h =
      then_any P (property_in table prefix entry) _
      (λ p. then_if CanPass P (fit_of dir p.effect (prefix ++ entry.name) entry p.kind) _
      (fits_pass dir p.effect (prefix ++ entry.name) entry p.kind clear)
      (λ fit passes. keeps p.effect fit made passes h))

  group_kept : (prefix : List ℕ) (entries : MapEntries) → IfResult HasTexts (group_typed dir prefix entries)
  group_kept prefix entries =
      entries_if HasTexts (entry_set group_set group_table dir prefix)
      (entry_set_kept HasTexts group_set group_table (only_set is_writable) prefix) group_empty
      (only_empty is_writable) entries

  groups_entry_kept : (prefix : List ℕ) (table : List Property) (groups : List (GroupId × GroupProps)) (entry : Entry)
      → HaveTexts groups → IfResult HaveTexts (groups_entry dir prefix table groups entry)
  groups_entry_kept prefix table groups entry h =
      then_any HaveTexts (property_in table prefix entry) _
      (λ p. then_any HaveTexts (map_in entry.at (prefix ++ entry.name) entry.value) _
      (λ entries. then_if HasTexts HaveTexts (group_typed dir (inner_prefix prefix entry.name) entries) _
      (group_kept (inner_prefix prefix entry.name) entries)
      (λ g texts. put_left p.effect g groups texts h)))

  groups_kept : (prefix : List ℕ) (table : List Property) (props : Props) (entries : MapEntries) → HasSoundTexts props
      → IfResult HasSoundTexts (groups_typed dir prefix table props entries)
  groups_kept prefix table props entries h =
      then_if HaveTexts HasSoundTexts (each_entry (groups_entry dir prefix table) props.groups entries) _
      (entries_if HaveTexts (groups_entry dir prefix table) (groups_entry_kept prefix table) props.groups h.groups
      entries)
      (λ groups texts. record { base = h.base; groups = texts; exports = h.exports; includes = h.includes })

  inner_kept : (prefix : List ℕ) (effect : Option Field) (props : Props) (entries : MapEntries) → HasSoundTexts props
      → IfResult HasSoundTexts (inner_typed dir prefix effect props entries)
  inner_kept prefix (Some F.Sanitize) props entries h =
      entries_if HasSoundTexts (entry_set props_set sanitize_table dir prefix)
      (entry_set_kept HasSoundTexts props_set sanitize_table record_set prefix) props h entries
  inner_kept prefix (Some F.Arch) props entries h = groups_kept prefix arch_table props entries h
  inner_kept prefix (Some F.Multilib) props entries h = groups_kept prefix multilib_table props entries h
  inner_kept prefix (Some F.Target) props entries h = groups_kept prefix target_table props entries h
  inner_kept prefix (Some (F.Group id)) props entries h =
      then_if HasTexts HasSoundTexts (group_typed dir prefix entries) _ (group_kept prefix entries)
      (λ g texts. record {
        base = h.base;
        groups = put_texts props.groups id g h.groups texts;
        exports = h.exports;
        includes = h.includes;
      })
  inner_kept prefix effect props entries h = h

  entry_kept : (effect : Option Field) (props : Props) (entry : Entry) (kind : PropKind) → HasSoundTexts props
      → IfResult HasSoundTexts (entry_typed dir effect props entry kind)
  entry_kept effect props entry K.Group h =
      then_any HasSoundTexts (map_in entry.at entry.name entry.value) _
      (λ entries. inner_kept (inner_prefix [] entry.name) effect props entries h)
  entry_kept effect props entry kind h =
      then_if CanPass HasSoundTexts (fit_of dir effect entry.name entry kind) _
      (fits_pass dir effect entry.name entry kind clear) (λ fit passes. record_set effect fit props passes h)

  module_entry_kept : (kind : ModuleKind) (props : Props) (entry : Entry) → HasSoundTexts props
      → IfResult HasSoundTexts (module_entry dir kind props entry)
  module_entry_kept kind props entry h =
      then_any HasSoundTexts (property_in (table_of kind) [] entry) _ (λ p. entry_kept p.effect props entry p.kind h)

name_kept : (raw : Raw) (o : Option (Given (List ℕ))) → IfResult (λ name. is_module_name name ≡ true) (name_in raw o)
name_kept raw None = tt
name_kept raw (Some name) =
    when (λ name. is_module_name name ≡ true) (is_module_name name.value) _ name.value (λ e. e)

-- A module has a sound record and a sound name.
abbrev pub IsTyped : Module → Type 0
IsTyped m = HasSoundTexts m.props × (is_module_name m.name ≡ true)

module_kept : (raw : Raw) (dir : List ℕ) → IsClear dir → (kind : ModuleKind)
    → IfResult (IfThere IsTyped) (module_typed raw dir kind)
module_kept raw dir clear kind =
    then_if HasSoundTexts (IfThere IsTyped)
    (each_entry (module_entry dir kind) props_empty (map_entries_then raw.entries no_map_entry)) _
    (entries_if HasSoundTexts (module_entry dir kind) (module_entry_kept dir clear kind) props_empty empty_sound
    (map_entries_then raw.entries no_map_entry))
    (λ props sound. then_if (λ name. is_module_name name ≡ true) (IfThere IsTyped) (name_in raw props.name) _
    (name_kept raw props.name) (λ name named. (sound, named)))

-- what a raw module in a directory is typed as
pub typed_kept : (raw : Raw) (dir : List ℕ) → IsClear dir → IfResult (IfThere IsTyped) (typed_module raw dir)
typed_kept raw dir clear =
    if_cond (IfResult (IfThere IsTyped)) (is_dropped raw.kind) (Ok None)
    (typed_by raw dir (lookup (bytes_eq raw.kind) types)) tt (by (lookup (bytes_eq raw.kind) types))
  where
    by : (o : Option ModuleKind) → IfResult (IfThere IsTyped) (typed_by raw dir o)
    by None = tt
    by (Some kind) = module_kept raw dir clear kind
