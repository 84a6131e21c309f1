-- The laws of typing.
use Rattle.std.proofs.Common.{◌≡◌, ℕ, Bool, true, false, cond, List, [], ◌∷◌, Option, Some, None, Result, Ok, Err}
use Rattle.std.proofs.Common.{refl, ap, sym, true≢false, ◌||◌}
use Rattle.std.specs.Map.{lookup}
use Rattle.std.specs.Str.{bytes_eq}
use Rattle.bp_faults.specs.declared.fault.Fault.{Fault}
use Rattle.bp_faults.specs.Answers.{then_do}
use Rattle.bp_props.specs.declared.kind.ModuleKind.{ModuleKind}
use Rattle.bp_values.specs.Meaning.{Raw}
use Rattle.property_tables.specs.Meaning.{typed_by}
use Rattle.property_tables.specs.Meaning.{is_dropped, types}
use Rattle.property_tables.specs.Meaning.{name_in}
use Rattle.std.proofs.lemmas.Slice.Eq.{bytes_eq-Decides}
use Rattle.std.specs.Prelude.{codes}
use Rattle.bp_values.specs.Values.{map_entries_then, no_map_entry}
use Rattle.bp_props.specs.Records.{props_empty}
use Rattle.property_tables.specs.Meaning.{each_entry, module_entry}
use Rattle.std.specs.Prelude.{not}
use Rattle.std.specs.Option.{IfSome}
use Rattle.std.specs.List.{AllByRecursion, list_all}
use Rattle.std.proofs.lemmas.Bool.{and_parts}
use Rattle.bp_props.specs.declared.kind.ModuleKind.TheVariants.{Binary, Library, LibraryStatic, LibraryShared}
use Rattle.bp_props.specs.declared.kind.ModuleKind.TheVariants.{LibraryHeaders, Test, Defaults, Filegroup}
use Rattle.bp_props.specs.declared.fields.Field.{Field}
use Rattle.bp_props.specs.Kinds.{has_field}
use Rattle.property_tables.specs.Tables.{Offered, has_kind, properties}
use Rattle.property_tables.specs.Laws.{TablesHaveFields, DropsExactly, EntriesComeFirst}

-- the tables and the fields of the kinds, tested over the whole list

same : Bool → Bool → Bool
same true b = b
same false b = not b

equal_of_same : (a b : Bool) → same a b ≡ true → a ≡ b
unfolding same
equal_of_same true b is = sym is
equal_of_same false true is = absurd (true≢false (sym is))
equal_of_same false false is = refl

agrees : ModuleKind → Option Field → Bool → Bool
agrees kind (Some field) has = same has (has_field kind field)
agrees kind None has = true

agrees_at : (kind : ModuleKind) (effect : Option Field) (has : Bool) → agrees kind effect has ≡ true
    → IfSome effect (λ field. has ≡ has_field kind field)
unfolding agrees
agrees_at kind (Some field) has is = equal_of_same has (has_field kind field) is
agrees_at kind None has is = tt

all_agree : (kind : ModuleKind) (os : List Offered)
    → list_all (λ o. agrees kind o.property.effect (has_kind o.kinds kind)) os ≡ true
    → AllByRecursion (λ o. IfSome o.property.effect (λ field. has_kind o.kinds kind ≡ has_field kind field)) os
all_agree kind [] is = tt
all_agree kind (o ∷ os) is =
    let both = and_parts (agrees kind o.property.effect (has_kind o.kinds kind))
    (list_all (λ o. agrees kind o.property.effect (has_kind o.kinds kind)) os) is in
    (agrees_at kind o.property.effect (has_kind o.kinds kind) both.0, all_agree kind os both.1)

tested : (kind : ModuleKind) → list_all (λ o. agrees kind o.property.effect (has_kind o.kinds kind)) properties ≡ true
unfolding agrees same
tested Binary = refl
tested Library = refl
tested LibraryStatic = refl
tested LibraryShared = refl
tested LibraryHeaders = refl
tested Test = refl
tested Defaults = refl
tested Filegroup = refl

pub tables_have_fields : TablesHaveFields
tables_have_fields kind = all_agree kind properties (tested kind)

-- what ends in a module ends in no drop
never_none : {A B C : Type 0} (r : Result A Fault) (next : A → Result B Fault) (made : A → B → C)
    → then_do r (λ a. then_do (next a) (λ b. Ok (Some (made a b)))) ≡ Ok None → ⊥
never_none (Err fault) next made is = cc
never_none {A} {B} {C} (Ok a) next made is = by (next a) is
  where
    by : (r : Result B Fault) → then_do r (λ b. Ok (Some (made a b))) ≡ Ok None → ⊥
    by (Err fault) is = cc
    by (Ok b) is = cc

kept : (raw : Raw) (dir : List ℕ) (kind : Option ModuleKind) → typed_by raw dir kind ≡ Ok None → ⊥
kept raw dir None is = cc
kept raw dir (Some kind) is =
    never_none (each_entry (module_entry dir kind) props_empty (map_entries_then raw.entries no_map_entry))
    (λ props. name_in raw props.name)
    (λ props name. record { name = name; kind = kind; dir = dir; at = raw.at; props = props }) is

pub drops_exactly : DropsExactly
drops_exactly raw dir = (by (is_dropped raw.kind), λ dropped. rw dropped refl)
  where
    by : (dropped : Bool)
        → cond dropped (Ok None) (typed_by raw dir (lookup (bytes_eq raw.kind) types)) ≡ Ok None → dropped ≡ true
    by true is = refl
    by false is = absurd (kept raw dir (lookup (bytes_eq raw.kind) types) is)

has_no_kind : (name : List ℕ) (kind : ModuleKind) → lookup (bytes_eq name) types ≡ Some kind → is_dropped name ≡ false
has_no_kind name kind has = by (bytes_eq name (codes "package")) (bytes_eq name (codes "license"))
    (bytes_eq-Decides name (codes "package")).0 (bytes_eq-Decides name (codes "license")).0
  where
    by : (a b : Bool) → (a ≡ true → name ≡ codes "package") → (b ≡ true → name ≡ codes "license") → (a || b) ≡ false
    by true b is other = absurd (let none = rw (is refl) at has in cc)
    by false true is other = absurd (let none = rw (other refl) at has in cc)
    by false false is other = refl

pub entries_come_first : EntriesComeFirst
entries_come_first raw dir kind fault has first =
    rw (has_no_kind raw.kind kind has, has)
    (ap (λ r. then_do r
    (λ props. then_do (name_in raw props.name)
    (λ name. Ok (Some (record { name = name; kind = kind; dir = dir; at = raw.at; props = props }))))) first)
