-- Groups that have only items which pass a test: what is made of them has no others.
use Rattle.std.proofs.Common.{◌≡◌, ◌∙◌, ◌++◌, Bool, true, false, List, [], ◌∷◌, Option, refl, ap, subst}
use Rattle.std.specs.Prelude.{IsTrue, ⊤}
use Rattle.std.specs.List.{AllByRecursion, filter}
use Rattle.std.proofs.lemmas.List.Elements.{filter-append, filter_passes, recursion_from_All}
use Rattle.bp_faults.proofs.Lists.{all_append}
use Rattle.bp_props.specs.Fields as S
use Rattle.bp_props.specs.Fields.{Shape, Held, Items, group_by}
use Rattle.bp_props.specs.Groups.{group_empty, group_merged, group_restricted, group_filtered, HasOnly}
use Rattle.bp_props.specs.Kinds.{has_field}
use Rattle.bp_props.specs.Meaning.{first_set, scalar_merged, list_merged, with_items, kept_scalar, kept_list}
use Rattle.bp_props.specs.declared.fields.Field.{Field}
use Rattle.bp_props.specs.declared.fields.GroupProps.{GroupProps}
use Rattle.bp_props.specs.declared.kind.ModuleKind.{ModuleKind}
use Rattle.bp_props.specs.declared.listed.Listed.{Listed}
use Rattle.bp_props.specs.declared.source.Source.{Source}
use Rattle.property_values.specs.Fits.{is_effect, scalar_set, list_set, group_set}
use Rattle.property_values.specs.declared.fit.Fit.TheVariants as V
use Rattle.property_values.specs.declared.fit.Fit.{Fit}
use Rattle.output_forms.specs.Forms.{is_writable}

-- A source that is a path can be a path of Ninja.
abbrev pub IsWritable : Source → Type 0
IsWritable s = IsTrue (is_writable S.Sources s)

-- lists of which nothing is left out
pub all_passing : {X : Type 0} (test : X → Bool) (xs : List X) → AllByRecursion (λ x. IsTrue (test x)) (filter test xs)
all_passing test xs =
    recursion_from_All (λ x. test x ≡ true) (filter test xs) (filter_passes test xs)

pub all_pass : {X : Type 0} (test : X → Bool) (xs : List X) → filter test xs ≡ xs
    → AllByRecursion (λ x. IsTrue (test x)) xs
all_pass test xs is =
    subst (AllByRecursion (λ x. IsTrue (test x))) is (all_passing test xs)

pub all_kept : {X : Type 0} (test : X → Bool) (xs : List X) → AllByRecursion (λ x. IsTrue (test x)) xs
    → filter test xs ≡ xs
all_kept test [] h = refl
all_kept test (x ∷ xs) h = rw (h.0) (ap (λ rest. x ∷ rest) (all_kept test xs h.1))

-- A list of the items that pass.
abbrev pub passing : {X : Type 0} → (X → Bool) → Listed X → Listed X
passing test list = with_items (filter test list.items) list

pub list_passing : {X : Type 0} (test : X → Bool) (list : Listed X)
    → AllByRecursion (λ x. IsTrue (test x)) list.items → passing test list ≡ list
list_passing test list h = ap (λ items. with_items items list) (all_kept test list.items h)

-- more items that pass
pub added_passing : {X : Type 0} (test : X → Bool) (list : Listed X) (more : List X) → passing test list ≡ list
    → AllByRecursion (λ x. IsTrue (test x)) more
    → passing test (with_items (list.items ++ more) list) ≡ with_items (list.items ++ more) list
added_passing test list more h k =
    list_passing test (with_items (list.items ++ more) list)
    (all_append (λ x. IsTrue (test x)) list.items more (all_pass test list.items (ap (λ l. l.items) h)) k)

merged_passing : {X : Type 0} (test : X → Bool) (a b : Listed X)
    → passing test (list_merged a b) ≡ list_merged (passing test a) (passing test b)
merged_passing test a b = λ i. record {
  items = filter-append test a.items b.items i;
  at = first_set a.at b.at;
}

restricted_passing : {X : Type 0} (test : X → Bool) (keeps : Bool) (list : Listed X)
    → passing test (kept_list keeps list) ≡ kept_list keeps (passing test list)
restricted_passing test true list = refl
restricted_passing test false list = refl

module _ (test : (shape : Shape) → Held shape → Bool) where
  pub only_empty : HasOnly test group_empty
  only_empty = refl

  pub only_merged : (w : _) (a b : GroupProps) → HasOnly test a → HasOnly test b
      → HasOnly test (group_merged w a b)
  only_merged w a b h k =
      let parts : group_filtered test (group_merged w a b)
      ≡ group_merged w (group_filtered test a) (group_filtered test b) = (λ i.
      group_by (λ shape field of. scalar_merged w (of a) (of b))
      (λ shape field of. merged_passing (test shape) (of a) (of b) i)) in
      parts ∙ (λ i. group_merged w (h i) (k i))

  pub only_restricted : (kind : ModuleKind) (g : GroupProps) → HasOnly test g
      → HasOnly test (group_restricted kind g)
  only_restricted kind g h =
      let parts : group_filtered test (group_restricted kind g)
      ≡ group_restricted kind (group_filtered test g) = (λ i.
      group_by (λ shape field of. kept_scalar (has_field kind field) (of g))
      (λ shape field of. restricted_passing (test shape) (has_field kind field) (of g) i)) in
      parts ∙ ap (group_restricted kind) h

  -- The items of what a value stands for pass the test.
  abbrev pub Passes : Fit → Type 0
  Passes (V.Flags flags) = passing (test S.Flags) flags ≡ flags
  Passes (V.Dirs dirs) = passing (test S.Dirs) dirs ≡ dirs
  Passes (V.Names names) = passing (test S.Names) names ≡ names
  Passes (V.Sources sources) = passing (test S.Sources) sources ≡ sources
  Passes other = ⊤

  set_passing : (shape : Shape) (fit : Fit) (is_meant : Bool) (list : Items shape) → Passes fit
      → passing (test shape) (list_set shape fit is_meant list)
      ≡ list_set shape fit is_meant (passing (test shape) list)
  set_passing S.Flags (V.Flags flags) true list h = h
  set_passing S.Dirs (V.Dirs dirs) true list h = h
  set_passing S.Names (V.Names names) true list h = h
  set_passing S.Sources (V.Sources sources) true list h = h
  set_passing shape fit is_meant list h = refl

  pub only_set : (effect : Option Field) (fit : Fit) (g : GroupProps) → Passes fit → HasOnly test g
      → HasOnly test (group_set effect fit g)
  only_set effect fit g passes h =
      let parts : group_filtered test (group_set effect fit g) ≡ group_set effect fit (group_filtered test g) = (λ i.
      group_by (λ shape field of. scalar_set shape fit (is_effect effect field) (of g))
      (λ shape field of. set_passing shape fit (is_effect effect field) (of g) passes i)) in
      parts ∙ ap (group_set effect fit) h
