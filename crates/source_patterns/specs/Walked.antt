-- Which directories are walked for a pattern before which nothing has a fault.
use Rattle.std.specs.Prelude.{◌⊎◌, ℕ, ◌<◌, List, [], ◌∷◌, length, take, Result, Ok}
use Rattle.std.specs.List.{HoldsAt}
use Rattle.bp_faults.specs.declared.fault.Fault.{Fault}
use Rattle.bp_faults.specs.Phases.{Each}
use Rattle.bp_props.specs.declared.fields.GroupProps.{GroupProps}
use Rattle.bp_props.specs.declared.module.Module.{Module}
use Rattle.bp_props.specs.declared.props.Props.{Props}
use Rattle.bp_props.specs.declared.source.Source.{Source}
use Rattle.source_patterns.specs.Patterns.{WalksFor}
use Rattle.source_patterns.specs.Items.{ItemMeans}
use Rattle.source_patterns.specs.Expansion.{GroupMeans, KeyedGroupMeans, ModuleMeans}

-- It is walked for a source, or for one behind that has no fault.
abbrev pub ItemsWalk : List (List ℕ) → List ℕ → List Source → List Source → List ℕ → Type 0
ItemsWalk held dir items [] walked = ⊥
ItemsWalk held dir items (source ∷ sources) walked =
    WalksFor dir source walked
    ⊎ ((more : List Source) × ItemMeans held dir items (length sources) source (Ok more)
    × ItemsWalk held dir more sources walked)

-- It is walked for a source of a group.
abbrev pub GroupWalks : List (List ℕ) → List ℕ → GroupProps → List ℕ → Type 0
GroupWalks held dir group walked = ItemsWalk held dir [] group.srcs.items walked

-- It is walked for an element of a list, and each element before it means a value.
pub record WalksIn {A B : Type 0} (Means : A → Result B Fault → Type 0) (Walks : A → List ℕ → Type 0) (xs : List A)
    (walked : List ℕ) : Type 0 where
  pub at : ℕ
  pub inside : at < length xs
  pub before : List B
  pub each : Each (λ n. Means) 0 (take at xs) before
  pub here : HoldsAt (λ x. Walks x walked) xs at

-- It is walked for a source of a record.
abbrev pub PropsWalk : List (List ℕ) → List ℕ → Props → List ℕ → Type 0
PropsWalk held dir props walked =
    GroupWalks held dir props.base walked
    ⊎ ((base : GroupProps) × GroupMeans held dir props.base (Ok base)
    × WalksIn (KeyedGroupMeans held dir) (λ e. GroupWalks held dir e.1) props.groups walked)

-- It is walked for a source of a module.
abbrev pub ModuleWalks : List (List ℕ) → Module → List ℕ → Type 0
ModuleWalks held m walked = PropsWalk held m.dir m.props walked

-- It is walked for a source of some modules.
abbrev pub ExpandWalks : List (List ℕ) → List Module → List ℕ → Type 0
ExpandWalks held = WalksIn (ModuleMeans held) (ModuleWalks held)
