-- What follows from the definitions, as the layers above use it.
use Rattle.std.specs.Prelude.{◌≡◌, ◌++◌, ℕ, List, IsTrue}
use Rattle.bp_faults.specs.Paths.{is_normal}
use Rattle.property_values.specs.Paths.{components, path_below}

-- The path of an item is in normal form, and its components are those of the directory and then those of the item.
pub record StaysBelow (dir item : List ℕ) : Type 0 where
  pub normal : IsTrue (is_normal (path_below dir item))
  pub parts : components (path_below dir item) ≡ components dir ++ components item
