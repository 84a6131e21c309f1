-- No public contract speaks of it: how a path is put together, part by part.
use Rattle.std.specs.Prelude.{ℕ, List, [], ◌∷◌, ◌++◌, if◌then◌else◌}
use Rattle.bp_faults.specs.Paths.{is_component}

-- A component is put behind a path, after a slash where there is a path.
abbrev pub behind : List ℕ → List ℕ → List ℕ
behind [] component = component
behind (c ∷ path) component = (c ∷ path) ++ 47 ∷ component

-- One more part of an item is put behind a path, where it is a component.
abbrev pub path_and : List ℕ → List ℕ → List ℕ
path_and path part = if is_component part then behind path part else path
