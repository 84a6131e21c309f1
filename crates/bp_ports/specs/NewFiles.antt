-- The new files that a write makes beside a real file, before it gives one of them its place.
use Rattle.std.specs.Prelude.{◌==◌, ℕ, List, ◌++◌, if◌then◌else◌, codes}

-- What the paths of the three new files end with, by their numbers from 0.
abbrev pub new_suffix : ℕ → List ℕ
new_suffix number =
    if number == 0 then codes ".bpgen-new" else if number == 1 then codes ".bpgen-new-2" else codes ".bpgen-new-3"

-- The path of a new file beside the one at this path.
abbrev pub new_path : List ℕ → ℕ → List ℕ
new_path path number = path ++ new_suffix number
