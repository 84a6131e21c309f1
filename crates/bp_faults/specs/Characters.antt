-- Characters that are treated on their own, by their code points or their bytes.
use Rattle.std.specs.Prelude.{ℕ, Bool, List, ◌||◌, ◌==◌, ◌++◌, nat_lt, codes}

-- A control character is below U+0020, or is U+007F.
abbrev pub is_control : ℕ → Bool
is_control c = nat_lt c 32 || (c == 127)

-- No path holds a control character or `|`.
abbrev pub is_barred_in_paths : ℕ → Bool
is_barred_in_paths c = is_control c || (c == 124)

-- A line ends with LF.
abbrev pub ended_line : List ℕ → List ℕ
ended_line line = line ++ codes "\n"

-- The byte `$`, which begins each escape and each variable in text for Ninja.
abbrev pub dollar : ℕ
dollar = 36

-- The byte ` `, which stands between two paths.
abbrev pub space : ℕ
space = 32
