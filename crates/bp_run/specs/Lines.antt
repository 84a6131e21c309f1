-- The lines that the program writes, but for those of faults and for the usage line.
use Rattle.std.specs.Prelude.{ℕ, List, ◌++◌, codes}

-- A path can't be read.
abbrev pub read_line : List ℕ → List ℕ
read_line path = codes "bpgen: cannot read " ++ (path ++ codes "\n")

-- A path can't be written.
abbrev pub write_line : List ℕ → List ℕ
write_line path = codes "bpgen: cannot write " ++ (path ++ codes "\n")

-- The output can't be written.
abbrev pub output_line : List ℕ
output_line = write_line (codes "standard output")

-- Memory ran out.
abbrev pub memory_line : List ℕ
memory_line = codes "bpgen: out of memory\n"

-- What stands in the place of the list's path for a synthetic tree.
abbrev pub synth_name : List ℕ
synth_name = codes "synth"
