-- How many mutators and passes there are.
use Rattle.std.specs.Prelude.{ℕ, ◌+◌, nat_lt, if◌then◌else◌}

-- How many mutators there are.
abbrev pub mutator_count : ℕ
mutator_count = 11

-- How many passes they have.
abbrev pub passes : ℕ
passes = 12

-- How many passes the first k mutators have: one each, but `sanitize`, the ninth, has two.
abbrev pub passes_of : ℕ → ℕ
passes_of k = if nat_lt k 9 then k else k + 1
