use Rattle.std.proofs.Common.{◌≡◌, ◌||◌, ◌==◌, ℕ, Bool, drop}
use Rattle.std.specs.List.{list_any}
use Rattle.ninja_write.proofs.escaped.has_one_of.Given as goal

-- what was found, or is found among the bytes that are left
abbrev pub invariant-loop-byte : goal.invariant-loop-byte
invariant-loop-byte l =
    let is_one : ℕ → Bool = λ byte. byte == l.first || byte == l.second || byte == l.third in
    (l.found || list_any is_one (drop l.byte-index l.bytes)) ≡ list_any is_one l.bytes
