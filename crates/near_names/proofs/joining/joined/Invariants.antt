use Rattle.std.proofs.Common.{◌≡◌, ◌++◌, drop, string_bytes}
use Rattle.near_names.specs.Joined.{after_commas, comma_list}
use Rattle.near_names.proofs.joining.joined.Given as goal

-- what is there, and the names that are left, are the whole text
abbrev pub invariant-loop-name : goal.invariant-loop-name
invariant-loop-name l = string_bytes l.text ++ after_commas (drop l.name-index l.rest) ≡ comma_list l.names
