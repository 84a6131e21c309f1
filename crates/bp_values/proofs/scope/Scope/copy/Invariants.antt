use Rattle.std.proofs.Common.{◌≡◌, take, drop}
use Rattle.std.specs.List.{IsDistinct}
use Rattle.std.specs.Map.{keys_of}
use Rattle.std.specs.Str.{bytes_eq}
use Rattle.bp_values.specs.Scopes.{pairs_of, count_of}
use Rattle.bp_values.proofs.scope.Scope.copy.Given as goal

abbrev pub invariant-loop-name : goal.invariant-loop-name
invariant-loop-name l = record {
  apart : IsDistinct bytes_eq (keys_of l.self.values.entries);
  left : drop (count_of l.copy) l.self.values.entries ≡ l.name-iterator;
  copied : pairs_of l.copy ≡ take (count_of l.copy) (pairs_of l.self);
}
