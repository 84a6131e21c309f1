use Rattle.std.proofs.Common.{◌≡◌, ◌++◌, map}
use Rattle.ninja_read.proofs.book.Book.take_defaults.Given as goal

-- the paths so far are there, and nothing else is changed
abbrev pub invariant-loop-path : goal.invariant-loop-path
invariant-loop-path l = record {
  put : l.self.defaults.items ≡ l.fn.self.defaults.items ++ map (λ path. (l.number, path)) l.yielded;
  rules : l.self.rules ≡ l.fn.self.rules;
  statements : l.self.statements ≡ l.fn.self.statements;
  last : l.self.last ≡ l.fn.self.last;
  names : l.self.names ≡ l.fn.self.names;
  keys : l.self.keys ≡ l.fn.self.keys;
}
