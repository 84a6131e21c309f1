use Rattle.std.proofs.Common.{refl}
use Rattle.ninja_read.proofs.BookSteps.{binding_taken}
use Rattle.ninja_read.proofs.book.Book.take_binding.Goals as goal

pub returns : goal.returns
returns c =
    let old = c.args.self.now in
    binding_taken c.in_ok-taken.taken (record {
      rules = old.rules;
      statements = old.statements;
      defaults = old.defaults;
      last = c.bind.new.last;
      names = old.names;
      keys = c.bind.new.keys;
    }) old (c.in-Some.key.now, c.in-Some.written.now) c.args.text.now c.in-Some.ensures c.in_ok-taken.ensures
    (record { names = c.requires.names; keys = c.requires.keys }) refl refl refl refl
