use Rattle.std.proofs.Common.{sym, subst}
use Rattle.bp_names.specs.Meaning.{LearnsNumber}
use Rattle.name_index.proofs.Found.{name_behind}
use Rattle.name_index.proofs.index.NameIndex.learn.Goals as goal

pub returns-in_ok-add-clause-known : goal.returns-in_ok-add-clause-known
returns-in_ok-add-clause-known c =
    subst (LearnsNumber c.args.self.now c.args.name.now c.args.number) (sym c.in_ok-add.ensures.added)
    (name_behind c.args.self.now c.args.name.now c.args.number)
