use Rattle.bp_ports.proofs.WrittenLemmas.{written-push, total-push, texts-push}
use Rattle.bp_ports.proofs.writes.Writes.add.Goals as goal

pub invariant_of-self-clause-whole : goal.invariant_of-self-clause-whole
invariant_of-self-clause-whole c =
    rw (c.append.ensures.spans, c.append.ensures.run) (total-push _ _ _ _ c.args.self.now.whole)

pub returns-clause-written : goal.returns-clause-written
returns-clause-written c =
    λ files. rw (c.append.ensures.spans, c.append.ensures.run) (written-push _ _ _ _ _ c.args.self.now.whole)

pub invariant_of-self-clause-texts : goal.invariant_of-self-clause-texts
invariant_of-self-clause-texts c =
    rw (c.append.ensures.spans, c.append.ensures.run)
    (texts-push _ _ _ _ c.args.self.now.whole c.requires.text c.args.self.now.texts)
