use Rattle.bp_lexer.proofs.OneMeaning.{list_or_fault}
use Rattle.bp_lexer.proofs.Outcome.{outcome}
use Rattle.bp_lexer.proofs.laws.list_or_fault.Goals as goal

pub returns-clause-either : goal.returns-clause-either
returns-clause-either c = outcome

pub returns-clause-never_both : goal.returns-clause-never_both
returns-clause-never_both c = list_or_fault
