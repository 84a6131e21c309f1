use Rattle.serial_pass.proofs.Unique.{bad_at_first}
use Rattle.serial_pass.proofs.laws.first_undone_is_bad.Goals as goal

pub returns : goal.returns
returns g c = λ mean plan n is free first. bad_at_first mean plan is.ends free n first
