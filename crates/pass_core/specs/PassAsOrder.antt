-- Why a pass has no results, as a run along a list says it.
use Rattle.serial_pass.specs.declared.error.PassError.{PassError}
use Rattle.serial_pass.specs.declared.error.PassError.TheVariants.{At as PassAt, OutOfMemory as PassWant}
use Rattle.pass_core.specs.declared.order_error.OrderError.{OrderError}
use Rattle.pass_core.specs.declared.order_error.OrderError.TheVariants.{At, OutOfMemory}

-- The same cause.
abbrev pub as_order : PassError → OrderError
as_order (PassAt n fault) = At n fault
as_order PassWant = OutOfMemory
