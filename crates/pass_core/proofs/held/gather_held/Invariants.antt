use Rattle.std.proofs.Common.{◌≡◌, map, take, Some}
use Rattle.std.specs.Arc.{arc_value}
use Rattle.pass_core.specs.CoreKept.{shown_in}
use Rattle.pass_core.specs.CoreStates.{result_in}
use Rattle.serial_pass.specs.Results.{all_outs}
use Rattle.pass_core.proofs.held.gather_held.Given as goal

abbrev pub invariant-loop-result : goal.invariant-loop-result
invariant-loop-result g l =
    all_outs (map (λ h. result_in (Some (shown_in h))) (take l.result-index l.held)) ≡ Some (map arc_value l.ins.items)
