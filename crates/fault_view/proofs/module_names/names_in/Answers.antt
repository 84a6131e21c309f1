use Rattle.std.proofs.Common.{arith, ap, ◌∙◌}
use Rattle.std.proofs.lemmas.List.{take_rest}
use Rattle.fault_view.specs.ModuleNames.{first_name}
use Rattle.fault_view.proofs.Names.{next_put}
use Rattle.fault_view.proofs.module_names.names_in.Goals as goal

pub loop-at-preserved : goal.loop-at-preserved
loop-at-preserved c =
    next_put c.args.text.now c.args.tokens.now c.loop-at.at c.loop-at.names.items c.push_name.new.names.items _
    c.in_ok-name.name (omega arith)
    (c.in_ok-name.ensures ∙ ap (first_name c.args.text.now) (take_rest c.args.tokens.now c.loop-at.at))
    c.in_ok-push_name.ensures c.loop-at.invariant
