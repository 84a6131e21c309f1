-- The shape of what `info` answers, as the ghost item `shaped` of its implementation wants it.
use Rattle.std.specs.Prelude.{Bool, true, false, List, [], None, Ok, Err, if◌then◌else◌}
use Rattle.std.proofs.Common.{refl}
use Rattle.bp_faults.specs.declared.fault.Fault.{Fault}
use Rattle.bp_props.specs.declared.module.Module.{Module}
use Rattle.bp_props.specs.declared.props.Props.{Props}
use Rattle.module_rules.specs.Results.{one_variant}
use Rattle.module_rules.specs.Shaped.{AnswerHasShape, shaped_at}
use Rattle.mutator_rules.specs.Shapes.{AreShaped}
use Rattle.info_mutators.specs.Dependencies.{dependencies_of}
use Rattle.info_mutators.specs.Info.{info_over, info_meant, too_long, with_lists, has_short_lists}

-- A record or a fault: the record is one variant.
pub either_shaped : (is_made : Bool) (props : Props) (fault : Fault)
    → AnswerHasShape None (if is_made then Ok (one_variant props []) else Err fault)
either_shaped true props fault = refl
either_shaped false props fault = tt

-- The rule doesn't split.
pub info_shaped : (mods : List Module) → AreShaped None (info_meant mods)
info_shaped mods nodes = shaped_at None (λ m x ins. info_over m x (dependencies_of mods nodes x.edges ins)) refl
    (λ m x ins. let ds = dependencies_of mods nodes x.edges ins in
    either_shaped (has_short_lists x.payload ds) (with_lists x.payload ds) (too_long m x.vars))
    mods nodes
