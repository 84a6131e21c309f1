use Rattle.std.proofs.Common.{◌∙◌, ap, sym, take, List}
use Rattle.std.proofs.lemmas.List.{take-map}
use Rattle.bp_faults.specs.declared.ids.NodeId.{NodeId}
use Rattle.serial_pass.specs.Orders.{numbers}
use Rattle.info_mutators.proofs.notes.Notes.shared_tail.Goals as goal

pub returns-clause-same : goal.returns-clause-same
returns-clause-same c =
    c.matching_tail.ensures.same
    ∙ ap (λ (ns : List NodeId). numbers (take c.matching_tail.result ns)) c.deref.ensures.value
    ∙ sym (take-map (λ (n : NodeId). n.0) c.matching_tail.result c.self.inside.nodes.items)
    ∙ ap (take c.matching_tail.result) c.self.view_is
