use Rattle.std.proofs.Common.{[], ◌∷◌, ◌++◌, map, ap, sym, ◌∙◌, append-nil}
use Rattle.std.specs.Arc.{arc_value}
use Rattle.std.specs.List.{cons_option, flat_map}
use Rattle.std.proofs.lemmas.Grind.{flat_map-append}
use Rattle.std.proofs.lemmas.List.{map-append}
use Rattle.std.proofs.lemmas.List.Elements.{filter_map-append}
use Rattle.build_actions.specs.declared.actions.Actions.{Actions}
use Rattle.build_actions.specs.File.{outputs_of}
use Rattle.build_actions.proofs.file.join_all.Goals as goal

pub loop-node-preserved : goal.loop-node-preserved
loop-node-preserved c =
    let more = map-append arc_value c.loop-node.yielded (c.in-Some.node ∷ []) in
    let before = flat_map (λ (node : Actions). node.statements) (map arc_value c.loop-node.yielded) in
    record {
      statements =
          c.in_ok-append.ensures
          ∙ (λ k. c.loop-node.invariant.statements k ++ c.in_ok-more.ensures.statements k)
          ∙ ap (λ l. before ++ l) (sym (append-nil (arc_value c.in-Some.node).statements))
          ∙ sym
          (ap (flat_map (λ (node : Actions). node.statements)) more
          ∙ flat_map-append (λ (node : Actions). node.statements) (map arc_value c.loop-node.yielded)
          (arc_value c.in-Some.node ∷ []));
      outputs =
          c.in_ok-push_some.ensures
          ∙ (λ k. c.loop-node.invariant.outputs k ++ cons_option (c.in_ok-more.ensures.output k) [])
          ∙ sym
          (ap outputs_of more
          ∙ filter_map-append (λ (node : Actions). node.output) (map arc_value c.loop-node.yielded)
          (arc_value c.in-Some.node ∷ []));
    }
