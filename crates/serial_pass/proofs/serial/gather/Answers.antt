use Rattle.std.proofs.Common.{◌∙◌, ap, map, Some, [], ◌∷◌, ◌++◌, sym}
use Rattle.std.proofs.lemmas.List.{map-append}
use Rattle.std.specs.Arc.{arc_value}
use Rattle.serial_pass.specs.Made.{made_at, value_of}
use Rattle.serial_pass.proofs.Gathered.{gathers_more, gathers_none, made_read}
use Rattle.serial_pass.proofs.serial.gather.Goals as goal

pub returns-in-None : goal.returns-in-None
returns-in-None g c =
    sym (gathers_none (made_at c.args.made.now) c.args.edges.now c.loop-edge.edge-index _ c.loop-edge-test.true
    (made_read c.args.made.now c.args.edges.now c.loop-edge.edge-index _ c.index-made-edge.result c.requires
    c.loop-edge-test.true c.index-made-edge.is
    ∙ ap value_of (ap Some c.in-None.is)))

pub loop-edge-preserved : goal.loop-edge-preserved
loop-edge-preserved g c =
    let now = gathers_more (made_at c.args.made.now) c.args.edges.now c.loop-edge.edge-index _ c.loop-edge-test.true
    (map arc_value c.loop-edge.ins.items) (arc_value c.in-Some.out)
    (made_read c.args.made.now c.args.edges.now c.loop-edge.edge-index _ c.index-made-edge.result c.requires
    c.loop-edge-test.true c.index-made-edge.is ∙ ap value_of (ap Some c.in-Some.is)) c.loop-edge.invariant in
    now ∙ sym (ap (λ l. Some (map arc_value l)) c.in_ok-push-in-Some.ensures.items
    ∙ ap Some (map-append arc_value c.loop-edge.ins.items (c.in_ok-try_clone-in-Some.field-0 ∷ []))
    ∙ ap (λ o. Some (map arc_value c.loop-edge.ins.items ++ o ∷ [])) c.in_ok-try_clone-in-Some.ensures)
