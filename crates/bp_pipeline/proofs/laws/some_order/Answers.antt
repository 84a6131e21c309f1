use Rattle.bp_pipeline.proofs.laws.some_order.Goals as goal

pub returns : goal.returns
returns c = λ mods config order file few differ.
    let lines = c.some_lines.ensures order in
    let made = c.some_replay.ensures mods config lines.0 file few differ in
    (made.0, (lines.0, lines.1, made.1))
