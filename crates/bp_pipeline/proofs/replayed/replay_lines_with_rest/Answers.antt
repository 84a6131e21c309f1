use Rattle.std.proofs.Common.{◌≡◌, ◌∙◌, List, ℕ, Ok, Err, Vec, ap, arith, length, map, sym}
use Rattle.std.specs.Arc.{arc_value}
use Rattle.std.specs.Global.{Global}
use Rattle.bp_faults.specs.declared.refusal.Refusal.TheVariants.{Bad}
use Rattle.bp_faults.proofs.Refusals.{refused}
use Rattle.bp_pipeline.specs.declared.replayed.Replayed.{Replayed}
use Rattle.bp_pipeline.specs.Generated.{text_within_limit}
use Rattle.bp_pipeline.specs.Replays.{ReplayMeans}
use Rattle.bp_pipeline.proofs.Replaying.{replay_behind, replay_refused, replay_told}
use Rattle.bp_pipeline.proofs.replayed.replay_lines_with_rest.Goals as goal

pub returns-in_err-ran : goal.returns-in_err-ran
returns-in_err-ran g c =
    replay_refused {T = Replayed} (λ replayed. replayed.ninja) c.args.mods.now c.args.c.now
    (record { lines = c.args.lines; file = c.args.file }) _ c.in_err-ran.field-0.0 c.from_residual.result
    c.from_residual.ensures.1 c.in_err-ran.ensures.run

pub returns-in_err-check_end : goal.returns-in_err-check_end
returns-in_err-check_end g c =
    let ran = c.in_ok-ran.ran in
    let many : c.len.result ≡ length ran.journal.items = omega (arith, c.len.ensures) in
    replay_behind {T = Replayed} (λ replayed. replayed.ninja) c.args.mods.now c.args.c.now
    (record { lines = c.args.lines; file = c.args.file }) ran.journal.items (map arc_value ran.made.items)
    c.in_ok-ran.ensures.run c.len.result many c.in_err-check_end.field-0.0
    c.from_residual-in_err-check_end.result c.from_residual-in_err-check_end.ensures.1 c.in_err-check_end.ensures

pub returns-in_err-text : goal.returns-in_err-text
returns-in_err-text g c =
    let ran = c.in_ok-ran.ran in
    let many : c.len.result ≡ length ran.journal.items = omega (arith, c.len.ensures) in
    refused {T = Vec ℕ Global} {U = Replayed} (λ text. text.items) (λ replayed. replayed.ninja)
    (λ outcome. text_within_limit c.in_ok-ninja.ninja ≡ outcome)
    (ReplayMeans c.args.mods.now c.args.c.now c.args.lines.now c.args.file)
    (λ fault is. replay_told {T = Replayed} (λ replayed. replayed.ninja) c.args.mods.now c.args.c.now
    (record { lines = c.args.lines; file = c.args.file }) ran.journal.items (map arc_value ran.made.items)
    c.in_ok-ran.ensures.run c.len.result many c.in_ok-check_end.ensures c.in_ok-ninja.ninja
    c.in_ok-ninja.ensures (Err (Bad fault)) is)
    c.in_err-text.field-0.0 c.from_residual-in_err-text.result c.from_residual-in_err-text.ensures.1
    c.in_err-text.ensures.text

pub returns : goal.returns
returns g c =
    let ran = c.in_ok-ran.ran in
    let many : c.len.result ≡ length ran.journal.items = omega (arith, c.len.ensures) in
    replay_told {T = List ℕ} (λ text. text) c.args.mods.now c.args.c.now
    (record { lines = c.args.lines; file = c.args.file }) ran.journal.items (map arc_value ran.made.items)
    c.in_ok-ran.ensures.run c.len.result many c.in_ok-check_end.ensures c.in_ok-ninja.ninja
    c.in_ok-ninja.ensures (Ok c.new.result) (c.in_ok-text.ensures.text ∙ ap Ok (sym c.new.ensures))
