use Rattle.std.proofs.Common.{◌≡◌, ◌∙◌, ℕ, Ok, Err, Vec, ap, map, length, subst, sym}
use Rattle.std.specs.Arc.{arc_value}
use Rattle.std.specs.Global.{Global}
use Rattle.bp_faults.proofs.Refusals.{refused}
use Rattle.pass_ways.specs.declared.way.Way.TheVariants.{Workers}
use Rattle.bp_pipeline.specs.declared.generated.GeneratedWithRest.{GeneratedWithRest}
use Rattle.bp_pipeline.specs.Generated.{AreSizes, TextMeans, text_within_limit}
use Rattle.bp_pipeline.specs.Journals.{IsLegalJournal}
use Rattle.bp_pipeline.proofs.Whole.{all_refused, file_means, legal_journal, text_means}
use Rattle.bp_pipeline.proofs.generated.generate_with_rest.Goals as goal

pub returns-in_err-ran-clause-text : goal.returns-in_err-ran-clause-text
returns-in_err-ran-clause-text g c =
    all_refused c.args.mods.now c.args.c.now (Workers c.args.workers c.args.gate)
    (λ earlier pass plan fault refuses. refuses) {T = GeneratedWithRest}
    (λ made. made.generated.ninja) c.in_err-ran.field-0.0 c.from_residual.result c.from_residual.ensures.1
    c.in_err-ran.ensures.run

pub returns-in_err-text-clause-text : goal.returns-in_err-text-clause-text
returns-in_err-text-clause-text g c =
    let ran = c.in_ok-ran.ran in
    let mods = c.args.mods.now in
    let config = c.args.c.now in
    let file = c.in_ok-file.file in
    refused {T = Vec ℕ Global} {U = GeneratedWithRest} (λ text. text.items) (λ made. made.generated.ninja)
    (λ outcome. text_within_limit file ≡ outcome)
    (TextMeans mods config)
    (λ fault is. text_means mods config (Workers c.args.workers c.args.gate) ran.journal.items
    (map arc_value ran.made.items)
    c.in_ok-ran.ensures.run file c.in_ok-file.ensures (Err fault) is)
    c.in_err-text.field-0.0 c.from_residual-in_err-text.result c.from_residual-in_err-text.ensures.1
    c.in_err-text.ensures.text

pub returns-clause-text : goal.returns-clause-text
returns-clause-text g c =
    let ran = c.in_ok-ran.ran in
    text_means c.args.mods.now c.args.c.now (Workers c.args.workers c.args.gate) ran.journal.items
    (map arc_value ran.made.items)
    c.in_ok-ran.ensures.run c.in_ok-file.file c.in_ok-file.ensures (Ok c.new.result)
    (c.in_ok-text.ensures.text ∙ ap Ok (sym c.new.ensures))

pub returns-clause-journal : goal.returns-clause-journal
returns-clause-journal g c =
    let ran = c.in_ok-ran.ran in
    subst (IsLegalJournal c.args.mods.now c.args.c.now) (sym c.new-2.ensures)
    (legal_journal c.args.mods.now c.args.c.now (Workers c.args.workers c.args.gate) ran.journal.items
    (map arc_value ran.made.items)
    c.in_ok-ran.ensures.run)

pub returns-clause-statements : goal.returns-clause-statements
returns-clause-statements g c =
    let ran = c.in_ok-ran.ran in (
      c.in_ok-file.file,
      file_means c.args.mods.now c.args.c.now (Workers c.args.workers c.args.gate) ran.journal.items
          (map arc_value ran.made.items)
          c.in_ok-ran.ensures.run c.in_ok-file.file c.in_ok-file.ensures,
      ap length c.as_slice.ensures,
    )

pub returns-clause-sizes : goal.returns-clause-sizes
returns-clause-sizes g c =
    subst (AreSizes c.args.mods.now c.args.c.now) (sym c.new-3.ensures) c.in_ok-ran.ensures.sizes
