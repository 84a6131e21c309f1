use Rattle.std.proofs.Common.{◌≡◌, List, ℕ, Ok, Err, subst}
use Rattle.bp_faults.specs.Answers.{Tells}
use Rattle.bp_pipeline.specs.declared.generated.GeneratedWithRest.{GeneratedWithRest}
use Rattle.bp_pipeline.specs.Generated.{TextMeans}
use Rattle.bp_pipeline.specs.Journals.{IsLegalJournal}
use Rattle.order_text.specs.Texts.{journal_text}
use Rattle.bp_run.specs.Commands.{BuildGoes}
use Rattle.bp_run.specs.Job.{AreJournalLines, BuildGives, config_of}
use Rattle.bp_run.proofs.Making.{refused_puts}
use Rattle.bp_run.proofs.Preparing.{journal_on}
use Rattle.bp_run.proofs.command.build.generate_puts.Goals as goal

pub returns-in_err-whole : goal.returns-in_err-whole
returns-in_err-whole g c =
    let typed = c.args.typed.now in
    let words = c.args.words.now in
    let wanted = config_of words.targets in
    refused_puts {T = GeneratedWithRest} {V = List ℕ} (λ made. made.generated.ninja) (TextMeans typed wanted)
    (BuildGives words typed) (BuildGoes words (AreJournalLines typed wanted)) (λ fault means. means)
    c.in_err-whole.field-0.0 c.from_residual-in_err-whole.result c.from_residual-in_err-whole.ensures.1
    (subst (λ config. Tells {T = GeneratedWithRest} (λ made. made.generated.ninja) (TextMeans typed config)
    (Err c.in_err-whole.field-0.0))
    c.in_ok-config.ensures c.in_err-whole.ensures.text)

pub returns : goal.returns
returns g c =
    let typed = c.args.typed.now in
    let words = c.args.words.now in
    let wanted = config_of words.targets in
    let made = c.in_ok-whole.whole.generated in (
      made.ninja,
      subst (λ config. TextMeans typed config (Ok made.ninja)) c.in_ok-config.ensures c.in_ok-whole.ensures.text,
      journal_on words (λ lines. lines ≡ journal_text made.journal) (AreJournalLines typed wanted)
          (λ lines is. (
            made.journal,
            subst (λ config. IsLegalJournal typed config made.journal) c.in_ok-config.ensures
                c.in_ok-whole.ensures.journal,
            is,
          ))
          made.ninja _ c.in_ok-build_puts.ensures,
    )
