use Rattle.std.proofs.Common.{None, List, ℕ, Ok, Err, refl, subst}
use Rattle.bp_faults.specs.Answers.{Tells}
use Rattle.bp_pipeline.specs.declared.generated.GeneratedWithRest.{GeneratedWithRest}
use Rattle.bp_pipeline.specs.Generated.{TextMeans, AreSizes, IsStatementCount}
use Rattle.synthetic_tree.specs.Summary.{summary_text}
use Rattle.bp_run.specs.Commands.{ToOutput}
use Rattle.bp_run.specs.Job.{SummaryGives, synth_config}
use Rattle.bp_run.proofs.Making.{refused_puts}
use Rattle.bp_run.proofs.command.synth.summarize.Goals as goal

pub returns-in_err-whole : goal.returns-in_err-whole
returns-in_err-whole g c =
    let typed = c.args.typed.now in
    let words = c.args.words.now in
    refused_puts {T = GeneratedWithRest} {V = List ℕ} (λ made. made.generated.ninja) (TextMeans typed synth_config)
    (SummaryGives words typed) (ToOutput None) (λ fault means. (Err fault, means, refl)) c.in_err-whole.field-0.0
    c.from_residual-in_err-whole.result c.from_residual-in_err-whole.ensures.1
    (subst (λ config. Tells {T = GeneratedWithRest} (λ made. made.generated.ninja) (TextMeans typed config)
    (Err c.in_err-whole.field-0.0))
    c.in_ok-config.ensures c.in_err-whole.ensures.text)

pub returns : goal.returns
returns g c =
    let typed = c.args.typed.now in
    let made = c.in_ok-whole.whole.generated in
    let summary = c.summary_of.result in (
      summary_text summary,
      (
        Ok made.ninja,
        subst (λ config. TextMeans typed config (Ok made.ninja)) c.in_ok-config.ensures c.in_ok-whole.ensures.text,
        (
          summary,
          c.summary_of.ensures typed
              (subst (λ config. AreSizes typed config made.sizes) c.in_ok-config.ensures c.in_ok-whole.ensures.sizes)
              (subst (λ config. IsStatementCount typed config made.statements) c.in_ok-config.ensures
              c.in_ok-whole.ensures.statements),
          refl,
        ),
      ),
      c.in_ok-summary_puts.ensures,
    )
