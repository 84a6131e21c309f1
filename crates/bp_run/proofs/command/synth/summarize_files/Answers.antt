use Rattle.std.proofs.Common.{None, List, Vec, Ok, Err, subst}
use Rattle.std.specs.declared.alloc.Global.{Global}
use Rattle.bp_load.specs.Loaded.{LoadMeans}
use Rattle.bp_load.specs.Trees.{sources_given}
use Rattle.bp_props.specs.declared.module.Module.{Module}
use Rattle.bp_run.specs.Commands.{ToOutput}
use Rattle.bp_run.specs.Job.{SummaryGives}
use Rattle.bp_run.specs.Steps.{MakesPuts}
use Rattle.bp_run.proofs.Making.{puts_refused, puts_made}
use Rattle.bp_run.proofs.command.synth.summarize_files.Goals as goal

pub returns-in_err-made : goal.returns-in_err-made
returns-in_err-made g c =
    let words = c.args.words.now in
    let refusal = c.in_err-made.field-0.0 in
    puts_refused {T = Vec Module Global} {A = List Module} (λ typed. typed.items)
    (LoadMeans (sources_given c.args.files.now)) (SummaryGives words) (ToOutput None) c.in_ok-typed.typed.items
    c.in_ok-typed.ensures.gives refusal c.from_residual-in_err-made.result c.from_residual-in_err-made.ensures.1
    (subst (λ typed. MakesPuts (SummaryGives words typed) (ToOutput None) (Err refusal)) c.deref.ensures.value
    c.in_err-made.ensures)

pub returns : goal.returns
returns g c =
    let words = c.args.words.now in
    puts_made {T = Vec Module Global} {A = List Module} (λ typed. typed.items)
    (LoadMeans (sources_given c.args.files.now)) (SummaryGives words) (ToOutput None) c.in_ok-typed.typed.items
    c.in_ok-typed.ensures.gives c.in_ok-made.field-0
    (subst (λ typed. MakesPuts (SummaryGives words typed) (ToOutput None) (Ok c.in_ok-made.field-0))
    c.deref.ensures.value c.in_ok-made.ensures)
