use Rattle.std.proofs.Common.{List, Vec, Ok, Err, subst, ℕ}
use Rattle.std.specs.declared.alloc.Global.{Global}
use Rattle.bp_faults.specs.Answers.{Tells}
use Rattle.bp_load.specs.Loaded.{LoadMeans}
use Rattle.bp_load.specs.Trees.{sources_given}
use Rattle.bp_pipeline.specs.Replays.{OrderMeans}
use Rattle.bp_props.specs.declared.module.Module.{Module}
use Rattle.bp_run.specs.Steps.{GivesOrStops}
use Rattle.bp_run.specs.Job.{config_of}
use Rattle.bp_run.proofs.Making.{first_stops, second_gives, told}
use Rattle.bp_run.proofs.Meeting.{Never}
use Rattle.bp_run.proofs.command.replay.replay_inputs.Goals as goal

pub returns-in_err-typed : goal.returns-in_err-typed
returns-in_err-typed g c =
    let words = c.args.words.now in
    let inputs = c.args.inputs.now in
    let stop = c.in_err-typed.field-0.0 in
    first_stops {T = Vec Module Global} {U = List ℕ} (λ typed. typed.items) (λ text. text)
    (LoadMeans (sources_given inputs.files.items))
    (λ typed. OrderMeans typed (config_of words.targets) inputs.order.items c.args.number) stop
    c.from_residual.result c.from_residual.ensures.1
    (subst (λ files. GivesOrStops {T = Vec Module Global} {V = List Module} (λ typed. typed.items)
    (LoadMeans (sources_given files)) Never (Err stop)) c.deref.ensures.value c.in_err-typed.ensures.gives)

pub returns-in_err-text : goal.returns-in_err-text
returns-in_err-text g c =
    let words = c.args.words.now in
    let inputs = c.args.inputs.now in
    let typed = c.in_ok-typed.typed.items in
    let wanted = config_of words.targets in
    let refusal = c.in_err-text.field-0.0 in
    second_gives {T = Vec Module Global} {U = List ℕ} (λ typed. typed.items) (λ text. text)
    (LoadMeans (sources_given inputs.files.items))
    (λ typed. OrderMeans typed wanted inputs.order.items c.args.number) typed
    (subst (λ files. LoadMeans (sources_given files) (Ok typed)) c.deref.ensures.value c.in_ok-typed.ensures.gives)
    c.from_residual-in_err-text.result
    (told {T = List ℕ} {U = List ℕ} (λ text. text) (λ text. text)
    (OrderMeans typed wanted inputs.order.items c.args.number)
    (OrderMeans typed wanted inputs.order.items c.args.number) (λ fault means. means) refusal
    c.from_residual-in_err-text.result c.from_residual-in_err-text.ensures.1
    (subst (λ m. Tells {T = List ℕ} (λ text. text) (OrderMeans m wanted inputs.order.items c.args.number) (Err refusal))
    c.deref-2.ensures.value
    (subst (λ o. Tells {T = List ℕ} (λ text. text) (OrderMeans c.deref-2.result.now wanted o c.args.number)
    (Err refusal)) c.deref-3.ensures.value
    (subst (λ config. Tells {T = List ℕ} (λ text. text)
    (OrderMeans c.deref-2.result.now config c.deref-3.result.now c.args.number) (Err refusal))
    c.in_ok-config.ensures c.in_err-text.ensures))))

pub returns : goal.returns
returns g c =
    let words = c.args.words.now in
    let inputs = c.args.inputs.now in
    let typed = c.in_ok-typed.typed.items in
    let wanted = config_of words.targets in
    let text = c.in_ok-text.text in (
      Ok typed,
      subst (λ files. LoadMeans (sources_given files) (Ok typed)) c.deref.ensures.value c.in_ok-typed.ensures.gives,
      subst (λ m. OrderMeans m wanted inputs.order.items c.args.number (Ok text)) c.deref-2.ensures.value
          (subst (λ o. OrderMeans c.deref-2.result.now wanted o c.args.number (Ok text)) c.deref-3.ensures.value
          (subst (λ config. OrderMeans c.deref-2.result.now config c.deref-3.result.now c.args.number (Ok text))
          c.in_ok-config.ensures c.in_ok-text.ensures)),
    )
