use Rattle.std.proofs.Common.{◌≡◌, ◌∙◌, List, ℕ, ap, sym, subst}
use Rattle.std.specs.Prelude.{◌↔◌, IfSome, IsSome, None, Option}
use Rattle.std.proofs.lemmas.Result.{IfOk-weaker}
use Rattle.command_words.specs.declared.cause.Cause.{Cause}
use Rattle.command_words.specs.Causes.{causes_of_plain, first_cause}
use Rattle.command_words.specs.Holds.{HoldsOf}
use Rattle.command_words.specs.Words.{configuration_of}
use Rattle.command_words.proofs.Holding.{holds_first}
use Rattle.command_words.proofs.Joining.{said}
use Rattle.command_words.proofs.Refusing.{refused}
use Rattle.command_words.proofs.causes.why.Goals as goal

pub returns-clause-holds : goal.returns-clause-holds
returns-clause-holds c =
    let words = c.args.words.now in
    let plain = ap said c.as_slice.ensures.value ∙ c.in_ok-plain.ensures in
    IfOk-weaker c.cause_in_plain.result _ _
    (λ cause is. subst (λ (x : Option Cause). IfSome x (HoldsOf words))
    (sym (is ∙ ap (λ (ws : List (List ℕ)). first_cause (causes_of_plain ws)) plain)) (holds_first words))
    c.cause_in_plain.ensures

pub returns-clause-refused : goal.returns-clause-refused
returns-clause-refused c =
    let words = c.args.words.now in
    let plain = ap said c.as_slice.ensures.value ∙ c.in_ok-plain.ensures in
    IfOk-weaker c.cause_in_plain.result _ _
    (λ cause is. subst (λ (x : Option Cause). IsSome x ↔ (configuration_of words ≡ None))
    (sym (is ∙ ap (λ (ws : List (List ℕ)). first_cause (causes_of_plain ws)) plain)) (refused words))
    c.cause_in_plain.ensures
