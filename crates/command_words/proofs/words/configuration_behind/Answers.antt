use Rattle.std.proofs.Common.{◌≡◌, ◌∙◌, ℕ, List, true, map, ap, sym}
use Rattle.std.specs.Prelude.{Some, drop}
use Rattle.std.specs.Borrow.{Bor}
use Rattle.std.proofs.lemmas.Result.{IfOk-weaker}
use Rattle.command_words.specs.Found.{value_found}
use Rattle.command_words.specs.Words.{are_plain_pairs, option_pairs}
use Rattle.command_words.proofs.Configuring.{behind_first, configured_is}
use Rattle.command_words.proofs.words.configuration_behind.Goals as goal

pub returns-in-Ok : goal.returns-in-Ok
returns-in-Ok c =
    let command = c.args.command in
    let words = map (λ (w : Bor (List ℕ)). w.now) c.args.words.now in
    let ps = c.in-Some.pairs.items in
    let are : option_pairs command (drop 1 words) ≡ Some ps =
    ap (option_pairs command) (sym (behind_first c.args.words.now)) ∙ sym (rw c.in-Some.is at c.in_ok-pairs.ensures) in
    let plain : are_plain_pairs command ps ≡ true =
    ap (are_plain_pairs command) (sym c.as_slice.ensures.value) ∙ sym c.is_plain.ensures ∙ c.if-is_plain.true in
    let same =
    configured_is command (drop 1 words) ps (value_found c.in-Ok.matches) are plain (c.in-Ok.ensures.ok ps are) in
    IfOk-weaker c.configuration_by.result _ _ (λ configuration h. h ∙ same) c.configuration_by.ensures
