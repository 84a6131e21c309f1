use Rattle.std.proofs.Common.{[], map, ap, sym, ◌∙◌}
use Rattle.std.proofs.lemmas.Result.{err_from_is_err_and}
use Rattle.bp_faults.proofs.Refusals.{answered}
use Rattle.bp_values.specs.Scopes.{pairs_of}
use Rattle.bp_load.specs.Trees.{placed_of}
use Rattle.bp_load.specs.Opened.{all_turned, evaluated_in, no_turn, values_of}
use Rattle.bp_load.proofs.Turns.{modules_of, turned_first}
use Rattle.bp_load.proofs.opened.evaluate_in.Goals as goal

pub returns-in_err-evaluation : goal.returns-in_err-evaluation
returns-in_err-evaluation c =
    let files = map placed_of c.args.files.items in
    let base = pairs_of c.args.base in
    let refused = err_from_is_err_and c.from_residual.result c.from_residual.ensures.1 in
    rw (refused.1, refused.2)
    (answered values_of
    c.in_err-evaluation.field-0.0 (all_turned base no_turn files)
    (evaluated_in base [] files) c.in_err-evaluation.ensures.turn
    (λ fault is. sym (turned_first base files c.requires) ∙ ap modules_of is))

pub returns : goal.returns
returns c =
    let files = map placed_of c.args.files.items in
    sym (turned_first (pairs_of c.args.base) files c.requires) ∙ ap modules_of c.in_ok-evaluation.ensures.turn
