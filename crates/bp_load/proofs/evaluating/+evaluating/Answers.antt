use Rattle.std.proofs.Common.{◌≡◌, [], map, sym, subst, ◌∙◌}
use Rattle.std.specs.Prelude.{Ok, Err}
use Rattle.std.proofs.lemmas.Result.{err_from_is_err_and}
use Rattle.bp_faults.specs.Answers.{Answers}
use Rattle.bp_faults.proofs.Refusals.{answered}
use Rattle.bp_values.specs.Scopes.{pairs_of}
use Rattle.bp_load.specs.Trees.{placed_of}
use Rattle.bp_load.specs.Inherited.{placed_raw}
use Rattle.bp_load.specs.Opened.{turn_of, scope_in, innermost, all_turned, evaluated_in, no_turn, values_of}
use Rattle.bp_load.specs.Branches.{directories_of, IsTrunk, IsBranch}
use Rattle.bp_load.proofs.Joined.{and_then}
use Rattle.bp_load.proofs.Evaluated.{evaluated_behind, evaluated_joined, evaluated_halves, evaluated_branches}
use Rattle.bp_load.proofs.evaluating.+evaluating.Goals as goal

pub evaluate_below-returns-in_err-evaluation : goal.evaluate_below-returns-in_err-evaluation
evaluate_below-returns-in_err-evaluation g t c =
    let files = c.args.files.items in
    let base = pairs_of c.args.base in
    let trunk = c.in_ok-trunk.trunk.items in
    let branches = c.in_ok-trunk.branches.items in
    let above : IsTrunk (directories_of files) c.trunk-count.result = subst (λ fs.
    IsTrunk (directories_of fs) c.trunk-count.result) c.as_slice-2.ensures.value c.trunk-count.ensures.above in
    let refused =
    err_from_is_err_and c.from_residual-in_err-evaluation.result c.from_residual-in_err-evaluation.ensures.1 in
    rw (refused.1, refused.2)
    (answered values_of c.in_err-evaluation.field-0.0 (all_turned base no_turn (map placed_of trunk))
    (evaluated_in base [] (map placed_of files)) c.in_err-evaluation.ensures.turn
    (λ fault is. evaluated_branches files trunk branches c.trunk-count.result c.in_ok-trunk.ensures.front
    c.in_ok-trunk.ensures.back base c.requires above (Err fault) is))

pub evaluate_below-returns : goal.evaluate_below-returns
evaluate_below-returns g t c =
    let files = c.args.files.items in
    let base = pairs_of c.args.base in
    let trunk = c.in_ok-trunk.trunk.items in
    let branches = c.in_ok-trunk.branches.items in
    let above : IsTrunk (directories_of files) c.trunk-count.result = subst (λ fs.
    IsTrunk (directories_of fs) c.trunk-count.result) c.as_slice-2.ensures.value c.trunk-count.ensures.above in
    let evaluation = c.in_ok-evaluation.evaluation in
    let below = pairs_of c.finish-below.result.0 in
    let last = innermost (turn_of evaluation).opened in
    let parts : evaluated_in base [] (map placed_of files)
    ≡ and_then (Ok (turn_of evaluation).modules) (evaluated_in (scope_in base last) [] (map placed_of branches)) =
    evaluated_branches files trunk branches c.trunk-count.result c.in_ok-trunk.ensures.front c.in_ok-trunk.ensures.back
    base c.requires above (Ok (turn_of evaluation)) c.in_ok-evaluation.ensures.turn in
    let scope : below ≡ scope_in base last = c.finish-below.ensures.scope base c.in_ok-evaluation.ensures.below in
    let modules : map placed_raw c.finish-below.result.1.items ≡ (turn_of evaluation).modules =
    c.finish-below.ensures.modules in
    subst (Answers values_of c.join_evaluated.result)
    (sym (parts ∙ (λ i. and_then (Ok (sym modules i)) (evaluated_in (sym scope i) [] (map placed_of branches)))))
    (evaluated_behind c.finish-below.result.1 (evaluated_in below [] (map placed_of branches))
    c.evaluate_branches-back.result c.join_evaluated.result c.evaluate_branches-back.ensures c.join_evaluated.ensures)

pub evaluate_branches-returns : goal.evaluate_branches-returns
evaluate_branches-returns g t c =
    let base = pairs_of c.args.base in
    let front = c.in_ok-front.front.items in
    let back = c.in_ok-front.back.items in
    let begins : IsBranch (directories_of c.args.files.items) c.cut-at.result =
    subst (λ fs. IsBranch (directories_of fs) c.cut-at.result) c.as_slice-2.ensures.value c.cut-at.ensures.branch in
    subst (Answers values_of c.join_evaluated.result)
    (sym (evaluated_halves c.args.files.items front back c.cut-at.result c.in_ok-front.ensures.front
    c.in_ok-front.ensures.back base c.requires.order begins))
    (evaluated_joined (evaluated_in base [] (map placed_of front))
    (evaluated_in base [] (map placed_of back)) c.join-front.result.0 c.join-front.result.1 c.join_evaluated.result
    c.join-front.ensures.first
    (subst (λ b. Answers values_of c.join-front.result.1 (evaluated_in b [] (map placed_of back)))
    c.in_ok-copy.ensures c.join-front.ensures.second) c.join_evaluated.ensures)
