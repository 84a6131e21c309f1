use Rattle.std.proofs.Common.{◌≡◌, ◌<◌, ◌∷◌, [], ℕ, List, length, map, get_or, drop, ap, sym, ◌∙◌, arith}
use Rattle.std.proofs.lemmas.List.{length-append, length-map, get_or-map}
use Rattle.std.proofs.lemmas.Iterator.Adapters.{YieldsList-from_vec}
use Rattle.std.proofs.lemmas.Iterator.Consumers.{YieldsList-turn}
use Rattle.std.proofs.lemmas.Result.{err_from_is_err_and}
use Rattle.bp_values.specs.Scopes.{pairs_of}
use Rattle.bp_load.specs.declared.parsed.Parsed.{Parsed}
use Rattle.bp_load.specs.Trees.{Placed, placed_of}
use Rattle.bp_load.specs.Opened.{turn_of, next_turn, all_turned, no_turn}
use Rattle.bp_faults.proofs.Refusals.{answered}
use Rattle.bp_load.proofs.Turns.{turned_more, turned_fault}
use Rattle.bp_load.proofs.opened.evaluate_files.Goals as goal

-- the file that the loop takes
placed_at : (files : List Parsed) (i : ℕ) (file : Parsed) → i < length files → file ≡ get_or files i file
    → placed_of file ≡ get_or (map placed_of files) i (placed_of file)
placed_at files i file within is = ap placed_of is ∙ sym (get_or-map placed_of files i file (placed_of file) within)

pub loop-file-preserved : goal.loop-file-preserved
loop-file-preserved c =
    let files = c.args.files.items in
    let base = pairs_of c.args.base in
    let i = length c.loop-file.yielded in
    let new = turn_of c.in_ok-evaluation.evaluation in
    let road =
    YieldsList-from_vec {s = c.into_iter-file-iterator.result} files c.into_iter-file-iterator.ensures.into_iter_gives.0
    (c.into_iter-file-iterator.ensures.into_iter_gives.1 ∙ c.args.files.ok.0) in
    let turn = YieldsList-turn road c.loop-file.yielded c.loop-file.file-iterator c.loop-file.yielded_by c.next.result
    c.next.new.self c.in-Some.file c.in-Some.is c.next.ensures.steps in
    let below = c.loop-file.invariant.1 in (
      turned_more base (map placed_of files) i (turn_of c.loop-file.evaluation) (placed_of c.in-Some.file)
          (omega (arith, turn.0, length-map {B = Placed} files placed_of)) (placed_at files i c.in-Some.file turn.0
          turn.1) c.loop-file.invariant.0 new (c.in_ok-evaluation.ensures.turn base below)
          ∙ ap (λ n. all_turned base new (drop n (map placed_of files)))
          (sym (length-append c.loop-file.yielded (c.in-Some.file ∷ []))),
      c.in_ok-evaluation.ensures.below base below,
    )

pub returns-in_err-evaluation-clause-turn : goal.returns-in_err-evaluation-clause-turn
returns-in_err-evaluation-clause-turn c =
    let files = c.args.files.items in
    let base = pairs_of c.args.base in
    let i = length c.loop-file.yielded in
    let refused =
    err_from_is_err_and c.from_residual-in_err-evaluation.result c.from_residual-in_err-evaluation.ensures.1 in
    let road =
    YieldsList-from_vec {s = c.into_iter-file-iterator.result} files c.into_iter-file-iterator.ensures.into_iter_gives.0
    (c.into_iter-file-iterator.ensures.into_iter_gives.1 ∙ c.args.files.ok.0) in
    let turn = YieldsList-turn road c.loop-file.yielded c.loop-file.file-iterator c.loop-file.yielded_by c.next.result
    c.next.new.self c.in-Some.file c.in-Some.is c.next.ensures.steps in
    rw (refused.1, refused.2)
    (answered turn_of c.in_err-evaluation.field-0.0
    (next_turn base (turn_of c.loop-file.evaluation) (placed_of c.in-Some.file))
    (all_turned base no_turn (map placed_of files)) (c.in_err-evaluation.ensures.turn base c.loop-file.invariant.1)
    (turned_fault base (map placed_of files) i (turn_of c.loop-file.evaluation) (placed_of c.in-Some.file)
    (omega (arith, turn.0, length-map {B = Placed} files placed_of)) (placed_at files i c.in-Some.file turn.0 turn.1)
    c.loop-file.invariant.0))
