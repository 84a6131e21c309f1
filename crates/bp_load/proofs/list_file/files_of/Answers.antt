use Rattle.std.proofs.Common.{◌≡◌, ℕ, List, length, map, get_or, take, length-append, ◌+◌, sym, ap, subst, ◌∙◌, arith}
use Rattle.std.proofs.Common.{[], ◌∷◌}
use Rattle.std.specs.Str.Lines.{lines}
use Rattle.std.proofs.lemmas.Iterator.Consumers.{YieldsList-end, YieldsList-so_far, YieldsList-turn}
use Rattle.std.proofs.lemmas.Iterator.Splits.{YieldsList-from_lines}
use Rattle.std.proofs.lemmas.List.{map-append}
use Rattle.std.specs.BTreeMap.{BTreeMap, values}
use Rattle.std.proofs.lemmas.Result.{err_from_is_err_and}
use Rattle.bp_load.specs.ListFile.{LinesMean}
use Rattle.bp_load.specs.Listing.{with_line}
use Rattle.bp_faults.proofs.Refusals.{told}
use Rattle.bp_load.proofs.Listing.{Holds, holds_more, first_fault, files_held, few_lines}
use Rattle.bp_load.proofs.list_file.files_of.Goals as goal

-- where the loop stands among the lines: what it has read, and the line that it reads

pub take_line-requires : goal.take_line-requires
take_line-requires c =
    let turn = YieldsList-turn (YieldsList-from_lines c.args.text.now (cc)) c.loop-line.yielded _ c.loop-line.yielded_by
    _ _ _ c.in-Some.is c.next.ensures.steps in
    omega (arith, turn.0, few_lines c.args.text.now, c.requires)

pub returns-in_err-take_line : goal.returns-in_err-take_line
returns-in_err-take_line c =
    let text = c.args.text.now in
    let refused = err_from_is_err_and c.from_residual.result c.from_residual.ensures.1 in
    let road = YieldsList-from_lines text (cc) in
    let turn =
    YieldsList-turn road c.loop-line.yielded _ c.loop-line.yielded_by _ _ _ c.in-Some.is c.next.ensures.steps in
    let read = YieldsList-so_far road c.loop-line.yielded _ c.loop-line.yielded_by in
    let at : c.loop-line.at ≡ length c.loop-line.yielded = c.loop-line.invariant.2 in
    rw (refused.1, refused.2)
    (told (λ (files : BTreeMap (List (List ℕ)) (List ℕ)). values files)
    (LinesMean (lines text)) c.in_err-take_line.field-0.0
    (with_line c.loop-line.at c.loop-line.files.entries c.in-Some.line.now) c.in_err-take_line.ensures.taken
    (λ fault is. first_fault (lines text) c.loop-line.at c.loop-line.files.entries c.in-Some.line.now fault
    (omega (arith, at, turn.0))
    (subst (λ n. c.in-Some.line.now ≡ get_or (lines text) n c.in-Some.line.now) (sym at) turn.1)
    (subst (λ ls. Holds ls c.loop-line.files.entries)
    (read ∙ ap (λ n. take n (lines text)) (sym at)) c.loop-line.invariant.3)
    is))

pub loop-line-preserved : goal.loop-line-preserved
loop-line-preserved c = (
  tt,
  tt,
  ap (λ n. n + 1) c.loop-line.invariant.2 ∙ sym (length-append c.loop-line.yielded (c.in-Some.line ∷ [])),
  subst (λ ls. Holds ls c.take_line.new.files.entries)
      (sym (map-append (λ line. line.now) c.loop-line.yielded (c.in-Some.line ∷ [])))
      (holds_more (map (λ line. line.now) c.loop-line.yielded) c.loop-line.at c.loop-line.files.entries
      c.take_line.new.files.entries c.in-Some.line.now c.loop-line.invariant.3 c.in_ok-take_line.ensures.taken),
)

pub returns : goal.returns
returns c =
    let all = YieldsList-end (YieldsList-from_lines c.args.text.now (cc)) c.loop-line.yielded _ c.loop-line.yielded_by _
    _ c.in-None.is c.next.ensures.steps in
    files_held (lines c.args.text.now) c.loop-line.files.entries
    (subst (λ ls. Holds ls c.loop-line.files.entries) all.0 c.loop-line.invariant.3)
