use Rattle.std.proofs.Common.{◌+◌, ◌++◌, length, map, subst, sym, ap, ◌∙◌}
use Rattle.bp_faults.specs.Answers.{Tells}
use Rattle.bp_faults.specs.Phases.{Phase}
use Rattle.bp_load.specs.Trees.{SourceFileMeans, placed_of, sources_given}
use Rattle.bp_load.proofs.Joined.{told_joined, phase_halves}
use Rattle.bp_load.proofs.Sources.{length_sources, sources_append}
use Rattle.bp_load.proofs.parsing.+parsing.Goals as goal

pub returns : goal.returns
returns g t c =
    let cut = c.in_two-next.ensures in
    let front = c.in_two-next.result.0.now in
    let back = c.in_two-next.result.1.now in
    let number = c.args.number in
    subst (λ files. Tells (λ parsed. map placed_of parsed.items) (Phase SourceFileMeans number files) c.joined.result)
    (sym (sources_append front back) ∙ ap sources_given cut.whole)
    (told_joined placed_of (Phase SourceFileMeans number (sources_given front))
    (Phase SourceFileMeans (number + length (sources_given front)) (sources_given back))
    (Phase SourceFileMeans number (sources_given front ++ sources_given back)) (phase_halves SourceFileMeans number
    (sources_given front) (sources_given back))
    c.join-front.result.0 c.join-front.result.1 c.joined.result c.join-front.ensures.first
    (subst (λ n.
    Tells (λ parsed. map placed_of parsed.items) (Phase SourceFileMeans n (sources_given back)) c.join-front.result.1)
    (cut.next ∙ ap (λ k. number + k) (sym (length_sources front))) c.join-front.ensures.second) c.joined.ensures)
