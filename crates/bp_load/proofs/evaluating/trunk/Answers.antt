use Rattle.std.proofs.Common.{◌≡◌, ◌+◌, ◌-◌, length, get_or, subst, sym, ◌∙◌, arith}
use Rattle.std.proofs.lemmas.Option.{get_or_from_slice_get}
use Rattle.bp_load.specs.Branches.{directories_of, IsTrunk}
use Rattle.bp_load.proofs.Branches.{trunk_more}
use Rattle.bp_load.proofs.evaluating.trunk.Goals as goal

pub files-preserved : goal.files-preserved
files-preserved c =
    let files = c.args.files.now in
    let count : c.files.count ≡ c.files.file-index = c.files.invariant.0 in
    let last = c.in-Some.last.now in
    let end : last ≡ get_or files (length files - 1) last =
    sym (get_or_from_slice_get files (length files - 1) last last (sym c.in-Some.ensures.value)) in
    let more : IsTrunk (directories_of files) (c.files.file-index + 1) = trunk_more files c.files.file-index
    c.file-item.result last c.files-test.true c.file-item.is end (sym c.is_above.ensures ∙ c.if-not-is_above.false)
    (subst (IsTrunk (directories_of files)) count c.files.invariant.1) in
    (omega (arith, count), subst (λ n. IsTrunk (directories_of files) (n + 1)) (sym count) more)
