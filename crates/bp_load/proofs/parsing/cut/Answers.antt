use Rattle.std.proofs.Common.{◌≤◌, length, arith}
use Rattle.bp_faults.specs.declared.limits.TheConstants.{LARGEST_FILE}
use Rattle.bp_load.proofs.Sources.{short_at}
use Rattle.bp_load.proofs.parsing.cut.Goals as goal

pub files-preserved : goal.files-preserved
files-preserved c =
    let file = c.file-item.result in
    let short : length file.1.items ≤ LARGEST_FILE =
    short_at c.args.files.now c.files.file-index file c.requires.short (omega arith) c.file-item.is in
    (omega (arith, short, c.files.invariant.0, c.len-bytes.ensures), omega (arith, c.files.invariant.1))
