use Rattle.std.proofs.Common.{◌≡◌, ◌+◌, ◌≤◌, ℕ, [], ◌∷◌, length, take, ap, ◌∙◌, arith}
use Rattle.std.specs.Prelude.{sum_by}
use Rattle.std.proofs.lemmas.List.{take_all}
use Rattle.std.proofs.lemmas.List.Sums.{sum_by-append}
use Rattle.bp_faults.specs.declared.limits.TheConstants.{LARGEST_FILE}
use Rattle.bp_load.specs.Trees.{Source, sources_given}
use Rattle.bp_load.proofs.Sources.{length_sources, short_at, take_source}
use Rattle.bp_load.proofs.parsing.size.Goals as goal

abbrev bytes_of : Source → ℕ
bytes_of f = length f.1

pub files-preserved : goal.files-preserved
files-preserved c =
    let files = c.args.files.now in
    let i = c.files.file-index in
    let file = c.file-item.result in
    let source : Source = (file.0, file.1.items) in
    let short : length file.1.items ≤ LARGEST_FILE =
    short_at files i file c.requires.short (omega arith) c.file-item.is in
    let more : sum_by bytes_of (take (i + 1) (sources_given files))
    ≡ sum_by bytes_of (take i (sources_given files)) + sum_by bytes_of (source ∷ []) =
    ap (sum_by bytes_of) (take_source files i file (omega arith) c.file-item.is)
    ∙ sum_by-append bytes_of (take i (sources_given files)) (source ∷ []) in (
      omega (arith, short, c.files.invariant.0, c.len-bytes.ensures),
      omega (arith, more, c.files.invariant.1, c.len-bytes.ensures),
    )

pub returns : goal.returns
returns c =
    let files = c.args.files.now in
    c.files.invariant.1
    ∙ ap (sum_by bytes_of) (take_all c.files.file-index (sources_given files) (omega (arith, length_sources files)))
