use Rattle.std.proofs.Common.{refl, subst}
use Rattle.std.specs.Prelude.{Err}
use Rattle.bp_faults.proofs.Refusals.{refused}
use Rattle.bp_parser.specs.Trees.{tree_view}
use Rattle.bp_load.specs.Texts.{AsText}
use Rattle.bp_load.specs.Trees.{placed_of, SourceTextMeans, SourceFileMeans}
use Rattle.bp_load.proofs.parsed.parse_file.Goals as goal

pub returns-in_err-tree : goal.returns-in_err-tree
returns-in_err-tree c =
    let number = c.args.number in
    let bytes = c.as_slice.result.now in
    refused tree_view placed_of (AsText number bytes (SourceTextMeans number bytes))
    (SourceFileMeans number (c.args.file.now.0, c.args.file.now.1.items))
    (λ fault first. (
      Err fault,
      subst (λ bytes. AsText number bytes (SourceTextMeans number bytes) (Err fault)) c.as_slice.ensures.value first,
      refl,
    ))
    c.in_err-tree.field-0.0 c.from_residual.result c.from_residual.ensures.1 c.in_err-tree.ensures
