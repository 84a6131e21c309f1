use Rattle.std.proofs.Common.{Vec, Global, [], map, subst, sym, refl}
use Rattle.std.specs.Prelude.{Err}
use Rattle.std.specs.List.Sorted.{IsStrictlySortedBy}
use Rattle.bp_load.specs.Directories.{directory_cmp}
use Rattle.bp_faults.specs.declared.path.Path.{Path}
use Rattle.bp_faults.proofs.Refusals.{refused}
use Rattle.bp_values.specs.declared.file.RawModule.{RawModule}
use Rattle.bp_load.specs.declared.parsed.Parsed.{Parsed}
use Rattle.bp_load.specs.Trees.{placed_of, sources_given, TreesMean}
use Rattle.bp_load.specs.Inherited.{placed_raw, all_evaluated, RawMean}
use Rattle.bp_load.proofs.AsTexts.{answers_then}
use Rattle.bp_load.proofs.Eachs.{each_directories}
use Rattle.bp_load.proofs.raw.raw_modules.Goals as goal

-- what is parsed stands in the order of the files
pub evaluate_all-requires : goal.evaluate_all-requires
evaluate_all-requires c =
    subst (IsStrictlySortedBy directory_cmp) (sym (each_directories (sources_given c.args.files.now)
    (map placed_of c.in_ok-parsed.parsed.items) c.in_ok-parsed.ensures)) c.requires.order

pub returns-in_err-parsed : goal.returns-in_err-parsed
returns-in_err-parsed c =
    refused {T = Vec Parsed Global} {U = Vec (Path × RawModule) Global} (λ parsed. map placed_of parsed.items)
    (λ modules. map placed_raw modules.items) (TreesMean (sources_given c.args.files.now))
    (RawMean (sources_given c.args.files.now)) (λ fault first. (Err fault, first, refl)) c.in_err-parsed.field-0.0
    c.from_residual.result c.from_residual.ensures.1 c.in_err-parsed.ensures

pub returns : goal.returns
returns c =
    answers_then {T = Vec (Path × RawModule) Global} (λ modules. map placed_raw modules.items)
    (TreesMean (sources_given c.args.files.now)) (all_evaluated []) (map placed_of c.in_ok-parsed.parsed.items)
    c.in_ok-parsed.ensures c.evaluate_all.result c.evaluate_all.ensures
