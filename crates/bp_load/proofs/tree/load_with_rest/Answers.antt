use Rattle.std.proofs.Common.{Vec, Global, [], map, subst, sym, refl}
use Rattle.std.specs.Prelude.{Ok, Err}
use Rattle.std.specs.List.Sorted.{IsStrictlySortedBy}
use Rattle.bp_faults.proofs.Refusals.{refused, unanswered}
use Rattle.bp_load.specs.declared.parsed.Parsed.{Parsed}
use Rattle.bp_load.specs.declared.tree.Loaded.{Loaded}
use Rattle.bp_load.specs.Directories.{directory_cmp}
use Rattle.bp_load.specs.Trees.{placed_of, sources_given, TreesMean}
use Rattle.bp_load.specs.Inherited.{all_evaluated, RawMean}
use Rattle.bp_load.specs.Loaded.{all_named, LoadMeans}
use Rattle.bp_load.specs.Opened.{values_of}
use Rattle.bp_load.proofs.AsTexts.{answers_then}
use Rattle.bp_load.proofs.Eachs.{each_directories}
use Rattle.bp_load.proofs.tree.load_with_rest.Goals as goal

-- what is parsed stands in the order of the files
pub evaluate_by-requires-after_bounds : goal.evaluate_by-requires-after_bounds
evaluate_by-requires-after_bounds g c κs within =
    subst (IsStrictlySortedBy directory_cmp)
    (sym (each_directories (sources_given c.args.files.now)
    (map placed_of c.in_ok-parsed.parsed.items) c.in_ok-parsed.ensures))
    c.requires.order

pub returns-in_err-parsed : goal.returns-in_err-parsed
returns-in_err-parsed g c =
    refused {T = Vec Parsed Global} {U = Loaded} (λ parsed. map placed_of parsed.items)
    (λ loaded. loaded.modules.items) (TreesMean (sources_given c.args.files.now))
    (LoadMeans (sources_given c.args.files.now))
    (λ fault first. (Err fault, (Err fault, first, refl), refl)) c.in_err-parsed.field-0.0 c.from_residual.result
    c.from_residual.ensures.1 c.in_err-parsed.ensures

pub returns-in_err-evaluated : goal.returns-in_err-evaluated
returns-in_err-evaluated g c =
    let trees = map placed_of c.in_ok-parsed.parsed.items in
    unanswered {U = Loaded} (λ loaded. loaded.modules.items) (all_evaluated [] trees)
    (LoadMeans (sources_given c.args.files.now))
    (λ fault is. (Err fault, (Ok trees, c.in_ok-parsed.ensures, is), refl)) c.in_err-evaluated.field-0.0
    c.from_residual-in_err-evaluated.result c.from_residual-in_err-evaluated.ensures.1 c.in_err-evaluated.ensures

pub returns : goal.returns
returns g c =
    let trees = map placed_of c.in_ok-parsed.parsed.items in
    answers_then {T = Loaded} (λ loaded. loaded.modules.items) (RawMean (sources_given c.args.files.now)) all_named
    (values_of c.in_ok-evaluated.evaluated) (Ok trees, c.in_ok-parsed.ensures, c.in_ok-evaluated.ensures)
    c.typed_and_named.result c.typed_and_named.ensures
