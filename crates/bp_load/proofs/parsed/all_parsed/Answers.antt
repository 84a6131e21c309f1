use Rattle.std.proofs.Common.{◌≡◌, ◌+◌, Vec, Global, [], ◌∷◌, ◌++◌, length, get_or, map, take, ap, sym, subst, ◌∙◌}
use Rattle.std.proofs.Common.{arith}
use Rattle.std.specs.Prelude.{Ok, Err}
use Rattle.std.proofs.lemmas.List.{length-take, map-append}
use Rattle.std.proofs.lemmas.Result.{err_from_is_err_and}
use Rattle.bp_load.specs.declared.parsed.Parsed.{Parsed}
use Rattle.bp_faults.specs.Phases.{Each, Phase}
use Rattle.bp_load.specs.Trees.{Source, SourceFileMeans, placed_of, sources_given}
use Rattle.bp_faults.proofs.Refusals.{told_first}
use Rattle.bp_load.proofs.Eachs.{each_push}
use Rattle.bp_load.proofs.Sources.{length_sources, source_at, short_at, take_source}
use Rattle.bp_load.proofs.parsed.all_parsed.Goals as goal

pub parse_file-requires : goal.parse_file-requires
parse_file-requires c =
    short_at c.args.files.now c.files.file-index c.file-item.result c.requires.1 (omega arith) c.file-item.is

pub returns-in_err-parse_file : goal.returns-in_err-parse_file
returns-in_err-parse_file c =
    let files = c.args.files.now in
    let file = c.file-item.result in
    let refused = err_from_is_err_and c.from_residual.result c.from_residual.ensures.1 in
    let number : c.files.next ≡ c.args.number + c.files.file-index = c.files.invariant.0 in
    rw (refused.1, refused.2)
    (told_first (λ (parsed : Vec Parsed Global). map placed_of parsed.items)
    (Phase SourceFileMeans c.args.number (sources_given files)) c.in_err-parse_file.field-0.0 placed_of
    (SourceFileMeans c.files.next (file.0, file.1.items)) c.in_err-parse_file.ensures
    (λ fault first. record {
      at = c.files.file-index;
      inside = omega (arith, length_sources files);
      before = map placed_of c.files.all.items;
      each = c.files.invariant.1;
      here =
          λ d. subst (λ n. SourceFileMeans n (get_or (sources_given files) c.files.file-index d) (Err fault)) number
          (subst (λ f. SourceFileMeans c.files.next f (Err fault))
          (sym (source_at files c.files.file-index file d (omega arith) c.file-item.is)) first);
    }))

pub files-preserved : goal.files-preserved
files-preserved c =
    let files = c.args.files.now in
    let file = c.file-item.result in
    let source : Source = (file.0, file.1.items) in
    let i = c.files.file-index in
    let size = length_sources files in
    let number : c.files.next ≡ c.args.number + length (take i (sources_given files)) =
    omega (arith, c.files.invariant.0, length-take i (sources_given files), size) in
    let front : take (i + 1) (sources_given files) ≡ take i (sources_given files) ++ source ∷ [] =
    take_source files i file (omega arith) c.file-item.is in
    let all : map placed_of c.push.new.self.items
    ≡ map placed_of c.files.all.items ++ placed_of c.in_ok-parse_file.field-0 ∷ [] =
    ap (map placed_of) c.in_ok-push.ensures.items
    ∙ map-append placed_of c.files.all.items (c.in_ok-parse_file.field-0 ∷ []) in (
      omega (arith, c.files.invariant.0),
      subst (λ xs. Each SourceFileMeans c.args.number xs (map placed_of c.push.new.self.items)) (sym front)
          (subst (Each SourceFileMeans c.args.number (take i (sources_given files) ++ source ∷ [])) (sym all)
          (each_push SourceFileMeans c.args.number (take i (sources_given files))
          (map placed_of c.files.all.items) source (placed_of c.in_ok-parse_file.field-0) c.files.invariant.1
          (subst (λ n. SourceFileMeans n source (Ok (placed_of c.in_ok-parse_file.field-0))) number
          c.in_ok-parse_file.ensures))),
    )
