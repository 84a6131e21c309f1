use Rattle.std.proofs.Common.{◌≡◌, map, rules}
use Rattle.std.specs.Map.{keys_of}
use Rattle.ninja_file.specs.Meaning.{AllDiffer}
use Rattle.ninja_file.proofs.Wholes.{statement_by_parts}
use Rattle.ninja_file.proofs.well_formed.is_statement.Goals as goal

pub returns : goal.returns
returns c = λ texts is.
    let e : map (λ k. k.now) c.as_slice-keys.result.now ≡ keys_of c.args.statement.now.vars = search rules in
    let differ : AllDiffer (map (λ k. k.now) c.as_slice-keys.result.now) =
    c.in_ok-set_of.ensures.differ.0 (search rules) in
    let whole = statement_by_parts c.args.statement.now texts c.args.names.now c.as_slice-keys.result.now is e differ in
    (λ good. whole.0 (c.has_statement_parts.ensures.0 good), λ r. c.has_statement_parts.ensures.1 (whole.1 r))
