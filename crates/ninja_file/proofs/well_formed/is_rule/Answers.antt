use Rattle.std.proofs.Common.{◌≡◌, map, rules}
use Rattle.std.specs.Map.{keys_of}
use Rattle.bp_names.specs.Meaning.{IsSetOf}
use Rattle.ninja_file.specs.Meaning.{AllDiffer}
use Rattle.ninja_file.proofs.Wholes.{rule_by_parts}
use Rattle.ninja_file.proofs.well_formed.is_rule.Goals as goal

pub returns : goal.returns
returns c =
    let e : map (λ k. k.now) c.as_slice-keys.result.now ≡ keys_of c.args.rule.now.bindings = search rules in
    let differ : AllDiffer (map (λ k. k.now) c.as_slice-keys.result.now) =
    c.in_ok-key_set.ensures.differ.0 (search rules) in
    let is : IsSetOf (map (λ k. k.now) c.as_slice-keys.result.now) c.in-Some.key_set = search rules in
    let whole = rule_by_parts c.args.rule.now c.as_slice-keys.result.now c.in-Some.key_set e differ is in
    (λ good. whole.0 (c.has_rule_parts.ensures.0 good), λ r. c.has_rule_parts.ensures.1 (whole.1 r))
