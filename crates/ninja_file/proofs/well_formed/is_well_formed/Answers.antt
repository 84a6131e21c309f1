use Rattle.std.proofs.Common.{◌≡◌, ◌↔◌, map, rules, sym, ◌∙◌}
use Rattle.std.specs.Bool.{IsTrue}
use Rattle.std.specs.List.{All, Contains}
use Rattle.bp_names.specs.Meaning.{IsSetOf}
use Rattle.ninja_file.specs.Meaning.{IsRule, IsStatement, rule_names, outs_of}
use Rattle.ninja_file.proofs.Wholes.{defaults_listed}
use Rattle.ninja_file.proofs.well_formed.is_well_formed.Goals as goal

pub returns-then-not-branch-2 : goal.returns-then-not-branch-2
returns-then-not-branch-2 c =
    let listed : map (λ name. name.now) c.as_slice-2.result.now ≡ rule_names c.args.f.now = search rules in
    let names : IsSetOf (map (λ name. name.now) c.as_slice-2.result.now) c.in-Some.names = search rules in
    let statements : IsTrue c.in_ok-are_statements.field-0
    ↔ All (IsStatement (rule_names c.args.f.now)) c.args.f.now.statements =
    rw (← c.as_slice-6.ensures) (c.in_ok-are_statements.ensures (rule_names c.args.f.now) (rw (← listed) names)) in
    (λ e. absurd (cc), λ good. sym c.if-not-branch-2.true ∙ statements.1 good.statements)

pub returns : goal.returns
returns c =
    let listed : map (λ name. name.now) c.as_slice-2.result.now ≡ rule_names c.args.f.now = search rules in
    let names : IsSetOf (map (λ name. name.now) c.as_slice-2.result.now) c.in-Some.names = search rules in
    let statements : IsTrue c.in_ok-are_statements.field-0
    ↔ All (IsStatement (rule_names c.args.f.now)) c.args.f.now.statements =
    rw (← c.as_slice-6.ensures) (c.in_ok-are_statements.ensures (rule_names c.args.f.now) (rw (← listed) names)) in
    let rules_good : IsTrue c.in_ok-are_rules.field-0 ↔ All IsRule c.args.f.now.rules =
    rw (← c.as_slice-5.ensures) c.in_ok-are_rules.ensures in
    let listed_outs : map (λ out. out.now) c.as_slice-4.result.now ≡ outs_of c.args.f.now = search rules in
    let outs : IsSetOf (map (λ out. out.now) c.as_slice-4.result.now) c.in-Some-2.outs = search rules in
    let defaults : IsTrue c.are_listed.result
    ↔ All (Contains (outs_of c.args.f.now)) c.args.f.now.defaults = rw (c.are_listed.ensures, ← c.as_slice-7.ensures)
    (defaults_listed (outs_of c.args.f.now) c.in-Some-2.outs c.as_slice-7.result.now (rw (← listed_outs) outs)) in (
      λ good. record {
        rules = rules_good.0 c.if-not-branch.false;
        rules_differ = rw (← listed) (c.in_ok-names.ensures.differ.0 (search rules));
        statements = statements.0 c.if-not-branch-2.false;
        outs_differ = rw (← listed_outs) (c.in_ok-outs.ensures.differ.0 (search rules));
        defaults = defaults.0 good;
      },
      λ whole. defaults.1 whole.defaults,
    )
