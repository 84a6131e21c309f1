use Rattle.std.proofs.Common.{◌≡◌, map, ap, sym, ◌∙◌, None, option_map, is_some, true, false}
use Rattle.std.specs.Map.{lookup}
use Rattle.std.specs.Str.{bytes_eq}
use Rattle.indexmap.specs.IndexMap.{insert_entry}
use Rattle.bp_values.specs.Values.{meaning}
use Rattle.bp_values.specs.Scopes.{pair_of, pairs_of, value_in}
use Rattle.bp_values.proofs.Pairs.{lookup_pairs}
use Rattle.bp_values.proofs.Scopes.{inserted_other}
use Rattle.bp_values.proofs.scope.Scope.replace.Goals as goal

pub returns-in-Some-clause-pairs : goal.returns-in-Some-clause-pairs
returns-in-Some-clause-pairs c =
    let es = c.args.self.now.values.entries in
    ap (map pair_of) c.in_ok-old.ensures.entries
    ∙ ap (λ name. map pair_of (insert_entry bytes_eq es name c.args.value)) c.in_ok-copy.ensures
    ∙ inserted_other es c.args.name.now c.args.value c.requires

pub returns-in-Some-clause-old : goal.returns-in-Some-clause-old
returns-in-Some-clause-old c =
    let es = c.args.self.now.values.entries in
    ap (option_map meaning) (sym c.in-Some.is ∙ c.in_ok-old.ensures.old)
    ∙ ap (λ name. option_map meaning (lookup (bytes_eq name) es)) c.in_ok-copy.ensures
    ∙ lookup_pairs (bytes_eq c.args.name.now) es

pub returns-in-None-clause-pairs : goal.returns-in-None-clause-pairs
returns-in-None-clause-pairs c =
    let es = c.args.self.now.values.entries in
    let none : None ≡ value_in (pairs_of c.args.self.now) c.args.name.now =
    ap (option_map meaning) (sym c.in-None.is ∙ c.in_ok-old.ensures.old)
    ∙ ap (λ name. option_map meaning (lookup (bytes_eq name) es)) c.in_ok-copy.ensures
    ∙ lookup_pairs (bytes_eq c.args.name.now) es in
    let never : false ≡ true = ap is_some none ∙ c.requires in
    cc

pub returns-in-None-clause-old : goal.returns-in-None-clause-old
returns-in-None-clause-old c =
    let es = c.args.self.now.values.entries in
    let none : None ≡ value_in (pairs_of c.args.self.now) c.args.name.now =
    ap (option_map meaning) (sym c.in-None.is ∙ c.in_ok-old.ensures.old)
    ∙ ap (λ name. option_map meaning (lookup (bytes_eq name) es)) c.in_ok-copy.ensures
    ∙ lookup_pairs (bytes_eq c.args.name.now) es in
    let never : false ≡ true = ap is_some none ∙ c.requires in
    cc
