use Rattle.std.proofs.Common.{rules, ◌≡◌, false, is_some, ap, ◌∙◌, take}
use Rattle.std.proofs.lemmas.List.{take-append-le}
use Rattle.bp_parser.specs.Trees.{tree_of}
use Rattle.bp_values.specs.Values.{meaning}
use Rattle.bp_values.specs.Scopes.{pairs_of}
use Rattle.bp_values.specs.Inside.{known_of, is_noted}
use Rattle.bp_values.specs.KeptIndices.{kept_for}
use Rattle.bp_values.proofs.Noted.{noted_is}
use Rattle.bp_values.proofs.Kept.{kept_assigned}
use Rattle.bp_values.proofs.Scopes.{length_with_new}
use Rattle.bp_values.proofs.Setting.{is_absent, is_assigned}
use Rattle.bp_values.proofs.file.assign.Goals as goal

pub returns-clause-known : goal.returns-clause-known
returns-clause-known c =
    let scope = pairs_of c.args.state.now.scope in
    let known = known_of c.args.state.now in
    let absent : is_some c.get.result ≡ false = search rules in
    is_assigned scope (pairs_of c.set.new.self) known.is_used (is_noted c.mark.new.used) known.modules c.args.name.now
    c.args.at (tree_of c.args.value.now) (meaning c.in_ok-new.new)
    (is_absent (λ v. meaning v.now) c.get.result _ absent c.get.ensures) c.in_ok-new.ensures
    (λ q. c.in_ok-mark.ensures q ∙ noted_is (tree_of c.args.value.now) (known.is_used q) q)
    c.in_ok-set.ensures

pub returns-clause-inherited : goal.returns-clause-inherited
returns-clause-inherited c =
    let scope = pairs_of c.args.state.now.scope in
    ap (take c.args.state.now.inherited) c.in_ok-set.ensures
    ∙ take-append-le c.args.state.now.inherited scope _ c.requires.consistent.within

pub returns-clause-consistent : goal.returns-clause-consistent
returns-clause-consistent c =
    let scope = pairs_of c.args.state.now.scope in
    let absent : is_some c.get.result ≡ false = search rules in
    record {
      within =
          length_with_new c.args.state.now.inherited scope (pairs_of c.set.new.self) c.args.name.now
          (meaning c.in_ok-new.new) c.in_ok-set.ensures c.requires.consistent.within;
      indices =
          kept_assigned (kept_for c.args.state.now.kept) scope (pairs_of c.set.new.self) c.args.name.now
          (meaning c.in_ok-new.new)
          (is_absent (λ v. meaning v.now) c.get.result _ absent c.get.ensures) c.in_ok-set.ensures
          c.requires.consistent.indices;
    }
