use Rattle.std.proofs.Common.{◌≡◌, ◌≤◌, Bool, false, not, Option, ap, sym, subst, ◌∙◌, List, [], ℕ, map, take, length}
use Rattle.std.proofs.Common.{Ok, Vec, Global, arith}
use Rattle.std.proofs.lemmas.Result.{err_from_is_err_and}
use Rattle.bp_faults.specs.Answers.{Refuses, then_do}
use Rattle.bp_faults.proofs.Refusals.{answered}
use Rattle.bp_parser.specs.Trees.{Definition, definition_of}
use Rattle.bp_values.specs.declared.file.RawModule.{RawModule}
use Rattle.bp_values.specs.declared.map_indices.MapIndices.{MapIndices}
use Rattle.bp_values.specs.declared.scope.Scope.{Scope}
use Rattle.bp_values.specs.Inside.{known_of, is_noted, is_extended_or}
use Rattle.bp_values.specs.Meaning.{Known, after_definitions, file_evaluation, raw_of}
use Rattle.bp_values.specs.MapIndices.{IndicesOf}
use Rattle.bp_values.specs.Scopes.{Pairs, pairs_of, count_of, value_in}
use Rattle.bp_values.proofs.Extended.{marks_at_first}
use Rattle.bp_values.proofs.Scopes.{outer_whole, outer_again, outer_count}
use Rattle.bp_values.proofs.file.evaluate_from.Goals as goal

abbrev known : Pairs → (List ℕ → Bool) → Known
known inherited used = record { scope = inherited; is_used = used; modules = [] }

-- what is meant before the first definition
begins : (count : ℕ) (inherited : Pairs) (used : List ℕ → Bool) (modules : List RawModule) (ds es : List Definition)
    → count ≡ length inherited → modules ≡ [] → es ≡ ds
    → after_definitions (take count inherited)
    (record { scope = inherited; is_used = used; modules = map raw_of modules }) es
    ≡ after_definitions inherited (known inherited used) ds
begins count inherited used modules ds es all first given =
    λ i. after_definitions (outer_whole count inherited all i)
    (record { scope = inherited; is_used = used; modules = map raw_of (first i) }) (given i)

pub define_all-requires : goal.define_all-requires
define_all-requires c = record {
  consistent = record {
    within = let all : c.len.result ≡ count_of c.args.inherited = c.len.ensures in omega (arith, all);
    indices =
        λ name. subst (λ (o : Option MapIndices). IndicesOf o (value_in (pairs_of c.args.inherited) name))
        (sym (c.new.ensures name)) (λ way. tt);
  };
}

pub returns-in_err-define_all-clause-values : goal.returns-in_err-define_all-clause-values
returns-in_err-define_all-clause-values c =
    let inherited = pairs_of c.args.inherited in
    let used = is_noted c.in_ok-used.used in
    let ds = map definition_of c.args.tree.now.defs.items in
    let es = map definition_of c.as_slice-2.result.now in
    let meant = begins c.len.result inherited used c.new-2.result.items ds es c.len.ensures c.new-2.ensures.items
    (ap (map definition_of) c.as_slice-2.ensures.value) in
    let marks = marks_at_first inherited ds used (λ q. c.in_ok-used.ensures q
    ∙ ap (λ l. not (is_extended_or false q (map definition_of l))) c.as_slice.ensures.value) in
    let refused =
    err_from_is_err_and c.from_residual-in_err-define_all.result c.from_residual-in_err-define_all.ensures.1 in
    rw (refused.1, refused.2)
    (answered (λ (r : Vec RawModule Global × Scope). (map raw_of r.0.items, pairs_of r.1)) c.in_err-define_all.field-0.0
    (after_definitions inherited (known inherited used) ds) (file_evaluation inherited ds)
    (subst (Refuses c.in_err-define_all.field-0.0) meant c.in_err-define_all.ensures.known)
    (λ fault is. sym marks ∙ ap (λ r. then_do r (λ k. Ok (k.modules, k.scope))) is))

pub returns-clause-values : goal.returns-clause-values
returns-clause-values c =
    let inherited = pairs_of c.args.inherited in
    let used = is_noted c.in_ok-used.used in
    let ds = map definition_of c.args.tree.now.defs.items in
    let es = map definition_of c.as_slice-2.result.now in
    let meant = begins c.len.result inherited used c.new-2.result.items ds es c.len.ensures c.new-2.ensures.items
    (ap (map definition_of) c.as_slice-2.ensures.value) in
    let marks = marks_at_first inherited ds used (λ q. c.in_ok-used.ensures q
    ∙ ap (λ l. not (is_extended_or false q (map definition_of l))) c.as_slice.ensures.value) in
    let last : after_definitions inherited (known inherited used) ds ≡ Ok (known_of c.define_all.new.state) =
    sym meant ∙ c.in_ok-define_all.ensures.known in
    sym marks ∙ ap (λ r. then_do r (λ k. Ok (k.modules, k.scope))) last

pub returns-clause-outer : goal.returns-clause-outer
returns-clause-outer c n few =
    let inherited = pairs_of c.args.inherited in
    let state = c.define_all.new.state in
    let all : c.len.result ≡ length inherited = c.len.ensures in
    let same : state.inherited ≡ c.len.result =
    outer_count state.inherited c.len.result (pairs_of state.scope) inherited
    c.in_ok-define_all.ensures.consistent.within (omega (arith, all)) c.in_ok-define_all.ensures.inherited in
    sym (outer_again n state.inherited (pairs_of state.scope) (omega (arith, all, same, few)))
    ∙ ap (take n) c.in_ok-define_all.ensures.inherited
    ∙ outer_again n c.len.result inherited (omega (arith, all, few))

pub returns-clause-count : goal.returns-clause-count
returns-clause-count c =
    let inherited = pairs_of c.args.inherited in
    let state = c.define_all.new.state in
    let all : c.len.result ≡ length inherited = c.len.ensures in
    let within : state.inherited ≤ count_of state.scope = c.in_ok-define_all.ensures.consistent.within in
    let same : state.inherited ≡ c.len.result =
    outer_count state.inherited c.len.result (pairs_of state.scope) inherited within
    (omega (arith, all)) c.in_ok-define_all.ensures.inherited in
    omega (arith, all, within, same)
