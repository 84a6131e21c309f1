use Rattle.std.proofs.Common.{◌≡◌, ◌∙◌, sym, subst, length, take, arith}
use Rattle.std.proofs.lemmas.List.{length-map, length-take-le}
use Rattle.bp_faults.proofs.Lists.{map-take-more}
use Rattle.bp_names.specs.Meaning.{LearnsNumber, NumbersFirst}
use Rattle.bp_props.specs.declared.module.Module.{Module}
use Rattle.reverse_deps.specs.Resolved.{names_by_number}
use Rattle.reverse_deps.proofs.directory.number_names.Goals as goal

pub loop-number-preserved : goal.loop-number-preserved
loop-number-preserved c =
    let mods = c.args.mods.now in
    let n = c.loop-number.number in
    let item = c.index-mods-number.result in
    let name = c.as_str.result.now in
    let many : length (names_by_number (take n mods)) ≡ n =
    length-map (take n mods) (λ (m : Module). m.name) ∙ length-take-le n mods (omega arith) in
    let learned = subst (λ k. LearnsNumber c.loop-number.table name k c.learn.new.self) (sym many)
    c.in_ok-learn.ensures.known in
    subst (λ names. NumbersFirst names c.learn.new.self)
    (sym (map-take-more (λ (m : Module). m.name) mods n item name c.loop-number-test.true c.index-mods-number.is
    c.as_str.ensures))
    (c.tables_grow_with_lists.ensures (names_by_number (take n mods)) c.loop-number.table c.learn.new.self name
    c.loop-number.invariant learned)
