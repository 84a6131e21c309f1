use Rattle.std.proofs.Common.{rules, arith, ◌≡◌, ◌++◌, ◌+◌, ◌*◌, ◌<◌, ℕ, List, Option, Some, Ok, Err, Vec, Global}
use Rattle.std.proofs.Common.{get_or, length, map, refl, ap, sym, ◌∙◌, subst}
use Rattle.std.specs.Map.{keys_of}
use Rattle.std.specs.List.Sorted.{IsStrictlySortedBy}
use Rattle.std.specs.Ordering.{nat_cmp}
use Rattle.std.specs.Vec.{with_item}
use Rattle.std.specs.BTreeMap.{get}
use Rattle.std.proofs.lemmas.List.{length-map, set-set}
use Rattle.std.proofs.lemmas.Map.Iter.{rest_more, rest_all}
use Rattle.bp_faults.specs.Answers.{Answers, Leaves, Refuses}
use Rattle.bp_values.specs.declared.map_indices.MapIndices.{MapIndices, out-MapIndices}
use Rattle.bp_values.specs.declared.value.Entry.{Entry, out-Entry}
use Rattle.bp_values.specs.declared.value.Value.{Value}
use Rattle.bp_values.specs.Depths.{depth}
use Rattle.bp_values.specs.Values.{Meaning, MapEntry, meaning, map_entry_of, body}
use Rattle.bp_values.specs.Sums.{sum}
use Rattle.bp_values.specs.IndexTable.{found_index}
use Rattle.bp_values.specs.Indices.{names_in, value_for, sum_at}
use Rattle.bp_values.specs.MapIndices.{IndicesOf, AreKnown}
use Rattle.bp_values.specs.Inside.{sum_so_far}
use Rattle.bp_values.proofs.Indices.{value_left, none_behind, indexed_summed, indexed_sum, indexed_refusal, replaced}
use Rattle.bp_values.proofs.Indices.{refused_at}
use Rattle.bp_values.proofs.MapIndices.{names_known, values_known, known_replaced, there_at}
use Rattle.bp_values.proofs.MapSums.{sums_begin, sums_next, sums_stop, sums_done, depth_left}
use Rattle.bp_values.proofs.map_sum.+map_sums.Goals as goal

pub add_indexed-loop-index-init : goal.add_indexed-loop-index-init
add_indexed-loop-index-init t c =
    let first = map map_entry_of c.args.first.items in
    let second = map map_entry_of c.args.second.items in
    let indices = found_index (out-MapIndices c.args.indices).names in
    let same = c.into_iter-index-iterator.ensures.into_iter_gives.0 in
    let sorted = c.into_iter-index-iterator.ensures.into_iter_gives.5 in
    let count : length (names_in first) ≡ length c.args.first.items =
    length-map first (λ (f : MapEntry). f.name) ∙ length-map c.args.first.items map_entry_of in
    sums_begin c.args.at indices second c.args.first.items
    (out-MapIndices c.args.indices).below c.into_iter-index-iterator.result
    (λ i. ap (λ l. value_left l i) same ∙ c.in_ok-shared.ensures.shared i)
    (subst (λ (l : List (ℕ × Value)). IsStrictlySortedBy nat_cmp (keys_of l)) (sym same) sorted)
    (λ i le. none_behind indices (names_in first) second i (names_known c.args.indices first c.requires)
    (omega (arith, count, le)))
    (values_known c.args.indices first c.requires)

pub add_indexed-add_at-requires : goal.add_indexed-add_at-requires
add_indexed-add_at-requires t c =
    let is = rest_more (λ x. x) c.loop-index.index-iterator c.next.new.self c.next.result
    (c.in-Some.index, c.in-Some.value) c.in-Some.is c.next.ensures.steps in
    let next = depth_left c.next.new.self c.in-Some.index c.in-Some.value is c.loop-index.invariant in
    let less : 4 * depth (meaning c.in-Some.value) + 4 < t = omega (arith, next.0, c.decreases) in
    (less, (next.1, c.loop-index.invariant.known))

pub add_indexed-loop-index-preserved : goal.add_indexed-loop-index-preserved
add_indexed-loop-index-preserved t c =
    let fields = map map_entry_of c.loop-index.entries.items in
    let left = c.loop-index.index-iterator in
    let p = c.in-Some.index in
    let v = c.in-Some.value in
    let is = rest_more (λ x. x) left c.next.new.self c.next.result (p, v) c.in-Some.is c.next.ensures.steps in
    let one : sum_at c.args.at fields p (meaning v) ≡ Ok (map map_entry_of c.add_at.new.entries.items) = search rules in
    sums_next c.args.at (found_index (out-MapIndices c.args.indices).names) (map map_entry_of c.args.first.items)
    (map map_entry_of c.args.second.items) c.loop-index.entries.items c.add_at.new.entries.items
    c.loop-index.below c.add_at.new.below left c.next.new.self p v is c.loop-index.invariant one
    c.in_ok-add_at.ensures.len c.in_ok-add_at.ensures.known

pub add_indexed-returns-in_err-add_at-clause-total : goal.add_indexed-returns-in_err-add_at-clause-total
add_indexed-returns-in_err-add_at-clause-total t c =
    let first = map map_entry_of c.args.first.items in
    let second = map map_entry_of c.args.second.items in
    let indices = found_index (out-MapIndices c.args.indices).names in
    let left = c.loop-index.index-iterator in
    let p = c.in-Some.index in
    let v = c.in-Some.value in
    let e = c.in_err-add_at.field-0.0 in
    let is = rest_more (λ x. x) left c.next.new.self c.next.result (p, v) c.in-Some.is c.next.ensures.steps in
    let refused : Refuses e (sum_at c.args.at (map map_entry_of c.loop-index.entries.items) p (meaning v)) =
    search rules in
    let r : c.from_residual-in_err-add_at.result ≡ Err e = search rules in
    let stopped = sums_stop c.args.at indices first second c.loop-index.entries.items c.loop-index.below left
    c.next.new.self p v e is c.loop-index.invariant refused in
    subst (λ x. Answers sum_so_far x (sum c.args.at (body first) (body second))) (sym r)
    (indexed_refusal c.args.at indices first second (λ i. value_for indices i second) e
    (names_known c.args.indices first c.requires) (λ i. refl) stopped)

pub add_indexed-with_others-requires-clause-indexed : goal.add_indexed-with_others-requires-clause-indexed
add_indexed-with_others-requires-clause-indexed t c =
    let first = map map_entry_of c.args.first.items in
    let second = map map_entry_of c.args.second.items in
    let indices = found_index (out-MapIndices c.args.indices).names in
    let is =
    rest_all (λ x. x) c.loop-index.index-iterator c.next.new.self c.next.result c.in-None.is c.next.ensures.steps in
    indexed_summed c.args.at indices first (map map_entry_of c.loop-index.entries.items)
    (λ i. value_for indices i second)
    (names_known c.args.indices first c.requires)
    (sums_done c.args.at indices first second c.loop-index.entries.items c.loop-index.below c.loop-index.index-iterator
    is c.loop-index.invariant)

pub add_indexed-returns-clause-total : goal.add_indexed-returns-clause-total
add_indexed-returns-clause-total t c =
    let first = map map_entry_of c.args.first.items in
    let second = map map_entry_of c.args.second.items in
    let indices = found_index (out-MapIndices c.args.indices).names in
    let is =
    rest_all (λ x. x) c.loop-index.index-iterator c.next.new.self c.next.result c.in-None.is c.next.ensures.steps in
    let summed = map map_entry_of c.loop-index.entries.items in
    let others = map map_entry_of c.in_ok-shared.others.items in
    indexed_sum c.args.at indices first second summed others (summed ++ others) (λ i. value_for indices i second)
    (names_known c.args.indices first c.requires) (λ i. refl)
    c.in_ok-shared.ensures.others refl (sums_done c.args.at indices first second c.loop-index.entries.items
    c.loop-index.below c.loop-index.index-iterator is c.loop-index.invariant)
    ∙ ap Ok (sym c.in_ok-with_others.ensures.total)

pub add_at-add_to-requires : goal.add_at-add_to-requires
add_at-add_to-requires t c =
    let items = c.args.entries.now.items in
    let old = c.replace-name.result in
    let here : get_or items c.args.index old ≡ old = search rules in
    let there = there_at items c.args.index old c.requires.within here in
    let had : c.remove-indices.result ≡ get nat_cmp c.args.below.now c.args.index = c.remove-indices.ensures.value in (
      omega (arith, c.decreases),
      subst (λ (o : Option MapIndices). IndicesOf o (Some (meaning (out-Entry old).value))) (sym had)
          (subst (λ (o : Option Meaning). IndicesOf (get nat_cmp c.args.below.now c.args.index) o) there
          (c.requires.known c.args.index)),
    )

pub add_at-returns-in_err-value-clause-sum : goal.add_at-returns-in_err-value-clause-sum
add_at-returns-in_err-value-clause-sum t c =
    let items = c.args.entries.now.items in
    let old = c.replace-name.result in
    let here : get_or items c.args.index old ≡ old = search rules in
    let refused : Refuses c.in_err-value.field-0.0
    (sum c.args.at (meaning (out-Entry old).value) (meaning c.args.other)) = search rules in
    let is : c.from_residual.result ≡ Err c.in_err-value.field-0.0 = search rules in
    subst (λ r. Leaves (λ (es : Vec Entry Global). map map_entry_of es.items) (with_item c.args.entries.now c.args.index
    c.replace-name.new.dest) r (sum_at c.args.at (map map_entry_of items) c.args.index (meaning c.args.other))) (sym is)
    (refused_at c.args.at items c.args.index
    (meaning c.args.other) old c.in_err-value.field-0.0 c.requires.within here refused)

pub add_at-returns-clause-sum : goal.add_at-returns-clause-sum
add_at-returns-clause-sum t c =
    let items = c.args.entries.now.items in
    let old = c.replace-name.result in
    let here : get_or items c.args.index old ≡ old = search rules in
    let has : sum c.args.at (meaning (out-Entry old).value) (meaning c.args.other) ≡ Ok (meaning c.in_ok-value.value) =
    search rules in
    replaced c.args.at items c.args.index (meaning c.args.other)
    (meaning c.in_ok-value.value) old c.make_entry.result c.requires.within here has c.make_entry.ensures
    ∙ ap (λ es. Ok (map map_entry_of es)) (sym (set-set items c.args.index c.replace-name.new.dest c.make_entry.result))

pub add_at-returns-clause-known : goal.add_at-returns-clause-known
add_at-returns-clause-known t c =
    let items = c.args.entries.now.items in
    subst (λ (es : List Entry). AreKnown c.keep_below.new.below (map map_entry_of es))
    (sym (set-set items c.args.index c.replace-name.new.dest c.make_entry.result))
    (known_replaced c.args.below.now c.remove-indices.new.self c.keep_below.new.below items c.args.index
    c.make_entry.result (meaning c.in_ok-value.value) c.in_ok-value.indices c.requires.within c.requires.known
    c.remove-indices.ensures.updates.0 c.in_ok-keep_below.ensures
    (ap (λ (f : MapEntry). f.value) c.make_entry.ensures) c.in_ok-value.ensures.indices)
