use Rattle.std.proofs.Common.{rules, ◌≡◌, map, Some, sym, ◌∙◌, ap}
use Rattle.bp_values.specs.Values.{map_entry_of}
use Rattle.bp_values.specs.Inside.{index_of}
use Rattle.bp_values.proofs.Index.{value_there, value_absent, index_within}
use Rattle.bp_values.proofs.sums.find.Goals as goal

pub returns-in-None : goal.returns-in-None
returns-in-None c =
    let e = sym (c.requires.indices c.args.name.now) in
    sym (value_absent c.args.name.now (map map_entry_of c.args.entries.now) (cc))

pub bounds-entries-number : goal.bounds-entries-number
bounds-entries-number c =
    let e : index_of c.args.name.now (map map_entry_of c.args.entries.now) ≡ Some c.in-Some.number =
    cc (c.requires.indices c.args.name.now) in
    index_within c.args.name.now c.args.entries.now c.in-Some.number e

pub offset_bounds-entries-number : goal.offset_bounds-entries-number
offset_bounds-entries-number c =
    let e : index_of c.args.name.now (map map_entry_of c.args.entries.now) ≡ Some c.in-Some.number =
    cc (c.requires.indices c.args.name.now) in
    let h = index_within c.args.name.now c.args.entries.now c.in-Some.number e in
    search rules

pub returns-in-Some : goal.returns-in-Some
returns-in-Some c =
    let e : index_of c.args.name.now (map map_entry_of c.args.entries.now) ≡ Some c.in-Some.number =
    cc (c.requires.indices c.args.name.now) in
    let h = value_there c.args.name.now c.args.entries.now c.in-Some.number c.index-entries-number.result e in
    ap (λ x. Some (map_entry_of x).value) c.index-entries-number.is ∙ h
