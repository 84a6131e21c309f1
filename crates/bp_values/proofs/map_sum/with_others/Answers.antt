use Rattle.std.proofs.Common.{rules, ◌≡◌, ◌++◌, List, map, subst, sym, ap, ◌∙◌, Option}
use Rattle.std.proofs.lemmas.List.{map-append}
use Rattle.bp_values.specs.Values.{MapEntry, map_entry_of}
use Rattle.bp_values.specs.Indices.{Indices, names_in}
use Rattle.bp_values.specs.MapIndices.{AreKnown}
use Rattle.bp_values.specs.declared.index_table.IndexTable.{IndexTable}
use Rattle.bp_values.proofs.MapIndices.{made_known, known_before}
use Rattle.bp_values.proofs.map_sum.with_others.Goals as goal

pub returns-in-Some-clause-indices : goal.returns-in-Some-clause-indices
returns-in-Some-clause-indices c =
    let before = map map_entry_of c.args.entries.items in
    let others = map map_entry_of c.args.others.items in
    let fields = map map_entry_of c.append.new.self.items in
    let all : fields ≡ before ++ others =
    ap (map map_entry_of) c.in_ok-append.ensures.items
    ∙ map-append map_entry_of c.args.entries.items c.args.others.items in
    let whole : map map_entry_of c.as_slice.result.now ≡ fields = search rules in
    let indexed =
    subst (λ (l : List MapEntry). Indices c.in_ok-names.field-0 (names_in l)) whole c.in_ok-names.ensures in
    made_known c.in-Some.names c.args.below fields
    (subst (λ (o : Option IndexTable). Indices o (names_in fields)) c.in-Some.is indexed)
    (subst (λ (l : List MapEntry). AreKnown c.args.below l) (sym all)
    (known_before c.args.below before others c.requires.known))
