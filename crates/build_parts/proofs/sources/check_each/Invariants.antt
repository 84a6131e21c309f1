use Rattle.std.proofs.Common.{◌≡◌, [], map, take, drop}
use Rattle.bp_faults.specs.declared.place.Item.{Item}
use Rattle.bp_names.specs.Meaning.{IsSetOf}
use Rattle.build_parts.specs.Sources.{sources_checked}
use Rattle.build_parts.proofs.sources.check_each.Given as goal

-- what is left, behind the sources so far, decides as the whole does
abbrev pub invariant-loop-item : goal.invariant-loop-item
invariant-loop-item l =
    let texts = map (λ (item : Item). item.text) (take l.item-index l.items) in
    record {
      earlier : IsSetOf texts l.earlier;
      left : sources_checked texts (drop l.item-index l.items) ≡ sources_checked [] l.items;
    }
