use Rattle.std.proofs.Common.{◌≡◌, ◌∙◌, arith, inr, map, sym, ap, subst, List, Ok, Err, string_bytes}
use Rattle.std.proofs.lemmas.Result.{err_from_is_err_and}
use Rattle.bp_faults.specs.Answers.{Refuses}
use Rattle.bp_parser.specs.Trees.{tree_view, definition_of}
use Rattle.bp_parser.specs.declared.tree.Def.{Def}
use Rattle.bp_format.specs.Spots.{spot}
use Rattle.bp_format.proofs.Edited.{was_read, no_spot, was_edited, span_taken}
use Rattle.bp_format.proofs.edit.set_list.Goals as goal

pub returns-in_err-spot : goal.returns-in_err-spot
returns-in_err-spot c =
    let p = err_from_is_err_and c.from_residual-in_err-spot.result c.from_residual-in_err-spot.ensures.1 in
    no_spot _ c.from_residual-in_err-spot.result c.args.file c.args.text.now
    (record { name = c.args.name.now; property = c.args.property.now; items = c.args.items.now })
    (was_read c.args.file c.args.text.now c.in_ok-tokens.tokens.items c.as_slice.result.now
    (tree_view c.in_ok-tree.tree) c.in_ok-tokens.ensures c.as_slice.ensures.value c.in_ok-tree.ensures)
    c.in_err-spot.field-0.0 (p.1 ∙ ap Err p.2)
    (subst (λ (ds : List Def). Refuses c.in_err-spot.field-0.0 (spot c.args.file c.args.name.now c.args.property.now
    (map definition_of ds))) c.as_slice-2.ensures.value c.in_err-spot.ensures)

pub unwrap-bounds-requires : goal.unwrap-bounds-requires
unwrap-bounds-requires c =
    span_taken c.tokens_stand_within.ensures c.places_rise.ensures c.args.file c.args.text.now c.args.name.now
    c.args.property.now c.in_ok-tokens.tokens.items c.as_slice.result.now c.as_slice-3.result.now
    (tree_view c.in_ok-tree.tree) c.in_ok-spot.spot c.span.result c.in_ok-tokens.ensures c.as_slice.ensures.value
    c.in_ok-tree.ensures
    (subst (λ (ds : List Def). spot c.args.file c.args.name.now c.args.property.now (map definition_of ds)
    ≡ Ok c.in_ok-spot.spot) c.as_slice-2.ensures.value c.in_ok-spot.ensures)
    c.as_slice-3.ensures.value c.span.ensures

pub returns-then-len-le-LARGEST_FILE : goal.returns-then-len-le-LARGEST_FILE
returns-then-len-le-LARGEST_FILE c = (
  was_edited c.tokens_stand_within.ensures c.args.file c.args.text.now (string_bytes c.in_ok-out.out)
      (record { name = c.args.name.now; property = c.args.property.now; items = c.args.items.now })
      (was_read c.args.file c.args.text.now c.in_ok-tokens.tokens.items c.as_slice.result.now
      (tree_view c.in_ok-tree.tree) c.in_ok-tokens.ensures c.as_slice.ensures.value c.in_ok-tree.ensures)
      c.in_ok-spot.spot c.unwrap-bounds.result c.as_slice-3.result.now
      (subst (λ (ds : List Def). spot c.args.file c.args.name.now c.args.property.now (map definition_of ds)
      ≡ Ok c.in_ok-spot.spot) c.as_slice-2.ensures.value c.in_ok-spot.ensures)
      c.as_slice-3.ensures.value (sym c.unwrap-bounds.ensures ∙ c.span.ensures) c.in_ok-out.ensures,
  omega (arith, c.len.ensures, c.if-len-le-LARGEST_FILE.true),
)

pub returns : goal.returns
returns c = inr (inr (inr (
  string_bytes c.in_ok-out.out,
  was_edited c.tokens_stand_within.ensures c.args.file c.args.text.now (string_bytes c.in_ok-out.out)
      (record { name = c.args.name.now; property = c.args.property.now; items = c.args.items.now })
      (was_read c.args.file c.args.text.now c.in_ok-tokens.tokens.items c.as_slice.result.now
      (tree_view c.in_ok-tree.tree) c.in_ok-tokens.ensures c.as_slice.ensures.value c.in_ok-tree.ensures)
      c.in_ok-spot.spot c.unwrap-bounds.result c.as_slice-3.result.now
      (subst (λ (ds : List Def). spot c.args.file c.args.name.now c.args.property.now (map definition_of ds)
      ≡ Ok c.in_ok-spot.spot) c.as_slice-2.ensures.value c.in_ok-spot.ensures)
      c.as_slice-3.ensures.value (sym c.unwrap-bounds.ensures ∙ c.span.ensures) c.in_ok-out.ensures,
  omega (arith, c.len.ensures, c.if-len-le-LARGEST_FILE.false),
  c.too_long.ensures,
)))
