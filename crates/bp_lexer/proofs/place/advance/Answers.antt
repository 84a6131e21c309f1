use Rattle.std.proofs.Common.{arith, ap, sym, refl, get_or, ◌∙◌}
use Rattle.bp_faults.specs.declared.place.Place.{Place}
use Rattle.bp_lexer.specs.Search.{place_after}
use Rattle.bp_lexer.proofs.Places.{place_push, place_small}
use Rattle.bp_lexer.proofs.place.advance.Goals as goal

pub place_after-here-requires-clause-line : goal.place_after-here-requires-clause-line
place_after-here-requires-clause-line c =
    omega (
      arith,
      place_small c.args.place.file c.args.bytes.now c.loop-i.i,
      ap (λ (p : Place). p.line) c.loop-i.invariant,
    )

pub place_after-here-requires-clause-col : goal.place_after-here-requires-clause-col
place_after-here-requires-clause-col c =
    omega (
      arith,
      place_small c.args.place.file c.args.bytes.now c.loop-i.i,
      ap (λ (p : Place). p.col) c.loop-i.invariant,
    )

pub loop-i-preserved : goal.loop-i-preserved
loop-i-preserved c =
    c.place_after-here.ensures
    ∙ ap (λ (p : Place). place_after p (get_or c.args.bytes.now c.loop-i.i 0)) c.loop-i.invariant
    ∙ sym (place_push c.args.place.file c.args.bytes.now c.loop-i.i _ (omega arith) refl)
