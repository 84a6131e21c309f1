use Rattle.bp_lexer.proofs.Places.{place_file, place_moved, place_start}
use Rattle.bp_lexer.proofs.span.place_in.Goals as goal

pub advance-requires-clause-at : goal.advance-requires-clause-at
advance-requires-clause-at c =
    let bytes = c.args.bytes.now in
    place_file c.args.file bytes 0 c.start.result (place_start c.args.file bytes c.start.result c.start.ensures)

pub returns : goal.returns
returns c =
    let bytes = c.args.bytes.now in
    place_moved c.args.file bytes 0 c.args.at c.start.result c.advance.result
    (place_start c.args.file bytes c.start.result c.start.ensures) c.advance.ensures
