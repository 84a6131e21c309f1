use Rattle.bp_lexer.proofs.Rising.{place_before}
use Rattle.bp_lexer.proofs.laws.places_rise.Goals as goal

pub returns : goal.returns
returns c = place_before
