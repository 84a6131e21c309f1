use Rattle.bp_lexer.proofs.Columns.{column}
use Rattle.bp_lexer.proofs.laws.columns_count_characters.Goals as goal

pub returns : goal.returns
returns c = column
