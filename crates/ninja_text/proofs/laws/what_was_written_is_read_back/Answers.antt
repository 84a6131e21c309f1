use Rattle.ninja_text.proofs.Answers.{written_answer}
use Rattle.ninja_text.proofs.laws.what_was_written_is_read_back.Goals as goal

pub returns : goal.returns
returns c = written_answer c.lines_hold_no_line_feed.ensures
