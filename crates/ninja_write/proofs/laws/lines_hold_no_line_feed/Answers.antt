use Rattle.ninja_write.proofs.OneLine.{lines_of_whole}
use Rattle.ninja_write.proofs.laws.lines_hold_no_line_feed.Goals as goal

pub returns : goal.returns
returns c = lines_of_whole
