use Rattle.std.proofs.Common.{◌≡◌, map, drop}
use Rattle.ninja_lines.specs.Shown.{shown_line}
use Rattle.ninja_read.specs.Inside.{shown_book, IsLearnt}
use Rattle.ninja_read.specs.Book.{no_book}
use Rattle.ninja_read.specs.Meaning.{read_lines}
use Rattle.ninja_read.proofs.reader.read_lines.Given as goal

-- what is left decides
abbrev pub invariant-loop-index : goal.invariant-loop-index
invariant-loop-index l = record {
  learnt : IsLearnt l.book;
  same : read_lines (shown_book l.book) (map shown_line (drop l.index l.lines))
      ≡ read_lines no_book (map shown_line l.lines);
}
