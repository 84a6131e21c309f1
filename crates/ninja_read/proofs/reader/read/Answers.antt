use Rattle.std.proofs.Common.{Ok, map, ap, sym, ◌∙◌}
use Rattle.ninja_lines.specs.Shown.{shown_line}
use Rattle.ninja_read.specs.Inside.{shown_book}
use Rattle.ninja_read.specs.Book.{Book, book_file, no_book}
use Rattle.ninja_read.specs.Meaning.{read_lines, unless_refused}
use Rattle.ninja_read.proofs.ReadAll.{answered, file_is}
use Rattle.ninja_read.proofs.reader.read.Goals as goal

pub returns : goal.returns
returns c =
    let book : Book = shown_book c.in_ok-book.book in
    let new = c.end.new.self in
    let all = answered c.args.bytes.now (map shown_line c.in_ok-lines.lines.items) book c.in_ok-book.stop
    c.in_ok-refused.refused c.as_slice-2.result.now c.as_slice-3.result.now c.in_ok-lines.ensures
    (c.in_ok-book.ensures ∙ ap (λ ls. read_lines no_book (map shown_line ls)) c.as_slice.ensures.value)
    (c.as_slice-2.ensures.value ∙ c.in_ok-end.ensures.statements)
    (c.as_slice-3.ensures.value ∙ c.in_ok-end.ensures.defaults) c.in_ok-refused.ensures in
    all
    ∙ ap (λ l. unless_refused l (book_file book)) c.in-None.is
    ∙ ap Ok (file_is book new.rules.items new.statements.items new.defaults.items c.in_ok-end.ensures.rules
    c.in_ok-end.ensures.statements c.in_ok-end.ensures.defaults ∙ sym c.in_ok-file-in-None.ensures)
