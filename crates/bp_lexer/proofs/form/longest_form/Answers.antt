use Rattle.std.proofs.Common.{sym, ap, ◌∙◌, ◌+◌, get_or}
use Rattle.bp_lexer.proofs.Idents.{ident_longest}
use Rattle.bp_lexer.proofs.Marks.{BeginsNone, none_begins, none_opens}
use Rattle.bp_lexer.proofs.form.longest_form.Goals as goal

pub returns-then-in_class : goal.returns-then-in_class
returns-then-in_class c =
    ident_longest c.args.text.now _ c.requires.nonempty (sym c.in_class.ensures ∙ c.if-in_class.true)
    (ap (λ n. 1 + n) c.run_len.ensures.run)

pub returns-in-None : goal.returns-in-None
returns-in-None c =
    let none : BeginsNone (get_or c.args.text.now 0 0) = record {
      letter = sym c.if-in_class.ensures;
      digit = sym c.if-in_class-2.ensures;
      minus = c.if-first-eq45.false;
      quote = c.if-first-eq34.false;
      backquote = c.if-first-eq96.false;
      slash = c.if-first-eq47.false;
      mark = c.in-None.ensures;
    } in
    (none_begins c.args.text.now c.requires.nonempty none, none_opens c.args.text.now none)
