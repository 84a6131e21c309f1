use Rattle.std.proofs.Common.{◌||◌, codes, Some, ap, sym, subst, ◌∙◌}
use Rattle.std.specs.Str.{bytes_eq}
use Rattle.std.specs.Map.{keys_of}
use Rattle.bp_names.specs.Meaning.{IsSetOf}
use Rattle.ninja_read.specs.Inside.{shown_book}
use Rattle.ninja_read.specs.Book.{Book, has_text, names_of_rules}
use Rattle.ninja_read.specs.declared.book.Open.TheVariants.{Build}
use Rattle.ninja_read.proofs.BookSteps.{statement_taken, names_with_statement, learnt_new}
use Rattle.ninja_read.proofs.book.Book.take_statement.Goals as goal

pub returns : goal.returns
returns c =
    let old : Book = shown_book c.args.self.now in
    let s = c.args.statement in (
      statement_taken c.args.number old s (ap (λ r. bytes_eq r (codes "phony") || has_text (names_of_rules old) r)
          (sym c.as_str.ensures) ∙ sym c.if-not-knows.ensures)
          ∙ ap Some (sym c.in_ok-begin.ensures.shown),
      learnt_new c.begin.new.self old (Build c.args.number s) c.in_ok-begin.ensures.shown (ap keys_of
          c.requires.no_vars)
          (subst (λ ts. IsSetOf ts c.begin.new.self.names) (names_with_statement old c.args.number s)
          (subst (λ n. IsSetOf (names_of_rules old) n) (sym c.in_ok-begin.ensures.names) c.requires.learnt.names))
          c.in_ok-begin.ensures.keys,
    )
