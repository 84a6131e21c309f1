use Rattle.std.proofs.Common.{◌≡◌, Some, ap, sym, subst, ◌∙◌, [], refl}
use Rattle.bp_names.specs.Meaning.{IsSetOf}
use Rattle.ninja_read.specs.Inside.{shown_book}
use Rattle.ninja_read.specs.Book.{Book, book_with_open, names_of_rules}
use Rattle.ninja_read.specs.declared.book.Open.TheVariants.{Rule}
use Rattle.ninja_file.specs.declared.file.NinjaRule.{NinjaRule}
use Rattle.ninja_read.proofs.BookSteps.{rule_taken, names_with_rule, set_more, learnt_new}
use Rattle.ninja_read.proofs.book.Book.take_rule.Goals as goal

pub returns : goal.returns
returns c =
    let old : Book = shown_book c.args.self.now in
    let rule : NinjaRule = record { name = c.args.name.now; bindings = [] } in
    let same : record { name = c.in_ok-from_str.field-0; bindings = c.new-2.result } ≡ rule =
    cc (c.in_ok-from_str.ensures, c.new-2.ensures, c.new.ensures.items) in
    let shown : shown_book c.begin.new.self ≡ book_with_open (Rule rule) old =
    c.in_ok-begin.ensures.shown ∙ ap (λ r. book_with_open (Rule r) old) same in
    let names : IsSetOf (names_of_rules (book_with_open (Rule rule) old)) c.learn.new.self =
    subst (λ ts. IsSetOf ts c.learn.new.self) (names_with_rule old rule) (set_more (names_of_rules old)
    c.args.self.now.names c.learn.new.self c.args.name.now c.requires.names c.in_ok-learn.ensures.known) in (
      rule_taken c.args.has_command c.args.name.now old c.if-not-has_command.false
          (sym (c.requires.names c.args.name.now) ∙ sym c.if-knows.ensures)
          ∙ ap Some (sym shown),
      learnt_new c.begin.new.self old (Rule rule) shown refl
          (subst (λ n. IsSetOf (names_of_rules (book_with_open (Rule rule) old)) n)
          (sym c.in_ok-begin.ensures.names) names)
          c.in_ok-begin.ensures.keys,
    )
