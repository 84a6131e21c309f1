use Rattle.std.proofs.Common.{length, eqb, ap, sym, ◌∙◌, ◌++◌, ◌∷◌, [], rules}
use Rattle.ninja_file.specs.declared.file.Piece.TheVariants.{Lit}
use Rattle.ninja_read.proofs.ValueRead.{nothing_put, literal_put}
use Rattle.ninja_read.proofs.value.Pieces.end_text.Goals as goal

pub returns-then-is_empty : goal.returns-then-is_empty
returns-then-is_empty c =
    nothing_put c.args.self.now.done.items c.args.self.now.text
    (ap (λ t. eqb (length t) 0) (sym c.as_str.ensures) ∙ sym c.if-is_empty.ensures)

pub returns : goal.returns
returns c = (
  search rules,
  literal_put c.args.self.now.done.items c.push.new.self.items c.args.self.now.text
      (ap (λ t. eqb (length t) 0) (sym c.as_str.ensures) ∙ sym c.if-is_empty.ensures)
      (c.in_ok-push.ensures.items ∙ ap (λ t. c.args.self.now.done.items ++ Lit t ∷ []) c.replace-text.ensures.value),
)
