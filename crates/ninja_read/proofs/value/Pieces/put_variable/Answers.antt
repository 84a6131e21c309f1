use Rattle.std.proofs.Common.{◌++◌, ◌∷◌, [], ap, ◌∙◌}
use Rattle.ninja_read.specs.Inside.{with_text}
use Rattle.ninja_file.specs.declared.file.Piece.TheVariants.{Var}
use Rattle.ninja_read.proofs.ValueRead.{variable_put}
use Rattle.ninja_read.proofs.value.Pieces.put_variable.Goals as goal

pub returns : goal.returns
returns c = λ more.
    let old = c.args.self.now in
    ap (λ t. c.push.new.self.items ++ with_text t more) c.in_ok-end_text.ensures.0
    ∙ ap (λ x. x ++ more) (c.in_ok-push.ensures.items ∙ ap (λ n. c.end_text.new.self.done.items ++ Var n ∷ [])
    c.in_ok-from_str.ensures ∙ ap (λ x. x ++ Var c.args.name.now ∷ []) c.in_ok-end_text.ensures.1)
    ∙ variable_put old.done.items old.text c.args.name.now more
