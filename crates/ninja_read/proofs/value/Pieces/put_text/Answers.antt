use Rattle.std.proofs.Common.{◌++◌, ap, ◌∙◌}
use Rattle.ninja_read.specs.Inside.{with_text}
use Rattle.ninja_read.proofs.ValueRead.{text_put}
use Rattle.ninja_read.proofs.value.Pieces.put_text.Goals as goal

pub returns : goal.returns
returns c =
    λ more. ap (λ t. c.args.self.now.done.items ++ with_text t more) c.in_ok-push_str.ensures.ok
    ∙ text_put c.args.self.now.done.items c.args.self.now.text c.args.text.now more
