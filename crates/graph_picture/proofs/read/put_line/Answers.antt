use Rattle.std.proofs.Common.{◌∙◌, arith, sym, ap, ℕ}
use Rattle.graph_picture.specs.Lines.{variant_line}
use Rattle.graph_picture.proofs.Puts.{variant_put, no_text}
use Rattle.graph_picture.proofs.read.put_line.Goals as goal

pub returns-in_default : goal.returns-in_default
returns-in_default c =
    no_text c.args.variants.now.items c.args.line.now (omega (arith, c.args.variants.now.ok.0))
    c.in_default.ensures.cases.0

pub returns-in_ok-push-in-Some-2 : goal.returns-in_ok-push-in-Some-2
returns-in_ok-push-in-Some-2 c =
    let variants = c.args.variants.now in
    let variant = c.in-Some-2.variant in
    let is = rw c.in-Some-2.is at c.in_ok-variant.ensures in
    variant_put variants.items c.push.new.self.items variant c.args.line.now c.in_ok-push-in-Some-2.ensures.items is.0
    (sym c.in-Ok.ensures.cases.0 ∙ is.1 ∙ ap (λ (n : ℕ). variant_line n variant) (c.len.ensures ∙ variants.ok.0)) is.2
