use Rattle.std.proofs.Common.{ap, sym, ◌∙◌, ◌++◌, ◌∷◌, [], option_map}
use Rattle.ninja_read.proofs.BookSteps.{rule_bound, keys_more}
use Rattle.ninja_read.proofs.book.bind_to_rule.Goals as goal

pub returns : goal.returns
returns c =
    let r = c.args.rule.now in
    let put = c.in_ok-push.ensures.ok
    ∙ ap (λ k. r.bindings ++ (k, c.new.result) ∷ []) c.in_ok-key.ensures
    ∙ ap (λ ps. r.bindings ++ (c.args.key.now, ps) ∷ []) c.new.ensures in (
      rule_bound c.args.key.now c.args.written.now r
          (record { name = r.name; bindings = c.push.new.self }) c.in-Some.pieces.items
          (sym c.if-not-is_rule_key.ensures)
          (sym (c.requires c.args.key.now) ∙ sym c.if-knows.ensures) (ap (option_map (λ p. p.items)) (sym c.in-Some.is)
          ∙ c.in_ok-pieces.ensures) (ap (λ bs. record { name = r.name; bindings = bs }) put),
      keys_more r.bindings c.push.new.self c.in-Some.pieces.items c.args.key.now c.args.keys.now c.learn.new.self put
          c.requires c.in_ok-learn.ensures.known,
    )
