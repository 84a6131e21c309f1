use Rattle.std.proofs.Common.{ap, sym, ◌∙◌, ◌++◌, ◌∷◌, []}
use Rattle.ninja_read.proofs.BookSteps.{statement_bound, keys_more}
use Rattle.ninja_read.proofs.book.bind_to_statement.Goals as goal

pub returns : goal.returns
returns c = λ number.
    let s = c.args.statement.now in
    let put = c.in_ok-push.ensures.ok ∙ ap (λ k. s.vars ++ (k, c.in-Some.value) ∷ []) c.in_ok-key.ensures in (
      statement_bound c.args.key.now c.args.written.now number s (record {
        outs = s.outs;
        rule = s.rule;
        ins = s.ins;
        implicit = s.implicit;
        order_only = s.order_only;
        vars = c.push.new.self;
      }) c.in-Some.value (sym (c.requires c.args.key.now) ∙ sym c.if-knows.ensures)
          (sym c.in-Some.is ∙ c.in_ok-value.ensures) (ap (λ vs.
          record {
            outs = s.outs;
            rule = s.rule;
            ins = s.ins;
            implicit = s.implicit;
            order_only = s.order_only;
            vars = vs;
          })
          put),
      keys_more s.vars c.push.new.self c.in-Some.value c.args.key.now c.args.keys.now c.learn.new.self put c.requires
          c.in_ok-learn.ensures.known,
    )
