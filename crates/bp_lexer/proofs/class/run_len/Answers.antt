use Rattle.std.proofs.Common.{arith, sym, ap, ◌∙◌, drop, get_or-drop, length-drop}
use Rattle.std.proofs.lemmas.List.Sums.{prefix_len_is}
use Rattle.bp_lexer.specs.Classes.{in_class}
use Rattle.bp_lexer.proofs.class.run_len.Goals as goal

-- the byte here is not of the class
pub returns-else-in_class-clause-run : goal.returns-else-in_class-clause-run
returns-else-in_class-clause-run c =
    sym (prefix_len_is (in_class c.args.class) (drop c.args.from c.args.bytes.now) _ 0
    (omega (arith, length-drop c.args.from c.args.bytes.now)) c.loop-count.invariant.passes
    (λ h. ap (in_class c.args.class) (get_or-drop c.args.from c.args.bytes.now c.loop-count.count 0)
    ∙ sym c.in_class.ensures
    ∙ c.if-in_class.false))

-- no byte is left
pub returns-after-loop-count-clause-run : goal.returns-after-loop-count-clause-run
returns-after-loop-count-clause-run c =
    sym (prefix_len_is (in_class c.args.class) (drop c.args.from c.args.bytes.now) _ 0
    (omega (arith, length-drop c.args.from c.args.bytes.now)) c.loop-count.invariant.passes
    (λ h. absurd (omega (arith, length-drop c.args.from c.args.bytes.now))))
