use Rattle.std.proofs.Common.{◌≡◌, ◌∙◌, ◌<◌, ◌++◌, ap, sym, subst, length, arith}
use Rattle.std.specs.Prelude.{IfOk, not, ◌||◌}
use Rattle.bp_names.specs.Meaning.{knows, Learns}
use Rattle.bp_parser.proofs.KnownNames.{bytes_of, is_one_of, both_know, few_know, few_learn}
use Rattle.bp_parser.proofs.known_names.KnownNames.learn.Goals as goal

pub returns-then-is_one_of-clause-known : goal.returns-then-is_one_of-clause-known
returns-then-is_one_of-clause-known c =
    let name = c.args.name.now in
    let found = ap (is_one_of name) (sym c.deref.ensures.0) ∙ sym c.is_one_of.ensures ∙ c.if-is_one_of.true in
    subst (λ names. Learns names name names) c.self.view_is
    (few_know c.self.inside.few.items c.self.inside.others name found)

pub returns-then-is_full-clause-new : goal.returns-then-is_full-clause-new
returns-then-is_full-clause-new c =
    let name = c.args.name.now in
    let others = c.self.inside.others in
    let found = ap (is_one_of name) (sym c.deref.ensures.0) ∙ sym c.is_one_of.ensures ∙ c.if-is_one_of.false in
    let both = both_know c.self.inside.few.items others name ∙ ap (λ b. b || knows others name) found in
    subst (λ b. IfOk c.learn.result (λ new. new ≡ not b)) (sym both ∙ ap (λ names. knows names name) c.self.view_is)
    c.learn.ensures.new

pub returns-clause-known : goal.returns-clause-known
returns-clause-known c =
    let few = c.self.inside.few.items in
    let others = c.self.inside.others in
    let name = c.args.name in
    let room : length few < 8 = grind arith in
    let learned = few_learn few others name (c.self.invariant room) in
    let now = bytes_of c.push.new.self.items ++ others in
    let pushed : Learns (bytes_of few ++ others) name.now now =
    rw c.push.ensures.items learned in
    subst (λ names. Learns names name.now now) c.self.view_is pushed
