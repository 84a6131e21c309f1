use Rattle.std.proofs.Common.{rules, ◌≡◌}
use Rattle.bp_lexer.specs.declared.token.TokenKind.TheVariants.{Punct as Mark}
use Rattle.bp_parser.proofs.TokensAt.{mark_found, mark_other}
use Rattle.bp_parser.proofs.words.is_mark.Goals as goal

pub returns-in-Some-clause-yes : goal.returns-in-Some-clause-yes
returns-in-Some-clause-yes c =
    λ yes.
    mark_found c.args.mark c.args.words.now c.args.at c.in-Some.token.now c.in-Some.ensures.lookup.3 (search rules)

pub returns-in-Some-clause-other : goal.returns-in-Some-clause-other
returns-in-Some-clause-other c = λ other.
    let apart : c.in-Some.token.now.kind ≡ Mark c.args.mark → ⊥ = search rules in
    mark_other c.args.mark c.args.words.now c.args.at c.in-Some.token.now c.in-Some.ensures.lookup.3 apart
