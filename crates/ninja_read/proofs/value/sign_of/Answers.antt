use Rattle.std.proofs.Common.{arith, sym}
use Rattle.ninja_read.proofs.SignRead.{first_boundary, escaped_ascii, sign_escaped, sign_named}
use Rattle.ninja_read.proofs.value.sign_of.Goals as goal

pub split_at-requires : goal.split_at-requires
split_at-requires c =
    first_boundary c.args.text.now c.in_ok-first.first c.in_ok-first.ensures.0 c.utf8.text c.in_ok-first.ensures.1
    (escaped_ascii c.in_ok-first.first (sym c.if-is_escaped_byte.ensures))

pub range_from-requires : goal.range_from-requires
range_from-requires c =
    λ _. first_boundary c.args.text.now c.in_ok-first.first c.in_ok-first.ensures.0 c.utf8.text c.in_ok-first.ensures.1
    (let e = c.if-first-eq123.true in omega arith)

pub returns-then-is_escaped_byte-clause-sign : goal.returns-then-is_escaped_byte-clause-sign
returns-then-is_escaped_byte-clause-sign c =
    sign_escaped c.args.text.now c.in_ok-first.first c.in_ok-first.ensures.0 c.split_at.result.0.now
    c.split_at.result.1.now c.in_ok-first.ensures.1
    (sym c.if-is_escaped_byte.ensures) c.split_at.ensures.front c.split_at.ensures.back

pub returns-clause-sign : goal.returns-clause-sign
returns-clause-sign c =
    sign_named c.args.text.now c.in_ok-first.first c.in_ok-first.ensures.0 c.split_name.result.0.now
    c.split_name.result.1.now c.in_ok-first.ensures.1 (sym c.if-is_escaped_byte.ensures) c.if-first-eq123.false
    c.split_name.ensures.0 c.split_name.ensures.1 (sym c.if-is_empty.ensures)
