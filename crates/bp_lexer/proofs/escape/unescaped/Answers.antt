use Rattle.std.proofs.Common.{arith, ap, sym, refl, ◌∙◌, ◌∷◌, ◌+◌, false, true, drop, length, string_bytes}
use Rattle.std.specs.Prelude.{encode_utf8_all, unwrap_or, chars}
use Rattle.std.proofs.lemmas.Iterator.{YieldsList-from_chars}
use Rattle.std.proofs.lemmas.Iterator.Consumers.{YieldsList-turn, YieldsList-end}
use Rattle.bp_lexer.specs.Strings.{unescaped_chars}
use Rattle.bp_lexer.proofs.Unescape.{puts, skips, ends, escaped_step, plain_step, slash_step}
use Rattle.bp_lexer.proofs.escape.unescaped.Goals as goal

pub loop-c-preserved-then-slash : goal.loop-c-preserved-then-slash
loop-c-preserved-then-slash c =
    let t = YieldsList-turn (YieldsList-from_chars c.args.inner.now c.utf8.inner cc) c.loop-c.yielded _
    c.loop-c.yielded_by _ _ c.in-Some.c c.in-Some.is c.next.ensures.steps in
    let cs = chars c.args.inner.now in
    let stands = c.unwrap_or.ensures ∙ ap (λ o. unwrap_or o c.in-Some.c) c.escape_of.ensures in
    puts c.loop-c.slash true false cs c.loop-c.yielded (string_bytes c.loop-c.text) (string_bytes c.push.new.self)
    (encode_utf8_all (unescaped_chars false cs)) c.in-Some.c c.unwrap_or.result c.if-slash.true refl c.loop-c.invariant
    (escaped_step cs (length c.loop-c.yielded) c.in-Some.c t
    ∙ ap (λ x. x ∷ unescaped_chars false (drop (length c.loop-c.yielded + 1) cs)) (sym stands))
    c.in_ok-push.ensures.bytes

pub loop-c-preserved-then-c-eq92 : goal.loop-c-preserved-then-c-eq92
loop-c-preserved-then-c-eq92 c =
    let t = YieldsList-turn (YieldsList-from_chars c.args.inner.now c.utf8.inner cc) c.loop-c.yielded _
    c.loop-c.yielded_by _ _ c.in-Some.c c.in-Some.is c.next.ensures.steps in
    let cs = chars c.args.inner.now in
    skips c.loop-c.slash cs c.loop-c.yielded (string_bytes c.loop-c.text)
    (encode_utf8_all (unescaped_chars false cs)) c.in-Some.c c.if-slash.false c.loop-c.invariant
    (slash_step cs (length c.loop-c.yielded) c.in-Some.c t c.if-c-eq92.true)

pub loop-c-preserved : goal.loop-c-preserved
loop-c-preserved c =
    let t = YieldsList-turn (YieldsList-from_chars c.args.inner.now c.utf8.inner cc) c.loop-c.yielded _
    c.loop-c.yielded_by _ _ c.in-Some.c c.in-Some.is c.next.ensures.steps in
    let cs = chars c.args.inner.now in
    puts c.loop-c.slash false c.loop-c.slash cs c.loop-c.yielded (string_bytes c.loop-c.text)
    (string_bytes c.push-else-c-eq92.new.self) (encode_utf8_all (unescaped_chars false cs)) c.in-Some.c c.in-Some.c
    c.if-slash.false c.if-slash.false c.loop-c.invariant
    (plain_step cs (length c.loop-c.yielded) c.in-Some.c t c.if-c-eq92.false)
    c.in_ok-push-2.ensures.bytes

pub returns : goal.returns
returns c =
    let t = YieldsList-end (YieldsList-from_chars c.args.inner.now c.utf8.inner cc) c.loop-c.yielded _
    c.loop-c.yielded_by _ _ c.in-None.is c.next.ensures.steps in
    let cs = chars c.args.inner.now in
    ends c.loop-c.slash cs (string_bytes c.loop-c.text) (encode_utf8_all (unescaped_chars false cs))
    (length c.loop-c.yielded) (omega (arith, t)) c.loop-c.invariant
