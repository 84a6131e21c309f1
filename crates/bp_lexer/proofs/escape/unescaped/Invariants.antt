use Rattle.std.proofs.Common.{◌≡◌, ◌++◌, false, length, drop, string_bytes}
use Rattle.std.specs.Prelude.{encode_utf8_all, chars}
use Rattle.bp_lexer.specs.Strings.{unescaped_chars}
use Rattle.bp_lexer.proofs.escape.unescaped.Given as goal

-- what is there, and what the characters that are left stand for, are the whole
abbrev pub invariant-loop-c : goal.invariant-loop-c
invariant-loop-c l =
    string_bytes l.text ++ encode_utf8_all (unescaped_chars l.slash (drop (length l.yielded) (chars l.inner)))
    ≡ encode_utf8_all (unescaped_chars false (chars l.inner))
