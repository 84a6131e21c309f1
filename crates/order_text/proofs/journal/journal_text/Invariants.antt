use Rattle.std.proofs.Common.{◌≡◌, take, string_bytes}
use Rattle.order_text.specs.Texts.{journal_text}
use Rattle.order_text.proofs.journal.journal_text.Given as goal

-- the text of the visits so far
abbrev pub invariant-loop-pass : goal.invariant-loop-pass
invariant-loop-pass l = string_bytes l.text ≡ journal_text (take l.pass-index l.journal)
