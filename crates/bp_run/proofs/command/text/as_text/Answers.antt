use Rattle.std.proofs.Common.{◌≡◌, ◌∙◌, ◌≤◌, inl, sym, ap, subst, length, Ok}
use Rattle.std.specs.Str.Lossy.{utf8_valid_len}
use Rattle.std.proofs.lemmas.Str.{IsUtf8-had, utf8_valid_len_le}
use Rattle.std.specs.Prelude.{IsUtf8}
use Rattle.bp_run.proofs.command.text.as_text.Goals as goal

pub returns-in-Ok-clause-gives : goal.returns-in-Ok-clause-gives
returns-in-Ok-clause-gives c =
    inl (
      subst (λ v. IsUtf8 v.items) c.in-Ok.ensures.ok (IsUtf8-had _ c.in-Ok.text.ok),
      ap Ok (sym (c.new.ensures ∙ ap (λ v. v.items) c.in-Ok.ensures.ok)),
    )

pub no_text-requires-clause-within : goal.no_text-requires-clause-within
no_text-requires-clause-within c =
    let bytes = c.args.bytes.items in
    let count : c.valid_up_to.result ≡ utf8_valid_len bytes =
    c.valid_up_to.ensures ∙ ap (λ e. e.valid_up_to) c.utf8_error.ensures ∙ c.in-Err.ensures.valid_len in
    let same : c.as_bytes.result.now ≡ bytes = c.as_bytes.ensures ∙ ap (λ v. v.items) c.in-Err.ensures.err in
    subst (λ b. c.valid_up_to.result ≤ length b) (sym same)
    (subst (λ n. n ≤ length bytes) (sym count) (utf8_valid_len_le bytes))
