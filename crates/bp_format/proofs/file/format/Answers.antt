use Rattle.std.proofs.Common.{◌≡◌, ◌<◌, ◌≤◌, inr, refl, length, []}
use Rattle.std.specs.Prelude.{string_bytes}
use Rattle.bp_faults.specs.declared.limits.TheConstants.{LARGEST_FILE}
use Rattle.bp_format.specs.Ends.{pieces}
use Rattle.bp_format.specs.Layout.{layout}
use Rattle.bp_format.proofs.Theorem.{formatted, some_of, none_of}
use Rattle.bp_format.proofs.file.format.Goals as goal

pub returns-in-Some : goal.returns-in-Some
returns-in-Some c =
    let whole = layout (pieces [] c.args.text.now c.as_slice-2.result.now) in
    let laid = some_of (LARGEST_FILE < length whole) (λ o. (string_bytes o ≡ whole)
    × (length (string_bytes o) ≤ LARGEST_FILE)) _ c.in-Some.out c.in_ok-out.ensures c.in-Some.is in (
      formatted c.args.file c.args.text.now
          (string_bytes c.in-Some.out) c.in_ok-tokens.tokens.items c.as_slice.result.now c.as_slice-2.result.now _
          c.in_ok-tokens.ensures c.as_slice.ensures.value c.in_ok-parse.ensures c.as_slice-2.ensures.value laid.0,
      laid.1,
    )

pub returns : goal.returns
returns c =
    let whole = layout (pieces [] c.args.text.now c.as_slice-2.result.now) in
    inr (inr (
      whole,
      formatted c.args.file c.args.text.now whole c.in_ok-tokens.tokens.items c.as_slice.result.now
          c.as_slice-2.result.now _ c.in_ok-tokens.ensures c.as_slice.ensures.value c.in_ok-parse.ensures
          c.as_slice-2.ensures.value refl,
      none_of (LARGEST_FILE < length whole)
          (λ o. (string_bytes o ≡ whole) × (length (string_bytes o) ≤ LARGEST_FILE)) _ c.in_ok-out.ensures c.in-None.is,
      c.too_long.ensures,
    ))
