use Rattle.std.proofs.Common.{arith, ap, sym, drop, take, length-drop, length-take-le, ◌≡◌, ◌+◌, ◌-◌, ◌∙◌}
use Rattle.std.specs.List.{count_by}
use Rattle.std.proofs.lemmas.List.Sums.{count_by-le-length}
use Rattle.bp_faults.specs.declared.place.Place.{Place}
use Rattle.bp_lexer.specs.Places.{begins_char}
use Rattle.bp_lexer.specs.Search.{place_along}
use Rattle.bp_lexer.proofs.Places.{place_small}
use Rattle.bp_lexer.proofs.Plain.{place_behind, place_counted}
use Rattle.bp_lexer.proofs.lex.place_behind.Goals as goal

pub place_along-requires : goal.place_along-requires
place_along-requires c =
    omega (
      arith,
      place_small c.args.place.file c.args.bytes.now c.args.at,
      ap (λ (p : Place). p.col) c.requires.here,
      c.requires.token.within,
      length-drop c.args.at c.args.bytes.now,
    )

-- each byte is a column
pub returns-then-is_plain : goal.returns-then-is_plain
returns-then-is_plain c =
    let plain = sym c.is_plain.ensures ∙ c.if-is_plain.true in
    c.place_along.ensures
    ∙ ap (λ (p : Place). place_along p c.args.len) c.requires.here
    ∙ sym (place_behind c.args.place.file c.args.bytes.now c.args.at c.args.len c.args.kind c.requires.within
    c.requires.token plain)

pub place_along-requires-else-has_line_end : goal.place_along-requires-else-has_line_end
place_along-requires-else-has_line_end c =
    let rest = drop c.args.at c.args.bytes.now in
    let whole : c.args.at + c.args.len - c.args.at ≡ c.args.len = omega arith in
    let counted : c.char_count.result ≡ count_by begins_char (take c.args.len rest) =
    c.char_count.ensures ∙ ap (λ n. count_by begins_char (take n rest)) whole in
    omega (
      arith,
      place_small c.args.place.file c.args.bytes.now c.args.at,
      ap (λ (p : Place). p.col) c.requires.here,
      counted,
      count_by-le-length begins_char (take c.args.len rest),
      length-take-le c.args.len rest c.requires.token.within,
      c.requires.token.within,
      length-drop c.args.at c.args.bytes.now,
    )

-- each character is a column
pub returns-else-has_line_end : goal.returns-else-has_line_end
returns-else-has_line_end c =
    let rest = drop c.args.at c.args.bytes.now in
    let whole : c.args.at + c.args.len - c.args.at ≡ c.args.len = omega arith in
    let counted : c.char_count.result ≡ count_by begins_char (take c.args.len rest) =
    c.char_count.ensures ∙ ap (λ n. count_by begins_char (take n rest)) whole in
    let none = sym c.has_line_end.ensures ∙ c.if-has_line_end.false in
    c.place_along-else-has_line_end.ensures
    ∙ ap (place_along c.args.place) counted
    ∙ ap (λ (p : Place). place_along p (count_by begins_char (take c.args.len rest))) c.requires.here
    ∙ sym (place_counted c.args.place.file c.args.bytes.now c.args.at c.args.len c.args.kind c.requires.within
    c.requires.token none)
