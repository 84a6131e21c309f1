-- Where a text may be cut: before and behind a byte that is escaped.
use Rattle.std.proofs.Common.{◌≡◌, ℕ, ◌+◌, ◌<◌, true, List, length, length-drop, drop, get_or, Some, IsUtf8, arith, ap}
use Rattle.std.proofs.Common.{◌∙◌}
use Rattle.std.proofs.lemmas.Bool.Decides.{nat_tests}
use Rattle.std.proofs.lemmas.List.{get_or-drop}
use Rattle.std.proofs.lemmas.List.Quantifiers.{position-Some}
use Rattle.std.proofs.lemmas.Str.{IsCharBoundary-before_ascii, IsCharBoundary-after_ascii, IsUtf8-drop}
use Rattle.std.specs.List.{position}
use Rattle.std.specs.Str.{IsCharBoundary}
use Rattle.ninja_file.specs.declared.escape.Escape.{Escape}
use Rattle.ninja_file.specs.declared.escape.Escape.TheVariants.{Path, Value}
use Rattle.ninja_file.specs.Escapes.{is_escaped}

escaped_ascii : (escape : Escape) (b : ℕ) → is_escaped escape b ≡ true → b < 128
escaped_ascii Path b h = grind (arith, nat_tests)
escaped_ascii Value b h = grind (arith, nat_tests)

-- the first byte that is escaped, and that it is ASCII
pub first_at : (escape : Escape) (bytes : List ℕ) (at : ℕ) → position (is_escaped escape) bytes ≡ Some at
    → (at < length bytes) × (get_or bytes at 0 < 128)
first_at escape bytes at e =
    let found = position-Some (is_escaped escape) bytes at 0 e in
    (found.0, escaped_ascii escape (get_or bytes at 0) found.1)

pub cut_before : (escape : Escape) (bytes : List ℕ) (at : ℕ) → position (is_escaped escape) bytes ≡ Some at
    → IsCharBoundary bytes at
cut_before escape bytes at e =
    let found = first_at escape bytes at e in IsCharBoundary-before_ascii bytes at found.0 found.1

tail_utf8 : (escape : Escape) (bytes : List ℕ) (at : ℕ) → position (is_escaped escape) bytes ≡ Some at → IsUtf8 bytes
    → IsUtf8 (drop at bytes)
tail_utf8 escape bytes at e utf8 = IsUtf8-drop bytes at utf8 (cut_before escape bytes at e)

pub cut_behind : (escape : Escape) (bytes tail : List ℕ) (at : ℕ) → position (is_escaped escape) bytes ≡ Some at
    → tail ≡ drop at bytes → IsUtf8 bytes → IsCharBoundary tail 1
cut_behind escape bytes tail at e is utf8 =
    let found = first_at escape bytes at e in
    let some : 0 < length tail = rw is (omega (arith, length-drop at bytes, found.0)) in
    let here : at + 0 ≡ at = omega arith in
    let same : get_or (drop at bytes) 0 0 ≡ get_or bytes at 0 =
    get_or-drop at bytes 0 0 ∙ ap (λ n. get_or bytes n 0) here in
    let ascii : get_or tail 0 0 < 128 = rw (is, same) found.1 in
    IsCharBoundary-after_ascii tail 0 (rw is (tail_utf8 escape bytes at e utf8)) some ascii

-- what stands behind that byte is text
pub rest_utf8 : (escape : Escape) (bytes tail rest : List ℕ) (at : ℕ) → position (is_escaped escape) bytes ≡ Some at
    → tail ≡ drop at bytes → rest ≡ drop 1 tail → IsUtf8 bytes → IsUtf8 rest
rest_utf8 escape bytes tail rest at e is behind utf8 =
    rw behind
    (IsUtf8-drop tail 1 (rw is (tail_utf8 escape bytes at e utf8)) (cut_behind escape bytes tail at e is utf8))
