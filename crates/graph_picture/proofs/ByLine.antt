-- How bytes are read, line after line.
use Rattle.std.proofs.Common.{◌≡◌, ◌∙◌, ◌+◌, ◌<◌, ◌≤◌, ◌++◌, ℕ, List, [], ◌∷◌, length, get_or, ap, sym, subst, refl}
use Rattle.std.proofs.Common.{arith, append_assoc, length-append, Some}
use Rattle.std.specs.List.{flat_map}
use Rattle.std.proofs.lemmas.List.{get_or_at}
use Rattle.graph_picture.specs.declared.variant.Variant.{Variant}
use Rattle.graph_picture.specs.Inside.{IsFirstLine, IsRead}
use Rattle.graph_nodes.specs.Numbered.{by_number}
use Rattle.graph_picture.specs.Lines.{HasNo, variant_lines, all_variant_lines, variants_text}
use Rattle.graph_picture.specs.Reading.{IsStray, Stops}
use Rattle.graph_picture.proofs.Parts.{cut_once}
use Rattle.bp_faults.specs.Characters.{ended_line}

-- there are at most as many lines as bytes
pub ended_few : (lines : List (List ℕ)) → length lines ≤ length (flat_map ended_line lines)
ended_few [] = omega arith
ended_few (line ∷ lines) =
    omega (
      arith,
      ended_few lines,
      length-append (ended_line line) (flat_map ended_line lines),
      length-append line (10 ∷ []),
    )

end_apart : (line behind : List ℕ) → ended_line line ++ behind ≡ line ++ (10 ∷ behind)
end_apart line behind = append_assoc line (10 ∷ []) behind

module _ (bytes : List ℕ) (vs : List Variant) (rest : List ℕ) (n : ℕ) (r : IsRead bytes vs rest n) where
  pub few_read : 0 < length rest → n < length bytes
  few_read some =
      omega (
        arith,
        r.line_is,
        ended_few (all_variant_lines vs),
        ap length r.whole,
        length-append (variants_text vs) rest,
      )

  stops : 0 < length rest
      → ((line behind : List ℕ) → HasNo 10 line → rest ≡ ended_line line ++ behind → IsStray vs line)
      → Stops bytes (n + 1)
  stops some stray = record {
    before = vs;
    rest = rest;
    each = r.each;
    whole = r.whole;
    some = some;
    stray = stray;
    number_is = let e = r.line_is in omega arith;
  }

  pub stops_open : 0 < length rest → HasNo 10 rest → Stops bytes (n + 1)
  stops_open some none =
      stops some
      (λ line behind plain e.
      absurd (none (length line) 0
      (omega (arith, ap length (e ∙ end_apart line behind), length-append line (10 ∷ behind)))
      (ap (λ (l : List ℕ). get_or l (length line) 0) (e ∙ end_apart line behind)
      ∙ get_or_at line 10 behind 0 (length line) refl)))

  pub stops_stray : 0 < length rest → (line behind : List ℕ) → IsFirstLine rest (Some (line, behind)) → IsStray vs line
      → Stops bytes (n + 1)
  stops_stray some line behind f stray =
      stops some
      (λ other more plain e.
      subst (IsStray vs)
      (cut_once 10 line behind other more f.0 plain
      (sym (end_apart line behind) ∙ (sym f.1 ∙ (e ∙ end_apart other more)))).0
      stray)

lines_few : (k : ℕ) (vs : List Variant) → length vs ≤ length (by_number variant_lines k vs)
lines_few k [] = omega arith
lines_few k (v ∷ vs) =
    omega (arith, lines_few (k + 1) vs, length-append (variant_lines k v) (by_number variant_lines (k + 1) vs))

-- there are at most as many variants as bytes
pub variants_few : (vs : List Variant) → length vs ≤ length (variants_text vs)
variants_few vs = omega (arith, lines_few 0 vs, ended_few (all_variant_lines vs))
