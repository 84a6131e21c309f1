-- The lines of a text that is put together from lines.
use Rattle.std.proofs.Common.{◌≡◌, ℕ, suc, ◌+◌, ◌<◌, Bool, true, false, cond, not, List, [], ◌∷◌, ◌++◌, eqb, length}
use Rattle.std.proofs.Common.{take, drop, get_or, Some, IsUtf8, append_assoc, length-append, ap, sym, subst, ◌∙◌, refl}
use Rattle.std.proofs.Common.{arith}
use Rattle.std.specs.List.{All, flat_map, list_all, onto_first}
use Rattle.std.specs.Str.{is_utf8}
use Rattle.std.proofs.Math.Seq.{get_or-append_seam, take-append_seam}
use Rattle.std.proofs.lemmas.List.Elements.{All-cons}
use Rattle.std.proofs.lemmas.List.Prefix.{front_rest}
use Rattle.std.proofs.lemmas.Str.{IsUtf8-take, IsUtf8-drop, IsCharBoundary-before_ascii, IsCharBoundary-after_ascii}
use Rattle.std.proofs.lemmas.Str.{is_utf8-from_IsUtf8}
use Rattle.ninja_lines.specs.Meaning.{JoinedLine, lines, joined_from, dangles}
use Rattle.ninja_write.specs.Laws.{IsOneLine}
use Rattle.std.proofs.lemmas.Bool.{and_parts}
use Rattle.bp_faults.specs.Characters.{ended_line}

-- lines with their numbers
abbrev pub plain : ℕ → List (List ℕ) → List JoinedLine
plain n [] = []
plain n (line ∷ more) = record { number = n; text = Some line } ∷ plain (n + 1) more

line_by : (b : ℕ) (line rest found : List ℕ) (more : List (List ℕ)) (e : Bool) → not e ≡ true
    → lines found ≡ line ∷ more → cond e ([] ∷ lines found) (onto_first b (lines found)) ≡ (b ∷ line) ∷ more
line_by b line rest found more true h is = absurd (cc)
line_by b line rest found more false h is = ap (onto_first b) is

line_ended : (line rest : List ℕ) → IsOneLine line → lines (line ++ 10 ∷ rest) ≡ line ∷ lines rest
line_ended [] rest h = refl
line_ended (b ∷ line) rest h =
    line_by b line rest (line ++ 10 ∷ rest) (lines rest) (eqb b 10)
    ((and_parts (not (eqb b 10)) (list_all (λ c. not (eqb c 10)) line) h).0)
    (line_ended line rest ((and_parts (not (eqb b 10)) (list_all (λ c. not (eqb c 10)) line) h).1))

pub lines_joined : (list : List (List ℕ)) → All IsOneLine list → lines (flat_map ended_line list) ≡ list
lines_joined [] h = refl
lines_joined (line ∷ list) h =
    ap lines (append_assoc line (10 ∷ []) (flat_map ended_line list))
    ∙ line_ended line (flat_map ended_line list) (h 0 line (omega arith))
    ∙ ap (λ x. line ∷ x) (lines_joined list (λ k d inside. h (suc k) d (omega arith)))

-- no line has a dollar open at its end
abbrev pub AreWhole : List (List ℕ) → Type 0
AreWhole list = list_all (λ line. not (dangles false line)) list ≡ true

closed_of : (e : Bool) → not e ≡ true → e ≡ false
closed_of true h = absurd (cc)
closed_of false h = refl

pub joined_plain : (n : ℕ) (list : List (List ℕ)) → All (λ line. is_utf8 line ≡ true) list → AreWhole list
    → joined_from n list ≡ plain n list
joined_plain n [] utf8 whole = refl
joined_plain n (line ∷ list) utf8 whole =
    let u : is_utf8 line ≡ true = utf8 0 line (omega arith) in
    let w : dangles false line ≡ false = closed_of (dangles false line)
    ((and_parts (not (dangles false line)) (list_all (λ l. not (dangles false l)) list) whole).0) in
    rw (u, w) (ap (λ x. record { number = n; text = Some line } ∷ x)
    (joined_plain (n + 1) list (λ k d inside. utf8 (suc k) d (omega arith))
    ((and_parts (not (dangles false line)) (list_all (λ l. not (dangles false l)) list) whole).1)))

-- text before and behind an LF
cut_utf8 : (line rest : List ℕ) → IsUtf8 (line ++ 10 ∷ rest) → IsUtf8 line × IsUtf8 rest
cut_utf8 line rest utf8 =
    let text : List ℕ = line ++ 10 ∷ rest in
    let inside : length line < length text = omega (arith, length-append line (10 ∷ rest)) in
    let ascii : get_or text (length line) 0 < 128 = rw (get_or-append_seam line 10 rest 0) (omega arith) in
    let front : take (length line) text ≡ line = take-append_seam line (10 ∷ rest) in
    let behind : drop (length line + 1) text ≡ rest =
    ap (λ n. drop n text) (sym (length-append line (10 ∷ [])))
    ∙ front_rest text (line ++ 10 ∷ []) rest (sym (append_assoc line (10 ∷ []) rest)) in (
      subst IsUtf8 front
          (IsUtf8-take text (length line) utf8 (IsCharBoundary-before_ascii text (length line) inside ascii)),
      subst IsUtf8 behind
          (IsUtf8-drop text (length line + 1) utf8 (IsCharBoundary-after_ascii text (length line) utf8 inside ascii)),
    )

pub utf8_lines : (list : List (List ℕ)) → IsUtf8 (flat_map ended_line list) → All (λ line. is_utf8 line ≡ true) list
utf8_lines [] utf8 = λ k d inside. absurd (omega arith)
utf8_lines (line ∷ list) utf8 =
    let parts = cut_utf8 line (flat_map ended_line list)
    (subst IsUtf8 (append_assoc line (10 ∷ []) (flat_map ended_line list)) utf8) in
    All-cons (λ l. is_utf8 l ≡ true) line list (is_utf8-from_IsUtf8 line parts.0) (utf8_lines list parts.1)
