-- Lines, one after another.
use Rattle.std.proofs.Common.{◌≡◌, ℕ, suc, ◌+◌, ◌<◌, ◌≤◌, Bool, true, false, cond, List, [], ◌∷◌, ◌++◌, eqb, length}
use Rattle.std.proofs.Common.{take, drop, add-one, ap, sym, ◌∙◌, refl, append_assoc, arith}
use Rattle.std.specs.List.{onto_first}
use Rattle.ninja_lines.specs.Meaning.{lines, line_feed}
use Rattle.ninja_lines.specs.Inside.{line_length}

line_off_by : (b : ℕ) (bytes : List ℕ) (e : Bool)
    → (0 < length bytes → lines bytes ≡ take (line_length bytes) bytes ∷ lines (drop (suc (line_length bytes)) bytes))
    → cond e ([] ∷ lines bytes) (onto_first b (lines bytes)) ≡ take (cond e 0 (suc (line_length bytes))) (b ∷ bytes)
    ∷ lines (drop (suc (cond e 0 (suc (line_length bytes)))) (b ∷ bytes))
line_off_by b bytes true more = refl
line_off_by b [] false more = refl
line_off_by b (c ∷ bytes) false more = ap (onto_first b) (more (omega arith))

-- one line taken off
pub line_off : (bytes : List ℕ) → 0 < length bytes
    → lines bytes ≡ take (line_length bytes) bytes ∷ lines (drop (suc (line_length bytes)) bytes)
line_off [] h = absurd (omega arith)
line_off (b ∷ bytes) h = line_off_by b bytes (eqb b line_feed) (λ k. line_off bytes k)

length_within : (e : Bool) (m n : ℕ) → m ≤ n → cond e 0 (suc m) ≤ suc n
length_within true m n h = omega arith
length_within false m n h = omega arith

pub line_length_within : (bytes : List ℕ) → line_length bytes ≤ length bytes
line_length_within [] = omega arith
line_length_within (b ∷ bytes) =
    length_within (eqb b line_feed) (line_length bytes) (length bytes) (line_length_within bytes)

-- a line is put behind those that are there
pub line_put : (rest text : List ℕ) (front : List (List ℕ)) (end : ℕ) → end ≡ line_length rest → 0 < length rest
    → front ++ lines rest ≡ lines text → (front ++ take end rest ∷ []) ++ lines (drop (end + 1) rest) ≡ lines text
line_put rest text front end is h whole =
    let off : lines rest ≡ take end rest ∷ lines (drop (end + 1) rest) = rw (add-one, is) (line_off rest h) in
    rw append_assoc (ap (λ x. front ++ x) (sym off) ∙ whole)

more_lines : (b : ℕ) (found : List (List ℕ)) (n : ℕ) (e : Bool) → length found ≤ n
    → length (cond e ([] ∷ found) (onto_first b found)) ≤ suc n
more_lines b found n true h = omega arith
more_lines b [] n false h = omega arith
more_lines b (line ∷ found) n false h = omega arith

-- each line takes a byte at least
pub length-lines : (text : List ℕ) → length (lines text) ≤ length text
length-lines [] = omega arith
length-lines (b ∷ text) = more_lines b (lines text) (length text) (eqb b line_feed) (length-lines text)
