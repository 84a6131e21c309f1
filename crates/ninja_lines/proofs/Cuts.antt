-- Cutting one part off.
use Rattle.std.proofs.Common.{◌≡◌, ◌++◌, append_assoc, ℕ, suc, ◌+◌, ◌<◌, ◌≤◌, add-one, drop-cons, sym, ◌∙◌, Bool, true}
use Rattle.std.proofs.Common.{false, cond, List, [], ◌∷◌, eqb, eqb-true, length, take, drop, get_or, ap, refl, arith}
use Rattle.std.specs.List.{onto_first}
use Rattle.ninja_lines.specs.Cuts.{parts_between}
use Rattle.ninja_lines.specs.Inside.{reach}
use Rattle.bp_faults.specs.Characters.{dollar}

-- what cutting one part off gives
abbrev IsCutOff : ℕ → List (List ℕ) → ℕ → List ℕ → Type 0
IsCutOff at parts end bytes = parts ≡ take end bytes ∷ parts_between at false (drop (suc end) bytes)

-- one byte more
onto : (at b : ℕ) (parts : List (List ℕ)) (end : ℕ) (bytes : List ℕ) → IsCutOff at parts end bytes
    → IsCutOff at (onto_first b parts) (suc end) (b ∷ bytes)
onto at b parts end bytes h = ap (onto_first b) h

-- a byte that no dollar takes with it is a dollar, the byte at which is cut, or another
abbrev pub by_byte : {A : Type 0} → Bool → Bool → A → A → A → A
by_byte is_dollar is_at dollar_case at_case other = cond is_dollar dollar_case (cond is_at at_case other)

cut_off_by : (at b : ℕ) (bytes : List ℕ) (d e : Bool)
    → (reach at true bytes < length bytes → IsCutOff at (parts_between at true bytes) (reach at true bytes) bytes)
    → (reach at false bytes < length bytes → IsCutOff at (parts_between at false bytes) (reach at false bytes) bytes)
    → by_byte d e (suc (reach at true bytes)) 0 (suc (reach at false bytes)) < suc (length bytes)
    → IsCutOff at (by_byte d e (onto_first b (parts_between at true bytes)) ([] ∷ parts_between at false bytes)
    (onto_first b (parts_between at false bytes)))
    (by_byte d e (suc (reach at true bytes)) 0 (suc (reach at false bytes))) (b ∷ bytes)
cut_off_by at b bytes true e taken free h =
    onto at b (parts_between at true bytes) (reach at true bytes) bytes (taken (omega arith))
cut_off_by at b bytes false true taken free h = refl
cut_off_by at b bytes false false taken free h =
    onto at b (parts_between at false bytes) (reach at false bytes) bytes (free (omega arith))

pub cut_off : (at : ℕ) (behind : Bool) (bytes : List ℕ) → reach at behind bytes < length bytes
    → IsCutOff at (parts_between at behind bytes) (reach at behind bytes) bytes
cut_off at behind [] h = absurd (omega arith)
cut_off at true (b ∷ bytes) h =
    onto at b (parts_between at false bytes) (reach at false bytes) bytes (cut_off at false bytes (omega arith))
cut_off at false (b ∷ bytes) h =
    cut_off_by at b bytes (eqb b dollar) (eqb b at) (λ k. cut_off at true bytes k) (λ k. cut_off at false bytes k) h

cut_whole_by : (at b : ℕ) (bytes : List ℕ) (d e : Bool)
    → (reach at true bytes ≡ length bytes → parts_between at true bytes ≡ bytes ∷ [])
    → (reach at false bytes ≡ length bytes → parts_between at false bytes ≡ bytes ∷ [])
    → by_byte d e (suc (reach at true bytes)) 0 (suc (reach at false bytes)) ≡ suc (length bytes)
    → by_byte d e (onto_first b (parts_between at true bytes)) ([] ∷ parts_between at false bytes)
    (onto_first b (parts_between at false bytes)) ≡ (b ∷ bytes) ∷ []
cut_whole_by at b bytes true e taken free h = ap (onto_first b) (taken (omega arith))
cut_whole_by at b bytes false true taken free h = absurd (omega arith)
cut_whole_by at b bytes false false taken free h = ap (onto_first b) (free (omega arith))

pub cut_whole : (at : ℕ) (behind : Bool) (bytes : List ℕ) → reach at behind bytes ≡ length bytes
    → parts_between at behind bytes ≡ bytes ∷ []
cut_whole at behind [] h = refl
cut_whole at true (b ∷ bytes) h = ap (onto_first b) (cut_whole at false bytes (omega arith))
cut_whole at false (b ∷ bytes) h =
    cut_whole_by at b bytes (eqb b dollar) (eqb b at) (λ k. cut_whole at true bytes k)
    (λ k. cut_whole at false bytes k) h

reach_at_by : (at b : ℕ) (bytes : List ℕ) (d e : Bool) → eqb b at ≡ e
    → (reach at true bytes < length bytes → get_or bytes (reach at true bytes) 0 ≡ at)
    → (reach at false bytes < length bytes → get_or bytes (reach at false bytes) 0 ≡ at)
    → by_byte d e (suc (reach at true bytes)) 0 (suc (reach at false bytes)) < suc (length bytes)
    → get_or (b ∷ bytes) (by_byte d e (suc (reach at true bytes)) 0 (suc (reach at false bytes))) 0 ≡ at
reach_at_by at b bytes true e is taken free h = taken (omega arith)
reach_at_by at b bytes false true is taken free h = eqb-true b at is
reach_at_by at b bytes false false is taken free h = free (omega arith)

-- where a part ends, the byte stands
pub reach_at : (at : ℕ) (behind : Bool) (bytes : List ℕ) → reach at behind bytes < length bytes
    → get_or bytes (reach at behind bytes) 0 ≡ at
reach_at at behind [] h = absurd (omega arith)
reach_at at true (b ∷ bytes) h = reach_at at false bytes (omega arith)
reach_at at false (b ∷ bytes) h =
    reach_at_by at b bytes (eqb b dollar) (eqb b at) refl (λ k. reach_at at true bytes k)
    (λ k. reach_at at false bytes k) h

within : (d e : Bool) (taken free n : ℕ) → taken ≤ n → free ≤ n → by_byte d e (suc taken) 0 (suc free) ≤ suc n
within true e taken free n h k = omega arith
within false true taken free n h k = omega arith
within false false taken free n h k = omega arith

-- one byte of a way
pub reach-drop : (at : ℕ) (behind : Bool) (bytes : List ℕ) (i : ℕ) → i < length bytes
    → reach at behind (drop i bytes) ≡ cond behind (suc (reach at false (drop (i + 1) bytes)))
    (by_byte (eqb (get_or bytes i 0) dollar) (eqb (get_or bytes i 0) at) (suc (reach at true (drop (i + 1) bytes))) 0
    (suc (reach at false (drop (i + 1) bytes))))
reach-drop at true bytes i h =
    ap (reach at true) (drop-cons bytes i 0 h) ∙ ap (λ j. suc (reach at false (drop j bytes))) (sym (add-one i))
reach-drop at false bytes i h =
    ap (reach at false) (drop-cons bytes i 0 h)
    ∙ ap (λ j. by_byte (eqb (get_or bytes i 0) dollar) (eqb (get_or bytes i 0) at)
    (suc (reach at true (drop j bytes))) 0 (suc (reach at false (drop j bytes)))) (sym (add-one i))

-- a part is put behind those that are there
pub part_put : (at : ℕ) (rest text : List ℕ) (front : List (List ℕ)) (end : ℕ) → end ≡ reach at false rest
    → end < length rest → front ++ parts_between at false rest ≡ parts_between at false text
    → (front ++ take end rest ∷ []) ++ parts_between at false (drop (end + 1) rest) ≡ parts_between at false text
part_put at rest text front end is h whole =
    let off : parts_between at false rest ≡ take end rest ∷ parts_between at false (drop (end + 1) rest) =
    rw (add-one, is) (cut_off at false rest (rw (← is) h)) in
    rw append_assoc (ap (λ x. front ++ x) (sym off) ∙ whole)

-- the last part is put behind those that are there
pub last_put : (at : ℕ) (rest text : List ℕ) (front : List (List ℕ)) (end : ℕ) → end ≡ reach at false rest
    → end ≡ length rest → front ++ parts_between at false rest ≡ parts_between at false text
    → front ++ rest ∷ [] ≡ parts_between at false text
last_put at rest text front end is h whole = ap (λ x. front ++ x) (sym (cut_whole at false rest (sym is ∙ h))) ∙ whole

pub ends_before_ascii : (at : ℕ) (rest : List ℕ) (end : ℕ) → end ≡ reach at false rest → end < length rest → at < 128
    → get_or rest end 0 < 128
ends_before_ascii at rest end is h ascii =
    let e : get_or rest end 0 ≡ at = rw is (reach_at at false rest (rw (← is) h)) in omega arith

pub reach_within : (at : ℕ) (behind : Bool) (bytes : List ℕ) → reach at behind bytes ≤ length bytes
reach_within at behind [] = omega arith
reach_within at true (b ∷ bytes) = let h = reach_within at false bytes in omega arith
reach_within at false (b ∷ bytes) =
    let h = reach_within at false bytes in
    let k = reach_within at true bytes in
    within (eqb b dollar) (eqb b at) (reach at true bytes) (reach at false bytes) (length bytes) k h
