-- A synthetic file is short.
use Rattle.std.proofs.Common.{◌≡◌, ◌<◌, ◌≤◌, ◌+◌, ◌*◌, ◌%◌, ◌^◌, ℕ, zero, suc, Bool, true, false, List, [], ◌∷◌, ◌++◌}
use Rattle.std.proofs.Common.{length, length-append, refl, arith}
use Rattle.std.specs.Prelude.{codes, decimal, ◌==◌, if◌then◌else◌}
use Rattle.std.specs.List.{flat_map, range_with_len}
use Rattle.std.proofs.lemmas.Bool.Decides.{Decides-eqb, not_from_Decides}
use Rattle.std.proofs.lemmas.Fmt.{length-decimal-le}
use Rattle.bp_faults.specs.declared.limits.TheConstants.{LARGEST_FILE, MOST_SYNTHETIC_MODULES}
use Rattle.synthetic_tree.specs.Modules.{near_dependency, far_dependency, index_in_file, dependencies, names_text}
use Rattle.synthetic_tree.specs.Modules.{quoted_name, type_text, end_text, is_sanitized, module_text}
use Rattle.synthetic_tree.specs.Blocks.{block_text, block_size}

-- What holds of both branches holds of either.
pub at_if : {X : Type 0} (P : X → Type 0) (b : Bool) (x y : X) → P x → P y → P (if b then x else y)
at_if P true x y p q = p
at_if P false x y p q = q

short_decimal : (n : ℕ) → n < 10 ^ 6 → length (decimal n) ≤ 6
short_decimal n small = length-decimal-le 6 n (omega arith) small (omega arith)

near_small : (seed i : ℕ) → i < MOST_SYNTHETIC_MODULES → 0 < index_in_file i → near_dependency seed i < 10 ^ 6
near_small seed i small some =
    let left : (seed + 7 * i) % index_in_file i < index_in_file i = omega arith in
    omega arith

far_small : (seed i : ℕ) → i < MOST_SYNTHETIC_MODULES → 0 < index_in_file i → far_dependency seed i < 10 ^ 6
far_small seed i small some =
    let left : (3 * seed + 11 * i) % index_in_file i < index_in_file i = omega arith in
    omega arith

quoted_short : (n : ℕ) (more : List ℕ) → n < 10 ^ 6 → length (quoted_name n more) ≤ 9 + length more
quoted_short n more small =
    let d = short_decimal n small in
    omega (arith, length-append (decimal n) (34 ∷ more), d)

listed_some : (seed i : ℕ) → i < MOST_SYNTHETIC_MODULES → 0 < index_in_file i
    → length (names_text (if index_in_file i == 1 then near_dependency seed i ∷ []
    else near_dependency seed i ∷ far_dependency seed i ∷ [])) ≤ 20
listed_some seed i small some =
    let one = quoted_short (near_dependency seed i) [] (near_small seed i small some) in
    let last = quoted_short (far_dependency seed i) [] (far_small seed i small some) in
    let two = quoted_short (near_dependency seed i) (codes ", " ++ quoted_name (far_dependency seed i) [])
    (near_small seed i small some) in
    at_if (λ (ds : List ℕ). length (names_text ds) ≤ 20) (index_in_file i == 1) (near_dependency seed i ∷ [])
    (near_dependency seed i ∷ far_dependency seed i ∷ []) (omega (arith, one)) (omega (arith, two, last))

listed_at : (seed i : ℕ) (b : Bool) → (index_in_file i == 0) ≡ b → i < MOST_SYNTHETIC_MODULES
    → length (names_text (if b then [] else if index_in_file i == 1 then near_dependency seed i ∷ []
    else near_dependency seed i ∷ far_dependency seed i ∷ [])) ≤ 20
listed_at seed i true is small = omega arith
listed_at seed i false is small =
    let apart = not_from_Decides (index_in_file i == 0) (Decides-eqb (index_in_file i) 0) is in
    listed_some seed i small (omega (arith, apart))

listed_short : (seed i : ℕ) → i < MOST_SYNTHETIC_MODULES → length (names_text (dependencies seed i)) ≤ 20
listed_short seed i small = listed_at seed i (index_in_file i == 0) refl small

kind_short : (i : ℕ) → length (type_text i) ≤ 17
kind_short i =
    at_if (λ (t : List ℕ). length t ≤ 17) (index_in_file i == 63) (codes "cc_binary") (codes "cc_library_static")
    (omega arith) (omega arith)

end_short : (seed i : ℕ) → length (end_text seed i) ≤ 40
end_short seed i =
    at_if (λ (t : List ℕ). length t ≤ 40) (is_sanitized seed i) (codes "    sanitize: { address: true },\n}\n")
    (codes "}\n") (omega arith) (omega arith)

module_short : (seed i : ℕ) → i < MOST_SYNTHETIC_MODULES → length (module_text seed i) ≤ 300
module_short seed i small =
    let k = kind_short i in
    let d = short_decimal i (omega arith) in
    let l = listed_short seed i small in
    let e = end_short seed i in
    simp length-append (omega (arith, k, d, l, e))

texts_short : (seed a n : ℕ) → a + n ≤ MOST_SYNTHETIC_MODULES
    → length (flat_map (module_text seed) (range_with_len a n)) ≤ 300 * n
texts_short seed a zero small = omega arith
texts_short seed a (suc n) small =
    let one = module_short seed a (omega arith) in
    let more = texts_short seed (a + 1) n (omega arith) in
    omega (
      arith,
      one,
      more,
      length-append (module_text seed a) (flat_map (module_text seed) (range_with_len (a + 1) n)),
    )

pub block_short : (seed modules b : ℕ) → modules ≤ MOST_SYNTHETIC_MODULES → 64 * b < modules
    → length (block_text seed modules b) ≤ LARGEST_FILE
block_short seed modules b few there =
    let h = texts_short seed (64 * b) (block_size modules b) (omega arith) in
    omega (arith, h)
