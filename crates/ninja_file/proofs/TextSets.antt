-- Texts that are looked up by their bytes, and texts that differ.
use Rattle.std.proofs.Common.{◌≡◌, ℕ, ◌+◌, ◌<◌, Bool, true, false, cond, not, List, [], ◌||◌, map, length, take, get_or}
use Rattle.std.proofs.Common.{length-take, Bor, arith, ap, refl, sym, ◌∙◌}
use Rattle.std.proofs.lemmas.Cmp.{nat_list_eq_equiv}
use Rattle.std.proofs.lemmas.List.{take_more, get_or-map, get_or-take, get_or_default, length-map}
use Rattle.std.proofs.lemmas.List.Folds.{list_any_more, Any-from_list_any}
use Rattle.std.proofs.lemmas.Map.Keys.{IsDistinct-push, IsDistinct-from_apart}
use Rattle.std.proofs.lemmas.Map.Made.{AllPairs-from_IsDistinct}
use Rattle.std.proofs.lemmas.Slice.Eq.{bytes_eq-Decides}
use Rattle.std.specs.List.{list_any, IsDistinct}
use Rattle.std.specs.Str.{bytes_eq}
use Rattle.bp_names.specs.Meaning.{knows, Learns, IsSetOf}
use Rattle.ninja_file.specs.Meaning.{AllDiffer}

-- where a text is in memory doesn't matter
abbrev pub none : Bor (List ℕ)
none = record { ref_ptr = (0, 0); now = [] }

either : (old new : Bool) → cond new true old ≡ (old || new)
either true true = refl
either true false = refl
either false true = refl
either false false = refl

-- one more text
pub IsSetOf-more : (xs : List (Bor (List ℕ))) (i : ℕ) (s n : List (List ℕ)) → i < length xs
    → Learns s (get_or xs i none).now n → IsSetOf (take i (map (λ t. t.now) xs)) s
    → IsSetOf (take (i + 1) (map (λ t. t.now) xs)) n
IsSetOf-more xs i s n h updates set = λ q.
    let ys = map (λ t. t.now) xs in
    let here : get_or ys i [] ≡ (get_or xs i none).now = get_or-map (λ t. t.now) xs i none [] h in
    let more : list_any (bytes_eq q) (take (i + 1) ys) ≡ (list_any (bytes_eq q) (take i ys)
    || bytes_eq q (get_or ys i [])) = list_any_more (bytes_eq q) ys i [] (simp length-map h) in
    updates q
    ∙ ap (λ b. cond b true (knows s q)) (nat_list_eq_equiv.symm (get_or xs i none).now q ∙ ap (bytes_eq q) (sym here))
    ∙ ap (cond (bytes_eq q (get_or ys i [])) true) (set q)
    ∙ either (list_any (bytes_eq q) (take i ys)) (bytes_eq q (get_or ys i []))
    ∙ sym more

turned : (a b : Bool) → b ≡ not a → a ≡ not b
turned true b e = sym (ap not e)
turned false b e = sym (ap not e)

-- what a set answers of the next text says whether it stands before
pub list_any-added : (xs : List (Bor (List ℕ))) (i : ℕ) (s : List (List ℕ)) (added : Bool) → i < length xs
    → added ≡ not (knows s (get_or xs i none).now) → IsSetOf (take i (map (λ t. t.now) xs)) s
    → list_any (bytes_eq (get_or (map (λ t. t.now) xs) i [])) (take i (map (λ t. t.now) xs)) ≡ not added
list_any-added xs i s added h e set =
    let here : get_or (map (λ t. t.now) xs) i [] ≡ (get_or xs i none).now = get_or-map (λ t. t.now) xs i none [] h in
    rw here (sym (set (get_or xs i none).now) ∙ turned _ added e)

pub IsDistinct-more : (ys : List (List ℕ)) (i : ℕ) → i < length ys → IsDistinct bytes_eq (take i ys)
    → list_any (bytes_eq (get_or ys i [])) (take i ys) ≡ false → IsDistinct bytes_eq (take (i + 1) ys)
IsDistinct-more ys i h before new =
    rw (take_more ys i [] h) (IsDistinct-push nat_list_eq_equiv (take i ys) (get_or ys i []) before new)

-- a text that stands before too
pub seen : (ys : List (List ℕ)) (i : ℕ) → i < length ys → list_any (bytes_eq (get_or ys i [])) (take i ys) ≡ true
    → AllDiffer ys → ⊥
seen ys i h old differ =
    let found : (k : ℕ) × (x : List ℕ) × (k < length (take i ys)) × (get_or (take i ys) k x ≡ x)
    × (bytes_eq (get_or ys i []) x ≡ true) = Any-from_list_any (bytes_eq (get_or ys i [])) (take i ys) old in
    let before : found.0 < i = omega (arith, length-take {A = List ℕ}, found.2) in
    let same : get_or ys i [] ≡ found.1 = (bytes_eq-Decides _ _).0 found.4 in
    differ found.0 i found.1 before h
    (sym (get_or-take i ys found.0 found.1 before) ∙ found.3 ∙ sym same ∙ get_or_default ys i [] found.1 h)

pub IsDistinct-none : IsDistinct bytes_eq []
IsDistinct-none = IsDistinct-from_apart bytes_eq [] (λ i j d before inside. absurd (omega arith))

pub AllDiffer-from_IsDistinct : (ys : List (List ℕ)) → IsDistinct bytes_eq ys → AllDiffer ys
AllDiffer-from_IsDistinct ys h = AllPairs-from_IsDistinct bytes_eq-Decides ys h
