-- Lists that mean each other, item by item.
use Rattle.std.proofs.Common.{◌≡◌, ℕ, ◌+◌, List, [], ◌∷◌, ◌++◌, length, map, subst, ap, sym, refl, ◌∙◌, arith, suc}
use Rattle.std.specs.Prelude.{Result, Ok}
use Rattle.bp_faults.specs.declared.fault.Fault.{Fault}
use Rattle.std.proofs.lemmas.Simd.{map-map}
use Rattle.bp_load.specs.Directories.{directories}
use Rattle.bp_faults.specs.Phases.{Each}
use Rattle.bp_load.specs.Texts.{AsText}
use Rattle.bp_load.specs.Trees.{Source, Placed, placed_file, SourceTextMeans, SourceFileMeans}
use Rattle.bp_load.proofs.AsTexts.{then_value}

-- one more at the end
pub each_push : {A B : Type 0} (Means : ℕ → A → Result B Fault → Type 0) (n : ℕ) (xs : List A) (ys : List B) (x : A)
    (y : B) → Each Means n xs ys → Means (n + length xs) x (Ok y) → Each Means n (xs ++ x ∷ []) (ys ++ y ∷ [])
each_push Means n [] [] x y each last = (subst (λ k. Means k x (Ok y)) (omega arith) last, tt)
each_push Means n [] (v ∷ ys) x y each last = absurd each
each_push Means n (u ∷ xs) [] x y each last = absurd each
each_push Means n (u ∷ xs) (v ∷ ys) x y each last =
    (each.0, each_push Means (n + 1) xs ys x y each.1 (subst (λ k. Means k x (Ok y)) (omega arith) last))

pub each_length : {A B : Type 0} (Means : ℕ → A → Result B Fault → Type 0) (n : ℕ) (xs : List A) (ys : List B)
    → Each Means n xs ys → length ys ≡ length xs
each_length Means n [] [] each = refl
each_length Means n [] (v ∷ ys) each = absurd each
each_length Means n (u ∷ xs) [] each = absurd each
each_length Means n (u ∷ xs) (v ∷ ys) each = ap suc (each_length Means (n + 1) xs ys each.1)

-- what the items and what they mean have in common
pub each_same : {A B C : Type 0} (Means : ℕ → A → Result B Fault → Type 0) (f : A → C) (g : B → C)
    → ((n : ℕ) (x : A) (y : B) → Means n x (Ok y) → g y ≡ f x) → (n : ℕ) (xs : List A) (ys : List B)
    → Each Means n xs ys → map g ys ≡ map f xs
each_same Means f g same n [] [] each = refl
each_same Means f g same n [] (v ∷ ys) each = absurd each
each_same Means f g same n (u ∷ xs) [] each = absurd each
each_same Means f g same n (u ∷ xs) (v ∷ ys) each =
    let head : g v ≡ f u = same n u v each.0 in
    let rest : map g ys ≡ map f xs = each_same Means f g same (n + 1) xs ys each.1 in
    cc

same_directory : (n : ℕ) (file : Source) (p : Placed) → SourceFileMeans n file (Ok p) → p.directory ≡ directories file.0
same_directory n file p means =
    let found =
    then_value (AsText n file.1 (SourceTextMeans n file.1)) (λ tree o. Ok (placed_file file.0 tree) ≡ o) p means in
    let same = found.2 in
    let is : p ≡ placed_file file.0 found.0 = cc in
    ap (λ (q : Placed). q.directory) is

-- files as they are parsed stand in the directories of their paths
pub each_directories : (files : List Source) (ps : List Placed) → Each SourceFileMeans 1 files ps
    → map (λ p. p.directory) ps ≡ map directories (map (λ f. f.0) files)
each_directories files ps each =
    each_same SourceFileMeans (λ f. directories f.0) (λ p. p.directory) same_directory 1 files ps each
    ∙ sym (map-map directories (λ f. f.0) files)
