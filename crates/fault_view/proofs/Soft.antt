-- What is read from a store, where no read fails.
use Rattle.std.proofs.Common.{◌≡◌, ◌<◌, ◌≤◌, ◌+◌, ◌-◌, ◌^◌, min, ℕ, zero, suc, length, drop, map, get_or, List, [], ◌∷◌}
use Rattle.std.proofs.Common.{◌++◌, Option, Some, None, refl, arith, sym, ap, subst, ◌∙◌, append_assoc, append-nil}
use denote.Ref.{Bor}
use Rattle.bp_ports.specs.Causes.{Rose}
use Rattle.bp_ports.specs.Files.{Files}
use Rattle.fault_view.specs.View.{Softly, AreFileNames, AreAllNames}

-- a count that rose stays so
pub rose_first : (a b c : ℕ) → Rose a b → b ≤ c → Rose a c
rose_first a b c rose le = omega (arith, rose)

min_more : (a b top : ℕ) → a ≤ b → min (a + 1) top ≤ min (b + 1) top
min_more a b top le = omega arith

pub rose_last : (a b c : ℕ) → a ≤ b → Rose b c → Rose a c
rose_last a b c le rose = omega (arith, min_more a b (2 ^ 64 - 1) le, rose)

-- what holds where no read fails of two steps holds of both
pub softly_both : (told : Option Files) (a b c : ℕ) (P Q R : Files → Type 0) → a ≤ b → b ≤ c
    → ((files : Files) → P files → Q files → R files) → Softly told a b P → Softly told b c Q → Softly told a c R
softly_both None a b c P Q R ab bc both p q = tt
softly_both (Some files) a b c P Q R ab bc both p q = λ quiet.
    both files (p (λ rose. quiet (rose_first a b c rose bc))) (q (λ rose. quiet (rose_last a b c ab rose)))

pub softly_map : (told : Option Files) (a b : ℕ) (P Q : Files → Type 0)
    → ((files : Files) → P files → Q files) → Softly told a b P → Softly told a b Q
softly_map None a b P Q more p = tt
softly_map (Some files) a b P Q more p = λ quiet. more files (p quiet)

pub softly_later : (told : Option Files) (a b c : ℕ) (P : Files → Type 0) → b ≤ c → Softly told a b P
    → Softly told a c P
softly_later None a b c P bc p = tt
softly_later (Some files) a b c P bc p = λ quiet. p (λ rose. quiet (rose_first a b c rose bc))

pub softly_always : (told : Option Files) (a b : ℕ) (P : Files → Type 0) → ((files : Files) → P files)
    → Softly told a b P
softly_always None a b P always = tt
softly_always (Some files) a b P always = λ quiet. always files

-- where the reading of files stands: which paths are left, and which names those before them have
pub record ReadsOn (told : Option Files) (before now : ℕ) (all left names : List (List ℕ)) : Type 0 where
  pub later : before ≤ now
  pub exact : Softly told before now
      (λ files. (more : List (List ℕ)) → AreAllNames files left more → AreAllNames files all (names ++ more))

pub reads_next : (told : Option Files) (a b c : ℕ) (all left rest : List (List ℕ)) (path : List ℕ)
    (names more new : List (List ℕ)) → left ≡ path ∷ rest → b ≤ c → new ≡ names ++ more
    → Softly told b c (λ files. AreFileNames files path more) → ReadsOn told a b all left names
    → ReadsOn told a c all rest new
reads_next told a b c all left rest path names more new is bc put here s = record {
  later = omega (arith, s.later);
  exact = softly_both told a b c _ _ _ s.later bc
      (λ files view first others h.
      subst (λ xs. AreAllNames files all xs) (sym (append_assoc names more others) ∙ ap (λ xs. xs ++ others) (sym put))
      (view (more ++ others)
      (subst (λ paths. AreAllNames files paths (more ++ others)) (sym is) (more, others, refl, first, h))))
      s.exact here;
}

pub reads_last : (told : Option Files) (a b : ℕ) (all left names : List (List ℕ)) → left ≡ []
    → ReadsOn told a b all left names → Softly told a b (λ files. AreAllNames files all names)
reads_last told a b all left names is s =
    softly_map told a b _ _
    (λ files view. subst (λ xs. AreAllNames files all xs) (append-nil names)
    (view [] (subst (λ paths. AreAllNames files paths []) (sym is) refl))) s.exact

first_and_rest : {A : Type 0} (xs : List A) (i : ℕ) (d : A) → i < length xs
    → drop i xs ≡ get_or xs i d ∷ drop (suc i) xs
first_and_rest [] i d lt = absurd (omega arith)
first_and_rest (x ∷ xs) zero d lt = refl
first_and_rest (x ∷ xs) (suc i) d lt = first_and_rest xs i d (omega arith)

-- the paths that are left are the next one and those behind it
pub path_and_rest : (paths : List (Bor (List ℕ))) (i : ℕ) (d : Bor (List ℕ)) (path : List ℕ) → i < length paths
    → path ≡ (get_or paths i d).now
    → map (λ p. p.now) (drop i paths) ≡ path ∷ map (λ p. p.now) (drop (i + 1) paths)
path_and_rest paths i d path lt is =
    let one : suc i ≡ i + 1 = omega arith in
    ap (λ ps. map (λ p. p.now) ps) (first_and_rest paths i d lt ∙ ap (λ k. get_or paths i d ∷ drop k paths) one)
    ∙ ap (λ (p : List ℕ). p ∷ map (λ p. p.now) (drop (i + 1) paths)) (sym is)

nothing_left : {A : Type 0} (xs : List A) (i : ℕ) → length xs ≤ i → drop i xs ≡ []
nothing_left [] zero le = refl
nothing_left [] (suc i) le = refl
nothing_left (x ∷ xs) zero le = absurd (omega arith)
nothing_left (x ∷ xs) (suc i) le = nothing_left xs i (omega arith)

pub none_left : (paths : List (Bor (List ℕ))) (i : ℕ) → length paths ≤ i → map (λ p. p.now) (drop i paths) ≡ []
none_left paths i le = ap (λ ps. map (λ p. p.now) ps) (nothing_left paths i le)
