-- Files read in turn: those that are read, and one more.
use Rattle.std.proofs.Common.{◌≡◌, ◌<◌, ◌+◌, ◌∙◌, ℕ, List, [], ◌∷◌, ◌++◌, length, take, drop, get_or, Result, Ok, Err}
use Rattle.std.proofs.Common.{refl, sym, ap, subst, suc, arith}
use Rattle.std.specs.Result.{IsOk}
use Rattle.std.proofs.Math.Seq.{drop-cons}
use Rattle.std.proofs.lemmas.List.{take_more, take-append-drop, length-take}
use Rattle.bp_faults.specs.declared.fault.Fault.{Fault}
use Rattle.bp_faults.specs.Answers.{then_do}
use Rattle.bp_ports.specs.Files.{Files}
use Rattle.bp_load.specs.Trees.{Source}
use Rattle.bp_run.specs.Tree.{CannotReadOf, file_bytes, sources_from, sources_of}

-- how many bytes files have together
abbrev pub size_of : List Source → ℕ
size_of [] = 0
size_of (s ∷ ss) = length s.1 + size_of ss

pub size_more : (ss : List Source) (s : Source) → size_of (ss ++ s ∷ []) ≡ size_of ss + length s.1
size_more [] s = omega arith
size_more (x ∷ xs) s = omega (arith, size_more xs s)

-- what is read behind files that are read
abbrev behind : List Source → Result (List Source) Fault → Result (List Source) Fault
behind done rest = then_do rest (λ more. Ok (done ++ more))

behind_none : (rest : Result (List Source) Fault) → behind [] rest ≡ rest
behind_none (Ok more) = refl
behind_none (Err fault) = refl

behind_one : (s : Source) (done : List Source) (rest : Result (List Source) Fault)
    → then_do (behind done rest) (λ more. Ok (s ∷ more)) ≡ behind (s ∷ done) rest
behind_one s done (Ok more) = refl
behind_one s done (Err fault) = refl

one_more : (i : ℕ) → suc i ≡ i + 1
one_more i = omega arith

none_more : (n : ℕ) → n ≡ n + 0
none_more n = omega arith

-- the path at an index
from_here : (paths : List (List ℕ)) (i : ℕ) (path : List ℕ) → i < length paths → path ≡ get_or paths i path
    → drop i paths ≡ path ∷ drop (i + 1) paths
from_here paths i path within is = drop-cons paths i path within ∙ ap (λ p. p ∷ drop (suc i) paths) (sym is)
    ∙ ap (λ n. path ∷ drop n paths) (one_more i)

whole : (paths : List (List ℕ)) (i : ℕ) (path : List ℕ) → i < length paths → path ≡ get_or paths i path
    → paths ≡ take i paths ++ path ∷ drop (i + 1) paths
whole paths i path within is = sym (take-append-drop i paths)
    ∙ ap (λ rest. take i paths ++ rest) (from_here paths i path within is)

module _ (files : Files) where
  -- a path, by what it holds, and those behind it
  abbrev step : ℕ → ℕ → List ℕ → List (List ℕ) → Result (List ℕ) Fault → Result (List Source) Fault
  step number size path paths held =
      then_do held
      (λ bytes. then_do (sources_from files (number + 1) (size + length bytes) paths)
      (λ more. Ok ((path, bytes) ∷ more)))

  read_append : (number size : ℕ) (xs ys : List (List ℕ)) (done : List Source)
      → sources_from files number size xs ≡ Ok done
      → sources_from files number size (xs ++ ys) ≡ behind done
      (sources_from files (number + length xs) (size + size_of done) ys)
  read_append number size [] ys done h =
      let same : [] ≡ done = cc in
      subst (λ done. sources_from files number size ys ≡ behind done
      (sources_from files (number + 0) (size + size_of done) ys)) same
      (sym (behind_none (sources_from files number size ys))
      ∙ ap (λ n. behind [] (sources_from files n size ys)) (none_more number)
      ∙ ap (λ s. behind [] (sources_from files (number + 0) s ys)) (none_more size))
  read_append number size (x ∷ xs) ys done h =
      held (λ bytes more. read_append (number + 1) (size + length bytes) xs ys more)
      (file_bytes files number size x) refl
      h
    where
      Goal : Type 0
      Goal = sources_from files number size (x ∷ (xs ++ ys)) ≡ behind done
          (sources_from files (number + suc (length xs)) (size + size_of done) ys)

      shift : (bytes : List ℕ) (more : List Source)
          → sources_from files (number + 1 + length xs) (size + length bytes + size_of more) ys ≡ sources_from files
          (number + suc (length xs)) (size + (length bytes + size_of more)) ys
      shift bytes more =
          let numbers : number + 1 + length xs ≡ number + suc (length xs) = omega arith in
          let sizes : size + length bytes + size_of more ≡ size + (length bytes + size_of more) = omega arith in
          ap (λ n. sources_from files n (size + length bytes + size_of more) ys) numbers
          ∙ ap (λ s. sources_from files (number + suc (length xs)) s ys) sizes

      Onward : Type 0
      Onward = (bytes : List ℕ) (more : List Source)
          → sources_from files (number + 1) (size + length bytes) xs ≡ Ok more
          → sources_from files (number + 1) (size + length bytes) (xs ++ ys) ≡ behind more
          (sources_from files (number + 1 + length xs) (size + length bytes + size_of more) ys)

      others : Onward → (bytes : List ℕ) (rest : Result (List Source) Fault)
          → sources_from files (number + 1) (size + length bytes) xs ≡ rest → file_bytes files number size x ≡ Ok bytes
          → then_do rest (λ more. Ok ((x, bytes) ∷ more)) ≡ Ok done → Goal
      others onward bytes (Err fault) rest_is held_is h = absurd (cc)
      others onward bytes (Ok more) rest_is held_is h =
          let same : (x, bytes) ∷ more ≡ done = cc in
          ap (step number size x (xs ++ ys)) held_is
          ∙ ap (λ r. then_do r (λ more. Ok ((x, bytes) ∷ more))) (onward bytes more rest_is)
          ∙ behind_one (x, bytes) more
          (sources_from files (number + 1 + length xs) (size + length bytes + size_of more) ys)
          ∙ ap (behind ((x, bytes) ∷ more)) (shift bytes more)
          ∙ ap (λ done. behind done (sources_from files (number + suc (length xs)) (size + size_of done) ys)) same

      held : Onward → (r : Result (List ℕ) Fault) → file_bytes files number size x ≡ r
          → step number size x xs r ≡ Ok done
          → Goal
      held onward (Err fault) is h = absurd (cc)
      held onward (Ok bytes) is h =
          others onward bytes (sources_from files (number + 1) (size + length bytes) xs) refl is h

  module _ (paths : List (List ℕ)) (i : ℕ) (done : List Source) (path : List ℕ) (within : i < length paths)
      (is : path ≡ get_or paths i path) (read : sources_of files (take i paths) ≡ Ok done) where
    -- the paths from here on, behind those that are read
    onward : (rest : List (List ℕ))
        → sources_of files (take i paths ++ rest) ≡ behind done (sources_from files (1 + i) (size_of done) rest)
    onward rest =
        let count : 1 + length (take i paths) ≡ 1 + i = omega (arith, length-take i paths) in
        let size : 0 + size_of done ≡ size_of done = omega arith in
        read_append 1 0 (take i paths) rest done read
        ∙ ap (λ n. behind done (sources_from files n (0 + size_of done) rest)) count
        ∙ ap (λ s. behind done (sources_from files (1 + i) s rest)) size

    pub read_more : (bytes : List ℕ) → file_bytes files (1 + i) (size_of done) path ≡ Ok bytes
        → sources_of files (take (i + 1) paths) ≡ Ok (done ++ (path, bytes) ∷ [])
    read_more bytes here =
        let front : take (i + 1) paths ≡ take i paths ++ path ∷ [] = take_more paths i path within
        ∙ ap (λ p. take i paths ++ p ∷ []) (sym is) in
        ap (sources_of files) front ∙ onward (path ∷ [])
        ∙ ap (λ held. behind done (step (1 + i) (size_of done) path [] held)) here

    pub read_fault : (fault : Fault) → file_bytes files (1 + i) (size_of done) path ≡ Err fault
        → sources_of files paths ≡ Err fault
    read_fault fault here =
        ap (sources_of files) (whole paths i path within is) ∙ onward (path ∷ drop (i + 1) paths)
        ∙ ap (λ held. behind done (step (1 + i) (size_of done) path (drop (i + 1) paths) held)) here

    pub read_stop : CannotReadOf files paths path
    read_stop = (take i paths, drop (i + 1) paths, whole paths i path within is, subst IsOk (sym read) refl)
