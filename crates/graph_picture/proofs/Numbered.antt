-- Lists that are made of numbered items, one item more or cut in two.
use Rattle.std.proofs.Common.{◌≡◌, ◌∙◌, ◌+◌, ◌<◌, ◌++◌, ℕ, List, [], ◌∷◌, length, get_or, take, ap, sym, arith}
use Rattle.std.proofs.Common.{append_assoc, append-nil}
use Rattle.std.proofs.lemmas.List.{length-take-le}
use Rattle.bp_faults.proofs.Lists.{take-more}
use Rattle.graph_nodes.specs.Numbered.{by_number}

pub by_number-append : {X A : Type 0} (f : ℕ → X → List A) (k : ℕ) (xs ys : List X)
    → by_number f k (xs ++ ys) ≡ by_number f k xs ++ by_number f (k + length xs) ys
by_number-append f k [] ys = ap (λ (n : ℕ). by_number f n ys) (let e : k ≡ k + 0 = omega arith in e)
by_number-append f k (x ∷ xs) ys =
    ap (λ (rest : List _). f k x ++ rest)
    (by_number-append f (k + 1) xs ys
    ∙ ap (λ (n : ℕ). by_number f (k + 1) xs ++ by_number f n ys)
    (let e : k + 1 + length xs ≡ k + length (x ∷ xs) = omega arith in e))
    ∙ sym (append_assoc (f k x) (by_number f (k + 1) xs) (by_number f (k + length (x ∷ xs)) ys))

-- one item more
pub by_number_more : {X A : Type 0} (f : ℕ → X → List A) (xs : List X) (x : X)
    → by_number f 0 (xs ++ x ∷ []) ≡ by_number f 0 xs ++ f (length xs) x
by_number_more f xs x =
    by_number-append f 0 xs (x ∷ [])
    ∙ ap (λ (rest : List _). by_number f 0 xs ++ rest)
    (append-nil (f (0 + length xs) x) ∙ ap (λ (n : ℕ). f n x) (let e : 0 + length xs ≡ length xs = omega arith in e))

-- the first i + 1 items
pub by_number_taken : {X A : Type 0} (f : ℕ → X → List A) (xs : List X) (i : ℕ) (x : X) → i < length xs
    → x ≡ get_or xs i x
    → by_number f 0 (take (i + 1) xs) ≡ by_number f 0 (take i xs) ++ f i x
by_number_taken f xs i x lt is =
    ap (by_number f 0) (take-more xs i x lt is) ∙ by_number_more f (take i xs) x
    ∙ ap (λ (n : ℕ). by_number f 0 (take i xs) ++ f n x) (length-take-le i xs (omega arith))
