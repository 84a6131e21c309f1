-- Steps of a loop over numbered items, as the nodes of a graph.
use Rattle.std.proofs.Common.{◌≡◌, ◌+◌, ◌<◌, ◌≤◌, ◌++◌, ℕ, List, map, length, get_or, take, ap, ◌∙◌, sym, arith}
use Rattle.std.proofs.lemmas.List.{take_more, length-take-le, take_all}
use Rattle.graph_nodes.specs.Laws.{OneMoreItem}
use Rattle.graph_nodes.specs.Numbered.{by_number}

-- one more item
pub by_number_step : {X A : Type 0} → OneMoreItem X A → (f : ℕ → X → List A) (xs : List X) (i : ℕ) (d : X)
    → i < length xs → by_number f 0 (take (i + 1) xs) ≡ by_number f 0 (take i xs) ++ f i (get_or xs i d)
by_number_step one_more f xs i d lt =
    ap (by_number f 0) (take_more xs i d lt) ∙ one_more f (take i xs) (get_or xs i d)
    ∙ ap (λ n. by_number f 0 (take i xs) ++ f n (get_or xs i d)) (length-take-le i xs (omega arith))

-- the inner loop over the piece of an item is done
pub piece_done : {X B A : Type 0} → OneMoreItem X A → (w : ℕ → B → A) (part : X → List B) (xs : List X) (i n : ℕ)
    (x : X) (ys : List B) (j : ℕ) (r : List A)
    → i < length xs → x ≡ get_or xs i x → ys ≡ part x → length ys ≤ j → n ≡ i
    → r ≡ by_number (λ n x. map (w n) (part x)) 0 (take i xs) ++ map (w n) (take j ys)
    → r ≡ by_number (λ n x. map (w n) (part x)) 0 (take (i + 1) xs)
piece_done {X} one_more w part xs i n x ys j r lt read whole done same e =
    e
    ∙ ap (λ (l : List _). by_number (λ n x. map (w n) (part x)) 0 (take i xs) ++ map (w n) l)
    (take_all j ys done ∙ whole ∙ ap part read)
    ∙ ap (λ k. by_number (λ n x. map (w n) (part x)) 0 (take i xs) ++ map (w k) (part (get_or xs i x))) same
    ∙ sym (by_number_step one_more (λ n x. map (w n) (part x)) xs i x lt)
