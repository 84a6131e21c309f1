-- Where the pieces of a list that is made of numbered items stand.
use Rattle.std.proofs.Common.{◌≡◌, ◌+◌, ◌-◌, ◌<◌, ◌++◌, ℕ, zero, suc, List, [], ◌∷◌, length, take, drop, get_or, refl}
use Rattle.std.proofs.Common.{ap, ◌∙◌, sym, arith, append-nil, append_assoc, add-zero, zero-add}
use Rattle.std.specs.Prelude.{slice_get, slice_range}
use Rattle.graph_nodes.specs.Numbered.{by_number}
use Rattle.variant_graphs.specs.Inside.{copies_of, before}
use Rattle.std.proofs.lemmas.List.{drop_at, drop_more, take-append-drop, take_at}
use Rattle.std.proofs.lemmas.List.Concat.{flat_map-append}
use Rattle.std.proofs.lemmas.List.Sums.{sum_by_more}
use Rattle.std.specs.List.{flat_map}

module _ {X A : Type 0} where
  -- a list of pieces, taken apart at the piece of an item
  pub by_number_at : (f : ℕ → X → List A) (k : ℕ) (xs : List X) (i : ℕ) (d : X) → i < length xs
      → (rest : List A) × (by_number f k xs ≡ by_number f k (take i xs) ++ (f (k + i) (get_or xs i d) ++ rest))
  by_number_at f k [] i d lt = absurd (omega arith)
  by_number_at f k (x ∷ xs) zero d lt =
      (by_number f (k + 1) xs, ap (λ n. f n x ++ by_number f (k + 1) xs) (sym (add-zero k)))
  by_number_at f k (x ∷ xs) (suc i) d lt =
      let r = by_number_at f (k + 1) xs i d (omega arith) in
      let e : (k + 1) + i ≡ k + suc i = omega arith in (
        r.0,
        ap (λ l. f k x ++ l) (r.1 ∙ ap (λ n. by_number f (k + 1) (take i xs) ++ (f n (get_or xs i d) ++ r.0)) e)
            ∙ sym (append_assoc (f k x) (by_number f (k + 1) (take i xs)) (f (k + suc i) (get_or xs i d) ++ r.0)),
      )

  -- the piece of an item stands between the pieces before it and those behind it
  pub flat_map_at : (f : X → List A) (xs : List X) (i : ℕ) (d : X) (a b : ℕ) → i < length xs
      → length (flat_map f (take i xs)) ≡ a → a + length (f (get_or xs i d)) ≡ b
      → slice_range (flat_map f xs) a b ≡ f (get_or xs i d)
  flat_map_at f xs i d a b lt begins ends =
      let front = flat_map f (take i xs) in
      let here = f (get_or xs i d) in
      let rest = flat_map f (drop (i + 1) xs) in
      let whole : flat_map f xs ≡ front ++ (here ++ rest) =
      ap (flat_map f) (sym (take-append-drop i xs) ∙ ap (λ (l : List X). take i xs ++ l) (drop_more xs i d lt))
      ∙ flat_map-append f (take i xs) (get_or xs i d ∷ drop (i + 1) xs) in
      ap (λ (l : List A). take (b - a) (drop a l)) whole
      ∙ ap (take (b - a)) (drop_at front (here ++ rest) a begins)
      ∙ take_at here rest (b - a) (omega arith)

module _ {A : Type 0} where
  -- an item of the middle of three lists
  pub get_middle : (xs ys zs : List A) (j : ℕ) → j < length ys
      → slice_get (xs ++ (ys ++ zs)) (length xs + j) ≡ slice_get ys j
  get_middle [] [] zs j lt = absurd (omega arith)
  get_middle [] (y ∷ ys) zs zero lt = ap (slice_get (y ∷ (ys ++ zs))) (zero-add 0)
  get_middle [] (y ∷ ys) zs (suc j) lt =
      ap (slice_get (y ∷ (ys ++ zs))) (zero-add (suc j))
      ∙ (let r = get_middle [] ys zs j (omega arith) in ap (slice_get (ys ++ zs)) (sym (zero-add j)) ∙ r)
  get_middle (x ∷ xs) ys zs j lt =
      (let e : length (x ∷ xs) + j ≡ suc (length xs + j) = omega arith in ap (slice_get (x ∷ (xs ++ (ys ++ zs)))) e)
      ∙ get_middle xs ys zs j lt

  pub repeated_more : (k : ℕ) (xs : List A) → copies_of (k + 1) xs ≡ copies_of k xs ++ xs
  repeated_more zero xs = append-nil xs
  repeated_more (suc k) xs =
      let e : suc k + 1 ≡ suc (k + 1) = omega arith in
      ap (λ n. copies_of n xs) e ∙ ap (λ l. xs ++ l) (repeated_more k xs) ∙ sym (append_assoc xs (copies_of k xs) xs)

  -- a list many times over, taken apart at one time
  pub repeated_at : (k j : ℕ) (xs : List A) → j < k
      → (rest : List A) × (copies_of k xs ≡ copies_of j xs ++ (xs ++ rest))
  repeated_at zero j xs lt = absurd (omega arith)
  repeated_at (suc k) zero xs lt = (copies_of k xs, refl)
  repeated_at (suc k) (suc j) xs lt =
      let r = repeated_at k j xs (omega arith) in
      (r.0, ap (λ l. xs ++ l) r.1 ∙ sym (append_assoc xs (copies_of j xs) (xs ++ r.0)))

pub before_more : (counts : List ℕ) (n : ℕ) → n < length counts
    → before counts (n + 1) ≡ before counts n + get_or counts n 0
before_more counts n lt = sum_by_more (λ k. k) counts n 0 lt
