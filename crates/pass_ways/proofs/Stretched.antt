-- What stands in the stretches of an order, and in some of them one after another.
use Rattle.std.proofs.Common.{◌≡◌, ◌<◌, ◌+◌, ◌*◌, ◌/◌, ◌%◌, ◌⊎◌, ℕ, zero, suc, List, [], ◌∷◌, ◌++◌, length, map}
use Rattle.std.proofs.Common.{get_or, take, drop, inl, inr, ⊎_elim, refl, ap, sym, ◌∙◌, subst, arith, append_assoc}
use Rattle.std.proofs.Common.{length-drop}
use Rattle.std.specs.Prelude.{slice_index}
use Rattle.std.specs.List.{Contains}
use Rattle.std.proofs.lemmas.List.{append-nil, length-take, get_or-take, get_or-drop, take-map, map-append}
use Rattle.std.proofs.lemmas.List.Elements.{Contains-append_left, Contains-append_right, Contains-append_cases}
use Rattle.std.proofs.lemmas.Nat.{div-add-mod', div-mul-add, mod_below}
use Rattle.bp_faults.proofs.Lists.{same_at}
use Rattle.pass_ways.specs.Stretches.{stretch, joined_stretches}

drop-map : {X Y : Type 0} (f : X → Y) (k : ℕ) (xs : List X) → drop k (map f xs) ≡ map f (drop k xs)
drop-map f zero xs = refl
drop-map f (suc k) [] = refl
drop-map f (suc k) (x ∷ xs) = drop-map f k xs

pub stretch-map : {X Y : Type 0} (f : X → Y) (size k : ℕ) (xs : List X) → stretch size k (map f xs) ≡ map f (stretch
    size k xs)
stretch-map f size k xs = ap (take size) (drop-map f (k * size) xs) ∙ take-map f size (drop (k * size) xs)

pub joined_stretches-map : {X Y : Type 0} (f : X → Y) (size : ℕ) (xs : List X) (ks : List ℕ) → map f (joined_stretches
    size xs ks) ≡ joined_stretches size (map f xs) ks
joined_stretches-map f size xs [] = refl
joined_stretches-map f size xs (k ∷ ks) =
    map-append f (stretch size k xs) (joined_stretches size xs ks)
    ∙ ap (λ l. l ++ map f (joined_stretches size xs ks)) (sym (stretch-map f size k xs))
    ∙ ap (λ l. stretch size k (map f xs) ++ l) (joined_stretches-map f size xs ks)

-- one stretch more
pub joined_stretches-push : {X : Type 0} (size : ℕ) (xs : List X) (ks : List ℕ) (k : ℕ) → joined_stretches size xs (ks
    ++ k ∷ []) ≡ joined_stretches size xs ks ++ stretch size k xs
joined_stretches-push size xs [] k = append-nil (stretch size k xs)
joined_stretches-push size xs (j ∷ js) k =
    ap (λ l. stretch size j xs ++ l) (joined_stretches-push size xs js k)
    ∙ sym (append_assoc (stretch size j xs) (joined_stretches size xs js) (stretch size k xs))

module _ (size : ℕ) (order : List ℕ) where
  -- where the entry at an offset of a stretch stands in the order
  pub offset_small : (k r : ℕ) → r < length (stretch size k order) → r < size
  offset_small k r lt = let e = length-take size (drop (k * size) order) in omega (arith, e)

  pub offset_inside : (k r : ℕ) → r < length (stretch size k order) → k * size + r < length order
  offset_inside k r lt =
      let e = length-take size (drop (k * size) order) in
      let d = length-drop (k * size) order in omega (arith, e, d)

  pub offset_at : (k r d : ℕ) → r < size → get_or (stretch size k order) r d ≡ get_or order (k * size + r) d
  offset_at k r d lt = get_or-take size (drop (k * size) order) r d lt ∙ get_or-drop (k * size) order r d

  pub offset_stretch : (k r : ℕ) → r < size → (k * size + r) / size ≡ k
  offset_stretch k r lt = div-mul-add k size r lt

  -- the entry at an index stands in the stretch of the index
  pub in_stretch : (index : ℕ) → 0 < size → index < length order → Contains (stretch size (index / size) order)
      (slice_index order index)
  in_stretch index positive lt =
      let small : index % size < size = mod_below index size positive in
      let whole : index / size * size + index % size ≡ index = div-add-mod' index size in
      let e = length-take size (drop (index / size * size) order) in
      let d = length-drop (index / size * size) order in (
        index % size,
        omega (arith, e, d, small, whole),
        offset_at (index / size) (index % size) (slice_index order index) small
            ∙ ap (λ i. get_or order i (slice_index order index)) whole
            ∙ same_at order index (slice_index order index) 0 lt,
      )

  -- what stands in a stretch stands at an index of that stretch
  pub from_stretch : (k n : ℕ) → Contains (stretch size k order) n → (index : ℕ) × (index < length order) × (index /
      size ≡ k) × (slice_index order index ≡ n)
  from_stretch k n c =
      let small = offset_small k c.0 c.1 in
      let inside = offset_inside k c.0 c.1 in (
        k * size + c.0,
        inside,
        offset_stretch k c.0 small,
        same_at order (k * size + c.0) 0 n inside ∙ sym (offset_at k c.0 n small) ∙ c.2,
      )

  first_or_other : (ks : List ℕ) (j k i : ℕ) → i < length (j ∷ ks) → get_or (j ∷ ks) i k ≡ k → (j ≡ k) ⊎ (Contains ks k)
  first_or_other ks j k zero lt is = inl is
  first_or_other ks j k (suc i) lt is = inr (i, omega arith, is)

  pub in_joined : (ks : List ℕ) (k n : ℕ) → Contains ks k → Contains (stretch size k order) n → Contains
      (joined_stretches size order ks) n
  in_joined [] k n c h = absurd (let e = c.1 in omega arith)
  in_joined (j ∷ js) k n c h = ⊎_elim
      (λ same. Contains-append_left (stretch size j order) (joined_stretches size order js) n (subst (λ i. Contains
      (stretch size i order) n) (sym same) h))
      (λ other. Contains-append_right (stretch size j order) (joined_stretches size order js) n (in_joined js k n other
      h))
      (first_or_other js j k c.0 c.1 c.2)

  pub from_joined : (ks : List ℕ) (n : ℕ) → Contains (joined_stretches size order ks) n → (k : ℕ) × Contains ks k ×
      Contains (stretch size k order) n
  from_joined [] n c = absurd (let e = c.1 in omega arith)
  from_joined (j ∷ js) n c = ⊎_elim
      (λ here. (j, (0, omega arith, refl), here))
      (λ there. let rest = from_joined js n there in
      (rest.0, (suc rest.1.0, (let e = rest.1.1 in omega arith), rest.1.2), rest.2))
      (Contains-append_cases (stretch size j order) (joined_stretches size order js) n c)
