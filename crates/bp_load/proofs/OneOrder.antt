-- Lists that ascend by a key: one list of the same items, and no more items than a list that has them all.
use Rattle.std.proofs.Common.{◌≡◌, ◌≤◌, inl, inr, ⊎_elim, List, [], ◌∷◌, length, map, refl, sym, ◌∙◌, subst, arith}
use Rattle.std.specs.List.{AllByRecursion}
use Rattle.std.specs.List.Sorted.{IsStrictlySortedBy}
use Rattle.std.specs.declared.cmp.Ordering.{Ordering}
use Rattle.std.specs.declared.cmp.Ordering.TheVariants.{Less, Equal, Greater}
use Rattle.std.specs.Ordering.{ordering_reverse}
use Rattle.std.specs.Cmp.{IsTotalOrder}
use Rattle.bp_load.proofs.Members.{Has}

module _ {X K : Type 0} (R : K → K → Ordering) (total : IsTotalOrder R) (key : X → K) where
  abbrev Ascends : List X → Type 0
  Ascends xs = IsStrictlySortedBy R (map key xs)

  unequal : (o : Ordering) → o ≡ ordering_reverse o → o ≡ Less → ⊥
  unequal Less e is = cc
  unequal Equal e is = cc
  unequal Greater e is = cc

  not_before_itself : (k : K) → R k k ≡ Less → ⊥
  not_before_itself k is = unequal (R k k) (total.antisymm k k) is

  not_both : (j k : K) → R j k ≡ Less → R k j ≡ Less → ⊥
  not_both j k first second = not_before_itself j (total.trans j k j first second)

  behind : (k : K) (xs : List X) (q : X) → AllByRecursion (λ y. R k y ≡ Less) (map key xs) → Has xs q
      → R k (key q) ≡ Less
  behind k [] q all has = absurd has
  behind k (x ∷ xs) q all (inl is) = subst (λ y. R k (key y) ≡ Less) is all.0
  behind k (x ∷ xs) q all (inr has) = behind k xs q all.1 has

  others : (x y : X) (xs ys : List X) → x ≡ y → AllByRecursion (λ k. R (key x) k ≡ Less) (map key xs)
      → ((q : X) → Has (x ∷ xs) q → Has (y ∷ ys) q) → (q : X) → Has xs q → Has ys q
  others x y xs ys same all kept q has =
      ⊎_elim
      (λ is. absurd (not_before_itself (key x)
      (subst (λ z. R (key x) (key z) ≡ Less) (sym is ∙ sym same) (behind (key x) xs q all has))))
      (λ more. more)
      (kept q (inr has))

  pub same_ascending : (xs ys : List X) → Ascends xs → Ascends ys → ((q : X) → Has xs q → Has ys q)
      → ((q : X) → Has ys q → Has xs q) → xs ≡ ys
  unfolding IsStrictlySortedBy
  same_ascending [] [] first second kept back = refl
  same_ascending [] (y ∷ ys) first second kept back = absurd (back y (inl refl))
  same_ascending (x ∷ xs) [] first second kept back = absurd (kept x (inl refl))
  same_ascending (x ∷ xs) (y ∷ ys) first second kept back =
      let head : x ≡ y =
      ⊎_elim
      (λ is. sym is)
      (λ has. ⊎_elim
      (λ is. is)
      (λ other.
      absurd (not_both (key x) (key y) (behind (key x) xs y first.0 other) (behind (key y) ys x second.0 has)))
      (back y (inl refl)))
      (kept x (inl refl)) in
      let tail : xs ≡ ys = same_ascending xs ys first.1 second.1 (others x y xs ys head first.0 kept)
      (others y x ys xs (sym head) second.0 back) in
      cc

  pub no_more : (ys xs : List X) → Ascends xs → Ascends ys → ((q : X) → Has xs q → Has ys q) → length xs ≤ length ys
  unfolding IsStrictlySortedBy
  no_more ys [] first second kept = omega arith
  no_more [] (x ∷ xs) first second kept = absurd (kept x (inl refl))
  no_more (y ∷ ys) (x ∷ xs) first second kept =
      ⊎_elim
      (λ is. let rest = no_more ys xs first.1 second.1 (others x y xs ys (sym is) first.0 kept) in omega arith)
      (λ has. let rest = no_more ys (x ∷ xs) first second.1 (later has) in omega arith)
      (kept x (inl refl))
    where
      after : Has ys x → (q : X) → Has (x ∷ xs) q → R (key y) (key q) ≡ Less
      after has q (inl is) = subst (λ z. R (key y) (key z) ≡ Less) is (behind (key y) ys x second.0 has)
      after has q (inr more) =
          total.trans (key y) (key x) (key q) (behind (key y) ys x second.0 has) (behind (key x) xs q first.0 more)

      later : Has ys x → (q : X) → Has (x ∷ xs) q → Has ys q
      later has q here =
          ⊎_elim
          (λ is. absurd (not_before_itself (key y) (subst (λ z. R (key y) (key z) ≡ Less) (sym is) (after has q here))))
          (λ more. more)
          (kept q here)
