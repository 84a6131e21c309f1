-- Ascending lists with the same members are one list: a directory has its entries in one way alone.
use Rattle.std.proofs.Common.{◌≡◌, ◌<◌, ◌⊎◌, inl, inr, ℕ, zero, suc, List, [], ◌∷◌, length, get_or, refl, sym, ◌∙◌}
use Rattle.std.proofs.Common.{subst, arith}
use Rattle.std.specs.declared.cmp.Ordering.{Ordering}
use Rattle.std.specs.declared.cmp.Ordering.TheVariants.{Less, Equal}
use Rattle.std.specs.Cmp.{IsTotalOrder}
use Rattle.std.specs.List.{Contains}
use Rattle.std.specs.List.Sorted.{IsStrictlySortedBy}
use Rattle.std.proofs.lemmas.Cmp.{tied_itself}
use Rattle.std.proofs.lemmas.List.Elements.{All-contains}
use Rattle.std.proofs.lemmas.Map.Keys.{sorted_tail}
use Rattle.std.proofs.lemmas.Map.Views.{All-after_first}
use Rattle.dir_entries.specs.declared.entry.DirEntry.{DirEntry}
use Rattle.dir_entries.specs.contracts.entry.DirEntryOrd.TheImpl as entry_order
use Rattle.dir_entries.specs.contracts.entry.DirEntryOrd.TheImpl.Laws as laws
use Rattle.dir_entries.specs.Entries.{AreEntries}

-- The list has the element.
abbrev pub Among : {X : Type 0} → List X → X → Type 0
Among [] x = ⊥
Among (y ∷ ys) x = (y ≡ x) ⊎ Among ys x

module _ {X : Type 0} where
  pub at_index : (xs : List X) (x : X) (k : ℕ) → k < length xs → get_or xs k x ≡ x → Among xs x
  at_index [] x k inside is = absurd (omega arith)
  at_index (y ∷ ys) x zero inside is = inl is
  at_index (y ∷ ys) x (suc k) inside is = inr (at_index ys x k (omega arith) is)

  pub contained_among : (xs : List X) (x : X) → Contains xs x → Among xs x
  contained_among xs x h = at_index xs x h.0 h.1 h.2

  pub among_contained : (xs : List X) (x : X) → Among xs x → Contains xs x
  among_contained [] x h = absurd h
  among_contained (y ∷ ys) x (inl e) = (0, omega arith, e)
  among_contained (y ∷ ys) x (inr h) = let r = among_contained ys x h in (suc r.0, omega arith, r.2)

module _ {K : Type 0} (R : K → K → Ordering) (o : IsTotalOrder R) where
  after : (k : K) (ks : List K) (x : K) → IsStrictlySortedBy R (k ∷ ks) → Among ks x → R k x ≡ Less
  after k ks x up h = All-contains (λ q. R k q ≡ Less) ks x (All-after_first R k ks up) (among_contained ks x h)

  not_itself : (x : K) → R x x ≡ Less → ⊥
  not_itself x less = let tied = tied_itself o x in let same : Less ≡ Equal = sym less ∙ tied in cc

  heads : (x : K) (xs : List K) (y : K) (ys : List K) → IsStrictlySortedBy R (x ∷ xs) → IsStrictlySortedBy R (y ∷ ys)
      → (y ≡ x) ⊎ Among ys x → (x ≡ y) ⊎ Among xs y → x ≡ y
  heads x xs y ys up vp (inl e) q = sym e
  heads x xs y ys up vp (inr p) (inl e) = e
  heads x xs y ys up vp (inr p) (inr q) =
      absurd (not_itself x (o.trans x y x (after x xs y up q) (after y ys x vp p)))

  behind : (x : K) (xs : List K) (y : K) (ys : List K) → IsStrictlySortedBy R (x ∷ xs) → x ≡ y
      → (z : K) → Among xs z → (y ≡ z) ⊎ Among ys z → Among ys z
  behind x xs y ys up e z h (inl f) =
      absurd (not_itself z (subst (λ k. R k z ≡ Less) (e ∙ f) (after x xs z up h)))
  behind x xs y ys up e z h (inr k) = k

  same_sorted : (xs ys : List K) → IsStrictlySortedBy R xs → IsStrictlySortedBy R ys
      → ((z : K) → Among xs z → Among ys z) → ((z : K) → Among ys z → Among xs z) → xs ≡ ys
  same_sorted [] [] up vp to from = refl
  same_sorted [] (y ∷ ys) up vp to from = absurd (from y (inl refl))
  same_sorted (x ∷ xs) [] up vp to from = absurd (to x (inl refl))
  same_sorted (x ∷ xs) (y ∷ ys) up vp to from =
      let e = heads x xs y ys up vp (to x (inl refl)) (from y (inl refl)) in
      let rest = same_sorted xs ys (sorted_tail R x xs up) (sorted_tail R y ys vp)
      (λ z h. behind x xs y ys up e z h (to z (inr h)))
      (λ z h. behind y ys x xs vp (sym e) z h (from z (inr h))) in
      λ i. e i ∷ rest i

-- A directory has one list of entries.
pub entries_once : (held : List (List ℕ)) (dir : List ℕ) (one other : List DirEntry)
    → AreEntries held dir one → AreEntries held dir other → one ≡ other
entries_once held dir one other a b =
    same_sorted ((entry_order.ghosts).cmp) laws.total-law one other a.order b.order
    (λ z h. contained_among other z ((b.exact z).1 ((a.exact z).0 (among_contained one z h))))
    (λ z h. contained_among one z ((a.exact z).1 ((b.exact z).0 (among_contained other z h))))
