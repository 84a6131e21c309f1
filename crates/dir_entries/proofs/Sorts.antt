-- A sort and a dedup: the entries ascend, and are the same.
use Rattle.std.proofs.Common.{◌≡◌, ◌↔◌, ℕ, Bool, true, false, List, [], refl, sym, subst}
use Rattle.std.specs.List.{Contains, dedup}
use Rattle.std.specs.List.Retain.{DiffersFromLast, IsFiltered}
use Rattle.std.specs.List.Sorted.{IsPermutation, IsSorted, IsStrictlySortedBy}
use Rattle.std.specs.Prelude.{◌&&◌}
use Rattle.std.specs.Cmp.{booleans_Decides}
use Rattle.std.specs.Str.{bytes_eq}
use Rattle.std.proofs.Math.Bool.{beq, true≢false}
use Rattle.std.proofs.lemmas.List.Filters.{dedup_is}
use Rattle.std.proofs.lemmas.List.Kept.{IsStrictlySortedBy-dedup, Contains-dedup, Contains-from_dedup}
use Rattle.std.proofs.lemmas.List.Sorted.{Contains-permutation, IsPermutation-sym}
use Rattle.bp_faults.proofs.Lists.{same_bytes}
use Rattle.dir_entries.specs.declared.entry.DirEntry.{DirEntry}
use Rattle.dir_entries.specs.contracts.entry.DirEntryOrd.TheImpl as entry_order
use Rattle.dir_entries.specs.contracts.entry.DirEntryOrd.TheImpl.Laws as order_laws
use Rattle.dir_entries.specs.contracts.entry.DirEntryPartialEq.TheImpl as entry_eq
use Rattle.dir_entries.specs.contracts.entry.DirEntryEq.TheImpl.Laws as eq_laws
use Rattle.dir_entries.specs.Entries.{AreEntries, GiveEntries}

by_parts : (n m : List ℕ) (a b : Bool) → (bytes_eq n m && beq a b) ≡ true → (n ≡ m) × (a ≡ b)
by_parts n m a b = by (bytes_eq n m) (same_bytes n m) where
  by : (s : Bool) → (s ≡ true → n ≡ m) → (s && beq a b) ≡ true → (n ≡ m) × (a ≡ b)
  by true same is = (same refl, (booleans_Decides a b).0 is)
  by false same is = absurd (true≢false (sym is))

-- Entries that the test finds equal are the same.
same_entry : (x y : DirEntry) → (entry_eq.ghosts).eq x y ≡ true → x ≡ y
same_entry x y is =
    let e = by_parts x.name y.name x.dir y.dir is in
    λ i. record { name = e.0 i; dir = e.1 i }

module _ (xs sorted ys : List DirEntry) (kept : IsFiltered (DiffersFromLast (entry_eq.ghosts).eq) [] sorted ys) where
  is : ys ≡ dedup ((entry_eq.ghosts).eq) sorted
  is = dedup_is ((entry_eq.ghosts).eq) sorted ys kept

  ascends : IsSorted ((entry_order.ghosts).cmp) sorted → IsStrictlySortedBy ((entry_order.ghosts).cmp) ys
  ascends up =
      subst (λ zs. IsStrictlySortedBy ((entry_order.ghosts).cmp) zs) (sym is)
      (IsStrictlySortedBy-dedup order_laws.total-law order_laws.matches_eq-law sorted up)

  same : IsPermutation xs sorted → (e : DirEntry) → Contains ys e ↔ Contains xs e
  same moved e = (
    λ h. Contains-permutation sorted xs e (IsPermutation-sym xs sorted moved)
        (Contains-from_dedup ((entry_eq.ghosts).eq) sorted e (subst (λ zs. Contains zs e) is h)),
    λ h. subst (λ zs. Contains zs e) (sym is)
        (Contains-dedup eq_laws.laws-law same_entry sorted e (Contains-permutation xs sorted e moved h)),
  )

  pub sorted_entries : IsSorted ((entry_order.ghosts).cmp) sorted → IsPermutation xs sorted
      → (held : List (List ℕ)) (dir : List ℕ) → GiveEntries held dir xs → AreEntries held dir ys
  sorted_entries up moved held dir given = record {
    order = ascends up;
    exact = λ e. (λ h. (given e).0 ((same moved e).0 h), λ h. (same moved e).1 ((given e).1 h));
  }
