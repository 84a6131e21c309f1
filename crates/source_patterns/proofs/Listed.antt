-- What is kept of directories that were listed.
use Rattle.std.proofs.Common.{◌≡◌, ◌∙◌, ◌≤◌, ℕ, Bool, true, false, cond, List, [], Vec, Global, length, Option, Some}
use Rattle.std.proofs.Common.{None}
use Rattle.std.proofs.Common.{refl, sym, subst, arith}
use Rattle.std.specs.Prelude.{IfSome, is_some, option_map}
use Rattle.std.specs.BTreeMap.{is_at}
use Rattle.std.specs.List.Sorted.{IsStrictlySortedBy}
use Rattle.std.specs.Map.{lookup}
use Rattle.std.specs.Ordering.{nat_cmp}
use Rattle.std.specs.Cmp.Lexicographic.{slice_cmp}
use Rattle.std.specs.declared.cmp.Ordering.{Ordering}
use Rattle.std.proofs.lemmas.Map.Text.{is_eq-slice_cmp}
use Rattle.bp_faults.proofs.Lists.{same_bytes}
use Rattle.bp_ports.specs.Lists.{IsAbsent}
use Rattle.dir_entries.specs.declared.entry.DirEntry.{DirEntry}
use Rattle.dir_entries.specs.Entries.{AreEntries}
use Rattle.path_patterns.specs.declared.limits.TheConstants.{MOST_ENTRIES}
use Rattle.source_patterns.specs.Listed.{HasFew, Kept, AreKept, kept_entries}

-- The entries of one more directory are kept.
pub kept_more : (held : List (List ℕ)) (old new : Kept) (dir : List ℕ) (entries : Vec DirEntry Global)
    → HasFew held dir entries → AreKept held old
    → ((q : List ℕ) → lookup (is_at (slice_cmp nat_cmp q)) new
    ≡ cond (is_at (slice_cmp nat_cmp dir) q) (Some entries) (lookup (is_at (slice_cmp nat_cmp q)) old))
    → AreKept held new
kept_more held old new dir entries few kept grown d es found =
    by (is_at (slice_cmp nat_cmp dir) d) refl (sym (grown d) ∙ found)
  where
    by : (b : Bool) → is_at (slice_cmp nat_cmp dir) d ≡ b
        → cond b (Some entries) (lookup (is_at (slice_cmp nat_cmp d)) old) ≡ Some es → HasFew held d es
    by true is same =
        let entry : entries ≡ es = cc in
        let path : dir ≡ d = same_bytes dir d (sym (is_eq-slice_cmp dir d) ∙ is) in
        subst (λ p. HasFew held p es) path (subst (HasFew held dir) entry few)
    by false is same = kept d es same

-- Nothing is kept at first.
pub kept_none : (held : List (List ℕ)) (known : Kept) → known ≡ [] → AreKept held known
kept_none held known none = subst (AreKept held) (sym none) (λ dir entries found. absurd (cc))

-- What is kept of a directory are its entries.
pub kept_are : (held : List (List ℕ)) (known : Kept) (dir : List ℕ)
    → is_some (lookup (is_at (slice_cmp nat_cmp dir)) known) ≡ true → AreKept held known
    → AreEntries held dir (kept_entries known dir) × (length (kept_entries known dir) ≤ MOST_ENTRIES)
kept_are held known dir some kept = by (lookup (is_at (slice_cmp nat_cmp dir)) known) refl some
  where
    by : (o : Option (Vec DirEntry Global)) → lookup (is_at (slice_cmp nat_cmp dir)) known ≡ o → is_some o ≡ true
        → AreEntries held dir (kept_entries known dir) × (length (kept_entries known dir) ≤ MOST_ENTRIES)
    by None is none = absurd (cc)
    by (Some entries) is one = rw is (kept dir entries is)

sorted_none : {A : Type 0} (cmp : A → A → Ordering) → IsStrictlySortedBy cmp []
unfolding IsStrictlySortedBy
sorted_none cmp = tt

-- An absent directory has no entries.
pub none_below : (held : List (List ℕ)) (dir : List ℕ) (entries : Vec DirEntry Global) → entries.items ≡ []
    → IsAbsent held dir → HasFew held dir entries
none_below held dir entries none absent =
    let few : AreEntries held dir [] = record {
      order = sorted_none _;
      exact =
          λ e. (
            λ there. absurd (omega (arith, there.1)),
            λ entry. absurd (absent.bare entry.path entry.rest entry.holds entry.below),
          );
    } in
    (subst (AreEntries held dir) (sym none) few, subst (λ es. length es ≤ MOST_ENTRIES) (sym none) (omega arith))

-- What holds of the paths of some files holds of some paths.
pub if_mapped : {A B : Type 0} (o : Option A) (f : A → B) (P : B → Type 0) → IfSome o (λ x. P (f x))
    → IfSome (option_map f o) P
if_mapped None f P h = tt
if_mapped (Some x) f P h = h

-- And the other way round.
pub if_of_mapped : {A B : Type 0} (o : Option A) (f : A → B) (P : B → Type 0) → IfSome (option_map f o) P
    → IfSome o (λ x. P (f x))
if_of_mapped None f P h = tt
if_of_mapped (Some x) f P h = h
