-- The list of the group ids: it ascends, tested pair by pair, and has every id.
use Rattle.std.proofs.Common.{◌≡◌, Bool, true, List, [], ◌∷◌, ◌&&◌, refl, sym, true≢false, arith}
use Rattle.std.specs.List.{AllByRecursion, list_all}
use Rattle.std.specs.List.Sorted.{IsStrictlySortedBy}
use Rattle.std.specs.Ordering.{is_lt}
use Rattle.std.specs.declared.cmp.Ordering.{Ordering}
use Rattle.std.specs.declared.cmp.Ordering.TheVariants.{Less, Equal, Greater}
use Rattle.std.proofs.lemmas.Bool.{and_parts}
use Rattle.bp_faults.specs.declared.target.Target.TheVariants as T
use Rattle.bp_props.specs.declared.group_id.GroupId.{GroupId}
use Rattle.bp_props.specs.declared.group_id.GroupId.TheVariants as G
use Rattle.bp_props.specs.Groups.{by_id}
use Rattle.bp_props.specs.Laws.{group_ids, IdsAscend, IdsAreListed}

less_of_is_lt : (r : Ordering) → is_lt r ≡ true → r ≡ Less
less_of_is_lt Less h = refl
less_of_is_lt Equal h = absurd (true≢false (sym h))
less_of_is_lt Greater h = absurd (true≢false (sym h))

is_below_all : GroupId → List GroupId → Bool
is_below_all id ids = list_all (λ other. is_lt (by_id id other)) ids

ascend : List GroupId → Bool
ascend [] = true
ascend (id ∷ ids) = is_below_all id ids && ascend ids

below_all : (id : GroupId) (ids : List GroupId) → is_below_all id ids ≡ true
    → AllByRecursion (λ other. by_id id other ≡ Less) ids
unfolding is_below_all
below_all id [] is = tt
below_all id (other ∷ ids) is =
    let both = and_parts (is_lt (by_id id other)) (is_below_all id ids) is in
    (less_of_is_lt (by_id id other) both.0, below_all id ids both.1)

sorted_from_ascend : (ids : List GroupId) → ascend ids ≡ true → IsStrictlySortedBy by_id ids
unfolding IsStrictlySortedBy ascend
sorted_from_ascend [] is = tt
sorted_from_ascend (id ∷ ids) is =
    let both = and_parts (is_below_all id ids) (ascend ids) is in
    (below_all id ids both.0, sorted_from_ascend ids both.1)

tested : ascend group_ids ≡ true
unfolding ascend is_below_all
tested = refl

pub ids_ascend : IdsAscend
ids_ascend = sorted_from_ascend group_ids tested

pub ids_are_listed : IdsAreListed
ids_are_listed G.ArchArm = (0, omega arith, refl)
ids_are_listed G.ArchArm64 = (1, omega arith, refl)
ids_are_listed G.ArchRiscv64 = (2, omega arith, refl)
ids_are_listed G.ArchX86 = (3, omega arith, refl)
ids_are_listed G.ArchX86_64 = (4, omega arith, refl)
ids_are_listed G.Lib32 = (5, omega arith, refl)
ids_are_listed G.Lib64 = (6, omega arith, refl)
ids_are_listed G.Android = (7, omega arith, refl)
ids_are_listed G.Host = (8, omega arith, refl)
ids_are_listed G.Linux = (9, omega arith, refl)
ids_are_listed G.LinuxGlibc = (10, omega arith, refl)
ids_are_listed G.NotWindows = (11, omega arith, refl)
ids_are_listed G.Darwin = (12, omega arith, refl)
ids_are_listed G.Windows = (13, omega arith, refl)
ids_are_listed G.Vendor = (14, omega arith, refl)
ids_are_listed G.Recovery = (15, omega arith, refl)
ids_are_listed (G.Named T.AndroidArm64) = (16, omega arith, refl)
ids_are_listed (G.Named T.AndroidArm) = (17, omega arith, refl)
ids_are_listed (G.Named T.AndroidX86_64) = (18, omega arith, refl)
ids_are_listed (G.Named T.AndroidX86) = (19, omega arith, refl)
ids_are_listed (G.Named T.LinuxGlibcX86_64) = (20, omega arith, refl)
ids_are_listed (G.Named T.LinuxGlibcX86) = (21, omega arith, refl)
ids_are_listed G.Static = (22, omega arith, refl)
ids_are_listed G.Shared = (23, omega arith, refl)
