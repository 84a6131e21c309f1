-- What holds of the ids of groups.
use Rattle.std.specs.Prelude.{List, [], ◌∷◌}
use Rattle.std.specs.List.{Contains}
use Rattle.std.specs.List.Sorted.{IsStrictlySortedBy}
use Rattle.bp_faults.specs.declared.target.Target.TheVariants as T
use Rattle.bp_props.specs.declared.group_id.GroupId.{GroupId}
use Rattle.bp_props.specs.declared.group_id.GroupId.TheVariants as G
use Rattle.bp_props.specs.Groups.{by_id}

-- The ids of groups, in their order.
abbrev pub group_ids : List GroupId
group_ids =
    G.ArchArm ∷ G.ArchArm64 ∷ G.ArchRiscv64 ∷ G.ArchX86 ∷ G.ArchX86_64 ∷ G.Lib32 ∷ G.Lib64
    ∷ G.Android ∷ G.Host ∷ G.Linux ∷ G.LinuxGlibc ∷ G.NotWindows ∷ G.Darwin ∷ G.Windows ∷ G.Vendor ∷ G.Recovery
    ∷ G.Named T.AndroidArm64 ∷ G.Named T.AndroidArm ∷ G.Named T.AndroidX86_64 ∷ G.Named T.AndroidX86
    ∷ G.Named T.LinuxGlibcX86_64 ∷ G.Named T.LinuxGlibcX86 ∷ G.Static ∷ G.Shared ∷ []

-- Group ids are ordered as in their list.
abbrev pub IdsAscend : Type 0
IdsAscend = IsStrictlySortedBy by_id group_ids

-- The list has every id.
abbrev pub IdsAreListed : Type 0
IdsAreListed = (id : GroupId) → Contains group_ids id
