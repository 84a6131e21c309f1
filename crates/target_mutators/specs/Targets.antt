-- The table of targets, and the groups of a target in the order in which they are appended.
use Rattle.std.specs.Prelude.{◌++◌, List, [], ◌∷◌}
use Rattle.bp_faults.specs.declared.target.Target.{Target}
use Rattle.bp_faults.specs.declared.target.Target.TheVariants.{AndroidArm64, AndroidArm, AndroidX86_64, AndroidX86}
use Rattle.bp_faults.specs.declared.target.Target.TheVariants.{LinuxGlibcX86_64, LinuxGlibcX86}
use Rattle.bp_props.specs.declared.group_id.GroupId.{GroupId}
use Rattle.bp_props.specs.declared.group_id.GroupId.TheVariants as G
use Rattle.target_mutators.specs.declared.targets.Bits.{Bits}
use Rattle.target_mutators.specs.declared.targets.Bits.TheVariants.{Bits32, Bits64}
use Rattle.target_mutators.specs.declared.targets.Class.{Class}
use Rattle.target_mutators.specs.declared.targets.Class.TheVariants.{Device, Host}
use Rattle.target_mutators.specs.declared.targets.TargetRow.{TargetRow}

-- The table says of each target its class, the group of its architecture, and its bits.
abbrev pub row_of : Target → TargetRow
row_of AndroidArm64 = record { class = Device; arch = G.ArchArm64; bits = Bits64 }
row_of AndroidArm = record { class = Device; arch = G.ArchArm; bits = Bits32 }
row_of AndroidX86_64 = record { class = Device; arch = G.ArchX86_64; bits = Bits64 }
row_of AndroidX86 = record { class = Device; arch = G.ArchX86; bits = Bits32 }
row_of LinuxGlibcX86_64 = record { class = Host; arch = G.ArchX86_64; bits = Bits64 }
row_of LinuxGlibcX86 = record { class = Host; arch = G.ArchX86; bits = Bits32 }

-- There is a group for each width.
abbrev pub bits_group : Bits → GroupId
bits_group Bits32 = G.Lib32
bits_group Bits64 = G.Lib64

-- The targets of a class have groups in common.
abbrev pub class_groups : Class → List GroupId
class_groups Device = G.Linux ∷ G.Android ∷ []
class_groups Host = G.Linux ∷ G.NotWindows ∷ G.Host ∷ G.LinuxGlibc ∷ []

-- A target has these groups, in order: of its architecture, of its bits, of its class, and its own.
abbrev pub groups_of : Target → List GroupId
groups_of target =
    (row_of target).arch
    ∷ bits_group (row_of target).bits
    ∷ (class_groups (row_of target).class ++ G.Named target ∷ [])
