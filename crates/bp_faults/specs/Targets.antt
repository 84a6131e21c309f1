-- The six targets by their names, and their order.
use Rattle.std.specs.Prelude.{ℕ, List, codes}
use Rattle.bp_faults.specs.declared.target.Target.{Target}
use Rattle.bp_faults.specs.declared.target.Target.TheVariants.{AndroidArm64, AndroidArm, AndroidX86_64, AndroidX86}
use Rattle.bp_faults.specs.declared.target.Target.TheVariants.{LinuxGlibcX86_64, LinuxGlibcX86}

-- Each target has a name, which the words of the command line and the variants spell alike.
abbrev pub target_name : Target → List ℕ
target_name AndroidArm64 = codes "android_arm64"
target_name AndroidArm = codes "android_arm"
target_name AndroidX86_64 = codes "android_x86_64"
target_name AndroidX86 = codes "android_x86"
target_name LinuxGlibcX86_64 = codes "linux_glibc_x86_64"
target_name LinuxGlibcX86 = codes "linux_glibc_x86"

-- Targets are ordered by these ranks.
abbrev pub target_rank : Target → ℕ
target_rank AndroidArm64 = 0
target_rank AndroidArm = 1
target_rank AndroidX86_64 = 2
target_rank AndroidX86 = 3
target_rank LinuxGlibcX86_64 = 4
target_rank LinuxGlibcX86 = 5
