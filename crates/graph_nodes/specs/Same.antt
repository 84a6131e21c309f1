-- Which variations are the same, as a test. It tells exactly whether they are equal (`laws::same_means_equal`).
use Rattle.std.specs.Prelude.{ℕ, Bool, ◌&&◌, nat_eq}
use Rattle.bp_faults.specs.Targets.{target_rank}
use Rattle.graph_nodes.specs.declared.variation.Variation.{Variation}
use Rattle.graph_nodes.specs.declared.variation.Variation.TheVariants.{Empty, Target, Common, Vendor, Recovery}
use Rattle.graph_nodes.specs.declared.variation.Variation.TheVariants.{Static, Shared, PerSource, Asan}

-- What sort of variation it is.
abbrev pub sort_number : Variation → ℕ
sort_number Empty = 0
sort_number (Target target) = 1
sort_number Common = 2
sort_number Vendor = 3
sort_number Recovery = 4
sort_number Static = 5
sort_number Shared = 6
sort_number (PerSource source) = 7
sort_number Asan = 8

-- Which of its sort it is.
abbrev pub own_number : Variation → ℕ
own_number (Target target) = target_rank target
own_number (PerSource source) = source
own_number variation = 0

-- Two variations are the same where both numbers are.
unfoldable pub same : Variation → Variation → Bool
same v w = nat_eq (sort_number v) (sort_number w) && nat_eq (own_number v) (own_number w)
