-- The indices of a node's variations.
use Rattle.std.specs.Prelude.{ℕ}
use Rattle.graph_nodes.specs.declared.variations.Axis.{Axis}
use Rattle.graph_nodes.specs.declared.variations.Axis.TheVariants.{Target, Image, Link, PerSource, Sanitize}

-- The index of an axis in the list of a node's variations.
abbrev pub axis_index : Axis → ℕ
axis_index Target = 0
axis_index Image = 1
axis_index Link = 2
axis_index PerSource = 3
axis_index Sanitize = 4
