-- Which variations stand on which axis.
use Rattle.std.specs.Prelude.{◌≡◌, Bool, true, false, List, [], ◌∷◌, nat_lt, IsTrue}
use Rattle.graph_nodes.specs.declared.variations.Axis.{Axis}
use Rattle.graph_nodes.specs.declared.variations.Axis.TheVariants as A
use Rattle.graph_nodes.specs.declared.variation.Variation.{Variation}
use Rattle.graph_nodes.specs.declared.variation.Variation.TheVariants.{Empty, Target, Common, Vendor, Recovery}
use Rattle.graph_nodes.specs.declared.variation.Variation.TheVariants.{Static, Shared, PerSource, Asan}

-- The variations that may stand on an axis. Sources are numbered by a `u32`.
abbrev pub stands_on : Axis → Variation → Bool
stands_on axis Empty = true
stands_on A.Target (Target target) = true
stands_on A.Target Common = true
stands_on A.Image Vendor = true
stands_on A.Image Recovery = true
stands_on A.Link Static = true
stands_on A.Link Shared = true
stands_on A.PerSource (PerSource source) = nat_lt source 4294967296
stands_on A.Sanitize Asan = true
stands_on axis variation = false

-- The variations of a node stand on the axes, each on its own.
pub record AreOnAxes (variations : List Variation) : Type 0 where
  pub target : Variation
  pub image : Variation
  pub link : Variation
  pub source : Variation
  pub sanitize : Variation
  pub are : variations ≡ target ∷ image ∷ link ∷ source ∷ sanitize ∷ []
  pub on_target : IsTrue (stands_on A.Target target)
  pub on_image : IsTrue (stands_on A.Image image)
  pub on_link : IsTrue (stands_on A.Link link)
  pub on_source : IsTrue (stands_on A.PerSource source)
  pub on_sanitize : IsTrue (stands_on A.Sanitize sanitize)
