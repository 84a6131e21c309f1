use Rattle.std.proofs.Common.{◌≡◌, take, length}
use Rattle.graph_picture.specs.Lines.{LeadInside, all_variant_lines}
use Rattle.graph_picture.proofs.read.outside_line.Given as goal

abbrev pub invariant-loop-variant : goal.invariant-loop-variant
invariant-loop-variant l = record {
  line_is : l.line ≡ length (all_variant_lines (take l.variant-index l.variants));
  inside : LeadInside (length l.variants) (take l.variant-index l.variants);
}
