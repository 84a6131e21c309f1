use Rattle.std.proofs.Common.{arith, ap, length, subst, List}
use Rattle.graph_picture.specs.declared.variant.Variant.{Variant}
use Rattle.graph_picture.specs.Lines.{LeadInside, all_variant_lines}
use Rattle.graph_picture.proofs.ByLine.{ended_few, variants_few}
use Rattle.graph_picture.proofs.read.read_graph.Goals as goal

pub outside_line-requires : goal.outside_line-requires
outside_line-requires c =
    let variants = c.in_ok-variants.variants.items in
    rw c.deref.ensures.value
    (omega (arith, ended_few (all_variant_lines variants), ap length c.in_ok-variants.ensures.1, c.requires))

pub returns-in-None : goal.returns-in-None
returns-in-None c =
    let variants = c.in_ok-variants.variants.items in
    let Inside : List Variant → Type 0 = λ vs. LeadInside (length vs) vs in
    let few = variants_few variants in
    let read = ap length c.in_ok-variants.ensures.1 in (
      record {
        each = c.in_ok-variants.ensures.0;
        ends = subst Inside c.deref.ensures.value c.in-None.ensures;
        few = omega (arith, few, read, c.requires);
      },
      c.in_ok-variants.ensures.1,
    )
