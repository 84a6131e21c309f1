use Rattle.std.proofs.Common.{◌≡◌, take, string_bytes}
use Rattle.graph_nodes.specs.Names.{variant_name_of}
use Rattle.graph_nodes.proofs.names.variant_name.Given as goal

-- what is there is the name of the variations so far
abbrev pub invariant-loop-variation : goal.invariant-loop-variation
invariant-loop-variation l = string_bytes l.name ≡ variant_name_of (take l.variation-index l.variation-items)
