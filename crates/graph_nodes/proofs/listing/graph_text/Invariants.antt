use Rattle.std.proofs.Common.{◌≡◌, take, string_bytes}
use Rattle.graph_nodes.specs.GraphText.{graph_text_of}
use Rattle.graph_nodes.proofs.listing.graph_text.Given as goal

-- the text of the nodes so far
abbrev pub invariant-loop-n : goal.invariant-loop-n
invariant-loop-n g l = string_bytes l.text ≡ graph_text_of (take l.n l.node-items) l.names
