-- A graph with new payloads.
use Rattle.std.specs.Prelude.{List, [], ◌∷◌}
use Rattle.graph_nodes.specs.declared.graph.Node.{Node}

module _ {P : Type 0} where
  -- A node with another payload.
  abbrev pub with_payload : Node P → P → Node P
  with_payload x p = record { «module» = x.«module»; vars = x.vars; payload = p; edges = x.edges }

  -- Each node with the payload of its number. All else stays.
  abbrev pub with_payloads : List (Node P) → List P → List (Node P)
  with_payloads [] ps = []
  with_payloads (x ∷ xs) [] = x ∷ xs
  with_payloads (x ∷ xs) (p ∷ ps) = with_payload x p ∷ with_payloads xs ps
