-- The lines of one node more.
use Rattle.std.proofs.Common.{◌≡◌, ◌∙◌, ◌+◌, ◌<◌, ◌++◌, ℕ, List, take, length, get_or, ap, sym}
use Rattle.std.specs.List.{flat_map}
use Rattle.std.proofs.lemmas.Grind.{flat_map-append}
use Rattle.graph_nodes.specs.declared.graph.Node.{Node}
use Rattle.graph_nodes.specs.GraphText.{node_lines, graph_text_of}
use Rattle.graph_nodes.specs.Numbered.{by_number}
use Rattle.graph_nodes.proofs.Numbers.{by_number_step}
use Rattle.bp_faults.specs.Characters.{ended_line}

pub node_lines_more : {P : Type 0} (nodes : List (Node P)) (names : List (List ℕ)) (i : ℕ) (x : Node P)
    (old new : List ℕ) → i < length nodes → x ≡ get_or nodes i x → old ≡ graph_text_of (take i nodes) names
    → new ≡ old ++ flat_map ended_line (node_lines names i x) → new ≡ graph_text_of (take (i + 1) nodes) names
node_lines_more nodes names i x old new lt read so_far more =
    more
    ∙ (λ j. so_far j ++ flat_map ended_line (node_lines names i (read j)))
    ∙ sym (flat_map-append ended_line (by_number (node_lines names) 0 (take i nodes))
    (node_lines names i (get_or nodes i x)))
    ∙ ap (flat_map ended_line) (sym (by_number_step (node_lines names) nodes i x lt))
