-- The summary of a job over a synthetic tree.
use Rattle.std.specs.Prelude.{ℕ, List, ◌++◌, codes, decimal}
use Rattle.synthetic_tree.specs.declared.summary.Summary.{Summary}

-- Three lines of words and a number: what the graphs come to.
abbrev pub graph_lines : ℕ → ℕ → ℕ → List ℕ
graph_lines modules linked edges =
    codes "modules " ++ (decimal modules ++ (codes "\nnodes after link " ++ (decimal linked
    ++ (codes "\nedges after plugins " ++ (decimal edges ++ codes "\n")))))

-- Three more: what the last graph and the file for Ninja come to.
abbrev pub file_lines : ℕ → ℕ → ℕ → List ℕ
file_lines nodes statements bytes =
    codes "nodes " ++ (decimal nodes ++ (codes "\nstatements " ++ (decimal statements
    ++ (codes "\nbytes " ++ (decimal bytes ++ codes "\n")))))

-- The six lines of a summary.
abbrev pub summary_text : Summary → List ℕ
summary_text s = graph_lines s.modules s.linked s.edges ++ file_lines s.nodes s.statements s.bytes
