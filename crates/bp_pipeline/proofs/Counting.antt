-- The numbers of edges, and of statements.
use Rattle.std.proofs.Common.{◌≡◌, ◌<◌, ◌≤◌, ◌+◌, ◌∙◌, ◌++◌, ℕ, zero, suc, List, [], ◌∷◌, length, map, take}
use Rattle.std.proofs.Common.{get_or, refl}
use Rattle.std.proofs.Common.{ap, sym, arith, length-append}
use Rattle.std.specs.Prelude.{codes}
use Rattle.std.specs.List.{flat_map}
use Rattle.std.proofs.lemmas.List.{length-map, take_more}
use Rattle.bp_props.specs.declared.props.Props.{Props}
use Rattle.graph_nodes.specs.declared.graph.Node.{Node}
use Rattle.graph_nodes.specs.Nodes.{all_edges}
use Rattle.graph_nodes.specs.Numbered.{by_number}
use Rattle.module_graph.specs.Graphs.{edges_of, outward}
use Rattle.ninja_file.specs.declared.file.NinjaFile.{NinjaFile}
use Rattle.ninja_file.specs.declared.file.Statement.{Statement}
use Rattle.ninja_write.specs.Meaning.{build_line, default_lines, head_line, joined_text, rule_lines}
use Rattle.ninja_write.specs.Meaning.{statement_lines, text_of, variable_line}
use Rattle.bp_faults.specs.Characters.{ended_line}

length-edges : (k : ℕ) (nodes : List (Node Props))
    → length (by_number (λ n (x : Node Props). map (outward n) x.edges) k nodes) ≡ length (all_edges nodes)
length-edges k [] = refl
length-edges k (x ∷ xs) =
    let here = length-append (map (outward k) x.edges)
    (by_number (λ n (y : Node Props). map (outward n) y.edges) (k + 1) xs) in
    let there = length-append x.edges (all_edges xs) in
    let same = length-map x.edges (outward k) in
    let rest = length-edges (k + 1) xs in
    omega (arith, here, there, same, rest)

-- a graph's edges by node are as many as its edges by number
pub edges_few : (nodes : List (Node Props)) (most : ℕ) → length (edges_of nodes) < most
    → length (all_edges nodes) < most
edges_few nodes most few = let same = length-edges 0 nodes in omega (arith, same, few)

one_more : (xs : List (Node Props)) (x : Node Props)
    → length (all_edges (xs ++ x ∷ [])) ≡ length (all_edges xs) + length x.edges
one_more [] x = let here = length-append x.edges (all_edges {P = Props} []) in omega (arith, here)
one_more (y ∷ ys) x =
    let here = length-append y.edges (all_edges (ys ++ x ∷ [])) in
    let there = length-append y.edges (all_edges ys) in
    let rest = one_more ys x in
    omega (arith, here, there, rest)

-- one node more
pub edges_more : (nodes : List (Node Props)) (i : ℕ) (x : Node Props) → i < length nodes → x ≡ get_or nodes i x
    → length (all_edges (take (i + 1) nodes)) ≡ length (all_edges (take i nodes)) + length x.edges
edges_more nodes i x within is =
    ap (λ l. length (all_edges l)) (take_more nodes i x within)
    ∙ ap (λ y. length (all_edges (take i nodes ++ y ∷ []))) (sym is) ∙ one_more (take i nodes) x

-- the first nodes have no more edges than all
pub edges_within : (nodes : List (Node Props)) (i : ℕ) → length (all_edges (take i nodes)) ≤ length (all_edges nodes)
edges_within nodes zero = omega arith
edges_within [] (suc i) = omega arith
edges_within (x ∷ xs) (suc i) =
    let here = length-append x.edges (all_edges (take i xs)) in
    let there = length-append x.edges (all_edges xs) in
    let rest = edges_within xs i in
    omega (arith, here, there, rest)

length-joined : (xs ys : List (List ℕ))
    → length (joined_text (xs ++ ys)) ≡ length (joined_text xs) + length (joined_text ys)
length-joined [] ys = omega arith
length-joined (x ∷ xs) ys =
    let here = length-append (ended_line x) (joined_text (xs ++ ys)) in
    let there = length-append (ended_line x) (joined_text xs) in
    let rest = length-joined xs ys in
    omega (arith, here, there, rest)

-- each statement has a line
statements_within : (ss : List Statement) → length ss ≤ length (joined_text (flat_map statement_lines ss))
statements_within [] = omega arith
statements_within (s ∷ ss) =
    let parts = length-joined (statement_lines s) (flat_map statement_lines ss) in
    let line = length-append (ended_line (build_line s)) (joined_text (map variable_line s.vars)) in
    let end = length-append (build_line s) (codes "\n") in
    let rest = statements_within ss in
    omega (arith, parts, line, end, rest)

-- a file has no more statements than its text has bytes
pub statements_few : (f : NinjaFile) → length f.statements ≤ length (text_of f)
statements_few f =
    let defaults = default_lines f.defaults in
    let statements = flat_map statement_lines f.statements in
    let rules = flat_map rule_lines f.rules in
    let head = length-append (ended_line head_line) (joined_text (rules ++ (statements ++ defaults))) in
    let first = length-joined rules (statements ++ defaults) in
    let second = length-joined statements defaults in
    let each = statements_within f.statements in
    omega (arith, head, first, second, each)
