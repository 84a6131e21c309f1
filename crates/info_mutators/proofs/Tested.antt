-- Nodes of which each passes a test.
use Rattle.std.proofs.Common.{◌≡◌, subst, ℕ, zero, suc, Bool, true, List, [], ◌∷◌, map, Some}
use Rattle.std.specs.Prelude.{Contains, slice_get}
use Rattle.std.specs.List.{AllByRecursion, list_all}
use Rattle.std.proofs.lemmas.Bool.{and_parts}
use Rattle.std.proofs.lemmas.List.Elements.{All-contains, All-from_recursion}
use Rattle.bp_props.specs.declared.props.Props.{Props}
use Rattle.graph_nodes.specs.declared.graph.Node.{Node}
use Rattle.module_rules.specs.Seen.{node_at}

same_item : {X : Type 0} (x y : X) → Some x ≡ Some y → x ≡ y
same_item x y e = cc

-- the node of a number passes it
pub passes_at : (test : Node Props → Bool) (nodes : List (Node Props)) (n : ℕ) (x : Node Props)
    → slice_get nodes n ≡ Some x
    → list_all test nodes ≡ true → test x ≡ true
passes_at test [] n x is all = cc
passes_at test (y ∷ ys) zero x is all =
    subst (λ (z : Node Props). test z ≡ true) (same_item y x is) (and_parts (test y) (list_all test ys) all).0
passes_at test (y ∷ ys) (suc n) x is all = passes_at test ys n x is (and_parts (test y) (list_all test ys) all).1

pub node_there : (nodes : List (Node Props)) (n : ℕ) (x : Node Props) → slice_get nodes n ≡ Some x → node_at nodes n ≡ x
node_there [] n x is = cc
node_there (y ∷ ys) zero x is = same_item y x is
node_there (y ∷ ys) (suc n) x is = node_there ys n x is

module _ (Holds : Props → Type 0) (test : Node Props → Bool)
    (each : (x : Node Props) → test x ≡ true → Holds x.payload) where
  payloads : (nodes : List (Node Props)) → list_all test nodes ≡ true
      → AllByRecursion Holds (map (λ (x : Node Props). x.payload) nodes)
  payloads [] all = tt
  payloads (x ∷ nodes) all =
      let parts = and_parts (test x) (list_all test nodes) all in (each x parts.0, payloads nodes parts.1)

  -- what holds of the payload of each holds of all that are among their payloads
  pub among_payloads : (nodes : List (Node Props)) → list_all test nodes ≡ true → (ins : List Props)
      → AllByRecursion (Contains (map (λ (x : Node Props). x.payload) nodes)) ins → AllByRecursion Holds ins
  among_payloads nodes all [] are = tt
  among_payloads nodes all (p ∷ ins) are =
      let ps = map (λ (x : Node Props). x.payload) nodes in (
        All-contains Holds ps p (All-from_recursion Holds ps (payloads nodes all)) are.0,
        among_payloads nodes all ins are.1,
      )
