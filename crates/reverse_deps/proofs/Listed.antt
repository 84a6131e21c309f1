-- The nodes of modules, one node more, and the first of a module that passes.
use Rattle.std.proofs.Common.{◌≡◌, ◌≢◌, ◌<◌, ◌+◌, ◌++◌, ◌&&◌, ℕ, zero, suc, Bool, true, false, cond, List, [], ◌∷◌}
use Rattle.std.proofs.Common.{Some, length, set, take, drop, get_or, nat_eq, refl, ap, sym, ◌∙◌, subst, arith}
use Rattle.std.proofs.Common.{append-nil, get_or-set_same, get_or-set_other}
use Rattle.std.specs.Prelude.{slice_get}
use Rattle.std.specs.Option.{option_map, option_map_or}
use Rattle.std.specs.List.{find, position_from}
use Rattle.std.proofs.lemmas.Bool.{eqb-true}
use Rattle.std.proofs.lemmas.List.{length-take-le}
use Rattle.std.proofs.lemmas.Bool.Decides.{nat_tests}
use Rattle.bp_faults.specs.declared.ids.NodeId.{NodeId}
use Rattle.bp_faults.proofs.Lists.{take-more}
use Rattle.graph_nodes.specs.declared.graph.Node.{Node}
use Rattle.graph_nodes.specs.Numbered.{by_number}
use Rattle.graph_nodes.specs.Laws.{OneMoreItem}
use Rattle.mutator_rules.specs.declared.request.Wanted.{Wanted}
use Rattle.reverse_deps.specs.Inside.{if_of, nodes_of, is_wanted_at}
use Rattle.reverse_deps.specs.Resolved.{is_wanted, is_for, node_for}

abbrev number : ℕ → NodeId
number n = record { 0 = n }

module _ {P : Type 0} where
  -- one node more stands in the list of its module
  module _ (one_more : OneMoreItem (Node P) NodeId) (nodes : List (Node P)) (lists : List (List NodeId)) (n : ℕ)
      (x : Node P) (lt : n < length nodes) (x_is : x ≡ get_or nodes n x) (has_list : x.«module».0 < length lists) where
    nodes_more : (m : ℕ) → nodes_of (take (n + 1) nodes) m ≡ nodes_of (take n nodes) m ++ if_of m n x
    nodes_more m =
        ap (λ l. nodes_of l m) (take-more nodes n x lt x_is) ∙ one_more (if_of m) (take n nodes) x
        ∙ ap (λ k. nodes_of (take n nodes) m ++ if_of m k x) (length-take-le n nodes (omega arith))

    pub one_more_node : (m : ℕ) (new : List NodeId) → new ≡ get_or lists x.«module».0 [] ++ number n ∷ []
        → get_or lists m [] ≡ nodes_of (take n nodes) m
        → get_or (set lists x.«module».0 new) m [] ≡ nodes_of (take (n + 1) nodes) m
    one_more_node m new new_is old = by (nat_eq x.«module».0 m) refl
      where
        by : (b : Bool) → nat_eq x.«module».0 m ≡ b
            → get_or (set lists x.«module».0 new) m [] ≡ nodes_of (take (n + 1) nodes) m
        by true is =
            let same : x.«module».0 ≡ m = eqb-true x.«module».0 m is in
            subst (λ k. get_or (set lists x.«module».0 new) k [] ≡ nodes_of (take (n + 1) nodes) m) same
            (get_or-set_same lists x.«module».0 new [] has_list
            ∙ new_is
            ∙ ap (λ k. get_or lists k [] ++ number n ∷ []) same
            ∙ ap (λ l. l ++ number n ∷ []) old
            ∙ sym (nodes_more m ∙ ap (λ b. nodes_of (take n nodes) m ++ cond b (number n ∷ []) []) is))
        by false is =
            let ne : m ≢ x.«module».0 = grind (arith, nat_tests) in
            get_or-set_other lists x.«module».0 m new [] ne ∙ old
            ∙ sym (nodes_more m ∙ ap (λ b. nodes_of (take n nodes) m ++ cond b (number n ∷ []) []) is
            ∙ append-nil (nodes_of (take n nodes) m))

  wanted_read : (nodes : List (Node P)) (want : Wanted) (k : ℕ) (x : Node P) (xs : List (Node P))
      → drop k nodes ≡ x ∷ xs → is_wanted_at nodes want (number k) ≡ is_wanted want x.vars
  wanted_read nodes want k x xs is =
      ap (λ o. option_map_or (λ (y : Node P). is_wanted want y.vars) o false) (got nodes k is)
    where
      got : (nodes : List (Node P)) (k : ℕ) → drop k nodes ≡ x ∷ xs → slice_get nodes k ≡ Some x
      got [] zero is = cc
      got [] (suc k) is = cc
      got (y ∷ ys) zero is = let same : y ≡ x = cc in ap Some same
      got (y ∷ ys) (suc k) is = got ys k is

  drop_next : (nodes : List (Node P)) (k : ℕ) (x : Node P) (xs : List (Node P)) → drop k nodes ≡ x ∷ xs
      → drop (k + 1) nodes ≡ xs
  drop_next [] zero x xs is = cc
  drop_next [] (suc k) x xs is = cc
  drop_next (y ∷ ys) zero x xs is = cc
  drop_next (y ∷ ys) (suc k) x xs is =
      let e : suc k + 1 ≡ suc (k + 1) = omega arith in ap (λ n. drop n (y ∷ ys)) e ∙ drop_next ys k x xs is

  first_from : (nodes : List (Node P)) (m : ℕ) (want : Wanted) (k : ℕ) (xs : List (Node P)) → drop k nodes ≡ xs
      → find (is_wanted_at nodes want) (by_number (if_of m) k xs)
      ≡ option_map number (position_from (is_for m want) k xs)
  first_from nodes m want k [] is = refl
  first_from nodes m want k (x ∷ xs) is =
      by (nat_eq x.«module».0 m) (is_wanted want x.vars) (wanted_read nodes want k x xs is)
      (first_from nodes m want (k + 1) xs (drop_next nodes k x xs is))
    where
      by : (of wanted : Bool) → is_wanted_at nodes want (number k) ≡ wanted → find (is_wanted_at nodes want)
          (by_number (if_of m) (k + 1) xs) ≡ option_map number (position_from (is_for m want) (k + 1) xs)
          → find (is_wanted_at nodes want) (cond of (number k ∷ []) [] ++ by_number (if_of m) (k + 1) xs)
          ≡ option_map number (cond (of && wanted) (Some k) (position_from (is_for m want) (k + 1) xs))
      by false wanted test on = on
      by true true test on =
          ap (λ b. cond b (Some (number k)) (find (is_wanted_at nodes want) (by_number (if_of m) (k + 1) xs))) test
      by true false test on =
          ap (λ b. cond b (Some (number k)) (find (is_wanted_at nodes want) (by_number (if_of m) (k + 1) xs))) test ∙ on

  -- of a module's nodes the first that has the wanted variations is the least of the graph
  pub first_of_module : (nodes : List (Node P)) (m : ℕ) (want : Wanted)
      → find (is_wanted_at nodes want) (nodes_of nodes m) ≡ node_for nodes m want
  first_of_module nodes m want = first_from nodes m want 0 nodes refl
