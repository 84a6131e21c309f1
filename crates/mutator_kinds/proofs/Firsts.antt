-- The first variants of results in the places of nodes.
use Rattle.std.proofs.Common.{◌≡◌, ◌<◌, ◌++◌, ℕ, suc, List, [], ◌∷◌, Option, length, map, get_or, set, refl, ap, sym}
use Rattle.std.proofs.Common.{◌∙◌, arith}
use Rattle.std.proofs.lemmas.List.{map-append, length-map}
use Rattle.bp_faults.specs.declared.ids.NodeId.{NodeId}
use Rattle.graph_nodes.specs.declared.graph.Node.{Node}
use Rattle.graph_nodes.specs.declared.variations.Axis.{Axis}
use Rattle.graph_nodes.specs.Laws.{OneMoreItem}
use Rattle.mutator_rules.specs.declared.request.Request.{Request}
use Rattle.mutator_rules.specs.declared.split.Split.{Split}
use Rattle.mutator_kinds.specs.BottomUp.{asked_of}
use Rattle.mutator_kinds.specs.Inside.{with_first, with_firsts}

module _ {P : Type 0} (along : Option Axis) where
  -- a node with the first variant of its result
  abbrev pub given : Node P → Split P → Node P
  given x made = with_first along x made.variants

  -- before the first result the nodes are as they were
  pub firsts_none : (xs : List (Node P)) → xs ≡ with_firsts along xs []
  firsts_none [] = refl
  firsts_none (x ∷ xs) = refl

  -- there are as many nodes
  pub length-with_firsts : (xs : List (Node P)) (outs : List (Split P)) → length (with_firsts along xs outs) ≡ length xs
  length-with_firsts [] outs = refl
  length-with_firsts (x ∷ xs) [] = refl
  length-with_firsts (x ∷ xs) (made ∷ outs) = ap suc (length-with_firsts xs outs)

  -- one result more
  firsts_more : (xs : List (Node P)) (outs : List (Split P)) (made : Split P) (d : Node P)
      → length outs < length xs
      → set (with_firsts along xs outs) (length outs) (given (get_or (with_firsts along xs outs) (length outs) d) made)
      ≡ with_firsts along xs (outs ++ made ∷ [])
  firsts_more [] outs made d lt = absurd (omega arith)
  firsts_more (x ∷ xs) [] made d lt = ap (λ (l : List (Node P)). given x made ∷ l) (firsts_none xs)
  firsts_more (x ∷ xs) (o ∷ outs) made d lt =
      ap (λ (l : List (Node P)). given x o ∷ l) (firsts_more xs outs made d (omega arith))

  -- a loop's step: the nodes
  pub firsts_step : {B : Type 0} (value : B → Split P) (xs ys : List (Node P)) (bs : List B) (i : ℕ) (b : B)
      (made : Split P) (d : Node P) → length bs < length xs
      → ys ≡ with_firsts along xs (map value bs) → i ≡ length bs → made ≡ value b
      → set ys i (given (get_or ys i d) made) ≡ with_firsts along xs (map value (bs ++ b ∷ []))
  firsts_step value xs ys bs i b made d lt is at of =
      let many = length-map bs value in
      let outs = map value bs in
      let len : i ≡ length (map value bs) = at ∙ sym (length-map bs value) in
      let lt' : length (map value bs) < length xs = omega (arith, many, lt) in
      let before = with_firsts along xs outs in
      ap (λ (l : List (Node P)). set l i (given (get_or l i d) made)) is
      ∙ ap (λ n. set before n (given (get_or before n d) made)) len
      ∙ firsts_more xs outs made d lt'
      ∙ ap (with_firsts along xs) (ap (λ (q : Split P). outs ++ q ∷ []) of ∙ sym (map-append value bs (b ∷ [])))

module _ {P B : Type 0} (value : B → Split P) where
  abbrev asks : ℕ → Split P → List (NodeId × Request)
  asks n made = map (λ r. (record { 0 = n }, r)) made.requests

  -- a loop's step: what is asked
  pub asked_step : OneMoreItem (Split P) (NodeId × Request) → (old new : List (NodeId × Request)) (bs : List B)
      (n : NodeId) (b : B) (made : Split P) (requests : List Request)
      → old ≡ asked_of (map value bs) → n.0 ≡ length bs → made ≡ value b → requests ≡ made.requests
      → new ≡ old ++ map (λ r. (n, r)) requests → new ≡ asked_of (map value (bs ++ b ∷ []))
  asked_step one old new bs n b made requests was at of asks_are grown =
      let len : n.0 ≡ length (map value bs) = at ∙ sym (length-map bs value) in
      grown ∙ ap (λ l. l ++ map (λ r. (n, r)) requests) was
      ∙ ap (λ l. asked_of (map value bs) ++ map (λ r. (n, r)) l) (asks_are ∙ ap (λ (s : Split P). s.requests) of)
      ∙ ap (λ k. asked_of (map value bs) ++ asks k (value b)) len
      ∙ sym (one asks (map value bs) (value b))
      ∙ ap asked_of (sym (map-append value bs (b ∷ [])))
