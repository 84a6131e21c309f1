-- The sizes of the graphs, one mutator more.
use Rattle.std.proofs.Common.{◌≡◌, ◌<◌, ◌+◌, ◌∙◌, ◌++◌, ◌⊎◌, inl, inr, ℕ, suc, List, [], ◌∷◌, length, Some, Ok}
use Rattle.std.proofs.Common.{ap, sym, subst, arith, length-append}
use Rattle.std.specs.Prelude.{slice_get}
use Rattle.std.proofs.Math.ListN.{get_or-append}
use Rattle.std.proofs.Math.Seq.{get_or-append_seam}
use Rattle.std.proofs.lemmas.Bool.{cases_order}
use Rattle.std.proofs.lemmas.Option.{slice_get-get_or}
use Rattle.bp_props.specs.declared.module.Module.{Module}
use Rattle.bp_props.specs.declared.props.Props.{Props}
use Rattle.graph_nodes.specs.declared.graph.Node.{Node}
use Rattle.mutator_rules.specs.declared.config.Config.{Config}
use Rattle.bp_pipeline.specs.declared.sizes.Sizes.{Sizes}
use Rattle.bp_pipeline.specs.Course.{GraphAfter}
use Rattle.bp_pipeline.specs.Generated.{AreSizesTo, sizes_of}

-- an entry among those before
earlier_entry : (sizes : List Sizes) (size : Sizes) (j : ℕ) → j < length sizes
    → slice_get (sizes ++ size ∷ []) j ≡ slice_get sizes j
earlier_entry sizes size j inside =
    let many = length-append sizes (size ∷ []) in
    slice_get-get_or (sizes ++ size ∷ []) j size (omega (arith, many, inside))
    ∙ ap Some (get_or-append sizes (size ∷ []) size j inside) ∙ sym (slice_get-get_or sizes j size inside)

-- the entry behind them
last_entry : (sizes : List Sizes) (size : Sizes) → slice_get (sizes ++ size ∷ []) (length sizes) ≡ Some size
last_entry sizes size =
    let many = length-append sizes (size ∷ []) in
    slice_get-get_or (sizes ++ size ∷ []) (length sizes) size (omega (arith, many))
    ∙ ap Some (get_or-append_seam sizes size [] size)

module _ (mods : List Module) (c : Config) where
  abbrev HasSize : List Sizes → ℕ → Type 0
  HasSize sizes k =
      (nodes : List (Node Props)) × GraphAfter mods c (suc k) (Ok nodes) × (slice_get sizes k ≡ Some (sizes_of nodes))

  -- one graph more
  pub sizes_more : (k : ℕ) (sizes after : List Sizes) (size : Sizes) (nodes : List (Node Props))
      → AreSizesTo mods c k sizes → GraphAfter mods c (suc k) (Ok nodes) → size ≡ sizes_of nodes
      → after ≡ sizes ++ size ∷ [] → AreSizesTo mods c (k + 1) after
  sizes_more k sizes after size nodes are graph same is = subst (AreSizesTo mods c (k + 1)) (sym is) more
    where
      at : (j : ℕ) → j < k + 1 → (j ≡ k) ⊎ ((j < k) ⊎ (k < j)) → HasSize (sizes ++ size ∷ []) j
      at j below (inl last) =
          subst (HasSize (sizes ++ size ∷ [])) (sym last)
          (nodes, graph, ap (slice_get (sizes ++ size ∷ [])) (sym are.many) ∙ last_entry sizes size ∙ ap Some same)
      at j below (inr (inl before)) =
          let entry = are.each j before in
          let inside : j < length sizes = let many = are.many in omega (arith, many, before) in
          (entry.0, entry.1, earlier_entry sizes size j inside ∙ entry.2)
      at j below (inr (inr behind)) = absurd (omega (arith, below, behind))

      more : AreSizesTo mods c (k + 1) (sizes ++ size ∷ [])
      more = record {
        many =
            let all = length-append sizes (size ∷ []) in
            let many = are.many in
            omega (arith, all, many);
        each = λ j below. at j below (cases_order j k);
      }
