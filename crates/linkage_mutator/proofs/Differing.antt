-- Variants whose variations differ.
use Rattle.std.proofs.Common.{◌≡◌, ◌≢◌, ◌<◌, ◌+◌, ℕ, List, [], ◌∷◌, Bool, true, false, ap, arith}
use Rattle.std.specs.List.{All}
use Rattle.std.proofs.lemmas.List.Elements.{All-nil, All-cons}
use Rattle.std.proofs.lemmas.List.Kept.{AllPairs-cons}
use Rattle.bp_props.specs.declared.module.Module.{Module}
use Rattle.bp_props.specs.declared.props.Props.{Props}
use Rattle.bp_props.specs.declared.source.Source.{Source}
use Rattle.graph_nodes.specs.declared.graph.Node.{Node}
use Rattle.graph_nodes.specs.declared.variation.Variation.{Variation}
use Rattle.graph_nodes.specs.declared.variation.Variation.TheVariants.{Empty, PerSource}
use Rattle.graph_nodes.specs.Numbered.{by_number}
use Rattle.graph_nodes.specs.Same.{own_number}
use Rattle.module_rules.specs.Laws.{VariantsDiffer}
use Rattle.linkage_mutator.specs.Sources.{variant_of_source, each_source, is_split, source_variants}

abbrev Variant : Type 0
Variant = Variation × Props

-- a variation before the source k isn't that of k or of any later source
before_differs : (p : Props) (n k : ℕ) (sources : List Source) → n < k
    → All (λ (b : Variant). PerSource n ≢ b.0) (by_number (variant_of_source p) k sources)
before_differs p n k [] lt = All-nil (λ (b : Variant). PerSource n ≢ b.0)
before_differs p n k (s ∷ sources) lt =
    All-cons (λ (b : Variant). PerSource n ≢ b.0) _ _
    (λ is. let same : n ≡ k = ap own_number is in absurd (omega arith))
    (before_differs p n (k + 1) sources (omega arith))

-- the variants of sources differ
sources_differ : (p : Props) (k : ℕ) (sources : List Source)
    → VariantsDiffer (by_number (variant_of_source p) k sources)
sources_differ p k [] = λ i j d before inside. absurd (omega arith)
sources_differ p k (s ∷ sources) =
    AllPairs-cons (λ (b c : Variant). b.0 ≢ c.0) _ _ (before_differs p k (k + 1) sources (omega arith))
    (sources_differ p (k + 1) sources)

one_differs : (b : Variant) → VariantsDiffer (b ∷ [])
one_differs b = λ i j d before inside. absurd (omega arith)

each_differs : (split : Bool) (p : Props) (sources : List Source) → VariantsDiffer (each_source split p sources)
each_differs true p [] = one_differs (Empty, p)
each_differs true p (s ∷ sources) = sources_differ p 1 (s ∷ sources)
each_differs false p [] = one_differs (Empty, p)
each_differs false p (s ∷ sources) = one_differs (Empty, p)

-- the variants of a node by source differ
pub source_variants_apart : (m : Module) (x : Node Props) → VariantsDiffer (source_variants m x)
source_variants_apart m x = each_differs (is_split m.kind x.payload.test_per_src) x.payload x.payload.base.srcs.items
