-- Where the variants of each node begin.
use Rattle.std.proofs.Common.{◌≡◌, ◌+◌, ◌<◌, ◌≤◌, ℕ, zero, suc, List, [], ◌∷◌, map, length, take, get_or, refl}
use Rattle.std.proofs.Common.{ap, ◌∙◌, sym, subst, arith, zero-add, Some}
use Rattle.variant_graphs.proofs.Pieces.{flat_map_at}
use Rattle.std.specs.List.{AllByRecursion, AllPairs, filter_map, flat_map, cons_option, sum_by}
use Rattle.std.specs.Prelude.{◌≢◌, slice_range}
use Rattle.std.proofs.lemmas.List.Elements.{All-from_recursion}
use Rattle.std.proofs.lemmas.List.{length-map, take-map}
use Rattle.std.proofs.lemmas.List.Concat.{length-flat_map}
use Rattle.std.proofs.lemmas.List.Sums.{sum-map, sum_by-take-le, sum_by_more, sum_by_more_le}
use Rattle.std.proofs.lemmas.List.FromFn.{get_or-map-range_with_len, length-map-range_with_len}
use Rattle.graph_nodes.specs.declared.graph.Edge.{Edge}
use Rattle.graph_nodes.specs.declared.variation.Variation.{Variation}
use Rattle.bp_faults.specs.declared.limits.TheConstants.{MOST_NODES}
use Rattle.variant_graphs.specs.Inside.{total, before, begun, theirs, IsNumbering, IsFit, led_by, node_by}
use Rattle.variant_graphs.specs.declared.numbering.Numbering.{Numbering}
use Rattle.variant_graphs.specs.Splitting.{SplitRule, Splitting, splitting, variants_at, first_of, led_edge}
use Rattle.variant_graphs.specs.Splitting.{variant_node}
use Rattle.graph_nodes.specs.Axes.{axis_index}
use Rattle.graph_nodes.specs.declared.graph.Node.{Node}
use Rattle.std.specs.Option.{option_map}
use Rattle.std.specs.Prelude.{Option, slice_set}
use Rattle.bp_faults.proofs.Lists.{all_map, apart_pairs, pairs_apart, apart_image}
use Rattle.variant_graphs.specs.Inside.{counts_of}

pub get_lengths : {B : Type 0} (ls : List (List B)) (t : ℕ) → get_or (map length ls) t 0 ≡ length (get_or ls t [])
get_lengths [] t = refl
get_lengths (l ∷ ls) zero = refl
get_lengths (l ∷ ls) (suc t) = get_lengths ls t

module _ {P B : Type 0} (s : Splitting P B) where
  pub total_is : total (counts_of s) ≡ sum_by length s.variants
  total_is = sum-map length s.variants

  pub before_is : (n : ℕ) → before (counts_of s) n ≡ first_of s n
  before_is n = ap total (take-map length n s.variants) ∙ sum-map length (take n s.variants)

  variations_long : (ls : List (List B)) → length (flat_map (map s.variation) ls) ≡ sum_by length ls
  variations_long ls =
      length-flat_map (map s.variation) ls ∙ (λ i. sum_by (λ (l : List B). length-map l s.variation i) ls)

  module _ (numbering : Numbering) (h : IsNumbering s numbering) where
    pub begins_long : length numbering.begins.items ≡ length s.variants + 1
    begins_long =
        ap length h.begins ∙ length-map-range_with_len (before (counts_of s)) 0 (length (counts_of s) + 1)
        ∙ ap (λ k. k + 1) (length-map s.variants length)

    pub begun_at : (t : ℕ) → t ≤ length s.variants → begun numbering t ≡ first_of s t
    begun_at t within =
        ap (λ l. get_or l t 0) h.begins
        ∙ get_or-map-range_with_len (before (counts_of s)) 0 (length (counts_of s) + 1) t t 0
        (let many = length-map s.variants length in omega arith) (zero-add t)
        ∙ before_is t

  module _ (numbering : Numbering) (h : IsNumbering s numbering) (t : ℕ) (inside : t < length s.variants) where
    begun_more : begun numbering (t + 1) ≡ begun numbering t + length (variants_at s t)
    begun_more =
        let a = begun_at numbering h t (omega arith) in let b = begun_at numbering h (t + 1) (omega arith) in
        let more = sum_by_more length s.variants t [] inside in omega arith

    pub rises : begun numbering t ≤ begun numbering (t + 1)
    rises = let more = begun_more in omega arith

    pub ends_within : begun numbering (t + 1) ≤ length numbering.variations.items
    ends_within =
        let a = begun_at numbering h (t + 1) (omega arith) in let le = sum_by-take-le length s.variants (t + 1) in
        let all = ap length h.variations ∙ variations_long s.variants in omega arith

    pub theirs_at : theirs numbering t ≡ map s.variation (variants_at s t)
    theirs_at =
        ap (λ (l : List Variation). slice_range l (begun numbering t) (begun numbering (t + 1))) h.variations
        ∙ flat_map_at (map s.variation) s.variants t [] (begun numbering t) (begun numbering (t + 1)) inside
        (variations_long (take t s.variants) ∙ sym (begun_at numbering h t (omega arith)))
        (ap (λ k. begun numbering t + k) (length-map (variants_at s t) s.variation) ∙ sym begun_more)

    pub theirs_differ : AllPairs (λ (v w : Variation). v ≢ w) (theirs numbering t)
    theirs_differ =
        subst (AllPairs (λ (v w : Variation). v ≢ w)) (sym theirs_at)
        (pairs_apart (λ (v w : Variation). v ≢ w) (map s.variation (variants_at s t))
        (apart_image Other (λ (v w : Variation). v ≢ w) s.variation (λ b c ne. ne) (variants_at s t)
        (apart_pairs Other (variants_at s t) (All-from_recursion (AllPairs Other) s.variants h.differ t [] inside))))
      where
        Other : B → B → Type 0
        Other b c = s.variation b ≢ s.variation c

    pub index_few : (n : ℕ) (v : Variation) (e : Edge) (index : ℕ) → e.to.0 ≡ t → s.lead n v e ≡ Some index
        → begun numbering t + index < MOST_NODES
    index_few n v e index same is =
        let within = subst (λ k. index < length (variants_at s k)) same (h.within n v e index is) in
        let sum = sum_by_more_le length s.variants t [] inside in
        let few = h.few in let all = total_is in let at = begun_at numbering h t (omega arith) in omega arith

-- lists of images agree where the functions do
pub filter_map-same : {A B : Type 0} (f g : A → Option B) (xs : List A) → AllByRecursion (λ x. f x ≡ g x) xs
    → filter_map f xs ≡ filter_map g xs
filter_map-same f g [] h = refl
filter_map-same f g (x ∷ xs) h = λ i. cons_option (h.0 i) (filter_map-same f g xs h.1 i)

module _ {P B : Type 0} (rule : SplitRule P B) (lists : List (List B)) (numbering : Numbering)
    (h : IsNumbering (splitting rule lists) numbering) where
  pub fits : IsFit rule numbering
  fits = record {
    rises = λ t lt. rises (splitting rule lists) numbering h t (inside t lt);
    ends = λ t lt. ends_within (splitting rule lists) numbering h t (inside t lt);
    differ = λ t lt. theirs_differ (splitting rule lists) numbering h t (inside t lt);
    few = λ n v e index lt is.
        index_few (splitting rule lists) numbering h e.to.0 (inside e.to.0 lt) n v e index refl
        (ap (rule.lead n v e) (sym (theirs_at (splitting rule lists) numbering h e.to.0 (inside e.to.0 lt))) ∙ is);
  }
    where
      inside : (t : ℕ) → t + 1 < length numbering.begins.items → t < length lists
      inside t lt = let long = begins_long (splitting rule lists) numbering h in omega arith

  same_edge : (n : ℕ) (v : Variation) (e : Edge) → e.to.0 < length lists
      → led_by rule numbering n v e ≡ led_edge (splitting rule lists) n v e
  same_edge n v e lt = λ i.
      option_map (λ index. record {
        kind = e.kind;
        to = record { 0 = begun_at (splitting rule lists) numbering h e.to.0 (omega arith) i + index };
        at = e.at;
      }) (rule.lead n v e (theirs_at (splitting rule lists) numbering h e.to.0 lt i))

  -- a variant by the numbering is the one that is meant
  pub same_variant : (n : ℕ) (x : Node P) (b : B) → AllByRecursion (λ (e : Edge). e.to.0 < length lists) x.edges
      → node_by rule numbering n x b ≡ variant_node (splitting rule lists) n x b
  same_variant n x b ends = λ i. record {
    «module» = x.«module»;
    vars = slice_set x.vars (axis_index rule.axis) (rule.variation b);
    payload = rule.payload x b;
    edges =
        filter_map-same (led_by rule numbering n (rule.variation b))
        (led_edge (splitting rule lists) n (rule.variation b))
        x.edges
        (all_map (λ (e : Edge). e.to.0 < length lists)
        (λ (e : Edge). led_by rule numbering n (rule.variation b) e
        ≡ led_edge (splitting rule lists) n (rule.variation b) e)
        (λ e lt. same_edge n (rule.variation b) e lt) x.edges ends) i;
  }
