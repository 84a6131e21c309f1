-- Lines that were put one behind another, an item more.
use Rattle.std.proofs.Common.{◌≡◌, ◌∙◌, ◌+◌, ◌<◌, ◌≤◌, ◌++◌, ℕ, Bool, true, false, cond, List, [], ◌∷◌, length, map}
use Rattle.std.proofs.Common.{get_or, take, ap, arith, length-append}
use Rattle.std.specs.List.{filter, flat_map}
use Rattle.std.proofs.lemmas.Grind.{flat_map-append}
use Rattle.std.proofs.lemmas.List.Elements.{filter-append}
use Rattle.graph_nodes.specs.Numbered.{by_number}
use Rattle.graph_picture.specs.declared.variant.Arrow.{Arrow}
use Rattle.graph_picture.specs.declared.variant.Variant.{Variant}
use Rattle.graph_picture.specs.Drawing.{arrow_drawn, is_inside, marked_numbers, shown_arrows}
use Rattle.graph_picture.proofs.Numbered.{by_number_taken}

module _ (marks : List Bool) where
  abbrev pub lines_for : List (ℕ × Arrow) → List ℕ
  lines_for arrows = flat_map arrow_drawn (filter (is_inside marks) arrows)

  lines_apart : (xs ys : List (ℕ × Arrow)) → lines_for (xs ++ ys) ≡ lines_for xs ++ lines_for ys
  lines_apart xs ys =
      ap (flat_map arrow_drawn) (filter-append (is_inside marks) xs ys)
      ∙ flat_map-append arrow_drawn (filter (is_inside marks) xs) (filter (is_inside marks) ys)

  pub all_taken : (vs : List Variant) (n : ℕ) (v : Variant) → n < length vs → v ≡ get_or vs n v
      → flat_map arrow_drawn (shown_arrows (take (n + 1) vs) marks)
      ≡ flat_map arrow_drawn (shown_arrows (take n vs) marks) ++ lines_for (map (λ (b : Arrow). (n, b)) v.edges)
  all_taken vs n v lt is =
      ap lines_for (by_number_taken (λ k (w : Variant). map (λ (b : Arrow). (k, b)) w.edges) vs n v lt is)
      ∙ lines_apart (by_number (λ k (w : Variant). map (λ (b : Arrow). (k, b)) w.edges) 0 (take n vs))
      (map (λ (b : Arrow). (n, b)) v.edges)

-- the marked numbers, a mark more
pub marked_taken : (marks : List Bool) (n : ℕ) (mark : Bool) → n < length marks → mark ≡ get_or marks n mark
    → marked_numbers (take (n + 1) marks) ≡ marked_numbers (take n marks) ++ cond mark (n ∷ []) []
marked_taken marks n mark lt is = by_number_taken (λ k (m : Bool). cond m (k ∷ []) []) marks n mark lt is

marked_step : (k : ℕ) (mark : Bool) → length (cond mark (k ∷ []) []) ≤ 1
marked_step k true = omega arith
marked_step k false = omega arith

few_from : (k : ℕ) (marks : List Bool) → length (by_number (λ n (m : Bool). cond m (n ∷ []) []) k marks) ≤ length marks
few_from k [] = omega arith
few_from k (mark ∷ marks) =
    omega (
      arith,
      few_from (k + 1) marks,
      marked_step k mark,
      length-append (cond mark (k ∷ []) []) (by_number (λ n (m : Bool). cond m (n ∷ []) []) (k + 1) marks),
    )

-- there are at most as many marked numbers as marks
pub marked_few : (marks : List Bool) → length (marked_numbers marks) ≤ length marks
marked_few marks = few_from 0 marks
