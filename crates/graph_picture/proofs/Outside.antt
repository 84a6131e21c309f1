-- The first edge that leads to none of the variants, and the number of its line.
use Rattle.std.proofs.Common.{◌≡◌, ◌∙◌, ◌+◌, ◌<◌, ◌≤◌, ◌++◌, ℕ, List, [], ◌∷◌, length, get_or, take, drop, map, ap, sym}
use Rattle.std.proofs.Common.{subst, arith, append_assoc, length-append, Some}
use Rattle.std.specs.List.{AllByRecursion}
use Rattle.std.proofs.lemmas.List.{map-append, take-append-drop, length-take-le, length-map}
use Rattle.bp_faults.proofs.Lists.{all_pushed, drop-here, take-more}
use Rattle.graph_nodes.specs.Numbered.{by_number}
use Rattle.graph_picture.specs.declared.variant.Arrow.{Arrow}
use Rattle.graph_picture.specs.declared.variant.Variant.{Variant}
use Rattle.graph_picture.specs.Inside.{FindsFirst, IsOutside}
use Rattle.graph_picture.specs.Lines.{LeadInside, variant_line, arrow_line, variant_lines, all_variant_lines}
use Rattle.graph_picture.proofs.Numbered.{by_number-append, by_number_more}

-- a list before an index, there, and behind it
cut_at : {X : Type 0} (xs : List X) (i : ℕ) (x : X) → i < length xs → x ≡ get_or xs i x
    → xs ≡ take i xs ++ (x ∷ drop (i + 1) xs)
cut_at xs i x lt is = sym (take-append-drop i xs) ∙ ap (λ (l : List _). take i xs ++ l) (drop-here xs i x lt is)

pub first_is : (count : ℕ) (edges : List Arrow) (i : ℕ) (a : Arrow) → i < length edges → a ≡ get_or edges i a
    → AllByRecursion (λ (b : Arrow). b.to < count) (take i edges) → count ≤ a.to → FindsFirst count edges (Some i)
first_is count edges i a lt is inside out =
    (take i edges, a, drop (i + 1) edges, cut_at edges i a lt is, length-take-le i edges (omega arith), inside, out)

module _ (vs : List Variant) (i : ℕ) (v : Variant) (lt : i < length vs) (is : v ≡ get_or vs i v) where
  abbrev later : List (List ℕ)
  later = by_number variant_lines (i + 1) (drop (i + 1) vs)

  lines_cut : all_variant_lines vs ≡ all_variant_lines (take i vs) ++ (variant_lines i v ++ later)
  lines_cut =
      ap all_variant_lines (cut_at vs i v lt is) ∙ by_number-append variant_lines 0 (take i vs) (v ∷ drop (i + 1) vs)
      ∙ ap (λ (n : ℕ). all_variant_lines (take i vs) ++ by_number variant_lines n (v ∷ drop (i + 1) vs))
      (let e : 0 + length (take i vs) ≡ i = omega (arith, length-take-le i vs (omega arith)) in e)

  pub lines_next : length (all_variant_lines (take (i + 1) vs))
      ≡ length (all_variant_lines (take i vs)) + (length v.edges + 1)
  lines_next =
      omega (
        arith,
        ap (λ (l : List Variant). length (all_variant_lines l)) (take-more vs i v lt is),
        ap length (by_number_more variant_lines (take i vs) v),
        length-append (all_variant_lines (take i vs)) (variant_lines (length (take i vs)) v),
        length-map v.edges arrow_line,
      )

  pub lines_room : length (all_variant_lines (take i vs)) + (length v.edges + 1) ≤ length (all_variant_lines vs)
  lines_room =
      omega (
        arith,
        ap length lines_cut,
        length-append (all_variant_lines (take i vs)) (variant_lines i v ++ later),
        length-append (variant_lines i v) later,
        length-map v.edges arrow_line,
      )

  pub leads_more : LeadInside (length vs) (take i vs) → AllByRecursion (λ (a : Arrow). a.to < length vs) v.edges
      → LeadInside (length vs) (take (i + 1) vs)
  leads_more before here =
      subst (LeadInside (length vs)) (sym (take-more vs i v lt is))
      (all_pushed (λ (v : Variant). AllByRecursion (λ (a : Arrow). a.to < length vs) v.edges) (take i vs) v before here)

  pub outside_is : (j n : ℕ) → LeadInside (length vs) (take i vs) → n ≡ length (all_variant_lines (take i vs))
      → FindsFirst (length vs) v.edges (Some j) → IsOutside vs (n + j + 2)
  outside_is j n inside n_is f =
      let edges = f.0 in
      let cut : Variant = record v { edges = edges } in
      let same : all_variant_lines (take i vs ++ cut ∷ []) ≡ all_variant_lines (take i vs) ++ variant_lines i cut =
      by_number_more variant_lines (take i vs) cut
      ∙ ap (λ (k : ℕ). all_variant_lines (take i vs) ++ variant_lines k cut) (length-take-le i vs (omega arith)) in
      let tail : List (List ℕ) = map arrow_line f.2 in
      let whole : variant_lines i v ≡ variant_lines i cut ++ (arrow_line f.1 ∷ tail) =
      ap (λ (es : List Arrow). variant_line i v ∷ map arrow_line es) f.3
      ∙ ap (λ (ls : List (List ℕ)). variant_line i v ∷ ls) (map-append arrow_line edges (f.1 ∷ f.2)) in
      record {
        before = take i vs ++ cut ∷ [];
        arrow = f.1;
        behind = tail ++ later;
        lines =
            lines_cut ∙ ap (λ (ls : List (List ℕ)). all_variant_lines (take i vs) ++ (ls ++ later)) whole
            ∙ ap (λ (ls : List (List ℕ)). all_variant_lines (take i vs) ++ ls)
            (append_assoc (variant_lines i cut) (arrow_line f.1 ∷ tail) later)
            ∙ sym (append_assoc (all_variant_lines (take i vs)) (variant_lines i cut)
            (arrow_line f.1 ∷ (tail ++ later)))
            ∙ ap (λ (ls : List (List ℕ)). ls ++ (arrow_line f.1 ∷ (tail ++ later))) (sym same);
        inside =
            all_pushed (λ (v : Variant). AllByRecursion (λ (a : Arrow). a.to < length vs) v.edges) (take i vs) cut
            inside f.5;
        outside = f.6;
        number_is =
            omega (
              arith,
              n_is,
              f.4,
              ap length same,
              length-append (all_variant_lines (take i vs)) (variant_lines i cut),
              length-map edges arrow_line,
            );
      }

pub found_inside : (count : ℕ) (edges : List Arrow) (i : ℕ) → FindsFirst count edges (Some i) → i < length edges
found_inside count edges i f = omega (arith, ap length f.3, length-append f.0 (f.1 ∷ f.2), f.4)
