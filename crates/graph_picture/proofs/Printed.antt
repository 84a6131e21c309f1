-- What is printed of a module graph is the text of its nodes as variants.
use Rattle.std.proofs.Common.{◌≡◌, ◌≢◌, ◌+◌, ◌<◌, ◌≤◌, ◌^◌, ◌++◌, ◌∙◌, ℕ, zero, suc, true, false, List, [], ◌∷◌, length}
use Rattle.std.proofs.Common.{map, get_or, ap, sym, subst, refl, arith}
use Rattle.std.specs.List.{AllByRecursion, flat_map}
use Rattle.std.proofs.lemmas.Bool.Decides.{nat_tests}
use Rattle.std.proofs.lemmas.List.Elements.{All-from_recursion}
use Rattle.std.proofs.lemmas.Str.{IsUtf8-from_ascii}
use Rattle.bp_faults.proofs.Lists.{all_map}
use Rattle.graph_nodes.specs.declared.graph.Edge.{Edge}
use Rattle.graph_nodes.specs.declared.graph.Node.{Node}
use Rattle.graph_nodes.specs.GraphText.{dashed_name, edge_line, node_line, node_lines}
use Rattle.graph_nodes.specs.Laws.{VariantNamesArePlain}
use Rattle.graph_nodes.specs.Names.{is_label_byte, name_at, variant_name_of}
use Rattle.graph_nodes.specs.Numbered.{by_number}
use Rattle.graph_picture.specs.declared.variant.Arrow.{Arrow}
use Rattle.graph_picture.specs.declared.variant.Variant.{Variant}
use Rattle.graph_picture.specs.Laws.{PrintedGraphsAreGraphs}
use Rattle.graph_picture.specs.Lines.{IsVariant, IsPrintedWord, LeadInside, arrow_line}
use Rattle.graph_picture.specs.Lines.{variant_lines}
use Rattle.graph_picture.specs.Printed.{arrow_for, variant_for, variants_for}
use Rattle.bp_faults.specs.Characters.{ended_line}

-- characters of words
abbrev IsFine : ℕ → Type 0
IsFine c = (c < 128) × (c ≢ 32) × (c ≢ 10)

ascii : (bs : List ℕ) → AllByRecursion IsFine bs → (i : ℕ) → get_or bs i 0 < 128
ascii [] all i = omega arith
ascii (b ∷ bs) all zero = all.0.0
ascii (b ∷ bs) all (suc i) = ascii bs all.1 i

fine_word : (bs : List ℕ) → AllByRecursion IsFine bs → IsPrintedWord bs
fine_word bs all = record {
  text = IsUtf8-from_ascii bs (ascii bs all);
  no_space = All-from_recursion (λ b. b ≢ 32) bs (all_map IsFine (λ b. b ≢ 32) (λ b f. f.1) bs all);
  no_end = All-from_recursion (λ b. b ≢ 10) bs (all_map IsFine (λ b. b ≢ 10) (λ b f. f.2) bs all);
}

abbrev IsPlain : ℕ → Type 0
IsPlain c = is_label_byte c ≡ true

plain_fine : (c : ℕ) → IsPlain c → IsFine c
plain_fine c h = (
  (let f : c < 128 = grind (arith, nat_tests) in f),
  (λ e. let f : is_label_byte c ≡ false = ap is_label_byte e in cc),
  λ e. let f : is_label_byte c ≡ false = ap is_label_byte e in cc,
)

plain_word : (name : List ℕ) → AllByRecursion IsPlain name → IsPrintedWord (dashed_name name)
plain_word [] all =
    fine_word (45 ∷ []) ((omega arith, (λ e. absurd (omega (arith, e))), λ e. absurd (omega (arith, e))), tt)
plain_word (c ∷ name) all = fine_word (c ∷ name) (all_map IsPlain IsFine plain_fine (c ∷ name) all)

arrows_are : (edges : List Edge) → map edge_line edges ≡ map arrow_line (map arrow_for edges)
arrows_are [] = refl
arrows_are (e ∷ edges) = ap (λ (ls : List (List ℕ)). edge_line e ∷ ls) (arrows_are edges)

targets_below : (count high : ℕ) → count ≤ high → (edges : List Edge)
    → AllByRecursion (λ (e : Edge). e.to.0 < count) edges
    → AllByRecursion (λ (a : Arrow). a.to < high) (map arrow_for edges)
targets_below count high le [] all = tt
targets_below count high le (e ∷ edges) all = (omega (arith, le, all.0), targets_below count high le edges all.1)

module _ {P : Type 0} (names : List (List ℕ)) where
  abbrev from : ℕ → List (Node P) → List Variant
  from = by_number (λ n x. variant_for names n x ∷ [])

  lines_are : (k : ℕ) (nodes : List (Node P))
      → by_number (node_lines names) k nodes ≡ by_number variant_lines k (from k nodes)
  lines_are k [] = refl
  lines_are k (x ∷ nodes) =
      ap (λ (ls : List (List ℕ)). (node_head ∷ ls) ++ by_number (node_lines names) (k + 1) nodes)
      (arrows_are x.edges)
      ∙ ap (λ (ls : List (List ℕ)). variant_lines k (variant_for names k x) ++ ls) (lines_are (k + 1) nodes)
    where
      node_head : List ℕ
      node_head = node_line k (name_at names k) x.vars

  size : (k : ℕ) (nodes : List (Node P)) → length (from k nodes) ≡ length nodes
  size k [] = refl
  size k (x ∷ nodes) = ap suc (size (k + 1) nodes)

  module _ (plain : VariantNamesArePlain) (count : ℕ) (few : count ≤ 2 ^ 32) where
    all_variants : (k : ℕ) (nodes : List (Node P))
        → ((n : ℕ) → k ≤ n → n < k + length nodes → IsPrintedWord (name_at names n))
        → AllByRecursion (λ (x : Node P). AllByRecursion (λ (e : Edge). e.to.0 < count) x.edges) nodes
        → AllByRecursion IsVariant (from k nodes) × LeadInside count (from k nodes)
    all_variants k [] words ends = (tt, tt)
    all_variants k (x ∷ nodes) words ends =
        let rest = all_variants (k + 1) nodes (λ n le lt. words n (omega (arith, le)) (omega (arith, lt))) ends.1 in (
          (
            record {
              owner = words k (omega arith) (omega arith);
              variation = plain_word (variant_name_of x.vars) (plain x.vars);
              targets = targets_below count (2 ^ 32) few x.edges ends.0;
            },
            rest.0,
          ),
          (targets_below count count (omega arith) x.edges ends.0, rest.1),
        )

pub printed_graphs_are_graphs : {P : Type 0} → VariantNamesArePlain → PrintedGraphsAreGraphs P
printed_graphs_are_graphs plain nodes names ends few words =
    let all = all_variants names plain (length nodes) (omega (arith, few)) 0 nodes
    (λ n le lt. words n (omega (arith, lt))) ends in
    let same = size names 0 nodes in (
      record {
        each = all.0;
        ends = subst (λ (m : ℕ). LeadInside m (variants_for names nodes)) (sym same) all.1;
        few = omega (arith, same, few);
      },
      ap (flat_map ended_line) (lines_are names 0 nodes),
    )
