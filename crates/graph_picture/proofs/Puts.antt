-- A line more behind those of some variants.
use lib.Utf8.{encode}
use Rattle.std.proofs.Common.{◌≡◌, ◌∙◌, ◌+◌, ◌<◌, ◌≤◌, ◌^◌, ◌++◌, ℕ, zero, suc, true, List, [], ◌∷◌, length, map, set}
use Rattle.std.proofs.Common.{get_or, ap, sym, subst, refl, arith, lit<, append_assoc, append-nil, IsUtf8}
use Rattle.std.specs.Prelude.{codes}
use Rattle.std.specs.List.{AllByRecursion}
use Rattle.std.specs.Fmt.{decimal}
use Rattle.std.proofs.lemmas.Fmt.{IsAscii-decimal, decimal_digit, decimal_nonempty, first_decimal}
use Rattle.std.proofs.lemmas.List.{get_or_append_left, map-append}
use Rattle.std.proofs.lemmas.List.Elements.{All-from_recursion}
use Rattle.std.proofs.lemmas.Str.{IsUtf8-append, IsUtf8-from_ascii}
use Rattle.bp_faults.proofs.Lists.{all_pushed}
use Rattle.graph_nodes.specs.declared.graph.EdgeKind.{EdgeKind}
use Rattle.graph_nodes.specs.declared.graph.EdgeKind.TheVariants.{Defaults, Whole, Static, Shared, Header, DataBin}
use Rattle.graph_nodes.specs.declared.graph.EdgeKind.TheVariants.{Sources}
use Rattle.graph_nodes.specs.GraphText.{kind_word}
use Rattle.graph_nodes.specs.Numbered.{by_number}
use Rattle.graph_picture.specs.declared.variant.Arrow.{Arrow}
use Rattle.graph_picture.specs.declared.variant.Variant.{Variant}
use Rattle.graph_picture.specs.Inside.{PutsLine}
use Rattle.graph_picture.specs.Lines.{IsPrintedWord, IsVariant, variant_line, arrow_line, variant_lines}
use Rattle.graph_picture.specs.Lines.{all_variant_lines}
use Rattle.graph_picture.specs.Reading.{IsStray}
use Rattle.graph_picture.proofs.Numbered.{by_number_more}

-- the line of the next variant
pub variant_put : (vs new : List Variant) (v : Variant) (line : List ℕ) → new ≡ vs ++ v ∷ [] → IsVariant v
    → line ≡ variant_line (length vs) v → v.edges ≡ [] → PutsLine vs line true new
variant_put vs new v line e is l none = (
  ap all_variant_lines e ∙ by_number_more variant_lines vs v
      ∙ (λ i. all_variant_lines vs ++ (sym l i ∷ map arrow_line (none i))),
  λ each. subst (AllByRecursion IsVariant) (sym e) (all_pushed IsVariant vs v each is),
)

all_set : {X : Type 0} (P : X → Type 0) (xs : List X) (i : ℕ) (x : X) → AllByRecursion P xs → P x
    → AllByRecursion P (set xs i x)
all_set P [] i x h p = h
all_set P (y ∷ xs) zero x h p = (p, h.1)
all_set P (y ∷ xs) (suc i) x h p = (h.0, all_set P xs i x h.1 p)

module _ (v w : Variant) (a : Arrow) (o : w.module ≡ v.module) (n : w.variation ≡ v.variation)
    (more : w.edges ≡ v.edges ++ a ∷ []) where
  arrow_lines : (k : ℕ) → variant_lines k w ≡ variant_lines k v ++ arrow_line a ∷ []
  arrow_lines k =
      (λ i. (decimal k ++ (32 ∷ (o i ++ (32 ∷ n i)))) ∷ map arrow_line (more i))
      ∙ ap (λ (ls : List (List ℕ)). variant_line k v ∷ ls) (map-append arrow_line v.edges (a ∷ []))

  -- the line of one more edge of the last variant
  last_lines : (k i : ℕ) (vs : List Variant) → i + 1 ≡ length vs → v ≡ get_or vs i v
      → by_number variant_lines k (set vs i w) ≡ by_number variant_lines k vs ++ arrow_line a ∷ []
  last_lines k i [] e is = absurd (omega arith)
  last_lines k zero (x ∷ []) e is =
      append-nil (variant_lines k w) ∙ arrow_lines k
      ∙ ap (λ (u : Variant). variant_lines k u ++ arrow_line a ∷ []) is
      ∙ ap (λ (ls : List (List ℕ)). ls ++ arrow_line a ∷ []) (sym (append-nil (variant_lines k x)))
  last_lines k zero (x ∷ y ∷ vs) e is = absurd (omega arith)
  last_lines k (suc i) (x ∷ vs) e is =
      ap (λ (ls : List (List ℕ)). variant_lines k x ++ ls) (last_lines (k + 1) i vs (omega arith) is)
      ∙ sym (append_assoc (variant_lines k x) (by_number variant_lines (k + 1) vs) (arrow_line a ∷ []))

  more_is : a.to < 2 ^ 32 → IsVariant v → IsVariant w
  more_is few is = record {
    owner = subst IsPrintedWord (sym o) is.owner;
    variation = subst IsPrintedWord (sym n) is.variation;
    targets = subst (AllByRecursion (λ (a : Arrow). a.to < 2 ^ 32)) (sym more)
        (all_pushed (λ (a : Arrow). a.to < 2 ^ 32) v.edges a is.targets few);
  }

  pub arrow_put : (vs : List Variant) (i : ℕ) → a.to < 2 ^ 32 → i + 1 ≡ length vs → v ≡ get_or vs i v
      → PutsLine vs (arrow_line a) true (set vs i w)
  arrow_put vs i few e is = (
    last_lines 0 i vs e is,
    λ each.
        all_set IsVariant vs i w each
        (more_is few (subst IsVariant (sym is) (All-from_recursion IsVariant vs each i v (omega arith)))),
  )

-- a digit begins the line of a variant
pub starts : (n : ℕ) (rest : List ℕ) → n < 2 ^ 64 → 48 ≤ get_or (decimal n ++ rest) 0 0
starts zero rest lt =
    let Low : List ℕ → Type 0 = λ d. 48 ≤ get_or (d ++ rest) 0 0 in
    subst Low (sym (decimal_digit 0 (lit< tt))) (omega arith)
starts (suc n) rest lt =
    let nonempty = decimal_nonempty (suc n) lt in
    let same = get_or_append_left (decimal (suc n)) rest 0 0 nonempty in
    omega (arith, first_decimal (suc n) (omega arith) lt)

-- where there is no variant yet no edge goes on
pub lone_arrow : (vs : List Variant) (a : Arrow) → length vs ≡ 0 → IsStray vs (arrow_line a)
lone_arrow vs a none = record {
  no_variant = λ v is e.
      let first : 32 ≡ get_or (variant_line (length vs) v) 0 0 = ap (λ (l : List ℕ). get_or l 0 0) e in
      absurd (omega (arith, starts (length vs) (32 ∷ (v.module ++ (32 ∷ v.variation))) (omega arith)));
  no_arrow = λ some. absurd (omega arith);
}

-- all lines are texts
decimal_utf8 : (n : ℕ) → n < 2 ^ 64 → IsUtf8 (decimal n)
decimal_utf8 n lt = IsUtf8-from_ascii (decimal n) (IsAscii-decimal n lt)

space : IsUtf8 (32 ∷ [])
unfolding encode
space = (32 ∷ [], (refl, refl))

word_utf8 : (kind : EdgeKind) → IsUtf8 (kind_word kind)
unfolding encode
word_utf8 Defaults = (codes "defaults", (refl, refl))
word_utf8 Whole = (codes "whole", (refl, refl))
word_utf8 Static = (codes "static", (refl, refl))
word_utf8 Shared = (codes "shared", (refl, refl))
word_utf8 Header = (codes "header", (refl, refl))
word_utf8 DataBin = (codes "data", (refl, refl))
word_utf8 Sources = (codes "sources", (refl, refl))

pub no_text : (vs : List Variant) (line : List ℕ) → length vs < 2 ^ 64 → (IsUtf8 line → ⊥) → IsStray vs line
no_text vs line few never = record {
  no_variant = λ v is e.
      never (subst IsUtf8 (sym e)
      (IsUtf8-append (decimal (length vs)) _ (decimal_utf8 (length vs) few)
      (IsUtf8-append (32 ∷ []) _ space
      (IsUtf8-append v.module _ is.owner.text (IsUtf8-append (32 ∷ []) _ space is.variation.text)))));
  no_arrow = λ some a lt e.
      never (subst IsUtf8 (sym e)
      (IsUtf8-append (32 ∷ []) _ space
      (IsUtf8-append (32 ∷ []) _ space
      (IsUtf8-append (kind_word a.kind) _ (word_utf8 a.kind)
      (IsUtf8-append (32 ∷ []) _ space (decimal_utf8 a.to (omega arith)))))));
}
