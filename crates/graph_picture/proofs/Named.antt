-- The variant of which a line is the line.
use Rattle.std.proofs.Common.{◌≡◌, ◌≢◌, ◌<◌, ◌^◌, ℕ, List, [], ◌∷◌, ◌++◌, length, get_or, arith, lit<, sym, ap, ◌∙◌}
use Rattle.std.proofs.Common.{subst, refl, Some, None, IsUtf8, append_assoc, length-append}
use Rattle.std.specs.Fmt.{decimal}
use Rattle.std.proofs.lemmas.List.{append_cancel_left, get_or_at}
use Rattle.std.specs.List.{AllByRecursion}
use Rattle.graph_picture.specs.declared.variant.Arrow.{Arrow}
use Rattle.graph_picture.specs.declared.variant.Variant.{Variant}
use Rattle.graph_picture.specs.Inside.{IsVariantOf}
use Rattle.graph_picture.specs.Lines.{HasNo, IsPrintedWord, variant_line}
use Rattle.graph_picture.proofs.Parts.{utf8_sides, has_no_left, has_no_right, cut_once, from_indices}

module _ (n : ℕ) (line head : List ℕ) (head_is : head ≡ decimal n ++ (32 ∷ [])) where
  behind_head : (names : List ℕ) → head ++ names ≡ decimal n ++ (32 ∷ names)
  behind_head names = ap (λ (h : List ℕ). h ++ names) head_is ∙ append_assoc (decimal n) (32 ∷ []) names

  pub headless_is_none : ((rest : List ℕ) → line ≢ head ++ rest) → IsVariantOf n line None
  headless_is_none none v is e = none (v.module ++ (32 ∷ v.variation)) (e ∙ sym (behind_head _))

  module _ (names : List ℕ) (whole : line ≡ head ++ names) where
    names_are : (v : Variant) → line ≡ variant_line n v → names ≡ v.module ++ (32 ∷ v.variation)
    names_are v e =
        append_cancel_left head names (v.module ++ (32 ∷ v.variation)) (sym whole ∙ (e ∙ sym (behind_head _)))

    pub spaceless_is_none : ((i : ℕ) → i < length names → get_or names i 0 ≢ 32) → IsVariantOf n line None
    spaceless_is_none none v is e =
        let same = names_are v e in
        none (length v.module) (omega (arith, ap length same, length-append v.module (32 ∷ v.variation)))
        (ap (λ (l : List ℕ). get_or l (length v.module) 0) same ∙ get_or_at v.module 32 v.variation 0 _ refl)

    module _ (owner own : List ℕ) (parts : names ≡ owner ++ (32 ∷ own))
        (first : (i : ℕ) → i < length owner → get_or owner i 0 ≢ 32) where
      pub longer_is_none : (k : ℕ) → k < length own → get_or own k 0 ≡ 32 → IsVariantOf n line None
      longer_is_none k lt at v is e =
          let r = cut_once 32 owner own v.module v.variation (from_indices 32 owner first) is.owner.no_space
          (sym parts ∙ names_are v e) in
          is.variation.no_space k 0 (omega (arith, ap length r.1)) (ap (λ (l : List ℕ). get_or l k 0) (sym r.1) ∙ at)

      pub variant_is : (v : Variant) → v.module ≡ owner → v.variation ≡ own → v.edges ≡ [] → IsUtf8 line → HasNo 10 line
          → ((i : ℕ) → i < length own → get_or own i 0 ≢ 32) → IsVariantOf n line (Some v)
      variant_is v o w none u ends plain =
          let line_is : line ≡ decimal n ++ (32 ∷ names) = whole ∙ behind_head names in
          let text = (utf8_sides 32 line (decimal n) names (lit< tt) line_is u).1 in
          let texts = utf8_sides 32 names owner own (lit< tt) parts text in
          let names_end : HasNo 10 names = has_no_right 10 head names (subst (HasNo 10) whole ends) in
          let joined : HasNo 10 (owner ++ (32 ∷ own)) = subst (HasNo 10) parts names_end in (
            record {
              owner = subst IsPrintedWord (sym o) (record {
                text = texts.0;
                no_space = from_indices 32 owner first;
                no_end = has_no_left 10 owner (32 ∷ own) joined;
              });
              variation = subst IsPrintedWord (sym w) (record {
                text = texts.1;
                no_space = from_indices 32 own plain;
                no_end = has_no_right 10 (32 ∷ []) own (has_no_right 10 owner (32 ∷ own) joined);
              });
              targets = subst (AllByRecursion (λ (a : Arrow). a.to < 2 ^ 32)) (sym none) tt;
            },
            line_is ∙ ap (λ (l : List ℕ). decimal n ++ (32 ∷ l)) (parts ∙ λ i. sym o i ++ (32 ∷ sym w i)),
            none,
          )
