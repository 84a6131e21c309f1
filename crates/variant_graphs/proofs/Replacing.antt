-- Payloads one after another.
use Rattle.std.proofs.Common.{◌≡◌, ◌<◌, ◌++◌, ℕ, List, [], ◌∷◌, map, length, get_or, set, refl, ap, ◌∙◌, sym, arith}
use Rattle.std.proofs.lemmas.List.{map-append, length-map}
use Rattle.graph_nodes.specs.declared.graph.Node.{Node}
use Rattle.variant_graphs.specs.Payloads.{with_payload, with_payloads}

module _ {P : Type 0} where
  pub none_given : (xs : List (Node P)) → xs ≡ with_payloads xs []
  none_given [] = refl
  none_given (x ∷ xs) = refl

  pub more_given : (xs : List (Node P)) (ps : List P) (p : P) (d : Node P) → length ps < length xs
      → set (with_payloads xs ps) (length ps) (with_payload (get_or (with_payloads xs ps) (length ps) d) p)
      ≡ with_payloads xs (ps ++ p ∷ [])
  more_given [] ps p d lt = absurd (omega arith)
  more_given (x ∷ xs) [] p d lt = ap (λ r. with_payload x p ∷ r) (none_given xs)
  more_given (x ∷ xs) (q ∷ ps) p d lt = ap (λ r. with_payload x q ∷ r) (more_given xs ps p d (omega arith))

  -- a loop's step
  pub given_step : {B : Type 0} (value : B → P) (xs ys : List (Node P)) (bs : List B) (i : ℕ) (b : B) (p : P)
      (d : Node P) → length bs < length xs → ys ≡ with_payloads xs (map value bs) → i ≡ length bs → p ≡ value b
      → set ys i (with_payload (get_or ys i d) p) ≡ with_payloads xs (map value (bs ++ b ∷ []))
  given_step value xs ys bs i b p d lt is at of =
      let ps = map value bs in
      let len : i ≡ length (map value bs) = at ∙ sym (length-map bs value) in
      let lt' : length (map value bs) < length xs = omega arith in
      ap (λ (l : List (Node P)). set l i (with_payload (get_or l i d) p)) is
      ∙ ap (λ n. set (with_payloads xs ps) n (with_payload (get_or (with_payloads xs ps) n d) p)) len
      ∙ more_given xs ps p d lt'
      ∙ ap (with_payloads xs) (ap (λ q. ps ++ q ∷ []) of ∙ sym (map-append value bs (b ∷ [])))
