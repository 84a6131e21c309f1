-- Texts that were put one behind another.
use Rattle.std.proofs.Common.{◌≡◌, ◌∙◌, ◌++◌, ℕ, List, ap, append_assoc, Result, Ok, Err, OnOk}

module _ (old : List ℕ) where
  -- one more piece, behind what was put
  pub behind : (text new rest more : List ℕ) → text ≡ old ++ rest → new ≡ text ++ more → new ≡ old ++ (rest ++ more)
  behind text new rest more e f = f ∙ ap (λ (t : List ℕ). t ++ more) e ∙ append_assoc old rest more

  pub three : (t u v a b c : List ℕ) → t ≡ old ++ a → u ≡ t ++ b → v ≡ u ++ c → v ≡ old ++ (a ++ (b ++ c))
  three t u v a b c e f g =
      behind u v (a ++ b) c (behind t u a b e f) g ∙ ap (λ (l : List ℕ). old ++ l) (append_assoc a b c)

  pub four : (t u v w a b c d : List ℕ) → t ≡ old ++ a → u ≡ t ++ b → v ≡ u ++ c → w ≡ v ++ d
      → w ≡ old ++ (a ++ (b ++ (c ++ d)))
  four t u v w a b c d e f g h =
      behind v w (a ++ (b ++ c)) d (three t u v a b c e f g) h
      ∙ ap (λ (l : List ℕ). old ++ l)
      (append_assoc a (b ++ c) d ∙ ap (λ (l : List ℕ). a ++ l) (append_assoc b c d))

  pub six : (t u v w x y a b c d i j : List ℕ) → t ≡ old ++ a → u ≡ t ++ b → v ≡ u ++ c → w ≡ v ++ d → x ≡ w ++ i
      → y ≡ x ++ j → y ≡ old ++ (a ++ (b ++ (c ++ (d ++ (i ++ j)))))
  six t u v w x y a b c d i j e f g h k l =
      behind x y (a ++ (b ++ (c ++ (d ++ i)))) j
      (behind w x (a ++ (b ++ (c ++ d))) i (four t u v w a b c d e f g h) k
      ∙ ap (λ (l : List ℕ). old ++ l)
      (append_assoc a (b ++ (c ++ d)) i
      ∙ ap (λ (l : List ℕ). a ++ l) (append_assoc b (c ++ d) i ∙ ap (λ (l : List ℕ). b ++ l) (append_assoc c d i))))
      l
      ∙ ap (λ (l : List ℕ). old ++ l)
      (append_assoc a (b ++ (c ++ (d ++ i))) j
      ∙ ap (λ (l : List ℕ). a ++ l)
      (append_assoc b (c ++ (d ++ i)) j
      ∙ ap (λ (l : List ℕ). b ++ l)
      (append_assoc c (d ++ i) j ∙ ap (λ (l : List ℕ). c ++ l) (append_assoc d i j))))

-- what follows from what holds where a call gave a value
pub on_ok : {T E P Q : Type 0} (r : Result T E) → (P → Q) → OnOk r P → OnOk r Q
on_ok (Ok v) f h = f h
on_ok (Err e) f h = h
