-- Texts before and behind a separator.
use Rattle.std.proofs.Common.{◌≡◌, ◌++◌, ◌||◌, ◌==◌, ℕ, List, [], ◌∷◌, Bool, true, false, cond, refl, sym, ap, ◌∙◌}
use Rattle.std.specs.Prelude.{⊤}
use Rattle.std.specs.List.{list_any}

module _ (separator : ℕ) where
  abbrev pub has_it : List ℕ → Bool
  has_it text = list_any (λ b. b == separator) text

  abbrev until : List ℕ → List ℕ
  until [] = []
  until (b ∷ bs) = cond (b == separator) [] (b ∷ until bs)

  abbrev behind_it : List ℕ → List ℕ
  behind_it [] = []
  behind_it (b ∷ bs) = cond (b == separator) bs (behind_it bs)

  -- what stands behind a text without the separator: nothing, or the separator and more
  abbrev pub Behind : List ℕ → Type 0
  Behind [] = ⊤
  Behind (b ∷ bs) = (b == separator) ≡ true

  until_end : (rest : List ℕ) → Behind rest → until rest ≡ []
  until_end [] h = refl
  until_end (b ∷ rest) h = ap (λ t. cond t [] (b ∷ until rest)) h

  until_is : (name rest : List ℕ) → has_it name ≡ false → Behind rest → until (name ++ rest) ≡ name
  until_is [] rest h k = until_end rest k
  until_is (b ∷ name) rest h k = by (b == separator) h (λ n. until_is name rest n k)
    where
      by : (t : Bool) → (t || has_it name) ≡ false → (has_it name ≡ false → until (name ++ rest) ≡ name)
          → cond t [] (b ∷ until (name ++ rest)) ≡ b ∷ name
      by true k on = cc
      by false k on = ap (λ l. b ∷ l) (on k)

  -- Two texts without the separator are one where they stand before it in texts that are one.
  pub before_it : (a b r s : List ℕ) → has_it a ≡ false → has_it b ≡ false → Behind r → Behind s → a ++ r ≡ b ++ s
      → a ≡ b
  before_it a b r s ha hb hr hs e = sym (until_is a r ha hr) ∙ ap until e ∙ until_is b s hb hs
