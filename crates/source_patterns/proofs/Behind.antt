-- What texts have behind one another.
use Rattle.std.proofs.Common.{◌≡◌, ◌∙◌, ℕ, Bool, true, false, cond, eqb, eqb-true, eq-eqb, List, [], ◌∷◌, ◌++◌, refl}
use Rattle.std.proofs.Common.{ap, sym, length}
use Rattle.std.specs.Prelude.{◌==◌, if◌then◌else◌}
use Rattle.source_patterns.specs.Patterns.{tail_behind, tail_below}

-- Nothing has nothing behind it.
pub rest_of_nothing : (first : List ℕ) → tail_behind first [] ≡ []
rest_of_nothing [] = refl
rest_of_nothing (c ∷ cs) = refl

-- What stands behind two texts stands behind the second of what stands behind the first.
pub rest_behind_both : (first second text : List ℕ)
    → tail_behind (first ++ second) text ≡ tail_behind second (tail_behind first text)
rest_behind_both [] second text = refl
rest_behind_both (c ∷ cs) second [] = sym (rest_of_nothing second)
rest_behind_both (c ∷ cs) second (d ∷ text) = by (d == c) (rest_behind_both cs second text)
  where
    by : (b : Bool) → tail_behind (cs ++ second) text ≡ tail_behind second (tail_behind cs text)
        → (if b then tail_behind (cs ++ second) text else [])
        ≡ tail_behind second (if b then tail_behind cs text else [])
    by true rest = rest
    by false rest = sym (rest_of_nothing second)

rest_of_joined : (first rest : List ℕ) → tail_behind first (first ++ rest) ≡ rest
rest_of_joined [] rest = refl
rest_of_joined (c ∷ cs) rest = rw (eq-eqb c c refl) (rest_of_joined cs rest)

-- A text that is another and more has that behind it.
pub rest_is : (first text rest : List ℕ) → text ≡ first ++ rest → rest ≡ tail_behind first text
rest_is first text rest is = sym (ap (tail_behind first) is ∙ rest_of_joined first rest)

no_rest_by : (c d : ℕ) (cs text : List ℕ) (e : Bool) → eqb d c ≡ e
    → ((rest : List ℕ) → d ∷ text ≡ c ∷ (cs ++ rest) → ⊥)
    → (((rest : List ℕ) → text ≡ cs ++ rest → ⊥) → tail_behind cs text ≡ [])
    → cond e (tail_behind cs text) [] ≡ []
no_rest_by c d cs text true is h more = more (λ rest k. h rest (let at : d ≡ c = eqb-true d c is in cc))
no_rest_by c d cs text false is h more = refl

-- A text that doesn't begin with another has nothing behind it.
pub no_rest : (first text : List ℕ) → ((rest : List ℕ) → text ≡ first ++ rest → ⊥) → tail_behind first text ≡ []
no_rest [] text h = absurd (h text refl)
no_rest (c ∷ cs) [] h = refl
no_rest (c ∷ cs) (d ∷ text) h = no_rest_by c d cs text (eqb d c) refl h (λ k. no_rest cs text k)

-- Behind a directory and a slash stands what is behind the slash of what is behind the directory.
pub tail_apart : (dir path : List ℕ) → (length dir == 0) ≡ false
    → tail_behind (47 ∷ []) (tail_behind dir path) ≡ tail_below dir path
tail_apart [] path some = absurd (cc)
tail_apart (c ∷ cs) path some = sym (rest_behind_both (c ∷ cs) (47 ∷ []) path)
