-- Matching name by name: what is left of a pattern behind a name fits the other names where the pattern fits them all.
use Rattle.std.proofs.Common.{◌≡◌, ◌++◌, ◌+◌, ◌*◌, ◌<◌, ℕ, zero, suc, List, [], ◌∷◌, length, refl, ap, ◌∙◌, sym, Bool}
use Rattle.std.proofs.Common.{true, false, arith}
use Rattle.std.proofs.Math.Bool.{true≢false}
use Rattle.std.specs.Prelude.{◌&&◌, ◌||◌, not, if◌then◌else◌}
use Rattle.std.specs.List.{AllByRecursion}
use Rattle.bp_faults.proofs.Lists.{all_append, all_map}
use Rattle.path_patterns.specs.Globs.{has_none, is_hidden, fits}
use Rattle.path_patterns.specs.Parts.{goes_deep, deep, first_fits, all_fit, leads, Rest, skip_one, step_parts}
use Rattle.path_patterns.specs.Parts.{step_rest}
use Rattle.path_patterns.specs.Parts.{step_all}
use Rattle.path_patterns.specs.Levels.{weight, heaviest}
use Rattle.path_patterns.specs.Parts.{rest_fits, some_fit, is_done, has_rest}

or_assoc : (a b c : Bool) → (a || (b || c)) ≡ ((a || b) || c)
or_assoc true b c = refl
or_assoc false b c = refl

or_false : (a : Bool) → (a || false) ≡ a
or_false true = refl
or_false false = refl

swallow : (a : Bool) → ((a || false) || true) ≡ true
swallow true = refl
swallow false = refl

-- A measure of how components may stand for names, of which the first step is that of `all_fit`.
pub record Stepwise (F : List (List ℕ) → List (List ℕ) → Bool) : Type 0 where
  pub end : (n : List ℕ) (ns : List (List ℕ)) → F [] (n ∷ ns) ≡ false
  pub more : (p : List ℕ) (ps : List (List ℕ)) (n : List ℕ) (ns : List (List ℕ))
      → F (p ∷ ps) (n ∷ ns) ≡ (if goes_deep p ps then deep 64 (F ps) (n ∷ ns) else (fits p n && F ps ns))

pub all_fit-stepwise : Stepwise all_fit
all_fit-stepwise = record { end = λ n ns. refl; more = λ p ps n ns. refl }

pub leads-stepwise : Stepwise leads
leads-stepwise = record { end = λ n ns. refl; more = λ p ps n ns. refl }

module _ (F : List (List ℕ) → List (List ℕ) → Bool) where
  some_append : (rs qs : List Rest) (names : List (List ℕ))
      → some_fit F (rs ++ qs) names ≡ (some_fit F rs names || some_fit F qs names)
  some_append [] qs names = refl
  some_append (r ∷ rs) qs names =
      ap (λ b. rest_fits F r.0 r.1 names || b) (some_append rs qs names)
      ∙ or_assoc (rest_fits F r.0 r.1 names) (some_fit F rs names) (some_fit F qs names)

  none_skipped : (p : List ℕ) (ps names : List (List ℕ)) → deep 0 (F (p ∷ ps)) names ≡ F (p ∷ ps) names
  none_skipped p ps [] = refl
  none_skipped p ps (n ∷ ns) = refl

  -- Where nothing is skipped, the components stand for the names.
  pub at_once : (ps names : List (List ℕ)) → rest_fits F 0 ps names ≡ F ps names
  at_once [] names = refl
  at_once (p ∷ ps) names = none_skipped p ps names

  skips : (most : ℕ) (p : List ℕ) (ps : List (List ℕ)) (n : List ℕ) (ns : List (List ℕ))
      → deep most (F (p ∷ ps)) (n ∷ ns) ≡ (some_fit F (skip_one most (p ∷ ps) n) ns || F (p ∷ ps) (n ∷ ns))
  skips zero p ps n ns = refl
  skips (suc most) p ps n ns = by (is_hidden n) (F (p ∷ ps) (n ∷ ns)) where
    by : (h b : Bool) → (b || (not h && deep most (F (p ∷ ps)) ns))
        ≡ (some_fit F (if h then [] else (most, p ∷ ps) ∷ []) ns || b)
    by true true = refl
    by true false = refl
    by false true = sym (swallow (deep most (F (p ∷ ps)) ns))
    by false false = sym (or_false (deep most (F (p ∷ ps)) ns || false) ∙ or_false (deep most (F (p ∷ ps)) ns))

  module _ (law : Stepwise F) where
    steps_parts : (ps : List (List ℕ)) (n : List ℕ) (ns : List (List ℕ))
        → F ps (n ∷ ns) ≡ some_fit F (step_parts ps n) ns
    steps_parts [] n ns = law.end n ns
    steps_parts (p ∷ []) n ns = law.more p [] n ns ∙ at (fits p n) where
      at : (f : Bool) → (f && F [] ns) ≡ some_fit F (if f then (0, []) ∷ [] else []) ns
      at true = sym (or_false (F [] ns))
      at false = refl
    steps_parts (p ∷ q ∷ qs) n ns =
        law.more p (q ∷ qs) n ns ∙ by (goes_deep p (q ∷ qs)) (steps_parts (q ∷ qs) n ns) where
          at : (f : Bool) → (f && F (q ∷ qs) ns) ≡ some_fit F (if f then (0, q ∷ qs) ∷ [] else []) ns
          at true = sym (or_false (deep 0 (F (q ∷ qs)) ns) ∙ none_skipped q qs ns)
          at false = refl

          by : (d : Bool) → F (q ∷ qs) (n ∷ ns) ≡ some_fit F (step_parts (q ∷ qs) n) ns
              → (if d then deep 64 (F (q ∷ qs)) (n ∷ ns) else (fits p n && F (q ∷ qs) ns))
              ≡ some_fit F (if d then skip_one 64 (q ∷ qs) n ++ step_parts (q ∷ qs) n
              else if fits p n then (0, q ∷ qs) ∷ [] else []) ns
          by true h =
              skips 64 q qs n ns ∙ ap (λ b. some_fit F (skip_one 64 (q ∷ qs) n) ns || b) h
              ∙ sym (some_append (skip_one 64 (q ∷ qs) n) (step_parts (q ∷ qs) n) ns)
          by false h = at (fits p n)

    steps_rest : (most : ℕ) (ps : List (List ℕ)) (n : List ℕ) (ns : List (List ℕ))
        → rest_fits F most ps (n ∷ ns) ≡ some_fit F (step_rest most ps n) ns
    steps_rest most [] n ns = law.end n ns
    steps_rest most (p ∷ ps) n ns =
        skips most p ps n ns ∙ ap (λ b. some_fit F (skip_one most (p ∷ ps) n) ns || b) (steps_parts (p ∷ ps) n ns)
        ∙ sym (some_append (skip_one most (p ∷ ps) n) (step_parts (p ∷ ps) n) ns)

    -- What is left fits a name and others where what it leaves behind the name fits the others.
    pub steps_all : (rs : List Rest) (n : List ℕ) (ns : List (List ℕ))
        → some_fit F rs (n ∷ ns) ≡ some_fit F (step_all rs n) ns
    steps_all [] n ns = refl
    steps_all (r ∷ rs) n ns =
        ap (λ b. b || some_fit F rs (n ∷ ns)) (steps_rest r.0 r.1 n ns)
        ∙ ap (λ b. some_fit F (step_rest r.0 r.1 n) ns || b) (steps_all rs n ns)
        ∙ sym (some_append (step_rest r.0 r.1 n) (step_all rs n) ns)

-- Components stand for at least one name.
pub parts_fit_none : (p : List ℕ) (ps : List (List ℕ)) → all_fit (p ∷ ps) [] ≡ false
parts_fit_none p [] = refl
parts_fit_none p (q ∷ qs) = by (goes_deep p (q ∷ qs)) (parts_fit_none q qs) where
  by : (d : Bool) → all_fit (q ∷ qs) [] ≡ false
      → (if d then deep 64 (all_fit (q ∷ qs)) [] else first_fits p (all_fit (q ∷ qs)) []) ≡ false
  by true h = h
  by false h = refl

-- The names so far are a match where nothing is left.
pub fits_none : (rs : List Rest) → some_fit all_fit rs [] ≡ is_done rs
fits_none [] = refl
fits_none (r ∷ rs) =
    ap (λ b. b || some_fit all_fit rs []) (here r.0 r.1) ∙ ap (λ b. has_none r.1 || b) (fits_none rs) where
      here : (most : ℕ) (ps : List (List ℕ)) → rest_fits all_fit most ps [] ≡ has_none ps
      here most [] = refl
      here most (p ∷ ps) = parts_fit_none p ps

-- A directory is walked where something is left.
pub leads_none : (rs : List Rest) → some_fit leads rs [] ≡ has_rest rs
leads_none [] = refl
leads_none (r ∷ rs) =
    ap (λ b. b || some_fit leads rs []) (here r.0 r.1) ∙ ap (λ b. not (has_none r.1) || b) (leads_none rs) where
      here : (most : ℕ) (ps : List (List ℕ)) → rest_fits leads most ps [] ≡ not (has_none ps)
      here most [] = refl
      here most (p ∷ ps) = refl

-- What fits names for which no component isn't enough has something left.
pub has_rest-fits : (F : List (List ℕ) → List (List ℕ) → Bool) (names : List (List ℕ)) → F [] names ≡ false
    → (rs : List Rest) → some_fit F rs names ≡ true → has_rest rs ≡ true
has_rest-fits F names none [] e = e
has_rest-fits F names none (r ∷ rs) e = by (λ k. has_rest-fits F names none rs k) r.1 e where
  by : (some_fit F rs names ≡ true → has_rest rs ≡ true) → (ps : List (List ℕ))
      → (rest_fits F r.0 ps names || some_fit F rs names) ≡ true → (not (has_none ps) || has_rest rs) ≡ true
  by others [] h = others (ap (λ b. b || some_fit F rs names) (sym none) ∙ h)
  by others (p ∷ ps) h = refl

abbrev Lighter : ℕ → List Rest → Type 0
Lighter most rs = AllByRecursion (λ r. weight r < most) rs

lighter_skip : (most : ℕ) (ps : List (List ℕ)) (n : List ℕ) → Lighter (most + 65 * length ps) (skip_one most ps n)
lighter_skip zero ps n = tt
lighter_skip (suc most) ps n = by (is_hidden n) where
  by : (h : Bool) → Lighter (suc most + 65 * length ps) (if h then [] else (most, ps) ∷ [])
  by true = tt
  by false = (omega arith, tt)

lighter_parts : (ps : List (List ℕ)) (n : List ℕ) → Lighter (65 * length ps) (step_parts ps n)
lighter_parts [] n = tt
lighter_parts (p ∷ ps) n = by (goes_deep p ps) (lighter_parts ps n) where
  at : (f : Bool) → Lighter (65 * length (p ∷ ps)) (if f then (0, ps) ∷ [] else [])
  at true = (omega arith, tt)
  at false = tt

  by : (d : Bool) → Lighter (65 * length ps) (step_parts ps n) → Lighter (65 * length (p ∷ ps))
      (if d then skip_one 64 ps n ++ step_parts ps n else if fits p n then (0, ps) ∷ [] else [])
  by true others =
      all_append (λ r. weight r < 65 * length (p ∷ ps)) (skip_one 64 ps n) (step_parts ps n)
      (all_map (λ r. weight r < 64 + 65 * length ps) (λ r. weight r < 65 * length (p ∷ ps)) (λ r h. omega arith)
      (skip_one 64 ps n) (lighter_skip 64 ps n))
      (all_map (λ r. weight r < 65 * length ps) (λ r. weight r < 65 * length (p ∷ ps)) (λ r h. omega arith)
      (step_parts ps n) others)
  by false others = at (fits p n)

lighter_rest : (most : ℕ) (ps : List (List ℕ)) (n : List ℕ) → Lighter (most + 65 * length ps) (step_rest most ps n)
lighter_rest most [] n = tt
lighter_rest most (p ∷ ps) n =
    all_append (λ r. weight r < most + 65 * length (p ∷ ps)) (skip_one most (p ∷ ps) n) (step_parts (p ∷ ps) n)
    (lighter_skip most (p ∷ ps) n)
    (all_map (λ r. weight r < 65 * length (p ∷ ps)) (λ r. weight r < most + 65 * length (p ∷ ps)) (λ r h. omega arith)
    (step_parts (p ∷ ps) n) (lighter_parts (p ∷ ps) n))

-- Everything that is left behind a name is lighter than the heaviest before.
pub lighter_all : (rs : List Rest) (n : List ℕ)
    → AllByRecursion (λ r. weight r + 1 < heaviest rs) (step_all rs n)
lighter_all [] n = tt
lighter_all (r ∷ rs) n =
    all_append (λ q. weight q + 1 < heaviest (r ∷ rs)) (step_rest r.0 r.1 n) (step_all rs n)
    (all_map (λ q. weight q < weight r) (λ q. weight q + 1 < heaviest (r ∷ rs)) (λ q h. omega arith)
    (step_rest r.0 r.1 n) (lighter_rest r.0 r.1 n))
    (all_map (λ q. weight q + 1 < heaviest rs) (λ q. weight q + 1 < heaviest (r ∷ rs)) (λ q h. omega arith)
    (step_all rs n) (lighter_all rs n))

bounded : (most : ℕ) (rs : List Rest) → AllByRecursion (λ r. weight r + 1 < most) rs → 0 < length rs
    → heaviest rs < most
bounded most [] all some = absurd (omega arith)
bounded most (r ∷ []) all some = let h = all.0 in omega arith
bounded most (r ∷ q ∷ rs) all some =
    let rest = bounded most (q ∷ rs) all.1 (omega arith) in let h = all.0 in omega arith

-- Where something is left behind a name, the heaviest of it is lighter than before.
pub heaviest_falls : (rs : List Rest) (n : List ℕ) → has_rest (step_all rs n) ≡ true
    → heaviest (step_all rs n) < heaviest rs
heaviest_falls rs n on = bounded (heaviest rs) (step_all rs n) (lighter_all rs n) (some (step_all rs n) on) where
  some : (qs : List Rest) → has_rest qs ≡ true → 0 < length qs
  some [] h = absurd (true≢false (sym h))
  some (q ∷ qs) h = omega arith
