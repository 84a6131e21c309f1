-- Gathering what some edges hold, an edge at a time.
use Rattle.std.proofs.Common.{◌≡◌, ◌+◌, ◌<◌, ℕ, suc, List, [], ◌∷◌, ◌++◌, map, length, get_or, take, drop, refl, ap}
use Rattle.std.proofs.Common.{◌∙◌, sym, subst, Option, Some, None, Result, Vec}
use Rattle.std.specs.Option.{option_map}
use Rattle.std.specs.declared.sync.Arc.{Arc}
use Rattle.std.specs.Arc.{arc_value}
use Rattle.std.proofs.lemmas.List.{take_more, map-append, take-append-drop, length-map}
use Rattle.std.proofs.Math.Seq.{drop-cons}
use Rattle.bp_faults.specs.declared.fault.Fault.{Fault}
use Rattle.serial_pass.specs.Results.{NodeResult, Done, Bad, Poisoned, IsDone, cons_if, all_outs, result_of_visit}
use Rattle.serial_pass.specs.Results.{judged_result}

module _ {O : Type 0} where
  cons_there : (x : O) (r : Option (List O)) (os : List O) → cons_if x r ≡ Some os
      → (rest : List O) × (r ≡ Some rest) × (os ≡ x ∷ rest)
  cons_there x None os h = cc
  cons_there x (Some rest) os h = (rest, refl, cc)

  outs_snoc : (rs : List (NodeResult O)) (os : List O) (o : O) → all_outs rs ≡ Some os
      → all_outs (rs ++ Done o ∷ []) ≡ Some (os ++ o ∷ [])
  outs_snoc [] os o h = let e : [] ≡ os = cc in rw (← e) refl
  outs_snoc (Bad f ∷ rs) os o h = cc
  outs_snoc (Poisoned ∷ rs) os o h = cc
  outs_snoc (Done x ∷ rs) os o h =
      let t = cons_there x (all_outs rs) os h in
      ap (cons_if x) (outs_snoc rs t.0 o t.1) ∙ sym (ap (λ (l : List O). Some (l ++ o ∷ [])) t.2)

  outs_stop : (rs qs : List (NodeResult O)) (r : NodeResult O) → (IsDone r → ⊥) → all_outs (rs ++ r ∷ qs) ≡ None
  outs_stop [] qs (Done o) h = absurd (h tt)
  outs_stop [] qs (Bad f) h = refl
  outs_stop [] qs Poisoned h = refl
  outs_stop (Done x ∷ rs) qs r h = ap (cons_if x) (outs_stop rs qs r h)
  outs_stop (Bad f ∷ rs) qs r h = refl
  outs_stop (Poisoned ∷ rs) qs r h = refl

  pub outs_length : (rs : List (NodeResult O)) (os : List O) → all_outs rs ≡ Some os → length os ≡ length rs
  outs_length [] os h = let e : [] ≡ os = cc in ap length (sym e)
  outs_length (Bad f ∷ rs) os h = cc
  outs_length (Poisoned ∷ rs) os h = cc
  outs_length (Done x ∷ rs) os h =
      let t = cons_there x (all_outs rs) os h in ap length t.2 ∙ ap suc (outs_length rs t.0 t.1)

  module _ {X : Type 0} (g : X → NodeResult O) (xs : List X) (i : ℕ) (d : X) (lt : i < length xs) where
    pub outs_more : (os : List O) (o : O) → g (get_or xs i d) ≡ Done o → all_outs (map g (take i xs)) ≡ Some os
        → all_outs (map g (take (i + 1) xs)) ≡ Some (os ++ o ∷ [])
    outs_more os o done before =
        rw (take_more xs i d lt, map-append g (take i xs) (get_or xs i d ∷ []), done)
        (outs_snoc (map g (take i xs)) os o before)

    pub outs_none : (IsDone (g (get_or xs i d)) → ⊥) → all_outs (map g xs) ≡ None
    outs_none undone =
        subst (λ (l : List X). all_outs (map g l) ≡ None) (take-append-drop i xs)
        (rw (drop-cons xs i d lt, map-append g (take i xs) (get_or xs i d ∷ drop (suc i) xs))
        (outs_stop (map g (take i xs)) (map g (drop (suc i) xs)) (g (get_or xs i d)) undone))

module _ {O A Z : Type 0} (rs : List (NodeResult O)) (r : Option (Vec (Arc O A) Z))
    (says : option_map (λ (v : Vec (Arc O A) Z). map arc_value v.items) r ≡ all_outs rs) where
  pub none_gathered : r ≡ None → all_outs rs ≡ None
  none_gathered none =
      sym says
      ∙ ap (λ (s : Option (Vec (Arc O A) Z)). option_map (λ (v : Vec (Arc O A) Z). map arc_value v.items) s) none

  module _ (ins : Vec (Arc O A) Z) (found : r ≡ Some ins) (passed : List (Arc O A)) (slice : passed ≡ ins.items) where
    pub outs_gathered : all_outs rs ≡ Some (map arc_value passed)
    outs_gathered =
        sym says
        ∙ ap (λ (s : Option (Vec (Arc O A) Z)). option_map (λ (v : Vec (Arc O A) Z). map arc_value v.items) s) found
        ∙ ap (λ (l : List (Arc O A)). Some (map arc_value l)) (sym slice)

    -- as many were passed as there are edges
    pub passed_many : length passed ≡ length rs
    passed_many = sym (length-map passed arc_value) ∙ outs_length rs (map arc_value passed) outs_gathered

    pub judged_gathered : (mean : List O → Result O Fault) (m : Result O Fault) → mean (map arc_value passed) ≡ m
        → result_of_visit m ≡ judged_result mean (all_outs rs)
    judged_gathered mean m is = sym (ap (judged_result mean) outs_gathered ∙ ap result_of_visit is)
