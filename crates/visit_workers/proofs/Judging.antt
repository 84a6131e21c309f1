-- Results that are all done, or not.
use Rattle.std.proofs.Common.{◌≡◌, ◌+◌, ◌<◌, ◌++◌, ℕ, zero, suc, List, [], ◌∷◌, length, map, take, get_or, refl, ap}
use Rattle.std.proofs.Common.{arith, ◌∙◌, sym, subst, if◌then◌else◌, Bool, true, false, Option, Some, None, Result}
use Rattle.std.proofs.Common.{Global}
use Rattle.std.specs.declared.sync.Arc.{Arc}
use Rattle.std.specs.Arc.{arc_value}
use Rattle.std.proofs.lemmas.List.{length-map}
use Rattle.pass_core.specs.declared.published.Published.{Published}
use Rattle.pass_core.specs.declared.published.Published.TheVariants.{Done, Bad, Poisoned}
use Rattle.bp_faults.specs.declared.fault.Fault.{Fault}
use Rattle.serial_pass.specs.Results.{NodeResult, all_outs, cons_if, judged_result, result_of_visit as shown_as}
use Rattle.serial_pass.specs.Results.{node_result}
use Rattle.serial_pass.specs.Plans.{IsPlan, HasNoCycle, predecessors}
use Rattle.serial_pass.specs.declared.plan.Plan.{Plan}
use Rattle.serial_pass.specs.Results.NodeResult.{Done as IsDone, Bad as IsBad, Poisoned as IsPoisoned}
use Rattle.pass_core.specs.Shown.{published_result}
use Rattle.serial_pass.specs.Laws.{ResultsMeetTheirEquation}
use Rattle.visit_workers.specs.Settled.{outcomes}

module _ {O : Type 0} where
  none_more : (r : NodeResult O) (rs : List (NodeResult O)) → all_outs rs ≡ None → all_outs (r ∷ rs) ≡ None
  none_more (IsDone o) rs h = ap (cons_if o) h
  none_more (IsBad f) rs h = refl
  none_more IsPoisoned rs h = refl

  not_done : (p : Published O) (rs : List (NodeResult O)) → ((s : _) → p ≡ Done s → ⊥)
      → all_outs (published_result p ∷ rs) ≡ None
  not_done (Done s) rs h = absurd (h s refl)
  not_done (Bad f) rs h = refl
  not_done Poisoned rs h = refl

  some_cons : (r : NodeResult O) (rs : List (NodeResult O)) (os : List O) → all_outs (r ∷ rs) ≡ Some os
      → (o : O) × (ps : List O) × (r ≡ IsDone o) × (all_outs rs ≡ Some ps) × (os ≡ o ∷ ps)
  some_cons (IsDone o) rs os h = split (all_outs rs) refl h where
    split : (q : Option (List O)) → all_outs rs ≡ q → cons_if o q ≡ Some os
        → (p : O) × (ps : List O) × (IsDone o ≡ IsDone p) × (all_outs rs ≡ Some ps) × (os ≡ p ∷ ps)
    split None e h = cc
    split (Some ps) e h = (o, ps, refl, e, cc)
  some_cons (IsBad f) rs os h = cc
  some_cons IsPoisoned rs os h = cc

  outs_many : (rs : List (NodeResult O)) (os : List O) → all_outs rs ≡ Some os → length os ≡ length rs
  outs_many [] os h = let e : [] ≡ os = cc in ap length (sym e)
  outs_many (r ∷ rs) os h = let t = some_cons r rs os h in ap length t.4 ∙ ap suc (outs_many rs t.1 t.3)

module _ {O A : Type 0} where
  pub stops : (ins : List (Arc (Published O) A)) (i : ℕ) (x : Arc (Published O) A) (p : Published O) → i < length ins
      → x ≡ get_or ins i x → p ≡ arc_value x → ((s : _) → p ≡ Done s → ⊥) → all_outs (outcomes ins) ≡ None
  stops [] i x p l is v h = absurd (omega arith)
  stops (y ∷ ys) zero x p l is v h = not_done (arc_value y) (outcomes ys) (λ s e. h s (v ∙ ap arc_value is ∙ e))
  stops (y ∷ ys) (suc i) x p l is v h =
      none_more (published_result (arc_value y)) (outcomes ys) (stops ys i x p (omega arith) is v h)

  more_done : (ins : List (Arc (Published O) A)) (i : ℕ) (x : Arc (Published O) A) (o : O) (os : List O)
      → i < length ins → x ≡ get_or ins i x → published_result (arc_value x) ≡ IsDone o
      → all_outs (outcomes (take i ins)) ≡ Some os → all_outs (outcomes (take (suc i) ins)) ≡ Some (os ++ o ∷ [])
  more_done [] i x o os l is v h = absurd (omega arith)
  more_done (y ∷ ys) zero x o os l is v h =
      let e : [] ≡ os = cc in
      ap (λ (r : NodeResult O). all_outs (r ∷ [])) (ap (λ a. published_result (arc_value a)) (sym is) ∙ v)
      ∙ ap (λ (l : List O). Some (l ++ o ∷ [])) e
  more_done (y ∷ ys) (suc i) x o os l is v h =
      let t = some_cons (published_result (arc_value y)) (outcomes (take i ys)) os h in
      ap (λ (r : NodeResult O). all_outs (r ∷ outcomes (take (suc i) ys))) t.2
      ∙ ap (cons_if t.0) (more_done ys i x o t.1 (omega arith) is v t.3)
      ∙ ap (λ (l : List O). Some (l ++ o ∷ [])) (sym t.4)

  pub goes_done : (ins : List (Arc (Published O) A)) (i : ℕ) (x : Arc (Published O) A) (p : Published O)
      (s t : Arc O Global) (os : List O) → i < length ins → x ≡ get_or ins i x → p ≡ arc_value x → p ≡ Done s
      → arc_value t ≡ arc_value s
      → all_outs (outcomes (take i ins)) ≡ Some os
      → all_outs (outcomes (take (i + 1) ins)) ≡ Some (os ++ arc_value t ∷ [])
  goes_done ins i x p s t os l is v d c h =
      let k : suc i ≡ i + 1 = omega arith in
      subst (λ j. all_outs (outcomes (take j ins)) ≡ Some (os ++ arc_value t ∷ [])) k
      (more_done ins i x (arc_value t) os l is (ap published_result (sym v ∙ d) ∙ ap IsDone (sym c)) h)

  module _ (equation : ResultsMeetTheirEquation O) (mean : ℕ → List O → Result O Fault) (plan : Plan)
      (is_plan : IsPlan plan) (free : HasNoCycle plan.edges) (n : ℕ) (lt : n < plan.count)
      (ins : List (Arc (Published O) A))
      (values : outcomes ins ≡ map (node_result mean plan) (predecessors plan.edges n)) where
    judged_is : node_result mean plan n ≡ judged_result (mean n) (all_outs (outcomes ins))
    judged_is = equation mean plan n is_plan free lt ∙ ap (λ l. judged_result (mean n) (all_outs l)) (sym values)

    pub poisoned : None ≡ all_outs (outcomes ins) → node_result mean plan n ≡ IsPoisoned
    poisoned h = judged_is ∙ ap (judged_result (mean n)) (sym h)

    pub visited : (os : List O) → Some os ≡ all_outs (outcomes ins) → (m : Result O Fault) → mean n os ≡ m
        → node_result mean plan n ≡ shown_as m
    visited os h m is = judged_is ∙ ap (judged_result (mean n)) (sym h) ∙ ap shown_as is

    pub as_many : (os : List O) → Some os ≡ all_outs (outcomes ins) → length os ≡ length (predecessors plan.edges n)
    as_many os h = outs_many (outcomes ins) os (sym h) ∙ ap length values
        ∙ length-map (predecessors plan.edges n) (node_result mean plan)

-- what a list says, where not all came into it, and where all did
pub told_none : {X : Type 0} (all : Bool) (x : X) → all ≡ false → (q : Option X) → (if all then Some x else None) ≡ q
    → None ≡ q
told_none all x is q h = sym (ap (λ (b : Bool). if b then Some x else None) is) ∙ h

pub told_some : {X : Type 0} (all : Bool) (x : X) → all ≡ true → (q : Option X) → (if all then Some x else None) ≡ q
    → Some x ≡ q
told_some all x is q h = sym (ap (λ (b : Bool). if b then Some x else None) is) ∙ h
