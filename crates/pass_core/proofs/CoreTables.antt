-- What the tables of a core show of its state.
use Rattle.std.proofs.Common.{◌≡◌, ◌-◌, ◌<◌, ℕ, Bool, true, false, List, map, length, get_or, refl, ap, arith, ◌∙◌, sym}
use Rattle.std.proofs.Common.{Option, Some, None}
use Rattle.std.specs.Prelude.{slice_get, slice_index, slice_set, is_some, nat_eq, IsTrue}
use Rattle.std.proofs.lemmas.List.{get_or-map}
use Rattle.std.proofs.lemmas.Option.{slice_get_read}
use Rattle.std.proofs.lemmas.Bool.Decides.{nat_tests}
use Rattle.serial_pass.specs.declared.plan.Plan.{Plan}
use Rattle.serial_pass.specs.declared.plan.PlanEdge.{PlanEdge}
use Rattle.pass_core.specs.declared.published.Published.{Published}
use Rattle.serial_pass.specs.Results.{NodeResult}
use Rattle.pass_core.specs.Shown.{published_result}
use Rattle.pass_core.specs.CoreStates.{CoreState, from_of, to_of}
use Rattle.pass_core.specs.CoreViews.{CoreView}
use Rattle.pass_core.specs.CoreKept.{shown_in, PublishesLast}
use Rattle.bp_faults.proofs.Lists.{same_at}
use Rattle.pass_core.proofs.Marks.{get_mapped}

abbrev pub seen : {V O : Type 0} → Plan → V → CoreState O → CoreView V O
seen plan v s = record { plan = plan; visitor = v; state = s }

module _ {O : Type 0} (filled : List (Option (Published O))) (e : ℕ) (x : Option (Published O)) (lt : e < length filled)
    (is : x ≡ get_or filled e x) where
  shows : slice_get (map shown_in filled) e ≡ Some (shown_in x)
  shows = get_mapped shown_in filled e x (slice_get_read filled (length filled) e x refl lt is)

  some_shown : (y : Option (Published O)) → is_some y ≡ true → (r : NodeResult O) × (shown_in y ≡ Some r)
  some_shown None h = cc
  some_shown (Some p) h = (published_result p, refl)

  pub filled_shows : is_some x ≡ true → (r : NodeResult O) × (slice_get (map shown_in filled) e ≡ Some (Some r))
  filled_shows h = let t = some_shown x h in (t.0, shows ∙ ap Some t.1)

  none_shown : (y : Option (Published O)) → is_some y ≡ false → shown_in y ≡ None
  none_shown None h = refl
  none_shown (Some p) h = cc

  pub unfilled_shows : is_some x ≡ false → slice_get (map shown_in filled) e ≡ Some None
  unfilled_shows h = shows ∙ ap Some (none_shown x h)

pub mark_shows : (marks : List Bool) (e : ℕ) (b c : Bool) → e < length marks → b ≡ get_or marks e b → b ≡ c
    → slice_get marks e ≡ Some c
mark_shows marks e b c lt is same = slice_get_read marks (length marks) e b refl lt is ∙ ap Some same

module _ (plan : Plan) (edges : List PlanEdge) (same : edges ≡ plan.edges) (e : ℕ) (d : PlanEdge)
    (lt : e < length plan.edges) where
  pub to_is : to_of plan e ≡ (get_or edges e d).to.0
  to_is =
      get_or-map (λ (x : PlanEdge). x.to.0) plan.edges e d 0 lt
      ∙ ap (λ (l : List PlanEdge). (get_or l e d).to.0) (sym same)

  pub from_is : from_of plan e ≡ (get_or edges e d).from.0
  from_is =
      get_or-map (λ (x : PlanEdge). x.from.0) plan.edges e d 0 lt
      ∙ ap (λ (l : List PlanEdge). (get_or l e d).from.0) (sym same)

  module _ (counts : List ℕ) (k : ℕ) (inside : to_of plan e < length counts)
      (is : k ≡ get_or counts (get_or edges e d).to.0 k) where
    pub count_is : k ≡ slice_index counts (to_of plan e)
    count_is = is ∙ ap (λ n. get_or counts n k) (sym to_is) ∙ same_at counts (to_of plan e) k 0 inside

    pub lowered_is : slice_set counts (get_or edges e d).to.0 (k - 1)
        ≡ slice_set counts (to_of plan e) (slice_index counts (to_of plan e) - 1)
    lowered_is = λ i. slice_set counts (sym to_is i) (count_is i - 1)

-- the same is published, by another test and another word for the result
pub publishes_as : {O P Q : Type 0} (n : ℕ) (r q : NodeResult O) (old new : List (Option (Published O))) → (P → Q)
    → (Q → P) → r ≡ q → PublishesLast P n r old new → PublishesLast Q n q old new
publishes_as n r q old new to back same h =
    ((λ last. let t = h.0 (back last) in (t.0, t.1 ∙ same, t.2)), λ no. h.1 (λ last. no (to last)))

pub test_zero : (k j m : ℕ) → k ≡ j → IsTrue (nat_eq k m) → j ≡ m
test_zero k j m same so = grind (arith, nat_tests)

pub zero_test : (k j m : ℕ) → k ≡ j → j ≡ m → IsTrue (nat_eq k m)
zero_test k j m same is = let e : k ≡ m = omega arith in grind (arith, nat_tests)
