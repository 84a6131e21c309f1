-- One pass, and what comes behind it in its step.
use Rattle.std.proofs.Common.{◌≡◌, ◌∙◌, ◌++◌, ℕ, List, Result, Ok, Err, refl, sym, ap, subst, ⊎_elim, inl, inr}
use Rattle.std.specs.Result.{IsErrAnd}
use Rattle.bp_faults.specs.declared.fault.Fault.{Fault}
use Rattle.bp_faults.specs.declared.ids.NodeId.{NodeId}
use Rattle.bp_faults.specs.declared.refusal.Refusal.{Refusal}
use Rattle.bp_faults.specs.declared.refusal.Refusal.TheVariants.{Bad, OutOfMemory}
use Rattle.bp_faults.specs.Answers.{Tells}
use Rattle.bp_faults.specs.Phases.{Then}
use Rattle.bp_props.specs.declared.module.Module.{Module}
use Rattle.mutator_rules.specs.declared.error.KindError.TheVariants.{At, Nodes, Edges, OutOfMemory as Want}
use Rattle.mutator_rules.specs.Outcomes.{KindOutcome, Made, FaultAt, NodesBeyond, EdgesBeyond}
use Rattle.serial_pass.specs.declared.plan.Plan.{Plan}
use Rattle.pass_ways.specs.declared.way.Way.{Way}
use Rattle.pass_ways.specs.Visits.{visits}
use Rattle.pass_ways.specs.Ways.{Follows, RefusesPass, Runs}
use Rattle.variant_graphs.specs.declared.error.StepError.{StepError}
use Rattle.variant_graphs.specs.declared.error.StepError.TheVariants.{Kind, Refused}
use Rattle.variant_graphs.specs.Steps.{AnswersStep, FollowedMeans}
use Rattle.bp_pipeline.specs.Inside.{RefusalMeans}
use Rattle.bp_pipeline.specs.Limits.{ComesTo, graph_or_fault}
use Rattle.bp_pipeline.specs.Runs.{HasRunBy, TellsPass}

-- A pass that is run some way, behind visits that are handed to it as a slice.
module _ {G : Type 0} (way : Way G) (plan : Plan) (pass : ℕ) (given before : List (ℕ × NodeId))
    (handed : given ≡ before) where
  run_of : (order : List NodeId) (after : List (ℕ × NodeId)) → after ≡ before ++ visits pass order
      → Runs (Follows way) plan pass given order → HasRunBy way plan pass before after
  run_of order after is runs =
      let follows = subst (λ (l : List (ℕ × NodeId)). Follows way (l ++ visits pass order)) handed runs.1 in
      subst (HasRunBy way plan pass before) (sym is)
      (record { order = order; legal = runs.0; made = refl }, follows)

  -- an order that was followed, and noted, is a run of the pass
  pub noted : (order listed : List NodeId) (after : List (ℕ × NodeId)) → listed ≡ order
      → after ≡ before ++ visits pass listed → Runs (Follows way) plan pass given order
      → HasRunBy way plan pass before after
  noted order listed after same is runs =
      run_of order after (is ∙ ap (λ (l : List NodeId). before ++ visits pass l) same) runs

  -- the way's own refusal
  pub own_refusal : (told fault : Fault) → told ≡ fault → RefusesPass way given pass plan fault
      → RefusesPass way before pass plan told
  own_refusal told fault same refuses =
      subst (RefusesPass way before pass plan) (sym same)
      (subst (λ (l : List (ℕ × NodeId)). RefusesPass way l pass plan fault) handed refuses)

  module _ {T U V : Type 0} (view : T → V) (whole_view : U → V) (order_of : T → List NodeId) (mods : List Module)
      (Means : KindOutcome V → Type 0) where
    -- a kind of mutator made its graph
    pub pass_made : (made : T) (value : U) → whole_view value ≡ view made
        → AnswersStep view Means (RefusesPass way given pass plan) (Ok made)
        → FollowedMeans order_of (Runs (Follows way) plan pass given) (Ok made) → (listed : List NodeId)
        → listed ≡ order_of made → (after : List (ℕ × NodeId)) → after ≡ before ++ visits pass listed
        → TellsPass way whole_view (ComesTo mods Means) plan pass before after (Ok value)
    pass_made made value same means followed listed order_is after is =
        (noted (order_of made) listed after order_is is followed, (Made (view made), means, ap Ok (sym same)))

    faulty : (outcome : KindOutcome V) → Means outcome → (fault : Fault)
        → ((order : List NodeId) × Runs (Follows way) plan pass given order)
        → graph_or_fault mods outcome ≡ Err fault → (after : List (ℕ × NodeId))
        → TellsPass way whole_view (ComesTo mods Means) plan pass before after (Err (Bad fault))
    faulty outcome means fault (order, runs) is after =
        inl (before ++ visits pass order, run_of order (before ++ visits pass order) refl runs, (outcome, means, is))

    -- it ended with an error, which is told as a refusal
    pub pass_ended : (e : StepError) (r : Refusal) (after : List (ℕ × NodeId))
        → AnswersStep view Means (RefusesPass way given pass plan) (Err e)
        → FollowedMeans order_of (Runs (Follows way) plan pass given) (Err e) → RefusalMeans mods e r
        → TellsPass way whole_view (ComesTo mods Means) plan pass before after (Err r)
    pass_ended (Refused fault) (Bad told) after means followed same = inr (own_refusal told fault same means)
    pass_ended (Kind (At n fault)) (Bad told) after means followed same =
        faulty (FaultAt n.0 fault) means told followed (ap Err (sym same)) after
    pass_ended (Kind (Nodes number)) (Bad told) after means followed same =
        faulty (NodesBeyond number) means told followed (ap Err (sym same)) after
    pass_ended (Kind (Edges at)) (Bad told) after means followed same =
        faulty (EdgesBeyond at) means told followed (ap Err (sym same)) after
    pass_ended (Kind Want) (Bad told) after means followed same = absurd same
    pass_ended e OutOfMemory after means followed same = tt

module _ {G : Type 0} (way : Way G) (plan : Plan) (pass : ℕ) (before : List (ℕ × NodeId)) where
  -- A pass, and then what comes of its value.
  module _ {T U A B : Type 0} (view : T → A) (whole_view : U → B) (First : Result A Fault → Type 0)
      (Next : A → Result B Fault → Type 0) (after : List (ℕ × NodeId)) where
    first_faulty : (e : Refusal) → TellsPass way view First plan pass before after (Err e)
        → TellsPass way whole_view (Then First Next) plan pass before after (Err e)
    first_faulty (Bad fault) told =
        ⊎_elim (λ run. inl (run.0, run.1, (Err fault, run.2, refl))) (λ refuses. inr refuses) told
    first_faulty OutOfMemory told = tt

    -- the pass refuses, and the step with it
    pub first_refuses : (e : Refusal) (r : Result U Refusal) → IsErrAnd r (λ x. x ≡ e)
        → TellsPass way view First plan pass before after (Err e)
        → TellsPass way whole_view (Then First Next) plan pass before after r
    first_refuses e (Ok made) same told = absurd same
    first_refuses e (Err x) same told =
        subst (λ (y : Refusal). TellsPass way whole_view (Then First Next) plan pass before after (Err y)) (sym same)
        (first_faulty e told)

    -- what comes next tells the step
    pub next_tells : (value : T) → TellsPass way view First plan pass before after (Ok value) → (r : Result U Refusal)
        → Tells whole_view (Next (view value)) r → TellsPass way whole_view (Then First Next) plan pass before after r
    next_tells value told (Ok made) next = (told.0, (Ok (view value), told.1, next))
    next_tells value told (Err (Bad fault)) next = inl (after, told.0, (Ok (view value), told.1, next))
    next_tells value told (Err OutOfMemory) next = tt
