-- Lines are replayed to something, since they say a legal order of each pass or are refused in it.
use Rattle.std.proofs.Common.{◌≡◌, ◌<◌, ◌≤◌, ◌⊎◌, ◌++◌, ℕ, zero, suc, List, [], ◌∷◌, length, drop, inl, inr, refl}
use Rattle.std.proofs.Common.{Result, Ok, Err, arith}
use Rattle.std.specs.Prelude.{IfOk}
use Rattle.bp_faults.specs.declared.fault.Fault.{Fault}
use Rattle.bp_faults.specs.declared.ids.NodeId.{NodeId}
use Rattle.bp_faults.specs.declared.limits.TheConstants.{MOST_MODULES}
use Rattle.bp_faults.specs.Phases.{HasOutcome}
use Rattle.bp_props.specs.declared.module.Module.{Module}
use Rattle.bp_props.specs.declared.props.Props.{Props}
use Rattle.build_actions.specs.declared.actions.Actions.{Actions}
use Rattle.build_actions.specs.Acts.{acts_at}
use Rattle.build_actions.specs.File.{file_of_actions}
use Rattle.graph_nodes.specs.declared.graph.Node.{Node}
use Rattle.module_graph.specs.declared.direction.Direction.TheVariants.{BottomUp}
use Rattle.module_graph.specs.Laws.{PlansOfGraphsArePlans, ValidPlansHaveNoCycle}
use Rattle.module_graph.specs.Planned.{plan_of}
use Rattle.mutator_rules.specs.declared.config.Config.{Config}
use Rattle.mutator_rules.specs.Configs.{TargetsDiffer}
use Rattle.serial_pass.specs.Laws.{OneOutcome}
use Rattle.serial_pass.specs.Outcomes.{PassMeans}
use Rattle.pass_ways.specs.declared.way.OrderLine.{OrderLine}
use Rattle.pass_ways.specs.Laws.{PartsAreShort}
use Rattle.pass_ways.specs.OrderFiles.{Say, lines_behind, stopped_at}
use Rattle.pass_ways.specs.Visits.{visits}
use Rattle.bp_pipeline.specs.Course.{CourseMeans}
use Rattle.bp_pipeline.specs.First.{first_nodes}
use Rattle.bp_pipeline.specs.Generated.{FileMeans, text_within_limit}
use Rattle.bp_pipeline.specs.Journals.{HasRun, IsJournal, IsLegalJournal, plan_at}
use Rattle.bp_pipeline.specs.Mutators.{passes}
use Rattle.bp_pipeline.specs.Passes.{Outcome, StepMeans, pass_at}
use Rattle.bp_pipeline.specs.Ready.{IsReadyForPass, SomeStep}
use Rattle.bp_pipeline.specs.Replays.{Cause, ReplayMeans}
use Rattle.bp_pipeline.specs.Replays.Cause.{Behind, Faulty, Illegal, TooLarge}
use Rattle.bp_pipeline.proofs.SomeGraph.{first_ready}
use Rattle.bp_pipeline.proofs.SomeReading.{Reading, reading}
use Rattle.bp_pipeline.proofs.SomeText.{pass_some}

say_few : (lines : List OrderLine) (said : List (ℕ × NodeId)) → Say lines said → length said ≤ length lines
say_few lines [] h = omega arith
say_few [] (v ∷ vs) h = absurd h
say_few (l ∷ ls) (v ∷ vs) h = let e = say_few ls vs h.1 in omega arith

none_behind : {X : Type 0} (n : ℕ) (xs : List X) → drop n xs ≡ [] → length xs ≤ n
none_behind zero [] is = omega arith
none_behind zero (x ∷ xs) is = cc
none_behind (suc n) [] is = omega arith
none_behind (suc n) (x ∷ xs) is = let rest = none_behind n xs is in omega arith

module _ (step : SomeStep) (short : PartsAreShort) (one : OneOutcome Actions) (plans : PlansOfGraphsArePlans Props)
    (acyclic : ValidPlansHaveNoCycle Props) (mods : List Module) (c : Config) (lines : List OrderLine) (file : ℕ)
    (few : length mods ≤ MOST_MODULES) (differ : TargetsDiffer c) where
  abbrev Replayed : Type 0
  Replayed = HasOutcome (ReplayMeans mods c lines file)

  faulty : (fault : Fault) → Cause mods c lines file fault → Replayed
  faulty fault cause = (Err fault, cause)

  -- The lines say a journal of the first passes, which come to a graph.
  pub record IsSoFar (p : ℕ) : Type 0 where
    pub nodes : List (Node Props)
    pub earlier : List (ℕ × NodeId)
    pub mutated : IsJournal mods c p nodes earlier
    pub course : CourseMeans mods c p (Ok nodes)
    pub say : Say lines earlier
    pub ready : IsReadyForPass (length mods) p nodes

  next_pass : (p : ℕ) → p < passes → IsSoFar p → Replayed ⊎ IsSoFar (suc p)
  next_pass p less now = by (reading short lines file now.earlier (suc p) (plan_at p now.nodes) now.say)
    where
      made : (order : List NodeId)
          → HasRun (plan_at p now.nodes) (suc p) now.earlier (now.earlier ++ visits (suc p) order)
          → Say lines (now.earlier ++ visits (suc p) order) → (outcome : Outcome)
          → StepMeans mods c (pass_at p) now.nodes outcome → IfOk outcome (IsReadyForPass (length mods) (suc p))
          → Replayed ⊎ IsSoFar (suc p)
      made order run say (Ok new) means ready =
          inr (record {
            nodes = new;
            earlier = now.earlier ++ visits (suc p) order;
            mutated = (now.nodes, now.earlier, now.mutated, run, means);
            course = (Ok now.nodes, now.course, means);
            say = say;
            ready = ready;
          })
      made order run say (Err fault) means ready =
          inl (faulty fault (Faulty p (now.earlier ++ visits (suc p) order) (record {
            nodes = now.nodes;
            earlier = now.earlier;
            mutated = now.mutated;
            run = run;
            ends = inl (less, means);
          }) say))

      by : Reading short lines file now.earlier (suc p) (plan_at p now.nodes) → Replayed ⊎ IsSoFar (suc p)
      by (inl (order, legal, say)) =
          let next = step mods c p now.nodes differ now.ready in
          made order (record { order = order; legal = legal; made = refl }) say next.0 next.1 next.2
      by (inr (fault, refused)) =
          inl (faulty fault (Illegal p now.nodes now.earlier (omega (arith, less)) now.mutated refused))

  so_far : (p : ℕ) → p ≤ passes → Replayed ⊎ IsSoFar p
  so_far zero le =
      inr (record {
        nodes = first_nodes mods;
        earlier = [];
        mutated = (refl, refl);
        course = refl;
        say = tt;
        ready = first_ready mods few;
      })
  so_far (suc p) le = by (so_far p (omega (arith, le)))
    where
      by : Replayed ⊎ IsSoFar p → Replayed ⊎ IsSoFar (suc p)
      by (inl done) = inl done
      by (inr now) = next_pass p (omega (arith, le)) now

  -- The last pass and the text behind it.
  module _ (now : IsSoFar passes) where
    module _ (order : List NodeId)
        (acted : HasRun (plan_of BottomUp now.nodes) (suc passes) now.earlier
        (now.earlier ++ visits (suc passes) order))
        (say : Say lines (now.earlier ++ visits (suc passes) order)) where
      abbrev journal : List (ℕ × NodeId)
      journal = now.earlier ++ visits (suc passes) order

      legal : IsLegalJournal mods c journal
      legal = record { nodes = now.nodes; earlier = now.earlier; mutated = now.mutated; acted = acted }

      module _ (made : List Actions)
          (means : PassMeans (acts_at mods now.nodes) (plan_of BottomUp now.nodes) (Ok made)) where
        file_means : FileMeans mods c (Ok (file_of_actions made))
        file_means = (Ok made, (Ok now.nodes, now.course, means), refl)

        written_by : length lines ≡ length journal → (text : Result (List ℕ) Fault)
            → text_within_limit (file_of_actions made) ≡ text
            → Replayed
        written_by all (Ok text) is = (
          Ok text,
          ((journal, record { legal = legal; say = say; all = all }), (Ok (file_of_actions made), file_means, is)),
        )
        written_by all (Err fault) is =
            faulty fault
            (TooLarge journal (file_of_actions made) (record { legal = legal; say = say; all = all }) file_means is)

        behind_by : (behind : List OrderLine) → lines_behind lines journal ≡ behind → Replayed
        behind_by [] is =
            let most = none_behind (length journal) lines is in
            let least = say_few lines journal say in
            written_by (omega (arith, most, least)) (text_within_limit (file_of_actions made)) refl
        behind_by (l ∷ ls) is =
            faulty (stopped_at file (suc (length journal)) (l ∷ ls))
            (Behind journal made l ls legal (Ok now.nodes, now.course, means) say is refl)

      acted_by : (outcome : Result (List Actions) Fault)
          → PassMeans (acts_at mods now.nodes) (plan_of BottomUp now.nodes) outcome → Replayed
      acted_by (Ok made) means = behind_by made means (lines_behind lines journal) refl
      acted_by (Err fault) means =
          faulty fault (Faulty passes journal (record {
            nodes = now.nodes;
            earlier = now.earlier;
            mutated = now.mutated;
            run = acted;
            ends = inr (refl, means);
          }) say)

    last_pass : Replayed
    last_pass = by (reading short lines file now.earlier (suc passes) (plan_of BottomUp now.nodes) now.say)
      where
        by : Reading short lines file now.earlier (suc passes) (plan_of BottomUp now.nodes) → Replayed
        by (inl (order, legal, say)) =
            let usable = now.ready.0 in
            let acted =
            pass_some one (acts_at mods now.nodes) (plan_of BottomUp now.nodes)
            (plans now.nodes BottomUp usable.may.numbered) (acyclic now.nodes BottomUp usable.valid) in
            acted_by order (record { order = order; legal = legal; made = refl }) say acted.0 acted.1
        by (inr (fault, refused)) =
            faulty fault (Illegal passes now.nodes now.earlier (omega arith) now.mutated refused)

  pub some_replay : Replayed
  some_replay = by (so_far passes (omega arith))
    where
      by : Replayed ⊎ IsSoFar passes → Replayed
      by (inl done) = done
      by (inr now) = last_pass now
