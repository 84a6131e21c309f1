-- All passes, and what is generated of them.
use Rattle.std.proofs.Common.{◌≡◌, ℕ, suc, List, Result, Ok, Err, refl, ap, sym, subst, arith, ⊎_elim}
use Rattle.std.proofs.Common.{inr}
use Rattle.std.specs.Result.{IsErrAnd}
use Rattle.bp_faults.specs.declared.fault.Fault.{Fault}
use Rattle.bp_faults.specs.declared.ids.NodeId.{NodeId}
use Rattle.bp_faults.specs.declared.refusal.Refusal.{Refusal}
use Rattle.bp_faults.specs.declared.refusal.Refusal.TheVariants.{Bad, OutOfMemory}
use Rattle.bp_faults.specs.Answers.{Tells}
use Rattle.bp_props.specs.declared.module.Module.{Module}
use Rattle.bp_props.specs.declared.props.Props.{Props}
use Rattle.build_actions.specs.declared.actions.Actions.{Actions}
use Rattle.build_actions.specs.Acts.{acts_at}
use Rattle.build_actions.specs.File.{file_of_actions}
use Rattle.graph_nodes.specs.declared.graph.Node.{Node}
use Rattle.module_graph.specs.declared.direction.Direction.TheVariants.{BottomUp}
use Rattle.module_graph.specs.Planned.{plan_of}
use Rattle.mutator_rules.specs.declared.config.Config.{Config}
use Rattle.ninja_file.specs.declared.file.NinjaFile.{NinjaFile}
use Rattle.serial_pass.specs.declared.plan.Plan.{Plan}
use Rattle.serial_pass.specs.Outcomes.{PassMeans}
use Rattle.pass_ways.specs.declared.way.Way.{Way}
use Rattle.pass_ways.specs.Ways.{RefusesPass}
use Rattle.bp_pipeline.specs.declared.ran.Ran.{Ran}
use Rattle.bp_pipeline.specs.Course.{CourseMeans}
use Rattle.bp_pipeline.specs.Endings.{IsFaulty}
use Rattle.bp_pipeline.specs.Generated.{ActionsMean, FileMeans, TextMeans, text_within_limit}
use Rattle.bp_pipeline.specs.Journals.{IsJournal, IsLegalJournal, plan_at}
use Rattle.bp_pipeline.specs.Mutators.{passes}
use Rattle.bp_pipeline.specs.Runs.{AnswersAll, AnswersCourse, AreRun, CourseEnds, TellsPass}
use Rattle.bp_pipeline.specs.Runs.CourseEnds.{Faulty, Refused}
use Rattle.bp_pipeline.proofs.Stepping.{ends_later, fault_at_last, journal_means}

module _ {G : Type 0} (mods : List Module) (c : Config) (way : Way G) where
  err_is : (e : Refusal) (r : Result Ran Refusal) → IsErrAnd r (λ x. x ≡ e) → AnswersAll mods c way (Err e)
      → AnswersAll mods c way r
  err_is e (Ok ran) same h = absurd same
  err_is e (Err x) same h = subst (λ (y : Refusal). AnswersAll mods c way (Err y)) (sym same) h

  mutators_end : (journal : List (ℕ × NodeId)) (e : Refusal) → AnswersCourse mods c way passes journal (Err e)
      → AnswersAll mods c way (Err e)
  mutators_end journal (Bad fault) ends = ends_later mods c way passes (suc passes) fault (omega arith) ends
  mutators_end journal OutOfMemory ends = tt

  -- the mutators end, and all passes with them
  pub mutators_refused : (journal : List (ℕ × NodeId)) (e : Refusal) (r : Result Ran Refusal)
      → IsErrAnd r (λ x. x ≡ e) → AnswersCourse mods c way passes journal (Err e) → AnswersAll mods c way r
  mutators_refused journal e r same ends = err_is e r same (mutators_end journal e ends)

  module _ {T : Type 0} (view : T → List Actions) (nodes : List (Node Props)) (earlier after : List (ℕ × NodeId))
      (mutated : IsJournal mods c passes nodes earlier) where
    abbrev Acted : Result T Refusal → Type 0
    Acted =
        TellsPass way view (PassMeans (acts_at mods nodes) (plan_of BottomUp nodes)) (plan_of BottomUp nodes)
        (suc passes) earlier after

    actions_end : (e : Refusal) → Acted (Err e) → AnswersAll mods c way (Err e)
    actions_end (Bad fault) told =
        ⊎_elim
        (λ run. Faulty passes run.0 (omega arith)
        (record { nodes = nodes; earlier = earlier; mutated = mutated; run = run.1.0; ends = inr (refl, run.2) })
        run.1.1)
        (λ refuses. Refused passes nodes earlier (omega arith) mutated refuses)
        told
    actions_end OutOfMemory told = tt

    -- the actions end, and all passes with them
    pub actions_refused : (e : Refusal) (r : Result Ran Refusal) → IsErrAnd r (λ x. x ≡ e) → Acted (Err e)
        → AnswersAll mods c way r
    actions_refused e r same told = err_is e r same (actions_end e told)

    -- the actions are made, and all passes are run
    pub all_run : (made : T) → Acted (Ok made) → AreRun mods c way after (view made)
    all_run made told = record {
      nodes = nodes;
      earlier = earlier;
      mutated = mutated;
      acted = told.0.0;
      means = told.1;
      follows = told.0.1;
    }

  module _ (journal : List (ℕ × NodeId)) (made : List Actions) (run : AreRun mods c way journal made) where
    -- what is done at the nodes is what the job says
    pub made_means : ActionsMean mods c (Ok made)
    made_means = (Ok run.nodes, journal_means mods c passes run.nodes run.earlier run.mutated, run.means)

    -- the visits are a legal journal
    pub legal_journal : IsLegalJournal mods c journal
    legal_journal = record { nodes = run.nodes; earlier = run.earlier; mutated = run.mutated; acted = run.acted }

    pub file_means : (file : NinjaFile) → file ≡ file_of_actions made → FileMeans mods c (Ok file)
    file_means file is = (Ok made, made_means, ap Ok (sym is))

    -- and the text of the file is the job's
    pub text_means : (file : NinjaFile) → file ≡ file_of_actions made → (outcome : Result (List ℕ) Fault)
        → text_within_limit file ≡ outcome → TextMeans mods c outcome
    text_means file is outcome is_written = (Ok file, file_means file is, is_written)

-- a pass that ends with a fault ends the job
pub faulty_acts : (mods : List Module) (c : Config) (p : ℕ) (whole : List (ℕ × NodeId)) (fault : Fault)
    → IsFaulty mods c p whole fault → ActionsMean mods c (Err fault)
faulty_acts mods c p whole fault faulty =
    let course = journal_means mods c p faulty.nodes faulty.earlier faulty.mutated in
    ⊎_elim
    (λ step. (Err fault, fault_at_last mods c p passes fault step.0 (Ok faulty.nodes, course, step.1), refl))
    (λ acts. (Ok faulty.nodes, subst (λ k. CourseMeans mods c k (Ok faulty.nodes)) acts.0 course, acts.1))
    faulty.ends

pub text_faulty : (mods : List Module) (c : Config) (fault : Fault) → ActionsMean mods c (Err fault)
    → TextMeans mods c (Err fault)
text_faulty mods c fault acts = (Err fault, (Err fault, acts, refl), refl)

-- where the way refuses no pass, the passes end with the job's fault
module _ {G : Type 0} (mods : List Module) (c : Config) (way : Way G)
    (never : (earlier : List (ℕ × NodeId)) (pass : ℕ) (plan : Plan) (fault : Fault)
    → RefusesPass way earlier pass plan fault → ⊥) where
  ends_text : (count : ℕ) (fault : Fault) → CourseEnds mods c way count fault → TextMeans mods c (Err fault)
  ends_text count fault (Faulty p whole before faulty follows) =
      text_faulty mods c fault (faulty_acts mods c p whole fault faulty)
  ends_text count fault (Refused p nodes earlier before mutated refuses) =
      absurd (never earlier (suc p) (plan_at p nodes) fault refuses)

  all_end : {T : Type 0} (view : T → List ℕ) (e : Refusal) → AnswersAll mods c way (Err e)
      → Tells view (TextMeans mods c) (Err e)
  all_end view (Bad fault) ends = ends_text (suc passes) fault ends
  all_end view OutOfMemory ends = tt

  pub all_refused : {T : Type 0} (view : T → List ℕ) (e : Refusal) (r : Result T Refusal) → IsErrAnd r (λ x. x ≡ e)
      → AnswersAll mods c way (Err e) → Tells view (TextMeans mods c) r
  all_refused view e (Ok made) same ends = absurd same
  all_refused view e (Err x) same ends =
      subst (λ (y : Refusal). Tells view (TextMeans mods c) (Err y)) (sym same) (all_end view e ends)
