-- One pass after another.
use Rattle.std.proofs.Common.{◌≡◌, ◌<◌, ◌≤◌, ◌+◌, ◌-◌, ℕ, zero, suc, List, Result, Ok, Err, refl, sym, ap}
use Rattle.std.proofs.Common.{subst, arith, ⊎_elim, inl}
use Rattle.std.specs.Result.{IsErrAnd}
use Rattle.bp_faults.specs.declared.fault.Fault.{Fault}
use Rattle.bp_faults.specs.declared.ids.NodeId.{NodeId}
use Rattle.bp_faults.specs.declared.refusal.Refusal.{Refusal}
use Rattle.bp_faults.specs.declared.refusal.Refusal.TheVariants.{Bad, OutOfMemory}
use Rattle.bp_faults.specs.Answers.{Tells}
use Rattle.bp_props.specs.declared.module.Module.{Module}
use Rattle.bp_props.specs.declared.props.Props.{Props}
use Rattle.graph_nodes.specs.declared.graph.Graph.{Graph}
use Rattle.graph_nodes.specs.declared.graph.Node.{Node}
use Rattle.mutator_rules.specs.declared.config.Config.{Config}
use Rattle.serial_pass.specs.declared.plan.Plan.{Plan}
use Rattle.pass_ways.specs.declared.way.Way.{Way}
use Rattle.pass_ways.specs.Ways.{Follows, RefusesPass}
use Rattle.bp_pipeline.specs.declared.workshop.Workshop.{Workshop}
use Rattle.bp_pipeline.specs.Course.{CourseMeans}
use Rattle.bp_pipeline.specs.Endings.{IsFaulty}
use Rattle.bp_pipeline.specs.Journals.{HasRun, IsJournal, plan_at}
use Rattle.bp_pipeline.specs.Mutators.{passes}
use Rattle.bp_pipeline.specs.Passes.{pass_at}
use Rattle.bp_pipeline.specs.Runs.{AnswersCourse, CourseEnds, TellsStep}
use Rattle.bp_pipeline.specs.Runs.CourseEnds.{Faulty, Refused}

module _ {G : Type 0} (mods : List Module) (c : Config) (way : Way G) where
  -- passes that end end more passes
  pub ends_later : (some more : ℕ) (fault : Fault) → some ≤ more → CourseEnds mods c way some fault
      → CourseEnds mods c way more fault
  ends_later some more fault few (Faulty p whole before faulty follows) =
      Faulty p whole (omega (arith, before, few)) faulty follows
  ends_later some more fault few (Refused p nodes earlier before mutated refuses) =
      Refused p nodes earlier (omega (arith, before, few)) mutated refuses

  course_later : (some more : ℕ) → some ≤ more → (e : Refusal) (journal last : List (ℕ × NodeId))
      → AnswersCourse mods c way some journal (Err e) → AnswersCourse mods c way more last (Err e)
  course_later some more few (Bad fault) journal last ends = ends_later some more fault few ends
  course_later some more few OutOfMemory journal last ends = tt

  pub course_refused : (some more : ℕ) → some ≤ more → (e : Refusal) (r : Result (Graph Props) Refusal)
      → IsErrAnd r (λ x. x ≡ e) → (journal last : List (ℕ × NodeId))
      → AnswersCourse mods c way some journal (Err e) → AnswersCourse mods c way more last r
  course_refused some more few e (Ok g) same journal last ends = absurd same
  course_refused some more few e (Err x) same journal last ends =
      subst (λ (y : Refusal). AnswersCourse mods c way more last (Err y)) (sym same)
      (course_later some more few e journal last ends)

module _ {G : Type 0} (shop : Workshop G) (p : ℕ) (nodes : List (Node Props)) (before after : List (ℕ × NodeId))
    (mutated : IsJournal shop.mods.now shop.config.now p nodes before) where
  step_ends : p < passes → (e : Refusal) → TellsStep shop (pass_at p) (p + 1) nodes before after (Err e)
      → (last : List (ℕ × NodeId)) → AnswersCourse shop.mods.now shop.config.now shop.way (suc p) last (Err e)
  step_ends inside (Bad fault) told last =
      let next : p + 1 ≡ suc p = omega arith in
      let here : p < suc p = omega arith in
      ⊎_elim
      (λ run. Faulty p run.0 here
      (record {
        nodes = nodes;
        earlier = before;
        mutated = mutated;
        run = subst (λ k. HasRun (plan_at p nodes) k before run.0) next run.1.0;
        ends = inl (inside, run.2);
      })
      run.1.1)
      (λ refuses. Refused p nodes before here mutated
      (subst (λ k. RefusesPass shop.way before k (plan_at p nodes) fault) next refuses))
      told
  step_ends inside OutOfMemory told last = tt

  -- a pass that is refused ends the course
  pub step_refused : (count : ℕ) → p < count → count ≤ passes → (e : Refusal) (r : Result (Graph Props) Refusal)
      → IsErrAnd r (λ x. x ≡ e) → TellsStep shop (pass_at p) (p + 1) nodes before after (Err e)
      → (last : List (ℕ × NodeId)) → AnswersCourse shop.mods.now shop.config.now shop.way count last r
  step_refused count below few e r same told last =
      course_refused shop.mods.now shop.config.now shop.way (suc p) count (omega (arith, below)) e r same last last
      (step_ends (omega (arith, below, few)) e told last)

  -- a pass that makes a graph takes the course one pass on
  pub step_more : (g : Graph Props) → TellsStep shop (pass_at p) (p + 1) nodes before after (Ok g)
      → IsJournal shop.mods.now shop.config.now (p + 1) g.nodes after × Follows shop.way after
  step_more g told =
      let next : p + 1 ≡ suc p = omega arith in
      let run = subst (λ k. HasRun (plan_at p nodes) k before after) next told.0.0 in (
        subst (λ k. IsJournal shop.mods.now shop.config.now k g.nodes after) (sym next)
            (nodes, before, mutated, run, told.1),
        told.0.1,
      )

module _ (mods : List Module) (c : Config) where
  -- what the passes of a journal come to
  pub journal_means : (p : ℕ) (nodes : List (Node Props)) (journal : List (ℕ × NodeId))
      → IsJournal mods c p nodes journal → CourseMeans mods c p (Ok nodes)
  journal_means zero nodes journal made = ap Ok (sym made.0)
  journal_means (suc p) nodes journal made = (Ok made.0, journal_means p made.0 made.1 made.2, made.4)

  -- a fault stays to the end
  fault_stays : (p more : ℕ) (fault : Fault) → CourseMeans mods c p (Err fault)
      → CourseMeans mods c (more + p) (Err fault)
  fault_stays p zero fault h =
      let same : p ≡ 0 + p = omega arith in subst (λ k. CourseMeans mods c k (Err fault)) same h
  fault_stays p (suc more) fault h =
      let same : suc (more + p) ≡ suc more + p = omega arith in
      subst (λ k. CourseMeans mods c k (Err fault)) same (Err fault, fault_stays p more fault h, refl)

  pub fault_at_last : (p count : ℕ) (fault : Fault) → p < count → CourseMeans mods c (suc p) (Err fault)
      → CourseMeans mods c count (Err fault)
  fault_at_last p count fault before h =
      let whole : (count - suc p) + suc p ≡ count = omega (arith, before) in
      subst (λ k. CourseMeans mods c k (Err fault)) whole (fault_stays (suc p) (count - suc p) fault h)

  -- a pass of a mutator that ends with a fault ends the course
  pub faulty_means : (p count : ℕ) (whole : List (ℕ × NodeId)) (fault : Fault) → p < count → count ≤ passes
      → IsFaulty mods c p whole fault → CourseMeans mods c count (Err fault)
  faulty_means p count whole fault before few faulty =
      ⊎_elim
      (λ step. fault_at_last p count fault before
      (Ok faulty.nodes, journal_means p faulty.nodes faulty.earlier faulty.mutated, step.1))
      (λ acts. let last = acts.0 in absurd (omega (arith, last, before, few)))
      faulty.ends

  module _ {G : Type 0} (way : Way G)
      (never : (earlier : List (ℕ × NodeId)) (pass : ℕ) (plan : Plan) (fault : Fault)
      → RefusesPass way earlier pass plan fault → ⊥) where
    ends_mean : (count : ℕ) (fault : Fault) → count ≤ passes → CourseEnds mods c way count fault
        → CourseMeans mods c count (Err fault)
    ends_mean count fault few (Faulty p whole before faulty follows) =
        faulty_means p count whole fault before few faulty
    ends_mean count fault few (Refused p nodes earlier before mutated refuses) =
        absurd (never earlier (suc p) (plan_at p nodes) fault refuses)

    -- a way that refuses no pass tells the course
    pub course_tells : (count : ℕ) → count ≤ passes → (journal : List (ℕ × NodeId)) (r : Result (Graph Props) Refusal)
        → AnswersCourse mods c way count journal r → Tells {T = Graph Props} (λ g. g.nodes) (CourseMeans mods c count) r
    course_tells count few journal (Ok g) course = journal_means count g.nodes journal course.0
    course_tells count few journal (Err (Bad fault)) ends = ends_mean count fault few ends
    course_tells count few journal (Err OutOfMemory) ends = tt
