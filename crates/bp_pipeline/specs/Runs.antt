-- What a call answers that runs passes some way. No public contract speaks of it.
use Rattle.std.specs.Prelude.{◌≤◌, ◌<◌, ◌⊎◌, ℕ, suc, List, length, map, Result, Ok, Err, ⊤}
use Rattle.std.specs.Arc.{arc_value}
use Rattle.bp_faults.specs.declared.fault.Fault.{Fault}
use Rattle.bp_faults.specs.declared.ids.NodeId.{NodeId}
use Rattle.bp_faults.specs.declared.refusal.Refusal.{Refusal}
use Rattle.bp_faults.specs.declared.refusal.Refusal.TheVariants.{Bad, OutOfMemory}
use Rattle.bp_faults.specs.declared.limits.TheConstants.{MOST_MODULES}
use Rattle.bp_props.specs.declared.module.Module.{Module}
use Rattle.bp_props.specs.declared.props.Props.{Props}
use Rattle.build_actions.specs.declared.actions.Actions.{Actions}
use Rattle.build_actions.specs.Acts.{acts_at}
use Rattle.graph_nodes.specs.declared.graph.Graph.{Graph}
use Rattle.graph_nodes.specs.declared.graph.Node.{Node}
use Rattle.module_graph.specs.declared.direction.Direction.TheVariants.{BottomUp}
use Rattle.module_graph.specs.Planned.{plan_of}
use Rattle.mutator_rules.specs.declared.config.Config.{Config}
use Rattle.mutator_rules.specs.Configs.{TargetsDiffer}
use Rattle.serial_pass.specs.declared.plan.Plan.{Plan}
use Rattle.serial_pass.specs.Outcomes.{PassMeans}
use Rattle.pass_ways.specs.declared.way.Way.{Way}
use Rattle.pass_ways.specs.Ways.{Follows, IsPassWay, RefusesPass}
use Rattle.bp_pipeline.specs.declared.passes.Pass.{Pass}
use Rattle.bp_pipeline.specs.declared.ran.Ran.{Ran}
use Rattle.bp_pipeline.specs.declared.workshop.Workshop.{Workshop}
use Rattle.bp_pipeline.specs.Endings.{IsFaulty}
use Rattle.bp_pipeline.specs.Inside.{IsUsable}
use Rattle.bp_pipeline.specs.Journals.{HasRun, IsJournal, plan_at, plan_in}
use Rattle.bp_pipeline.specs.Mutators.{passes}
use Rattle.bp_pipeline.specs.Passes.{StepMeans}

module _ {G : Type 0} where
  -- Passes may be run with a workshop.
  pub record MayStart (shop : Workshop G) : Type 0 where
    pub few : length shop.mods.now ≤ MOST_MODULES
    pub targets : TargetsDiffer shop.config.now
    pub way : IsPassWay shop.way

  -- A pass may be run over a graph, behind some visits.
  pub record MayStep {P : Type 0} (shop : Workshop G) (journal : List (ℕ × NodeId)) (nodes : List (Node P))
      : Type 0 where
    pub start : MayStart shop
    pub follows : Follows shop.way journal
    pub usable : IsUsable (length shop.mods.now) nodes

module _ {G : Type 0} (way : Way G) where
  -- Behind the visits before it a pass visited all nodes of its plan, as the way does.
  abbrev pub HasRunBy : Plan → ℕ → List (ℕ × NodeId) → List (ℕ × NodeId) → Type 0
  HasRunBy plan pass before after = HasRun plan pass before after × Follows way after

  -- A call runs a pass and tells what is meant, with the visits of the pass behind those before it. A fault is what is
  -- meant where the nodes were visited, or it is the way's own.
  abbrev pub TellsPass : {T V : Type 0} → (T → V) → (Result V Fault → Type 0) → Plan → ℕ
      → List (ℕ × NodeId) → List (ℕ × NodeId) → Result T Refusal → Type 0
  TellsPass view Means plan pass before after (Ok value) = HasRunBy plan pass before after × Means (Ok (view value))
  TellsPass view Means plan pass before after (Err (Bad fault)) =
      ((whole : List (ℕ × NodeId)) × HasRunBy plan pass before whole × Means (Err fault))
      ⊎ RefusesPass way before pass plan fault
  TellsPass view Means plan pass before after (Err OutOfMemory) = ⊤

-- The same of the pass of a mutator.
abbrev pub TellsStep : {G : Type 0} → Workshop G → Pass → ℕ → List (Node Props)
    → List (ℕ × NodeId) → List (ℕ × NodeId) → Result (Graph Props) Refusal → Type 0
TellsStep shop pass number nodes =
    TellsPass shop.way (λ (g : Graph Props). g.nodes) (StepMeans shop.mods.now shop.config.now pass nodes)
    (plan_in pass nodes) number

module _ {G : Type 0} (mods : List Module) (c : Config) (way : Way G) where
  -- The first passes end: one of them ends with a fault, or the way refuses it with one.
  pub data CourseEnds (count : ℕ) (fault : Fault) : Type 0 where
    Faulty : (p : ℕ) → (whole : List (ℕ × NodeId)) → p < count → IsFaulty mods c p whole fault → Follows way whole
        → CourseEnds count fault
    Refused : (p : ℕ) → (nodes : List (Node Props)) → (earlier : List (ℕ × NodeId)) → p < count
        → IsJournal mods c p nodes earlier → RefusesPass way earlier (suc p) (plan_at p nodes) fault
        → CourseEnds count fault

  -- A call runs the first passes and answers their graph, with their journal, or the fault with which they end.
  abbrev pub AnswersCourse : ℕ → List (ℕ × NodeId) → Result (Graph Props) Refusal → Type 0
  AnswersCourse count journal (Ok g) = IsJournal mods c count g.nodes journal × Follows way journal
  AnswersCourse count journal (Err (Bad fault)) = CourseEnds count fault
  AnswersCourse count journal (Err OutOfMemory) = ⊤

  -- All passes were run: these are their visits, and what is made at the nodes of the last graph.
  pub record AreRun (journal : List (ℕ × NodeId)) (made : List Actions) : Type 0 where
    pub nodes : List (Node Props)
    pub earlier : List (ℕ × NodeId)
    pub mutated : IsJournal mods c passes nodes earlier
    pub acted : HasRun (plan_of BottomUp nodes) (suc passes) earlier journal
    pub means : PassMeans (acts_at mods nodes) (plan_of BottomUp nodes) (Ok made)
    pub follows : Follows way journal

  -- A call runs all passes and answers what is made, with their journal, or the fault with which they end.
  abbrev pub AnswersAll : Result Ran Refusal → Type 0
  AnswersAll (Ok ran) = AreRun ran.journal.items (map arc_value ran.made.items)
  AnswersAll (Err (Bad fault)) = CourseEnds (suc passes) fault
  AnswersAll (Err OutOfMemory) = ⊤
