-- The journal of the passes: which nodes were visited, pass by pass.
use Rattle.std.specs.Prelude.{◌≡◌, ◌++◌, ℕ, zero, suc, List, [], Ok}
use Rattle.bp_faults.specs.declared.ids.NodeId.{NodeId}
use Rattle.bp_props.specs.declared.module.Module.{Module}
use Rattle.bp_props.specs.declared.props.Props.{Props}
use Rattle.graph_nodes.specs.declared.graph.Node.{Node}
use Rattle.module_graph.specs.declared.direction.Direction.{Direction}
use Rattle.module_graph.specs.declared.direction.Direction.TheVariants.{BottomUp, TopDown}
use Rattle.module_graph.specs.Planned.{plan_of}
use Rattle.mutator_rules.specs.declared.config.Config.{Config}
use Rattle.serial_pass.specs.declared.plan.Plan.{Plan}
use Rattle.serial_pass.specs.Orders.{IsLegal, numbers}
use Rattle.pass_ways.specs.Visits.{visits}
use Rattle.bp_pipeline.specs.declared.passes.Pass.{Pass}
use Rattle.bp_pipeline.specs.declared.passes.Pass.TheVariants.{AskDefaults, MergeDefaults, SplitTargets, SplitImages}
use Rattle.bp_pipeline.specs.declared.passes.Pass.TheVariants.{SplitLinks, AskDependencies, AskPlugins, SplitSources}
use Rattle.bp_pipeline.specs.declared.passes.Pass.TheVariants.{SplitSanitized, MarkSanitized, HandLevels, GatherInfo}
use Rattle.bp_pipeline.specs.First.{first_nodes}
use Rattle.bp_pipeline.specs.Mutators.{passes}
use Rattle.bp_pipeline.specs.Passes.{StepMeans, pass_at}

-- Two passes go from the top down, and the others from the bottom up.
abbrev pub direction_of : Pass → Direction
direction_of AskDefaults = BottomUp
direction_of MergeDefaults = BottomUp
direction_of SplitTargets = BottomUp
direction_of SplitImages = BottomUp
direction_of SplitLinks = BottomUp
direction_of AskDependencies = BottomUp
direction_of AskPlugins = BottomUp
direction_of SplitSources = BottomUp
direction_of SplitSanitized = TopDown
direction_of MarkSanitized = BottomUp
direction_of HandLevels = TopDown
direction_of GatherInfo = BottomUp

-- The plan of a pass over the graph that it begins with.
abbrev pub plan_in : Pass → List (Node Props) → Plan
plan_in pass nodes = plan_of (direction_of pass) nodes

-- The same by the number of the pass, counted from 0. Behind the passes of the mutators the actions are the last pass,
-- which goes from the bottom up like the pass before it.
abbrev pub plan_at : ℕ → List (Node Props) → Plan
plan_at p nodes = plan_in (pass_at p) nodes

-- Behind the visits before it, a pass visited all nodes of its plan in some legal order.
pub record HasRun (plan : Plan) (pass : ℕ) (before after : List (ℕ × NodeId)) : Type 0 where
  pub order : List NodeId
  pub legal : IsLegal plan (numbers order)
  pub made : after ≡ before ++ visits pass order

module _ (mods : List Module) (c : Config) where
  -- The first passes come to a graph, and these are their visits: of each pass in turn its nodes, in a legal order of
  -- its plan. Visits count passes from 1.
  abbrev pub IsJournal : ℕ → List (Node Props) → List (ℕ × NodeId) → Type 0
  IsJournal zero nodes journal = (nodes ≡ first_nodes mods) × (journal ≡ [])
  IsJournal (suc p) nodes journal =
      (before : List (Node Props)) × (earlier : List (ℕ × NodeId)) × IsJournal p before earlier
      × HasRun (plan_at p before) (suc p) earlier journal × StepMeans mods c (pass_at p) before (Ok nodes)

  -- The visits of all thirteen passes: the last is that of the actions, over the graph after all mutators.
  pub record IsLegalJournal (journal : List (ℕ × NodeId)) : Type 0 where
    pub nodes : List (Node Props)
    pub earlier : List (ℕ × NodeId)
    pub mutated : IsJournal passes nodes earlier
    pub acted : HasRun (plan_of BottomUp nodes) (suc passes) earlier journal
