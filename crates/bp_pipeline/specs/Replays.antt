-- What a replay along an order file comes to.
use Rattle.std.specs.Prelude.{◌≡◌, ◌≤◌, ℕ, suc, List, [], ◌∷◌, length, Result, Ok, Err}
use Rattle.bp_faults.specs.declared.fault.Fault.{Fault}
use Rattle.bp_faults.specs.declared.ids.NodeId.{NodeId}
use Rattle.bp_props.specs.declared.module.Module.{Module}
use Rattle.bp_props.specs.declared.props.Props.{Props}
use Rattle.build_actions.specs.declared.actions.Actions.{Actions}
use Rattle.graph_nodes.specs.declared.graph.Node.{Node}
use Rattle.mutator_rules.specs.declared.config.Config.{Config}
use Rattle.ninja_file.specs.declared.file.NinjaFile.{NinjaFile}
use Rattle.order_text.specs.Lines.{AreLines}
use Rattle.pass_ways.specs.declared.way.OrderLine.{OrderLine}
use Rattle.pass_ways.specs.OrderFiles.{IsRefused, Say, lines_behind, stopped_at}
use Rattle.bp_pipeline.specs.Endings.{IsFaulty}
use Rattle.bp_pipeline.specs.Generated.{ActionsMean, FileMeans, TextMeans, text_within_limit}
use Rattle.bp_pipeline.specs.Journals.{IsJournal, IsLegalJournal, plan_at}
use Rattle.bp_pipeline.specs.Mutators.{passes}

module _ (mods : List Module) (c : Config) (lines : List OrderLine) (file : ℕ) where
  -- All lines are a legal journal.
  pub record AreJournal (journal : List (ℕ × NodeId)) : Type 0 where
    pub legal : IsLegalJournal mods c journal
    pub say : Say lines journal
    pub all : length lines ≡ length journal

  -- Why a replay ends with a fault.
  pub data Cause (fault : Fault) : Type 0 where
    -- The lines so far are legal and end a pass, which makes the fault.
    Faulty : (p : ℕ) → (whole : List (ℕ × NodeId)) → IsFaulty mods c p whole fault → Say lines whole → Cause fault
    -- The lines so far are legal and the next one isn't, or there is none and the pass hasn't ended.
    Illegal : (p : ℕ) → (nodes : List (Node Props)) → (earlier : List (ℕ × NodeId)) → p ≤ passes
        → IsJournal mods c p nodes earlier → IsRefused lines file earlier (suc p) (plan_at p nodes) fault → Cause fault
    -- The lines so far are a legal journal, no pass makes a fault, and a line stands behind them.
    Behind : (journal : List (ℕ × NodeId)) → (made : List Actions) → (l : OrderLine) → (ls : List OrderLine)
        → IsLegalJournal mods c journal → ActionsMean mods c (Ok made) → Say lines journal
        → lines_behind lines journal ≡ l ∷ ls → fault ≡ stopped_at file (suc (length journal)) (l ∷ ls) → Cause fault
    -- All lines are a legal journal, and the text of the file is too large.
    TooLarge : (journal : List (ℕ × NodeId)) → (made : NinjaFile) → AreJournal journal → FileMeans mods c (Ok made)
        → text_within_limit made ≡ Err fault → Cause fault

  -- The text of the job where all lines are a legal journal, else the fault that comes first.
  abbrev pub ReplayMeans : Result (List ℕ) Fault → Type 0
  ReplayMeans (Ok text) = ((journal : List (ℕ × NodeId)) × AreJournal journal) × TextMeans mods c (Ok text)
  ReplayMeans (Err fault) = Cause fault

-- What the bytes of an order file come to.
abbrev pub OrderMeans : List Module → Config → List ℕ → ℕ → Result (List ℕ) Fault → Type 0
OrderMeans mods c order file outcome =
    (lines : List OrderLine) × AreLines order lines × ReplayMeans mods c lines file outcome

-- The lines end: there is none any more, else the first that is left has the fault. Lines are counted from a number on.
abbrev pub end_of : ℕ → ℕ → List OrderLine → Result Unit Fault
end_of file number [] = Ok tt
end_of file number (l ∷ ls) = Err (stopped_at file number (l ∷ ls))
