-- What holds of all modules and configurations.
use Rattle.std.specs.Prelude.{◌≡◌, ◌≤◌, ℕ, List, Result, Ok, Err, All, length}
use Rattle.bp_faults.specs.declared.fault.Fault.{Fault}
use Rattle.bp_faults.specs.declared.ids.NodeId.{NodeId}
use Rattle.bp_faults.specs.declared.limits.TheConstants.{MOST_MODULES}
use Rattle.bp_faults.specs.Phases.{HasOutcome, IsOnce}
use Rattle.bp_props.specs.declared.module.Module.{Module}
use Rattle.bp_props.specs.declared.props.Props.{Props}
use Rattle.graph_nodes.specs.declared.graph.Node.{Node}
use Rattle.module_graph.specs.Graphs.{IsValid}
use Rattle.mutator_rules.specs.declared.config.Config.{Config}
use Rattle.order_text.specs.Lines.{IsVisit}
use Rattle.order_text.specs.Texts.{journal_text}
use Rattle.mutator_rules.specs.Conditions.{MayRun, indices_in}
use Rattle.mutator_rules.specs.Configs.{TargetsDiffer}
use Rattle.pass_ways.specs.declared.way.OrderLine.{OrderLine}
use Rattle.pass_ways.specs.OrderFiles.{Say}
use Rattle.bp_pipeline.specs.Course.{CourseMeans, GraphAfter}
use Rattle.bp_pipeline.specs.Endings.{IsFaulty}
use Rattle.bp_pipeline.specs.Generated.{TextMeans}
use Rattle.bp_pipeline.specs.Journals.{IsLegalJournal}
use Rattle.bp_pipeline.specs.Mutators.{mutator_count}
use Rattle.bp_pipeline.specs.Replays.{AreJournal, OrderMeans, ReplayMeans}

-- The first passes come to one graph or one fault.
abbrev pub OneCourse : Type 0
OneCourse = (mods : List Module) (c : Config) (p : ℕ) → IsOnce (CourseMeans mods c p)

-- The first mutators come to one graph or one fault.
abbrev pub OneGraph : Type 0
OneGraph = (mods : List Module) (c : Config) (k : ℕ) → IsOnce (GraphAfter mods c k)

-- Modules have one text or one fault.
abbrev pub OneText : Type 0
OneText = (mods : List Module) (c : Config) → IsOnce (TextMeans mods c)

-- The lines of an order file are replayed to one text or one fault: no two causes of a fault meet.
abbrev pub OneReplay : Type 0
OneReplay =
    (mods : List Module) (c : Config) (lines : List OrderLine) (file : ℕ) → IsOnce (ReplayMeans mods c lines file)

-- Lines that are a legal journal are replayed to the text of the job, and to nothing else.
abbrev pub JournalsAreReplayed : Type 0
JournalsAreReplayed =
    (mods : List Module) (c : Config) (lines : List OrderLine) (file : ℕ) (journal : List (ℕ × NodeId))
    (text : List ℕ) (outcome : Result (List ℕ) Fault) → AreJournal mods c lines file journal
    → TextMeans mods c (Ok text) → ReplayMeans mods c lines file outcome → outcome ≡ Ok text

-- Lines that are legal up to the end of a pass that makes a fault are replayed to that fault, and to nothing else.
abbrev pub FaultsAreReplayed : Type 0
FaultsAreReplayed =
    (mods : List Module) (c : Config) (lines : List OrderLine) (file p : ℕ) (whole : List (ℕ × NodeId))
    (fault : Fault) (outcome : Result (List ℕ) Fault) → IsFaulty mods c p whole fault → Say lines whole
    → ReplayMeans mods c lines file outcome → outcome ≡ Err fault

-- An order file is replayed to one text or one fault.
abbrev pub OneOrder : Type 0
OneOrder = (mods : List Module) (c : Config) (order : List ℕ) (file : ℕ) → IsOnce (OrderMeans mods c order file)

-- The text of a legal journal, as an order file, is replayed to the text of the job, and to nothing else.
abbrev pub JournalTextsAreReplayed : Type 0
JournalTextsAreReplayed =
    (mods : List Module) (c : Config) (journal : List (ℕ × NodeId)) (text : List ℕ) (file : ℕ)
    (outcome : Result (List ℕ) Fault) → IsLegalJournal mods c journal → All IsVisit journal
    → TextMeans mods c (Ok text) → OrderMeans mods c (journal_text journal) file outcome → outcome ≡ Ok text

-- The first mutators come to a graph or a fault, whatever the modules are.
abbrev pub SomeGraph : Type 0
SomeGraph =
    (mods : List Module) (c : Config) (k : ℕ) → length mods ≤ MOST_MODULES → TargetsDiffer c → k ≤ mutator_count
    → HasOutcome (GraphAfter mods c k)

-- A graph that they come to is valid, a `u32` numbers its nodes and edges, and its nodes are variants of the modules.
abbrev pub GraphsAreValid : Type 0
GraphsAreValid =
    (mods : List Module) (c : Config) (k : ℕ) (nodes : List (Node Props)) → length mods ≤ MOST_MODULES → TargetsDiffer c
    → k ≤ mutator_count → GraphAfter mods c k (Ok nodes) → IsValid nodes × MayRun (indices_in (length mods)) nodes

-- Where the first mutators come to a graph, fewer of them do.
abbrev pub EarlierGraphs : Type 0
EarlierGraphs =
    (mods : List Module) (c : Config) (j k : ℕ) (nodes : List (Node Props)) → j ≤ k → GraphAfter mods c k (Ok nodes)
    → (earlier : List (Node Props)) × GraphAfter mods c j (Ok earlier)

-- All mutators and actions come to a text for Ninja or a fault, whatever the modules are.
abbrev pub SomeText : Type 0
SomeText =
    (mods : List Module) (c : Config) → length mods ≤ MOST_MODULES → TargetsDiffer c → HasOutcome (TextMeans mods c)

-- The lines of an order file are replayed to a text or a fault, whatever they are.
abbrev pub SomeReplay : Type 0
SomeReplay =
    (mods : List Module) (c : Config) (lines : List OrderLine) (file : ℕ) → length mods ≤ MOST_MODULES → TargetsDiffer c
    → HasOutcome (ReplayMeans mods c lines file)

-- So is an order file, whatever its bytes are.
abbrev pub SomeOrder : Type 0
SomeOrder =
    (mods : List Module) (c : Config) (order : List ℕ) (file : ℕ) → length mods ≤ MOST_MODULES → TargetsDiffer c
    → HasOutcome (OrderMeans mods c order file)
