-- Jobs: what modules and files are made into, a text or the first fault.
use Rattle.std.specs.Prelude.{◌≡◌, ℕ, ◌+◌, List, length, Result, Ok}
use Rattle.std.specs.FinMap.{get}
use Rattle.bp_faults.specs.declared.fault.Fault.{Fault}
use Rattle.bp_faults.specs.declared.ids.NodeId.{NodeId}
use Rattle.bp_faults.specs.declared.limits.TheConstants.{LARGEST_FILE}
use Rattle.bp_faults.specs.declared.target.Target.{Target}
use Rattle.bp_faults.specs.Phases.{GoesOn, Then}
use Rattle.bp_format.specs.Editing.{Wanted}
use Rattle.bp_ports.specs.Files.{Files}
use Rattle.bp_props.specs.declared.module.Module.{Module}
use Rattle.bp_props.specs.declared.props.Props.{Props}
use Rattle.graph_nodes.specs.declared.graph.Node.{Node}
use Rattle.mutator_rules.specs.declared.config.Config.{Config}
use Rattle.bp_load.specs.Loaded.{LoadMeans}
use Rattle.bp_load.specs.Texts.{AsText}
use Rattle.bp_load.specs.Trees.{Source}
use Rattle.bp_pipeline.specs.Course.{GraphAfter}
use Rattle.bp_pipeline.specs.Generated.{TextMeans, IsStatementCount, sizes_of}
use Rattle.bp_pipeline.specs.Journals.{IsLegalJournal}
use Rattle.bp_pipeline.specs.Mutators.{mutator_count}
use Rattle.bp_pipeline.specs.Replays.{OrderMeans}
use Rattle.bp_pipeline.specs.Shown.{shown_graph}
use Rattle.command_words.specs.declared.configuration.Build.{Build as BuildWords}
use Rattle.command_words.specs.declared.configuration.Edit.{Edit as EditWords}
use Rattle.command_words.specs.declared.configuration.Graph.{Graph as GraphWords}
use Rattle.command_words.specs.declared.configuration.Replay.{Replay as ReplayWords}
use Rattle.command_words.specs.declared.configuration.Synth.{Synth as SynthWords}
use Rattle.command_words.specs.Words.{default_targets}
use Rattle.order_text.specs.Texts.{journal_text}
use Rattle.synthetic_tree.specs.declared.summary.Summary.{Summary}
use Rattle.synthetic_tree.specs.Summary.{summary_text}
use Rattle.bp_run.specs.Tree.{ListFileMeans, ListLoads, read_of, sources_and_order}

-- Modules are built for these targets.
abbrev pub config_of : List Target → Config
config_of targets = record { targets = targets }

-- What `build` gives of modules: the text of the file for Ninja, for its targets.
abbrev pub BuildGives : BuildWords → List Module → Result (List ℕ) Fault → Type 0
BuildGives words typed = TextMeans typed (config_of words.targets)

-- What `graph` gives of modules: the text of the graph after the first mutators, for its targets.
abbrev pub GraphGives : GraphWords → List Module → Result (List ℕ) Fault → Type 0
GraphGives words typed outcome =
    Then (GraphAfter typed (config_of words.targets) words.after)
    (λ (nodes : List (Node Props)) outcome. Ok (shown_graph typed nodes) ≡ outcome) outcome

-- A synthetic tree is built for the targets where words give none.
abbrev pub synth_config : Config
synth_config = config_of default_targets

-- The graph after the first k mutators has so many nodes.
abbrev pub HasNodeCount : List Module → ℕ → ℕ → Type 0
HasNodeCount typed k count =
    (nodes : List (Node Props)) × GraphAfter typed synth_config k (Ok nodes) × (count ≡ (sizes_of nodes).nodes)

-- It has so many edges.
abbrev pub HasEdgeCount : List Module → ℕ → ℕ → Type 0
HasEdgeCount typed k count =
    (nodes : List (Node Props)) × GraphAfter typed synth_config k (Ok nodes) × (count ≡ (sizes_of nodes).edges)

-- What the job over a synthetic tree comes to, in numbers. `link` is the fifth mutator, and `plugins` the seventh.
pub record IsSummary (words : SynthWords) (typed : List Module) (text : List ℕ) (summary : Summary) : Type 0 where
  pub modules : summary.modules ≡ words.modules
  pub linked : HasNodeCount typed 5 summary.linked
  pub edges : HasEdgeCount typed 7 summary.edges
  pub nodes : HasNodeCount typed mutator_count summary.nodes
  pub statements : IsStatementCount typed synth_config summary.statements
  pub bytes : summary.bytes ≡ length text

-- What `synth` gives of the modules of its tree: the summary of the text that `build` would give.
abbrev pub SummaryGives : SynthWords → List Module → Result (List ℕ) Fault → Type 0
SummaryGives words typed outcome =
    Then (TextMeans typed synth_config)
    (λ text outcome. (summary : Summary) × IsSummary words typed text summary × (Ok (summary_text summary) ≡ outcome))
    outcome

-- What `synth` gives of files in memory.
abbrev pub SourcesSummarize : SynthWords → List Source → Result (List ℕ) Fault → Type 0
SourcesSummarize words sources outcome = Then (LoadMeans sources) (SummaryGives words) outcome

-- What files in memory are replayed to, along an order file of a number.
abbrev pub SourcesReplay : ReplayWords → ℕ → List Source × List ℕ → Result (List ℕ) Fault → Type 0
SourcesReplay words number read outcome =
    Then (LoadMeans read.0) (λ typed. OrderMeans typed (config_of words.targets) read.1 number) outcome

-- What the files of a list are replayed to: first all are read, and then the order file.
abbrev pub ListedFilesReplay : ReplayWords → Files → List (List ℕ) → Result (List ℕ) Fault → Type 0
ListedFilesReplay words files paths outcome =
    GoesOn (sources_and_order files paths words.order) (SourcesReplay words (length paths + 1)) outcome

-- The job of `replay` over files: the text of the file for Ninja, where the order file is a legal order.
abbrev pub ReplayJobMeans : ReplayWords → Files → Result (List ℕ) Fault → Type 0
ReplayJobMeans words files outcome = Then (ListFileMeans words.list files) (ListedFilesReplay words files) outcome

-- What `edit` is asked for.
abbrev pub wanted_of : EditWords → Wanted
wanted_of words = record { name = words.name; property = words.property; items = words.items }

-- What a file is made into, whose text gives that: it is no larger than a file may be, and its bytes must be UTF-8. It
-- is file 0.
abbrev pub RewriteMeans : List ℕ → (List ℕ → Result (List ℕ) Fault → Type 0) → Files → Result (List ℕ) Fault → Type 0
RewriteMeans file TextGives files outcome =
    GoesOn (read_of 0 LARGEST_FILE (get files file)) (λ bytes. AsText 0 bytes (TextGives bytes)) outcome

-- Some lines are the text of a legal journal of modules.
abbrev pub AreJournalLines : List Module → Config → List ℕ → Type 0
AreJournalLines typed c lines =
    (visits : List (ℕ × NodeId)) × IsLegalJournal typed c visits × (lines ≡ journal_text visits)

-- The lines are a legal journal of the modules that a list and its files load as.
abbrev pub IsJournalOfList : BuildWords → Files → List ℕ → Type 0
IsJournalOfList words files lines =
    (typed : List Module) × ListLoads words.list files (Ok typed)
    × AreJournalLines typed (config_of words.targets) lines
