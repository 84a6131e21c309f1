-- A command comes to one outcome, where each phase does.
use Rattle.std.proofs.Common.{◌≡◌, ◌∙◌, ◌+◌, ℕ, List, Ok, Err, Result, refl, sym, ap, subst, inl, inr}
use Rattle.std.specs.Prelude.{length}
use Rattle.std.specs.FinMap.{get}
use Rattle.bp_faults.specs.declared.fault.Fault.{Fault}
use Rattle.bp_faults.specs.declared.limits.TheConstants.{LARGEST_FILE, LARGEST_LIST_FILE}
use Rattle.bp_faults.specs.Phases.{IsOnce, Then}
use Rattle.bp_faults.proofs.Phases.{value_once, goes_on_once, then_once}
use Rattle.bp_ports.specs.Files.{Files}
use Rattle.bp_props.specs.declared.module.Module.{Module}
use Rattle.bp_props.specs.declared.props.Props.{Props}
use Rattle.serial_pass.specs.declared.plan.Plan.{Plan}
use Rattle.serial_pass.specs.Laws.{AtMostOneOutcome}
use Rattle.serial_pass.specs.Outcomes.{PassMeans}
use Rattle.graph_nodes.specs.declared.graph.Node.{Node}
use Rattle.module_graph.specs.declared.direction.Direction.TheVariants.{BottomUp}
use Rattle.module_graph.specs.Planned.{plan_of}
use Rattle.mutator_rules.specs.declared.config.Config.{Config}
use Rattle.build_actions.specs.declared.actions.Actions.{Actions}
use Rattle.build_actions.specs.Acts.{acts_at}
use Rattle.build_actions.specs.File.{file_of_actions}
use Rattle.ninja_file.specs.declared.file.NinjaFile.{NinjaFile}
use Rattle.bp_pipeline.specs.Course.{GraphAfter}
use Rattle.bp_pipeline.specs.Generated.{ActionsMean, FileMeans, TextMeans, IsStatementCount, sizes_of}
use Rattle.bp_pipeline.specs.Generated.{text_within_limit}
use Rattle.bp_pipeline.specs.Laws.{OneGraph, OneOrder}
use Rattle.bp_pipeline.specs.Mutators.{mutator_count}
use Rattle.bp_pipeline.specs.Replays.{OrderMeans}
use Rattle.bp_pipeline.specs.Shown.{shown_graph}
use Rattle.bp_load.specs.ListFile.{ListMeans}
use Rattle.bp_load.specs.Loaded.{LoadMeans}
use Rattle.bp_load.specs.Laws.{OneList, OneLoad}
use Rattle.bp_load.specs.Texts.{AsText}
use Rattle.bp_load.specs.Trees.{Source}
use Rattle.bp_format.specs.Editing.{EditMeans}
use Rattle.bp_format.specs.Laws.{OneEdit, OneFormat}
use Rattle.bp_format.specs.Meaning.{FormatMeans}
use Rattle.command_words.specs.declared.configuration.Configuration.TheVariants.{Build, Replay, Graph, Synth}
use Rattle.command_words.specs.declared.configuration.Configuration.TheVariants.{Format, Edit}
use Rattle.command_words.specs.declared.configuration.Graph.{Graph as GraphWords}
use Rattle.command_words.specs.declared.configuration.Replay.{Replay as ReplayWords}
use Rattle.command_words.specs.declared.configuration.Synth.{Synth as SynthWords}
use Rattle.synthetic_tree.specs.Laws.{OneTree}
use Rattle.synthetic_tree.specs.declared.summary.Summary.{Summary}
use Rattle.synthetic_tree.specs.Summary.{summary_text}
use Rattle.bp_run.specs.Job.{BuildGives, GraphGives, HasNodeCount, HasEdgeCount, IsSummary, SummaryGives}
use Rattle.bp_run.specs.Job.{SourcesReplay, ListedFilesReplay, ReplayJobMeans, RewriteMeans}
use Rattle.bp_run.specs.Job.{config_of, synth_config, wanted_of}
use Rattle.bp_run.specs.Laws.{OneOutcome}
use Rattle.bp_run.specs.Tree.{read_of, sources_of, sources_and_order, ListFileMeans, ListedFilesLoad, ListLoads}
use Rattle.bp_run.specs.Tree.{SynthLoads}

-- two outcomes of one result
apart : {A E : Type 0} (r : Result A E) (a : A) (e : E) → r ≡ Ok a → r ≡ Err e → ⊥
apart r a e x y = cc

one_value : {A E : Type 0} (r : Result A E) (a b : A) → r ≡ Ok a → r ≡ Ok b → a ≡ b
one_value r a b x y = cc

one_error : {A E : Type 0} (r : Result A E) (a b : E) → r ≡ Err a → r ≡ Err b → a ≡ b
one_error r a b x y = cc

-- a pass, whichever node its fault is of
pass_once : {O : Type 0} → AtMostOneOutcome O → (mean : ℕ → List O → Result O Fault) (plan : Plan)
    → IsOnce (PassMeans mean plan)
pass_once one mean plan (Ok a) (Ok b) x y = ap Ok (one_value (Ok a) a b refl (one mean plan (Ok a) (Ok b) x y))
pass_once one mean plan (Ok a) (Err f) x y =
    absurd (apart (Ok a) a (y.0, f) refl (one mean plan (Ok a) (Err (y.0, f)) x y.1))
pass_once one mean plan (Err e) (Ok b) x y =
    absurd (apart (Ok b) b (x.0, e) refl (one mean plan (Ok b) (Err (x.0, e)) y x.1))
pass_once one mean plan (Err e) (Err f) x y =
    ap (λ (at : ℕ × Fault). Err at.1)
    (one_error (Err (x.0, e)) (x.0, e) (y.0, f) refl (one mean plan (Err (x.0, e)) (Err (y.0, f)) x.1 y.1))

module _ (list : OneList) (load : OneLoad) (tree : OneTree) (graph : OneGraph) (pass : AtMostOneOutcome Actions) where
  actions_once : (typed : List Module) (c : Config) → IsOnce (ActionsMean typed c)
  actions_once typed c =
      then_once (GraphAfter typed c mutator_count) (λ nodes. PassMeans (acts_at typed nodes) (plan_of BottomUp nodes))
      (graph typed c mutator_count) (λ nodes. pass_once pass (acts_at typed nodes) (plan_of BottomUp nodes))

  file_once : (typed : List Module) (c : Config) → IsOnce (FileMeans typed c)
  file_once typed c =
      then_once (ActionsMean typed c) (λ made outcome. Ok (file_of_actions made) ≡ outcome) (actions_once typed c)
      (λ made. value_once (Ok (file_of_actions made)))

  text_once : (typed : List Module) (c : Config) → IsOnce (TextMeans typed c)
  text_once typed c =
      then_once (FileMeans typed c) (λ file outcome. text_within_limit file ≡ outcome) (file_once typed c)
      (λ file. value_once (text_within_limit file))

  graph_once : (words : GraphWords) (typed : List Module) → IsOnce (GraphGives words typed)
  graph_once words typed =
      let config = config_of words.targets in
      then_once (GraphAfter typed config words.after)
      (λ (nodes : List (Node Props)) outcome. Ok (shown_graph typed nodes) ≡ outcome)
      (graph typed config words.after) (λ nodes. value_once (Ok (shown_graph typed nodes)))

  nodes_once : (typed : List Module) (k : ℕ) (a b : List (Node Props)) → GraphAfter typed synth_config k (Ok a)
      → GraphAfter typed synth_config k (Ok b) → sizes_of a ≡ sizes_of b
  nodes_once typed k a b x y =
      let same : Ok a ≡ Ok b = graph typed synth_config k (Ok a) (Ok b) x y in ap sizes_of (cc)

  count_once : (typed : List Module) (a b : ℕ) → IsStatementCount typed synth_config a
      → IsStatementCount typed synth_config b → a ≡ b
  count_once typed a b x y =
      let same : Ok x.0 ≡ Ok y.0 = file_once typed synth_config (Ok x.0) (Ok y.0) x.1 y.1 in
      let files : x.0 ≡ y.0 = cc in
      x.2 ∙ ap (λ (f : NinjaFile). length f.statements) files ∙ sym y.2

  summary_once : (words : SynthWords) (typed : List Module) (text : List ℕ) (a b : Summary)
      → IsSummary words typed text a → IsSummary words typed text b → a ≡ b
  summary_once words typed text a b x y =
      let modules : a.modules ≡ b.modules = x.modules ∙ sym y.modules in
      let linked : a.linked ≡ b.linked = nodes_alike 5 a.linked b.linked x.linked y.linked in
      let edges : a.edges ≡ b.edges = edges_alike 7 a.edges b.edges x.edges y.edges in
      let nodes : a.nodes ≡ b.nodes = nodes_alike mutator_count a.nodes b.nodes x.nodes y.nodes in
      let statements : a.statements ≡ b.statements =
      count_once typed a.statements b.statements x.statements y.statements in
      let bytes : a.bytes ≡ b.bytes = x.bytes ∙ sym y.bytes in
      (λ i. record {
        modules = modules i;
        linked = linked i;
        edges = edges i;
        nodes = nodes i;
        statements = statements i;
        bytes = bytes i;
      })
    where
      nodes_alike : (k m n : ℕ) → HasNodeCount typed k m → HasNodeCount typed k n → m ≡ n
      nodes_alike k m n first second =
          first.2 ∙ ap (λ s. s.nodes) (nodes_once typed k first.0 second.0 first.1 second.1) ∙ sym second.2

      edges_alike : (k m n : ℕ) → HasEdgeCount typed k m → HasEdgeCount typed k n → m ≡ n
      edges_alike k m n first second =
          first.2 ∙ ap (λ s. s.edges) (nodes_once typed k first.0 second.0 first.1 second.1) ∙ sym second.2

  summary_gives_once : (words : SynthWords) (typed : List Module) → IsOnce (SummaryGives words typed)
  summary_gives_once words typed =
      then_once (TextMeans typed synth_config)
      (λ text outcome. (summary : Summary) × IsSummary words typed text summary
      × (Ok (summary_text summary) ≡ outcome))
      (text_once typed synth_config)
      (λ text a b x y. sym x.2 ∙ ap (λ s. Ok (summary_text s)) (summary_once words typed text x.0 y.0 x.1 y.1) ∙ y.2)

  list_file_once : (path : List ℕ) (files : Files) → IsOnce (ListFileMeans path files)
  list_file_once path files = goes_on_once (read_of 0 LARGEST_LIST_FILE (get files path)) ListMeans list

  list_loads_once : (path : List ℕ) (files : Files) → IsOnce (ListLoads path files)
  list_loads_once path files =
      then_once (ListFileMeans path files) (ListedFilesLoad files) (list_file_once path files)
      (λ paths. goes_on_once (sources_of files paths) LoadMeans load)

  synth_loads_once : (words : SynthWords) → IsOnce (SynthLoads words)
  synth_loads_once words a b x y =
      load y.0 a b (subst (λ files. LoadMeans files a) (tree words.seed words.modules x.0 y.0 x.1 y.1) x.2) y.2

  -- a command over the modules of a list's files
  over_list_once : (path : List ℕ) (files : Files) (Give : List Module → Result (List ℕ) Fault → Type 0)
      → ((typed : List Module) → IsOnce (Give typed)) → IsOnce (Then (ListLoads path files) Give)
  over_list_once path files Give once = then_once (ListLoads path files) Give (list_loads_once path files) once

  module _ (order : OneOrder) (format : OneFormat) (edit : OneEdit) where
    sources_once : (words : ReplayWords) (number : ℕ) (read : List Source × List ℕ)
        → IsOnce (SourcesReplay words number read)
    sources_once words number read =
        then_once (LoadMeans read.0) (λ typed. OrderMeans typed (config_of words.targets) read.1 number) (load read.0)
        (λ typed. order typed (config_of words.targets) read.1 number)

    replay_once : (words : ReplayWords) (files : Files) → IsOnce (ReplayJobMeans words files)
    replay_once words files =
        then_once (ListFileMeans words.list files) (ListedFilesReplay words files) (list_file_once words.list files)
        (λ paths. goes_on_once (sources_and_order files paths words.order) (SourcesReplay words (length paths + 1))
        (sources_once words (length paths + 1)))

    bytes_once : (bytes : List ℕ) (Give : Result (List ℕ) Fault → Type 0) → IsOnce Give
        → IsOnce (AsText 0 bytes Give)
    bytes_once bytes Give once a b (inl x) (inl y) = once a b x.1 y.1
    bytes_once bytes Give once a b (inl x) (inr y) = absurd (y.0 x.0)
    bytes_once bytes Give once a b (inr x) (inl y) = absurd (x.0 y.0)
    bytes_once bytes Give once a b (inr x) (inr y) = x.1 ∙ sym y.1

    -- a command over the text of one file
    over_file_once : (file : List ℕ) (Give : List ℕ → Result (List ℕ) Fault → Type 0)
        → ((text : List ℕ) → IsOnce (Give text)) → (files : Files) → IsOnce (RewriteMeans file Give files)
    over_file_once file Give once files =
        goes_on_once (read_of 0 LARGEST_FILE (get files file)) (λ bytes. AsText 0 bytes (Give bytes))
        (λ bytes. bytes_once bytes (Give bytes) (once bytes))

    pub one_outcome : OneOutcome
    one_outcome (Build words) files =
        over_list_once words.list files (BuildGives words) (λ typed. text_once typed (config_of words.targets))
    one_outcome (Replay words) files = replay_once words files
    one_outcome (Graph words) files = over_list_once words.list files (GraphGives words) (graph_once words)
    one_outcome (Synth words) files =
        then_once (SynthLoads words) (SummaryGives words) (synth_loads_once words) (summary_gives_once words)
    one_outcome (Format words) files = over_file_once words.file (FormatMeans 0) (format 0) files
    one_outcome (Edit words) files =
        over_file_once words.file (λ text. EditMeans 0 text (wanted_of words))
        (λ text. edit 0 text (wanted_of words)) files
