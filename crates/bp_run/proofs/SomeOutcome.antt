-- A sound command comes to an outcome, where each phase does.
use Rattle.std.proofs.Common.{◌≡◌, ◌≤◌, ◌+◌, ◌∙◌, ℕ, zero, suc, List, Result, Ok, Err, length, refl, sym, arith}
use Rattle.std.proofs.Common.{Bool, true, false, true≢false, inl, inr}
use Rattle.std.specs.Str.{is_utf8}
use Rattle.std.proofs.lemmas.Str.{IsUtf8-from_is_utf8, is_utf8-from_IsUtf8}
use Rattle.std.specs.FinMap.{get}
use Rattle.bp_faults.specs.declared.fault.Fault.{Fault}
use Rattle.bp_faults.specs.declared.limits.TheConstants.{LARGEST_FILE, LARGEST_LIST_FILE, MOST_MODULES}
use Rattle.bp_faults.specs.Phases.{HasOutcome, GoesOn, Then}
use Rattle.bp_faults.proofs.Phases.{goes_on_some, then_some}
use Rattle.bp_ports.specs.Files.{Files}
use Rattle.bp_props.specs.declared.module.Module.{Module}
use Rattle.bp_props.specs.declared.props.Props.{Props}
use Rattle.graph_nodes.specs.declared.graph.Node.{Node}
use Rattle.mutator_rules.specs.Configs.{TargetsDiffer}
use Rattle.ninja_file.specs.declared.file.NinjaFile.{NinjaFile}
use Rattle.build_actions.specs.declared.actions.Actions.{Actions}
use Rattle.bp_load.specs.ListFile.{ListMeans}
use Rattle.bp_load.specs.Trees.{Source}
use Rattle.bp_load.specs.Loaded.{LoadMeans}
use Rattle.bp_load.specs.Laws.{SomeList, SomeLoad}
use Rattle.bp_load.specs.Texts.{AsText, not_utf8}
use Rattle.bp_format.specs.Editing.{EditMeans}
use Rattle.bp_format.specs.Laws.{SomeEdit, SomeFormat}
use Rattle.bp_format.specs.Meaning.{FormatMeans}
use Rattle.bp_pipeline.specs.Course.{GraphAfter}
use Rattle.bp_pipeline.specs.Generated.{ActionsMean, FileMeans, TextMeans, sizes_of}
use Rattle.bp_pipeline.specs.Laws.{EarlierGraphs, SomeGraph, SomeOrder, SomeText}
use Rattle.bp_pipeline.specs.Replays.{OrderMeans}
use Rattle.bp_pipeline.specs.Mutators.{mutator_count}
use Rattle.bp_pipeline.specs.Shown.{shown_graph}
use Rattle.command_words.specs.declared.configuration.Configuration.TheVariants.{Build, Replay, Graph, Synth}
use Rattle.command_words.specs.declared.configuration.Configuration.TheVariants.{Format, Edit}
use Rattle.command_words.specs.declared.configuration.Graph.{Graph as GraphWords}
use Rattle.command_words.specs.declared.configuration.Replay.{Replay as ReplayWords}
use Rattle.command_words.specs.declared.configuration.Synth.{Synth as SynthWords}
use Rattle.command_words.specs.Words.{IsSoundReplay, IsSoundGraph, IsSoundSynth}
use Rattle.synthetic_tree.specs.declared.summary.Summary.{Summary}
use Rattle.synthetic_tree.specs.Laws.{SomeTree}
use Rattle.synthetic_tree.specs.Summary.{summary_text}
use Rattle.bp_run.specs.Job.{BuildGives, GraphGives, IsSummary, SummaryGives, SourcesReplay, ListedFilesReplay}
use Rattle.bp_run.specs.Job.{RewriteMeans, config_of, synth_config, wanted_of}
use Rattle.bp_run.specs.Laws.{SomeEdited, SomeOutcome}
use Rattle.bp_run.specs.Tree.{read_of, sources_of, sources_and_order, ListFileMeans, ListedFilesLoad, ListLoads}
use Rattle.bp_run.specs.Tree.{SynthLoads}
use Rattle.bp_run.proofs.Counted.{few_modules}

-- The modules that are loaded of what is read are few.
few_read : (read : Result (List Source) Fault) (typed : List Module) → GoesOn read LoadMeans (Ok typed)
    → length typed ≤ MOST_MODULES
few_read (Ok sources) typed means = few_modules sources typed means
few_read (Err fault) typed means = absurd (cc)

few_listed : (list : List ℕ) (files : Files) (typed : List Module) → ListLoads list files (Ok typed)
    → length typed ≤ MOST_MODULES
few_listed list files typed (Ok paths, means, loads) = few_read (sources_of files paths) typed loads
few_listed list files typed (Err fault, means, loads) = absurd (cc)

module _ (list : SomeList) (load : SomeLoad) where
  -- What a list and the files that it names load as.
  pub some_listed : (path : List ℕ) (files : Files) → HasOutcome (ListLoads path files)
  some_listed path files =
      then_some (ListFileMeans path files) (ListedFilesLoad files)
      (goes_on_some (read_of 0 LARGEST_LIST_FILE (get files path)) ListMeans list)
      (λ paths. goes_on_some (sources_of files paths) LoadMeans load)

  -- What a synthetic tree loads as: it has files, and files load as something.
  synth_loaded : SomeTree → (words : SynthWords) → IsSoundSynth words → HasOutcome (SynthLoads words)
  synth_loaded tree words sound =
      let made = tree words.seed words.modules sound.few in
      let loaded = load made.0 in
      (loaded.0, (made.0, made.1, loaded.1))

-- What a text was made of: the graph after all mutators, and the file.
module _ (earlier : EarlierGraphs) (words : SynthWords) (typed : List Module) where
  of_nodes : (text : List ℕ) (file : NinjaFile) → FileMeans typed synth_config (Ok file) → (nodes : List (Node Props))
      → GraphAfter typed synth_config mutator_count (Ok nodes)
      → (summary : Summary) × IsSummary words typed text summary
  of_nodes text file means nodes graph =
      let fifth = earlier typed synth_config 5 mutator_count nodes (omega arith) graph in
      let seventh = earlier typed synth_config 7 mutator_count nodes (omega arith) graph in (
        record {
          modules = words.modules;
          linked = (sizes_of fifth.0).nodes;
          edges = (sizes_of seventh.0).edges;
          nodes = (sizes_of nodes).nodes;
          statements = length file.statements;
          bytes = length text;
        },
        record {
          modules = refl;
          linked = (fifth.0, fifth.1, refl);
          edges = (seventh.0, seventh.1, refl);
          nodes = (nodes, graph, refl);
          statements = (file, means, refl);
          bytes = refl;
        },
      )

  of_actions : (text : List ℕ) (file : NinjaFile) → FileMeans typed synth_config (Ok file) → (made : List Actions)
      → ActionsMean typed synth_config (Ok made) → (summary : Summary) × IsSummary words typed text summary
  of_actions text file means made (Ok nodes, graph, acts) = of_nodes text file means nodes graph
  of_actions text file means made (Err fault, graph, acts) = absurd (cc)

  of_file : (text : List ℕ) (file : NinjaFile) → FileMeans typed synth_config (Ok file)
      → (summary : Summary) × IsSummary words typed text summary
  of_file text file (Ok made, acts, is) = of_actions text file (Ok made, acts, is) made acts
  of_file text file (Err fault, acts, is) = absurd (cc)

  summary_some : (text : List ℕ) → TextMeans typed synth_config (Ok text)
      → (summary : Summary) × IsSummary words typed text summary
  summary_some text (Ok file, means, is) = of_file text file means
  summary_some text (Err fault, means, is) = absurd (cc)

  given_some : HasOutcome (TextMeans typed synth_config) → HasOutcome (SummaryGives words typed)
  given_some (Ok text, means) =
      let made = summary_some text means in
      (Ok (summary_text made.0), (Ok text, means, (made.0, made.1, refl)))
  given_some (Err fault, means) = (Err fault, (Err fault, means, refl))

-- The targets differ for which a synthetic tree is built.
default_differ : TargetsDiffer synth_config
default_differ zero zero d lt within same = absurd (omega arith)
default_differ zero (suc zero) d lt within same = cc
default_differ zero (suc (suc zero)) d lt within same = cc
default_differ zero (suc (suc (suc j))) d lt within same = absurd (omega (arith, within))
default_differ (suc zero) zero d lt within same = absurd (omega (arith, lt))
default_differ (suc zero) (suc zero) d lt within same = absurd (omega (arith, lt))
default_differ (suc zero) (suc (suc zero)) d lt within same = cc
default_differ (suc zero) (suc (suc (suc j))) d lt within same = absurd (omega (arith, within))
default_differ (suc (suc i)) j d lt within same = absurd (omega (arith, lt, within))

-- What modules give that are few goes on to an outcome of the whole.
module _ (Loads : Result (List Module) Fault → Type 0) (Give : List Module → Result (List ℕ) Fault → Type 0)
    (few : (typed : List Module) → Loads (Ok typed) → length typed ≤ MOST_MODULES)
    (given : (typed : List Module) → length typed ≤ MOST_MODULES → HasOutcome (Give typed)) where
  of_loaded : HasOutcome Loads → HasOutcome (Then Loads Give)
  of_loaded (Ok typed, means) =
      let gives = given typed (few typed means) in (gives.0, (Ok typed, means, gives.1))
  of_loaded (Err fault, means) = (Err fault, (Err fault, means, refl))

module _ (list : SomeList) (load : SomeLoad) (tree : SomeTree) (graph : SomeGraph) (text : SomeText)
    (earlier : EarlierGraphs) (order : SomeOrder) (format : SomeFormat) (edit : SomeEdit) where
  sources_some : (words : ReplayWords) → IsSoundReplay words → (number : ℕ) (read : List Source × List ℕ)
      → HasOutcome (SourcesReplay words number read)
  sources_some words sound number read =
      of_loaded (LoadMeans read.0) (λ typed. OrderMeans typed (config_of words.targets) read.1 number)
      (few_modules read.0) (λ typed few. order typed (config_of words.targets) read.1 number few sound.targets)
      (load read.0)

  graph_some : (words : GraphWords) → IsSoundGraph words → (typed : List Module) → length typed ≤ MOST_MODULES
      → HasOutcome (GraphGives words typed)
  graph_some words sound typed few =
      then_some (GraphAfter typed (config_of words.targets) words.after)
      (λ (nodes : List (Node Props)) outcome. Ok (shown_graph typed nodes) ≡ outcome)
      (graph typed (config_of words.targets) words.after few sound.targets sound.after)
      (λ nodes. (Ok (shown_graph typed nodes), refl))

  -- a command over the text of one file
  over_file_some : (file : List ℕ) (Give : List ℕ → Result (List ℕ) Fault → Type 0)
      → ((text : List ℕ) → HasOutcome (Give text)) → (files : Files) → HasOutcome (RewriteMeans file Give files)
  over_file_some file Give some files =
      goes_on_some (read_of 0 LARGEST_FILE (get files file)) (λ bytes. AsText 0 bytes (Give bytes))
      (λ bytes. by bytes (is_utf8 bytes) refl)
    where
      by : (bytes : List ℕ) (valid : Bool) → is_utf8 bytes ≡ valid → HasOutcome (AsText 0 bytes (Give bytes))
      by bytes true is = let given = some bytes in (given.0, inl (IsUtf8-from_is_utf8 bytes is, given.1))
      by bytes false is = (
        Err (not_utf8 0 bytes),
        inr (λ valid. true≢false (sym (is_utf8-from_IsUtf8 bytes valid) ∙ is), refl),
      )

  pub some_edited : SomeEdited
  some_edited words files =
      over_file_some words.file (λ text. EditMeans 0 text (wanted_of words))
      (λ text. edit 0 text (wanted_of words)) files

  pub some_outcome : SomeOutcome
  some_outcome (Build words) files sound =
      of_loaded (ListLoads words.list files) (BuildGives words) (few_listed words.list files)
      (λ typed few. text typed (config_of words.targets) few sound.targets) (some_listed list load words.list files)
  some_outcome (Replay words) files sound =
      then_some (ListFileMeans words.list files) (ListedFilesReplay words files)
      (goes_on_some (read_of 0 LARGEST_LIST_FILE (get files words.list)) ListMeans list)
      (λ paths. goes_on_some (sources_and_order files paths words.order) (SourcesReplay words (length paths + 1))
      (sources_some words sound (length paths + 1)))
  some_outcome (Graph words) files sound =
      of_loaded (ListLoads words.list files) (GraphGives words) (few_listed words.list files) (graph_some words sound)
      (some_listed list load words.list files)
  some_outcome (Synth words) files sound =
      of_loaded (SynthLoads words) (SummaryGives words) (λ typed means. few_modules means.0 typed means.2)
      (λ typed few. given_some earlier words typed (text typed synth_config few default_differ))
      (synth_loaded list load tree words sound)
  some_outcome (Format words) files sound = over_file_some words.file (FormatMeans 0) (format 0) files
  some_outcome (Edit words) files sound = some_edited words files
