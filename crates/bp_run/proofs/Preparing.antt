-- What commands come to, by what their steps answered.
use Rattle.std.proofs.Common.{◌≡◌, inl, inr, ℕ, List, [], ◌∷◌, ◌++◌, Vec, Option, Some, None, Result, Ok, Err}
use Rattle.std.proofs.Common.{refl, sym, subst, map}
use Rattle.std.specs.Prelude.{IfSome}
use Rattle.std.specs.FinMap.{empty, get}
use Rattle.std.specs.declared.alloc.Global.{Global}
use Rattle.bp_faults.specs.declared.fault.Fault.{Fault}
use Rattle.bp_faults.specs.declared.refusal.Refusal.{Refusal}
use Rattle.bp_faults.specs.declared.refusal.Refusal.TheVariants.{Bad, OutOfMemory as NoMemory}
use Rattle.bp_faults.specs.declared.limits.TheConstants.{LARGEST_FILE}
use Rattle.bp_faults.specs.Answers.{Tells}
use Rattle.bp_faults.specs.Phases.{GoesOn, Then}
use Rattle.bp_ports.specs.Files.{Files}
use Rattle.bp_props.specs.declared.module.Module.{Module}
use Rattle.bp_load.specs.Texts.{AsText}
use Rattle.bp_load.specs.Trees.{Source}
use Rattle.command_words.specs.declared.configuration.Build.{Build as BuildWords}
use Rattle.command_words.specs.declared.configuration.Replay.{Replay as ReplayWords}
use Rattle.command_words.specs.declared.configuration.Synth.{Synth as SynthWords}
use Rattle.synthetic_tree.specs.Blocks.{AreTree}
use Rattle.bp_run.specs.declared.end.End.{End}
use Rattle.bp_run.specs.declared.put.Put.{Put}
use Rattle.bp_run.specs.declared.put.Put.TheVariants.{Write}
use Rattle.bp_run.specs.declared.stop.Stop.{Stop}
use Rattle.bp_run.specs.declared.tree.Tree.{Tree}
use Rattle.bp_run.specs.Commands.{JournalGoes, BuildGoes, ToOutput, over_list, synth_command, replay_command}
use Rattle.bp_run.specs.Commands.{over_file}
use Rattle.bp_run.specs.Description.{Description}
use Rattle.bp_run.specs.Job.{AreJournalLines, IsJournalOfList, ListedFilesReplay, ReplayJobMeans, RewriteMeans}
use Rattle.bp_run.specs.Job.{SourcesSummarize, config_of}
use Rattle.bp_run.specs.Lines.{synth_name}
use Rattle.bp_run.specs.Steps.{Exactly, GivesOrStops, LoadsTree, MakesPuts, MakesOrStops, Prepares, Stopped, stop_of}
use Rattle.bp_run.specs.Steps.{WritesOrRunsOut}
use Rattle.bp_run.specs.Tree.{AreListNames, AreListedFiles, AreListedWith, AreReplayNames, AreSynthNames, ListFileMeans}
use Rattle.bp_run.specs.Tree.{read_of, ListedFilesLoad, ListLoads, CannotRead, CannotReadOf, CannotReadAlong}
use Rattle.bp_run.specs.Tree.{CannotReplay}
use Rattle.bp_run.proofs.Stopping.{Anything, Cause, where_some, where_both, nothing_told, stops_by, cause_of, stops_on}

-- The tree of a list, for files that may be told.
module _ (list : List ℕ) (told : Option Files) where
  -- the list can't be read, or has a fault
  pub list_stopped : (stop : Stop) (end : End)
      → IfSome told (λ files. GivesOrStops {T = Vec (List ℕ) Global} {V = List (List ℕ)} (λ paths. paths.items)
      (ListFileMeans list files) (λ unread. unread ≡ list) (Err stop))
      → Stopped (list ∷ []) stop end → LoadsTree list told (Err end)
  list_stopped stop end gives h =
      stops_by told (λ files fault. ListLoads list files (Err fault)) (λ fault. AreListNames list told)
      (CannotRead list) (list ∷ []) stop end
      (cause_of told (λ files fault. ListLoads list files (Err fault)) (λ fault. AreListNames list told)
      (CannotRead list) {T = Vec (List ℕ) Global} {V = List (List ℕ)} (λ paths. paths.items) Anything
      (ListFileMeans list) (λ files unread. unread ≡ list) (nothing_told told)
      (λ files fault any means. (Err fault, means, refl)) (λ files path any is. inl is) (list ∷ [])
      (λ fault means. (
        [],
        where_some told (λ files. ListFileMeans list files (Err fault)) (λ files. AreListedFiles list files [])
            (λ files means. (Err fault, means, refl)) means,
        refl,
      ))
      stop gives)
      h

  module _ (paths : List (List ℕ)) (listed : IfSome told (λ files. ListFileMeans list files (Ok paths))) where
    -- the names of the list's files
    pub names_here : AreListNames list told (list ∷ paths)
    names_here = (
      paths,
      where_some told (λ files. ListFileMeans list files (Ok paths)) (λ files. AreListedFiles list files paths)
          (λ files means. (Ok paths, means, refl)) listed,
      refl,
    )

    -- they load
    pub paths_loaded : (tree : Tree) → tree.paths.items ≡ paths
        → IfSome told (λ files. ListedFilesLoad files paths (Ok tree.typed.items)) → LoadsTree list told (Ok tree)
    paths_loaded tree is loads =
        where_both told (λ files. ListFileMeans list files (Ok paths))
        (λ files. ListedFilesLoad files paths (Ok tree.typed.items))
        (λ files. ListFileMeans list files (Ok tree.paths.items)
        × ListedFilesLoad files tree.paths.items (Ok tree.typed.items))
        (λ files means made.
        subst (λ p. ListFileMeans list files (Ok p) × ListedFilesLoad files p (Ok tree.typed.items))
        (sym is) (means, made)) listed loads

    -- a file can't be read, or they don't load
    pub paths_stopped : (stop : Stop) (end : End)
        → IfSome told (λ files. GivesOrStops {T = Vec Module Global} {V = List Module} (λ typed. typed.items)
        (ListedFilesLoad files paths) (CannotReadOf files paths) (Err stop))
        → Stopped (list ∷ paths) stop end → LoadsTree list told (Err end)
    paths_stopped stop end gives h =
        stops_by told (λ files fault. ListLoads list files (Err fault)) (λ fault. AreListNames list told)
        (CannotRead list) (list ∷ paths) stop end
        (cause_of told (λ files fault. ListLoads list files (Err fault)) (λ fault. AreListNames list told)
        (CannotRead list) {T = Vec Module Global} {V = List Module} (λ typed. typed.items)
        (λ files. ListFileMeans list files (Ok paths)) (λ files. ListedFilesLoad files paths)
        (λ files. CannotReadOf files paths) listed
        (λ files fault means loads. (Ok paths, means, loads)) (λ files path means cannot. inr (paths, means, cannot))
        (list ∷ paths) (λ fault means. names_here) stop gives)
        h

-- A command over the modules of a list's files.
module _ (list : List ℕ) (ModulesGive : List Module → Result (List ℕ) Fault → Type 0)
    (goes : Option Files → List ℕ → List Put → Type 0) (told : Option Files) where
  -- the tree can't be had
  pub tree_stopped : (end : End) → LoadsTree list told (Err end)
      → Prepares (over_list list ModulesGive goes) told (Err end)
  tree_stopped end h =
      stops_on told (λ files fault. ListLoads list files (Err fault))
      (λ files fault. Then (ListLoads list files) ModulesGive (Err fault)) (λ fault. AreListNames list told)
      (CannotRead list) (λ files fault means. (Err fault, means, refl)) end h

  module _ (tree : Tree) (loaded : LoadsTree list told (Ok tree)) where
    abbrev Loaded : Files → Type 0
    Loaded files =
        ListFileMeans list files (Ok tree.paths.items) × ListedFilesLoad files tree.paths.items (Ok tree.typed.items)

    -- what the modules give is what the command gives
    given : (outcome : Result (List ℕ) Fault) → ModulesGive tree.typed.items outcome
        → IfSome told (λ files. Then (ListLoads list files) ModulesGive outcome)
    given outcome h =
        where_some told Loaded (λ files. Then (ListLoads list files) ModulesGive outcome)
        (λ files l. (Ok tree.typed.items, (Ok tree.paths.items, l.0, l.1), h)) loaded

    -- texts are made of the modules
    pub modules_prepared : (Goes : List ℕ → List Put → Type 0) (puts : Vec Put Global)
        → MakesPuts (ModulesGive tree.typed.items) Goes (Ok puts)
        → ((text : List ℕ) → Goes text puts.items → goes told text puts.items)
        → Prepares (over_list list ModulesGive goes) told (Ok puts)
    modules_prepared Goes puts (text, gives, at) on = (text, given (Ok text) gives, on text at)

    -- they have a fault
    pub modules_refused : (Goes : List ℕ → List Put → Type 0) (refusal : Refusal) (end : End)
        → MakesPuts (ModulesGive tree.typed.items) Goes (Err refusal)
        → Stopped (list ∷ tree.paths.items) (stop_of refusal) end
        → Prepares (over_list list ModulesGive goes) told (Err end)
    modules_refused Goes refusal end h stopped =
        stops_by told (λ files fault. Then (ListLoads list files) ModulesGive (Err fault))
        (λ fault. AreListNames list told) (CannotRead list) (list ∷ tree.paths.items) (stop_of refusal) end
        (by refusal h) stopped
      where
        by : (refusal : Refusal) → MakesPuts (ModulesGive tree.typed.items) Goes (Err refusal)
            → Cause told (λ files fault. Then (ListLoads list files) ModulesGive (Err fault))
            (λ fault. AreListNames list told) (CannotRead list) (list ∷ tree.paths.items) (stop_of refusal)
        by (Bad fault) h = (
          given (Err fault) h,
          names_here list told tree.paths.items
              (where_some told Loaded (λ files. ListFileMeans list files (Ok tree.paths.items))
              (λ files l. l.0) loaded),
        )
        by NoMemory h = tt

    -- the lines are a journal of the list's modules
    journal_here : (words : BuildWords) → words.list ≡ list → (lines : List ℕ)
        → AreJournalLines tree.typed.items (config_of words.targets) lines
        → IfSome told (λ files. IsJournalOfList words files lines)
    journal_here words is lines h =
        subst (λ l. IfSome told (λ files. (typed : List Module) × ListLoads l files (Ok typed)
        × AreJournalLines typed (config_of words.targets) lines)) (sym is)
        (where_some told Loaded (λ files. (typed : List Module) × ListLoads list files (Ok typed)
        × AreJournalLines typed (config_of words.targets) lines)
        (λ files l. (tree.typed.items, (Ok tree.paths.items, l.0, l.1), h)) loaded)

    -- where the text of a build goes, and its journal
    pub build_goes : (words : BuildWords) → words.list ≡ list → (text : List ℕ) (puts : List Put)
        → BuildGoes words (AreJournalLines tree.typed.items (config_of words.targets)) text puts
        → BuildGoes words (λ lines. IfSome told (λ files. IsJournalOfList words files lines)) text puts
    build_goes words is text puts (beside, journal, at) = (beside, by words.journal beside journal, at)
      where
        by : (asked : Option (List ℕ)) (beside : List Put)
            → JournalGoes (AreJournalLines tree.typed.items (config_of words.targets)) asked beside
            → JournalGoes (λ lines. IfSome told (λ files. IsJournalOfList words files lines)) asked beside
        by None beside h = h
        by (Some path) beside (lines, are, at) = (lines, journal_here words is lines are, at)

-- The text and the journal of a build, of the lines of which this is known.
pub journal_on : (words : BuildWords) (P Q : List ℕ → Type 0) → ((lines : List ℕ) → P lines → Q lines)
    → (text : List ℕ) (puts : List Put) → BuildGoes words P text puts → BuildGoes words Q text puts
journal_on words P Q on text puts (beside, journal, at) = (beside, by words.journal beside journal, at)
  where
    by : (asked : Option (List ℕ)) (beside : List Put) → JournalGoes P asked beside → JournalGoes Q asked beside
    by None beside h = h
    by (Some path) beside (lines, are, at) = (lines, on lines are, at)

-- `synth`, over a tree in memory.
module _ (words : SynthWords) (files : List Source) (tree : AreTree words.seed words.modules files) where
  pub synth_stopped : (stop : Stop) (end : End)
      → MakesOrStops (SourcesSummarize words files) (ToOutput None) (Err stop)
      → Stopped (synth_name ∷ map (λ f. f.0) files) stop end → Prepares (synth_command words) (Some empty) (Err end)
  synth_stopped stop end makes h =
      stops_by (Some empty) (λ told fault. (synth_command words).gives told (Err fault)) (λ fault. AreSynthNames words)
      (λ files path. ⊥) (synth_name ∷ map (λ f. f.0) files) stop end (by stop makes) h
    where
      given : (fault : Fault) → SourcesSummarize words files (Err fault) → (synth_command words).gives empty (Err fault)
      given fault (Ok typed, loads, goes) = (Ok typed, (files, tree, loads), goes)
      given fault (Err other, loads, goes) = (Err other, (files, tree, loads), goes)

      by : (stop : Stop) → MakesOrStops (SourcesSummarize words files) (ToOutput None) (Err stop)
          → Cause (Some empty) (λ told fault. (synth_command words).gives told (Err fault))
          (λ fault. AreSynthNames words)
          (λ files path. ⊥) (synth_name ∷ map (λ f. f.0) files) stop
      by (Stop.Fault fault) h = (given fault h, (files, tree, refl))
      by (Stop.Read path) h = absurd h
      by Stop.OutOfMemory h = tt

-- A text that is meant goes to a file, or memory runs out.
written : (d : Description) (out : List ℕ) (told : Option Files) (text : List ℕ)
    (result : Result (Vec Put Global) End) → IfSome told (λ files. d.gives files (Ok text))
    → ((puts : List Put) → puts ≡ Write out text ∷ [] → d.goes told text puts) → WritesOrRunsOut out text result
    → Prepares d told result
written d out told text (Ok puts) gives goes h = (text, gives, goes puts.items h)
written d out told text (Err End.Done) gives goes h = absurd h
written d out told text (Err (End.Fault line)) gives goes h = absurd h
written d out told text (Err End.Usage) gives goes h = absurd h
written d out told text (Err (End.Read line)) gives goes h = absurd h
written d out told text (Err (End.Write line)) gives goes h = absurd h
written d out told text (Err End.OutOfMemory) gives goes h = tt

-- `replay`, over files that may be told.
module _ (words : ReplayWords) (told : Option Files) where
  abbrev Faults : Files → Fault → Type 0
  Faults files fault = ReplayJobMeans words files (Err fault)

  abbrev Names : Fault → List (List ℕ) → Type 0
  Names fault = AreReplayNames words.list words.order told

  -- the list can't be read, or has a fault
  pub replay_list_stopped : (stop : Stop) (end : End)
      → IfSome told (λ files. GivesOrStops {T = Vec (List ℕ) Global} {V = List (List ℕ)} (λ paths. paths.items)
      (ListFileMeans words.list files) (λ unread. unread ≡ words.list) (Err stop))
      → Stopped (words.list ∷ []) stop end → Prepares (replay_command words) told (Err end)
  replay_list_stopped stop end gives h =
      stops_by told Faults Names (CannotReplay words.list words.order) (words.list ∷ []) stop end
      (cause_of told Faults Names (CannotReplay words.list words.order) {T = Vec (List ℕ) Global} {V = List (List ℕ)}
      (λ paths. paths.items) Anything (ListFileMeans words.list) (λ files unread. unread ≡ words.list)
      (nothing_told told)
      (λ files fault any means. (Err fault, means, refl)) (λ files path any is. inl is) (words.list ∷ [])
      (λ fault means. (
        [],
        where_some told (λ files. ListFileMeans words.list files (Err fault))
            (λ files. AreListedWith words.list words.order files []) (λ files means. (Err fault, means, refl)) means,
        refl,
      ))
      stop gives)
      h

  module _ (paths : List (List ℕ)) (listed : IfSome told (λ files. ListFileMeans words.list files (Ok paths))) where
    -- a file can't be read, or the replay is a fault
    pub replay_stopped : (stop : Stop) (end : End)
        → IfSome told (λ files. GivesOrStops {T = List ℕ} {V = List ℕ} (λ text. text)
        (ListedFilesReplay words files paths) (CannotReadAlong files paths words.order) (Err stop))
        → Stopped (words.list ∷ (paths ++ words.order ∷ [])) stop end → Prepares (replay_command words) told (Err end)
    replay_stopped stop end gives h =
        stops_by told Faults Names (CannotReplay words.list words.order) (words.list ∷ (paths ++ words.order ∷ []))
        stop end
        (cause_of told Faults Names (CannotReplay words.list words.order) {T = List ℕ} {V = List ℕ} (λ text. text)
        (λ files. ListFileMeans words.list files (Ok paths)) (λ files. ListedFilesReplay words files paths)
        (λ files. CannotReadAlong files paths words.order) listed
        (λ files fault means goes. (Ok paths, means, goes)) (λ files path means cannot. inr (paths, means, cannot))
        (words.list ∷ (paths ++ words.order ∷ []))
        (λ fault means. (
          paths ++ words.order ∷ [],
          where_some told (λ files. ListFileMeans words.list files (Ok paths))
              (λ files. AreListedWith words.list words.order files (paths ++ words.order ∷ []))
              (λ files means. (Ok paths, means, refl)) listed,
          refl,
        ))
        stop gives)
        h

    -- it is a text
    pub replay_prepared : (text : List ℕ) (result : Result (Vec Put Global) End)
        → IfSome told (λ files. ListedFilesReplay words files paths (Ok text))
        → WritesOrRunsOut words.out text result → Prepares (replay_command words) told result
    replay_prepared text result gives h =
        written (replay_command words) words.out told text result
        (where_both told (λ files. ListFileMeans words.list files (Ok paths))
        (λ files. ListedFilesReplay words files paths (Ok text)) (λ files. ReplayJobMeans words files (Ok text))
        (λ files means goes. (Ok paths, means, goes)) listed gives)
        (λ puts is. is) h

-- A file's text is what it holds.
abbrev pub AsItIs : List ℕ → Result (List ℕ) Fault → Type 0
AsItIs bytes = Exactly {V = List ℕ} (Ok bytes)

-- A command over the text of one file, for files that may be told.
module _ (file out : List ℕ) (TextGives : List ℕ → Result (List ℕ) Fault → Type 0) where
  -- a file without a text, and what is made of one
  no_text : (files : Files) (fault : Fault) → RewriteMeans file AsItIs files (Err fault)
      → RewriteMeans file TextGives files (Err fault)
  no_text files fault h = by (read_of 0 LARGEST_FILE (get files file)) h
    where
      by : (read : Result (List ℕ) Fault) → GoesOn read (λ bytes. AsText 0 bytes (AsItIs bytes)) (Err fault)
          → GoesOn read (λ bytes. AsText 0 bytes (TextGives bytes)) (Err fault)
      by (Ok bytes) (inl (valid, same)) = absurd (cc)
      by (Ok bytes) (inr h) = inr h
      by (Err other) h = h

  of_text : (files : Files) (text : List ℕ) (outcome : Result (List ℕ) Fault)
      → RewriteMeans file AsItIs files (Ok text) → TextGives text outcome → RewriteMeans file TextGives files outcome
  of_text files text outcome h gives = by (read_of 0 LARGEST_FILE (get files file)) h
    where
      by : (read : Result (List ℕ) Fault) → GoesOn read (λ bytes. AsText 0 bytes (AsItIs bytes)) (Ok text)
          → GoesOn read (λ bytes. AsText 0 bytes (TextGives bytes)) outcome
      by (Ok bytes) (inl (valid, same)) =
          let alike : text ≡ bytes = cc in inl (valid, subst (λ t. TextGives t outcome) alike gives)
      by (Ok bytes) (inr (invalid, same)) = absurd (cc)
      by (Err other) same = absurd (cc)

  module _ (told : Option Files) where
    pub file_stopped : (stop : Stop) (end : End)
        → IfSome told (λ files. GivesOrStops {T = List ℕ} {V = List ℕ} (λ text. text) (RewriteMeans file AsItIs files)
        (λ unread. unread ≡ file) (Err stop))
        → Stopped (file ∷ []) stop end → Prepares (over_file file out TextGives) told (Err end)
    file_stopped stop end gives h =
        stops_by told (λ files fault. RewriteMeans file TextGives files (Err fault)) (λ fault names. names ≡ file ∷ [])
        (λ files path. path ≡ file) (file ∷ []) stop end
        (cause_of told (λ files fault. RewriteMeans file TextGives files (Err fault)) (λ fault names. names ≡ file ∷ [])
        (λ files path. path ≡ file) {T = List ℕ} {V = List ℕ} (λ text. text) Anything (RewriteMeans file AsItIs)
        (λ files unread. unread ≡ file) (nothing_told told) (λ files fault any means. no_text files fault means)
        (λ files path any is. is) (file ∷ []) (λ fault means. refl) stop gives)
        h

    module _ (text : List ℕ) (read : IfSome told (λ files. RewriteMeans file AsItIs files (Ok text))) where
      given_of : (outcome : Result (List ℕ) Fault) → TextGives text outcome
          → IfSome told (λ files. RewriteMeans file TextGives files outcome)
      given_of outcome gives =
          where_some told (λ files. RewriteMeans file AsItIs files (Ok text))
          (λ files. RewriteMeans file TextGives files outcome) (λ files is. of_text files text outcome is gives) read

      pub file_refused : (refusal : Refusal) (end : End)
          → Tells {T = List ℕ} {V = List ℕ} (λ made. made) (TextGives text) (Err refusal)
          → Stopped (file ∷ []) (stop_of refusal) end → Prepares (over_file file out TextGives) told (Err end)
      file_refused refusal end tells h =
          stops_by told (λ files fault. RewriteMeans file TextGives files (Err fault))
          (λ fault names. names ≡ file ∷ []) (λ files path. path ≡ file) (file ∷ []) (stop_of refusal) end
          (by refusal tells) h
        where
          by : (refusal : Refusal) → Tells {T = List ℕ} {V = List ℕ} (λ made. made) (TextGives text) (Err refusal)
              → Cause told (λ files fault. RewriteMeans file TextGives files (Err fault))
              (λ fault names. names ≡ file ∷ []) (λ files path. path ≡ file) (file ∷ []) (stop_of refusal)
          by (Bad fault) gives = (given_of (Err fault) gives, refl)
          by NoMemory gives = tt

      pub file_prepared : (made : List ℕ) (result : Result (Vec Put Global) End) → TextGives text (Ok made)
          → WritesOrRunsOut out made result → Prepares (over_file file out TextGives) told result
      file_prepared made result gives h =
          written (over_file file out TextGives) out told made result (given_of (Ok made) gives) (λ puts is. is) h
