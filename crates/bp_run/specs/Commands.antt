-- The commands of the program: a row for each.
use Rattle.std.specs.Prelude.{◌≡◌, ℕ, List, [], ◌∷◌, Option, Some, None, Result, IfSome}
use Rattle.bp_faults.specs.declared.fault.Fault.{Fault}
use Rattle.bp_faults.specs.Phases.{Then}
use Rattle.bp_format.specs.Editing.{EditMeans}
use Rattle.bp_format.specs.Meaning.{FormatMeans}
use Rattle.bp_ports.specs.Files.{Files}
use Rattle.bp_props.specs.declared.module.Module.{Module}
use Rattle.command_words.specs.declared.configuration.Build.{Build as BuildWords}
use Rattle.command_words.specs.declared.configuration.Configuration.{Configuration}
use Rattle.command_words.specs.declared.configuration.Configuration.TheVariants.{Build, Replay, Graph, Synth}
use Rattle.command_words.specs.declared.configuration.Configuration.TheVariants.{Format, Edit}
use Rattle.command_words.specs.declared.configuration.Replay.{Replay as ReplayWords}
use Rattle.command_words.specs.declared.configuration.Synth.{Synth as SynthWords}
use Rattle.bp_run.specs.declared.put.Put.{Put}
use Rattle.bp_run.specs.declared.put.Put.TheVariants.{Write, Print}
use Rattle.bp_run.specs.Description.{Description}
use Rattle.bp_run.specs.Job.{BuildGives, GraphGives, SummaryGives, ReplayJobMeans, RewriteMeans, IsJournalOfList}
use Rattle.bp_run.specs.Job.{wanted_of}
use Rattle.bp_run.specs.Tree.{ListLoads, SynthLoads, AreListNames, AreReplayNames, AreSynthNames}
use Rattle.bp_run.specs.Tree.{CannotRead, CannotReplay}

-- The text goes to the output.
abbrev pub ToOutput : Option Files → List ℕ → List Put → Type 0
ToOutput told text puts = puts ≡ Print text ∷ []

-- The text goes to the file of the path.
abbrev pub ToFile : List ℕ → Option Files → List ℕ → List Put → Type 0
ToFile path told text puts = puts ≡ Write path text ∷ []

-- Lines of which this holds go to the file of the path, where there is one.
abbrev pub JournalGoes : (List ℕ → Type 0) → Option (List ℕ) → List Put → Type 0
JournalGoes IsJournal None puts = puts ≡ []
JournalGoes IsJournal (Some path) puts = (lines : List ℕ) × IsJournal lines × (puts ≡ Write path lines ∷ [])

-- The text goes to OUT, and a journal behind it, where one is asked for.
abbrev pub BuildGoes : BuildWords → (List ℕ → Type 0) → List ℕ → List Put → Type 0
BuildGoes words IsJournal text puts =
    (beside : List Put) × JournalGoes IsJournal words.journal beside × (puts ≡ Write words.out text ∷ beside)

-- A command over the modules of a list's files.
abbrev pub over_list :
    List ℕ → (List Module → Result (List ℕ) Fault → Type 0) → (Option Files → List ℕ → List Put → Type 0) → Description
over_list list ModulesGive goes = record {
  paths = list ∷ [];
  gives = λ files. Then (ListLoads list files) ModulesGive;
  goes = goes;
  names = λ told fault. AreListNames list told;
  unread = CannotRead list;
}

-- `build` writes the file for Ninja, and a legal journal where one is asked for.
abbrev pub build_command : BuildWords → Description
build_command words =
    over_list words.list (BuildGives words)
    (λ told. BuildGoes words (λ lines. IfSome told (λ files. IsJournalOfList words files lines)))

-- `synth` makes a tree in memory.
abbrev pub synth_command : SynthWords → Description
synth_command words = record {
  paths = [];
  gives = λ files. Then (SynthLoads words) (SummaryGives words);
  goes = ToOutput;
  names = λ told fault. AreSynthNames words;
  unread = λ files path. ⊥;
}

-- `replay` reads an order file behind the files of the list.
abbrev pub replay_command : ReplayWords → Description
replay_command words = record {
  paths = words.list ∷ words.order ∷ [];
  gives = ReplayJobMeans words;
  goes = ToFile words.out;
  names = λ told fault. AreReplayNames words.list words.order told;
  unread = CannotReplay words.list words.order;
}

-- A command over the text of one file.
abbrev pub over_file : List ℕ → List ℕ → (List ℕ → Result (List ℕ) Fault → Type 0) → Description
over_file file out TextGives = record {
  paths = file ∷ [];
  gives = RewriteMeans file TextGives;
  goes = ToFile out;
  names = λ told fault names. names ≡ file ∷ [];
  unread = λ files path. path ≡ file;
}

-- What each command is.
abbrev pub description_of : Configuration → Description
description_of (Build words) = build_command words
description_of (Replay words) = replay_command words
description_of (Graph words) = over_list words.list (GraphGives words) ToOutput
description_of (Synth words) = synth_command words
description_of (Format words) = over_file words.file words.out (FormatMeans 0)
description_of (Edit words) = over_file words.file words.out (λ text. EditMeans 0 text (wanted_of words))
