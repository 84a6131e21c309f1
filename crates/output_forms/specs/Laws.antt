-- What holds of all records, graphs and files.
use Rattle.std.specs.Prelude.{◌≡◌, ◌≤◌, ℕ, List, length, map, IsUtf8, Result, Ok}
use Rattle.bp_faults.specs.declared.limits.TheConstants.{MOST_MODULES}
use Rattle.bp_load.specs.ListFile.{ListMeans}
use Rattle.bp_load.specs.Loaded.{LoadMeans}
use Rattle.bp_load.specs.Trees.{Source}
use Rattle.bp_props.specs.declared.fields.GroupProps.{GroupProps}
use Rattle.bp_props.specs.declared.kind.ModuleKind.{ModuleKind}
use Rattle.bp_props.specs.declared.module.Module.{Module}
use Rattle.bp_props.specs.declared.props.Props.{Props}
use Rattle.bp_props.specs.Records.{props_appended, props_followed, props_over, props_restricted}
use Rattle.bp_pipeline.specs.Course.{GraphAfter}
use Rattle.bp_pipeline.specs.Generated.{FileMeans, TextMeans}
use Rattle.bp_pipeline.specs.Passes.{StepMeans, pass_at}
use Rattle.build_actions.specs.declared.actions.Actions.{Actions}
use Rattle.build_actions.specs.Acts.{acts_at}
use Rattle.build_actions.specs.File.{file_of_actions}
use Rattle.graph_nodes.specs.declared.graph.Node.{Node}
use Rattle.module_graph.specs.declared.direction.Direction.TheVariants.{BottomUp}
use Rattle.module_graph.specs.Graphs.{IsNumbered, IsValid}
use Rattle.module_graph.specs.Planned.{plan_of}
use Rattle.mutator_rules.specs.declared.config.Config.{Config}
use Rattle.mutator_rules.specs.Configs.{TargetsDiffer}
use Rattle.ninja_file.specs.declared.file.NinjaFile.{NinjaFile}
use Rattle.ninja_file.specs.Meaning.{IsWellFormed}
use Rattle.ninja_read.specs.declared.reader.NinjaError.{NinjaError}
use Rattle.ninja_read.specs.Meaning.{reading, Reads}
use Rattle.ninja_text.specs.Meaning.{ReadBackMeans}
use Rattle.serial_pass.specs.Outcomes.{PassOutcomeMeans}
use Rattle.output_forms.specs.Forms.{HasTexts, HasSoundTexts, HaveForms, AreSound, MayBeListed, AreFormed}

-- What merging makes of sound records is sound, and so is what restriction leaves.
pub record MergesKeepTexts : Type 0 where
  pub appended : (p : Props) (g : GroupProps) → HasSoundTexts p → HasTexts g → HasSoundTexts (props_appended p g)
  pub followed : (p q : Props) → HasSoundTexts p → HasSoundTexts q → HasSoundTexts (props_followed p q)
  pub over : (p q : Props) → HasSoundTexts p → HasSoundTexts q → HasSoundTexts (props_over p q)
  pub restricted : (kind : ModuleKind) (p : Props) → HasSoundTexts p → HasSoundTexts (props_restricted kind p)

-- Each pass keeps the forms of a graph.
abbrev pub PassesKeepForms : Type 0
PassesKeepForms = (mods : List Module) (c : Config) (p : ℕ) (nodes new : List (Node Props)) → HaveForms nodes
    → StepMeans mods c (pass_at p) nodes (Ok new) → HaveForms new

-- The nodes of each graph on the way have forms, where the records of the modules are sound.
abbrev pub GraphsHaveForms : Type 0
GraphsHaveForms = (mods : List Module) (c : Config) (k : ℕ) (nodes : List (Node Props)) → AreSound mods
    → GraphAfter mods c k (Ok nodes) → HaveForms nodes

-- Files whose paths a list gives may be listed.
abbrev pub ListedFilesMayBeListed : Type 0
ListedFilesMayBeListed = (bytes : List ℕ) (paths : List (List ℕ)) (files : List Source) → ListMeans bytes (Ok paths)
    → map (λ (f : Source). f.0) files ≡ paths → MayBeListed files

-- Files that may be listed load as modules that can be written and are told by their names.
abbrev pub LoadedModulesAreFormed : Type 0
LoadedModulesAreFormed =
    (files : List Source) (mods : List Module) → MayBeListed files → LoadMeans files (Ok mods) → AreFormed mods

-- Each graph on the way is valid, and its nodes and edges are numbered.
abbrev pub GraphsAreValid : Type 0
GraphsAreValid = (mods : List Module) (c : Config) (k : ℕ) (nodes : List (Node Props)) → length mods ≤ MOST_MODULES
    → TargetsDiffer c → GraphAfter mods c k (Ok nodes) → IsValid nodes × IsNumbered nodes

-- The file of what is done at the nodes of a graph on the way is well formed, where the modules are formed.
abbrev pub FilesOfGraphsAreWellFormed : Type 0
FilesOfGraphsAreWellFormed = (mods : List Module) (c : Config) (k : ℕ) (nodes : List (Node Props)) (made : List Actions)
    → AreFormed mods → TargetsDiffer c → GraphAfter mods c k (Ok nodes)
    → PassOutcomeMeans (acts_at mods nodes) (plan_of BottomUp nodes) (Ok made) → IsWellFormed (file_of_actions made)

-- The file that is generated of formed modules is well formed.
abbrev pub GeneratedFilesAreWellFormed : Type 0
GeneratedFilesAreWellFormed = (mods : List Module) (c : Config) (file : NinjaFile)
    → AreFormed mods → TargetsDiffer c → FileMeans mods c (Ok file) → IsWellFormed file

-- So is that of modules which were loaded of files that may be listed.
abbrev pub FilesOfTreesAreWellFormed : Type 0
FilesOfTreesAreWellFormed = (files : List Source) (mods : List Module) (c : Config) (file : NinjaFile)
    → MayBeListed files → LoadMeans files (Ok mods) → TargetsDiffer c → FileMeans mods c (Ok file) → IsWellFormed file

-- A reader's answer is the file that is generated, which is well formed, or that memory ran out.
abbrev pub ReadsGenerated : List Module → Config → Result NinjaFile NinjaError → Type 0
ReadsGenerated mods c answer =
    (file : NinjaFile) × FileMeans mods c (Ok file) × IsWellFormed file × ReadBackMeans file answer

-- Whatever `read` answers of the text that is generated of formed modules is that file, but for memory.
abbrev pub GeneratedTextsAreReadBack : Type 0
GeneratedTextsAreReadBack = (mods : List Module) (c : Config) (text : List ℕ) (answer : Result NinjaFile NinjaError)
    → AreFormed mods → TargetsDiffer c → TextMeans mods c (Ok text) → IsUtf8 text
    → Reads answer (reading text) → ReadsGenerated mods c answer

-- So it is of modules which were loaded of files that may be listed.
abbrev pub TextsOfTreesAreReadBack : Type 0
TextsOfTreesAreReadBack =
    (files : List Source) (mods : List Module) (c : Config) (text : List ℕ) (answer : Result NinjaFile NinjaError)
    → MayBeListed files → LoadMeans files (Ok mods) → TargetsDiffer c → TextMeans mods c (Ok text) → IsUtf8 text
    → Reads answer (reading text) → ReadsGenerated mods c answer
