-- What a step of a command answers, for what its definition gives. Only the contracts of steps speak of it.
use Rattle.std.specs.Prelude.{◌≡◌, ℕ, ◌≤◌, List, [], ◌∷◌, Vec, Option, Result, Ok, Err, IfSome, ⊤}
use Rattle.std.specs.declared.alloc.Global.{Global}
use Rattle.bp_faults.specs.declared.fault.Fault.{Fault}
use Rattle.bp_faults.specs.declared.refusal.Refusal.{Refusal}
use Rattle.bp_faults.specs.declared.refusal.Refusal.TheVariants.{Bad, OutOfMemory as NoMemory}
use Rattle.bp_faults.specs.Line.{line_of}
use Rattle.bp_ports.specs.Causes.{Rose}
use Rattle.bp_ports.specs.Files.{Files}
use Rattle.bp_props.specs.declared.module.Module.{Module}
use Rattle.bp_pipeline.specs.declared.generated.Generated.{Generated}
use Rattle.bp_pipeline.specs.Generated.{AreSizes, IsStatementCount}
use Rattle.command_words.specs.declared.configuration.Synth.{Synth as SynthWords}
use Rattle.synthetic_tree.specs.declared.summary.Summary.{Summary}
use Rattle.bp_run.specs.declared.end.End.{End}
use Rattle.bp_run.specs.declared.put.Put.{Put}
use Rattle.bp_run.specs.declared.put.Put.TheVariants.{Write}
use Rattle.bp_run.specs.declared.stop.Stop.{Stop}
use Rattle.bp_run.specs.declared.tree.Tree.{Tree}
use Rattle.bp_run.specs.Description.{Description}
use Rattle.bp_run.specs.Job.{IsSummary, synth_config}
use Rattle.bp_run.specs.Lines.{read_line}
use Rattle.bp_run.specs.Tree.{ListFileMeans, ListedFilesLoad, ListLoads, AreListNames, CannotRead}

-- A layer's refusal, as the job hands it on.
abbrev pub stop_of : Refusal → Stop
stop_of (Bad fault) = Stop.Fault fault
stop_of NoMemory = Stop.OutOfMemory

-- The answer is what is meant. It may be a path that can't be read, of which `may_stop` holds, and memory may run out.
abbrev pub GivesOrStops :
    {T V : Type 0} → (T → V) → (Result V Fault → Type 0) → (List ℕ → Type 0) → Result T Stop → Type 0
GivesOrStops view Means may_stop (Ok value) = Means (Ok (view value))
GivesOrStops view Means may_stop (Err (Stop.Fault fault)) = Means (Err fault)
GivesOrStops view Means may_stop (Err (Stop.Read path)) = may_stop path
GivesOrStops view Means may_stop (Err Stop.OutOfMemory) = ⊤

-- The answer is what is meant, or memory runs out: nothing is read.
abbrev pub GivesOrRunsOut : {T V : Type 0} → (T → V) → (Result V Fault → Type 0) → Result T Stop → Type 0
GivesOrRunsOut view Means result = GivesOrStops view Means (λ path. ⊥) result

-- It is exactly this that is meant.
abbrev pub Exactly : {V : Type 0} → Result V Fault → Result V Fault → Type 0
Exactly meant outcome = meant ≡ outcome

-- `Read` comes only where the count of failed reads rose, which never falls.
abbrev pub OnRead : {T : Type 0} → Result T Stop → Type 0 → Type 0
OnRead (Ok value) P = ⊤
OnRead (Err (Stop.Fault fault)) P = ⊤
OnRead (Err (Stop.Read path)) P = P
OnRead (Err Stop.OutOfMemory) P = ⊤

-- The cause of a path that can't be read.
pub record ReadCause {T : Type 0} (before now : ℕ) (result : Result T Stop) : Type 0 where
  pub later : before ≤ now
  pub rose : OnRead result (Rose before now)

-- The numbers are those of modules of which this was generated.
abbrev pub Summarizes : SynthWords → Generated → Summary → Type 0
Summarizes words made summary =
    (typed : List Module) → AreSizes typed synth_config made.sizes
    → IsStatementCount typed synth_config made.statements → IsSummary words typed made.ninja summary

-- The texts with their places are what is meant: a text that is given goes so.
abbrev pub MakesPuts :
    (Result (List ℕ) Fault → Type 0) → (List ℕ → List Put → Type 0) → Result (Vec Put Global) Refusal → Type 0
MakesPuts TextGives Goes (Ok puts) = (text : List ℕ) × TextGives (Ok text) × Goes text puts.items
MakesPuts TextGives Goes (Err (Bad fault)) = TextGives (Err fault)
MakesPuts TextGives Goes (Err NoMemory) = ⊤

-- The same where a step before may stop, but not by a path that can't be read.
abbrev pub MakesOrStops :
    (Result (List ℕ) Fault → Type 0) → (List ℕ → List Put → Type 0) → Result (Vec Put Global) Stop → Type 0
MakesOrStops TextGives Goes (Ok puts) = (text : List ℕ) × TextGives (Ok text) × Goes text puts.items
MakesOrStops TextGives Goes (Err (Stop.Fault fault)) = TextGives (Err fault)
MakesOrStops TextGives Goes (Err (Stop.Read path)) = ⊥
MakesOrStops TextGives Goes (Err Stop.OutOfMemory) = ⊤

-- The text goes to the file of the path, or memory ran out.
abbrev pub WritesOrRunsOut : List ℕ → List ℕ → Result (Vec Put Global) End → Type 0
WritesOrRunsOut path text (Ok puts) = puts.items ≡ Write path text ∷ []
WritesOrRunsOut path text (Err End.OutOfMemory) = ⊤
WritesOrRunsOut path text (Err end) = ⊥

-- How a job's stop is reported, by the paths of the files.
abbrev pub Stopped : List (List ℕ) → Stop → End → Type 0
Stopped paths (Stop.Fault fault) (End.Fault line) = line ≡ line_of fault paths
Stopped paths (Stop.Read path) (End.Read line) = line ≡ read_line path
Stopped paths stop End.OutOfMemory = ⊤
Stopped paths stop end = ⊥

-- How a command ends before anything is put, over files that may be told: by a fault and its names, by a path that
-- couldn't be read, or since memory ran out.
abbrev pub StopsBy : Option Files → (Files → Fault → Type 0) → (Fault → List (List ℕ) → Type 0)
    → (Files → List ℕ → Type 0) → End → Type 0
StopsBy told Faults AreNames Unread (End.Fault line) =
    (fault : Fault) × IfSome told (λ files. Faults files fault)
    × (names : List (List ℕ)) × AreNames fault names × (line ≡ line_of fault names)
StopsBy told Faults AreNames Unread (End.Read line) =
    (path : List ℕ) × (line ≡ read_line path) × IfSome told (λ files. Unread files path)
StopsBy told Faults AreNames Unread End.OutOfMemory = ⊤
StopsBy told Faults AreNames Unread end = ⊥

-- What a command answers before anything is put, over files that may be told.
abbrev pub Prepares : Description → Option Files → Result (Vec Put Global) End → Type 0
Prepares d told (Ok puts) =
    (text : List ℕ) × IfSome told (λ files. d.gives files (Ok text)) × d.goes told text puts.items
Prepares d told (Err end) = StopsBy told (λ files fault. d.gives files (Err fault)) (d.names told) d.unread end

-- What loading the tree of a list answers, over files that may be told.
abbrev pub LoadsTree : List ℕ → Option Files → Result Tree End → Type 0
LoadsTree list told (Ok tree) =
    IfSome told (λ files. ListFileMeans list files (Ok tree.paths.items)
    × ListedFilesLoad files tree.paths.items (Ok tree.typed.items))
LoadsTree list told (Err end) =
    StopsBy told (λ files fault. ListLoads list files (Err fault)) (λ fault. AreListNames list told)
    (CannotRead list) end

-- An end by a path that couldn't be read comes only where the count of failed reads rose, which never falls.
abbrev pub OnReadEnd : {T : Type 0} → Result T End → Type 0 → Type 0
OnReadEnd (Err (End.Read line)) P = P
OnReadEnd result P = ⊤

-- The cause of an end by a path that couldn't be read.
pub record ReadEnds {T : Type 0} (before now : ℕ) (result : Result T End) : Type 0 where
  pub later : before ≤ now
  pub rose : OnReadEnd result (Rose before now)
