-- How a command stops, by what its steps answered.
use Rattle.std.proofs.Common.{ℕ, List, Option, Some, None, Result, Err}
use Rattle.std.specs.Prelude.{IfSome}
use Rattle.bp_faults.specs.declared.fault.Fault.{Fault}
use Rattle.bp_ports.specs.Files.{Files}
use Rattle.bp_run.specs.declared.end.End.{End}
use Rattle.bp_run.specs.declared.stop.Stop.{Stop}
use Rattle.bp_run.specs.Steps.{GivesOrStops, Stopped, StopsBy}

-- what follows of files that are told
pub where_some : {A : Type 0} (o : Option A) (P Q : A → Type 0) → ((x : A) → P x → Q x) → IfSome o P → IfSome o Q
where_some None P Q on h = tt
where_some (Some x) P Q on h = on x h

pub where_both : {A : Type 0} (o : Option A) (P Q R : A → Type 0) → ((x : A) → P x → Q x → R x) → IfSome o P
    → IfSome o Q → IfSome o R
where_both None P Q R on h k = tt
where_both (Some x) P Q R on h k = on x h k

-- nothing is known of files that may be told
pub Anything : Files → Type 0
Anything files = Unit {0}

pub nothing_told : (told : Option Files) → IfSome told Anything
unfolding Anything
nothing_told None = tt
nothing_told (Some files) = tt

module _ (told : Option Files) (Faults : Files → Fault → Type 0) (AreNames : Fault → List (List ℕ) → Type 0)
    (Unread : Files → List ℕ → Type 0) where
  -- what a stop wants of the definitions, where it is reported by these names
  abbrev pub Cause : List (List ℕ) → Stop → Type 0
  Cause names (Stop.Fault fault) = IfSome told (λ files. Faults files fault) × AreNames fault names
  Cause names (Stop.Read path) = IfSome told (λ files. Unread files path)
  Cause names Stop.OutOfMemory = Unit {0}

  pub stops_by : (names : List (List ℕ)) (stop : Stop) (end : End) → Cause names stop → Stopped names stop end
      → StopsBy told Faults AreNames Unread end
  stops_by names (Stop.Fault fault) End.Done cause h = absurd h
  stops_by names (Stop.Fault fault) (End.Fault line) cause h = (fault, cause.0, names, cause.1, h)
  stops_by names (Stop.Fault fault) End.Usage cause h = absurd h
  stops_by names (Stop.Fault fault) (End.Read line) cause h = absurd h
  stops_by names (Stop.Fault fault) (End.Write line) cause h = absurd h
  stops_by names (Stop.Fault fault) End.OutOfMemory cause h = tt
  stops_by names (Stop.Read path) End.Done cause h = absurd h
  stops_by names (Stop.Read path) (End.Fault line) cause h = absurd h
  stops_by names (Stop.Read path) End.Usage cause h = absurd h
  stops_by names (Stop.Read path) (End.Read line) cause h = (path, h, cause)
  stops_by names (Stop.Read path) (End.Write line) cause h = absurd h
  stops_by names (Stop.Read path) End.OutOfMemory cause h = tt
  stops_by names Stop.OutOfMemory End.Done cause h = absurd h
  stops_by names Stop.OutOfMemory (End.Fault line) cause h = absurd h
  stops_by names Stop.OutOfMemory End.Usage cause h = absurd h
  stops_by names Stop.OutOfMemory (End.Read line) cause h = absurd h
  stops_by names Stop.OutOfMemory (End.Write line) cause h = absurd h
  stops_by names Stop.OutOfMemory End.OutOfMemory cause h = tt

  -- the cause of a stop that a step answered, over files of which something is known
  module _ {T V : Type 0} (view : T → V) (Known : Files → Type 0) (Means : Files → Result V Fault → Type 0)
      (May : Files → List ℕ → Type 0) where
    pub cause_of : IfSome told Known
        → ((files : Files) (fault : Fault) → Known files → Means files (Err fault) → Faults files fault)
        → ((files : Files) (path : List ℕ) → Known files → May files path → Unread files path)
        → (names : List (List ℕ))
        → ((fault : Fault) → IfSome told (λ files. Means files (Err fault)) → AreNames fault names) → (stop : Stop)
        → IfSome told (λ files. GivesOrStops view (Means files) (May files) (Err stop)) → Cause names stop
    cause_of known on off names named (Stop.Fault fault) gives = (
      where_both told Known (λ files. Means files (Err fault)) (λ files. Faults files fault) (λ files. on files fault)
          known gives,
      named fault gives,
    )
    cause_of known on off names named (Stop.Read path) gives =
        where_both told Known (λ files. May files path) (λ files. Unread files path) (λ files. off files path) known
        gives
    cause_of known on off names named Stop.OutOfMemory gives = tt

-- the same stop, for a fault that comes of the first
pub stops_on : (told : Option Files) (First Whole : Files → Fault → Type 0)
    (AreNames : Fault → List (List ℕ) → Type 0) (Unread : Files → List ℕ → Type 0)
    → ((files : Files) (fault : Fault) → First files fault → Whole files fault) → (end : End)
    → StopsBy told First AreNames Unread end → StopsBy told Whole AreNames Unread end
stops_on told First Whole AreNames Unread on End.Done h = absurd h
stops_on told First Whole AreNames Unread on (End.Fault line) (fault, first, names, named, is) = (
  fault,
  where_some told (λ files. First files fault) (λ files. Whole files fault) (λ files. on files fault) first,
  names,
  named,
  is,
)
stops_on told First Whole AreNames Unread on End.Usage h = absurd h
stops_on told First Whole AreNames Unread on (End.Read line) h = h
stops_on told First Whole AreNames Unread on (End.Write line) h = absurd h
stops_on told First Whole AreNames Unread on End.OutOfMemory h = tt
