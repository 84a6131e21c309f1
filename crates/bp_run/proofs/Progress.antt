-- How far files are read: what holds of those that are read, and of the store.
use Rattle.std.proofs.Common.{◌≡◌, ◌≤◌, ◌<◌, ◌+◌, ◌∙◌, ℕ, zero, suc, List, Vec, [], ◌∷◌, ◌++◌, length, map, take}
use Rattle.std.proofs.Common.{get_or, Option, Some, None, Result, Ok, Err, sym, ap, subst, arith}
use Rattle.std.specs.Prelude.{IfSome}
use Rattle.std.specs.List.{All}
use Rattle.std.specs.declared.alloc.Global.{Global}
use Rattle.std.proofs.lemmas.List.{map-append, take_more}
use Rattle.std.proofs.lemmas.List.Elements.{All-append}
use Rattle.bp_faults.specs.declared.fault.Fault.{Fault}
use Rattle.bp_faults.specs.declared.limits.TheConstants.{LARGEST_FILE, LARGEST_TREE}
use Rattle.bp_ports.specs.Files.{Files}
use Rattle.bp_load.specs.Trees.{Source, sources_given}
use Rattle.bp_run.specs.declared.stop.Stop.{Stop}
use Rattle.bp_run.specs.Tree.{CannotReadOf, file_bytes, sources_of}
use Rattle.bp_run.specs.Steps.{GivesOrStops, Exactly}
use Rattle.bp_run.proofs.Reading.{size_of, size_more, read_more, read_fault, read_stop}

-- a file as it is held in memory
abbrev pub Held : Type 0
Held = List ℕ × Vec ℕ Global

-- the files that a store tells, and its counts
pub record Told : Type 0 where
  pub files : Option Files
  pub reads : ℕ
  pub writes : ℕ

-- the first i paths are read
pub record Reads (old now : Told) (paths : List (List ℕ)) (i number size : ℕ) (read : List Held) : Type 0 where
  pub number_is : number ≡ 1 + i
  pub size_is : size ≡ size_of (sources_given read)
  pub bound : size ≤ LARGEST_TREE
  pub names : map (λ f. f.0) (sources_given read) ≡ take i paths
  pub short : All (λ f. length f.1 ≤ LARGEST_FILE) (sources_given read)
  pub gives : IfSome old.files (λ files. sources_of files (take i paths) ≡ Ok (sources_given read))
  pub files : now.files ≡ old.files
  pub later : old.reads ≤ now.reads
  pub writes : now.writes ≡ old.writes

one_short : (s : Source) → length s.1 ≤ LARGEST_FILE → All (λ f. length f.1 ≤ LARGEST_FILE) (s ∷ [])
one_short s short zero d below = short
one_short s short (suc n) d below = absurd (omega arith)

module _ (old now : Told) (paths : List (List ℕ)) (i number size : ℕ) (read : List Held) (path : List ℕ)
    (reads : Reads old now paths i number size read) (within : i < length paths) (is : path ≡ get_or paths i path) where
  abbrev Gives : Result (Vec ℕ Global) Stop → Files → Type 0
  Gives result files =
      GivesOrStops {T = Vec ℕ Global} {V = List ℕ} (λ bytes. bytes.items) (Exactly (file_bytes files number size path))
      (λ unread. unread ≡ path) result

  -- what is said of the numbers that are kept is so of those that are meant
  meant : (files : Files) (r : Result (List ℕ) Fault) → file_bytes files number size path ≡ r
      → file_bytes files (1 + i) (size_of (sources_given read)) path ≡ r
  meant files r h =
      subst (λ s. file_bytes files (1 + i) s path ≡ r) reads.size_is
      (subst (λ n. file_bytes files n size path ≡ r) reads.number_is h)

  stopped_here : (files : Files) → sources_of files (take i paths) ≡ Ok (sources_given read) → (e : Stop)
      → Gives (Err e) files
      → GivesOrStops {T = Vec Held Global} {V = List Source} (λ read. sources_given read.items)
      (Exactly (sources_of files paths)) (CannotReadOf files paths) (Err e)
  stopped_here files done (Stop.Fault fault) h =
      read_fault files paths i (sources_given read) path within is done fault (meant files (Err fault) h)
  stopped_here files done (Stop.Read unread) h =
      subst (CannotReadOf files paths) (sym h) (read_stop files paths i (sources_given read) path within is done)
  stopped_here files done Stop.OutOfMemory h = tt

  -- a path whose file has a fault or can't be read
  pub stopped : (e : Stop) → IfSome now.files (Gives (Err e))
      → IfSome old.files
      (λ files. GivesOrStops {T = Vec Held Global} {V = List Source} (λ read. sources_given read.items)
      (Exactly (sources_of files paths)) (CannotReadOf files paths) (Err e))
  stopped e h = by old.files reads.gives (subst (λ m. IfSome m (Gives (Err e))) reads.files h)
    where
      by : (told : Option Files) → IfSome told (λ files. sources_of files (take i paths) ≡ Ok (sources_given read))
          → IfSome told (Gives (Err e))
          → IfSome told
          (λ files. GivesOrStops {T = Vec Held Global} {V = List Source} (λ read. sources_given read.items)
          (Exactly (sources_of files paths)) (CannotReadOf files paths) (Err e))
      by None done h = tt
      by (Some files) done h = stopped_here files done e h

  -- a path whose file is read
  pub one_read : (bytes : Vec ℕ Global) (count : ℕ) → count ≡ length bytes.items → (next : Told) (more : List Held)
      → more ≡ read ++ (path, bytes) ∷ [] → length bytes.items ≤ LARGEST_FILE → size + length bytes.items ≤ LARGEST_TREE
      → IfSome now.files (Gives (Ok bytes)) → next.files ≡ now.files → now.reads ≤ next.reads → next.writes ≡ now.writes
      → Reads old next paths (i + 1) (number + 1) (size + count) more
  one_read bytes count count_is next more more_is short bound h files later writes =
      let front : sources_given more ≡ sources_given read ++ (path, bytes.items) ∷ [] = ap sources_given more_is
      ∙ map-append (λ f. (f.0, f.1.items)) read ((path, bytes) ∷ []) in
      record {
        number_is = omega (arith, reads.number_is);
        size_is = omega (arith, count_is, reads.size_is, size_more (sources_given read) (path, bytes.items))
            ∙ ap size_of (sym front);
        bound = omega (arith, count_is, bound);
        names =
            ap (map (λ f. f.0)) front ∙ map-append (λ f. f.0) (sources_given read) ((path, bytes.items) ∷ [])
            ∙ ap (λ names. names ++ path ∷ []) reads.names
            ∙ ap (λ p. take i paths ++ p ∷ []) is ∙ sym (take_more paths i path within);
        short = subst (All (λ f. length f.1 ≤ LARGEST_FILE)) (sym front)
            (All-append (λ f. length f.1 ≤ LARGEST_FILE) (sources_given read) ((path, bytes.items) ∷ []) reads.short
            (one_short (path, bytes.items) short));
        gives = by old.files reads.gives (subst (λ m. IfSome m (Gives (Ok bytes))) reads.files h);
        files = files ∙ reads.files;
        later = omega (arith, reads.later, later);
        writes = writes ∙ reads.writes;
      }
    where
      by : (told : Option Files) → IfSome told (λ files. sources_of files (take i paths) ≡ Ok (sources_given read))
          → IfSome told (Gives (Ok bytes))
          → IfSome told (λ files. sources_of files (take (i + 1) paths) ≡ Ok (sources_given more))
      by None done h = tt
      by (Some files) done h =
          read_more files paths i (sources_given read) path within is done bytes.items (meant files (Ok bytes.items) h)
          ∙ ap Ok (sym (ap sources_given more_is ∙ map-append (λ f. (f.0, f.1.items)) read ((path, bytes) ∷ [])))
