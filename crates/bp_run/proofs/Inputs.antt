-- What a replay reads and what it makes of it, step by step.
use Rattle.std.proofs.Common.{◌≡◌, ◌∙◌, ◌+◌, inl, inr, ℕ, List, Vec, length, sym, refl, ap, subst}
use Rattle.std.proofs.Common.{Option, Some, None, Result, Ok, Err}
use Rattle.std.specs.Prelude.{IfSome}
use Rattle.std.specs.FinMap.{get}
use Rattle.std.specs.Result.{IsErrAnd, IsOk}
use Rattle.std.specs.declared.alloc.Global.{Global}
use Rattle.bp_faults.specs.declared.fault.Fault.{Fault}
use Rattle.bp_faults.specs.declared.limits.TheConstants.{LARGEST_ORDER_FILE}
use Rattle.bp_faults.specs.Answers.{then_do}
use Rattle.bp_faults.specs.Phases.{GoesOn}
use Rattle.bp_ports.specs.Files.{Files}
use Rattle.bp_load.specs.Trees.{Source, sources_given}
use Rattle.command_words.specs.declared.configuration.Replay.{Replay as ReplayWords}
use Rattle.bp_run.specs.declared.command.replay.Inputs.{Inputs}
use Rattle.bp_run.specs.declared.stop.Stop.{Stop}
use Rattle.bp_run.specs.Job.{ListedFilesReplay, SourcesReplay}
use Rattle.bp_run.specs.Steps.{GivesOrStops, Exactly}
use Rattle.bp_run.specs.Tree.{CannotReadOf, CannotReadAlong, order_of, read_of, sources_of, sources_and_order}
use Rattle.bp_run.proofs.Meeting.{Never, meets, stops}
use Rattle.bp_run.proofs.Progress.{Held}

-- what was read
abbrev pub contents : Inputs → List Source × List ℕ
contents inputs = (sources_given inputs.files.items, inputs.order.items)

module _ (paths : List (List ℕ)) (order : List ℕ) where
  abbrev Read : Files → Result Inputs Stop → Type 0
  Read files r =
      GivesOrStops {T = Inputs} {V = List Source × List ℕ} contents (Exactly (sources_and_order files paths order))
      (CannotReadAlong files paths order) r

  -- the order file is read behind the others
  abbrev behind : Files → Result (List Source) Fault → Result (List Source × List ℕ) Fault
  behind files read =
      then_do read (λ sources_given. then_do (order_of files paths order) (λ bytes. Ok (sources_given, bytes)))

  -- a file of the list can't be read, or has a fault
  pub files_fail : (old : Option Files) (e : Stop) (r : Result Inputs Stop) → IsErrAnd r (λ x. x ≡ e)
      → IfSome old (λ files. GivesOrStops {T = Vec Held Global} {V = List Source} (λ read. sources_given read.items)
      (Exactly (sources_of files paths)) (CannotReadOf files paths) (Err e))
      → IfSome old (λ files. Read files r)
  files_fail None e r same h = tt
  files_fail (Some files) e r same h =
      stops {T = Vec Held Global} {U = Inputs} (λ read. sources_given read.items) contents
      (Exactly (sources_of files paths))
      (Exactly (sources_and_order files paths order)) (CannotReadOf files paths) (CannotReadAlong files paths order)
      (λ fault means. ap (behind files) means) (λ path cannot. inl cannot) e r same h

  module _ (old now : Option Files) (same_files : now ≡ old) (number : ℕ) (next : number ≡ length paths + 1)
      (read : List Source) where
    -- the order file can't be read, or has a fault
    pub order_fails : IfSome old (λ files. sources_of files paths ≡ Ok read) → (e : Stop) (r : Result Inputs Stop)
        → IsErrAnd r (λ x. x ≡ e)
        → IfSome now (λ files. GivesOrStops {T = Vec ℕ Global} {V = List ℕ} (λ bytes. bytes.items)
        (Exactly (read_of number LARGEST_ORDER_FILE (get files order))) (λ unread. unread ≡ order) (Err e))
        → IfSome old (λ files. Read files r)
    order_fails got e r same h =
        by old got (subst (λ told. IfSome told (λ files. GivesOrStops {T = Vec ℕ Global} {V = List ℕ}
        (λ bytes. bytes.items) (Exactly (read_of number LARGEST_ORDER_FILE (get files order)))
        (λ unread. unread ≡ order) (Err e))) same_files h)
      where
        by : (told : Option Files) → IfSome told (λ files. sources_of files paths ≡ Ok read)
            → IfSome told (λ files. GivesOrStops {T = Vec ℕ Global} {V = List ℕ} (λ bytes. bytes.items)
            (Exactly (read_of number LARGEST_ORDER_FILE (get files order))) (λ unread. unread ≡ order) (Err e))
            → IfSome told (λ files. Read files r)
        by None got h = tt
        by (Some files) got h =
            stops {T = Vec ℕ Global} {U = Inputs} (λ bytes. bytes.items) contents
            (Exactly (read_of number LARGEST_ORDER_FILE (get files order)))
            (Exactly (sources_and_order files paths order)) (λ unread. unread ≡ order)
            (CannotReadAlong files paths order)
            (λ fault means. ap (behind files) got
            ∙ ap (λ bytes. then_do bytes (λ bytes. Ok (read, bytes)))
            (subst (λ n. read_of n LARGEST_ORDER_FILE (get files order) ≡ Err fault) next means))
            (λ path unread. inr (unread, subst (λ s. IsOk s) (sym got) refl)) e r same h

    -- all is read
    pub all_read : IfSome old (λ files. sources_of files paths ≡ Ok read) → (bytes : List ℕ)
        → IfSome now (λ files. read_of number LARGEST_ORDER_FILE (get files order) ≡ Ok bytes)
        → IfSome old (λ files. sources_and_order files paths order ≡ Ok (read, bytes))
    all_read got bytes h =
        by old got
        (subst (λ told. IfSome told (λ files. read_of number LARGEST_ORDER_FILE (get files order) ≡ Ok bytes))
        same_files h)
      where
        by : (told : Option Files) → IfSome told (λ files. sources_of files paths ≡ Ok read)
            → IfSome told (λ files. read_of number LARGEST_ORDER_FILE (get files order) ≡ Ok bytes)
            → IfSome told (λ files. sources_and_order files paths order ≡ Ok (read, bytes))
        by None got h = tt
        by (Some files) got h =
            ap (behind files) got
            ∙ ap (λ bytes. then_do bytes (λ bytes. Ok (read, bytes)))
            (subst (λ n. read_of n LARGEST_ORDER_FILE (get files order) ≡ Ok bytes) next h)

-- What is made of what was read.
module _ (words : ReplayWords) (paths : List (List ℕ)) where
  abbrev Makes : Files → Result (List ℕ) Stop → Type 0
  Makes files r =
      GivesOrStops {T = List ℕ} {V = List ℕ} (λ text. text) (ListedFilesReplay words files paths)
      (CannotReadAlong files paths words.order) r

  pub reading_failed : (old : Option Files) (e : Stop) (r : Result (List ℕ) Stop) → IsErrAnd r (λ x. x ≡ e)
      → IfSome old (λ files. GivesOrStops {T = Inputs} {V = List Source × List ℕ} contents
      (Exactly (sources_and_order files paths words.order)) (CannotReadAlong files paths words.order) (Err e))
      → IfSome old (λ files. Makes files r)
  reading_failed None e r same h = tt
  reading_failed (Some files) e r same h =
      stops {T = Inputs} {U = List ℕ} contents (λ text. text) (Exactly (sources_and_order files paths words.order))
      (ListedFilesReplay words files paths) (CannotReadAlong files paths words.order)
      (CannotReadAlong files paths words.order)
      (λ fault means. subst (λ s. GoesOn s (SourcesReplay words (length paths + 1)) (Err fault)) (sym means) refl)
      (λ path cannot. cannot) e r same h

  pub read_then_made : (old : Option Files) (number : ℕ) → number ≡ length paths + 1 → (inputs : Inputs)
      → (r : Result (List ℕ) Stop)
      → IfSome old (λ files. sources_and_order files paths words.order ≡ Ok (contents inputs))
      → GivesOrStops {T = List ℕ} {V = List ℕ} (λ text. text) (SourcesReplay words number (contents inputs)) Never r
      → IfSome old (λ files. Makes files r)
  read_then_made None number next inputs r got h = tt
  read_then_made (Some files) number next inputs r got h =
      meets {T = List ℕ} (λ text. text) (SourcesReplay words number (contents inputs))
      (ListedFilesReplay words files paths) Never (CannotReadAlong files paths words.order)
      (λ outcome makes. subst (λ s. GoesOn s (SourcesReplay words (length paths + 1)) outcome) (sym got)
      (subst (λ n. SourcesReplay words n (contents inputs) outcome) next makes))
      (λ path never. absurd never) r h
