-- What an end that was reported says of the call, status by status.
use Rattle.std.proofs.Common.{◌≡◌, ◌⊎◌, ℕ, List, Option, Some, None, Ok, Err, refl, subst, inl, inr}
use Rattle.std.proofs.Common.{arith, lit≤}
use Rattle.std.specs.Prelude.{IfSome, IsNone, IsSomeAnd}
use Rattle.bp_faults.specs.declared.fault.Fault.{Fault}
use Rattle.bp_faults.specs.Phases.{IsOnce}
use Rattle.bp_ports.specs.Files.{Files}
use Rattle.bp_run.specs.declared.end.End.{End}
use Rattle.bp_run.specs.Description.{Description, seen_files}
use Rattle.bp_run.specs.End.{status_of, report_of, IsLineReported, Ended}
use Rattle.bp_run.specs.Run.{Gives, ToldGives, DoneBy, FaultBy, ReadBy, WriteBy, Spares, RunMeans}
use Rattle.bp_run.specs.World.{World, Stream, Quiet}
use Rattle.bp_run.proofs.Putting.{unput_rose}

some_not_none : {X : Type 0} (o : Option X) (P : X → Type 0) → IsSomeAnd o P → IsNone o → ⊥
some_not_none None P h none = h
some_not_none (Some x) P h none = cc

-- what holds of the configuration, by its name
of_conf : {X : Type 0} (o : Option X) (P : X → Type 0) → IsSomeAnd o P → (x : X) → o ≡ Some x → P x
of_conf o P h x is = subst (λ o. IsSomeAnd o P) is h

no_conf : {X : Type 0} (o : Option X) → IsNone o → (x : X) → o ≡ Some x → ⊥
no_conf o none x is = let h : IsNone (Some x) = subst IsNone is none in cc

-- a command of one outcome comes to no text where it comes to a fault
pub apart_of : {C : Type 0} (described : C → Description)
    → ((c : C) (files : Files) → IsOnce ((described c).gives files)) → (c : C) (files : Files) (text : List ℕ)
    (fault : Fault) → (described c).gives files (Ok text) → (described c).gives files (Err fault) → ⊥
apart_of described once c files text fault x y =
    let same : Ok text ≡ Err fault = once c files (Ok text) (Err fault) x y in cc

module _ {C : Type 0} (described : C → Description)
    (apart : (c : C) (files : Files) (text : List ℕ) (fault : Fault) → (described c).gives files (Ok text)
    → (described c).gives files (Err fault) → ⊥) where
  -- a text is no fault, where the store tells its files
  text_no_fault : (c : C) (old : World) (text : List ℕ) (fault : Fault) → Gives (described c) old (Ok text)
      → ToldGives (described c) old (Err fault) → ⊥
  text_no_fault c old text fault x y = by (seen_files (described c) old) x y
    where
      by : (told : Option Files) → IfSome told (λ files. (described c).gives files (Ok text))
          → IsSomeAnd told (λ files. (described c).gives files (Err fault)) → ⊥
      by None x y = absurd y
      by (Some files) x y = apart c files text fault x y

  fault_no_text : (c : C) (old : World) (text : List ℕ) (fault : Fault) → Gives (described c) old (Err fault)
      → ToldGives (described c) old (Ok text) → ⊥
  fault_no_text c old text fault x y = by (seen_files (described c) old) x y
    where
      by : (told : Option Files) → IfSome told (λ files. (described c).gives files (Err fault))
          → IsSomeAnd told (λ files. (described c).gives files (Ok text)) → ⊥
      by None x y = absurd y
      by (Some files) x y = apart c files text fault y x

  module _ (conf : Option C) (old new : World) (before after : Stream) (spares : Spares described conf old new) where
    -- an end of a configuration that there is
    not_refused : (P : C → Type 0) (status : ℕ) → IsSomeAnd conf P → IsNone conf → (status ≡ 2) ⊎ (status ≡ 5)
    not_refused P status some none = absurd (some_not_none conf P some none)

    -- a write or a put that failed raised its count
    not_quiet : (c : C) (line : List ℕ) → WriteBy old new line (described c) → Quiet old new → ⊥
    not_quiet c line (puts, has, fails) quiet = unput_rose puts old new line fails quiet.writes quiet.puts

    pub ended : (end : End) → Ended described conf old new end → IsLineReported (report_of end) before after
        → RunMeans described conf old new before after (status_of end)
    ended End.Done h said = record {
      known = lit≤ tt;
      done = λ e. (h, said);
      fault = λ e. absurd (omega (arith, e));
      usage = λ e. absurd (omega (arith, e));
      refused = not_refused (λ c. DoneBy old new (described c)) 0 h;
      read = λ e. absurd (omega (arith, e));
      write = λ e. absurd (omega (arith, e));
      memory = λ e. absurd (omega (arith, e));
      completes = λ c text is given quiet. inl refl;
      reports = λ c fault is given quiet. let done = of_conf conf (λ c. DoneBy old new (described c)) h c is in
          absurd (text_no_fault c old done.1.0 fault done.1.1 given);
      spares = spares;
    }
    ended (End.Fault line) h said = record {
      known = lit≤ tt;
      done = λ e. absurd (omega (arith, e));
      fault = λ e. (line, h, said);
      usage = λ e. absurd (omega (arith, e));
      refused = not_refused (λ c. FaultBy old new line (described c)) 1 h;
      read = λ e. absurd (omega (arith, e));
      write = λ e. absurd (omega (arith, e));
      memory = λ e. absurd (omega (arith, e));
      completes = λ c text is given quiet. let told = of_conf conf (λ c. FaultBy old new line (described c)) h c is in
          absurd (fault_no_text c old text told.0 told.1 given);
      reports = λ c fault is given quiet. inl refl;
      spares = spares;
    }
    ended End.Usage h said = record {
      known = lit≤ tt;
      done = λ e. absurd (omega (arith, e));
      fault = λ e. absurd (omega (arith, e));
      usage = λ e. (h.0, h.1, said);
      refused = λ none. inl refl;
      read = λ e. absurd (omega (arith, e));
      write = λ e. absurd (omega (arith, e));
      memory = λ e. absurd (omega (arith, e));
      completes = λ c text is given quiet. absurd (no_conf conf h.0 c is);
      reports = λ c fault is given quiet. absurd (no_conf conf h.0 c is);
      spares = spares;
    }
    ended (End.Read line) h said = record {
      known = lit≤ tt;
      done = λ e. absurd (omega (arith, e));
      fault = λ e. absurd (omega (arith, e));
      usage = λ e. absurd (omega (arith, e));
      refused = not_refused (λ c. ReadBy old new line (described c)) 3 h;
      read = λ e. (line, h, said);
      write = λ e. absurd (omega (arith, e));
      memory = λ e. absurd (omega (arith, e));
      completes =
          λ c text is given quiet.
          absurd (quiet.reads (of_conf conf (λ c. ReadBy old new line (described c)) h c is).3);
      reports =
          λ c fault is given quiet.
          absurd (quiet.reads (of_conf conf (λ c. ReadBy old new line (described c)) h c is).3);
      spares = spares;
    }
    ended (End.Write line) h said = record {
      known = lit≤ tt;
      done = λ e. absurd (omega (arith, e));
      fault = λ e. absurd (omega (arith, e));
      usage = λ e. absurd (omega (arith, e));
      refused = not_refused (λ c. WriteBy old new line (described c)) 4 h;
      read = λ e. absurd (omega (arith, e));
      write = λ e. (line, h, said);
      memory = λ e. absurd (omega (arith, e));
      completes = λ c text is given quiet.
          absurd (not_quiet c line (of_conf conf (λ c. WriteBy old new line (described c)) h c is) quiet);
      reports = λ c fault is given quiet.
          absurd (not_quiet c line (of_conf conf (λ c. WriteBy old new line (described c)) h c is) quiet);
      spares = spares;
    }
    ended End.OutOfMemory h said = record {
      known = lit≤ tt;
      done = λ e. absurd (omega (arith, e));
      fault = λ e. absurd (omega (arith, e));
      usage = λ e. absurd (omega (arith, e));
      refused = λ none. inr refl;
      read = λ e. absurd (omega (arith, e));
      write = λ e. absurd (omega (arith, e));
      memory = λ e. (h, said);
      completes = λ c text is given quiet. inr refl;
      reports = λ c fault is given quiet. inr refl;
      spares = spares;
    }
