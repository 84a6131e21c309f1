-- No public contract speaks of it: how workers share a list, of which each takes a half of a half.
use Rattle.std.specs.Prelude.{◌≡◌, ℕ, ◌+◌, ◌<◌, ◌≤◌, ◌^◌, List, ◌++◌, length, map, Result, Ok, Err}
use Rattle.std.specs.List.{All}
use Rattle.std.specs.declared.vec.Vec.{Vec}
use Rattle.std.specs.declared.alloc.Global.{Global}
use Rattle.bp_faults.specs.declared.refusal.Refusal.{Refusal}
use Rattle.bp_faults.specs.declared.refusal.Refusal.TheVariants.{OutOfMemory}
use Rattle.bp_faults.specs.declared.limits.TheConstants.{LARGEST_FILE}
use Rattle.bp_faults.specs.Answers.{Tells}
use Rattle.bp_faults.specs.Phases.{Phase}
use Rattle.bp_load.specs.declared.parsed.Parsed.{Parsed}
use Rattle.bp_load.specs.Trees.{placed_of, sources_given, SourceFileMeans}

-- One list stands behind the other, or memory ran out.
abbrev pub AppendMeans : {T : Type 0} → List T → List T → Result (Vec T Global) Refusal → Type 0
AppendMeans front back (Ok all) = all.items ≡ front ++ back
AppendMeans front back (Err refusal) = refusal ≡ OutOfMemory

-- What two halves come to: the refusal of the first that has one, or what was made of both, in order.
abbrev pub JoinMeans : {T : Type 0} → Result (Vec T Global) Refusal → Result (Vec T Global) Refusal
    → Result (Vec T Global) Refusal → Type 0
JoinMeans (Err refusal) back whole = whole ≡ Err refusal
JoinMeans (Ok front) (Err refusal) whole = whole ≡ Err refusal
JoinMeans (Ok front) (Ok back) whole = AppendMeans front.items back.items whole

-- Files that a worker may parse, the first of which has the number: no number and no file is too large.
abbrev pub CanParse : ℕ → List (List ℕ × Vec ℕ Global) → Type 0
CanParse number files = (number + length files < 2 ^ 32) × All (λ f. length f.1 ≤ LARGEST_FILE) (sources_given files)

-- An answer tells what files mean, the first of which has the number.
abbrev pub TellsTrees : ℕ → List (List ℕ × Vec ℕ Global) → Result (Vec Parsed Global) Refusal → Type 0
TellsTrees number files answer =
    Tells (λ parsed. map placed_of parsed.items) (Phase SourceFileMeans number (sources_given files)) answer
