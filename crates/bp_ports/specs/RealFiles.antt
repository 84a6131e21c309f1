-- What reading and writing a real file comes to, by the file that the system opened.
use Rattle.std.specs.Prelude.{◌≡◌, ℕ, List, Vec, Option, Some, Result, Ok, Err, IfSome}
use Rattle.std.specs.declared.alloc.Global.{Global}
use Rattle.std.specs.declared.io.Error.{Error}
use Rattle.std.specs.Io.KnownBytes.{Appends}
use Rattle.std.specs.IoError.{error_kind}
use Rattle.bp_ports.specs.Files.{ReadGives}
use Rattle.bp_ports.specs.FailedReads.{open_failure}
use Rattle.bp_ports.specs.declared.store.ReadError.{ReadError}

-- What is answered for an open file that tells what remains in it, or for the error of opening it, with a limit on how
-- many bytes are wanted.
abbrev pub OpenedGives : {F : Type 0} → (F → Option (List ℕ)) → Result F Error → ℕ
    → Result (Vec ℕ Global) ReadError → Type 0
OpenedGives remaining (Ok file) limit result = IfSome (remaining file) (λ held. ReadGives (Some held) limit result)
OpenedGives remaining (Err error) limit result = result ≡ Err (open_failure (error_kind error))

-- The system answered an opening in some way, and that way gives this result.
abbrev pub SomeOpeningGives : {F : Type 0} → (F → Option (List ℕ)) → ℕ → Result (Vec ℕ Global) ReadError → Type 0
SomeOpeningGives {F} remaining limit result = (opened : Result F Error) × OpenedGives remaining opened limit result

-- Some file gained all the bytes, in order, behind what it held.
abbrev pub SomeFileGains : {F : Type 0} → (F → Option (List ℕ)) → List ℕ → Type 0
SomeFileGains {F} contents bytes = (before : F) × (after : F) × Appends (contents before) (contents after) bytes
