-- What a read of a real file answers where the system refuses.
use Rattle.std.specs.declared.io.ErrorKind.{ErrorKind}
use Rattle.std.specs.declared.io.ErrorKind.TheVariants.{NotFound, OutOfMemory as NoMemory}
use Rattle.bp_ports.specs.declared.store.ReadError.{ReadError}

-- An open file that can't be read: memory ran out, or the read failed.
abbrev pub read_failure : ErrorKind → ReadError
read_failure NoMemory = ReadError.OutOfMemory
read_failure kind = ReadError.Failed

-- A file that can't be opened: it may be absent too.
abbrev pub open_failure : ErrorKind → ReadError
open_failure NotFound = ReadError.Absent
open_failure kind = read_failure kind
