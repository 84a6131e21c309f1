-- What listing a real directory answers where the system refuses.
use Rattle.std.specs.declared.io.ErrorKind.{ErrorKind}
use Rattle.std.specs.declared.io.ErrorKind.TheVariants.{NotFound, NotADirectory, OutOfMemory as NoMemory}
use Rattle.bp_ports.specs.declared.store.ListError.{ListError}

-- An entry that can't be read: memory ran out, or the list failed.
abbrev pub entry_failure : ErrorKind → ListError
entry_failure NoMemory = ListError.OutOfMemory
entry_failure kind = ListError.Failed

-- A directory that can't be opened: it may be absent too, as where a file has its path.
abbrev pub dir_failure : ErrorKind → ListError
dir_failure NotFound = ListError.Absent
dir_failure NotADirectory = ListError.Absent
dir_failure kind = entry_failure kind
