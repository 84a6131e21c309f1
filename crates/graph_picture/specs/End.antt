-- How a call ends: its exit status, and the line that reports it.
use Rattle.std.specs.Prelude.{◌≡◌, ℕ, List, ◌++◌, codes, Option, Some, None, ⊤}
use Rattle.std.specs.Fmt.{decimal}
use Rattle.std.specs.declared.io.ErrorKind.{ErrorKind}
use Rattle.std.specs.declared.io.ErrorKind.TheVariants.{OutOfMemory as NoMemory}
use Rattle.graph_picture.specs.declared.end.End.{End}
use Rattle.graph_picture.specs.declared.picture.PictureError.{PictureError}
use Rattle.graph_picture.specs.declared.picture.PictureError.TheVariants.{BadLine, NoModule, OutOfMemory}
use Rattle.graph_picture.specs.Streams.{Stream, Says, SaysNothing}

-- The exit status of an end.
abbrev pub status_of : End → ℕ
status_of End.Done = 0
status_of (End.Fault line) = 1
status_of End.Usage = 2
status_of End.CannotRead = 3
status_of End.CannotWrite = 4
status_of End.OutOfMemory = 5

-- The line that reports an end.
abbrev pub report_of : End → Option (List ℕ)
report_of End.Done = None
report_of (End.Fault line) = Some line
report_of End.Usage = Some (codes "usage: graph_picture [MODULE [DEPTH]]\n")
report_of End.CannotRead = Some (codes "graph_picture: cannot read standard input\n")
report_of End.CannotWrite = Some (codes "graph_picture: cannot write standard output\n")
report_of End.OutOfMemory = Some (codes "graph_picture: out of memory\n")

-- The line was put on the stream, where there is one.
abbrev pub IsLineReported : Option (List ℕ) → Stream → Stream → Type 0
IsLineReported None old new = SaysNothing old new
IsLineReported (Some line) old new = Says line old new

-- The line of a fault of the input, by the name of the module in focus.
abbrev pub IsFaultLine : PictureError → List ℕ → List ℕ → Type 0
IsFaultLine (BadLine number) owner line = line ≡ codes "graph_picture: bad line " ++ (decimal number ++ codes "\n")
IsFaultLine NoModule owner line = line ≡ codes "graph_picture: no module " ++ (owner ++ codes "\n")
IsFaultLine OutOfMemory owner line = ⊥

-- The end where there is no picture.
abbrev pub EndsWithout : PictureError → List ℕ → End → Type 0
EndsWithout error owner (End.Fault line) = IsFaultLine error owner line
EndsWithout error owner End.OutOfMemory = ⊤
EndsWithout error owner end = ⊥

-- How a call ends whose words can't be read, by the kind of the system's error.
abbrev pub end_without_words : ErrorKind → End
end_without_words NoMemory = End.OutOfMemory
end_without_words kind = End.Usage
