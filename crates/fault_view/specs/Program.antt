-- The words of the command line, the exit status, and the line that reports an end.
use Rattle.std.specs.Prelude.{◌≡◌, ◌⊎◌, ℕ, List, [], ◌∷◌, ◌++◌, codes, if◌then◌else◌, Option, Some, None, Result, Ok}
use Rattle.std.specs.Prelude.{Err}
use Rattle.std.specs.Str.{bytes_eq}
use Rattle.std.specs.declared.io.ErrorKind.{ErrorKind}
use Rattle.std.specs.declared.io.ErrorKind.TheVariants.{OutOfMemory as NoMemory}
use Rattle.bp_ports.specs.declared.sink.Sink.{Ghosts as SinkGhosts}
use Rattle.bp_ports.specs.Causes.{Rose}
use Rattle.bp_ports.specs.Files.{WhereTold, AppendsPart}
use Rattle.fault_view.specs.declared.help.TheConstants.{HELP, VERSION}
use Rattle.fault_view.specs.declared.view.End.{End}
use Rattle.fault_view.specs.declared.view.End.TheVariants.{CannotRead, CannotWrite, OutOfMemory}

-- No words are right, and name no list. `-l` and a path name it, and all other words are wrong.
abbrev pub list_option : List (List ℕ) → Option (Option (List ℕ))
list_option [] = Some None
list_option (word ∷ []) = None
list_option (word ∷ list ∷ []) = if bytes_eq word (codes "-l") then Some (Some list) else None
list_option (word ∷ list ∷ more ∷ words) = None

-- The text that a word asks for.
abbrev pub view_notice_named : List ℕ → Option (List ℕ)
view_notice_named word =
    if bytes_eq word (codes "--help") then Some HELP.now
    else if bytes_eq word (codes "--version") then Some VERSION.now
    else None

-- The text that exactly one word asks for in place of a view.
abbrev pub view_notice : List (List ℕ) → Option (List ℕ)
view_notice (word ∷ []) = view_notice_named word
view_notice words = None

-- Each end has a status. Wrong words have the status 2.
abbrev pub view_status : Result Unit End → ℕ
view_status (Ok done) = 0
view_status (Err CannotRead) = 3
view_status (Err CannotWrite) = 4
view_status (Err OutOfMemory) = 5

-- The line that reports an end, which the end of the input has not.
abbrev pub view_report : Result Unit End → Option (List ℕ)
view_report (Ok done) = None
view_report (Err CannotRead) = Some (codes "fault_view: cannot read standard input\n")
view_report (Err CannotWrite) = Some (codes "fault_view: cannot write standard output\n")
view_report (Err OutOfMemory) = Some (codes "fault_view: out of memory\n")

-- The line that reports wrong words.
abbrev pub usage_line : List ℕ
usage_line = codes "usage: fault_view [-l LIST]\n"

-- The status where the words can't be read, by the kind of the system's error.
abbrev pub status_without_words : ErrorKind → ℕ
status_without_words NoMemory = 5
status_without_words kind = 2

-- The line that reports it.
abbrev pub line_without_words : ErrorKind → List ℕ
line_without_words NoMemory = codes "fault_view: out of memory\n"
line_without_words kind = usage_line

-- The text was put on a sink, or a first part of it where the sink's count of failures rose.
abbrev pub Says : {D : Type 0} → SinkGhosts D → List ℕ → D → D → Type 0
Says d text old new =
    WhereTold
    (λ before after. (after ≡ before ++ text) ⊎ (AppendsPart text before after × Rose (d.faults old) (d.faults new)))
    (d.bytes old) (d.bytes new)

-- What showing a text on a sink comes to: the sink gained the text, or a first part of it where a put failed.
abbrev pub ViewNoticeMeans : {O : Type 0} → SinkGhosts O → List ℕ → O → O → Result Unit End → Type 0
ViewNoticeMeans o text old new (Ok done) =
    WhereTold (λ before after. after ≡ before ++ text) (o.bytes old) (o.bytes new)
ViewNoticeMeans o text old new (Err CannotWrite) =
    Rose (o.faults old) (o.faults new) × WhereTold (AppendsPart text) (o.bytes old) (o.bytes new)
ViewNoticeMeans o text old new (Err end) = ⊥

-- The line was put on a sink, where there is one.
abbrev pub IsLineReported : {D : Type 0} → SinkGhosts D → Option (List ℕ) → D → D → Type 0
IsLineReported d None old new = d.bytes new ≡ d.bytes old
IsLineReported d (Some line) old new = Says d line old new
