-- What reading the input comes to.
use Rattle.std.specs.Prelude.{◌≡◌, ◌<◌, ◌≤◌, ◌⊎◌, ℕ, List, length, Vec, Option, Result, Ok, Err, IfSome, ⊤}
use Rattle.std.specs.declared.alloc.Global.{Global}
use Rattle.std.specs.Io.Take.{take_inner}
use Rattle.bp_ports.specs.Causes.{Rose}
use Rattle.graph_picture.specs.declared.end.End.{End}
use Rattle.graph_picture.specs.declared.end.End.TheVariants.{CannotRead, OutOfMemory}
use Rattle.graph_picture.specs.declared.input.Counted.{Counted}
use Rattle.graph_picture.specs.declared.input.Unread.{Unread}
use Rattle.graph_picture.specs.declared.input.Unread.TheVariants.{TooLarge, Failed, OutOfMemory as NoMemory}

-- The reader that gives the bytes.
abbrev pub reader_of : {R : Type 0} → Counted R → R
reader_of s = take_inner s.reader

-- How many reads failed.
abbrev pub failed_reads : {R : Type 0} → Counted R → ℕ
failed_reads s = s.faults

-- What a read answers of the bytes that are left, with a limit on how many are wanted.
abbrev pub GivesAll : ℕ → List ℕ → Result (Vec ℕ Global) Unread → Type 0
GivesAll limit bytes (Ok all) = all.items ≡ bytes
GivesAll limit bytes (Err TooLarge) = limit < length bytes
GivesAll limit bytes (Err Failed) = ⊤
GivesAll limit bytes (Err NoMemory) = ⊤

-- The input can't be read where a read failed, or where it has too many bytes.
abbrev pub IsUnread : Option (List ℕ) → ℕ → ℕ → Type 0
IsUnread told before now = Rose before now ⊎ IfSome told (λ bytes. 536870912 < length bytes)

-- What reading the input comes to, by the bytes that it tells and its counts of failed reads.
abbrev pub InputMeans : Option (List ℕ) → ℕ → ℕ → Result (Vec ℕ Global) End → Type 0
InputMeans told before now (Ok all) = (length all.items ≤ 536870912) × IfSome told (λ bytes. all.items ≡ bytes)
InputMeans told before now (Err CannotRead) = IsUnread told before now
InputMeans told before now (Err OutOfMemory) = ⊤
InputMeans told before now (Err end) = ⊥
