-- The measure of this crate: the file that a text for Ninja stands for, or the first line that is refused. Ninja
-- manual, "Ninja file reference"; the profile is in docs/NINJA.md.
use Rattle.std.specs.Prelude.{◌≡◌, ℕ, ⊤, Bool, false, ◌||◌, List, [], ◌∷◌, ◌++◌, Option, Some, None}
use Rattle.std.specs.Prelude.{option_map, option_and_then, Result, Ok, Err, codes, if◌then◌else◌}
use Rattle.std.specs.Str.{bytes_eq}
use Rattle.ninja_lines.specs.Meaning.{JoinedLine, joined_lines}
use Rattle.ninja_file.specs.declared.file.NinjaFile.{NinjaFile}
use Rattle.ninja_file.specs.declared.file.Statement.{Statement}
use Rattle.ninja_read.specs.declared.reader.NinjaError.{NinjaError}
use Rattle.ninja_read.specs.declared.reader.NinjaError.TheVariants.{BadLine, OutOfMemory}
use Rattle.ninja_read.specs.Heads.{Form, no_form, skipped, a_binding, a_rule, a_build, a_default, form_of}
use Rattle.ninja_read.specs.Heads.{build_statement, defaults_of, rule_name_of, binding_of}
use Rattle.ninja_read.specs.Book.{Book, no_book, has_text, with_rule, with_statement, with_defaults, with_binding}
use Rattle.ninja_read.specs.Book.{statements_of, outs_of_book, book_file}

-- What a line of a form makes of the lines so far; nothing where it is refused.
abbrev pub with_form : ℕ → Bool → Book → List ℕ → Form → Option Book
with_form number has_command book text no_form = None
with_form number has_command book text skipped = Some book
with_form number has_command book text a_binding = option_and_then (with_binding book) (binding_of text)
with_form number has_command book text (a_rule rest) =
    option_and_then (with_rule has_command book) (rule_name_of rest)
with_form number has_command book text (a_build rest) =
    option_and_then (with_statement number book) (build_statement rest)
with_form number has_command book text (a_default rest) = option_map (with_defaults number book) (defaults_of rest)

-- What a line makes of the lines so far: one that isn't UTF-8 is refused.
abbrev pub with_line : ℕ → Option (List ℕ) → Bool → Book → Option Book
with_line number None has_command book = None
with_line number (Some text) has_command book = with_form number has_command book text (form_of text)

-- The key of a binding is `command`.
abbrev pub is_command : Option (List ℕ × List ℕ) → Bool
is_command None = false
is_command (Some binding) = bytes_eq binding.0 (codes "command")

-- A line of a form binds `command`, or the lines behind it do, up to the next rule or statement.
abbrev pub binds_command_by : Form → List ℕ → Bool → Bool
binds_command_by no_form text behind = behind
binds_command_by skipped text behind = behind
binds_command_by a_binding text behind = is_command (binding_of text) || behind
binds_command_by (a_rule rest) text behind = false
binds_command_by (a_build rest) text behind = false
binds_command_by (a_default rest) text behind = behind

-- A line that isn't UTF-8 binds nothing.
abbrev pub binds_command_in : Option (List ℕ) → Bool → Bool
binds_command_in None behind = behind
binds_command_in (Some text) behind = binds_command_by (form_of text) text behind

-- A line binds `command` before the next rule or statement, also where its value is refused.
abbrev pub binds_command : List JoinedLine → Bool
binds_command [] = false
binds_command (line ∷ more) = binds_command_in line.text (binds_command more)

-- The book behind a line, or the refusal of the line.
abbrev pub or_stop : Option Book → ℕ → Book → (Book → Book × Option ℕ) → Book × Option ℕ
or_stop None number book go_on = (book, Some number)
or_stop (Some new) number book go_on = go_on new

-- The book of lines up to the first that is refused, and that line.
abbrev pub read_lines : Book → List JoinedLine → Book × Option ℕ
read_lines book [] = (book, None)
read_lines book (line ∷ more) =
    or_stop (with_line line.number line.text (binds_command more) book) line.number book (λ new. read_lines new more)

-- One of the outs was named before.
abbrev pub repeats : List (List ℕ) → List (List ℕ) → Bool
repeats seen [] = false
repeats seen (out ∷ outs) = has_text seen out || repeats (seen ++ out ∷ []) outs

-- The first statement that names an out again.
abbrev pub repeated_out : List (List ℕ) → List (ℕ × Statement) → Option ℕ
repeated_out seen [] = None
repeated_out seen (statement ∷ more) =
    if repeats seen statement.1.outs then Some statement.0 else repeated_out (seen ++ statement.1.outs) more

-- The first default that is no out.
abbrev pub stray : List (List ℕ) → List (ℕ × List ℕ) → Option ℕ
stray outs [] = None
stray outs (path ∷ more) = if has_text outs path.1 then stray outs more else Some path.0

-- The first of two lines that may be there.
abbrev pub or_line : Option ℕ → Option ℕ → Option ℕ
or_line None other = other
or_line (Some line) other = Some line

-- The line that is refused, if any. A statement that names an out again stands before the line at which reading
-- stopped. Defaults are tested last.
abbrev pub refused_line : Book → Option ℕ → Option ℕ
refused_line book stop =
    or_line (repeated_out [] (statements_of book)) (or_line stop (stray (outs_of_book book) book.defaults))

-- A file, unless a line is refused.
abbrev pub unless_refused : Option ℕ → NinjaFile → Result NinjaFile ℕ
unless_refused None file = Ok file
unless_refused (Some line) file = Err line

-- What the lines stand for, up to the one at which reading stopped.
abbrev pub answer : Book × Option ℕ → Result NinjaFile ℕ
answer read = unless_refused (refused_line read.0 read.1) (book_file read.0)

-- The file that a text stands for, or the first line that is refused.
abbrev pub reading : List ℕ → Result NinjaFile ℕ
reading text = answer (read_lines no_book (joined_lines text))

-- What a reader answers: the file that is meant, the line that is refused, or that memory ran out.
abbrev pub Reads : Result NinjaFile NinjaError → Result NinjaFile ℕ → Type 0
Reads (Ok file) meant = meant ≡ Ok file
Reads (Err (BadLine line)) meant = meant ≡ Err line
Reads (Err OutOfMemory) meant = ⊤
