-- Words that ask for a text in place of a picture.
use Rattle.std.specs.Prelude.{ℕ, List, [], ◌∷◌, Option, Some, None, codes, if◌then◌else◌}
use Rattle.std.specs.Str.{bytes_eq}
use Rattle.graph_picture.specs.declared.end.End.{End}
use Rattle.graph_picture.specs.declared.help.TheConstants.{HELP, VERSION}
use Rattle.graph_picture.specs.Streams.{Stream, Gains, GainsPart}

-- The text that a word asks for.
abbrev pub picture_notice_named : List ℕ → Option (List ℕ)
picture_notice_named word =
    if bytes_eq word (codes "--help") then Some HELP.now
    else if bytes_eq word (codes "--version") then Some VERSION.now
    else None

-- The text that exactly one word asks for in place of a picture.
abbrev pub picture_notice : List (List ℕ) → Option (List ℕ)
picture_notice (word ∷ []) = picture_notice_named word
picture_notice words = None

-- What showing a text on the output comes to: it gained the text, or a first part of it where a put failed.
abbrev pub PictureNoticeMeans : List ℕ → Stream → Stream → End → Type 0
PictureNoticeMeans text old new End.Done = Gains text old new
PictureNoticeMeans text old new End.CannotWrite = GainsPart text old new
PictureNoticeMeans text old new end = ⊥
