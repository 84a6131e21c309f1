-- What a call of the program comes to: of its input, and of its output before and after.
use Rattle.std.specs.Prelude.{◌≡◌, ℕ, List, [], Option, Some, None, IfSome, Err}
use Rattle.graph_picture.specs.declared.end.End.{End}
use Rattle.graph_picture.specs.declared.focus.Focus.{Focus}
use Rattle.graph_picture.specs.declared.picture.PictureError.{PictureError}
use Rattle.graph_picture.specs.declared.words.Asked.{Asked}
use Rattle.graph_picture.specs.End.{IsFaultLine}
use Rattle.graph_picture.specs.Input.{IsUnread}
use Rattle.graph_picture.specs.Picture.{IsPicture, PictureMeans}
use Rattle.graph_picture.specs.Streams.{Stream, Gains, GainsPart, SaysNothing}
use Rattle.graph_picture.specs.Words.{WordsMean}

-- The name of the module in focus, and the empty one without a focus.
abbrev pub owner_of : Option Focus → List ℕ
owner_of None = []
owner_of (Some focus) = focus.module

-- What was asked for, by the focus.
abbrev pub asked_for : Option Focus → Asked
asked_for None = Asked.Whole
asked_for (Some focus) = Asked.Near focus

-- The picture was put on the output.
pub record IsDrawn (bytes : List ℕ) (focus : Option Focus) (old new : Stream) : Type 0 where
  pub text : List ℕ
  pub drawn : IsPicture bytes focus text
  pub out : Gains text old new

-- The picture couldn't be put on the output, which gained a first part of it.
pub record IsUnwritten (bytes : List ℕ) (focus : Option Focus) (old new : Stream) : Type 0 where
  pub text : List ℕ
  pub drawn : IsPicture bytes focus text
  pub out : GainsPart text old new

-- There is no picture, the line says why, and nothing was put on the output.
pub record IsRefused (bytes : List ℕ) (focus : Option Focus) (line : List ℕ) (old new : Stream) : Type 0 where
  pub error : PictureError
  pub why : PictureMeans bytes focus (Err error)
  pub said : IsFaultLine error (owner_of focus) line
  pub out : SaysNothing old new

-- What drawing comes to.
abbrev pub DrawMeans : List ℕ → Option Focus → Stream → Stream → End → Type 0
DrawMeans bytes focus old new End.Done = IsDrawn bytes focus old new
DrawMeans bytes focus old new (End.Fault line) = IsRefused bytes focus line old new
DrawMeans bytes focus old new End.CannotWrite = IsUnwritten bytes focus old new
DrawMeans bytes focus old new End.OutOfMemory = SaysNothing old new
DrawMeans bytes focus old new end = ⊥

-- This holds of all bytes of the input, which are known where it tells them.
abbrev pub OfInput : Stream → (List ℕ → Type 0) → Type 0
OfInput input Holds = (bytes : List ℕ) × IfSome input.bytes (λ all. bytes ≡ all) × Holds bytes

-- What an answer comes to: the input before and after it, and the output.
abbrev pub AnswerMeans : Option Focus → Stream → Stream → Stream → Stream → End → Type 0
AnswerMeans focus input behind old new End.Done = OfInput input (λ bytes. DrawMeans bytes focus old new End.Done)
AnswerMeans focus input behind old new (End.Fault line) =
    OfInput input (λ bytes. DrawMeans bytes focus old new (End.Fault line))
AnswerMeans focus input behind old new End.CannotWrite =
    OfInput input (λ bytes. DrawMeans bytes focus old new End.CannotWrite)
AnswerMeans focus input behind old new End.CannotRead =
    IsUnread input.bytes input.faults behind.faults × SaysNothing old new
AnswerMeans focus input behind old new End.OutOfMemory = SaysNothing old new
AnswerMeans focus input behind old new End.Usage = ⊥

-- What a call comes to: wrong words are said to be so, and else what they ask for is answered.
abbrev pub RunMeans : List (List ℕ) → Stream → Stream → Stream → Stream → End → Type 0
RunMeans words input behind old new End.Usage = WordsMean words Asked.Wrong × SaysNothing old new
RunMeans words input behind old new End.OutOfMemory = SaysNothing old new
RunMeans words input behind old new end =
    (focus : Option Focus) × WordsMean words (asked_for focus) × AnswerMeans focus input behind old new end
