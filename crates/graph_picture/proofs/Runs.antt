-- How the steps of a call make up the whole.
use Rattle.std.proofs.Common.{◌≡◌, ℕ, List, Option, refl}
use Rattle.std.specs.Prelude.{IfSome, Err}
use Rattle.graph_picture.specs.declared.end.End.{End}
use Rattle.graph_picture.specs.declared.focus.Focus.{Focus}
use Rattle.graph_picture.specs.declared.picture.PictureError.{PictureError}
use Rattle.graph_picture.specs.End.{EndsWithout}
use Rattle.graph_picture.specs.Input.{InputMeans}
use Rattle.graph_picture.specs.Picture.{PictureMeans}
use Rattle.graph_picture.specs.Run.{owner_of, asked_for, DrawMeans, AnswerMeans, RunMeans}
use Rattle.graph_picture.specs.Streams.{Stream}
use Rattle.graph_picture.specs.Words.{WordsMean}

-- where there is no picture its line is reported
pub refused_means : (bytes : List ℕ) (focus : Option Focus) (error : PictureError) (out : Stream) (end : End)
    → PictureMeans bytes focus (Err error) → EndsWithout error (owner_of focus) end → DrawMeans bytes focus out out end
refused_means bytes focus error out End.Done why said = absurd said
refused_means bytes focus error out (End.Fault line) why said =
    record { error = error; why = why; said = said; out = refl }
refused_means bytes focus error out End.Usage why said = absurd said
refused_means bytes focus error out End.CannotRead why said = absurd said
refused_means bytes focus error out End.CannotWrite why said = absurd said
refused_means bytes focus error out End.OutOfMemory why said = refl

-- what was drawn is an answer, of all bytes of the input
pub answer_means : (bytes : List ℕ) (focus : Option Focus) (input behind old new : Stream) (end : End)
    → IfSome input.bytes (λ all. bytes ≡ all) → DrawMeans bytes focus old new end
    → AnswerMeans focus input behind old new end
answer_means bytes focus input behind old new End.Done is drawn = (bytes, is, drawn)
answer_means bytes focus input behind old new (End.Fault line) is drawn = (bytes, is, drawn)
answer_means bytes focus input behind old new End.Usage is drawn = absurd drawn
answer_means bytes focus input behind old new End.CannotRead is drawn = absurd drawn
answer_means bytes focus input behind old new End.CannotWrite is drawn = (bytes, is, drawn)
answer_means bytes focus input behind old new End.OutOfMemory is drawn = drawn

-- an input that wasn't read is an answer
pub unread_means : (focus : Option Focus) (input behind out : Stream) (end : End)
    → InputMeans input.bytes input.faults behind.faults (Err end) → AnswerMeans focus input behind out out end
unread_means focus input behind out End.Done unread = absurd unread
unread_means focus input behind out (End.Fault line) unread = absurd unread
unread_means focus input behind out End.Usage unread = absurd unread
unread_means focus input behind out End.CannotRead unread = (unread, refl)
unread_means focus input behind out End.CannotWrite unread = absurd unread
unread_means focus input behind out End.OutOfMemory unread = refl

-- an answer to what the words ask for is what the call comes to
pub run_means : (words : List (List ℕ)) (focus : Option Focus) (input behind old new : Stream) (end : End)
    → WordsMean words (asked_for focus) → AnswerMeans focus input behind old new end
    → RunMeans words input behind old new end
run_means words focus input behind old new End.Done asked answered = (focus, asked, answered)
run_means words focus input behind old new (End.Fault line) asked answered = (focus, asked, answered)
run_means words focus input behind old new End.Usage asked answered = absurd answered
run_means words focus input behind old new End.CannotRead asked answered = (focus, asked, answered)
run_means words focus input behind old new End.CannotWrite asked answered = (focus, asked, answered)
run_means words focus input behind old new End.OutOfMemory asked answered = answered
