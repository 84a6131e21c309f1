-- What the program does for the words that the system gives it, before and beside a command.
use Rattle.std.specs.Prelude.{◌≡◌, ◌⊎◌, ℕ, List, [], ◌++◌, Option, Some, None}
use Rattle.std.specs.declared.io.ErrorKind.{ErrorKind}
use Rattle.std.specs.declared.io.ErrorKind.TheVariants.{OutOfMemory as NoMemory}
use Rattle.bp_ports.specs.Causes.{Rose}
use Rattle.bp_ports.specs.Files.{WhereTold, AppendsPart}
use Rattle.command_words.specs.Explanations.{explanation_of}
use Rattle.command_words.specs.Notices.{notice_text}
use Rattle.command_words.specs.Words.{configuration_of}
use Rattle.command_words.specs.declared.configuration.Configuration.{Configuration}
use Rattle.command_words.specs.declared.notices.Notice.{Notice}
use Rattle.bp_run.specs.Commands.{description_of}
use Rattle.bp_run.specs.Lines.{memory_line, output_line}
use Rattle.bp_run.specs.Run.{RunMeans}
use Rattle.bp_run.specs.World.{World, Stream, Says, SaysNothing, IsSpared, Untouched}

-- The output as a stream.
abbrev pub out_stream : World → Stream
out_stream w = record { bytes = w.out; faults = w.puts }

-- The text stands behind what the output had, and nothing was said.
pub record IsShownWhole (text : List ℕ) (old new before after : Stream) : Type 0 where
  pub out : WhereTold (λ had has. has ≡ had ++ text) old.bytes new.bytes
  pub silent : SaysNothing before after

-- The put on the output failed, which may have gained a first part of the text, and then the line for it was said.
pub record IsShownInPart (text : List ℕ) (old new before after : Stream) : Type 0 where
  pub cause : Rose old.faults new.faults
  pub out : WhereTold (AppendsPart text) old.bytes new.bytes
  pub told : Says before after output_line

-- What printing a text comes to, by the exit status: of the output before and after, and of the stream for messages.
pub record PrintMeans (text : List ℕ) (old new before after : Stream) (status : ℕ) : Type 0 where
  pub known : (status ≡ 0) ⊎ (status ≡ 4)
  pub done : status ≡ 0 → IsShownWhole text old new before after
  pub write : status ≡ 4 → IsShownInPart text old new before after

-- Memory ran out before the output gained anything, and the line for it was said.
pub record IsWithoutMemory (old new before after : Stream) (status : ℕ) : Type 0 where
  pub ended : status ≡ 5
  pub out : SaysNothing old new
  pub told : Says before after memory_line

-- What printing a text comes to that takes memory.
abbrev pub ExplainMeans : List ℕ → Stream → Stream → Stream → Stream → ℕ → Type 0
ExplainMeans text old new before after status =
    PrintMeans text old new before after status ⊎ IsWithoutMemory old new before after status

-- What the program does for words that ask for no notice: it prints what is wrong with the words of which they ask,
-- without a file, or it does their command.
abbrev pub AnswersQuestion :
    Option (List (List ℕ)) → Option Configuration → World → World → Stream → Stream → ℕ → Type 0
AnswersQuestion (Some asked) conf old new before after status =
    IsSpared old new × ExplainMeans (explanation_of asked) (out_stream old) (out_stream new) before after status
AnswersQuestion None conf old new before after status = RunMeans description_of conf old new before after status

-- What the program does for words: it prints the notice that they ask for, without a file, or answers them otherwise.
abbrev pub AnswersWords :
    Option Notice → Option (List (List ℕ)) → Option Configuration → World → World → Stream → Stream → ℕ → Type 0
AnswersWords (Some notice) asked conf old new before after status =
    IsSpared old new × PrintMeans (notice_text notice) (out_stream old) (out_stream new) before after status
AnswersWords None asked conf old new before after status = AnswersQuestion asked conf old new before after status

-- What it does where the system gives no words, by the kind of the error: where memory ran out it says nothing, and
-- else it does what it does for no words.
abbrev pub AnswersNoWords : ErrorKind → World → World → Stream → Stream → ℕ → Type 0
AnswersNoWords NoMemory old new before after status =
    (status ≡ 5) × Untouched old new × SaysNothing before after
AnswersNoWords kind old new before after status =
    RunMeans description_of (configuration_of []) old new before after status
