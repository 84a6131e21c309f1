-- What a call comes to whose words can't be had.
use Rattle.std.proofs.Common.{◌≡◌, ℕ, [], refl}
use Rattle.std.specs.declared.io.ErrorKind.{ErrorKind}
use Rattle.std.specs.declared.io.ErrorKind.TheVariants.{OutOfMemory as NoMemory}
use Rattle.command_words.specs.Words.{configuration_of}
use Rattle.bp_run.specs.Commands.{description_of}
use Rattle.bp_run.specs.Run.{RunMeans}
use Rattle.bp_run.specs.Start.{AnswersNoWords}
use Rattle.bp_run.specs.World.{World, Stream}

-- where memory didn't run out it is what a call without words comes to
pub no_words : (kind : ErrorKind) → (kind ≡ NoMemory → ⊥) → (old new : World) (before after : Stream) (status : ℕ)
    → RunMeans description_of (configuration_of []) old new before after status
    → AnswersNoWords kind old new before after status
no_words NoMemory some old new before after status h = absurd (some refl)
no_words kind some old new before after status h = h
