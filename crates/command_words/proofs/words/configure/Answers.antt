use Rattle.std.proofs.Common.{ℕ, List, map, sym, subst}
use Rattle.std.specs.Prelude.{Option, IfSome}
use Rattle.std.specs.Borrow.{Bor}
use Rattle.std.proofs.lemmas.Result.{IfOk-weaker}
use Rattle.command_words.specs.declared.configuration.Configuration.{Configuration}
use Rattle.command_words.specs.Words.{IsSoundConfiguration}
use Rattle.command_words.proofs.Sound.{sound_plain}
use Rattle.command_words.proofs.words.configure.Goals as goal

pub returns-clause-sound : goal.returns-clause-sound
returns-clause-sound c =
    IfOk-weaker c.configuration_of_plain.result _ _
    (λ configuration given. subst (λ (x : Option Configuration). IfSome x IsSoundConfiguration) (sym given)
    (sound_plain (map (λ (word : Bor (List ℕ)). word.now) c.as_slice.result.now)))
    c.configuration_of_plain.ensures
