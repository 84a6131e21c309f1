use Rattle.std.proofs.Common.{subst}
use Rattle.std.specs.Prelude.{Option, IfSome}
use Rattle.command_words.specs.declared.configuration.Configuration.{Configuration}
use Rattle.command_words.specs.Words.{IsSoundConfiguration}
use Rattle.command_words.proofs.Sound.{sound}
use Rattle.command_words.proofs.laws.each_configuration_is_sound.Goals as goal

pub returns : goal.returns
returns c =
    λ words configuration given. subst (λ (x : Option Configuration). IfSome x IsSoundConfiguration) given (sound words)
