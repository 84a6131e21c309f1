-- The configuration of plain pairs, from what an option was given.
use Rattle.std.proofs.Common.{◌≡◌, ◌∙◌, ◌-◌, ℕ, Bool, true, List, [], ◌∷◌, map, take, length, ap, sym, refl, arith}
use Rattle.std.proofs.Math.Path.{fun_ext}
use Rattle.std.proofs.lemmas.List.{take_all}
use Rattle.std.specs.Prelude.{Option, Some, None, drop, if◌then◌else◌}
use Rattle.std.specs.Borrow.{Bor}
use Rattle.command_words.specs.declared.command.CommandName.{CommandName}
use Rattle.command_words.specs.declared.option.OptionName.{OptionName}
use Rattle.command_words.specs.declared.pairs.Pair.{Pair}
use Rattle.command_words.specs.Words.{Given, and_then, are_plain_pairs, configuration_by, configuration_of_pairs}
use Rattle.command_words.specs.Words.{configuration_behind, option_value, option_pairs}

pub behind_first : (words : List (Bor (List ℕ)))
    → map (λ w. w.now) (take (length words - 1) (drop 1 words)) ≡ drop 1 (map (λ w. w.now) words)
behind_first [] = refl
behind_first (word ∷ words) =
    ap (map (λ (w : Bor (List ℕ)). w.now)) (take_all (length (word ∷ words) - 1) words (omega arith))

pub configured_is : (c : CommandName) (words : List (List ℕ)) (ps : List Pair) (given : Given)
    → option_pairs c words ≡ Some ps → are_plain_pairs c ps ≡ true → ((o : OptionName) → given o ≡ option_value ps o)
    → configuration_by c given ≡ configuration_behind words c
configured_is c words ps given are plain h =
    ap (configuration_by c) (fun_ext h)
    ∙ sym (ap (λ (x : Option (List Pair)). and_then x (configuration_of_pairs c)) are
    ∙ ap (λ (b : Bool). if b then configuration_by c (option_value ps) else None) plain)
