-- A command with one option more.
use Rattle.std.proofs.Common.{◌≡◌, ◌<◌, ◌+◌, ℕ, List, length, take, get_or, ap, sym}
use Rattle.std.proofs.lemmas.List.{map_more}
use Rattle.clap.specs.Words.{with_rule, Rule}
use Rattle.command_words.specs.declared.option.OptionName.{OptionName}
use Rattle.command_words.specs.Rules.{app_with, bare_app, rule_for}

pub one_rule : (name : List ℕ) (options : List OptionName) (i : ℕ) (d : OptionName) → i < length options
    → with_rule (app_with name (take i options)) (rule_for (get_or options i d)) ≡ app_with name (take (i + 1) options)
one_rule name options i d below =
    ap (λ (rules : List Rule). record (bare_app name) { top = record (bare_app name).top { rules = rules } })
    (sym (map_more rule_for options i d below))
