use Rattle.std.proofs.Common.{◌≡◌, ◌∙◌, ℕ, List, true, map, ap, subst}
use Rattle.std.specs.Prelude.{Option, IsSomeAnd, drop}
use Rattle.std.specs.Borrow.{Bor}
use Rattle.std.proofs.lemmas.Result.{IfErr-weaker, IfOk-weaker}
use Rattle.clap.specs.Words.{App, found_of, is_simple, matches_of, takes}
use Rattle.clap.specs.Walk.{first_of}
use Rattle.clap.proofs.WalkLemmas.{first_value-rows}
use Rattle.command_words.specs.declared.pairs.Pair.{Pair}
use Rattle.command_words.specs.Options.{option_name}
use Rattle.command_words.specs.Words.{are_plain_pairs, option_pairs}
use Rattle.command_words.proofs.Walking.{simple}
use Rattle.command_words.proofs.Reading.{line, first_is, some_pairs}
use Rattle.command_words.proofs.parser.matches.Goals as goal

pub returns-clause-ok : goal.returns-clause-ok
returns-clause-ok c =
    let command = c.args.command in
    let words = map (λ (w : Bor (List ℕ)). w.now) c.args.words.now in
    let app = c.in_ok-parser.ensures in
    IfOk-weaker c.try_get_matches_from.result _ _ (λ m h ps are o.
    let plain =
    subst (λ (x : Option (List Pair)). IsSomeAnd x (λ qs. are_plain_pairs command qs ≡ true)) are c.requires in
    first_value-rows (found_of m) (option_name o)
    ∙ ap (first_of (option_name o)) ((h (ap is_simple app ∙ simple command)).0
    ∙ ap (λ (a : App). matches_of a words) app ∙ (line command words ps are plain).rows)
    ∙ first_is o ps) c.try_get_matches_from.ensures.matches

pub returns-clause-err : goal.returns-clause-err
returns-clause-err c =
    let command = c.args.command in
    let words = map (λ (w : Bor (List ℕ)). w.now) c.args.words.now in
    let given = some_pairs (λ qs. are_plain_pairs command qs ≡ true) (option_pairs command (drop 1 words)) c.requires in
    IfErr-weaker c.try_get_matches_from.result _ _ (λ e h. h (ap (λ (a : App). takes a words) c.in_ok-parser.ensures
    ∙ (line command words given.0 given.1 given.2).takes_it)) c.try_get_matches_from.ensures.passes
