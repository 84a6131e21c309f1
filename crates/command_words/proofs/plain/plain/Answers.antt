use Rattle.std.proofs.Common.{◌∙◌, ◌++◌, ◌∷◌, [], ap, sym, ℕ, List, Vec, Global, get_or}
use Rattle.std.specs.Borrow.{Bor}
use Rattle.command_words.specs.Plain.{parts_of_word}
use Rattle.command_words.proofs.Joining.{plain_words-more, one_put, two_put, said}
use Rattle.command_words.proofs.plain.plain.Goals as goal
use Rattle.command_words.proofs.plain.plain.Goals.{in-Some+in_ok-push-2, in_default}

pub loop-word-preserved : goal.loop-word-preserved
loop-word-preserved c =
    let more = plain_words-more c.args.words.now c.loop-word.word-index c.word-item.result c.loop-word-test.true in
    let before = said c.loop-word.plain.items in
    let word = ap parts_of_word (c.as_str.ensures ∙ c.word-item.is) in
    let first = c.in_ok-push.ensures.items in
    elim c.match-second.branch [
      | in-Some+in_ok-push-2 w ↦
          let parts = (rw w.in-Some.is at c.halves.ensures) ∙ word in
          ap (λ (v : Vec (Bor (List ℕ)) Global). said v.items) w.plain-is
          ∙ ap said
          (w.in_ok-push-2.ensures.items ∙ ap (λ (ws : List (Bor (List ℕ))). ws ++ w.in-Some.second ∷ []) first)
          ∙ two_put c.loop-word.plain.items c.halves.result.0 w.in-Some.second
          ∙ ap (λ (ws : List (List ℕ)). before ++ ws) parts
          ∙ ap (λ (ws : List (List ℕ)). ws
          ++ parts_of_word (get_or c.args.words.now c.loop-word.word-index c.word-item.result)) c.loop-word.invariant
          ∙ sym more
      | in_default w ↦
          let parts = (rw w.in_default.is at c.halves.ensures) ∙ word in
          ap (λ (v : Vec (Bor (List ℕ)) Global). said v.items) w.plain-is
          ∙ ap said first
          ∙ one_put c.loop-word.plain.items c.halves.result.0
          ∙ ap (λ (ws : List (List ℕ)). before ++ ws) parts
          ∙ ap (λ (ws : List (List ℕ)). ws
          ++ parts_of_word (get_or c.args.words.now c.loop-word.word-index c.word-item.result)) c.loop-word.invariant
          ∙ sym more
    ]
