use Rattle.std.proofs.Common.{ℕ, drop}
use Rattle.std.proofs.lemmas.List.{take_rest}
use Rattle.bp_lexer.specs.Forms.{IsEnd, IsFirstEnd}
use Rattle.bp_lexer.proofs.Comments.{block_longest, block_open, block_begins}
use Rattle.bp_lexer.proofs.form.block_form.Goals as goal

pub returns-in-Some : goal.returns-in-Some
returns-in-Some c =
    let end : IsFirstEnd (drop 2 c.args.text.now) c.in-Some.inner = rw take_rest at c.in-Some.ensures in
    block_longest c.args.text.now _ c.requires.first c.requires.second end

pub returns-in-None : goal.returns-in-None
returns-in-None c =
    let none : (n : ℕ) → IsEnd (drop 2 c.args.text.now) n → ⊥ = rw take_rest at c.in-None.ensures in (
      block_open c.args.text.now c.requires.first c.requires.second none,
      block_begins c.args.text.now c.requires.first c.requires.second,
    )
