use Rattle.std.proofs.lemmas.List.{take_all}
use Rattle.std.proofs.Common.{suc, Some, length-drop, ◌≡◌, ◌-◌, ◌+◌, length, take, drop, add-one, sym, ap, ◌∙◌, arith}
use Rattle.ninja_lines.specs.Shown.{texts}
use Rattle.ninja_read.proofs.FormRead.{before_mark_is, behind_mark_is, no_mark}
use Rattle.ninja_read.proofs.head.split_at_mark.Goals as goal

pub returns-then-at-words-clause-before : goal.returns-then-at-words-clause-before
returns-then-at-words-clause-before c =
    ap (λ n. texts (take n c.args.words.now)) c.mark_at-at.ensures ∙ before_mark_is c.args.mark.now c.args.words.now

pub returns-then-at-words-clause-behind : goal.returns-then-at-words-clause-behind
returns-then-at-words-clause-behind c =
    let words = c.args.words.now in
    let all : take (length words - (c.mark_at-at.result + 1)) (drop (c.mark_at-at.result + 1) words)
    ≡ drop (c.mark_at-at.result + 1) words =
    take_all _ _ (omega (arith, length-drop (c.mark_at-at.result + 1) words)) in
    ap (λ x. Some (texts x)) all
    ∙ ap (λ n. Some (texts (drop n words))) (add-one c.mark_at-at.result ∙ ap suc c.mark_at-at.ensures)
    ∙ behind_mark_is c.args.mark.now words (omega (arith, c.mark_at-at.ensures))

pub returns-else-at-words-clause-before : goal.returns-else-at-words-clause-before
returns-else-at-words-clause-before c =
    ap texts (sym (take_all c.mark_at-at.result c.args.words.now (omega arith)))
    ∙ ap (λ n. texts (take n c.args.words.now)) c.mark_at-at.ensures
    ∙ before_mark_is c.args.mark.now c.args.words.now

pub returns-else-at-words-clause-behind : goal.returns-else-at-words-clause-behind
returns-else-at-words-clause-behind c =
    let h = c.if-at-words.false in no_mark c.args.mark.now c.args.words.now (omega (arith, c.mark_at-at.ensures))
