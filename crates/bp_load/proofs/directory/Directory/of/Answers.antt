use Rattle.std.proofs.Common.{rules, ◌≡◌, ◌-◌, lit<, ap, ◌∙◌, length, take, ℕ, List, Vec, Global}
use Rattle.std.proofs.lemmas.Iterator.Consumers.{YieldsList-end}
use Rattle.std.proofs.lemmas.Iterator.Splits.{YieldsList-from_str_split}
use Rattle.std.specs.Vec.{vec_len}
use Rattle.bp_load.proofs.directory.Directory.of.Goals as goal

sized : (v : Vec (List ℕ) Global) → vec_len v ≡ length v.items
sized v = search rules

-- the loop went over all parts of the path, and the last is taken off
pub returns : goal.returns
returns c =
    let path = c.args.file.now in
    let all = YieldsList-end (YieldsList-from_str_split 47 path (lit< tt) (cc) (cc) (cc)) c.loop-part.yielded _
    c.loop-part.yielded_by _ _ c.in-None.is c.next.ensures.steps in
    c.pop.ensures.rest
    ∙ ap (λ n. take (n - 1) c.loop-part.components.items) (sized c.loop-part.components)
    ∙ ap (λ ps. take (length ps - 1) ps) (c.loop-part.invariant ∙ all.0)
