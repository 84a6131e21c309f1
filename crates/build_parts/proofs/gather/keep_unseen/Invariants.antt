use Rattle.std.proofs.Common.{◌≡◌, ◌++◌, map, take, drop}
use Rattle.bp_names.specs.Meaning.{IsSetOf}
use Rattle.build_parts.specs.Kept.{new_ones, kept_first}
use Rattle.build_parts.proofs.gather.keep_unseen.Given as goal

-- what is kept so far, and what is new of the rest
abbrev pub invariant-loop-text : goal.invariant-loop-text
invariant-loop-text l =
    let texts = map (λ t. t.now) l.texts in
    record {
      seen : IsSetOf (take l.text-index texts) l.seen;
      left : l.kept.items ++ new_ones (take l.text-index texts) (drop l.text-index texts) ≡ kept_first texts;
    }
