use Rattle.std.proofs.Common.{◌≡◌, ◌∷◌, ◌∙◌}
use Rattle.std.specs.Map.Iter.{deref_pair}
use Rattle.std.proofs.lemmas.Map.Iter.{rest_more}
use Rattle.bp_values.specs.Scopes.{pairs_of}
use Rattle.bp_values.specs.Values.{meaning}
use Rattle.bp_values.proofs.Copied.{not_yet, one_copied}
use Rattle.bp_values.proofs.scope.Scope.copy.Goals as goal

pub set-requires : goal.set-requires
set-requires c =
    let left = c.loop-name.name-iterator in
    let is_left : left ≡ (c.in-Some.name.now, c.in-Some.value.now) ∷ c.next.new.self = rest_more deref_pair left
    c.next.new.self c.next.result (c.in-Some.name, c.in-Some.value) c.in-Some.is c.next.ensures.steps in
    not_yet c.args.self.now.values.entries (pairs_of c.loop-name.copy) (c.in-Some.name.now, c.in-Some.value.now)
    c.next.new.self c.loop-name.invariant.apart (c.loop-name.invariant.left ∙ is_left) c.loop-name.invariant.copied

pub loop-name-preserved : goal.loop-name-preserved
loop-name-preserved c =
    let left = c.loop-name.name-iterator in
    let is_left : left ≡ (c.in-Some.name.now, c.in-Some.value.now) ∷ c.next.new.self = rest_more deref_pair left
    c.next.new.self c.next.result (c.in-Some.name, c.in-Some.value) c.in-Some.is c.next.ensures.steps in
    let more = one_copied c.args.self.now.values.entries (pairs_of c.loop-name.copy) (pairs_of c.set.new.self)
    (c.in-Some.name.now, c.in-Some.value.now) c.next.new.self
    (meaning c.in_ok-copy_value.field-0) (c.loop-name.invariant.left ∙ is_left) c.loop-name.invariant.copied
    c.in_ok-copy_value.ensures c.in_ok-set.ensures in
    record { apart = c.loop-name.invariant.apart; left = more.0; copied = more.1 }
