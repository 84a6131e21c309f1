use Rattle.std.proofs.Common.{◌≡◌, ◌+◌, ◌*◌, ◌∙◌, length, ap, sym, arith}
use Rattle.std.proofs.lemmas.Bool.Decides.{nat_tests}
use Rattle.pass_core.proofs.Progress.{entries_when_finished, finished_with_entries}
use Rattle.pass_core.proofs.machine.Core.finished.Goals as goal

pub returns : goal.returns
returns g c =
    let kept = c.self.invariant in
    let many = ap length c.as_slice.ensures in
    rw (← c.self.view_is) (
      (λ yes. finished_with_entries (g.V.Visit.meaning c.self.inside.visitor) c.self.inside.plan kept.is_plan kept.free
          _ kept.sound (let e : c.self.inside.steps ≡ c.from.result + 3 * length c.as_slice.result.now =
          grind (arith, nat_tests) in sym kept.counted
          ∙ e
          ∙ ap (λ k. k + 3 * length c.as_slice.result.now) c.from.ensures
          ∙ ap (λ k. c.self.inside.plan.count + 3 * k) many)),
      λ done. let e = kept.counted
          ∙ entries_when_finished (g.V.Visit.meaning c.self.inside.visitor) c.self.inside.plan kept.is_plan kept.free _
          kept.sound done in
          let f : c.self.inside.steps ≡ c.from.result + 3 * length c.as_slice.result.now =
          e
          ∙ sym (ap (λ k. k + 3 * length c.as_slice.result.now) c.from.ensures
          ∙ ap (λ k. c.self.inside.plan.count + 3 * k) many) in
          grind (arith, nat_tests),
    )
