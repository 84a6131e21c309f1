use Rattle.std.proofs.Common.{◌≡◌, ◌<◌, ◌∙◌, ap, sym, subst, length, suc, ◌+◌}
use Rattle.serial_pass.specs.declared.plan.Plan.{Plan}
use Rattle.ready_counters.specs.Edges.{edge_targets}
use Rattle.ready_counters.specs.Edges.{result_at}
use Rattle.ready_counters.proofs.Opening.{opening_as}
use Rattle.ready_counters.proofs.Legality.{ends_from, ends_to}
use Rattle.ready_counters.proofs.board.Board.new.Goals as goal

pub vacant-requires : goal.vacant-requires
vacant-requires g c =
    opening_as c.args.plan.now c.of.result.value
    (λ (p : Plan). result_at
    (g.V.Visit.meaning c.of-2.result.value) p) c.in_ok-words.words.items c.deref.result.now
    (length c.as_slice-many.result.now)
    c.of.ensures c.deref.ensures.value (ap length c.as_slice-many.ensures) c.in_ok-words.ensures

pub invariant_of-result : goal.invariant_of-result
invariant_of-result g c =
    let t = c.in_ok-table.ensures in
    let plan : c.in_ok-table.table.shared.key.plan.value ≡ c.args.plan.now =
    ap (λ k. k.plan.value) t.5 ∙ c.of.ensures in
    record {
      counted = c.count_of-count.ensures ∙ ap (λ (p : Plan). p.count) (sym plan);
      targeted = c.in_ok-targets.ensures ∙ ap (λ (p : Plan). edge_targets p.edges) (sym plan);
      sized = t.0 ∙ ap length c.deref.ensures.value ∙ c.in_ok-words.ensures.0
          ∙ ap (λ (p : Plan). suc (p.count + length p.edges)) (sym plan);
      ends = subst (λ (p : Plan). (e : _) → e < length p.edges
          → Rattle.ready_counters.specs.Edges.edge_target p.edges e < p.count) (sym plan)
          (ends_to c.args.plan.now.count c.args.plan.now.edges c.requires.plan.ends);
      small = subst (λ (p : Plan). p.count < 4294967296) (sym plan)
          (subst (λ n. n < 4294967296) c.count_of-count.ensures c.count_of-count.type_inv);
      few = subst (λ (p : Plan). length p.edges < 4294967296) (sym plan) c.requires.plan.few;
      begins = subst (λ (p : Plan). (e : _) → e < length p.edges
          → Rattle.ready_counters.specs.Edges.edge_source p.edges e < p.count) (sym plan)
          (ends_from c.args.plan.now.count c.args.plan.now.edges c.requires.plan.ends);
    }

pub first_words-requires-clause-ends : goal.first_words-requires-clause-ends
first_words-requires-clause-ends g c = ends_to c.args.plan.now.count c.args.plan.now.edges c.requires.plan.ends
