-- What a claim and a subtraction answer, by the view of the seat that asks.
use Rattle.std.specs.Prelude.{◌≡◌, ◌<◌, ◌≤◌, ℕ, List, length, Bool, true, false}
use Rattle.serial_pass.specs.declared.plan.PlanEdge.{PlanEdge}
use Rattle.ready_counters.specs.declared.view.View.{View}
use Rattle.ready_counters.specs.declared.claim.Claim.{Claim}
use Rattle.ready_counters.specs.declared.claim.Claim.TheVariants.{Claimed, NotReady, Gone}
use Rattle.ready_counters.specs.Views.{whole, times, with_claim}
use Rattle.ready_counters.specs.Edges.{edge_source, edge_target, left_of}

-- What a claim of a node answers, with the seat's view before and after it. For a whole seat the answer is exact: the
-- node is gone where the seat has it, isn't ready where so many in-edges are left, and else is claimed.
abbrev pub AnswersClaim : List PlanEdge → ℕ → View → Claim → View → Type 0
AnswersClaim edges n v Claimed w = (w ≡ with_claim v n) × (times n v.claimed ≡ 0)
    × (v.weight ≡ whole → left_of edges v n ≡ 0)
AnswersClaim edges n v (NotReady k) w =
    (w ≡ v) × (times n v.claimed ≡ 0) × (1 ≤ k) × (k ≤ left_of edges v n) × (v.weight ≡ whole → left_of edges v n ≡ k)
AnswersClaim edges n v Gone w = (w ≡ v)
    × ((e : ℕ) → e < length edges → edge_target edges e ≡ n → 1 ≤ times (edge_source edges e) v.claimed
    → 1 ≤ times e v.subtracted)
    × (v.weight ≡ whole → 1 ≤ times n v.claimed)

-- What a subtraction of an edge answers, with the seat's view after it: whether none of the target's in-edges is left.
abbrev pub AnswersSubtract : List PlanEdge → ℕ → View → Bool → Type 0
AnswersSubtract edges e w true = w.weight ≡ whole → left_of edges w (edge_target edges e) ≡ 0
AnswersSubtract edges e w false = 1 ≤ left_of edges w (edge_target edges e)
