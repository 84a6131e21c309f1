-- What a worker has made, beside what its seat has done. No public contract speaks of it.
use Rattle.std.specs.Prelude.{◌≡◌, ◌<◌, ℕ, List, map, slice_get, Some, Result, Ok, Err}
use Rattle.std.specs.List.{AllByRecursion}
use Rattle.bp_faults.specs.declared.fault.Fault.{Fault}
use Rattle.serial_pass.specs.declared.plan.Plan.{Plan}
use Rattle.serial_pass.specs.Results.{NodeResult, IsDone, node_result}
use Rattle.serial_pass.specs.Outcomes.{AnswersPass}
use Rattle.serial_pass.specs.declared.error.PassError.{PassError}
use Rattle.ready_counters.specs.declared.view.View.{View}
use Rattle.ready_counters.specs.Views.{tickets_for, ticket_number, tickets_with}
use Rattle.visit_workers.specs.declared.made.Made.{Made}
use Rattle.visit_workers.specs.Settled.{IsSettled}
use Rattle.visit_workers.specs.Verdicts.{verdict_result}

module _ {O : Type 0} where
  -- The tickets of what was made: each node with its number.
  abbrev pub pairs : List (Made O) → List (ℕ × ℕ)
  pairs made = map (λ (m : Made O). (m.node.0, m.ticket)) made

  -- A node of the plan with a ticket below their count, and its result.
  pub record IsRight (count : ℕ) (results : ℕ → NodeResult O) (m : Made O) : Type 0 where
    pub inside : m.node.0 < count
    pub below : m.ticket < count
    pub verdict : verdict_result m.verdict ≡ results m.node.0

  -- An order has each node that was made once at the number on its ticket.
  abbrev pub StandByTicket : List (Made O) → List ℕ → Type 0
  StandByTicket made order =
      (n : ℕ) → tickets_for n (pairs made) ≡ 1 → slice_get order (ticket_number n (pairs made)) ≡ Some n

  -- What was made is right, and its tickets are those of the seat.
  pub record IsMadeBy (count : ℕ) (results : ℕ → NodeResult O) (tickets : List (ℕ × ℕ))
      (made : List (Made O)) : Type 0 where
    pub right : AllByRecursion (IsRight count results) made
    pub drawn : (n : ℕ) → tickets_for n tickets ≡ tickets_for n (pairs made)
    pub numbered : (n : ℕ) → ticket_number n tickets ≡ ticket_number n (pairs made)
    pub used : (k : ℕ) → tickets_with k tickets ≡ tickets_with k (pairs made)

  -- Between two nodes a worker's seat is settled, and all that it visited stands in what it made.
  pub record IsWorking (mean : ℕ → List O → Result O Fault) (plan : Plan) (v : View)
      (made : List (Made O)) : Type 0 where
    pub settled : IsSettled plan.edges v
    pub made_by : IsMadeBy plan.count (node_result mean plan) v.tickets made

  -- All nodes are done, or the pass answers its fault, or that memory ran out.
  abbrev pub AnswersFaults : (ℕ → List O → Result O Fault) → Plan → Result Unit PassError → Type 0
  AnswersFaults mean plan (Ok done) = (n : ℕ) → n < plan.count → IsDone (node_result mean plan n)
  AnswersFaults mean plan (Err error) = AnswersPass mean plan (Err error)
