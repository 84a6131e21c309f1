-- A pass under way, as its workers see it. No public contract speaks of it.
use Rattle.std.specs.Prelude.{◌≡◌, ◌+◌, ℕ, List, map, slice_index, Result}
use Rattle.std.specs.List.{AllByRecursion, range_with_len}
use Rattle.std.specs.declared.sync.Arc.{Arc}
use Rattle.bp_faults.specs.declared.fault.Fault.{Fault}
use Rattle.pass_core.specs.declared.published.Published.{Published}
use Rattle.serial_pass.specs.InEdges.{AreStarts}
use Rattle.serial_pass.specs.Outcomes.{TakesPlan}
use Rattle.serial_pass.specs.Plans.{IsPlan, HasNoCycle, predecessors}
use Rattle.serial_pass.specs.Results.{NodeResult, node_result}
use Rattle.serial_pass.specs.declared.visit.Visit.{Ghosts}
use Rattle.ready_counters.specs.declared.seat.Seat.{Seat}
use Rattle.ready_counters.specs.declared.view.View.{View}
use Rattle.ready_counters.specs.Seen.{plan_on_board, visitor_of, view_of}
use Rattle.visit_workers.specs.declared.made.Made.{Made}
use Rattle.visit_workers.specs.declared.pass.Pass.{Pass}
use Rattle.visit_workers.specs.declared.verdict.Verdict.{Verdict}
use Rattle.visit_workers.specs.Links.{AreOuts, numbers_from}
use Rattle.visit_workers.specs.Making.{IsRight, IsWorking}
use Rattle.visit_workers.specs.Settled.{IsGathering, IsSpreading, outcomes}
use Rattle.visit_workers.specs.Verdicts.{verdict_results}

-- The plan has no cycle, the visitor takes its nodes, the board is theirs, and the tables of edges are right.
pub record IsPass {V G O : Type 0} (takes : ℕ → ℕ → Type 0) (pass : Pass V G O) : Type 0 where
  pub is_plan : IsPlan pass.plan.now
  pub free : HasNoCycle pass.plan.now.edges
  pub takes_plan : TakesPlan takes pass.plan.now
  pub board_plan : pass.plan.now ≡ plan_on_board pass.board.now
  pub board_visitor : pass.visitor.now ≡ visitor_of pass.board.now
  pub starts : AreStarts pass.plan.now pass.starts.now
  pub outs : AreOuts pass.plan.now.count pass.plan.now.edges pass.outs.now

module _ {V G O : Type 0} (mean : ℕ → List O → Result O Fault) (pass : Pass V G O) where
  -- The result of a node.
  abbrev pub result_of : ℕ → NodeResult O
  result_of n = node_result mean pass.plan.now n

  -- What a node takes: the results of its predecessors.
  abbrev pub AreInsOf : {A : Type 0} → ℕ → List (Arc (Published O) A) → Type 0
  AreInsOf n ins = outcomes ins ≡ map (node_result mean pass.plan.now) (predecessors pass.plan.now.edges n)

  -- The verdicts say the results of all nodes, by their numbers.
  abbrev pub AreVerdicts : List (Verdict O) → Type 0
  AreVerdicts verdicts =
      verdict_results verdicts ≡ map (node_result mean pass.plan.now) (range_with_len 0 pass.plan.now.count)

  -- What was made of a node is right.
  abbrev pub IsMadeRight : Made O → Type 0
  IsMadeRight m = IsRight pass.plan.now.count (node_result mean pass.plan.now) m

  -- All that was made is right.
  abbrev pub AreMadeRight : List (Made O) → Type 0
  AreMadeRight made = AllByRecursion (IsRight pass.plan.now.count (node_result mean pass.plan.now)) made

  -- A worker's seat and what it made, between two nodes.
  abbrev pub Works : {W : Ghosts V O} → Seat V O W → List (Made O) → Type 0
  Works seat made = IsWorking mean pass.plan.now (view_of seat) made

module _ {V G O : Type 0} (pass : Pass V G O) where
  -- Between two views the edges into a node were fetched, and nothing else was done.
  abbrev pub HasGathered : ℕ → View → View → Type 0
  HasGathered n old new = IsGathering (slice_index pass.starts.now n) (slice_index pass.starts.now (n + 1)) old new

  -- Between two views the edges out of a node were filled and subtracted, and nothing else was done.
  abbrev pub HasSpread : ℕ → View → View → Type 0
  HasSpread n old new = IsSpreading (numbers_from 0 pass.plan.now.edges n) old new
