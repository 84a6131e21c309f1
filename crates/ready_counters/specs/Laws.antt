-- The board refines the core.
use Rattle.std.specs.Prelude.{◌≡◌, ℕ, List, [], ◌∷◌, Option, Result, length}
use Rattle.std.specs.Global.{Global}
use Rattle.std.specs.declared.sync.Arc.{Arc}
use mathlib.Core.Option.{some}
use lib.ListN.{get_elem?}
use Rattle.atomic_table.specs.Table.{State}
use Rattle.bp_faults.specs.declared.fault.Fault.{Fault}
use Rattle.serial_pass.specs.declared.plan.Plan.{Plan}
use Rattle.pass_core.specs.declared.published.Published.{Published}
use Rattle.pass_core.specs.CoreStates.{IsFinished, beginning}
use Rattle.serial_pass.specs.Plans.{IsPlan, HasNoCycle}
use Rattle.ready_counters.specs.declared.view.View.{View}
use Rattle.ready_counters.specs.Views.{all_of_it}
use Rattle.ready_counters.specs.Meaning.{AreFirst, IsBoardOf}
use Rattle.ready_counters.specs.Ends.{IsDoneBy}
use Rattle.ready_counters.specs.Edges.{result_at}
use Rattle.ready_counters.specs.Parts.{HasParts}
use Rattle.ready_counters.specs.Shows.{core_of, BoardStep, core_step, IsStep, LeadsBy}

-- The words and the one view of a new board show a core of which nothing is done.
abbrev pub NewBoardShowsBeginning : Type 0 → Type 0
NewBoardShowsBeginning O = (mean : ℕ → List O → Result O Fault) (plan : Plan) (words : List ℕ) → IsPlan plan
    → AreFirst plan.count (length plan.edges) plan.edges words
    → core_of mean plan words (all_of_it ∷ []) ≡ beginning plan

-- Each step on a board is the core step of its kind, which is allowed there; a step that has none leaves the core as
-- it was.
abbrev pub StepsAreCoreSteps : Type 0 → Type 0
StepsAreCoreSteps O = (mean : ℕ → List O → Result O Fault) (plan : Plan) (step : BoardStep) (id : ℕ) (v : View)
    (s t : State (Option (Arc (Published O) Global)) View) → IsPlan plan → HasNoCycle plan.edges
    → IsBoardOf mean plan s → IsStep plan step id v s t
    → LeadsBy mean plan (core_step step) (core_of mean plan s.words s.views) (core_of mean plan t.words t.views)

-- Where a seat has done all, the board shows a finished core.
abbrev pub DoneBoardShowsFinished : Type 0 → Type 0
DoneBoardShowsFinished O = (mean : ℕ → List O → Result O Fault) (plan : Plan) (id : ℕ) (v : View)
    (s : State (Option (Arc (Published O) Global)) View) → IsPlan plan
    → IsBoardOf mean plan s → get_elem? s.views id ≡ some v
    → IsDoneBy plan.count plan.edges v → IsFinished plan (core_of mean plan s.words s.views)

-- The rule of a board says all of this: what is listed, the counters, the claims, the states of the edges, the order in
-- which a seat does things, the slots and the tickets.
abbrev pub BoardsKeepTheirParts : Type 0 → Type 0
BoardsKeepTheirParts O = (mean : ℕ → List O → Result O Fault) (plan : Plan)
    (s : State (Option (Arc (Published O) Global)) View) → IsPlan plan → IsBoardOf mean plan s
    → HasParts plan.count plan.edges (result_at mean plan) s
