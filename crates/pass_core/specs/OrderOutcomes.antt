-- What a run along a list of nodes comes to: any legal order gives the outcome of the pass.
use Rattle.std.specs.Prelude.{◌≡◌, ◌<◌, ℕ, List, length, map, take, slice_index, Vec, Result, Ok, Err, ⊤}
use Rattle.std.specs.Global.{Global}
use Rattle.std.specs.List.{AllByRecursion, Contains}
use Rattle.std.specs.Arc.{arc_value}
use Rattle.std.specs.declared.sync.Arc.{Arc}
use Rattle.bp_faults.specs.declared.fault.Fault.{Fault}
use Rattle.serial_pass.specs.declared.plan.Plan.{Plan}
use Rattle.pass_core.specs.declared.order_error.OrderError.{OrderError}
use Rattle.pass_core.specs.declared.order_error.OrderError.TheVariants.{NotReady, Ends, At, OutOfMemory}
use Rattle.serial_pass.specs.Plans.{predecessors}
use Rattle.serial_pass.specs.Orders.{IsLegal}
use Rattle.serial_pass.specs.Outcomes.{PassOutcomeMeans}

-- After the nodes before it a node is ready: it is a node of the plan, it isn't among them, and all its predecessors
-- are.
pub record IsReadyAfter (plan : Plan) (before : List ℕ) (n : ℕ) : Type 0 where
  pub inside : n < plan.count
  pub unvisited : Contains before n → ⊥
  pub after : AllByRecursion (Contains before) (predecessors plan.edges n)

-- The entry at an index of a list is ready after the entries before it.
abbrev pub IsReadyAt : Plan → List ℕ → ℕ → Type 0
IsReadyAt plan order index = IsReadyAfter plan (take index order) (slice_index order index)

-- The entry at an index is the first that isn't ready.
pub record IsFirstRefused (plan : Plan) (order : List ℕ) (index : ℕ) : Type 0 where
  pub inside : index < length order
  pub ready : (earlier : ℕ) → earlier < index → IsReadyAt plan order earlier
  pub refused : IsReadyAt plan order index → ⊥

-- No entry is refused, and a list of that length is short of nodes.
pub record IsShort (plan : Plan) (order : List ℕ) (many : ℕ) : Type 0 where
  pub whole : many ≡ length order
  pub ready : (index : ℕ) → index < length order → IsReadyAt plan order index
  pub missing : (n : ℕ) × (n < plan.count) × (Contains order n → ⊥)

-- What a run along a list comes to.
pub data OrderOutcome (O : Type 0) : Type 0 where
  Ran : Result (List O) (ℕ × Fault) → OrderOutcome O
  Refused : ℕ → OrderOutcome O
  Short : ℕ → OrderOutcome O

module _ {O : Type 0} where
  -- Along a legal order a run comes to the outcome of the pass, else it is refused at the first entry that isn't
  -- ready, or the list is short.
  abbrev pub IsOrderOutcome : (ℕ → List O → Result O Fault) → Plan → List ℕ → OrderOutcome O → Type 0
  IsOrderOutcome mean plan order (Ran outcome) = IsLegal plan order × PassOutcomeMeans mean plan outcome
  IsOrderOutcome mean plan order (Refused index) = IsFirstRefused plan order index
  IsOrderOutcome mean plan order (Short many) = IsShort plan order many

  -- A run answers its outcome, where an `Arc` counts as what it holds, or that memory ran out.
  abbrev pub AnswersOrder : (ℕ → List O → Result O Fault) → Plan → List ℕ
      → Result (Vec (Arc O Global) Global) OrderError → Type 0
  AnswersOrder mean plan order (Ok outs) = IsOrderOutcome mean plan order (Ran (Ok (map arc_value outs.items)))
  AnswersOrder mean plan order (Err (NotReady index)) = IsOrderOutcome mean plan order (Refused index)
  AnswersOrder mean plan order (Err (Ends many)) = IsOrderOutcome mean plan order (Short many)
  AnswersOrder mean plan order (Err (At n fault)) = IsOrderOutcome mean plan order (Ran (Err (n.0, fault)))
  AnswersOrder mean plan order (Err OutOfMemory) = ⊤

-- A list is found to be a legal order, or not, or memory is wanted.
abbrev pub AnswersLegality : Plan → List ℕ → Result Unit OrderError → Type 0
AnswersLegality plan order (Ok done) = IsLegal plan order
AnswersLegality plan order (Err (NotReady index)) = IsFirstRefused plan order index
AnswersLegality plan order (Err (Ends many)) = IsShort plan order many
AnswersLegality plan order (Err (At n fault)) = ⊥
AnswersLegality plan order (Err OutOfMemory) = ⊤
