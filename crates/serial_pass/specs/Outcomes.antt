-- The outcome of a pass, and what a call that runs one answers.
use Rattle.std.specs.Prelude.{◌≡◌, ◌<◌, ℕ, List, length, map, Vec, Result, Ok, Err, ⊤}
use Rattle.std.specs.Global.{Global}
use Rattle.std.specs.List.{range_with_len}
use Rattle.std.specs.Arc.{arc_value}
use Rattle.std.specs.declared.sync.Arc.{Arc}
use Rattle.bp_faults.specs.declared.fault.Fault.{Fault}
use Rattle.serial_pass.specs.declared.plan.Plan.{Plan}
use Rattle.serial_pass.specs.declared.error.PassError.{PassError}
use Rattle.serial_pass.specs.declared.error.PassError.TheVariants.{At, OutOfMemory}
use Rattle.serial_pass.specs.Plans.{predecessors}
use Rattle.serial_pass.specs.Heights.{IsBefore}
use Rattle.serial_pass.specs.Results.{NodeResult, Done, Bad, IsDone, node_result}

-- A visitor takes each node of a plan with as many results as the node has in-edges.
abbrev pub TakesPlan : (ℕ → ℕ → Type 0) → Plan → Type 0
TakesPlan takes plan = (n : ℕ) → n < plan.count → takes n (length (predecessors plan.edges n))

-- A node is the first in serial order whose result isn't done.
pub record IsFirstUndone {O : Type 0} (results : ℕ → NodeResult O) (plan : Plan) (n : ℕ) : Type 0 where
  pub inside : n < plan.count
  pub undone : IsDone (results n) → ⊥
  pub first : (m : ℕ) → m < plan.count → IsBefore plan m n → IsDone (results m)

module _ {O : Type 0} where
  -- The outcome of a pass: all results by node number where all are done, else the first node in serial order
  -- whose result isn't done, with its fault.
  abbrev pub PassOutcomeMeans : (ℕ → List O → Result O Fault) → Plan → Result (List O) (ℕ × Fault) → Type 0
  PassOutcomeMeans mean plan (Ok outs) = map Done outs ≡ map (node_result mean plan) (range_with_len 0 plan.count)
  PassOutcomeMeans mean plan (Err at) =
      IsFirstUndone (node_result mean plan) plan at.0 × (node_result mean plan at.0 ≡ Bad at.1)

  -- What a pass means, whichever node its fault is of.
  abbrev pub PassMeans : (ℕ → List O → Result O Fault) → Plan → Result (List O) Fault → Type 0
  PassMeans mean plan (Ok outs) = PassOutcomeMeans mean plan (Ok outs)
  PassMeans mean plan (Err fault) = (n : ℕ) × PassOutcomeMeans mean plan (Err (n, fault))

  -- Some node has a fault of its own.
  abbrev pub HasFault : (ℕ → List O → Result O Fault) → Plan → Type 0
  HasFault mean plan = (n : ℕ) × (n < plan.count) × ((fault : Fault) × (node_result mean plan n ≡ Bad fault))

  -- A pass answers its outcome, where an `Arc` counts as what it holds, or that memory ran out.
  abbrev pub AnswersPass : (ℕ → List O → Result O Fault) → Plan → Result (Vec (Arc O Global) Global) PassError → Type 0
  AnswersPass mean plan (Ok outs) = PassOutcomeMeans mean plan (Ok (map arc_value outs.items))
  AnswersPass mean plan (Err (At n fault)) = PassOutcomeMeans mean plan (Err (n.0, fault))
  AnswersPass mean plan (Err OutOfMemory) = ⊤
