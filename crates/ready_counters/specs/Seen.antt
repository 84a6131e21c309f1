-- What contracts see of a board and of a seat.
use Rattle.std.specs.Prelude.{◌≡◌}
use Rattle.serial_pass.specs.declared.plan.Plan.{Plan}
use Rattle.serial_pass.specs.declared.visit.Visit.{Ghosts}
use Rattle.ready_counters.specs.declared.board.Board.{Board}
use Rattle.ready_counters.specs.declared.seat.Seat.{Seat}
use Rattle.ready_counters.specs.declared.view.View.{View}

module _ {V O : Type 0} where
  -- The plan of a board.
  abbrev pub plan_on_board : Board V O → Plan
  plan_on_board board = board.table.shared.key.plan.value

  -- The visitor of a board.
  abbrev pub visitor_of : Board V O → V
  visitor_of board = board.table.shared.key.visitor.value

module _ {V O : Type 0} {W : Ghosts V O} where
  -- What a seat weighs and has done.
  abbrev pub view_of : Seat V O W → View
  view_of seat = seat.seat.me.0

  -- The seat is one of this board's.
  abbrev pub IsSeatOf : Board V O → Seat V O W → Type 0
  IsSeatOf board seat = seat.seat.table_id ≡ board.table.shared.table_id
