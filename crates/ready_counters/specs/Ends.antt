-- How a pass ends on a board.
use Rattle.std.specs.Prelude.{◌≡◌, ◌<◌, ℕ, List, length, slice_get, Some}
use Rattle.serial_pass.specs.declared.plan.PlanEdge.{PlanEdge}
use Rattle.ready_counters.specs.declared.view.View.{View}
use Rattle.ready_counters.specs.Views.{times, ticket_number}

-- The nodes stand by the numbers on their tickets.
abbrev pub IsByTicket : ℕ → View → List ℕ → Type 0
IsByTicket count v order =
    (length order ≡ count) × ((n : ℕ) → n < count → slice_get order (ticket_number n v.tickets) ≡ Some n)

-- A seat claimed each node once, and filled, subtracted and fetched each edge once.
abbrev pub IsDoneBy : ℕ → List PlanEdge → View → Type 0
IsDoneBy count edges v = ((n : ℕ) → n < count → times n v.claimed ≡ 1)
    × ((e : ℕ) → e < length edges → (times e v.filled ≡ 1) × (times e v.subtracted ≡ 1) × (times e v.fetched ≡ 1))
