-- Views: what a seat weighs and has done, as plain data, and how a step changes it.
use Rattle.std.specs.Prelude.{◌+◌, ◌-◌, ◌==◌, ◌++◌, ℕ, List, [], ◌∷◌, if◌then◌else◌}
use Rattle.ready_counters.specs.declared.view.View.{View}

-- The weights of all seats of a board together.
abbrev pub whole : ℕ
whole = 4294967296

-- A view of which nothing is done.
abbrev pub idle : ℕ → View
idle weight = record {
  weight = weight;
  claimed = [];
  opened = [];
  filled = [];
  subtracted = [];
  fetched = [];
  tickets = [];
}

-- What is left of a seat that was joined: no weight, and nothing done.
abbrev pub nothing : View
nothing = idle 0

-- A seat that was just cut off.
abbrev pub one : View
one = idle 1

-- The first seat of a board.
abbrev pub all_of_it : View
all_of_it = idle 4294967296

-- What a seat keeps from which a seat of weight 1 is cut off.
abbrev pub lighter : View → View
lighter v = record {
  weight = v.weight - 1;
  claimed = v.claimed;
  opened = v.opened;
  filled = v.filled;
  subtracted = v.subtracted;
  fetched = v.fetched;
  tickets = v.tickets;
}

-- Two seats as one, with all that either did.
abbrev pub together : View → View → View
together v w = record {
  weight = v.weight + w.weight;
  claimed = v.claimed ++ w.claimed;
  opened = v.opened ++ w.opened;
  filled = v.filled ++ w.filled;
  subtracted = v.subtracted ++ w.subtracted;
  fetched = v.fetched ++ w.fetched;
  tickets = v.tickets ++ w.tickets;
}

-- The view once a node is claimed.
abbrev pub with_claim : View → ℕ → View
with_claim v n = record {
  weight = v.weight;
  claimed = n ∷ v.claimed;
  opened = v.opened;
  filled = v.filled;
  subtracted = v.subtracted;
  fetched = v.fetched;
  tickets = v.tickets;
}

-- The view once a node has the ticket of a number.
abbrev pub with_ticket : View → ℕ → ℕ → View
with_ticket v n k = record {
  weight = v.weight;
  claimed = v.claimed;
  opened = v.opened;
  filled = v.filled;
  subtracted = v.subtracted;
  fetched = v.fetched;
  tickets = (n, k) ∷ v.tickets;
}

-- The view once an edge is opened, to be filled.
abbrev pub with_open : View → ℕ → View
with_open v e = record {
  weight = v.weight;
  claimed = v.claimed;
  opened = e ∷ v.opened;
  filled = v.filled;
  subtracted = v.subtracted;
  fetched = v.fetched;
  tickets = v.tickets;
}

-- The list without its first entry.
abbrev pub without_first : List ℕ → List ℕ
without_first [] = []
without_first (x ∷ xs) = xs

-- The view once the edge that was opened last is filled.
abbrev pub with_fill : View → ℕ → View
with_fill v e = record {
  weight = v.weight;
  claimed = v.claimed;
  opened = without_first v.opened;
  filled = e ∷ v.filled;
  subtracted = v.subtracted;
  fetched = v.fetched;
  tickets = v.tickets;
}

-- The view once an edge is opened and filled, where none was open.
abbrev pub with_filled : View → ℕ → View
with_filled v e = record {
  weight = v.weight;
  claimed = v.claimed;
  opened = [];
  filled = e ∷ v.filled;
  subtracted = v.subtracted;
  fetched = v.fetched;
  tickets = v.tickets;
}

-- The view once an edge is subtracted.
abbrev pub with_subtract : View → ℕ → View
with_subtract v e = record {
  weight = v.weight;
  claimed = v.claimed;
  opened = v.opened;
  filled = v.filled;
  subtracted = e ∷ v.subtracted;
  fetched = v.fetched;
  tickets = v.tickets;
}

-- The view once an edge is fetched.
abbrev pub with_fetch : View → ℕ → View
with_fetch v e = record {
  weight = v.weight;
  claimed = v.claimed;
  opened = v.opened;
  filled = v.filled;
  subtracted = v.subtracted;
  fetched = e ∷ v.fetched;
  tickets = v.tickets;
}

-- How often a number stands in a list.
abbrev pub times : ℕ → List ℕ → ℕ
times x [] = 0
times x (y ∷ ys) = (if y == x then 1 else 0) + times x ys

-- How many tickets a node has.
abbrev pub tickets_for : ℕ → List (ℕ × ℕ) → ℕ
tickets_for n [] = 0
tickets_for n (t ∷ ts) = (if t.0 == n then 1 else 0) + tickets_for n ts

-- The number on a node's ticket.
abbrev pub ticket_number : ℕ → List (ℕ × ℕ) → ℕ
ticket_number n [] = 0
ticket_number n (t ∷ ts) = (if t.0 == n then t.1 else 0) + ticket_number n ts

-- How many tickets have a number.
abbrev pub tickets_with : ℕ → List (ℕ × ℕ) → ℕ
tickets_with k [] = 0
tickets_with k (t ∷ ts) = (if t.1 == k then 1 else 0) + tickets_with k ts
