-- What all seats of a board have done together.
use Rattle.std.specs.Prelude.{◌+◌, ℕ, zero, suc, List, [], ◌∷◌}
use Rattle.ready_counters.specs.declared.view.View.{View}
use Rattle.ready_counters.specs.Views.{times, tickets_for, ticket_number, tickets_with}

-- A number of each view, added up.
abbrev pub total_of : {V : Type 0} → (V → ℕ) → List V → ℕ
total_of f [] = 0
total_of f (v ∷ vs) = f v + total_of f vs

-- A number of each number below another, added up.
abbrev pub sum_below : (ℕ → ℕ) → ℕ → ℕ
sum_below f zero = 0
sum_below f (suc n) = f n + sum_below f n

-- What all seats weigh.
abbrev pub weights : List View → ℕ
weights views = total_of (λ (v : View). v.weight) views

-- How often a node was claimed.
abbrev pub claims : List View → ℕ → ℕ
claims views n = total_of (λ (v : View). times n v.claimed) views

-- How often an edge is open.
abbrev pub opens : List View → ℕ → ℕ
opens views e = total_of (λ (v : View). times e v.opened) views

-- How often an edge was filled.
abbrev pub fills : List View → ℕ → ℕ
fills views e = total_of (λ (v : View). times e v.filled) views

-- How often an edge was subtracted.
abbrev pub subtractions : List View → ℕ → ℕ
subtractions views e = total_of (λ (v : View). times e v.subtracted) views

-- How often an edge was fetched.
abbrev pub fetches : List View → ℕ → ℕ
fetches views e = total_of (λ (v : View). times e v.fetched) views

-- How many tickets a node has.
abbrev pub draws : List View → ℕ → ℕ
draws views n = total_of (λ (v : View). tickets_for n v.tickets) views

-- The number on a node's ticket.
abbrev pub drawn_numbers : List View → ℕ → ℕ
drawn_numbers views n = total_of (λ (v : View). ticket_number n v.tickets) views

-- How many tickets have a number.
abbrev pub uses : List View → ℕ → ℕ
uses views k = total_of (λ (v : View). tickets_with k v.tickets) views
