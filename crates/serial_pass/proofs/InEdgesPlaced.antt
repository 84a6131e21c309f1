-- The in-edges of a node stand together, where the edges stand by target.
use Rattle.std.proofs.Common.{◌≡◌, ◌+◌, ◌-◌, ◌<◌, ◌≤◌, ℕ, zero, suc, List, [], ◌∷◌, length, get_or, take, drop, refl}
use Rattle.std.proofs.Common.{ap, arith, subst, eq-eqb, ne_eqb}
use Rattle.std.proofs.Math.Decide.{dec_lt}
use mathlib.Core.Logic.{dite}
use Rattle.std.specs.List.{AllByRecursion}
use Rattle.std.proofs.lemmas.Bool.Decides.{nat_tests}
use Rattle.serial_pass.specs.declared.plan.PlanEdge.{PlanEdge}
use Rattle.serial_pass.specs.Plans.{in_edges, StandByTarget}
use Rattle.serial_pass.specs.InEdges.{edges_below}
use Rattle.bp_faults.proofs.Lists.{all_map}

-- no edge of these leads to a node below n
pub none_below : (n : ℕ) (es : List PlanEdge) → AllByRecursion (λ (e : PlanEdge). n ≤ e.to.0) es → edges_below es n ≡ 0
none_below n [] h = refl
none_below n (e ∷ es) h = let rest = none_below n es h.1 in let here = h.0 in grind (arith, nat_tests)

none_into : (n : ℕ) (es : List PlanEdge) → AllByRecursion (λ (e : PlanEdge). n + 1 ≤ e.to.0) es → in_edges es n ≡ []
none_into n [] h = refl
none_into n (e ∷ es) h =
    let other : e.to.0 ≡ n → ⊥ = (λ same. let here = h.0 in omega arith) in
    rw (ne_eqb e.to.0 n other) (none_into n es h.1)

pub below_hit : (e : PlanEdge) (es : List PlanEdge) (n : ℕ) → e.to.0 < n
    → edges_below (e ∷ es) n ≡ suc (edges_below es n)
below_hit e es n lt = grind (arith, nat_tests)

pub below_miss : (e : PlanEdge) (es : List PlanEdge) (n : ℕ) → n ≤ e.to.0 → edges_below (e ∷ es) n ≡ edges_below es n
below_miss e es n le = grind (arith, nat_tests)

pub below_le_length : (es : List PlanEdge) (n : ℕ) → edges_below es n ≤ length es
below_le_length [] n = omega arith
below_le_length (e ∷ es) n = let rest = below_le_length es n in grind (arith, nat_tests)

pub below_rises : (es : List PlanEdge) (n : ℕ) → edges_below es n ≤ edges_below es (n + 1)
below_rises [] n = omega arith
below_rises (e ∷ es) n = let rest = below_rises es n in grind (arith, nat_tests)

pub from_all : (n k : ℕ) (es : List PlanEdge) → n ≤ k → AllByRecursion (λ (e : PlanEdge). k ≤ e.to.0) es
    → AllByRecursion (λ (e : PlanEdge). n ≤ e.to.0) es
from_all n k es le h = all_map (λ (e : PlanEdge). k ≤ e.to.0) (λ (e : PlanEdge). n ≤ e.to.0) (λ e g. omega arith) es h

le_first : (e : PlanEdge) (es : List PlanEdge) (i : ℕ) (d : PlanEdge)
    → AllByRecursion (λ (later : PlanEdge). e.to.0 ≤ later.to.0) es → i < length es → e.to.0 ≤ (get_or es i d).to.0
le_first e [] i d h lt = absurd (omega arith)
le_first e (x ∷ es) zero d h lt = h.0
le_first e (x ∷ es) (suc i) d h lt = le_first e es i d h.1 (omega arith)

-- an edge leads below n where it stands before the index at which such edges end
pub stands_if_below : (es : List PlanEdge) (n i : ℕ) (d : PlanEdge) → StandByTarget es → i < length es
    → (get_or es i d).to.0 < n → i < edges_below es n
stands_if_below [] n i d by lt is = absurd (omega arith)
stands_if_below (e ∷ es) n zero d by lt is = rw (below_hit e es n is) (omega arith)
stands_if_below (e ∷ es) n (suc i) d by lt is =
    let rest = stands_if_below es n i d by.1 (omega arith) is in
    let first : e.to.0 < n = let le = le_first e es i d by.0 (omega arith) in omega arith in
    rw (below_hit e es n first) (omega arith)

hit_at : (e : PlanEdge) (es : List PlanEdge) (n i : ℕ) (d : PlanEdge)
    → ((k : ℕ) → k < edges_below es n → (get_or es k d).to.0 < n) → e.to.0 < n → i < suc (edges_below es n)
    → (get_or (e ∷ es) i d).to.0 < n
hit_at e es n zero d rest here lt = here
hit_at e es n (suc i) d rest here lt = rest i (omega arith)

-- by whether the first edge leads below n
pub below_if_stands : (es : List PlanEdge) (n i : ℕ) (d : PlanEdge) → StandByTarget es → i < edges_below es n
    → (get_or es i d).to.0 < n
below_if_stands [] n i d by lt = absurd (omega arith)
below_if_stands (e ∷ es) n i d by lt = dite (dec_lt e.to.0 n)
    (λ here. hit_at e es n i d (λ k lk. below_if_stands es n k d by.1 lk) here (rw (below_hit e es n here) at lt))
    (λ other. let le : n ≤ e.to.0 = omega arith in
    let none = none_below n (e ∷ es) (le, from_all n e.to.0 es le by.0) in
    absurd (omega arith))

pub take_first : {A : Type 0} (a : ℕ) (x : A) (xs ys : List A) → take (a - 0) xs ≡ ys
    → take (suc a - 0) (x ∷ xs) ≡ x ∷ ys
take_first a x xs ys h = let e : suc a - 0 ≡ suc (a - 0) = omega arith in rw e (ap (λ (l : List _). x ∷ l) h)

pub sub_suc : (a b : ℕ) → suc a - suc b ≡ a - b
sub_suc a b = omega arith

-- the edges into a node are those between two of these indices
pub placed : (es : List PlanEdge) (n : ℕ) → StandByTarget es
    → take (edges_below es (n + 1) - edges_below es n) (drop (edges_below es n) es) ≡ in_edges es n
placed [] n by = refl
placed (e ∷ es) n by = dite (dec_lt e.to.0 n)
    (λ less.
    rw (below_hit e es n less, below_hit e es (n + 1) (omega arith), sub_suc, ne_eqb e.to.0 n (λ same. omega arith))
    (placed es n by.1))
    (λ other. dite (dec_lt n e.to.0)
    (λ more. let none = none_below (n + 1) es (from_all (n + 1) e.to.0 es (omega arith) by.0) in
    let lower = none_below n es (from_all n e.to.0 es (omega arith) by.0) in
    rw (
      below_miss e es n (omega arith),
      below_miss e es (n + 1) (omega arith),
      none,
      lower,
      none_into n (e ∷ es) (omega arith, from_all (n + 1) e.to.0 es (omega arith) by.0),
    ) refl)
    (λ both. let same : e.to.0 ≡ n = omega arith in
    let none = none_below n es (from_all n e.to.0 es (omega arith) by.0) in
    rw (below_miss e es n (omega arith), below_hit e es (n + 1) (omega arith), none, eq-eqb e.to.0 n same)
    (take_first (edges_below es (n + 1)) e es (in_edges es n)
    (subst (λ (k : ℕ). take (edges_below es (n + 1) - k) (drop k es) ≡ in_edges es n) none (placed es n by.1)))))

-- at the first edge that leads elsewhere the edges into a node end
pub ends_here : (es : List PlanEdge) (n i : ℕ) (d : PlanEdge) → StandByTarget es → i < length es → edges_below es n ≤ i
    → i ≤ edges_below es (n + 1) → ((get_or es i d).to.0 ≡ n → ⊥) → i ≡ edges_below es (n + 1)
ends_here es n i d by lt from to other = dite (dec_lt i (edges_below es (n + 1)))
    (λ inside. let here = below_if_stands es (n + 1) i d by inside in dite (dec_lt (get_or es i d).to.0 n)
    (λ less. let early = stands_if_below es n i d by lt less in absurd (omega arith))
    (λ same. absurd (other (omega arith))))
    (λ past. omega arith)

pub goes_on : (es : List PlanEdge) (n i : ℕ) (d : PlanEdge) → StandByTarget es → i < length es
    → (get_or es i d).to.0 ≡ n → i + 1 ≤ edges_below es (n + 1)
goes_on es n i d by lt same = let inside = stands_if_below es (n + 1) i d by lt (omega arith) in omega arith

pub below_none : (es : List PlanEdge) → edges_below es 0 ≡ 0
below_none [] = refl
below_none (e ∷ es) = let rest = below_none es in grind (arith, nat_tests)
