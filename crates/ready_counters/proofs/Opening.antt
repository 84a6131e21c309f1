-- The table at the start.
use Rattle.std.proofs.Common.{◌≡◌, ◌+◌, ◌<◌, ◌≤◌, ◌==◌, ◌++◌, ℕ, zero, suc, List, [], ◌∷◌, length, length-set, map, set}
use Rattle.std.proofs.Common.{take, get_or, get_or-set_same, get_or-set_other, refl, ap, arith, ◌∙◌, sym, subst, Option}
use Rattle.std.proofs.Common.{None, replicate, eq-eqb, ne_eqb, true, false, Bool}
use Rattle.std.specs.Prelude.{slice_index, if◌then◌else◌}
use Rattle.std.specs.declared.sync.Arc.{Arc}
use mathlib.Core.Option.{some, some-injective, some-ne-none}
use mathlib.Core.Logic.{dite}
use native.Mathlib.Decide.{ℕ_discrete}
use Rattle.bp_faults.proofs.Lists.{same_at}
use lib.ListN.{get_elem?}
use Rattle.atomic_table.specs.Table.{opening}
use Rattle.serial_pass.specs.declared.plan.PlanEdge.{PlanEdge}
use Rattle.pass_core.specs.declared.published.Published.{Published}
use Rattle.serial_pass.specs.Results.{NodeResult}
use Rattle.ready_counters.specs.declared.view.View.{View}
use Rattle.ready_counters.specs.Edges.{left_from, edge_target}
use Rattle.ready_counters.specs.Meaning.{IsView, IsBoard}
use Rattle.ready_counters.specs.Sums.{sum_below}
use Rattle.ready_counters.specs.Views.{all_of_it}
use Rattle.ready_counters.specs.Meaning.{AreFirst}
use Rattle.serial_pass.specs.declared.plan.Plan.{Plan}
use Rattle.ready_counters.proofs.Left.{left_bound}
use Rattle.ready_counters.proofs.Seating.{empty_view}

none_below : (n : ℕ) → sum_below (λ _. 0) n ≡ 0
none_below zero = refl
none_below (suc n) = let h = none_below n in omega arith

vacant_at : {X : Type 0} (x : X) (m e : ℕ) → e < m → get_elem? (map some (replicate m x)) e ≡ some (some x)
vacant_at x zero e l = absurd (omega arith)
vacant_at x (suc m) zero l = refl
vacant_at x (suc m) (suc e) l = vacant_at x m e (omega arith)

vacant_long : {X : Type 0} (x : X) (m : ℕ) → length (map some (replicate m x)) ≡ m
vacant_long x zero = refl
vacant_long x (suc m) = ap suc (vacant_long x m)

pub opening_board : {O A : Type 0} (count : ℕ) (edges : List PlanEdge) (result : ℕ → NodeResult O) (words : List ℕ)
    → AreFirst count (length edges) edges words
    → IsBoard count edges result
    (opening words (replicate {A = Option (Arc (Published O) A)} (length edges) None) all_of_it)
opening_board count edges result words first = record {
  many_words = first.0;
  many_slots = vacant_long None (length edges);
  weighed = refl;
  seats = λ id v at. the_seat id v at;
  counters = record { once = λ n. omega arith; words = λ n l. first.1 n l };
  states = record {
    order = λ e. omega arith;
    words =
        λ e l. (first.2 (count + e) (omega arith), vacant_at None (length edges) e l);
  };
  tickets = record {
    counted = first.2 (count + length edges) (omega arith) ∙ sym (none_below count);
    below = λ k l. let z = first.2 (count + length edges) (omega arith) in absurd (omega arith);
    above = λ k l. refl;
    numbered = λ n l. absurd (omega arith);
    rises = λ e l d. absurd (omega arith);
  };
} where
  the_seat : (id : ℕ) (v : View) → get_elem? (all_of_it ∷ []) id ≡ some v → IsView count edges v
  the_seat zero v at = subst (λ (x : View). IsView count edges x) (some-injective all_of_it v at)
      (empty_view count edges all_of_it (λ z. absurd (omega arith)) refl refl refl refl refl refl)
  the_seat (suc id) v at = absurd (some-ne-none v (sym at))

abbrev the_one : Bool → ℕ
the_one b = if b then 1 else 0

left_snoc : (k n : ℕ) (es : List PlanEdge) (e : PlanEdge)
    → left_from (λ _. 0) k (es ++ e ∷ []) n ≡ left_from (λ _. 0) k es n + the_one (e.to.0 == n)
left_snoc k n [] e = omega arith
left_snoc k n (d ∷ es) e = let h = left_snoc (suc k) n es e in omega arith

take_more : (es : List PlanEdge) (i : ℕ) (e : PlanEdge) → i < length es → get_or es i e ≡ e
    → take (suc i) es ≡ take i es ++ e ∷ []
take_more [] i e l is = absurd (omega arith)
take_more (d ∷ es) zero e l is = ap (λ x. x ∷ []) is
take_more (d ∷ es) (suc i) e l is = ap (λ xs. d ∷ xs) (take_more es i e (omega arith) is)

pub first_more : (count many : ℕ) (es : List PlanEdge) (e : PlanEdge) (words : List ℕ) (i x : ℕ) → i < length es
    → get_or es i e ≡ e → e.to.0 < count → x ≡ suc (slice_index words e.to.0) → AreFirst count many (take i es) words
    → AreFirst count many (take (suc i) es) (set words e.to.0 x)
first_more count many es e words i x l is node x_is first = (
  length-set words e.to.0 x ∙ first.0,
  (λ n ln. let a = first.1 n ln in
      let s = left_snoc 0 n (take i es) e in
      let t : left_from (λ _. 0) 0 (take (suc i) es) n ≡ left_from (λ _. 0) 0 (take i es ++ e ∷ []) n =
      ap (λ xs. left_from (λ _. 0) 0 xs n) (take_more es i e l is) in
      dite (ℕ_discrete n e.to.0)
      (λ same. let b : slice_index (set words e.to.0 x) n ≡ x = ap (slice_index (set words e.to.0 x)) same
      ∙ get_or-set_same words e.to.0 x 0 (subst (λ k. e.to.0 < k) (sym first.0) (omega arith)) in
      let c : slice_index words e.to.0 ≡ slice_index words n = ap (slice_index words) (sym same) in
      let q : (e.to.0 == n) ≡ true = eq-eqb e.to.0 n (sym same) in
      let u : the_one (e.to.0 == n) ≡ 1 = ap (λ (z : Bool). the_one z) q in omega arith)
      (λ ne. let b = get_or-set_other words e.to.0 n x 0 ne in
      let q : (e.to.0 == n) ≡ false = ne_eqb e.to.0 n (λ z. ne (sym z)) in
      let u : the_one (e.to.0 == n) ≡ 0 = ap (λ (z : Bool). the_one z) q in omega arith)),
  (λ k lk. get_or-set_other words e.to.0 k x 0 (λ z. omega arith) ∙ first.2 k lk),
)

pub opening_as : {O A : Type 0} (plan planned : Plan) (result : Plan → ℕ → NodeResult O) (words found : List ℕ)
    (many : ℕ) → planned ≡ plan → found ≡ words → many ≡ length plan.edges
    → AreFirst plan.count (length plan.edges) plan.edges words
    → IsBoard planned.count planned.edges (result planned)
    (opening found (replicate {A = Option (Arc (Published O) A)} many None) all_of_it)
opening_as {O} {A} plan planned result words found many p w m first =
    subst (λ (q : Plan). IsBoard q.count q.edges (result q)
    (opening found (replicate {A = Option (Arc (Published O) A)} many None) all_of_it)) (sym p)
    (subst (λ (xs : List ℕ). IsBoard plan.count plan.edges (result plan)
    (opening xs (replicate {A = Option (Arc (Published O) A)} many None) all_of_it)) (sym w)
    (subst (λ k. IsBoard plan.count plan.edges (result plan)
    (opening words (replicate {A = Option (Arc (Published O) A)} k None) all_of_it)) (sym m)
    (opening_board plan.count plan.edges (result plan) words first)))

pub edge_to : (edges xs : List PlanEdge) (i : ℕ) (d : PlanEdge) → xs ≡ edges → i < length edges
    → (get_or xs i d).to.0 ≡ edge_target edges i
edge_to edges xs i d is l = ap (λ ys. (get_or ys i d).to.0) is ∙ at edges i l where
  at : (ys : List PlanEdge) (i : ℕ) → i < length ys → (get_or ys i d).to.0 ≡ edge_target ys i
  at [] i l = absurd (omega arith)
  at (y ∷ ys) zero l = refl
  at (y ∷ ys) (suc i) l = at ys i (omega arith)

pub again : (es : List PlanEdge) (i : ℕ) (d : PlanEdge) → i < length es → get_or es i (get_or es i d) ≡ get_or es i d
again [] i d l = absurd (omega arith)
again (e ∷ es) zero d l = refl
again (e ∷ es) (suc i) d l = again es i d (omega arith)

pub first_small : (count many : ℕ) (edges : List PlanEdge) (i n : ℕ) (words : List ℕ)
    → AreFirst count many (take i edges) words → n < count → slice_index words n ≤ length edges
first_small count many edges i n words first l = let a = first.1 n l in
    let b = left_bound (λ _. 0) 0 (take i edges) n in let c = take_short edges i in omega arith where
      take_short : (es : List PlanEdge) (i : ℕ) → length (take i es) ≤ length es
      take_short [] zero = omega arith
      take_short [] (suc i) = omega arith
      take_short (e ∷ es) zero = omega arith
      take_short (e ∷ es) (suc i) = let h = take_short es i in omega arith

pub found_small : (count many : ℕ) (edges xs : List PlanEdge) (words : List ℕ) (i found : ℕ) (d : PlanEdge)
    → xs ≡ edges → i < length xs → ((e : ℕ) → e < length edges → edge_target edges e < count)
    → AreFirst count many (take i edges) words
    → found ≡ get_or words (get_or xs i d).to.0 found → found ≤ length edges
found_small count many edges xs words i found d is l ends first at =
    let inside : i < length edges = subst (λ ys. i < length ys) is l in
    let t = edge_to edges xs i d is inside in let n = ends i inside in let m = first.0 in
    let a = first_small count many edges i (get_or xs i d).to.0 words first (omega arith) in
    let b = same_at words (get_or xs i d).to.0 found 0 (omega arith) in
    let c : found ≡ slice_index words (get_or xs i d).to.0 = at ∙ b in omega arith

pub first_more_as : (count many : ℕ) (edges xs : List PlanEdge) (words : List ℕ) (i found : ℕ) (d : PlanEdge)
    → xs ≡ edges → i < length xs → ((e : ℕ) → e < length edges → edge_target edges e < count)
    → AreFirst count many (take i edges) words
    → found ≡ get_or words (get_or xs i d).to.0 found
    → AreFirst count many (take (i + 1) edges) (set words (get_or xs i d).to.0 (found + 1))
first_more_as count many edges xs words i found d is l ends first at =
    let inside : i < length edges = subst (λ ys. i < length ys) is l in
    let t = edge_to edges xs i d is inside in let n = ends i inside in let m = first.0 in
    let b = same_at words (get_or xs i d).to.0 found 0 (omega arith) in
    let c : found + 1 ≡ suc (slice_index words (get_or xs i d).to.0) =
    let q : found ≡ slice_index words (get_or xs i d).to.0 = at ∙ b in omega arith in
    let e : get_or edges i (get_or xs i d) ≡ get_or xs i d =
    subst (λ ys. get_or edges i (get_or ys i d) ≡ get_or ys i d) (sym is) (again edges i d inside) in
    let k : suc i ≡ i + 1 = omega arith in
    subst (λ j. AreFirst count many (take j edges) (set words (get_or xs i d).to.0 (found + 1))) k
    (first_more count many edges (get_or xs i d) words i (found + 1) inside e (omega arith) c first)
