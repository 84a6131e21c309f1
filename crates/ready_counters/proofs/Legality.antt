-- The nodes by ticket are a legal order of the plan.
use Rattle.std.proofs.Common.{◌≡◌, ◌≢◌, ◌<◌, ◌≤◌, ℕ, zero, suc, List, [], ◌∷◌, length, get_or, take, refl, ap, arith}
use Rattle.std.proofs.Common.{◌∙◌, sym, subst, Some}
use Rattle.std.specs.Prelude.{slice_get, slice_index}
use Rattle.std.specs.List.{AllByRecursion, Contains}
use mathlib.Core.Logic.{dite}
use native.Mathlib.Decide.{ℕ_discrete}
use Rattle.serial_pass.specs.declared.plan.Plan.{Plan}
use Rattle.serial_pass.specs.declared.plan.PlanEdge.{PlanEdge}
use Rattle.serial_pass.specs.Plans.{HaveEndsBelow}
use Rattle.serial_pass.specs.Orders.{IsLegal}
use Rattle.bp_faults.proofs.Lists.{contains_earlier}
use Rattle.ready_counters.proofs.Entering.{all_sources}
use Rattle.ready_counters.specs.Edges.{edge_source, edge_target}
use Rattle.ready_counters.specs.Views.{times}
use Rattle.ready_counters.specs.Inside.{IsInOrder}
use Rattle.ready_counters.proofs.Sums.{times_here, times_else}
use Rattle.ready_counters.proofs.Knowing.{times_grow}

-- both ends of an edge are nodes
pub ends_from : (count : ℕ) (es : List PlanEdge) → HaveEndsBelow count es → (e : ℕ) → e < length es
    → edge_source es e < count
ends_from count [] h e l = absurd (omega arith)
ends_from count (d ∷ ds) h zero l = h.0.0
ends_from count (d ∷ ds) h (suc e) l = ends_from count ds h.1 e (omega arith)

pub ends_to : (count : ℕ) (es : List PlanEdge) → HaveEndsBelow count es → (e : ℕ) → e < length es
    → edge_target es e < count
ends_to count [] h e l = absurd (omega arith)
ends_to count (d ∷ ds) h zero l = h.0.1
ends_to count (d ∷ ds) h (suc e) l = ends_to count ds h.1 e (omega arith)

all_get : (P : ℕ → Type 0) (xs : List ℕ) → ((i n : ℕ) → slice_get xs i ≡ Some n → P n) → AllByRecursion P xs
all_get P [] h = tt
all_get P (x ∷ xs) h = (h 0 x refl, all_get P xs (λ i n e. h (suc i) n e))

pub contains_times : (xs : List ℕ) (n : ℕ) → 1 ≤ times n xs → Contains xs n
contains_times [] n le = absurd (omega arith)
contains_times (x ∷ xs) n le = dite (ℕ_discrete n x)
    (λ same. (0, omega arith, sym same))
    (λ ne. let t = times_else n x xs ne in let c = contains_times xs n (omega arith) in
    (suc c.0, let l = c.1 in omega arith, c.2))

pub times_some : (xs : List ℕ) (j d x : ℕ) → j < length xs → get_or xs j d ≡ x → 1 ≤ times x xs
times_some [] j d x l is = absurd (omega arith)
times_some (y ∷ ys) zero d x l is = subst (λ z. 1 ≤ times z (y ∷ ys)) is (let t = times_here y ys in omega arith)
times_some (y ∷ ys) (suc j) d x l is = let h = times_some ys j d x (omega arith) is in let g = times_grow x y ys in
    omega arith

twice : (xs : List ℕ) (i j d : ℕ) → i < j → j < length xs → get_or xs i d ≡ get_or xs j d → 2 ≤ times (get_or xs i d) xs
twice [] i j d l m is = absurd (omega arith)
twice (x ∷ xs) zero zero d l m is = absurd (omega arith)
twice (x ∷ xs) zero (suc j) d l m is = let h = times_some xs j d x (omega arith) (sym is) in
    let t = times_here x xs in omega arith
twice (x ∷ xs) (suc i) zero d l m is = absurd (omega arith)
twice (x ∷ xs) (suc i) (suc j) d l m is = let h = twice xs i j d (omega arith) (omega arith) is in
    let g = times_grow (get_or xs i d) x xs in omega arith

pub get_at : (xs : List ℕ) (i : ℕ) → i < length xs → slice_get xs i ≡ Some (slice_index xs i)
get_at [] i l = absurd (omega arith)
get_at (x ∷ xs) zero l = refl
get_at (x ∷ xs) (suc i) l = get_at xs i (omega arith)

got_or : (xs : List ℕ) (i d : ℕ) → i < length xs → slice_get xs i ≡ Some (get_or xs i d)
got_or [] i d l = absurd (omega arith)
got_or (x ∷ xs) zero d l = refl
got_or (x ∷ xs) (suc i) d l = got_or xs i d (omega arith)

module _ (plan : Plan) (begins : (e : ℕ) → e < length plan.edges → edge_source plan.edges e < plan.count)
    (order : List ℕ)
    (in_order : IsInOrder plan.count plan.edges order) where
  node_at : (i d : ℕ) → i < length order → get_or order i d < plan.count
  node_at i d l = in_order.0 i (get_or order i d) (got_or order i d l)

  apart : (i j d : ℕ) → i < j → j < length order → get_or order i d ≢ get_or order j d
  apart i j d l m = λ is. let t = twice order i j d l m is in
      let o = in_order.1 (get_or order i d) (node_at i d (omega arith)) in absurd (omega arith)

  stands : (n : ℕ) → n < plan.count → Contains order n
  stands n l = contains_times order n (let o = in_order.1 n l in omega arith)

  source_earlier : (index : ℕ) → index < length order → (e : ℕ) → e < length plan.edges
      → edge_target plan.edges e ≡ slice_index order index → Contains (take index order) (edge_source plan.edges e)
  source_earlier index l e inside to =
      let c = stands (edge_source plan.edges e) (begins e inside) in
      let before = in_order.2 e c.0 index inside (got_or order c.0 (edge_source plan.edges e) c.1 ∙ ap Some c.2)
      (get_at order index l ∙ ap Some (sym to)) in
      contains_earlier order (edge_source plan.edges e) index c.0 before l c.2

  pub is_legal_order : IsLegal plan order
  is_legal_order = record {
    each_once = record {
      nodes = all_get (λ n. n < plan.count) order (λ i n e. in_order.0 i n e);
      each = stands;
      once = apart;
    };
    after = λ index l. all_sources (Contains (take index order)) plan.edges (slice_index order index)
        (λ e inside to. source_earlier index l e inside to);
  }
