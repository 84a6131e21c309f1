-- Lists of nodes that are legal orders, and where others are refused.
use Rattle.std.proofs.Common.{◌≡◌, ◌≢◌, ◌<◌, ◌≤◌, ◌+◌, ℕ, suc, true, false, List, [], ◌∷◌, ◌++◌, length, replicate}
use Rattle.std.proofs.Common.{get_or, take, refl, ap, arith, ◌∙◌, sym, subst, Bool, Result, ⊎_elim, length-set}
use Rattle.std.specs.Prelude.{slice_index, slice_set}
use Rattle.std.specs.List.{AllByRecursion, AllPairs, Contains}
use Rattle.std.proofs.Math.Decide.{dec_lt}
use Rattle.std.proofs.Math.Seq.{take-length}
use Rattle.std.proofs.lemmas.List.{take_more, get_or-take, length-take-le, length-replicate}
use mathlib.Core.Logic.{dite}
use Rattle.bp_faults.specs.declared.fault.Fault.{Fault}
use Rattle.serial_pass.specs.declared.plan.Plan.{Plan}
use Rattle.serial_pass.specs.Plans.{predecessors}
use Rattle.serial_pass.specs.Laws.{AtMostOneOutcome}
use Rattle.serial_pass.specs.Orders.{IsLegal}
use Rattle.pass_core.specs.CoreStates.{IsMarked, IsUnmarked, marks}
use Rattle.pass_core.specs.OrderOutcomes.{IsReadyAfter, IsReadyAt, IsFirstRefused, IsShort, OrderOutcome, Ran, Refused}
use Rattle.pass_core.specs.OrderOutcomes.{Short, IsOrderOutcome}
use Rattle.bp_faults.proofs.Lists.{all_map, all_pushed, all_contained, same_at}
use Rattle.pass_core.proofs.Marks.{marks_more, marks_most, marks_full, marks_none, marked_or, marked_before}
use Rattle.pass_core.proofs.Marks.{still_marked, now_marked, not_both, get_blank}

-- After some entries of a list, each of them ready, what was visited is marked.
pub record IsChecked (plan : Plan) (order : List ℕ) (index : ℕ) (visited : List Bool) : Type 0 where
  pub many : length visited ≡ plan.count
  pub nodes : AllByRecursion (λ n. n < plan.count) (take index order)
  pub marked : AllByRecursion (IsMarked visited) (take index order)
  pub seen : (k : ℕ) → IsMarked visited k → (j : ℕ) × (j < index) × (get_or order j k ≡ k)
  pub counted : marks visited ≡ index
  pub ready : (earlier : ℕ) → earlier < index → IsReadyAt plan order earlier

some_unmarked : (bs : List Bool) → marks bs < length bs → (k : ℕ) × (k < length bs) × IsUnmarked bs k
some_unmarked [] h = absurd (omega arith)
some_unmarked (false ∷ bs) h = (0, omega arith, refl)
some_unmarked (true ∷ bs) h = let t = some_unmarked bs (omega arith) in (suc t.0, let e = t.1 in omega arith, t.2)

contains_taken : (xs : List ℕ) (x i j : ℕ) → j < i → i ≤ length xs → get_or xs j x ≡ x → Contains (take i xs) x
contains_taken xs x i j lt le is = (j, let e = length-take-le i xs le in omega arith, get_or-take i xs j x lt ∙ is)

taken_at : (xs : List ℕ) (x i : ℕ) → i ≤ length xs → Contains (take i xs) x → (j : ℕ) × (j < i) × (get_or xs j x ≡ x)
taken_at xs x i le c =
    let e = length-take-le i xs le in
    let lt : c.0 < i = let h = c.1 in omega arith in
    (c.0, lt, sym (get_or-take i xs c.0 x lt) ∙ c.2)

module _ (plan : Plan) (order : List ℕ) where
  pub checked_none : IsChecked plan order 0 (replicate plan.count false)
  checked_none = record {
    many = length-replicate plan.count false;
    nodes = tt;
    marked = tt;
    seen = λ k h. let no : false ≡ true = get_blank plan.count false k true h in absurd cc;
    counted = marks_none plan.count;
    ready = λ earlier lt. absurd (omega arith);
  }

  module _ (index : ℕ) (visited : List Bool) (checked : IsChecked plan order index visited) where
    pub index_small : index ≤ plan.count
    index_small = let most = marks_most visited in omega (arith, checked.many, checked.counted)

    module _ (n : ℕ) (lt : index < length order) (here : slice_index order index ≡ n) where
      contained : (k : ℕ) → IsMarked visited k → Contains (take index order) k
      contained k h = let t = checked.seen k h in contains_taken order k index t.0 t.1 (omega arith) t.2

      ready_here : n < plan.count → IsUnmarked visited n → AllByRecursion (IsMarked visited) (predecessors plan.edges n)
          → IsReadyAt plan order index
      ready_here inside free after = subst (IsReadyAfter plan (take index order)) (sym here) (record {
        inside = inside;
        unvisited =
            λ c. not_both visited n (all_contained (IsMarked visited) (take index order) n checked.marked c) free;
        after = all_map (IsMarked visited) (Contains (take index order)) contained (predecessors plan.edges n) after;
      })

      -- what makes the next node ready shows in the marks
      pub ready_shows : IsReadyAt plan order index
          → (n < plan.count) × IsUnmarked visited n × AllByRecursion (IsMarked visited) (predecessors plan.edges n)
      ready_shows at =
          let is : IsReadyAfter plan (take index order) n = subst (IsReadyAfter plan (take index order)) here at in (
            is.inside,
            ⊎_elim (λ h. absurd (is.unvisited (contained n h))) (λ free. free)
                (marked_or visited n (subst (λ x. n < x) (sym checked.many) is.inside)),
            all_map (Contains (take index order)) (IsMarked visited) (λ m c. all_contained (IsMarked visited)
                (take index order) m checked.marked c) (predecessors plan.edges n) is.after,
          )

      pub refused_at : (IsReadyAt plan order index → ⊥) → IsFirstRefused plan order index
      refused_at refused = record { inside = lt; ready = checked.ready; refused = refused }

      taken_more : take (index + 1) order ≡ take index order ++ n ∷ []
      taken_more = take_more order index 0 lt ∙ ap (λ x. take index order ++ x ∷ []) here

      module _ (inside : n < plan.count) (free : IsUnmarked visited n)
          (after : AllByRecursion (IsMarked visited) (predecessors plan.edges n)) where
        seen_more : (k : ℕ) → IsMarked (slice_set visited n true) k → (j : ℕ) × (j < index + 1) × (get_or order j k ≡ k)
        seen_more k h =
            ⊎_elim (λ same. (index, omega arith, same_at order index k 0 lt ∙ here ∙ sym same)) (λ before. let t =
            checked.seen k before in (t.0, let e = t.1 in omega arith, t.2)) (marked_before visited n k h)

        ready_more : (earlier : ℕ) → earlier < index + 1 → IsReadyAt plan order earlier
        ready_more earlier e =
            dite (dec_lt earlier index) (λ less. checked.ready earlier less) (λ last. let same : index ≡ earlier =
            omega arith in subst (IsReadyAt plan order) same (ready_here inside free after))

        pub checked_more : IsChecked plan order (index + 1) (slice_set visited n true)
        checked_more = record {
          many = length-set visited n true ∙ checked.many;
          nodes =
              subst (AllByRecursion (λ n. n < plan.count)) (sym taken_more)
              (all_pushed (λ n. n < plan.count) (take index order) n checked.nodes inside);
          marked = subst (AllByRecursion (IsMarked (slice_set visited n true))) (sym taken_more)
              (all_pushed (IsMarked (slice_set visited n true)) (take index order) n
              (all_map (IsMarked visited) (IsMarked (slice_set visited n true)) (λ k h. still_marked visited n k h)
              (take index order) checked.marked) (now_marked visited n free));
          seen = seen_more;
          counted = marks_more visited n free ∙ omega (arith, checked.counted);
          ready = ready_more;
        }

    module _ (whole : index ≡ length order) where
      all_taken : take index order ≡ order
      all_taken = ap (λ i. take i order) whole ∙ take-length order

      pub short_if : length order < plan.count → IsShort plan order (length order)
      short_if less =
          let t = some_unmarked visited (omega (arith, checked.many, checked.counted)) in record {
            whole = refl;
            ready = λ k lt. checked.ready k (subst (λ x. k < x) (sym whole) lt);
            missing = (
              t.0,
              subst (λ x. t.0 < x) checked.many t.1,
              λ c. not_both visited t.0 (all_contained (IsMarked visited) order t.0
                  (subst (AllByRecursion (IsMarked visited)) all_taken checked.marked) c) t.2,
            );
          }

      once : AllPairs (λ m n. m ≢ n) order
      once i j d lt inside same =
          let at = checked.ready j (subst (λ x. j < x) (sym whole) inside) in
          at.unvisited (contains_taken order (slice_index order j) j i lt (omega arith)
          (same_at order i (slice_index order j) d (omega arith) ∙ same ∙ same_at order j d 0 inside))

      pub legal_if : plan.count ≤ length order → IsLegal plan order
      legal_if enough = record {
        each_once = record {
          nodes = subst (AllByRecursion (λ n. n < plan.count)) all_taken checked.nodes;
          each =
              λ n lt. let t = checked.seen n (marks_full visited (omega (arith, checked.many, checked.counted)) n
              (subst (λ x. n < x) (sym checked.many) lt)) in
              (t.0, subst (λ x. t.0 < x) whole t.1, t.2);
          once = once;
        };
        after = λ k lt. (checked.ready k (subst (λ x. k < x) (sym whole) lt)).after;
      }

  module _ (legal : IsLegal plan order) where
    -- each entry of a legal order is ready
    legal_ready : (index : ℕ) → index < length order → IsReadyAt plan order index
    legal_ready index lt = record {
      inside =
          all_contained (λ n. n < plan.count) order (slice_index order index) legal.each_once.nodes
          (index, lt, same_at order index (slice_index order index) 0 lt);
      unvisited = λ c. let t = taken_at order (slice_index order index) index (omega arith) c in
          legal.each_once.once t.0 index (slice_index order index) t.1 lt
          (t.2 ∙ sym (same_at order index (slice_index order index) 0 lt));
      after = legal.after index lt;
    }

    pub never_refused : (index : ℕ) → IsFirstRefused plan order index → ⊥
    never_refused index first = first.refused (legal_ready index first.inside)

    pub never_short : (many : ℕ) → IsShort plan order many → ⊥
    never_short many short = short.missing.2 (legal.each_once.each short.missing.0 short.missing.1)

  refused_once : (j k : ℕ) → IsFirstRefused plan order j → IsFirstRefused plan order k → j ≡ k
  refused_once j k a b = dite (dec_lt j k)
      (λ less. absurd (a.refused (b.ready j less)))
      (λ more. dite (dec_lt k j) (λ less. absurd (b.refused (a.ready k less))) (λ no. omega arith))

module _ {O : Type 0} (mean : ℕ → List O → Result O Fault) (plan : Plan) (one : AtMostOneOutcome O) where
  pub legal_agree : (order other : List ℕ) → IsLegal plan order → IsLegal plan other → (x y : OrderOutcome O)
      → IsOrderOutcome mean plan order x → IsOrderOutcome mean plan other y → x ≡ y
  legal_agree order other l m (Ran r) (Ran s) a b = ap Ran (one mean plan r s a.1 b.1)
  legal_agree order other l m (Ran r) (Refused k) a b = absurd (never_refused plan other m k b)
  legal_agree order other l m (Ran r) (Short k) a b = absurd (never_short plan other m k b)
  legal_agree order other l m (Refused k) y a b = absurd (never_refused plan order l k a)
  legal_agree order other l m (Short k) y a b = absurd (never_short plan order l k a)

  pub one_outcome : (order : List ℕ) (x y : OrderOutcome O) → IsOrderOutcome mean plan order x
      → IsOrderOutcome mean plan order y → x ≡ y
  one_outcome order (Ran r) (Ran s) a b = ap Ran (one mean plan r s a.1 b.1)
  one_outcome order (Ran r) (Refused k) a b = absurd (never_refused plan order a.0 k b)
  one_outcome order (Ran r) (Short k) a b = absurd (never_short plan order a.0 k b)
  one_outcome order (Refused j) (Ran r) a b = absurd (never_refused plan order b.0 j a)
  one_outcome order (Refused j) (Refused k) a b = ap Refused (refused_once plan order j k a b)
  one_outcome order (Refused j) (Short k) a b = absurd (a.refused (b.ready j a.inside))
  one_outcome order (Short j) (Ran r) a b = absurd (never_short plan order b.0 j a)
  one_outcome order (Short j) (Refused k) a b = absurd (b.refused (a.ready k b.inside))
  one_outcome order (Short j) (Short k) a b = ap Short (a.whole ∙ sym b.whole)
