-- Settling the heights of a plan, a step at a time.
use Rattle.std.proofs.Common.{◌≡◌, ◌+◌, ◌<◌, ◌≤◌, ℕ, List, [], ◌∷◌, ◌++◌, map, length, get_or, take, ap, arith, ◌∙◌}
use Rattle.std.proofs.Common.{sym, subst, Option, Some, None, IsSome}
use Rattle.std.specs.Prelude.{max}
use Rattle.std.specs.List.{AllByRecursion}
use Rattle.std.proofs.lemmas.List.{take_more, map-append}
use Rattle.std.proofs.lemmas.Option.{slice_get-get_or}
use Rattle.std.specs.Ordering.{ord_max, nat_cmp}
use Rattle.std.proofs.lemmas.Bool.Decides.{nat_tests}
use Rattle.std.proofs.Math.Seq.{take-length}
use Rattle.serial_pass.specs.declared.plan.Plan.{Plan}
use Rattle.serial_pass.specs.declared.plan.PlanEdge.{PlanEdge}
use Rattle.serial_pass.specs.Plans.{sources, in_edges, predecessors, HasNoCycle, IsPlan}
use Rattle.serial_pass.specs.Heights.{above_all, height}
use Rattle.serial_pass.specs.Settling.{settled_at, inner_option, AreSettled}
use Rattle.serial_pass.proofs.Unrolled.{height_rises, height_equation}
use Rattle.serial_pass.proofs.Induction.{height_below}
use Rattle.bp_faults.proofs.Lists.{all_map}
use Rattle.serial_pass.proofs.Predecessors.{all_predecessors, source_at}

above_pushed : (hs : List ℕ) (h : ℕ) → above_all (hs ++ h ∷ []) ≡ max (above_all hs) (h + 1)
above_pushed [] h = omega arith
above_pushed (x ∷ hs) h = let rest = above_pushed hs h in omega arith

-- one edge more
pub above_more : (f : ℕ → ℕ) (es : List PlanEdge) (i : ℕ) (d : PlanEdge) → i < length es
    → above_all (map f (sources (take (i + 1) es)))
    ≡ max (above_all (map f (sources (take i es)))) (f (get_or es i d).from.0 + 1)
above_more f es i d lt =
    rw (
      take_more es i d lt,
      map-append (λ (e : PlanEdge). e.from.0) (take i es) (get_or es i d ∷ []),
      map-append f (sources (take i es)) ((get_or es i d).from.0 ∷ []),
    )
    (above_pushed (map f (sources (take i es))) (f (get_or es i d).from.0))

module _ (plan : Plan) (is_plan : IsPlan plan) (free : HasNoCycle plan.edges) (n : ℕ) (lt : n < plan.count)
    (es : List PlanEdge) (edges_are : es ≡ in_edges plan.edges n) (i : ℕ) (d : PlanEdge) (li : i < length es) where
  of_predecessors : (P : ℕ → Type 0) → AllByRecursion P (predecessors plan.edges n) → P (get_or es i d).from.0
  of_predecessors P h =
      source_at P es i d (subst (λ (l : List PlanEdge). AllByRecursion P (sources l)) (sym edges_are) h) li

  pub source_below : (get_or es i d).from.0 < plan.count
  source_below = of_predecessors (λ m. m < plan.count)
      (all_predecessors (λ m n. m < plan.count) plan.edges n (all_map (λ (e : PlanEdge). (e.from.0 < plan.count)
      × (e.to.0 < plan.count)) (λ (e : PlanEdge). e.from.0 < plan.count) (λ e h. h.0) plan.edges is_plan.ends))

  pub source_lower : height plan (get_or es i d).from.0 + 1 < plan.count
  source_lower =
      let lower = of_predecessors (λ m. height plan m < height plan n) (height_rises plan is_plan.ends free n lt) in
      let small = height_below plan is_plan.ends free n lt in omega arith

  in_settled : (settled : List (Option ℕ)) → AreSettled plan settled → (x : Option ℕ)
      → get_or settled (get_or es i d).from.0 None ≡ x → settled_at settled (get_or es i d).from.0 ≡ x
  in_settled settled are x is =
      ap inner_option (slice_get-get_or settled (get_or es i d).from.0 None
      (subst (λ k. (get_or es i d).from.0 < k) (sym are.many) source_below))
      ∙ is

  -- the height that was read is the source's
  pub read_is : (settled : List (Option ℕ)) → AreSettled plan settled → (h : ℕ)
      → get_or settled (get_or es i d).from.0 None ≡ Some h → h ≡ height plan (get_or es i d).from.0
  read_is settled are h is = are.right (get_or es i d).from.0 h (in_settled settled are (Some h) is)

  pub read_none : (settled : List (Option ℕ)) → AreSettled plan settled
      → AllByRecursion (λ m. IsSome (settled_at settled m)) (predecessors plan.edges n)
      → get_or settled (get_or es i d).from.0 None ≡ None → ⊥
  read_none settled are ready is =
      let some : IsSome (settled_at settled (get_or es i d).from.0) =
      of_predecessors (λ m. IsSome (settled_at settled m)) ready in
      let none : IsSome {T = ℕ} None = subst (λ (r : Option ℕ). IsSome r) (in_settled settled are None is) some in cc

pub ord_max_is : (a b : ℕ) → ord_max nat_cmp a b ≡ max a b
ord_max_is a b = grind (arith, nat_tests)

-- the height of a node is that over all its in-edges
pub height_whole : (plan : Plan) (is_plan : IsPlan plan) (free : HasNoCycle plan.edges) (n : ℕ) → n < plan.count
    → (es : List PlanEdge) → es ≡ in_edges plan.edges n → (i : ℕ) → i ≤ length es → length es ≤ i
    → above_all (map (height plan) (sources (take i es))) ≡ height plan n
height_whole plan is_plan free n lt es edges_are i le ge =
    let whole : i ≡ length es = omega arith in
    ap (λ j. above_all (map (height plan) (sources (take j es)))) whole
    ∙ ap (λ (l : List PlanEdge). above_all (map (height plan) (sources l))) (take-length es ∙ edges_are)
    ∙ sym (height_equation plan is_plan.ends free n lt)
