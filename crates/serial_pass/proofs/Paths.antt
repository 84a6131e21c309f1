-- A path of climbs, and what a step at its end leaves.
use Rattle.std.proofs.Common.{◌≡◌, ◌≢◌, ◌+◌, ◌^◌, ◌<◌, ◌≤◌, ◌⊎◌, inl, inr, ⊎_elim, ℕ, zero, suc, List, [], ◌∷◌, ◌++◌}
use Rattle.std.proofs.Common.{map, length, get_or, set, take, drop, refl, ap, arith, ◌∙◌, sym, subst, Option, Some}
use Rattle.std.proofs.Common.{None, IsSome, length-set, append_assoc, append-nil, add-one, zero-add, true, false}
use Rattle.std.proofs.Common.{replicate}
use Rattle.std.specs.Option.{is_some}
use Rattle.std.proofs.lemmas.Option.{slice_get-get_or}
use Rattle.bp_faults.specs.declared.ids.NodeId.{NodeId}
use Rattle.std.specs.List.{AllByRecursion, range_with_len}
use Rattle.std.proofs.Math.Seq.{drop-cons}
use Rattle.std.proofs.lemmas.List.{take_more, length-map, length-replicate}
use Rattle.std.proofs.Math.ListN.{get_or-map}
use Rattle.std.proofs.lemmas.List.FromFn.{fill_by_all}
use mathlib.Core.Logic.{dite}
use native.Mathlib.Decide.{ℕ_discrete}
use Rattle.serial_pass.specs.declared.plan.Plan.{Plan}
use Rattle.serial_pass.specs.declared.plan.PlanEdge.{PlanEdge}
use Rattle.serial_pass.specs.declared.height.Climb.{Climb}
use Rattle.serial_pass.specs.Plans.{in_edges, sources, predecessors, HasNoCycle, IsPlan}
use Rattle.serial_pass.specs.Heights.{height}
use Rattle.serial_pass.specs.Settling.{settled_at, inner_option, AreSettled, IsOn, IsDue, IsPath, total, cost}
use Rattle.serial_pass.specs.Settling.{path_cost}
use Rattle.serial_pass.specs.Settling.{IsAdvanced, sought_climbs, gone_up, start_at, IsOnWay}
use Rattle.serial_pass.proofs.Climbing.{source_below}
use Rattle.serial_pass.proofs.Unrolled.{unroll_equation, tight, tight_below, tight_rises}
use Rattle.bp_faults.proofs.Lists.{all_map, all_pushed, get_else, get_here, same_at, take-past}
use Rattle.serial_pass.proofs.Predecessors.{in_edges_few}

on_end : (cs ds : List Climb) (n : ℕ) → IsOn ds n → IsOn (cs ++ ds) n
on_end [] ds n h = h
on_end (c ∷ cs) ds n h = inr (on_end cs ds n h)

on_start : (cs ds : List Climb) (n : ℕ) → IsOn cs n → IsOn (cs ++ ds) n
on_start [] ds n h = absurd h
on_start (c ∷ cs) ds n h = ⊎_elim (λ here. inl here) (λ later. inr (on_start cs ds n later)) h

on_either : (cs ds : List Climb) (n : ℕ) → IsOn (cs ++ ds) n → IsOn cs n ⊎ IsOn ds n
on_either [] ds n h = inr h
on_either (c ∷ cs) ds n h =
    ⊎_elim (λ here. inl (inl here)) (λ later. ⊎_elim (λ a. inl (inr a)) (λ b. inr b) (on_either cs ds n later)) h

cost_joined : (plan : Plan) (cs ds : List Climb) → path_cost plan (cs ++ ds) ≡ path_cost plan cs + path_cost plan ds
cost_joined plan [] ds = omega arith
cost_joined plan (c ∷ cs) ds = let rest = cost_joined plan cs ds in omega arith

module _ (plan : Plan) (settled : List (Option ℕ)) where
  -- what holds of the end of a path
  pub path_end : (cs ds : List Climb) → IsPath plan settled (cs ++ ds) → IsPath plan settled ds
  path_end [] ds h = h
  path_end (c ∷ cs) ds h = path_end cs ds h.2

  none_above : (m : ℕ) → IsDue settled [] m → IsSome (settled_at settled m)
  none_above m h = ⊎_elim (λ a. a) (λ b. absurd b) h

  -- the last climb has settled all predecessors that it has looked at
  pub looked_at : (c : Climb) → IsPath plan settled (c ∷ [])
      → AllByRecursion (λ m. IsSome (settled_at settled m)) (take c.next (predecessors plan.edges c.node.0))
  looked_at c h =
      all_map (IsDue settled []) (λ m. IsSome (settled_at settled m)) none_above
      (take c.next (predecessors plan.edges c.node.0)) h.1

  -- the end of a path gives way to other climbs, which keep what it was for
  module _ (after : List (Option ℕ)) (c : Climb) (ds : List Climb)
      (keeps : (m : ℕ) → IsDue settled (c ∷ []) m → IsDue after ds m) where
    later : (cs : List Climb) (m : ℕ) → IsDue after ds m → IsDue after (cs ++ ds) m
    later cs m h = ⊎_elim (λ a. inl a) (λ b. inr (on_end cs ds m b)) h

    due_changed : (cs : List Climb) (m : ℕ) → IsDue settled (cs ++ c ∷ []) m → IsDue after (cs ++ ds) m
    due_changed cs m h =
        ⊎_elim (λ some. later cs m (keeps m (inl some))) (λ on.
        ⊎_elim (λ a. inr (on_start cs ds m a)) (λ b. later cs m (keeps m (inr b))) (on_either cs (c ∷ []) m on)) h

    path_changed : (cs : List Climb) → IsPath plan settled (cs ++ c ∷ []) → IsPath plan after ds
        → IsPath plan after (cs ++ ds)
    path_changed [] h end = end
    path_changed (x ∷ cs) h end = (
      h.0,
      all_map (IsDue settled (cs ++ c ∷ [])) (IsDue after (cs ++ ds)) (due_changed cs)
          (take x.next (predecessors plan.edges x.node.0)) h.1,
      path_changed cs h.2 end,
    )

    pub step_to : (cs : List Climb) → IsPath plan settled (cs ++ c ∷ []) → AreSettled plan after → IsPath plan after ds
        → path_cost plan ds < path_cost plan (c ∷ []) → IsAdvanced plan settled (cs ++ c ∷ []) after (cs ++ ds)
    step_to cs path right end less = record {
      right = right;
      on_path = path_changed cs path end;
      due = due_changed cs;
      less = omega (arith, cost_joined plan cs ds, cost_joined plan cs (c ∷ []));
    }

unsettled_is : (source : NodeId) (r : Option ℕ) → is_some r ≡ false
    → sought_climbs source r ≡ (record { node = source; next = 0 }) ∷ []
unsettled_is source None h = refl
unsettled_is source (Some x) h = cc

settled_is : (source : NodeId) (r : Option ℕ) → is_some r ≡ true → sought_climbs source r ≡ []
settled_is source None h = cc
settled_is source (Some x) h = refl

pub read_settled : (settled : List (Option ℕ)) (k : ℕ) → k < length settled
    → settled_at settled k ≡ get_or settled k None
read_settled settled k lt = ap inner_option (slice_get-get_or settled k None lt)

module _ (settled : List (Option ℕ)) (c : Climb) (source : NodeId) (lt : source.0 < length settled)
    (path : List Climb) where
  pub up_sought : is_some (get_or settled source.0 None) ≡ false
      → (path ++ (record { node = c.node; next = c.next + 1 }) ∷ []) ++ (record { node = source; next = 0 }) ∷ []
      ≡ path ++ gone_up settled c source
  up_sought h =
      append_assoc path ((record { node = c.node; next = c.next + 1 }) ∷ []) ((record { node = source; next = 0 }) ∷ [])
      ∙ ap (λ (l : List Climb). path ++ (record { node = c.node; next = c.next + 1 }) ∷ l) (sym (ap
      (sought_climbs source) (read_settled settled source.0 lt) ∙ unsettled_is source (get_or settled source.0 None) h))

  pub up_settled : is_some (get_or settled source.0 None) ≡ true
      → path ++ (record { node = c.node; next = c.next + 1 }) ∷ [] ≡ path ++ gone_up settled c source
  up_settled h =
      ap (λ (l : List Climb). path ++ (record { node = c.node; next = c.next + 1 }) ∷ l) (sym (ap (sought_climbs source)
      (read_settled settled source.0 lt) ∙ settled_is source (get_or settled source.0 None) h))

module _ (plan : Plan) (is_plan : IsPlan plan) (free : HasNoCycle plan.edges) where
  cost_equation : (n : ℕ) → n < plan.count → cost plan n ≡ suc (total (map (cost plan) (predecessors plan.edges n)))
  unfolding cost
  cost_equation n lt =
      unroll_equation (predecessors plan.edges) (tight plan is_plan.ends free) (tight_rises plan is_plan.ends free)
      (λ n cs. suc (total cs)) 0 plan.count n (tight_below plan is_plan.ends free n lt)

  module _ (settled : List (Option ℕ)) (right : AreSettled plan settled) (cs : List Climb) (c : Climb)
      (path : IsPath plan settled (cs ++ c ∷ [])) where
    end : IsPath plan settled (c ∷ [])
    end = path_end plan settled cs (c ∷ []) path

    pub node_inside : c.node.0 < plan.count
    node_inside = end.0

    pub node_bound : c.node.0 < length settled
    node_bound = subst (λ k. c.node.0 < k) (sym right.many) node_inside

    -- a climb to a settled node ends
    pub step_settled : is_some (get_or settled c.node.0 None) ≡ true → IsAdvanced plan settled (cs ++ c ∷ []) settled cs
    step_settled some =
        let here : IsSome (settled_at settled c.node.0) =
        ap is_some (read_settled settled c.node.0 node_bound) ∙ some in
        subst (λ rest. IsAdvanced plan settled (cs ++ c ∷ []) settled rest) (append-nil cs)
        (step_to plan settled settled c []
        (λ m h. ⊎_elim (λ a. inl a)
        (λ on. ⊎_elim (λ same. inl (subst (λ x. IsSome (settled_at settled x)) same here)) (λ none. absurd none) on) h)
        cs path right tt (omega arith))

    -- where all predecessors were looked at, all are settled
    pub all_looked_at : length (predecessors plan.edges c.node.0) ≤ c.next
        → AllByRecursion (λ m. IsSome (settled_at settled m)) (predecessors plan.edges c.node.0)
    all_looked_at le =
        subst (λ (l : List ℕ). AllByRecursion (λ m. IsSome (settled_at settled m)) l)
        (take-past c.next (predecessors plan.edges c.node.0) le) (looked_at plan settled c end)

    -- a node is settled
    module _ (h : ℕ) (is : h ≡ height plan c.node.0) where
      here : settled_at (set settled c.node.0 (Some h)) c.node.0 ≡ Some h
      here = ap inner_option (get_here settled c.node.0 (Some h) node_bound)

      elsewhere : (m : ℕ) → m ≢ c.node.0 → settled_at (set settled c.node.0 (Some h)) m ≡ settled_at settled m
      elsewhere m ne = ap inner_option (get_else settled c.node.0 m (Some h) ne)

      set_some : (m : ℕ) → (m ≡ c.node.0) ⊎ IsSome (settled_at settled m)
          → IsSome (settled_at (set settled c.node.0 (Some h)) m)
      set_some m either = dite (ℕ_discrete m c.node.0)
          (λ same. subst (λ x. IsSome (settled_at (set settled c.node.0 (Some h)) x)) (sym same)
          (subst (λ (r : Option ℕ). IsSome r) (sym here) refl))
          (λ other. ⊎_elim (λ same. absurd (other same))
          (λ some. subst (λ (r : Option ℕ). IsSome r) (sym (elsewhere m other)) some) either)

      set_right : (m k : ℕ) → settled_at (set settled c.node.0 (Some h)) m ≡ Some k → k ≡ height plan m
      set_right m k e = dite (ℕ_discrete m c.node.0)
          (λ same. let f : Some h ≡ Some k = sym here
          ∙ ap (settled_at (set settled c.node.0 (Some h))) (sym same)
          ∙ e in
          let g : h ≡ k = cc in sym g ∙ is ∙ ap (height plan) (sym same))
          (λ other. right.right m k (sym (elsewhere m other) ∙ e))

      pub step_height : IsAdvanced plan settled (cs ++ c ∷ []) (set settled c.node.0 (Some h)) cs
      step_height =
          subst (λ rest. IsAdvanced plan settled (cs ++ c ∷ []) (set settled c.node.0 (Some h)) rest) (append-nil cs)
          (step_to plan settled (set settled c.node.0 (Some h)) c []
          (λ m h. ⊎_elim (λ some. inl (set_some m (inr some)))
          (λ on. ⊎_elim (λ same. inl (set_some m (inl (sym same)))) (λ none. absurd none) on) h)
          cs path (record { many = length-set settled c.node.0 (Some h) ∙ right.many; right = set_right }) tt
          (omega arith))

    -- a climb goes up
    module _ (source : NodeId) (inside : source.0 < plan.count)
        (at : get_or (predecessors plan.edges c.node.0) c.next 0 ≡ source.0)
        (lt : c.next < length (predecessors plan.edges c.node.0)) where
      looked_more : take (c.next + 1) (predecessors plan.edges c.node.0)
          ≡ take c.next (predecessors plan.edges c.node.0) ++ source.0 ∷ []
      looked_more =
          take_more (predecessors plan.edges c.node.0) c.next 0 lt
          ∙ ap (λ m. take c.next (predecessors plan.edges c.node.0) ++ m ∷ []) at

      left_more : drop c.next (predecessors plan.edges c.node.0)
          ≡ source.0 ∷ drop (c.next + 1) (predecessors plan.edges c.node.0)
      left_more =
          rw add-one (drop-cons (predecessors plan.edges c.node.0) c.next 0 lt
          ∙ ap (λ m. m ∷ drop (suc c.next) (predecessors plan.edges c.node.0)) at)

      abbrev up : Climb
      up = record { node = c.node; next = c.next + 1 }

      up_due : (above : List Climb) → IsDue settled above source.0
          → AllByRecursion (IsDue settled above) (take (c.next + 1) (predecessors plan.edges c.node.0))
      up_due above due = subst (λ (l : List ℕ). AllByRecursion (IsDue settled above) l) (sym looked_more)
          (all_pushed (IsDue settled above) (take c.next (predecessors plan.edges c.node.0)) source.0
          (all_map (λ m. IsSome (settled_at settled m)) (IsDue settled above) (λ m some. inl some)
          (take c.next (predecessors plan.edges c.node.0)) (looked_at plan settled c end)) due)

      up_path : (r : Option ℕ) → settled_at settled source.0 ≡ r → IsPath plan settled (up ∷ sought_climbs source r)
      up_path None is =
          (node_inside, up_due ((record { node = source; next = 0 }) ∷ []) (inr (inl refl)), (inside, tt, tt))
      up_path (Some h) is = (node_inside, up_due [] (inl (subst (λ (r : Option ℕ). IsSome r) (sym is) refl)), tt)

      up_less : (r : Option ℕ) → path_cost plan (up ∷ sought_climbs source r) < path_cost plan (c ∷ [])
      up_less None =
          let left = ap (λ (l : List ℕ). total (map (cost plan) l)) left_more in
          let whole : cost plan source.0 ≡ suc (total (map (cost plan) (drop 0 (predecessors plan.edges source.0)))) =
          cost_equation source.0 inside in
          omega arith
      up_less (Some h) = let left = ap (λ (l : List ℕ). total (map (cost plan) l)) left_more in omega arith

      pub step_up : IsAdvanced plan settled (cs ++ c ∷ []) settled (cs ++ gone_up settled c source)
      step_up = step_to plan settled settled c (gone_up settled c source)
          (λ m h. ⊎_elim (λ some. inl some) (λ on. ⊎_elim (λ same. inr (inl same)) (λ none. absurd none) on) h)
          cs path right (up_path (settled_at settled source.0) refl) (up_less (settled_at settled source.0))

    module _ (es : List PlanEdge) (edges_are : es ≡ in_edges plan.edges c.node.0) where
      pub many_predecessors : length (predecessors plan.edges c.node.0) ≡ length es
      many_predecessors =
          length-map (in_edges plan.edges c.node.0) (λ (e : PlanEdge). e.from.0) ∙ ap length (sym edges_are)

      pub all_ready : length es ≤ c.next
          → AllByRecursion (λ m. IsSome (settled_at settled m)) (predecessors plan.edges c.node.0)
      all_ready le = all_looked_at (omega (arith, many_predecessors))

      pub next_fits : c.next < length es → c.next + 1 < 2 ^ 32
      next_fits lt =
          let few = in_edges_few plan.edges c.node.0 in
          let same = ap length edges_are in
          let all = is_plan.few in
          omega arith

      module _ (d : PlanEdge) (lt : c.next < length es) where
        source_at_next : get_or (predecessors plan.edges c.node.0) c.next d.from.0 ≡ (get_or es c.next d).from.0
        source_at_next =
            ap (λ (l : List PlanEdge). get_or (sources l) c.next d.from.0) (sym edges_are)
            ∙ get_or-map (λ (e : PlanEdge). e.from.0) es c.next d

        pub source_inside : (get_or es c.next d).from.0 < plan.count
        source_inside = source_below plan is_plan free c.node.0 node_inside es edges_are c.next d lt

        pub gone_to : IsAdvanced plan settled (cs ++ c ∷ []) settled (cs ++ gone_up settled c (get_or es c.next d).from)
        gone_to = step_up (get_or es c.next d).from source_inside
            (same_at (predecessors plan.edges c.node.0) c.next 0 d.from.0 (omega (arith, many_predecessors))
            ∙ source_at_next) (omega (arith, many_predecessors))

-- at the start nothing is settled, and there is a climb from each node
all_on : (a n k : ℕ) → k < n → IsOn (map start_at (range_with_len a n)) (a + k)
all_on a zero k lt = absurd (omega arith)
all_on a (suc n) zero lt = inl (omega arith)
all_on a (suc n) (suc k) lt =
    inr (subst (λ m. IsOn (map start_at (range_with_len (a + 1) n)) m) (omega arith) (all_on (a + 1) n k (omega arith)))

start_path : (plan : Plan) (settled : List (Option ℕ)) (a n : ℕ) → a + n ≤ plan.count
    → IsPath plan settled (map start_at (range_with_len a n))
start_path plan settled a zero le = tt
start_path plan settled a (suc n) le = (omega arith, tt, start_path plan settled (a + 1) n (omega arith))

none_settled : (n k : ℕ) → settled_at (replicate n None) k ≡ None
none_settled zero k = refl
none_settled (suc n) zero = refl
none_settled (suc n) (suc k) = none_settled n k

pub on_way_at_start : (plan : Plan)
    → IsOnWay plan (replicate plan.count None) (map start_at (range_with_len 0 plan.count))
on_way_at_start plan = record {
  right = record {
    many = length-replicate plan.count None;
    right = λ n h e. let none = none_settled plan.count n in cc;
  };
  on_path = start_path plan (replicate plan.count None) 0 plan.count (omega arith);
  due =
      λ n lt.
      inr (subst (λ m. IsOn (map start_at (range_with_len 0 plan.count)) m) (zero-add n) (all_on 0 plan.count n lt));
}

some_at : (hs : List ℕ) (k : ℕ) → k < length hs → settled_at (map Some hs) k ≡ Some (get_or hs k 0)
some_at [] k lt = absurd (omega arith)
some_at (h ∷ hs) zero lt = refl
some_at (h ∷ hs) (suc k) lt = some_at hs k (omega arith)

-- where each slot is filled, the heights stand there by node number
pub heights_settled : (plan : Plan) (settled : List (Option ℕ)) → AreSettled plan settled → (hs : List ℕ)
    → map Some hs ≡ settled → hs ≡ map (height plan) (range_with_len 0 plan.count)
heights_settled plan settled right hs same =
    let many : length hs ≡ plan.count = sym (length-map hs Some) ∙ ap length same ∙ right.many in
    fill_by_all (height plan) hs plan.count 0 many
    (λ k lt. right.right k (get_or hs k 0) (ap (λ l. settled_at l k) (sym same) ∙ some_at hs k (omega arith)))
