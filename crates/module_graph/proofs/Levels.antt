-- A search by levels gives distances.
use Rattle.std.proofs.Common.{◌≡◌, ◌≢◌, ◌+◌, ◌<◌, ◌≤◌, ◌++◌, ◌⊎◌, inl, inr, ⊎_elim, ℕ, zero, suc, List, [], ◌∷◌, length}
use Rattle.std.proofs.Common.{get_or, set, take, drop, refl, ap, ◌∙◌, sym, subst, arith, cond, Option, Some, None}
use Rattle.std.proofs.Common.{get_or-set_same, get_or-set_other, length-append}
use Rattle.std.specs.Prelude.{Contains, slice_index, is_none}
use Rattle.std.specs.List.{AllByRecursion}
use Rattle.std.proofs.lemmas.List.{get_or_append_left, get_or_push, get_or_default, take_at}
use Rattle.std.proofs.lemmas.List.Elements.{All-from_recursion, recursion_from_All, All-contains, All-contains_itself}
use Rattle.std.proofs.lemmas.List.Elements.{Contains-push, Contains-append_left}
use Rattle.std.proofs.lemmas.List.Sums.{sum_by-set}
use mathlib.Core.Logic.{dite}
use native.Mathlib.Decide.{ℕ_discrete}
use Rattle.serial_pass.specs.declared.plan.PlanEdge.{PlanEdge}
use Rattle.serial_pass.specs.Plans.{in_edges, HaveEndsBelow}
use Rattle.module_graph.specs.Walks.{Walk}
use Rattle.module_graph.specs.Search.{found_at, BeginWithin, IsGrowing, IsGiven, AreDistances, unfound}
use Rattle.bp_faults.proofs.Lists.{all_map, all_append}
use Rattle.module_graph.proofs.Alls.{all_taken}
use Rattle.module_graph.proofs.Sorted.{all_into, each_into}

module _ (found : List (Option ℕ)) (m level : ℕ) (inside : m < length found) (free : found_at found m ≡ None) where
  abbrev after : List (Option ℕ)
  after = set found m (Some level)

  pub here : found_at after m ≡ Some level
  here = get_or-set_same found m (Some level) None inside

  pub else : (n : ℕ) → n ≢ m → found_at after n ≡ found_at found n
  else n ne = get_or-set_other found m n (Some level) None ne

  pub kept : (n d : ℕ) → found_at found n ≡ Some d → found_at after n ≡ Some d
  kept n d e =
      dite (ℕ_discrete n m) (λ same. let clash : None ≡ Some d = sym free ∙ ap (found_at found) (sym same) ∙ e in cc)
      (λ other. else n other ∙ e)

  pub either : (n d : ℕ) → found_at after n ≡ Some d → ((n ≡ m) × (d ≡ level)) ⊎ (found_at found n ≡ Some d)
  either n d e = dite (ℕ_discrete n m)
      (λ same. let f : Some level ≡ Some d = sym here ∙ ap (found_at after) (sym same) ∙ e in
      let g : d ≡ level = cc in
      inl (same, g))
      (λ other. inr (sym (else n other) ∙ e))

  pub part_kept : (es : List PlanEdge) (l : ℕ) → BeginWithin es l found → BeginWithin es l after
  part_kept es l h =
      all_map (λ (e : PlanEdge). (c : ℕ) × (found_at found e.from.0 ≡ Some c) × (c ≤ l))
      (λ (e : PlanEdge). (c : ℕ) × (found_at after e.from.0 ≡ Some c) × (c ≤ l))
      (λ e t. (t.0, kept e.from.0 t.0 t.1, t.2)) es h

  module _ (edges : List PlanEdge) (s : ℕ) (front : List ℕ) (i : ℕ) (next : List ℕ)
      (g : IsGrowing edges s level front i found next) (walk : Walk edges level m s) where
    at_front : (k d : ℕ) → k < length front → found_at after (slice_index front k) ≡ Some d
        → found_at found (slice_index front k) ≡ Some d
    at_front k d lk e =
        let t = g.given k lk in
        let f : Some t.0 ≡ Some d = sym (kept (slice_index front k) t.0 t.1) ∙ e in t.1 ∙ f

    at_next : (k : ℕ) → k < length (next ++ m ∷ []) → found_at after (slice_index (next ++ m ∷ []) k) ≡ Some level
    at_next k lk = dite (ℕ_discrete k (length next))
        (λ same. ap (λ j. found_at after (slice_index (next ++ m ∷ []) j)) same
        ∙ ap (found_at after) (get_or_push next m 0 (length next) refl)
        ∙ here)
        (λ other. let many = length-append next (m ∷ []) in let lt : k < length next = omega arith in
        ap (found_at after) (get_or_append_left next (m ∷ []) 0 k lt) ∙ kept (slice_index next k) level (g.fresh k lt))

    pub grown : IsGrowing edges s level front i after (next ++ m ∷ [])
    grown = record {
      start = kept s 0 g.start;
      sound =
          λ n d e. ⊎_elim (λ t. subst (λ x. Walk edges d x s) (sym t.0) (subst (λ k. Walk edges k m s) (sym t.1) walk))
          (λ t. g.sound n d t) (either n d e);
      capped = λ n d e. ⊎_elim (λ t. let same = t.1 in omega arith) (λ t. g.capped n d t) (either n d e);
      older =
          λ n d e lt. ⊎_elim (λ t. let same = t.1 in absurd (omega arith))
          (λ t. part_kept (in_edges edges n) (suc d) (g.older n d t lt)) (either n d e);
      waiting =
          λ n d e is. ⊎_elim (λ t. let same = t.1 in absurd (omega arith)) (λ t. g.waiting n d t is) (either n d e);
      given = λ k lk. let t = g.given k lk in (t.0, kept (slice_index front k) t.0 t.1, t.2);
      done =
          λ k d lk lf e.
          part_kept (in_edges edges (slice_index front k)) (suc d) (g.done k d lk lf (at_front k d lf e));
      last =
          λ n e. ⊎_elim (λ t. subst (λ x. Contains (next ++ m ∷ []) x) (sym t.0) (Contains-push next m))
          (λ t. Contains-append_left next (m ∷ []) n (g.last n t)) (either n level e);
      fresh = at_next;
    }

-- the j-th edge into n
pub edge_into : (edges : List PlanEdge) (n j : ℕ) (d : PlanEdge) → j < length (in_edges edges n)
    → Contains edges (get_or (in_edges edges n) j d) × ((get_or (in_edges edges n) j d).to.0 ≡ n)
edge_into edges n j d lt = All-from_recursion (λ (e : PlanEdge). Contains edges e × (e.to.0 ≡ n)) (in_edges edges n)
    (all_into edges n (Contains edges) (recursion_from_All (Contains edges) edges (All-contains_itself edges))) j d lt

module _ (edges : List PlanEdge) (s level : ℕ) (front : List ℕ) (i : ℕ) (found : List (Option ℕ)) (next : List ℕ)
    (g : IsGrowing edges s level front i found next) (li : i < length front) where
  abbrev node : ℕ
  node = slice_index front i

  walk_to : (e : PlanEdge) → Contains edges e → e.to.0 ≡ node → Walk edges level e.from.0 s
  walk_to e has at =
      let t = g.given i li in subst (λ k. Walk edges k e.from.0 s) t.2 (node, (e, has, refl, at), g.sound node t.0 t.1)

  module _ (j : ℕ) (d : PlanEdge) (found' : List (Option ℕ)) (next' : List ℕ) (lj : j < length (in_edges edges node))
      (inside : (get_or (in_edges edges node) j d).from.0 < length found)
      (part : BeginWithin (take j (in_edges edges node)) level found)
      (given : IsGiven (get_or (in_edges edges node) j d).from.0 level found next found' next') where
    abbrev m : ℕ
    m = (get_or (in_edges edges node) j d).from.0

    by_entry : (r : Option ℕ) → found_at found m ≡ r
        → IsGrowing edges s level front i found' next' × BeginWithin (take (j + 1) (in_edges edges node)) level found'
    by_entry None is =
        let t = given.new is in
        let at = edge_into edges node j d lj in
        let more : IsGrowing edges s level front i (set found m (Some level)) (next ++ m ∷ []) =
        grown found m level inside is edges s front i next g (walk_to (get_or (in_edges edges node) j d) at.0 at.1) in
        let all : BeginWithin (take (j + 1) (in_edges edges node)) level (set found m (Some level)) =
        all_taken (λ (x : PlanEdge). (c : ℕ) × (found_at (set found m (Some level)) x.from.0 ≡ Some c) × (c ≤ level))
        (in_edges edges node) j d lj (part_kept found m level inside is (take j (in_edges edges node)) level part)
        (level, here found m level inside is, omega arith) in (
          subst (λ (l : List (Option ℕ)). IsGrowing edges s level front i l next') (sym t.0)
              (subst (λ (l : List ℕ). IsGrowing edges s level front i (set found m (Some level)) l) (sym t.1) more),
          subst (λ (l : List (Option ℕ)). BeginWithin (take (j + 1) (in_edges edges node)) level l) (sym t.0) all,
        )
    by_entry (Some c) is =
        let t = given.old c is in
        let all : BeginWithin (take (j + 1) (in_edges edges node)) level found =
        all_taken (λ (x : PlanEdge). (c : ℕ) × (found_at found x.from.0 ≡ Some c) × (c ≤ level))
        (in_edges edges node) j d lj part (c, is, g.capped m c is) in (
          subst (λ (l : List (Option ℕ)). IsGrowing edges s level front i l next') (sym t.0)
              (subst (λ (l : List ℕ). IsGrowing edges s level front i found l) (sym t.1) g),
          subst (λ (l : List (Option ℕ)). BeginWithin (take (j + 1) (in_edges edges node)) level l) (sym t.0) all,
        )

    -- an edge into the node
    pub edge_done : IsGrowing edges s level front i found' next'
        × BeginWithin (take (j + 1) (in_edges edges node)) level found'
    edge_done = by_entry (found_at found m) refl

  -- all edges into the node
  pub node_done : BeginWithin (in_edges edges node) level found → IsGrowing edges s level front (i + 1) found next
  node_done part = record {
    start = g.start;
    sound = g.sound;
    capped = g.capped;
    older = g.older;
    waiting = g.waiting;
    given = g.given;
    last = g.last;
    fresh = g.fresh;
    done = λ k d lk lf e. dite (ℕ_discrete k i)
        (λ same. let t = g.given i li in
        let f : Some t.0 ≡ Some d = sym t.1 ∙ ap (λ x. found_at found (slice_index front x)) (sym same) ∙ e in
        let h : t.0 ≡ d = cc in
        subst (λ x. BeginWithin (in_edges edges (slice_index front x)) (suc d) found) (sym same)
        (subst (λ l. BeginWithin (in_edges edges node) l found) (sym t.2 ∙ ap suc h) part))
        (λ other. g.done k d (omega arith) lf e);
  }

module _ (edges : List PlanEdge) (s level : ℕ) (front : List ℕ) (i : ℕ) (found : List (Option ℕ)) (next : List ℕ)
    (g : IsGrowing edges s level front i found next) (whole : length front ≤ i) where
  reached_below : (n d : ℕ) → found_at found n ≡ Some d → suc d ≤ level → BeginWithin (in_edges edges n) (suc d) found
  reached_below n d e le = dite (ℕ_discrete (suc d) level)
      (λ same. let t = g.waiting n d e same in
      let at : slice_index front t.0 ≡ n = get_or_default front t.0 0 n t.1 ∙ t.2 in
      subst (λ x. BeginWithin (in_edges edges x) (suc d) found) at
      (g.done t.0 d (omega arith) t.1 (ap (found_at found) at ∙ e)))
      (λ other. g.older n d e (omega arith))

  -- the next level begins
  pub level_done : IsGrowing edges s (suc level) next 0 found []
  level_done = record {
    start = g.start;
    sound = g.sound;
    capped = λ n d e. let h = g.capped n d e in omega arith;
    older = λ n d e lt. reached_below n d e (omega arith);
    waiting = λ n d e is. let same : d ≡ level = omega arith in g.last n (e ∙ ap Some same);
    given = λ k lk. (level, g.fresh k lk, refl);
    done = λ k d lk lf e. absurd (omega arith);
    last = λ n e. let h = g.capped n (suc level) e in absurd (omega arith);
    fresh = λ k lk. absurd (omega arith);
  }

  module _ (empty : length next ≡ 0) where
    reached : (n d : ℕ) → found_at found n ≡ Some d → BeginWithin (in_edges edges n) (suc d) found
    reached n d e = dite (ℕ_discrete d level)
        (λ same. let t = g.last n (e ∙ ap Some same) in let lt = t.1 in absurd (omega arith))
        (λ other. let h = g.capped n d e in reached_below n d e (omega arith))

    nearest : (k n : ℕ) → Walk edges k n s → (d : ℕ) × (found_at found n ≡ Some d) × (d ≤ k)
    nearest zero n w = (0, ap (found_at found) w ∙ g.start, omega arith)
    nearest (suc k) n w =
        let t = nearest k w.0 w.2 in
        let l = w.1 in
        let u = each_into edges w.0 (λ (e : PlanEdge). (c : ℕ) × (found_at found e.from.0 ≡ Some c) × (c ≤ suc t.0))
        (reached w.0 t.0 t.1) l.0 l.1 l.3 in
        let le = t.2 in let le' = u.2 in
        (u.0, ap (found_at found) (sym l.2) ∙ u.1, omega arith)

    pub all_distances : AreDistances edges s found
    all_distances = record {
      right =
          λ n d e. record {
            walk = g.sound n d e;
            least =
                λ k w. let t = nearest k n w in
                let f : Some t.0 ≡ Some d = sym t.1 ∙ e in
                let same : t.0 ≡ d = cc in
                let le = t.2 in
                omega arith;
          };
      all = λ n k e w. let t = nearest k n w in let f : None ≡ Some t.0 = sym e ∙ t.1 in cc;
    }

pub from_inside : (count n j : ℕ) (edges : List PlanEdge) (d : PlanEdge) → HaveEndsBelow count edges
    → j < length (in_edges edges n) → (get_or (in_edges edges n) j d).from.0 < count
from_inside count n j edges d ends lt =
    (All-contains (λ (e : PlanEdge). (e.from.0 < count) × (e.to.0 < count)) edges (get_or (in_edges edges n) j d)
    (All-from_recursion (λ (e : PlanEdge). (e.from.0 < count) × (e.to.0 < count)) edges ends) (edge_into edges n j d
    lt).0).0

module _ (m level : ℕ) (found : List (Option ℕ)) (next : List ℕ) (found' : List (Option ℕ)) (next' : List ℕ)
    (inside : m < length found) (given : IsGiven m level found next found' next') where
  count_entry : (r : Option ℕ) → found_at found m ≡ r → unfound found' + length next' ≡ unfound found + length next
  count_entry None is =
      let t = given.new is in
      let a = sum_by-set (λ (x : Option ℕ). cond (is_none x) 1 0) found m (Some level) None inside in
      let b : cond {A = ℕ} (is_none (found_at found m)) 1 0 ≡ 1 =
      ap (λ (x : Option ℕ). cond {A = ℕ} (is_none x) 1 0) is in
      let c = ap unfound t.0 in
      let e = ap length t.1 in let f = length-append next (m ∷ []) in
      omega arith
  count_entry (Some c) is =
      let t = given.old c is in
      ap (λ (l : List (Option ℕ)). unfound l + length next') t.0 ∙ ap (λ (l : List ℕ). unfound found + length l) t.1

  pub as_many : unfound found' + length next' ≡ unfound found + length next
  as_many = count_entry (found_at found m) refl

  all_entry : (Q : ℕ → Type 0) → Q m → AllByRecursion Q next → (r : Option ℕ) → found_at found m ≡ r
      → AllByRecursion Q next'
  all_entry Q now h None is =
      let t = given.new is in
      subst (λ (l : List ℕ). AllByRecursion Q l) (sym t.1) (all_append Q next (m ∷ []) h (now, tt))
  all_entry Q now h (Some c) is = let t = given.old c is in subst (λ (l : List ℕ). AllByRecursion Q l) (sym t.1) h

  pub all_next : (Q : ℕ → Type 0) → Q m → AllByRecursion Q next → AllByRecursion Q next'
  all_next Q now h = all_entry Q now h (found_at found m) refl

-- what a slice of a vector became
pub written : {X : Type 0} (old new : List X) (n : ℕ) → length new ≡ length old → n ≡ length old
    → take n (new ++ drop (length new) old) ≡ new
written old new n same many =
    ap (λ k. take k (new ++ drop (length new) old)) (many ∙ sym same)
    ∙ take_at new (drop (length new) old) (length new) refl
