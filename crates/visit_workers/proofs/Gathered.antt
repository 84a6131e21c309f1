-- The edges into a node, by their numbers.
use Rattle.std.proofs.Common.{◌≡◌, ◌+◌, ◌-◌, ◌<◌, ◌≤◌, ℕ, zero, suc, List, [], ◌∷◌, ◌++◌, length, map, take, drop}
use Rattle.std.proofs.Common.{get_or, refl, ap, arith, ◌∙◌, sym, subst}
use Rattle.std.specs.Prelude.{slice_index}
use Rattle.std.proofs.lemmas.List.{get_or-take, get_or-drop, take_more, map-append}
use Rattle.std.proofs.Math.Decide.{dec_lt}
use mathlib.Core.Logic.{dite}
use Rattle.serial_pass.specs.declared.plan.Plan.{Plan}
use Rattle.serial_pass.specs.declared.plan.PlanEdge.{PlanEdge}
use Rattle.serial_pass.specs.Plans.{IsPlan, StandByTarget, in_edges}
use Rattle.serial_pass.specs.InEdges.{edges_below, AreStarts}
use Rattle.serial_pass.specs.Laws.{InEdgesAreTogether, StartsOfEdgesRise, IndicesTellTargets}
use Rattle.ready_counters.specs.Edges.{edge_source, edge_target}

edge_to : (edges : List PlanEdge) (i : ℕ) (d : PlanEdge) → i < length edges
    → (get_or edges i d).to.0 ≡ edge_target edges i
edge_to [] i d l = absurd (omega arith)
edge_to (y ∷ ys) zero d l = refl
edge_to (y ∷ ys) (suc i) d l = edge_to ys i d (omega arith)

pub edge_from : (edges : List PlanEdge) (i : ℕ) (d : PlanEdge) → i < length edges
    → (get_or edges i d).from.0 ≡ edge_source edges i
edge_from [] i d l = absurd (omega arith)
edge_from (y ∷ ys) zero d l = refl
edge_from (y ∷ ys) (suc i) d l = edge_from ys i d (omega arith)

-- an edge leads to the node exactly where its number is in the node's range
in_range : IndicesTellTargets → (edges : List PlanEdge) (n e : ℕ) (d : PlanEdge) → StandByTarget edges
    → e < length edges
    → (edges_below edges n ≤ e → e < edges_below edges (n + 1) → edge_target edges e ≡ n)
    × (edge_target edges e ≡ n → (edges_below edges n ≤ e) × (e < edges_below edges (n + 1)))
in_range tell edges n e d by l =
    let to = edge_to edges e d l in
    let low = tell edges n e d by l in let high = tell edges (n + 1) e d by l in (
      (λ from below. let a = high.1 below in dite (dec_lt (get_or edges e d).to.0 n)
          (λ less. let b = low.0 less in absurd (omega arith))
          (λ more. omega arith)),
      (λ same. (
        dite (dec_lt e (edges_below edges n)) (λ less. let b = low.1 less in absurd (omega arith))
            (λ more. omega arith),
        high.0 (omega arith),
      )),
    )

module _ (together : InEdgesAreTogether) (rise : StartsOfEdgesRise) (tell : IndicesTellTargets) (plan : Plan)
    (is_plan : IsPlan plan) (starts : List ℕ) (are : AreStarts plan starts) (n : ℕ) (inside : n < plan.count) where
  pub begins : slice_index starts n ≡ edges_below plan.edges n
  begins = are.begins n (omega arith)

  pub ends : slice_index starts (n + 1) ≡ edges_below plan.edges (n + 1)
  ends = are.begins (n + 1) (omega arith)

  pub range : (e : ℕ) (d : PlanEdge) → e < length plan.edges
      → (slice_index starts n ≤ e → e < slice_index starts (n + 1) → edge_target plan.edges e ≡ n)
      × (edge_target plan.edges e ≡ n → (slice_index starts n ≤ e) × (e < slice_index starts (n + 1)))
  range e d l =
      let b = begins in let f = ends in let r = in_range tell plan.edges n e d is_plan.by_target l in (
        (λ x y. r.0 (omega arith) (omega arith)),
        (λ same. let t = r.1 same in let u = t.0 in let v = t.1 in (omega arith, omega arith)),
      )

  -- how many there are
  many_into : length (in_edges plan.edges n) + slice_index starts n ≡ slice_index starts (n + 1)
  many_into =
      let b = begins in let f = ends in let up = (rise plan.edges n).0 in let most = (rise plan.edges (n + 1)).1 in
      let p = ap length (sym (together plan.edges n is_plan.by_target)) in
      let t = length_take (edges_below plan.edges (n + 1) - edges_below plan.edges n)
      (drop (edges_below plan.edges n) plan.edges) in
      let q = length_drop (edges_below plan.edges n) plan.edges in
      let r = t (omega arith) in omega arith where
        length_take : (k : ℕ) (xs : List PlanEdge) → k ≤ length xs → length (take k xs) ≡ k
        length_take zero xs l = refl
        length_take (suc k) [] l = absurd (omega arith)
        length_take (suc k) (x ∷ xs) l = ap suc (length_take k xs (omega arith))

        length_drop : (k : ℕ) (xs : List PlanEdge) → length (drop k xs) + k ≡ length xs + (k - length xs)
        length_drop zero xs = omega arith
        length_drop (suc k) [] = omega arith
        length_drop (suc k) (x ∷ xs) = let h = length_drop k xs in omega arith

  -- the edge at an index among them has this number
  pub into_at : (items : List PlanEdge) (i e : ℕ) (d : PlanEdge) → items ≡ in_edges plan.edges n → i < length items
      → e ≡ slice_index starts n + i
      → (e < length plan.edges) × (e < slice_index starts (n + 1))
      × ((get_or items i d).from.0 ≡ edge_source plan.edges e)
  into_at items i e d is l at =
      let b = begins in let f = ends in let up = (rise plan.edges n).0 in let most = (rise plan.edges (n + 1)).1 in
      let m = many_into in
      let li : i < length (in_edges plan.edges n) = subst (λ xs. i < length xs) is l in
      let inside : e < length plan.edges = omega arith in
      let at' : edges_below plan.edges n + i ≡ e = omega arith in
      let same : get_or items i d ≡ get_or plan.edges e d =
      ap (λ xs. get_or xs i d) (is ∙ sym (together plan.edges n is_plan.by_target))
      ∙ get_or-take (edges_below plan.edges (n + 1) - edges_below plan.edges n)
      (drop (edges_below plan.edges n) plan.edges) i d (omega arith)
      ∙ get_or-drop (edges_below plan.edges n) plan.edges i d ∙ ap (λ j. get_or plan.edges j d) at' in
      (inside, omega arith, ap (λ (x : PlanEdge). x.from.0) same ∙ edge_from plan.edges e d inside)

  pub all_into : (items : List PlanEdge) (i e : ℕ) → items ≡ in_edges plan.edges n → i ≡ length items
      → e ≡ slice_index starts n + i → e ≡ slice_index starts (n + 1)
  all_into items i e is li at = let m = many_into in let s = ap length is in omega arith

pub mapped : {X : Type 0} (f : ℕ → X) (es : List PlanEdge)
    → map (λ (d : PlanEdge). f d.from.0) es ≡ map f (map (λ (d : PlanEdge). d.from.0) es)
mapped f [] = refl
mapped f (e ∷ es) = ap (λ xs. f e.from.0 ∷ xs) (mapped f es)

-- one more value
pub mapped_more : {X : Type 0} (f : ℕ → X) (es : List PlanEdge) (i e : ℕ) (d : PlanEdge) (xs : List X) (x : X)
    → i < length es → xs ≡ map (λ (d : PlanEdge). f d.from.0) (take i es) → x ≡ f (get_or es i d).from.0
    → xs ++ x ∷ [] ≡ map (λ (d : PlanEdge). f d.from.0) (take (i + 1) es)
mapped_more f es i e d xs x l h is =
    ap (λ ys. ys ++ x ∷ []) h ∙ ap (λ y. map (λ (d : PlanEdge). f d.from.0) (take i es) ++ y ∷ []) is
    ∙ sym (ap (map (λ (d : PlanEdge). f d.from.0)) (take_more es i d l)
    ∙ map-append (λ (d : PlanEdge). f d.from.0) (take i es) (get_or es i d ∷ []))
