-- What a focus keeps is what is marked along the targets and against them.
use Rattle.std.proofs.Common.{◌≡◌, ◌≢◌, ◌∙◌, ◌+◌, ◌<◌, ◌≤◌, ◌++◌, ◌⊎◌, ◌↔◌, inl, inr, ℕ, zero, suc, Bool, true, List}
use Rattle.std.proofs.Common.{[], ◌∷◌, length, map, get_or, slice_get, ap, sym, subst, refl, arith, Contains, Some}
use Rattle.std.proofs.Common.{None}
use Rattle.std.specs.List.{AllByRecursion}
use Rattle.std.proofs.lemmas.Bool.{cases_eq}
use Rattle.std.proofs.lemmas.List.{length-map}
use Rattle.std.proofs.lemmas.Option.{slice_get_within}
use Rattle.bp_faults.proofs.Lists.{all_contained}
use Rattle.graph_picture.specs.declared.focus.Focus.{Focus}
use Rattle.graph_picture.specs.declared.variant.Arrow.{Arrow}
use Rattle.graph_picture.specs.declared.variant.Variant.{Variant}
use Rattle.graph_picture.specs.Growing.{Has, IsWithin, MarkWithin, AreTurned, Joins, target, targets_of}
use Rattle.graph_picture.specs.Lines.{LeadInside}
use Rattle.graph_picture.specs.Reach.{ArrowLeads, StepWalk, IsOf, IsNear, AreMarks, mark_at}
use Rattle.graph_picture.proofs.Growth.{contains_pushed, contains_none}
use Rattle.graph_picture.proofs.Levels.{walk_more}
use Rattle.graph_picture.proofs.Turned.{beyond}

got : {X : Type 0} (xs : List X) (i : ℕ) (x : X) → i < length xs → x ≡ get_or xs i x → slice_get xs i ≡ Some x
got [] i x lt is = absurd (omega arith)
got (y ∷ xs) zero x lt is = ap Some (sym is)
got (y ∷ xs) (suc i) x lt is = got xs i x (omega arith) is

got_all : {X : Type 0} (P : X → Type 0) (xs : List X) (i : ℕ) (x : X) → AllByRecursion P xs → slice_get xs i ≡ Some x
    → P x
got_all P [] i x all e = absurd (let f : None ≡ Some x = e in cc)
got_all P (y ∷ xs) zero x all e = subst P (let f : Some y ≡ Some x = e in cc) all.0
got_all P (y ∷ xs) (suc i) x all e = got_all P xs i x all.1 e

-- the numbers of the variants of a module, one variant more
module _ (variants : List Variant) (owner : List ℕ) (old : List ℕ) (n : ℕ) (v : Variant) (lt : n < length variants)
    (is : v ≡ get_or variants n v) (so_far : (k : ℕ) → Contains old k ↔ ((k < n) × IsOf variants owner k)) where
  pub numbers_more : (new : List ℕ) → new ≡ old ++ n ∷ [] → v.module ≡ owner → (k : ℕ)
      → Contains new k ↔ ((k < n + 1) × IsOf variants owner k)
  numbers_more new e same k = (
    λ h. to ((contains_pushed old n k).0 (subst (λ (l : List ℕ). Contains l k) e h)),
    λ h. subst (λ (l : List ℕ). Contains l k) (sym e) ((contains_pushed old n k).1 (from h (cases_eq n k))),
  )
    where
      to : Contains old k ⊎ (n ≡ k) → (k < n + 1) × IsOf variants owner k
      to (inl h) = let u = (so_far k).0 h in (omega (arith, u.0), u.1)
      to (inr h) = (omega arith, subst (IsOf variants owner) h (v, got variants n v lt is, same))

      from : (k < n + 1) × IsOf variants owner k → (n ≡ k) ⊎ (n ≢ k) → Contains old k ⊎ (n ≡ k)
      from h (inl u) = inr u
      from h (inr u) = inl ((so_far k).1 (omega (arith, h.0), h.1))

  pub numbers_same : v.module ≢ owner → (k : ℕ) → Contains old k ↔ ((k < n + 1) × IsOf variants owner k)
  numbers_same other k = ((λ h. let u = (so_far k).0 h in (omega (arith, u.0), u.1)), λ h. from h (cases_eq n k))
    where
      from : (k < n + 1) × IsOf variants owner k → (n ≡ k) ⊎ (n ≢ k) → Contains old k
      from h (inl u) =
          let there : slice_get variants n ≡ Some h.1.0 = ap (slice_get variants) u ∙ h.1.1 in
          let here = got variants n v lt is in
          let same : v ≡ h.1.0 = cc in
          absurd (other (ap (λ (w : Variant). w.module) same ∙ h.1.2))
      from h (inr u) = (so_far k).1 (omega (arith, h.0), h.1)

pub numbers_all : (variants : List Variant) (owner numbers : List ℕ) (n : ℕ) → length variants ≤ n
    → ((k : ℕ) → Contains numbers k ↔ ((k < n) × IsOf variants owner k)) → (k : ℕ)
    → Contains numbers k ↔ IsOf variants owner k
numbers_all variants owner numbers n le so_far k = (
  λ h. ((so_far k).0 h).1,
  λ h. (so_far k).1 (omega (arith, slice_get_within variants k h.0 h.1), h),
)

-- the targets of edges
to_target : (edges : List Arrow) (m : ℕ) → Contains (map target edges) m → (a : Arrow) × Contains edges a × (a.to ≡ m)
to_target [] m h = absurd (contains_none m h)
to_target (a ∷ edges) m (zero, lt, is) = (a, (0, omega arith, refl), is)
to_target (a ∷ edges) m (suc k, lt, is) =
    let r = to_target edges m (k, omega arith, is) in
    (r.0, (suc r.1.0, omega (arith, r.1.1), r.1.2), r.2)

from_target : (edges : List Arrow) (m : ℕ) (a : Arrow) → Contains edges a → a.to ≡ m → Contains (map target edges) m
from_target [] m a h e = absurd (omega (arith, h.1))
from_target (b ∷ edges) m a (zero, lt, is) e = (0, omega arith, ap target is ∙ e)
from_target (b ∷ edges) m a (suc k, lt, is) e =
    let r = from_target edges m a (k, omega arith, is) e in (suc r.0, omega (arith, r.1), r.2)

pub leads_is : (variants : List Variant) (n m : ℕ) → Has (map targets_of variants) n m ↔ ArrowLeads variants n m
leads_is [] n m = (λ h. absurd (contains_none m h), λ h. absurd (let f : None ≡ Some h.0 = h.2 in cc))
leads_is (v ∷ variants) zero m = (to, from)
  where
    to : Contains (map target v.edges) m → ArrowLeads (v ∷ variants) zero m
    to h = let r = to_target v.edges m h in (v, r.0, refl, r.1, r.2)

    from : ArrowLeads (v ∷ variants) zero m → Contains (map target v.edges) m
    from h =
        let same : v ≡ h.0 = let f : Some v ≡ Some h.0 = h.2 in cc in
        from_target v.edges m h.1 (subst (λ (w : Variant). Contains w.edges h.1) (sym same) h.3) h.4
leads_is (v ∷ variants) (suc n) m = leads_is variants n m

module _ (Step Other : ℕ → ℕ → Type 0) where
  walk_as : ((a b : ℕ) → Step a b → Other a b) → (k n m : ℕ) → StepWalk Step k n m → StepWalk Other k n m
  walk_as same zero n m w = w
  walk_as same (suc k) n m w = (w.0, same n w.0 w.1, walk_as same k w.0 m w.2)

  -- walks turned around
  walk_turned : ((a b : ℕ) → Step a b → Other b a) → (k n m : ℕ) → StepWalk Step k n m → StepWalk Other k m n
  walk_turned same zero n m w = sym w
  walk_turned same (suc k) n m w =
      walk_more Other k m w.0 n (walk_turned same k w.0 m w.2) (same n w.0 w.1)

module _ (variants : List Variant) (focus : Focus) (starts : List ℕ)
    (of : (k : ℕ) → Contains starts k ↔ IsOf variants focus.module k) where
  pub starts_inside : (k : ℕ) → Contains starts k → k < length variants
  starts_inside k h = let u = (of k).0 h in slice_get_within variants k u.0 u.1

  pub none_of : starts ≡ [] → (k : ℕ) → IsOf variants focus.module k → ⊥
  none_of none k h = contains_none k (subst (λ (l : List ℕ). Contains l k) none ((of k).1 h))

  module _ (ahead : List (List ℕ)) (is : ahead ≡ map targets_of variants) where
    pub ahead_size : length ahead ≡ length variants
    ahead_size = ap length is ∙ length-map variants targets_of

    leads : (n m : ℕ) → Has ahead n m → ArrowLeads variants n m
    leads n m h = (leads_is variants n m).0 (subst (λ (l : List (List ℕ)). Has l n m) is h)

    follows : (n m : ℕ) → ArrowLeads variants n m → Has ahead n m
    follows n m h = subst (λ (l : List (List ℕ)). Has l n m) (sym is) ((leads_is variants n m).1 h)

    pub ahead_inside : LeadInside (length variants) variants → (n m : ℕ) → Has ahead n m → m < length ahead
    ahead_inside inside n m h =
        let l = leads n m h in
        let edges = got_all (λ (v : Variant). AllByRecursion (λ (a : Arrow). a.to < length variants) v.edges) variants n
        l.0 inside l.2 in
        omega (arith, ahead_size, all_contained (λ (a : Arrow). a.to < length variants) l.0.edges l.1 edges l.3, l.4)

    module _ (back : List (List ℕ)) (turned : AreTurned ahead back) where
      pub back_inside : (n m : ℕ) → Has back n m → m < length back
      back_inside n m h = omega (arith, beyond ahead m n ((turned.turned n m).0 h), turned.size)

      pub joined : (marks others new : List Bool) → MarkWithin ahead starts focus.depth marks
          → MarkWithin back starts focus.depth others → Joins others marks new → AreMarks variants (Some focus) new
      joined marks others new m o j = record {
        size = j.size ∙ (m.size ∙ ahead_size);
        exact = λ n lt.
            let inside : n < length marks = omega (arith, m.size, ahead_size) in
            ((λ t. to n ((j.exact n inside).0 t)), λ h. (j.exact n inside).1 (from n h.0 h.1 h.2 h.3 h.4));
      }
        where
          to : (n : ℕ) → (mark_at marks n ≡ true) ⊎ (mark_at others n ≡ true) → IsNear variants focus n
          to n (inl t) =
              let w = (m.exact n).0 t in
              (w.0, w.1, (of w.0).0 w.2, w.3, inl (walk_as (Has ahead) (ArrowLeads variants) leads w.1 w.0 n w.4))
          to n (inr t) =
              let w = (o.exact n).0 t in (
                w.0,
                w.1,
                (of w.0).0 w.2,
                w.3,
                inr (walk_turned (Has back) (ArrowLeads variants)
                    (λ a b h. leads b a ((turned.turned a b).0 h)) w.1 w.0 n w.4),
              )

          from : (n s k : ℕ) → IsOf variants focus.module s → k ≤ focus.depth
              → StepWalk (ArrowLeads variants) k s n ⊎ StepWalk (ArrowLeads variants) k n s
              → (mark_at marks n ≡ true) ⊎ (mark_at others n ≡ true)
          from n s k h le (inl w) =
              let r : IsWithin ahead starts focus.depth n =
              (s, k, (of s).1 h, le, walk_as (ArrowLeads variants) (Has ahead) follows k s n w) in
              inl ((m.exact n).1 r)
          from n s k h le (inr w) =
              let r : IsWithin back starts focus.depth n = (
                s,
                k,
                (of s).1 h,
                le,
                walk_turned (ArrowLeads variants) (Has back) (λ a b u. (turned.turned b a).1 (follows a b u)) k n s w,
              ) in
              inr ((o.exact n).1 r)
