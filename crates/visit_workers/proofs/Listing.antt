-- The numbers of the edges out of a node: each edge stands once in the list of its source, and in no other.
use Rattle.std.proofs.Common.{◌≡◌, ◌+◌, ◌-◌, ◌<◌, ◌≤◌, ◌==◌, ◌++◌, ℕ, zero, suc, List, [], ◌∷◌, length, take, drop, set}
use Rattle.std.proofs.Common.{get_or, get_or-set_same, get_or-set_other, refl, ap, arith, ◌∙◌, sym, subst, true, false}
use Rattle.std.proofs.Common.{Bool, add-zero, eq-eqb, ne_eqb}
use Rattle.std.specs.Prelude.{if◌then◌else◌, slice_index, All}
use Rattle.std.specs.List.{AllByRecursion}
use Rattle.std.proofs.lemmas.List.Elements.{All-push}
use Rattle.std.proofs.lemmas.Bool.Decides.{nat_tests}
use Rattle.std.proofs.lemmas.List.{drop_more, get_or_read}
use Rattle.std.proofs.Math.Decide.{dec_lt}
use mathlib.Core.Logic.{dite}
use native.Mathlib.Decide.{ℕ_discrete}
use Rattle.serial_pass.specs.declared.plan.PlanEdge.{PlanEdge}
use Rattle.serial_pass.specs.Plans.{HaveEndsBelow}
use Rattle.ready_counters.specs.Edges.{edge_source}
use Rattle.ready_counters.specs.Views.{times}
use Rattle.visit_workers.proofs.Counting.{times_here, times_else, times_append}
use Rattle.visit_workers.specs.Links.{numbers_from, chain_end, IsChain, AreOuts}
use Rattle.visit_workers.specs.declared.links.Outs.{Outs}

module _ (d : PlanEdge) (k n : ℕ) (rest : List ℕ) where
  pub head_else : (x : ℕ) → (x ≡ k → ⊥) → (b : Bool) → (d.from.0 == n) ≡ b
      → times x (if d.from.0 == n then k ∷ rest else rest) ≡ times x rest
  head_else x ne true is = rw is (times_else x k rest ne)
  head_else x ne false is = rw is refl

  pub head_never : (x : ℕ) → (x ≡ k → d.from.0 ≡ n → ⊥) → times x rest ≡ 0 → (b : Bool) → (d.from.0 == n) ≡ b
      → times x (if d.from.0 == n then k ∷ rest else rest) ≡ 0
  head_never x ne z true is = let f : d.from.0 ≡ n = grind (arith, nat_tests) in
      rw is (times_else x k rest (λ same. ne same f) ∙ z)
  head_never x ne z false is = rw is z

from_never : (k : ℕ) (ds : List PlanEdge) (n x : ℕ) → ((i : ℕ) → i < length ds → k + i ≡ x → edge_source ds i ≡ n → ⊥)
    → times x (numbers_from k ds n) ≡ 0
from_never k [] n x h = refl
from_never k (d ∷ ds) n x h =
    head_never d k n (numbers_from (suc k) ds n) x (λ same f. h 0 (omega arith) (omega arith) f)
    (from_never (suc k) ds n x (λ i l e f. h (suc i) (omega arith) (omega arith) f)) (d.from.0 == n) refl

from_once : (k : ℕ) (ds : List PlanEdge) (n i : ℕ) → i < length ds → edge_source ds i ≡ n
    → times (k + i) (numbers_from k ds n) ≡ 1
from_once k [] n i l f = absurd (omega arith)
from_once k (d ∷ ds) n zero l f =
    let a = from_never (suc k) ds n k (λ i l e g. omega arith) in
    let t : (d.from.0 == n) ≡ true = eq-eqb d.from.0 n f in let h = times_here k (numbers_from (suc k) ds n) in
    subst (λ y. times y (numbers_from k (d ∷ ds) n) ≡ 1) (sym (add-zero k)) (rw t (omega arith))
from_once k (d ∷ ds) n (suc i) l f =
    let e : suc k + i ≡ k + suc i = omega arith in
    let r = from_once (suc k) ds n i (omega arith) f in
    head_else d k n (numbers_from (suc k) ds n) (k + suc i) (λ same. omega arith) (d.from.0 == n) refl
    ∙ ap (λ y. times y (numbers_from (suc k) ds n)) (sym e) ∙ r

pub listed_once : (edges : List PlanEdge) (n e : ℕ) → e < length edges → edge_source edges e ≡ n
    → times e (numbers_from 0 edges n) ≡ 1
listed_once edges n e l f = let z : 0 + e ≡ e = omega arith in
    subst (λ y. times y (numbers_from 0 edges n) ≡ 1) z (from_once 0 edges n e l f)

pub listed_never : (edges : List PlanEdge) (n e : ℕ) → (edge_source edges e ≡ n → ⊥)
    → times e (numbers_from 0 edges n) ≡ 0
listed_never edges n e ne =
    from_never 0 edges n e (λ i l is f. let s : i ≡ e = omega arith in ne (ap (edge_source edges) (sym s) ∙ f))

listed_outside : (edges : List PlanEdge) (n e : ℕ) → length edges ≤ e → times e (numbers_from 0 edges n) ≡ 0
listed_outside edges n e le = from_never 0 edges n e (λ i l is f. omega arith)

listed_most : (edges : List PlanEdge) (n e : ℕ) → times e (numbers_from 0 edges n) ≤ 1
listed_most edges n e = dite (ℕ_discrete (edge_source edges e) n)
    (λ same. dite (dec_lt e (length edges)) (λ l. let o = listed_once edges n e l same in omega arith)
    (λ past. let z = listed_outside edges n e (omega arith) in omega arith))
    (λ ne. let z = listed_never edges n e ne in omega arith)

-- an entry of the list is an edge out of the node, and isn't among those before it
module _ (edges : List PlanEdge) (n e : ℕ) (done rest : List ℕ) (all : done ++ e ∷ rest ≡ numbers_from 0 edges n) where
  times_all : times e done + (1 + times e rest) ≡ times e (numbers_from 0 edges n)
  times_all = let a = times_append e done (e ∷ rest) in let b = ap (times e) all in let c = times_here e rest in
      omega arith

  pub entry_inside : e < length edges
  entry_inside = dite (dec_lt e (length edges)) (λ inside. inside)
      (λ past. let z = listed_outside edges n e (omega arith) in let t = times_all in absurd (omega arith))

  pub entry_source : edge_source edges e ≡ n
  entry_source = dite (ℕ_discrete (edge_source edges e) n) (λ same. same)
      (λ ne. let z = listed_never edges n e ne in let t = times_all in absurd (omega arith))

  pub entry_fresh : times e done ≡ 0
  entry_fresh = let most = listed_most edges n e in let t = times_all in omega arith

pub grown : {X : Type 0} (xs : List X) (x : X) → length (xs ++ x ∷ []) ≡ length xs + 1
grown [] x = omega arith
grown (y ∷ ys) x = let h = grown ys x in omega arith

pub set_many : {X : Type 0} (xs : List X) (k : ℕ) (x : X) → length (set xs k x) ≡ length xs
set_many [] k x = refl
set_many (y ∷ ys) zero x = refl
set_many (y ∷ ys) (suc k) x = ap suc (set_many ys k x)

pub pushed_all : {X : Type 0} (xs new : List X) (x : X) → new ≡ xs ++ x ∷ [] → (P : X → Type 0) → All P xs → P x
    → All P new
pushed_all xs new x is P h p = subst (λ l. All P l) (sym is) (All-push P xs x h p)

take_front : {X : Type 0} (xs zs : List X) → take (length xs) (xs ++ zs) ≡ xs
take_front [] zs = refl
take_front (x ∷ xs) zs = ap (λ l. x ∷ l) (take_front xs zs)

-- chains
pub chain_ends : (next : List ℕ) (at : ℕ) (xs : List ℕ) → IsChain next at xs → at ≡ chain_end → length next < 4294967296
    → xs ≡ []
chain_ends next at [] h is few = refl
chain_ends next at (x ∷ xs) h is few = let a = h.0 in let b = h.1 in absurd (omega arith)

pub chain_begins : (count : ℕ) (edges : List PlanEdge) (outs : Outs) (n at : ℕ) → AreOuts count edges outs → n < count
    → at ≡ get_or outs.first.items n at → IsChain outs.next.items at (numbers_from 0 edges n)
chain_begins count edges outs n at are inside is =
    let many = are.many in
    subst (λ x. IsChain outs.next.items x (numbers_from 0 edges n))
    (sym (get_or_read outs.first.items n at (omega arith) is 0)) (are.each n inside)

pub chain_goes : (next : List ℕ) (at : ℕ) (xs : List ℕ) → IsChain next at xs → (at ≡ chain_end → ⊥)
    → (rest : List ℕ) × (xs ≡ at ∷ rest) × (at < length next) × (at < slice_index next at)
    × IsChain next (slice_index next at) rest
chain_goes next at [] h ne = absurd (ne h)
chain_goes next at (x ∷ xs) h ne = (
  xs,
  ap (λ y. y ∷ xs) (sym h.0),
  subst (λ y. y < length next) (sym h.0) h.1,
  subst (λ y. y < slice_index next y) (sym h.0) h.2,
  subst (λ y. IsChain next (slice_index next y) xs) (sym h.0) h.3,
)

all_above : (j k : ℕ) (ds : List PlanEdge) (n : ℕ) → j < k → AllByRecursion (λ y. j < y) (numbers_from k ds n)
all_above j k [] n l = tt
all_above j k (d ∷ ds) n l = by_test (d.from.0 == n) (all_above j (suc k) ds n (omega arith)) where
  by_test : (b : Bool) → AllByRecursion (λ y. j < y) (numbers_from (suc k) ds n)
      → AllByRecursion (λ y. j < y) (if b then k ∷ numbers_from (suc k) ds n else numbers_from (suc k) ds n)
  by_test true h = (l, h)
  by_test false h = h

-- a change before a chain leaves it as it was
chain_kept : (next : List ℕ) (k x at : ℕ) (xs : List ℕ) → AllByRecursion (λ y. k < y) xs → IsChain next at xs
    → IsChain (set next k x) at xs
chain_kept next k x at [] a h = h
chain_kept next k x at (y ∷ ys) a h =
    let above = a.0 in
    let other : slice_index (set next k x) y ≡ slice_index next y =
    get_or-set_other next k y x 0 (λ same. absurd (omega arith)) in (
      h.0,
      subst (λ m. y < m) (sym (set_many next k x)) h.1,
      subst (λ z. y < z) (sym other) h.2,
      subst (λ z. IsChain (set next k x) z ys) (sym other)
          (chain_kept next k x (slice_index next y) ys a.1 h.3),
    )

-- where a chain of greater numbers begins
chain_above : (next : List ℕ) (k at : ℕ) (xs : List ℕ) → k < chain_end → AllByRecursion (λ y. k < y) xs
    → IsChain next at xs → k < at
chain_above next k at [] l a h = let e = h in omega arith
chain_above next k at (y ∷ ys) l a h = let e = h.0 in let m = a.0 in omega arith

-- the chains of all nodes, from an edge on
pub record FromEdge (count : ℕ) (edges : List PlanEdge) (e : ℕ) (first next : List ℕ) : Type 0 where
  pub many : length first ≡ count
  pub all : length next ≡ length edges
  pub each : (n : ℕ) → n < count → IsChain next (slice_index first n) (numbers_from e (drop e edges) n)

-- one edge more before them
module _ (count : ℕ) (edges : List PlanEdge) (few : length edges < 4294967296) (e : ℕ) (d : PlanEdge)
    (first next : List ℕ)
    (lt : e < length edges) (inside : (get_or edges e d).from.0 < count) (h : FromEdge count edges (suc e) first next)
  where
    abbrev source : ℕ
    source = (get_or edges e d).from.0

    now : (n : ℕ) → numbers_from e (drop e edges) n
        ≡ numbers_from e (get_or edges e d ∷ drop (suc e) edges) n
    now n = let k : e + 1 ≡ suc e = omega arith in
        ap (λ ds. numbers_from e ds n) (drop_more edges e d lt ∙ ap (λ j. get_or edges e d ∷ drop j edges) k)

    kept : (n : ℕ) → n < count
        → IsChain (set next e (slice_index first (get_or edges e d).from.0)) (slice_index first n)
        (numbers_from (suc e) (drop (suc e) edges) n)
    kept n l = chain_kept next e (slice_index first (get_or edges e d).from.0) (slice_index first n)
        (numbers_from (suc e) (drop (suc e) edges) n) (all_above e (suc e) (drop (suc e) edges) n (omega arith))
        (h.each n l)

    hit : (n : ℕ) → n ≡ (get_or edges e d).from.0
        → IsChain (set next e (slice_index first (get_or edges e d).from.0))
        (slice_index (set first (get_or edges e d).from.0 e) n) (numbers_from e (drop e edges) n)
    hit n same =
        let test : ((get_or edges e d).from.0 == n) ≡ true = eq-eqb (get_or edges e d).from.0 n (sym same) in
        let head : slice_index (set first (get_or edges e d).from.0 e) n ≡ e =
        ap (slice_index (set first (get_or edges e d).from.0 e)) same
        ∙ get_or-set_same first (get_or edges e d).from.0 e 0 (let m = h.many in omega arith) in
        let after : slice_index (set next e (slice_index first (get_or edges e d).from.0)) e
        ≡ slice_index first (get_or edges e d).from.0 =
        get_or-set_same next e (slice_index first (get_or edges e d).from.0) 0 (let a = h.all in omega arith) in
        let rest : IsChain (set next e (slice_index first (get_or edges e d).from.0))
        (slice_index first (get_or edges e d).from.0) (numbers_from (suc e) (drop (suc e) edges) n) =
        subst (λ m. IsChain (set next e (slice_index first (get_or edges e d).from.0)) (slice_index first m)
        (numbers_from (suc e) (drop (suc e) edges) n)) same
        (kept n (subst (λ m. m < count) (sym same) inside)) in
        let above = chain_above next e (slice_index first n) (numbers_from (suc e) (drop (suc e) edges) n) (omega arith)
        (all_above e (suc e) (drop (suc e) edges) n (omega arith))
        (h.each n (subst (λ m. m < count) (sym same) inside)) in
        subst (λ xs. IsChain (set next e (slice_index first (get_or edges e d).from.0))
        (slice_index (set first (get_or edges e d).from.0 e) n) xs) (sym (now n)) (rw test (
          head,
          (let a = h.all in let b = set_many next e (slice_index first (get_or edges e d).from.0) in omega arith),
          (let f = ap (slice_index first) same in omega arith),
          subst (λ z. IsChain (set next e (slice_index first (get_or edges e d).from.0)) z
              (numbers_from (suc e) (drop (suc e) edges) n)) (sym after) rest,
        ))

    miss : (n : ℕ) → n < count → (n ≡ (get_or edges e d).from.0 → ⊥)
        → IsChain (set next e (slice_index first (get_or edges e d).from.0))
        (slice_index (set first (get_or edges e d).from.0 e) n) (numbers_from e (drop e edges) n)
    miss n l ne =
        let test : ((get_or edges e d).from.0 == n) ≡ false =
        ne_eqb (get_or edges e d).from.0 n (λ same. ne (sym same)) in
        let head : slice_index (set first (get_or edges e d).from.0 e) n ≡ slice_index first n =
        get_or-set_other first (get_or edges e d).from.0 n e 0 ne in
        subst (λ xs. IsChain (set next e (slice_index first (get_or edges e d).from.0))
        (slice_index (set first (get_or edges e d).from.0 e) n) xs) (sym (now n)) (rw test
        (subst (λ z. IsChain (set next e (slice_index first (get_or edges e d).from.0)) z
        (numbers_from (suc e) (drop (suc e) edges) n)) (sym head) (kept n l)))

    pub one_more : FromEdge count edges e (set first (get_or edges e d).from.0 e)
        (set next e (slice_index first (get_or edges e d).from.0))
    one_more = record {
      many = set_many first (get_or edges e d).from.0 e ∙ h.many;
      all = set_many next e (slice_index first (get_or edges e d).from.0) ∙ h.all;
      each = λ n l. dite (ℕ_discrete n (get_or edges e d).from.0) (λ same. hit n same) (λ ne. miss n l ne);
    }

source_inside : (count : ℕ) (es : List PlanEdge) (i : ℕ) (d : PlanEdge) → HaveEndsBelow count es → i < length es
    → (get_or es i d).from.0 < count
source_inside count [] i d h l = absurd (omega arith)
source_inside count (e ∷ es) zero d h l = h.0.0
source_inside count (e ∷ es) (suc i) d h l = source_inside count es i d h.1 (omega arith)

-- the step of the loop that goes down
pub one_more_as : (count : ℕ) (edges xs : List PlanEdge) (e found : ℕ) (d : PlanEdge) (first next : List ℕ)
    → xs ≡ edges → HaveEndsBelow count edges → length edges < 4294967296 → 0 < e → e ≤ length edges
    → found ≡ get_or first (get_or xs (e - 1) d).from.0 found → FromEdge count edges e first next
    → FromEdge count edges (e - 1) (set first (get_or xs (e - 1) d).from.0 (e - 1)) (set next (e - 1) found)
one_more_as count edges xs e found d first next is ends few some below at h =
    let inside : (get_or edges (e - 1) d).from.0 < count = source_inside count edges (e - 1) d ends (omega arith) in
    let same : e ≡ suc (e - 1) = omega arith in
    let here : found ≡ slice_index first (get_or edges (e - 1) d).from.0 =
    get_or_read first (get_or edges (e - 1) d).from.0 found (let m = h.many in omega arith)
    (subst (λ ys. found ≡ get_or first (get_or ys (e - 1) d).from.0 found) is at) 0 in
    subst (λ ys. FromEdge count edges (e - 1) (set first (get_or ys (e - 1) d).from.0 (e - 1)) (set next (e - 1) found))
    (sym is) (subst (λ x. FromEdge count edges (e - 1) (set first (get_or edges (e - 1) d).from.0 (e - 1))
    (set next (e - 1) x)) (sym here)
    (one_more count edges few (e - 1) d first next (omega arith) inside
    (subst (λ k. FromEdge count edges k first next) same h)))
