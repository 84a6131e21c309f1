-- The numbers of the edges into a node, and how many of them aren't marked.
use Rattle.std.proofs.Common.{◌≡◌, ◌≢◌, ◌<◌, ◌+◌, ◌==◌, ℕ, zero, suc, Bool, true, false, List, [], ◌∷◌, map, length}
use Rattle.std.proofs.Common.{replicate, refl, ap, arith, ◌∙◌, sym, subst, add-zero}
use Rattle.std.specs.Prelude.{slice_index, slice_set, if◌then◌else◌}
use Rattle.std.specs.List.{AllByRecursion}
use Rattle.std.proofs.lemmas.Bool.Decides.{nat_tests}
use Rattle.serial_pass.specs.declared.plan.PlanEdge.{PlanEdge}
use Rattle.serial_pass.specs.Plans.{sources, predecessors}
use Rattle.serial_pass.specs.InEdges.{numbers_into}
use Rattle.pass_core.specs.CoreStates.{IsMarked, IsUnmarked}
use Rattle.pass_core.specs.CoreKept.{one_if, unmarked_count}

abbrev pub targets : List PlanEdge → List ℕ
targets edges = map (λ (d : PlanEdge). d.to.0) edges

head_into : (f : ℕ → ℕ) (d : PlanEdge) (k n : ℕ) (rest : List ℕ) (ds : List PlanEdge) → f k ≡ d.from.0
    → map f rest ≡ predecessors ds n → (b : Bool) → (d.to.0 == n) ≡ b
    → map f (if d.to.0 == n then k ∷ rest else rest) ≡ predecessors (d ∷ ds) n
head_into f d k n rest ds here there true is = rw is (λ i. here i ∷ there i)
head_into f d k n rest ds here there false is = rw is there

-- the edges into a node have the node's predecessors as sources
pub into_sources : (f : ℕ → ℕ) (k : ℕ) (ds : List PlanEdge) (n : ℕ) → ((i : ℕ) → f (k + i) ≡ slice_index (sources ds) i)
    → map f (numbers_into k ds n) ≡ predecessors ds n
into_sources f k [] n h = refl
into_sources f k (d ∷ ds) n h =
    head_into f d k n (numbers_into (suc k) ds n) ds (ap f (sym (add-zero k)) ∙ h 0)
    (into_sources f (suc k) ds n (λ i. let e : suc k + i ≡ k + suc i = omega arith in ap f e ∙ h (suc i))) (d.to.0 == n)
    refl

module _ (P : ℕ → Type 0) where
  all_if : (d : PlanEdge) (k n : ℕ) (rest : List ℕ) → (d.to.0 ≡ n → P k) → AllByRecursion P rest → (b : Bool)
      → (d.to.0 == n) ≡ b → AllByRecursion P (if d.to.0 == n then k ∷ rest else rest)
  all_if d k n rest here there true is = let same : d.to.0 ≡ n = grind (arith, nat_tests) in rw is (here same, there)
  all_if d k n rest here there false is = rw is there

  -- what holds of each edge that leads to a node holds of all of them
  pub all_into : (k : ℕ) (ds : List PlanEdge) (n : ℕ)
      → ((i : ℕ) → i < length ds → slice_index (targets ds) i ≡ n → P (k + i)) → AllByRecursion P (numbers_into k ds n)
  all_into k [] n h = tt
  all_into k (d ∷ ds) n h =
      all_if d k n (numbers_into (suc k) ds n) (λ same. subst P (add-zero k) (h 0 (omega arith) same))
      (all_into (suc k) ds n (λ i lt same. let e : k + suc i ≡ suc k + i = omega arith in
      subst P e (h (suc i) (omega arith) same))) (d.to.0 == n) refl

  first_if : (d : PlanEdge) (k n : ℕ) (rest : List ℕ) → d.to.0 ≡ n → (b : Bool) → (d.to.0 == n) ≡ b
      → AllByRecursion P (if d.to.0 == n then k ∷ rest else rest) → P k
  first_if d k n rest same true is h = let h' : AllByRecursion P (k ∷ rest) = rw is at h in h'.0
  first_if d k n rest same false is h = absurd (grind (arith, nat_tests))

  rest_if : (d : PlanEdge) (k n : ℕ) (rest : List ℕ) → (b : Bool) → (d.to.0 == n) ≡ b
      → AllByRecursion P (if d.to.0 == n then k ∷ rest else rest) → AllByRecursion P rest
  rest_if d k n rest true is h = let h' : AllByRecursion P (k ∷ rest) = rw is at h in h'.1
  rest_if d k n rest false is h = let h' : AllByRecursion P rest = rw is at h in h'

  pub each_into : (k : ℕ) (ds : List PlanEdge) (n : ℕ) → AllByRecursion P (numbers_into k ds n) → (i : ℕ)
      → i < length ds → slice_index (targets ds) i ≡ n → P (k + i)
  each_into k [] n h i lt same = absurd (omega arith)
  each_into k (d ∷ ds) n h zero lt same =
      subst P (sym (add-zero k)) (first_if d k n (numbers_into (suc k) ds n) same (d.to.0 == n) refl h)
  each_into k (d ∷ ds) n h (suc i) lt same =
      let e : suc k + i ≡ k + suc i = omega arith in
      subst P e
      (each_into (suc k) ds n (rest_if d k n (numbers_into (suc k) ds n) (d.to.0 == n) refl h) i (omega arith) same)

one_here : (m n : ℕ) → m ≡ n → (b : Bool) → (m == n) ≡ b → one_if b ≡ 1
one_here m n same true is = refl
one_here m n same false is = absurd (grind (arith, nat_tests))

none_here : (m n : ℕ) → m ≢ n → (b : Bool) → (m == n) ≡ b → one_if b ≡ 0
none_here m n other true is = absurd (other (grind (arith, nat_tests)))
none_here m n other false is = refl

many_if : (d : PlanEdge) (ds : List PlanEdge) (n : ℕ) (b : Bool) → (d.to.0 == n) ≡ b
    → length (predecessors (d ∷ ds) n) ≡ one_if b + length (predecessors ds n)
many_if d ds n true is = rw is (omega arith)
many_if d ds n false is = rw is (omega arith)

pub left_begins : (ds : List PlanEdge) (n : ℕ)
    → unmarked_count ds (replicate (length ds) false) n ≡ length (predecessors ds n)
left_begins [] n = refl
left_begins (d ∷ ds) n = let rest = left_begins ds n in let first = many_if d ds n (d.to.0 == n) refl in omega arith

pub left_lower : (ds : List PlanEdge) (bs : List Bool) (e n : ℕ) → e < length ds → IsUnmarked bs e
    → slice_index (targets ds) e ≡ n → unmarked_count ds bs n ≡ suc (unmarked_count ds (slice_set bs e true) n)
left_lower [] bs e n lt h same = absurd (omega arith)
left_lower (d ∷ ds) [] e n lt h same = cc
left_lower (d ∷ ds) (true ∷ bs) zero n lt h same = cc
left_lower (d ∷ ds) (false ∷ bs) zero n lt h same = let one = one_here d.to.0 n same (d.to.0 == n) refl in omega arith
left_lower (d ∷ ds) (true ∷ bs) (suc e) n lt h same = left_lower ds bs e n (omega arith) h same
left_lower (d ∷ ds) (false ∷ bs) (suc e) n lt h same =
    let rest = left_lower ds bs e n (omega arith) h same in omega arith

pub left_same : (ds : List PlanEdge) (bs : List Bool) (e n : ℕ) → slice_index (targets ds) e ≢ n
    → unmarked_count ds (slice_set bs e true) n ≡ unmarked_count ds bs n
left_same [] bs e n other = refl
left_same (d ∷ ds) [] e n other = refl
left_same (d ∷ ds) (true ∷ bs) zero n other = refl
left_same (d ∷ ds) (false ∷ bs) zero n other = let none = none_here d.to.0 n other (d.to.0 == n) refl in omega arith
left_same (d ∷ ds) (true ∷ bs) (suc e) n other = left_same ds bs e n other
left_same (d ∷ ds) (false ∷ bs) (suc e) n other = let rest = left_same ds bs e n other in omega arith

pub left_none : (ds : List PlanEdge) (bs : List Bool) (n : ℕ) → length bs ≡ length ds → unmarked_count ds bs n ≡ 0
    → (e : ℕ) → e < length ds → slice_index (targets ds) e ≡ n → IsMarked bs e
left_none [] bs n many h e lt same = absurd (omega arith)
left_none (d ∷ ds) [] n many h e lt same = absurd (omega arith)
left_none (d ∷ ds) (true ∷ bs) n many h zero lt same = refl
left_none (d ∷ ds) (false ∷ bs) n many h zero lt same =
    let one = one_here d.to.0 n same (d.to.0 == n) refl in absurd (omega arith)
left_none (d ∷ ds) (true ∷ bs) n many h (suc e) lt same = left_none ds bs n (omega arith) h e (omega arith) same
left_none (d ∷ ds) (false ∷ bs) n many h (suc e) lt same =
    left_none ds bs n (omega arith) (omega arith) e (omega arith) same

pub none_left : (ds : List PlanEdge) (bs : List Bool) (n : ℕ)
    → ((e : ℕ) → e < length ds → slice_index (targets ds) e ≡ n → IsMarked bs e) → unmarked_count ds bs n ≡ 0
none_left [] bs n h = refl
none_left (d ∷ ds) [] n h = refl
none_left (d ∷ ds) (true ∷ bs) n h = none_left ds bs n (λ e lt same. h (suc e) (omega arith) same)
none_left (d ∷ ds) (false ∷ bs) n h =
    let none =
    none_here d.to.0 n (λ same. let e : IsMarked (false ∷ bs) 0 = h 0 (omega arith) same in cc) (d.to.0 == n) refl in
    let rest = none_left ds bs n (λ e lt same. h (suc e) (omega arith) same) in omega arith
