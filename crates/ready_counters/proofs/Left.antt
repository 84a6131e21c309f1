-- What is left of the edges into a node, as edges get done.
use Rattle.std.proofs.Common.{◌≡◌, ◌+◌, ◌<◌, ◌≤◌, ◌==◌, ℕ, zero, suc, List, [], ◌∷◌, length, refl, ap, arith, ◌∙◌, sym}
use Rattle.std.proofs.Common.{true, false, add-zero, eq-eqb, ne_eqb, Bool}
use Rattle.std.specs.Prelude.{if◌then◌else◌}
use Rattle.serial_pass.specs.declared.plan.PlanEdge.{PlanEdge}
use Rattle.ready_counters.specs.Edges.{left_from, lacks, edge_target}

lacks_less : (a b : ℕ) → a ≤ b → lacks b ≤ lacks a
lacks_less zero zero l = omega arith
lacks_less zero (suc b) l = omega arith
lacks_less (suc a) zero l = absurd (omega arith)
lacks_less (suc a) (suc b) l = omega arith

lacks_none : (k : ℕ) → k ≡ 0 → lacks k ≡ 1
lacks_none zero e = refl
lacks_none (suc k) e = absurd (omega arith)

lacks_some : (k : ℕ) → 1 ≤ k → lacks k ≡ 0
lacks_some zero e = absurd (omega arith)
lacks_some (suc k) e = refl

either_less : (b : Bool) (x y : ℕ) → x ≤ y → (if b then x else 0) ≤ (if b then y else 0)
either_less true x y l = l
either_less false x y l = omega arith

-- what is left depends on what is done alone
pub left_same : (done now : ℕ → ℕ) (es : List PlanEdge) (n : ℕ) → ((e : ℕ) → now e ≡ done e)
    → left_from now 0 es n ≡ left_from done 0 es n
left_same done now es n h = ap (λ (f : ℕ → ℕ). left_from f 0 es n) (λ i e. h e i)

-- the more is done the less is left
pub left_at_most : (done now : ℕ → ℕ) (k : ℕ) (es : List PlanEdge) (n : ℕ) → ((e : ℕ) → now e ≤ done e)
    → left_from done k es n ≤ left_from now k es n
left_at_most done now k [] n h = omega arith
left_at_most done now k (e ∷ es) n h =
    let a = either_less (e.to.0 == n) (lacks (done k)) (lacks (now k)) (lacks_less (now k) (done k) (h k)) in
    let b = left_at_most done now (suc k) es n h in omega arith

-- where nothing is left each edge is done
pub left_none : (done : ℕ → ℕ) (k i : ℕ) (es : List PlanEdge) (n : ℕ) → i < length es → edge_target es i ≡ n
    → left_from done k es n ≡ 0 → 1 ≤ done (k + i)
left_none done k i [] n l to z = absurd (omega arith)
left_none done k zero (e ∷ es) n l to z =
    some_done (done k) (done (k + 0)) (ap done (sym (add-zero k))) (eq-eqb e.to.0 n to) z where
      some_done : (x y : ℕ) → x ≡ y → (e.to.0 == n) ≡ true
          → (if e.to.0 == n then lacks x else 0) + left_from done (suc k) es n ≡ 0 → 1 ≤ y
      some_done zero y is t z = let z' : 1 + left_from done (suc k) es n ≡ 0 = rw t at z in absurd (omega arith)
      some_done (suc x) y is t z = omega arith
left_none done k (suc i) (e ∷ es) n l to z =
    let h : 1 ≤ done (suc k + i) = left_none done (suc k) i es n (omega arith) to (omega arith) in
    let s : done (suc k + i) ≡ done (k + suc i) = ap done (omega arith) in omega arith

-- an edge that isn't done is left
pub left_some : (done : ℕ → ℕ) (k i : ℕ) (es : List PlanEdge) (n : ℕ) → i < length es → edge_target es i ≡ n
    → done (k + i) ≡ 0 → 1 ≤ left_from done k es n
left_some done k i [] n l to z = absurd (omega arith)
left_some done k zero (e ∷ es) n l to z =
    let a : lacks (done k) ≡ 1 = lacks_none (done k) (ap done (sym (add-zero k)) ∙ z) in
    let t : (e.to.0 == n) ≡ true = eq-eqb e.to.0 n to in rw t (omega arith)
left_some done k (suc i) (e ∷ es) n l to z =
    let shift : suc k + i ≡ k + suc i = omega arith in
    let h = left_some done (suc k) i es n (omega arith) to (ap done shift ∙ z) in omega arith

left_above : (done now : ℕ → ℕ) (k : ℕ) (es : List PlanEdge) (n : ℕ) → ((e : ℕ) → k ≤ e → now e ≡ done e)
    → left_from now k es n ≡ left_from done k es n
left_above done now k [] n h = refl
left_above done now k (e ∷ es) n h =
    λ i. (if e.to.0 == n then lacks (h k (omega arith) i) else 0) + left_above done now (suc k) es n
    (λ e l. h e (omega arith)) i

-- one more edge is done: at its target one less is left, and elsewhere as many
pub left_less : (done now : ℕ → ℕ) (k i : ℕ) (es : List PlanEdge) (n : ℕ) → i < length es → edge_target es i ≡ n
    → done (k + i) ≡ 0 → 1 ≤ now (k + i) → ((e : ℕ) → (e ≡ k + i → ⊥) → now e ≡ done e)
    → left_from now k es n + 1 ≡ left_from done k es n
left_less done now k i [] n l to d w h = absurd (omega arith)
left_less done now k zero (e ∷ es) n l to d w h =
    let rest = left_above done now (suc k) es n (λ e le. h e (λ is. omega arith)) in
    let a : lacks (done k) ≡ 1 = lacks_none (done k) (ap done (sym (add-zero k)) ∙ d) in
    let same : now (k + 0) ≡ now k = ap now (add-zero k) in
    let b : lacks (now k) ≡ 0 = lacks_some (now k) (omega arith) in
    let t : (e.to.0 == n) ≡ true = eq-eqb e.to.0 n to in
    rw t (omega arith)
left_less done now k (suc i) (e ∷ es) n l to d w h =
    let shift : suc k + i ≡ k + suc i = omega arith in
    let same : now (suc k + i) ≡ now (k + suc i) = ap now shift in
    let rest = left_less done now (suc k) i es n (omega arith) to (ap done shift ∙ d) (omega arith)
    (λ e ne. h e (λ is. ne (is ∙ sym shift))) in
    let head : now k ≡ done k = h k (λ is. omega arith) in
    let same : (if e.to.0 == n then lacks (now k) else 0) ≡ (if e.to.0 == n then lacks (done k) else 0) =
    ap (λ (x : ℕ). if e.to.0 == n then lacks x else 0) head in
    omega arith

pub left_else : (done now : ℕ → ℕ) (k i : ℕ) (es : List PlanEdge) (n : ℕ) → i < length es → (edge_target es i ≡ n → ⊥)
    → ((e : ℕ) → (e ≡ k + i → ⊥) → now e ≡ done e)
    → left_from now k es n ≡ left_from done k es n
left_else done now k i [] n l ne h = refl
left_else done now k zero (e ∷ es) n l ne h =
    let rest = left_above done now (suc k) es n (λ e le. h e (λ is. omega arith)) in
    let t : (e.to.0 == n) ≡ false = ne_eqb e.to.0 n ne in
    rw t (omega arith)
left_else done now k (suc i) (e ∷ es) n l ne h =
    let shift : suc k + i ≡ k + suc i = omega arith in
    let rest = left_else done now (suc k) i es n (omega arith) ne (λ e ne. h e (λ is. ne (is ∙ sym shift))) in
    let head : now k ≡ done k = h k (λ is. omega arith) in
    let same : (if e.to.0 == n then lacks (now k) else 0) ≡ (if e.to.0 == n then lacks (done k) else 0) =
    ap (λ (x : ℕ). if e.to.0 == n then lacks x else 0) head in
    omega arith

-- as many as there are edges, at most
pub left_bound : (done : ℕ → ℕ) (k : ℕ) (es : List PlanEdge) (n : ℕ) → left_from done k es n ≤ length es
left_bound done k [] n = omega arith
left_bound done k (e ∷ es) n =
    let h = left_bound done (suc k) es n in
    let a = either_less (e.to.0 == n) (lacks (done k)) 1 (lacks_less 0 (done k) (omega arith)) in
    let b = at_most_one (e.to.0 == n) in omega arith where
      at_most_one : (b : Bool) → (if b then 1 else 0) ≤ 1
      at_most_one true = omega arith
      at_most_one false = omega arith
