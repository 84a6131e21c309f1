-- What lines say of one pass: a legal order of it, or they are refused.
use Rattle.std.proofs.Common.{◌≡◌, ◌≢◌, ◌<◌, ◌≤◌, ◌+◌, ◌⊎◌, ◌++◌, ◌∙◌, ℕ, zero, suc, true, false, List, [], ◌∷◌}
use Rattle.std.proofs.Common.{Option, Some, None, length, take, inl, inr, ⊎_elim, refl, ap, sym, subst, arith}
use Rattle.std.proofs.Common.{append-nil, append_assoc}
use Rattle.std.specs.Prelude.{slice_index}
use Rattle.std.specs.List.{AllByRecursion, AllPairs, Contains, list_any}
use Rattle.std.specs.Cmp.{nat_eq_equiv}
use Rattle.std.proofs.Math.Dec.{eqb}
use Rattle.std.proofs.Math.ListN.{get_or-append}
use Rattle.std.proofs.Math.Seq.{get_or-append_seam, take-append_seam}
use Rattle.std.proofs.lemmas.Bool.{cases_Bool, cases_eq, cases_order, eqb-true}
use Rattle.std.proofs.lemmas.List.{length-append, length-map, map-append, take-append-le}
use Rattle.std.proofs.lemmas.List.Elements.{recursion_from_All}
use Rattle.std.proofs.lemmas.Map.Views.{list_any-from_Contains, Contains-from_any}
use Rattle.bp_faults.specs.declared.fault.Fault.{Fault}
use Rattle.bp_faults.specs.declared.ids.NodeId.{NodeId}
use Rattle.bp_faults.proofs.Lists.{contains_earlier, same_at}
use Rattle.serial_pass.specs.declared.plan.Plan.{Plan}
use Rattle.serial_pass.specs.Orders.{IsLegal, numbers}
use Rattle.pass_core.specs.OrderOutcomes.{IsReadyAfter, IsReadyAt}
use Rattle.serial_pass.specs.Plans.{predecessors}
use Rattle.pass_ways.specs.declared.way.OrderLine.{OrderLine}
use Rattle.pass_ways.specs.Laws.{PartsAreShort}
use Rattle.pass_ways.specs.OrderFiles.{Say, lines_behind, IsIllegal, IsLegalLine, IsRefused, stopped_at}
use Rattle.pass_ways.specs.Visits.{visits}

-- It holds, or it doesn't.
abbrev pub IsTold : Type 0 → Type 0
IsTold A = A ⊎ (A → ⊥)

contains_told : (xs : List ℕ) (n : ℕ) → IsTold (Contains xs n)
contains_told xs n =
    ⊎_elim (λ has. inl (Contains-from_any eqb-true n xs has))
    (λ lacks. inr (λ c.
    let bad : true ≡ false = sym (list_any-from_Contains nat_eq_equiv n xs c) ∙ lacks in absurd (cc)))
    (cases_Bool (list_any (eqb n) xs))

all_told : (xs ns : List ℕ) → IsTold (AllByRecursion (Contains xs) ns)
all_told xs [] = inl tt
all_told xs (n ∷ ns) =
    ⊎_elim
    (λ here. ⊎_elim (λ rest. inl (here, rest)) (λ no. inr (λ all. no all.1)) (all_told xs ns))
    (λ no. inr (λ all. no all.0))
    (contains_told xs n)

below_told : (n m : ℕ) → IsTold (n < m)
below_told n m =
    ⊎_elim (λ same. inr (λ less. omega (arith, same, less)))
    (λ apart. ⊎_elim (λ less. inl less) (λ more. inr (λ less. omega (arith, more, less))) apart) (cases_order n m)

ready_told : (plan : Plan) (before : List ℕ) (n : ℕ) → IsTold (IsReadyAfter plan before n)
ready_told plan before n =
    ⊎_elim
    (λ inside. ⊎_elim
    (λ visited. inr (λ ready. ready.unvisited visited))
    (λ unvisited. ⊎_elim
    (λ after. inl (record { inside = inside; unvisited = unvisited; after = after }))
    (λ no. inr (λ ready. no ready.after))
    (all_told before (predecessors plan.edges n)))
    (contains_told before n))
    (λ no. inr (λ ready. no ready.inside))
    (below_told n plan.count)

abbrev entry : ℕ × NodeId → Option (ℕ × NodeId)
entry v = Some v

same_entry : (v w : ℕ × NodeId) → entry v ≡ entry w → v ≡ w
same_entry v w e = cc

line_told : (plan : Plan) (pass : ℕ) (order : List NodeId) (l : OrderLine) → IsTold (IsLegalLine plan pass order l)
line_told plan pass order l = by l.entry refl
  where
    by : (e : Option (ℕ × NodeId)) → l.entry ≡ e → IsTold (IsLegalLine plan pass order l)
    by None is = inr (λ legal. let bad : None ≡ entry (pass, legal.0) = sym is ∙ legal.1 in absurd (cc))
    by (Some v) is =
        ⊎_elim
        (λ same. ⊎_elim
        (λ ready. inl (v.1, is ∙ ap (λ q. entry (q, v.1)) same, ready))
        (λ no. inr (λ legal. let e = same_entry v (pass, legal.0) (sym is ∙ legal.1) in
        no (subst (λ (m : NodeId). IsReadyAfter plan (numbers order) m.0)
        (sym (ap (λ (w : ℕ × NodeId). w.1) e)) legal.2)))
        (ready_told plan (numbers order) v.1.0))
        (λ differ. inr (λ legal. let e = same_entry v (pass, legal.0) (sym is ∙ legal.1) in
        differ (ap (λ (w : ℕ × NodeId). w.0) e)))
        (cases_eq v.0 pass)

-- Some number below another isn't in the list, or all are.
missing_or_all : (xs : List ℕ) (n : ℕ)
    → ((q : ℕ) × (q < n) × (Contains xs q → ⊥)) ⊎ ((q : ℕ) → q < n → Contains xs q)
missing_or_all xs zero = inr (λ q lt. absurd (omega arith))
missing_or_all xs (suc n) = ⊎_elim
    (λ lacks. inl (lacks.0, (let e = lacks.1 in omega arith), lacks.2))
    (λ has. ⊎_elim
    (λ here. inr (λ q lt. ⊎_elim
    (λ same. subst (Contains xs) (sym same) here) (λ other. has q (omega arith)) (cases_eq q n)))
    (λ no. inl (n, omega arith, no))
    (contains_told xs n))
    (missing_or_all xs n)

-- A list of which each entry was ready, and that has all nodes, is legal.
module _ (plan : Plan) (order : List ℕ) (ready : (index : ℕ) → index < length order → IsReadyAt plan order index) where
  inside : AllByRecursion (λ n. n < plan.count) order
  inside =
      recursion_from_All (λ n. n < plan.count) order
      (λ i d lt. subst (λ n. n < plan.count) (same_at order i 0 d lt) (ready i lt).inside)

  apart : AllPairs (λ m n. m ≢ n) order
  apart i j d lt within same =
      (ready j within).unvisited (contains_earlier order (slice_index order j) j i lt within
      (same_at order i (slice_index order j) d (omega arith) ∙ same ∙ same_at order j d 0 within))

  legal_whole : ((q : ℕ) → q < plan.count → Contains order q) → IsLegal plan order
  legal_whole all = record {
    each_once = record { nodes = inside; each = all; once = apart };
    after = λ index lt. (ready index lt).after;
  }

  -- one node more that is ready
  ready_more : (n : ℕ) → IsReadyAfter plan order n → (index : ℕ) → index < length (order ++ n ∷ [])
      → IsReadyAt plan (order ++ n ∷ []) index
  ready_more n here index lt =
      let many = length-append order (n ∷ []) in
      ⊎_elim
      (λ same. subst (IsReadyAt plan (order ++ n ∷ [])) (sym same)
      (subst (λ l. IsReadyAfter plan l (slice_index (order ++ n ∷ []) (length order)))
      (sym (take-append_seam order (n ∷ [])))
      (subst (IsReadyAfter plan order) (sym (get_or-append_seam order n [] 0)) here)))
      (λ differ. ⊎_elim
      (λ less. subst (λ l. IsReadyAfter plan l (slice_index (order ++ n ∷ []) index))
      (sym (take-append-le index order (n ∷ []) (omega (arith, less))))
      (subst (IsReadyAfter plan (take index order)) (sym (get_or-append order (n ∷ []) 0 index less))
      (ready index less)))
      (λ more. absurd (omega (arith, many, more, lt)))
      differ)
      (cases_order index (length order))

say_joined : (lines : List OrderLine) (said more : List (ℕ × NodeId)) → Say lines said
    → Say (lines_behind lines said) more → Say lines (said ++ more)
say_joined lines [] more h k = k
say_joined [] (v ∷ vs) more h k = absurd h
say_joined (l ∷ ls) (v ∷ vs) more h k = (h.0, say_joined ls vs more h.1 k)

module _ (short : PartsAreShort) (lines : List OrderLine) (file : ℕ) (before : List (ℕ × NodeId)) (pass : ℕ)
    (plan : Plan) where
  -- The lines say a legal order of the pass, or they are refused in it.
  abbrev pub Reading : Type 0
  Reading =
      ((order : List NodeId) × IsLegal plan (numbers order) × Say lines (before ++ visits pass order))
      ⊎ ((fault : Fault) × IsRefused lines file before pass plan fault)

  abbrev said : List NodeId → List (ℕ × NodeId)
  said order = before ++ visits pass order

  abbrev AreReady : List ℕ → Type 0
  AreReady order = (index : ℕ) → index < length order → IsReadyAt plan order index

  say_more : (order : List NodeId) (l : OrderLine) (ls : List OrderLine) (n : NodeId) → Say lines (said order)
      → lines_behind lines (said order) ≡ l ∷ ls → l.entry ≡ Some (pass, n) → Say lines (said (order ++ n ∷ []))
  say_more order l ls n say is names =
      subst (Say lines)
      (append_assoc before (visits pass order) ((pass, n) ∷ [])
      ∙ ap (λ w. before ++ w) (sym (map-append (λ (m : NodeId). (pass, m)) order (n ∷ []))))
      (say_joined lines (said order) ((pass, n) ∷ []) say
      (subst (λ b. Say b ((pass, n) ∷ [])) (sym is) (names, tt)))

  refused_here : (order : List NodeId) → AreReady (numbers order) → Say lines (said order)
      → ((q : ℕ) × (q < plan.count) × (Contains (numbers order) q → ⊥))
      → IsIllegal (IsLegalLine plan pass order) (lines_behind lines (said order)) → Reading
  refused_here order ready say missing illegal =
      inr (
        stopped_at file (suc (length before + length order)) (lines_behind lines (said order)),
        record {
          order = order;
          part = record { ready = ready; missing = missing };
          says = say;
          next = illegal;
          fault_is = refl;
        },
      )

  abbrev IsMissing : List NodeId → Type 0
  IsMissing order = (q : ℕ) × (q < plan.count) × (Contains (numbers order) q → ⊥)

  -- how it goes on behind some nodes, of which that many are left
  abbrev Going : ℕ → Type 0
  Going left =
      (order : List NodeId) → plan.count ≤ length order + left → AreReady (numbers order) → Say lines (said order)
      → Reading

  next_line : (left : ℕ) → Going left → (order : List NodeId) → plan.count ≤ length order + suc left
      → AreReady (numbers order) → Say lines (said order) → IsMissing order → (behind : List OrderLine)
      → lines_behind lines (said order) ≡ behind → Reading
  next_line left go order few ready say missing [] is =
      refused_here order ready say missing (subst (IsIllegal (IsLegalLine plan pass order)) (sym is) tt)
  next_line left go order few ready say missing (l ∷ ls) is =
      ⊎_elim
      (λ legal.
      let pushed : numbers order ++ legal.0.0 ∷ [] ≡ numbers (order ++ legal.0 ∷ []) =
      sym (map-append (λ (m : NodeId). m.0) order (legal.0 ∷ [])) in
      let many = length-append order (legal.0 ∷ []) in
      go (order ++ legal.0 ∷ []) (omega (arith, many, few))
      (subst AreReady pushed (ready_more plan (numbers order) ready legal.0.0 legal.2))
      (say_more order l ls legal.0 say is legal.1))
      (λ no. refused_here order ready say missing
      (subst (IsIllegal (IsLegalLine plan pass order)) (sym is) no))
      (line_told plan pass order l)

  whole_or : (order : List NodeId) → AreReady (numbers order) → Say lines (said order) → (IsMissing order → Reading)
      → Reading
  whole_or order ready say go =
      ⊎_elim go (λ all. inl (order, legal_whole plan (numbers order) ready all, say))
      (missing_or_all (numbers order) plan.count)

  read_from : (left : ℕ) → Going left
  read_from zero order few ready say = whole_or order ready say (λ missing.
      let less = short plan (numbers order) (record { ready = ready; missing = missing }) in
      let many = length-map order (λ (n : NodeId). n.0) in
      absurd (omega (arith, less, many, few)))
  read_from (suc left) order few ready say = whole_or order ready say (λ missing.
      next_line left (read_from left) order few ready say missing (lines_behind lines (said order)) refl)

  pub reading : Say lines before → Reading
  reading say =
      read_from plan.count [] (omega arith) (λ index lt. absurd (omega arith))
      (subst (Say lines) (sym (append-nil before)) say)
