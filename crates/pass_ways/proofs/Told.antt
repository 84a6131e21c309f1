-- What lines say of one pass: one legal order alone, or where they are refused.
use Rattle.std.proofs.Common.{◌≡◌, ◌<◌, ◌≤◌, ◌+◌, ℕ, suc, List, [], ◌∷◌, ◌++◌, length, get_or, take, drop, refl, ap}
use Rattle.std.proofs.Common.{◌∙◌, sym, subst, arith, ⊎_elim, length-append}
use Rattle.std.specs.Prelude.{slice_index}
use Rattle.std.specs.List.{Contains}
use Rattle.std.proofs.Math.Seq.{take-length}
use Rattle.std.proofs.lemmas.Bool.{cases_order}
use Rattle.std.proofs.lemmas.List.{length-map, get_or-map, get_or-take, length-take-le}
use Rattle.bp_faults.specs.declared.fault.Fault.{Fault}
use Rattle.bp_faults.specs.declared.ids.NodeId.{NodeId}
use Rattle.bp_faults.proofs.Lists.{all_contained, same_at}
use Rattle.serial_pass.specs.declared.plan.Plan.{Plan}
use Rattle.serial_pass.specs.Orders.{IsLegal, numbers}
use Rattle.pass_core.specs.OrderOutcomes.{IsReadyAfter, IsReadyAt}
use Rattle.pass_ways.specs.declared.way.OrderLine.{OrderLine}
use Rattle.pass_ways.specs.Visits.{visits}
use Rattle.pass_ways.specs.OrderFiles.{Say, lines_behind, IsLegalLine, IsIllegal, IsRefused, stopped_at}
use Rattle.pass_ways.proofs.Said.{say_behind, line_said, drop_more}
use Rattle.pass_ways.proofs.Lacking.{many_where_all, few_where_distinct}
use Rattle.pass_ways.proofs.Parts.{part_fewer, numbers_taken}
use Rattle.pass_ways.proofs.Refused.{entry_node}

module _ (plan : Plan) (order : List ℕ) (legal : IsLegal plan order) where
  pub legal_whole : length order ≡ plan.count
  legal_whole =
      let few = few_where_distinct order plan.count legal.each_once.nodes legal.each_once.once in
      let many = many_where_all order plan.count legal.each_once.each in
      omega (arith, few, many)

  pub legal_ready : (index : ℕ) → index < length order → IsReadyAt plan order index
  legal_ready index lt = record {
    inside = all_contained (λ n. n < plan.count) order (slice_index order index) legal.each_once.nodes (
      index,
      lt,
      same_at order index (slice_index order index) 0 lt,
    );
    unvisited = not_before;
    after = legal.after index lt;
  }
    where
      not_before : Contains (take index order) (slice_index order index) → ⊥
      not_before c =
          let many = length-take-le index order (omega arith) in
          let less : c.0 < index = let e = c.1 in omega arith in
          let there : get_or order c.0 (slice_index order index) ≡ slice_index order index = sym (get_or-take index
          order c.0 (slice_index order index) less) ∙ c.2 in
          legal.each_once.once c.0 index (slice_index order index) less lt (there ∙ sym (same_at order index
          (slice_index order index) 0 lt))

-- of two orders that lines say the shorter is the beginning of the other
say_beginning : (lines : List OrderLine) (pass : ℕ) (order other : List NodeId) → Say lines (visits pass order) → Say
    lines (visits pass other) → length order ≤ length other → order ≡ take (length order) other
say_beginning lines pass [] other h k le = refl
say_beginning lines pass (m ∷ ms) [] h k le = absurd (omega arith)
say_beginning [] pass (m ∷ ms) (n ∷ ns) h k le = absurd h
say_beginning (l ∷ ls) pass (m ∷ ms) (n ∷ ns) h k le =
    let head : m ≡ n = entry_node pass m n (sym h.0 ∙ k.0) in
    let tail : ms ≡ take (length ms) ns = say_beginning ls pass ms ns h.1 k.1 (omega arith) in
    ap (λ x. x ∷ ms) head ∙ ap (λ l. n ∷ l) tail

module _ (lines : List OrderLine) (before : List (ℕ × NodeId)) (pass : ℕ) where
  same_order : (order other : List NodeId) → Say lines (before ++ visits pass order) → Say lines (before ++ visits pass
      other) → length order ≡ length other → order ≡ other
  same_order order other h k same =
      say_beginning (lines_behind lines before) pass order other (say_behind lines before (visits pass order) h)
      (say_behind lines before (visits pass other) k) (omega (arith, same))
      ∙ ap (λ i. take i other) same ∙ take-length other

  -- where lines say more ready nodes, the next line is legal
  never_stuck : (plan : Plan) (order other : List NodeId) → Say lines (before ++ visits pass order) → Say lines (before
      ++ visits pass other) → length order < length other
      → ((index : ℕ) → index < length (numbers other) → IsReadyAt plan (numbers other) index) → IsIllegal (IsLegalLine
      plan pass order) (lines_behind lines (before ++ visits pass order)) → ⊥
  never_stuck plan order other h k less ready illegal =
      let said = say_behind lines before (visits pass other) k in
      let d : NodeId = record { 0 = 0 } in
      let next = line_said (lines_behind lines before) pass other (length order) d said less in
      let there : lines_behind lines (before ++ visits pass order) ≡ next.0 ∷ next.1 =
      ap (λ i. drop i lines) (length-append before (visits pass order) ∙ ap (λ i. length before + i) (length-map order
      (λ (n : NodeId). (pass, n)))) ∙ sym (drop_more lines (length before) (length order)) ∙ next.2 in
      let first : order ≡ take (length order) other = say_beginning (lines_behind lines before) pass order other
      (say_behind lines before (visits pass order) h) said (omega (arith, less)) in
      let many = length-map other (λ (n : NodeId). n.0) in
      let here : slice_index (numbers other) (length order) ≡ (get_or other (length order) d).0 = get_or-map (λ (n :
      NodeId). n.0) other (length order) d 0 less in
      let at : IsReadyAfter plan (take (length order) (numbers other)) (slice_index (numbers other) (length order)) =
      ready (length order) (omega (arith, many, less)) in
      let taken : take (length order) (numbers other) ≡ numbers order = numbers_taken (length order) other ∙ ap numbers
      (sym first) in
      let legal : IsLegalLine plan pass order next.0 = (
        get_or other (length order) d,
        next.3,
        subst (IsReadyAfter plan
            (numbers order)) here (subst (λ l. IsReadyAfter plan l (slice_index (numbers other) (length order))) taken
            at),
      ) in
      subst (IsIllegal (IsLegalLine plan pass order)) there illegal legal

  pub one_order : (plan : Plan) (order other : List NodeId) → Say lines (before ++ visits pass order) → IsLegal plan
      (numbers order) → Say lines (before ++ visits pass other) → IsLegal plan (numbers other) → order ≡ other
  one_order plan order other h l k m =
      let a = length-map order (λ (n : NodeId). n.0) in
      let b = length-map other (λ (n : NodeId). n.0) in
      let c = legal_whole plan (numbers order) l in
      let e = legal_whole plan (numbers other) m in
      same_order order other h k (omega (arith, a, b, c, e))

  pub no_order : (file : ℕ) (plan : Plan) (fault : Fault) (order : List NodeId) → IsRefused lines file before pass plan
      fault → Say lines (before ++ visits pass order) → IsLegal plan (numbers order) → ⊥
  no_order file plan fault order refused h legal =
      let a = length-map order (λ (n : NodeId). n.0) in
      let b = length-map refused.order (λ (n : NodeId). n.0) in
      let c = legal_whole plan (numbers order) legal in
      let e = part_fewer plan (numbers refused.order) refused.part in
      never_stuck plan refused.order order refused.says h (omega (arith, a, b, c, e)) (legal_ready plan (numbers order)
      legal) refused.next

  pub one_fault : (file : ℕ) (plan : Plan) (fault other : Fault) → IsRefused lines file before pass plan fault →
      IsRefused lines file before pass plan other → fault ≡ other
  one_fault file plan fault other a b = ⊎_elim
      (λ same. a.fault_is ∙ ap (λ (o : List NodeId). stopped_at file (suc (length before + length o)) (lines_behind
      lines (before ++ visits pass o))) (same_order a.order b.order a.says b.says same) ∙ sym b.fault_is)
      (λ apart. absurd (⊎_elim
      (λ less. never_stuck plan a.order b.order a.says b.says less b.part.ready a.next)
      (λ more. never_stuck plan b.order a.order b.says a.says more a.part.ready b.next)
      apart))
      (cases_order (length a.order) (length b.order))
