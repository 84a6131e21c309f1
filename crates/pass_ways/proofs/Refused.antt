-- A pass along the lines of an order file.
use Rattle.std.proofs.Common.{◌≡◌, ◌<◌, ◌≤◌, ◌+◌, ℕ, suc, List, [], ◌∷◌, ◌++◌, length, get_or, take, drop, ap, ◌∙◌}
use Rattle.std.proofs.Common.{sym, subst, arith, Some, None, Option, ⊎_elim, length-append}
use Rattle.std.specs.Prelude.{slice_index}
use Rattle.std.proofs.lemmas.List.{length-map, length-take-le, get_or-map}
use Rattle.bp_faults.specs.declared.fault.Fault.{Fault}
use Rattle.bp_faults.specs.declared.ids.NodeId.{NodeId}
use Rattle.serial_pass.specs.declared.plan.Plan.{Plan}
use Rattle.serial_pass.specs.Orders.{IsLegal, numbers}
use Rattle.pass_core.specs.OrderOutcomes.{IsReadyAfter, IsFirstRefused, IsShort}
use Rattle.pass_ways.specs.declared.way.OrderLine.{OrderLine}
use Rattle.pass_ways.specs.Visits.{visits}
use Rattle.pass_ways.specs.OrderFiles.{Say, lines_behind, IsPart, IsLegalLine, IsIllegal, IsRefused, stopped_at}
use Rattle.pass_ways.specs.Inside.{IsTaken, IsOther}
use Rattle.pass_ways.proofs.Said.{say_few, say_joined, say_taken, line_said, drop_more}
use Rattle.pass_ways.proofs.Parts.{refused_part, short_part, part_fewer, numbers_taken}

node_or : NodeId → Option (ℕ × NodeId) → NodeId
node_or d (Some v) = v.1
node_or d None = d

abbrev pub entry : ℕ → NodeId → Option (ℕ × NodeId)
entry pass n = Some (pass, n)

pub entry_node : (pass : ℕ) (m n : NodeId) → entry pass m ≡ entry pass n → m ≡ n
unfolding node_or
entry_node pass m n e = ap (node_or m) e

-- what was taken of the lines behind the journal
pub taken_is : (lines from : List OrderLine) (count pass most : ℕ) (order : List NodeId) → from ≡ drop count lines →
    IsTaken from pass most order → IsTaken (drop count lines) pass most order
taken_is lines from count pass most order e t = subst (λ (l : List OrderLine). IsTaken l pass most order) e t

module _ (lines : List OrderLine) (journal : List (ℕ × NodeId)) (read : Say lines journal) (pass : ℕ) (plan : Plan)
    (order : List NodeId) (taken : IsTaken (drop (length journal) lines) pass plan.count order) where
  say_all : Say lines (journal ++ visits pass order)
  say_all = say_joined lines journal (visits pass order) read taken.say

  pub made_along : (nodes : List NodeId) → nodes ≡ order → IsLegal plan (numbers nodes) → IsLegal plan (numbers nodes)
      × Say lines (journal ++ visits pass nodes)
  made_along nodes same legal = (
    legal,
    subst (λ (l : List NodeId). Say lines (journal ++ visits pass l)) (sym same)
        say_all,
  )

  -- the lines behind some visits of the pass
  behind_part : (k : ℕ) → k ≤ length order → lines_behind lines (journal ++ visits pass (take k order)) ≡ drop (length
      journal + k) lines
  behind_part k le = ap (λ i. drop i lines)
      (length-append journal (visits pass (take k order)) ∙ ap (λ i. length journal + i) (length-map (take k order) (λ
      (n : NodeId). (pass, n)) ∙ length-take-le k order le))

  pub inside_at : (k : ℕ) → k ≤ length order → length journal + k ≤ length lines
  inside_at k le =
      let e = say_few lines (journal ++ visits pass order) say_all in
      let f = length-append journal (visits pass order) in
      let g : length (visits pass order) ≡ length order = length-map order (λ (n : NodeId). (pass, n)) in omega arith

  pub few_numbers : (nodes : List NodeId) → nodes ≡ order → length (numbers nodes) ≡ length order
  few_numbers nodes e = length-map nodes (λ (n : NodeId). n.0) ∙ ap length e

  module _ (file : ℕ) (fault : Fault) where
    pub refused_at : (k : ℕ) → IsFirstRefused plan (numbers order) k → fault ≡ stopped_at file (suc (length journal +
        k)) (drop (length journal + k) lines) → IsRefused lines file journal pass plan fault
    refused_at k first is =
        let many = length-map order (λ (n : NodeId). n.0) in
        let lt : k < length order = let e = first.inside in omega arith in
        let le : k ≤ length order = omega arith in
        let d : NodeId = record { 0 = 0 } in
        let length_taken = length-take-le k order le in
        let next = line_said (drop (length journal) lines) pass order k d taken.say lt in
        let there : lines_behind lines (journal ++ visits pass (take k order)) ≡ next.0 ∷ next.1 = behind_part k le ∙
        sym (drop_more lines (length journal) k) ∙ next.2 in
        let here : slice_index (numbers order) k ≡ (get_or order k d).0 = get_or-map (λ (n : NodeId). n.0) order k d 0
        lt in
        let illegal : IsLegalLine plan pass (take k order) next.0 → ⊥ = λ legal.
        let same : entry pass legal.0 ≡ entry pass (get_or order k d) = sym legal.1 ∙ next.3 in
        let node : legal.0 ≡ get_or order k d = entry_node pass legal.0 (get_or order k d) same in
        first.refused (subst (λ (l : List ℕ). IsReadyAfter plan l (slice_index (numbers order) k)) (sym (numbers_taken
        k order))
        (subst (IsReadyAfter plan (numbers (take k order))) (ap (λ (n : NodeId). n.0) node ∙ sym here)
        legal.2)) in
        record {
          order = take k order;
          part = subst (IsPart plan) (numbers_taken k order) (refused_part plan (numbers order) k first (let e =
              taken.few in omega arith));
          says = say_joined lines journal (visits pass (take k order)) read (say_taken (drop (length journal) lines)
              pass order k taken.say);
          next = subst (IsIllegal (IsLegalLine plan pass (take k order))) (sym there) illegal;
          fault_is = is ∙ ap (λ i. stopped_at file (suc (length journal + i)) (drop (length journal + k) lines)) (sym
              length_taken) ∙ ap (stopped_at file (suc (length journal + length (take k order)))) (sym (behind_part k
              le));
        }

    other_illegal : (ls : List OrderLine) → IsOther pass ls → IsIllegal (IsLegalLine plan pass order) ls
    other_illegal [] h = tt
    other_illegal (l ∷ ls) h = λ legal. h legal.0 legal.1

    pub refused_short : (many : ℕ) → IsShort plan (numbers order) many → fault ≡ stopped_at file (suc (length journal +
        many)) (drop (length journal + many) lines) → IsRefused lines file journal pass plan fault
    refused_short many short is =
        let length_numbers = length-map order (λ (n : NodeId). n.0) in
        let whole : many ≡ length order = short.whole ∙ length_numbers in
        let part = short_part plan (numbers order) many short in
        let behind_all : lines_behind lines (journal ++ visits pass order) ≡ drop (length journal + length order) lines
        =
        ap (λ i. drop i lines) (length-append journal (visits pass order) ∙ ap (λ i. length journal + i) (length-map
        order (λ (n : NodeId). (pass, n)))) in
        let other : IsOther pass (drop (length order) (drop (length journal) lines)) = ⊎_elim (λ same. let fewer =
        part_fewer plan (numbers order) part in absurd (omega (arith, length_numbers, same, fewer))) (λ other.
        other) taken.whole in
        record {
          order = order;
          part = part;
          says = say_all;
          next = subst (IsIllegal (IsLegalLine plan pass order)) (drop_more lines (length journal) (length order) ∙ sym
              behind_all) (other_illegal (drop (length order) (drop (length journal) lines)) other);
          fault_is = is ∙ ap (λ i. stopped_at file (suc (length journal + i)) (drop (length journal + i) lines)) whole
              ∙ ap (stopped_at file (suc (length journal + length order))) (sym behind_all);
        }
