-- What was made, as more is made and taken in.
use Rattle.std.proofs.Common.{◌≡◌, ◌<◌, ◌≤◌, ◌++◌, ℕ, List, [], ◌∷◌, refl, ap, arith, ◌∙◌, sym, subst, Result, Some}
use Rattle.std.specs.Prelude.{slice_get}
use Rattle.std.proofs.lemmas.List.{map-append}
use Rattle.bp_faults.specs.declared.fault.Fault.{Fault}
use Rattle.serial_pass.specs.declared.plan.Plan.{Plan}
use Rattle.serial_pass.specs.Results.{NodeResult, node_result}
use Rattle.bp_faults.proofs.Lists.{all_pushed, all_append}
use Rattle.ready_counters.specs.declared.view.View.{View}
use Rattle.ready_counters.specs.Views.{times, together, tickets_for, ticket_number, tickets_with}
use Rattle.visit_workers.proofs.Counting.{tickets_append, number_append, with_append}
use Rattle.visit_workers.specs.declared.made.Made.{Made}
use Rattle.visit_workers.specs.Making.{pairs, IsRight, IsMadeBy, IsWorking}
use Rattle.ready_counters.specs.Views.{lighter, one}
use Rattle.visit_workers.proofs.Settling.{settled_both, settled_lighter, settled_one}

module _ {O : Type 0} where
  pairs_append : (made more : List (Made O)) → pairs (made ++ more) ≡ pairs made ++ pairs more
  pairs_append made more = map-append (λ (m : Made O). (m.node.0, m.ticket)) made more

  module _ (count : ℕ) (results : ℕ → NodeResult O) where
    pub made_none : IsMadeBy count results [] []
    made_none = record { right = tt; drawn = λ n. refl; numbered = λ n. refl; used = λ k. refl }

    pub made_more : (n k : ℕ) (old new : List (ℕ × ℕ)) (made : List (Made O)) (m : Made O) → new ≡ (n, k) ∷ old
        → m.node.0 ≡ n → m.ticket ≡ k → IsRight count results m → IsMadeBy count results old made
        → IsMadeBy count results new (made ++ m ∷ [])
    made_more n k old new made m is node ticket right h =
        let q : new ≡ (m.node.0, m.ticket) ∷ old = is ∙ ap (λ x. (x, k) ∷ old) (sym node)
        ∙ ap (λ y. (m.node.0, y) ∷ old) (sym ticket) in
        subst (λ ts. IsMadeBy count results ts (made ++ m ∷ [])) (sym q) (record {
          right = all_pushed (IsRight count results) made m h.right right;
          drawn = λ x. let a = ap (tickets_for x) (pairs_append made (m ∷ [])) in
              let b = tickets_append x (pairs made) (pairs (m ∷ [])) in let c = h.drawn x in omega arith;
          numbered = λ x. let a = ap (ticket_number x) (pairs_append made (m ∷ [])) in
              let b = number_append x (pairs made) (pairs (m ∷ [])) in let c = h.numbered x in omega arith;
          used = λ x. let a = ap (tickets_with x) (pairs_append made (m ∷ [])) in
              let b = with_append x (pairs made) (pairs (m ∷ [])) in let c = h.used x in omega arith;
        })

    pub made_both : (ts us : List (ℕ × ℕ)) (made more : List (Made O)) → IsMadeBy count results ts made
        → IsMadeBy count results us more → IsMadeBy count results (ts ++ us) (made ++ more)
    made_both ts us made more h k = record {
      right = all_append (IsRight count results) made more h.right k.right;
      drawn = λ x. let a = ap (tickets_for x) (pairs_append made more) in
          let b = tickets_append x (pairs made) (pairs more) in let c = tickets_append x ts us in let d = h.drawn x in
          let e = k.drawn x in omega arith;
      numbered = λ x. let a = ap (ticket_number x) (pairs_append made more) in
          let b = number_append x (pairs made) (pairs more) in let c = number_append x ts us in
          let d = h.numbered x in let e = k.numbered x in omega arith;
      used = λ x. let a = ap (tickets_with x) (pairs_append made more) in
          let b = with_append x (pairs made) (pairs more) in let c = with_append x ts us in let d = h.used x in
          let e = k.used x in omega arith;
    }

  module _ (mean : ℕ → List O → Result O Fault) (plan : Plan) where
    pub working_same : (v w : View) (made : List (Made O)) → w ≡ v → IsWorking mean plan v made
        → IsWorking mean plan w made
    working_same v w made is h = subst (λ (u : View). IsWorking mean plan u made) (sym is) h

    pub working_both : (v w x : View) (made more new : List (Made O)) → x ≡ together v w → new ≡ made ++ more
        → IsWorking mean plan v made → IsWorking mean plan w more → IsWorking mean plan x new
    working_both v w x made more new is items h k =
        subst (λ (u : View). IsWorking mean plan u new) (sym is)
        (subst (λ ms. IsWorking mean plan (together v w) ms) (sym items)
        (record {
          settled = settled_both plan.edges v w h.settled k.settled;
          made_by =
              made_both plan.count (node_result mean plan) v.tickets w.tickets made more h.made_by k.made_by;
        }))

    pub working_one : IsWorking mean plan one []
    working_one = record { settled = settled_one plan.edges; made_by = made_none plan.count (node_result mean plan) }

    pub working_lighter : (v : View) (made : List (Made O)) → IsWorking mean plan v made
        → IsWorking mean plan (lighter v) made
    working_lighter v made h = record { settled = settled_lighter plan.edges v h.settled; made_by = h.made_by }

    -- where each node has a ticket, the nodes by what was made stand by the seat's tickets
    pub by_tickets : (v : View) (made xs : List (Made O)) → xs ≡ made → IsWorking mean plan v made
        → ((n : ℕ) → tickets_for n v.tickets ≤ 1) → ((n : ℕ) → n < plan.count → 1 ≤ times n v.claimed)
        → (order : List ℕ)
        → ((n : ℕ) → tickets_for n (pairs xs) ≡ 1 → slice_get order (ticket_number n (pairs xs)) ≡ Some n)
        → (n : ℕ) → n < plan.count → slice_get order (ticket_number n v.tickets) ≡ Some n
    by_tickets v made xs is h single each order placed n l =
        let drawn = h.made_by.drawn n in let ticketed = h.settled.ticketed n in let most = single n in
        let some = each n l in
        ap (slice_get order) (h.made_by.numbered n ∙ ap (λ ms. ticket_number n (pairs ms)) (sym is))
        ∙ placed n (ap (λ ms. tickets_for n (pairs ms)) is
        ∙ (let one : tickets_for n (pairs made) ≡ 1 = omega arith in one))
