-- The stretches of a legal order, put one after another in a legal order of the stretches, are a legal order.
use Rattle.std.proofs.Common.{◌≡◌, ◌<◌, ◌≤◌, ◌+◌, ◌-◌, ◌*◌, ◌/◌, ℕ, List, [], ◌∷◌, ◌++◌, length, get_or, take, ⊎_elim}
use Rattle.std.proofs.Common.{ap, sym, ◌∙◌, subst, arith}
use Rattle.std.specs.Prelude.{slice_index}
use Rattle.std.specs.List.{Contains}
use Rattle.std.proofs.Math.Decide.{dec_lt}
use Rattle.std.proofs.Math.Nat.{div-mul-le_self, mul-le-mul_right}
use Rattle.std.proofs.lemmas.Bool.{cases_order}
use Rattle.std.proofs.lemmas.List.{get_or-take, length-take-le}
use Rattle.std.proofs.lemmas.List.Elements.{Contains-append_left, Contains-append_right, Contains-append_cases}
use Rattle.std.proofs.lemmas.Nat.{div_below}
use mathlib.Core.Logic.{dite}
use Rattle.bp_faults.proofs.Lists.{all_with, all_contained, contains_earlier, same_at}
use Rattle.bp_faults.specs.declared.ids.NodeId.{NodeId}
use Rattle.serial_pass.specs.declared.plan.Plan.{Plan}
use Rattle.serial_pass.specs.Orders.{IsLegal, numbers}
use Rattle.pass_core.specs.OrderOutcomes.{IsReadyAfter}
use Rattle.serial_pass.specs.Plans.{predecessors}
use Rattle.ready_counters.specs.Receipts.{ReceiptView}
use Rattle.pass_ways.specs.Idle.{ShowsOrder}
use Rattle.pass_ways.specs.Stretches.{stretch, joined_stretches, AreReady, IsLinked, IsPlanOfStretches}
use Rattle.pass_ways.proofs.Parts.{ready_inside, ready_apart}
use Rattle.pass_ways.proofs.Readied.{ready_append, ready_at, ready_from}
use Rattle.pass_ways.proofs.Stretched.{offset_small, offset_inside, offset_at, offset_stretch, in_stretch}
use Rattle.pass_ways.proofs.Stretched.{from_stretch, in_joined, from_joined, joined_stretches-push}
use Rattle.pass_ways.proofs.Stretched.{joined_stretches-map}
use Rattle.pass_ways.proofs.Told.{legal_ready}

module _ (plan : Plan) (order : List ℕ) (legal : IsLegal plan order) where
  -- a node stands at one index
  one_index : (i j : ℕ) → i < length order → j < length order → slice_index order i ≡ slice_index order j → i ≡ j
  one_index i j a b same = ⊎_elim
      (λ e. e)
      (λ apart. ⊎_elim
      (λ less. absurd (legal.each_once.once i j 0 less b same))
      (λ more. absurd (legal.each_once.once j i 0 more a (sym same)))
      apart)
      (cases_order i j)

  module _ (size : ℕ) (positive : 0 < size) (stretches : Plan) (made : IsPlanOfStretches plan size order stretches)
    where
      module _ (before : List ℕ) (t : ℕ) (ready : IsReadyAfter stretches before t) (k : ℕ)
          (lt : k < length (stretch size
          t order)) where
        small : k < size
        small = offset_small size order t k lt

        inside : t * size + k < length order
        inside = offset_inside size order t k lt

        here : (t * size + k) / size ≡ t
        here = offset_stretch size order t k small

        -- a node that stands before this one in the order stands before it now
        same_stretch : (m i : ℕ) → i < t * size + k → t * size ≤ i → get_or order i m ≡ m → Contains (take k (stretch
            size t order)) m
        same_stretch m i less from is =
            let whole : t * size + (i - t * size) ≡ i = omega arith in
            let before_here : i - t * size < k = omega arith in
            let r_small : i - t * size < size = omega (arith, small) in
            contains_earlier (stretch size t order) m k (i - t * size) before_here lt
            (offset_at size order t (i - t * size) m r_small ∙ ap (λ p. get_or order p m) whole ∙ is)

        stands_before : (m : ℕ) → Contains (take (t * size + k) order) m → IsLinked stretches.edges (slice_index
            made.table m) ((t * size + k) / size)
            → Contains (joined_stretches size order before ++ take k (stretch size t order)) m
        stands_before m c linked =
            let e = length-take-le (t * size + k) order (omega (arith, inside)) in
            let i = c.0 in
            let less : i < t * size + k = (let h = c.1 in omega arith) in
            let is : get_or order i m ≡ m = sym (get_or-take (t * size + k) order i m less) ∙ c.2 in
            let within : i < length order = omega (arith, inside) in
            let there : slice_index order i ≡ m = same_at order i 0 m within ∙ is in
            let told : slice_index made.table m ≡ i / size = ap (slice_index made.table) (sym there) ∙ made.told.tells i
            within in
            dite (dec_lt (i / size) t)
            (λ earlier.
            let link : Contains (predecessors stretches.edges t) (i / size) =
            subst (λ u. Contains (predecessors stretches.edges u) (i / size)) here
            (subst (λ s. Contains (predecessors stretches.edges ((t * size + k) / size)) s) told
            (linked (subst (λ s. s < (t * size + k) / size) (sym told) (subst (λ u. i / size < u) (sym here) earlier))))
            in
            let seen : Contains before (i / size) =
            all_contained (Contains before) (predecessors stretches.edges t) (i /
            size) ready.after link in
            Contains-append_left (joined_stretches size order before) (take k (stretch size t order)) m
            (in_joined size order before (i / size) m seen (subst (Contains (stretch size (i / size) order)) there
            (in_stretch size order i positive within))))
            (λ later.
            let most : t * size ≤ i / size * size = mul-le-mul_right size (let f : t ≤ i / size = omega arith in f) in
            let low : i / size * size ≤ i = div-mul-le_self i size in
            Contains-append_right (joined_stretches size order before) (take k (stretch size t order)) m
            (same_stretch m i less (omega (arith, most, low)) is))

        -- and this one doesn't
        stands_once : Contains (joined_stretches size order before ++ take k (stretch size t order)) (slice_index order
            (t * size + k)) → ⊥
        stands_once c = ⊎_elim
            (λ earlier.
            let from = from_joined size order before (slice_index order (t * size + k)) earlier in
            let at = from_stretch size order from.0 (slice_index order (t * size + k)) from.2 in
            let same : at.0 ≡ t * size + k = one_index at.0 (t * size + k) at.1 inside at.3 in
            let one : from.0 ≡ t = sym at.2 ∙ ap (λ p. p / size) same ∙ here in
            ready.unvisited (subst (Contains before) one from.1))
            (λ again.
            let n = slice_index order (t * size + k) in
            let e = length-take-le k (stretch size t order) (omega (arith, lt)) in
            let less : again.0 < k = (let h = again.1 in omega arith) in
            let r_small : again.0 < size = omega (arith, small) in
            let within : t * size + again.0 < length order = omega (arith, inside) in
            let is : get_or order (t * size + again.0) n ≡ n = sym (offset_at size order t again.0 n r_small) ∙ sym
            (get_or-take k (stretch size t order) again.0 n less) ∙ again.2 in
            let same : t * size + again.0 ≡ t * size + k = one_index (t * size + again.0) (t * size + k) within inside
            (same_at order (t * size + again.0) 0 n within ∙ is) in
            absurd (omega (arith, same, less)))
            (Contains-append_cases (joined_stretches size order before) (take k (stretch size t order)) (slice_index
            order (t * size + k)) c)

        entry_ready : IsReadyAfter plan (joined_stretches size order before ++ take k (stretch size t order))
            (slice_index (stretch size t order) k)
        entry_ready =
            let n = slice_index order (t * size + k) in
            let is : slice_index (stretch size t order) k ≡ n = offset_at size order t k 0 small in
            let was = legal_ready plan order legal (t * size + k) inside in
            let all = joined_stretches size order before ++ take k (stretch size t order) in
            subst (IsReadyAfter plan all) (sym is) (record {
              inside = was.inside;
              unvisited = stands_once;
              after = all_with (Contains (take (t * size + k) order)) (λ m. IsLinked stretches.edges (slice_index
                  made.table m) ((t * size + k) / size)) (Contains all)
                  stands_before (predecessors plan.edges n) was.after
                  (made.linked.links (t * size + k) inside (subst (λ u. u < stretches.count) (sym here) ready.inside));
            })

      all_ready : (before ks : List ℕ) → AreReady stretches before ks → AreReady plan (joined_stretches size order
          before) (joined_stretches size order ks)
      all_ready before [] h = tt
      all_ready before (k ∷ ks) h = ready_append plan (joined_stretches size order before) (stretch size k order)
          (joined_stretches size order ks)
          (ready_from plan (joined_stretches size order before) (stretch size k order) (entry_ready before k h.0))
          (subst (λ l. AreReady plan l (joined_stretches size order ks)) (joined_stretches-push size order before k)
          (all_ready (before ++ k ∷ []) ks h.1))

      pub joined_legal : (turns : List ℕ) → IsLegal stretches turns → IsLegal plan (joined_stretches size order turns)
      joined_legal turns l =
          let all = joined_stretches size order turns in
          let ready : (k : ℕ) → k < length all → IsReadyAfter plan (take k all) (slice_index all k) = ready_at plan []
          all (all_ready [] turns (ready_from stretches [] turns (legal_ready stretches turns l))) in
          record {
            each_once = record {
              nodes = ready_inside plan all ready;
              each = λ n lt.
                  let c = legal.each_once.each n lt in
                  let there : slice_index order c.0 ≡ n = same_at order c.0 0 n c.1 ∙ c.2 in
                  let below : c.0 / size < stretches.count = div_below c.0 size stretches.count positive (let e = c.1 in
                  let f = made.enough in omega arith) in
                  in_joined size order turns (c.0 / size) n (l.each_once.each (c.0 / size) below) (subst (Contains
                  (stretch size (c.0 / size) order)) there (in_stretch size order c.0 positive c.1));
              once = ready_apart plan all ready;
            };
            after = λ k lt. (ready k lt).after;
          }

-- the same of nodes
pub nodes_legal : (plan : Plan) (order : List NodeId) → IsLegal plan (numbers order) → (size : ℕ) → 0 < size →
    (stretches : Plan) → IsPlanOfStretches plan size (numbers order) stretches
    → (turns : List ℕ) → IsLegal stretches turns → (nodes : List NodeId) → nodes ≡ joined_stretches size order turns →
    IsLegal plan (numbers nodes)
nodes_legal plan order legal size positive stretches made turns l nodes is =
    subst (λ ns. IsLegal plan (numbers ns)) (sym is)
    (subst (IsLegal plan) (sym (joined_stretches-map (λ (n : NodeId). n.0) size order turns)) (joined_legal plan
    (numbers order) legal size positive stretches made turns l))

-- so an order that a receipt shows is legal, as the receipt's own is
pub shown_legal : (workers : ℕ) (plan : Plan) (order : List NodeId) (receipt : ReceiptView)
    → ShowsOrder workers plan order receipt → IsLegal receipt.plan (numbers receipt.order)
    → IsLegal plan (numbers order)
shown_legal workers plan order receipt s legal =
    nodes_legal plan s.base s.legal s.size s.positive receipt.plan s.planned
    (numbers receipt.order) legal order s.joined
