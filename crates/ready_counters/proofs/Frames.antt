-- What a change at one word and in one view leaves as it was.
use Rattle.std.proofs.Common.{◌≡◌, ◌+◌, ◌<◌, ◌≤◌, ℕ, List, length, length-set, set, get_or-set_same, get_or-set_other}
use Rattle.std.proofs.Common.{refl, ap, arith, ◌∙◌, sym, subst, ⊎_elim, Option}
use Rattle.std.specs.Prelude.{slice_index}
use Rattle.std.specs.declared.sync.Arc.{Arc}
use mathlib.Core.Option.{Option as Maybe, some}
use mathlib.Core.Logic.{dite}
use native.Mathlib.Decide.{ℕ_discrete}
use lib.ListN.{get_elem?}
use Rattle.atomic_table.specs.Table.{State}
use Rattle.atomic_table.proofs.Lists.{at_set}
use Rattle.serial_pass.specs.declared.plan.PlanEdge.{PlanEdge}
use Rattle.pass_core.specs.declared.published.Published.{Published}
use Rattle.serial_pass.specs.Results.{NodeResult}
use Rattle.ready_counters.specs.declared.view.View.{View}
use Rattle.ready_counters.specs.Meaning.{HasWord, IsView, HasCounters, HasTickets, HasEdge, HasEdges, IsBoard}
use Rattle.ready_counters.specs.Sums.{claims, opens, fills, subtractions, fetches, draws, drawn_numbers, uses}
use Rattle.ready_counters.specs.Views.{times, tickets_for, ticket_number, tickets_with}
use Rattle.ready_counters.proofs.Sums.{sum_same}
use Rattle.ready_counters.proofs.Left.{left_same}

pub word_same : (c c' w w' l l' : ℕ) → c' ≡ c → w' ≡ w → l' ≡ l → HasWord c w l → HasWord c' w' l'
word_same c c' w w' l l' a b d h =
    subst (λ x. HasWord c' w' x) (sym d) (subst (λ x. HasWord c' x l) (sym b) (subst (λ x. HasWord x w l) (sym a) h))

module _ (count : ℕ) (edges : List PlanEdge) where
  pub counters_same : (c c' k k' s s' : ℕ → ℕ) → ((n : ℕ) → n < count → c' n ≡ c n) → ((n : ℕ) → k' n ≡ k n)
      → ((e : ℕ) → s' e ≡ s e) → HasCounters count edges c k s → HasCounters count edges c' k' s'
  counters_same c c' k k' s s' a b d h = record {
    once = λ n. subst (λ x. x ≤ 1) (sym (b n)) (h.once n);
    words = λ n l. word_same _ _ _ _ _ _ (b n) (a n l) (left_same s s' edges n d) (h.words n l);
  }

  pub tickets_same : (w w' : ℕ) (d d' m m' u u' : ℕ → ℕ) → w' ≡ w → ((n : ℕ) → d' n ≡ d n) → ((n : ℕ) → m' n ≡ m n)
      → ((n : ℕ) → u' n ≡ u n) → HasTickets count edges w d m u → HasTickets count edges w' d' m' u'
  tickets_same w w' d d' m m' u u' a b c e h =
      subst (λ x. HasTickets count edges x d' m' u') (sym a)
      (subst (λ x. HasTickets count edges w x m' u') (λ i n. sym (b n) i)
      (subst (λ x. HasTickets count edges w d x u') (λ i n. sym (c n) i)
      (subst (λ x. HasTickets count edges w d m x) (λ i n. sym (e n) i) h)))

module _ {O A : Type 0} where
  pub edge_same : (o o' f f' r r' w w' : ℕ) (h h' : Maybe (Maybe (Option (Arc (Published O) A)))) (v : NodeResult O)
      → o' ≡ o → f' ≡ f → r' ≡ r → w' ≡ w → h' ≡ h → HasEdge o f r w h v → HasEdge o' f' r' w' h' v
  edge_same o o' f f' r r' w w' h h' v a b c d e has =
      subst (λ x. HasEdge o' f' r' w' x v) (sym e)
      (subst (λ x. HasEdge o' f' r' x h v) (sym d)
      (subst (λ x. HasEdge o' f' x w h v) (sym c)
      (subst (λ x. HasEdge o' x r w h v) (sym b) (subst (λ x. HasEdge x f r w h v) (sym a) has))))

  pub edges_same : (many : ℕ) (result : ℕ → NodeResult O) (s s' : ℕ → ℕ)
      (h h' : ℕ → Maybe (Maybe (Option (Arc (Published O) A)))) (o o' f f' r r' : ℕ → ℕ)
      → ((e : ℕ) → e < many → s' e ≡ s e) → ((e : ℕ) → h' e ≡ h e) → ((e : ℕ) → o' e ≡ o e) → ((e : ℕ) → f' e ≡ f e)
      → ((e : ℕ) → r' e ≡ r e)
      → HasEdges many result s h o f r → HasEdges many result s' h' o' f' r'
  edges_same many result s s' h h' o o' f f' r r' a b c d e has = record {
    order = λ x. let p = d x in let q = e x in let t = has.order x in omega arith;
    words = λ x l. edge_same _ _ _ _ _ _ _ _ _ _ _ (c x) (d x) (e x) (a x l) (b x) (has.words x l);
  }

  module _ (count : ℕ) (edges : List PlanEdge) (result : ℕ → NodeResult O)
      (s : State (Option (Arc (Published O) A)) View) (holds : IsBoard count edges result s) (id : ℕ) (v w : View)
      (here : get_elem? s.views id ≡ some v) where
    -- what the whole rule asks beside the three parts
    pub kept : IsView count edges w → w.weight ≡ v.weight → (words : List ℕ) → length words ≡ length s.words
        → (homes : List (Maybe (Option (Arc (Published O) A)))) → length homes ≡ length s.homes
        → HasCounters count edges (slice_index words) (claims (set s.views id w)) (subtractions (set s.views id w))
        → HasEdges (length edges) result (λ e. slice_index words (count + e)) (get_elem? homes)
        (opens (set s.views id w)) (fills (set s.views id w)) (fetches (set s.views id w))
        → HasTickets count edges (slice_index words (count + length edges)) (draws (set s.views id w))
        (drawn_numbers (set s.views id w)) (uses (set s.views id w))
        → IsBoard count edges result record { words = words; homes = homes; views = set s.views id w }
    kept is heavy words many homes long counters states tickets = record {
      many_words = many ∙ holds.many_words;
      many_slots = long ∙ holds.many_slots;
      weighed = sum_same (λ (u : View). u.weight) s.views id v w here heavy ∙ holds.weighed;
      seats = λ j u at. ⊎_elim (λ t. subst (λ (x : View). IsView count edges x) t.1 is) (λ t. holds.seats j u t.1)
          (at_set s.views id j w u at);
      counters = counters;
      states = states;
      tickets = tickets;
    }

    counters_kept : (words : List ℕ) → ((n : ℕ) → n < count → slice_index words n ≡ slice_index s.words n)
        → w.claimed ≡ v.claimed → w.subtracted ≡ v.subtracted
        → HasCounters count edges (slice_index words) (claims (set s.views id w)) (subtractions (set s.views id w))
    counters_kept words same c d = counters_same count edges _ _ _ _ _ _ same
        (λ n. sum_same (λ (u : View). times n u.claimed) s.views id v w here (ap (times n) c))
        (λ e. sum_same (λ (u : View). times e u.subtracted) s.views id v w here (ap (times e) d)) holds.counters

    edges_kept : (words : List ℕ)
        → ((e : ℕ) → e < length edges → slice_index words (count + e) ≡ slice_index s.words (count + e))
        → w.opened ≡ v.opened → w.filled ≡ v.filled → w.fetched ≡ v.fetched
        → HasEdges (length edges) result (λ e. slice_index words (count + e)) (get_elem? s.homes)
        (opens (set s.views id w)) (fills (set s.views id w)) (fetches (set s.views id w))
    edges_kept words same a b c =
        edges_same (length edges) result (λ e. slice_index s.words (count + e)) (λ e. slice_index words (count + e))
        (get_elem? s.homes) (get_elem? s.homes) _ _ _ _ _ _ same (λ e. refl)
        (λ e. sum_same (λ (u : View). times e u.opened) s.views id v w here (ap (times e) a))
        (λ e. sum_same (λ (u : View). times e u.filled) s.views id v w here (ap (times e) b))
        (λ e. sum_same (λ (u : View). times e u.fetched) s.views id v w here (ap (times e) c)) holds.states

    tickets_kept : (words : List ℕ)
        → slice_index words (count + length edges) ≡ slice_index s.words (count + length edges) → w.tickets ≡ v.tickets
        → HasTickets count edges (slice_index words (count + length edges)) (draws (set s.views id w))
        (drawn_numbers (set s.views id w)) (uses (set s.views id w))
    tickets_kept words same t = tickets_same count edges _ _ _ _ _ _ _ _ same
        (λ n. sum_same (λ (u : View). tickets_for n u.tickets) s.views id v w here (ap (tickets_for n) t))
        (λ n. sum_same (λ (u : View). ticket_number n u.tickets) s.views id v w here (ap (ticket_number n) t))
        (λ n. sum_same (λ (u : View). tickets_with n u.tickets) s.views id v w here
        (ap (tickets_with n) t)) holds.tickets

    -- a change at one node's counter
    pub at_node : IsView count edges w → w.weight ≡ v.weight → w.opened ≡ v.opened → w.filled ≡ v.filled
        → w.fetched ≡ v.fetched → w.tickets ≡ v.tickets → (n x : ℕ) → n < count
        → HasCounters count edges (slice_index (set s.words n x)) (claims (set s.views id w))
        (subtractions (set s.views id w))
        → IsBoard count edges result record { words = set s.words n x; homes = s.homes; views = set s.views id w }
    at_node is heavy a b c t n x l counters =
        kept is heavy (set s.words n x) (length-set s.words n x) s.homes refl counters
        (edges_kept (set s.words n x) (λ e le. get_or-set_other s.words n (count + e) x 0 (λ same. omega arith)) a b c)
        (tickets_kept (set s.words n x) (get_or-set_other s.words n (count + length edges) x 0 (λ same. omega arith)) t)

    -- a change at one edge's word and slot
    pub at_edge : IsView count edges w → w.weight ≡ v.weight → w.claimed ≡ v.claimed → w.subtracted ≡ v.subtracted
        → w.tickets ≡ v.tickets
        → (e x : ℕ) → e < length edges
        → ((y : ℕ) → (y ≡ e → ⊥) → times y w.opened ≡ times y v.opened)
        → ((y : ℕ) → (y ≡ e → ⊥) → times y w.filled ≡ times y v.filled)
        → ((y : ℕ) → (y ≡ e → ⊥) → times y w.fetched ≡ times y v.fetched)
        → (homes : List (Maybe (Option (Arc (Published O) A)))) → length homes ≡ length s.homes
        → ((y : ℕ) → (y ≡ e → ⊥) → get_elem? homes y ≡ get_elem? s.homes y)
        → fetches (set s.views id w) e ≤ fills (set s.views id w) e
        → HasEdge (opens (set s.views id w) e) (fills (set s.views id w) e) (fetches (set s.views id w) e) x
        (get_elem? homes e) (result e)
        → IsBoard count edges result record {
          words = set s.words (count + e) x;
          homes = homes;
          views =
              set s.views id w;
        }
    at_edge is heavy c d t e x l opened_else filled_else fetched_else homes long others order has =
        let many : count + e < length s.words = subst (λ k. count + e < k) (sym holds.many_words) (omega arith) in
        kept is heavy (set s.words (count + e) x) (length-set s.words (count + e) x) homes long
        (counters_kept (set s.words (count + e) x)
        (λ n ln. get_or-set_other s.words (count + e) n x 0 (λ same. omega arith)) c d)
        (record {
          order = λ y. dite (ℕ_discrete y e)
              (λ same. subst (λ z. fetches (set s.views id w) z ≤ fills (set s.views id w) z) (sym same) order)
              (λ ne. let a = sum_same (λ (u : View). times y u.fetched) s.views id v w here (fetched_else y ne) in
              let b = sum_same (λ (u : View). times y u.filled) s.views id v w here (filled_else y ne) in
              let h = holds.states.order y in omega arith);
          words = λ y ly. dite (ℕ_discrete y e)
              (λ same. subst (λ z. HasEdge (opens (set s.views id w) z) (fills (set s.views id w) z)
              (fetches (set s.views id w) z) (slice_index (set s.words (count + e) x) (count + z))
              (get_elem? homes z) (result z)) (sym same)
              (subst (λ z. HasEdge (opens (set s.views id w) e) (fills (set s.views id w) e)
              (fetches (set s.views id w) e) z (get_elem? homes e) (result e))
              (sym (get_or-set_same s.words (count + e) x 0 many)) has))
              (λ ne. edge_same _ _ _ _ _ _ _ _ _ _ _
              (sum_same (λ (u : View). times y u.opened) s.views id v w here (opened_else y ne))
              (sum_same (λ (u : View). times y u.filled) s.views id v w here (filled_else y ne))
              (sum_same (λ (u : View). times y u.fetched) s.views id v w here (fetched_else y ne))
              (get_or-set_other s.words (count + e) (count + y) x 0 (λ same. ne (omega arith))) (others y ne)
              (holds.states.words y ly));
        })
        (tickets_kept (set s.words (count + e) x)
        (get_or-set_other s.words (count + e) (count + length edges) x 0 (λ same. omega arith)) t)

    -- a change at the ticket word
    pub at_ticket : IsView count edges w → w.weight ≡ v.weight → w.claimed ≡ v.claimed → w.opened ≡ v.opened
        → w.filled ≡ v.filled → w.subtracted ≡ v.subtracted → w.fetched ≡ v.fetched → (x : ℕ)
        → HasTickets count edges x (draws (set s.views id w)) (drawn_numbers (set s.views id w))
        (uses (set s.views id w))
        → IsBoard count edges result record {
          words = set s.words (count + length edges) x;
          homes = s.homes;
          views =
              set s.views id w;
        }
    at_ticket is heavy k a b d c x tickets =
        let many : count + length edges < length s.words =
        subst (λ z. count + length edges < z) (sym holds.many_words) (omega arith) in
        kept is heavy (set s.words (count + length edges) x) (length-set s.words (count + length edges) x) s.homes refl
        (counters_kept (set s.words (count + length edges) x)
        (λ n ln. get_or-set_other s.words (count + length edges) n x 0 (λ same. omega arith)) k d)
        (edges_kept (set s.words (count + length edges) x)
        (λ e le. get_or-set_other s.words (count + length edges) (count + e) x 0 (λ same. omega arith)) a b c)
        (subst (λ z. HasTickets count edges z (draws (set s.views id w)) (drawn_numbers (set s.views id w))
        (uses (set s.views id w))) (sym (get_or-set_same s.words (count + length edges) x 0 many)) tickets)
