-- The parts of the rule of a board, from the rule.
use Rattle.std.proofs.Common.{◌≡◌, ◌+◌, ◌^◌, ◌<◌, ◌≤◌, ℕ, zero, suc, List, [], ◌∷◌, length, refl, arith, Option, None}
use Rattle.std.specs.Prelude.{slice_index, ◌↔◌}
use Rattle.std.specs.declared.sync.Arc.{Arc}
use Rattle.std.proofs.Math.Decide.{dec_lt}
use mathlib.Core.Option.{Option as Maybe, some}
use lib.ListN.{get_elem?}
use Rattle.atomic_table.specs.Table.{State}
use Rattle.serial_pass.specs.declared.plan.PlanEdge.{PlanEdge}
use Rattle.pass_core.specs.declared.published.Published.{Published}
use Rattle.serial_pass.specs.Results.{NodeResult}
use Rattle.ready_counters.specs.declared.view.View.{View}
use Rattle.ready_counters.specs.Edges.{left_from, edge_source}
use Rattle.ready_counters.specs.Meaning.{claimed_word, HasWord, HasEdge, IsFull, IsBoard}
use Rattle.ready_counters.specs.Parts.{HasEntries, HasCounts, HasStates, HasOrder, HasSlots, HasNumbers}
use Rattle.ready_counters.specs.Parts.{HasParts}
use Rattle.ready_counters.specs.Sums.{total_of, claims, opens, fills, subtractions, fetches, draws, uses}
use Rattle.ready_counters.specs.Views.{times}
use Rattle.ready_counters.proofs.Knowing.{is_taken, none_left, filled_drawn, drawn_claimed, subtracted_filled}
use Rattle.ready_counters.proofs.Left.{left_bound}

none_of : {V : Type 0} (f : V → ℕ) (vs : List V) → ((id : ℕ) (v : V) → get_elem? vs id ≡ some v → f v ≡ 0)
    → total_of f vs ≡ 0
none_of f [] h = refl
none_of f (v ∷ vs) h =
    let a = h 0 v refl in let b = none_of f vs (λ id u at. h (suc id) u at) in omega arith

-- the word of a counter
taken_word : (c w l : ℕ) → HasWord c w l → 1 ≤ c → w ≡ claimed_word
taken_word zero w l h le = absurd (omega arith)
taken_word (suc c) w l h le = h.0

free_word : (c w l : ℕ) → HasWord c w l → c ≡ 0 → w ≡ l
free_word zero w l h z = h
free_word (suc c) w l h z = absurd (omega arith)

module _ {O A : Type 0} where
  -- what the word of an edge tells, and its slot
  abbrev EdgeTells : ℕ → ℕ → ℕ → ℕ → Maybe (Maybe (Option (Arc (Published O) A))) → NodeResult O → Type 0
  EdgeTells o f r word home value =
      ((word ≡ 1) ↔ (1 ≤ o)) × ((word ≡ 2) ↔ ((1 ≤ f) × (r ≡ 0))) × ((word ≡ 3) ↔ ((1 ≤ f) × (1 ≤ r)))
      × ((word ≡ 0) ↔ ((o ≡ 0) × (f ≡ 0))) × (word ≡ 2 → IsFull value home) × (word ≡ 0 → home ≡ some (some None))

  edge_tells : (o f r word : ℕ) (home : Maybe (Maybe (Option (Arc (Published O) A)))) (value : NodeResult O)
      → HasEdge o f r word home value → o + f ≤ 1 → EdgeTells o f r word home value
  edge_tells (suc o) f r word home value h le = (
    (λ w. omega arith, λ k. h),
    (λ w. absurd (omega (arith, w, h)), λ k. absurd (let a = k.0 in omega (arith, a, le))),
    (λ w. absurd (omega (arith, w, h)), λ k. absurd (let a = k.0 in omega (arith, a, le))),
    (λ w. absurd (omega (arith, w, h)), λ k. absurd (let a = k.0 in omega (arith, a))),
    λ w. absurd (omega (arith, w, h)),
    λ w. absurd (omega (arith, w, h)),
  )
  edge_tells zero zero r word home value h le = let is = h.0 in (
    (λ w. absurd (omega (arith, w, is)), λ k. absurd (omega (arith, k))),
    (λ w. absurd (omega (arith, w, is)), λ k. absurd (let a = k.0 in omega (arith, a))),
    (λ w. absurd (omega (arith, w, is)), λ k. absurd (let a = k.0 in omega (arith, a))),
    (λ w. (refl, refl), λ k. is),
    λ w. absurd (omega (arith, w, is)),
    λ w. h.1,
  )
  edge_tells zero (suc f) zero word home value h le = let is = h.0 in (
    (λ w. absurd (omega (arith, w, is)), λ k. absurd (omega (arith, k))),
    (λ w. (omega arith, refl), λ k. is),
    (λ w. absurd (omega (arith, w, is)), λ k. absurd (let a = k.1 in omega (arith, a))),
    (λ w. absurd (omega (arith, w, is)), λ k. absurd (let a = k.1 in omega (arith, a))),
    λ w. h.1,
    λ w. absurd (omega (arith, w, is)),
  )
  edge_tells zero (suc f) (suc r) word home value h le = (
    (λ w. absurd (omega (arith, w, h)), λ k. absurd (omega (arith, k))),
    (λ w. absurd (omega (arith, w, h)), λ k. absurd (let a = k.1 in omega (arith, a))),
    (λ w. (omega arith, omega arith), λ k. h),
    (λ w. absurd (omega (arith, w, h)), λ k. absurd (let a = k.1 in omega (arith, a))),
    λ w. absurd (omega (arith, w, h)),
    λ w. absurd (omega (arith, w, h)),
  )

module _ {O A : Type 0} (count : ℕ) (edges : List PlanEdge) (result : ℕ → NodeResult O)
    (s : State (Option (Arc (Published O) A)) View) (holds : IsBoard count edges result s)
    (few : length edges < 2 ^ 32) where
  drawn_once : (n : ℕ) → draws s.views n ≤ 1
  drawn_once n =
      let a = drawn_claimed count edges result s holds n in let b = holds.counters.once n in omega (arith, a, b)

  -- an edge is open or filled at most once in all
  open_or_filled : (e : ℕ) → opens s.views e + fills s.views e ≤ 1
  open_or_filled e = by (dec_lt e (length edges))
    where
      none : length edges ≤ e → (id : ℕ) (v : View) → get_elem? s.views id ≡ some v
          → times e v.opened + times e v.filled + times e v.fetched ≡ 0
      none le id v at = (holds.seats id v at).ends e le

      by : Dec (e < length edges) → opens s.views e + fills s.views e ≤ 1
      by (yes lt) =
          let a = filled_drawn count edges result s holds e lt in let b = drawn_once (edge_source edges e) in
          omega (arith, a, b)
      by (no ge) =
          let le : length edges ≤ e = omega arith in
          let a = none_of (λ (v : View). times e v.opened) s.views
          (λ id v at. let z = none le id v at in omega (arith, z)) in
          let b = none_of (λ (v : View). times e v.filled) s.views
          (λ id v at. let z = none le id v at in omega (arith, z)) in
          omega (arith, a, b)

  tells : (e : ℕ) → e < length edges → EdgeTells (opens s.views e) (fills s.views e) (fetches s.views e)
      (slice_index s.words (count + e)) (get_elem? s.homes e) (result e)
  tells e lt = edge_tells (opens s.views e) (fills s.views e) (fetches s.views e) (slice_index s.words (count + e))
      (get_elem? s.homes e) (result e) (holds.states.words e lt) (open_or_filled e)

  entries : HasEntries count edges s.views
  entries = record {
    nodes = λ id v at n le. node id v at n le (dec_lt n count);
    ends = λ id v at e le. end id v at e le (dec_lt e (length edges));
    claimed_once = holds.counters.once;
    opened_once = λ e. let a = open_or_filled e in omega (arith, a);
    filled_once = λ e. let a = open_or_filled e in omega (arith, a);
    subtracted_once = λ e. let a = open_or_filled e in let b = subtracted_filled count edges result s holds e in
        omega (arith, a, b);
    fetched_once = λ e. let a = open_or_filled e in let b = holds.states.order e in omega (arith, a, b);
    weighed = holds.weighed;
    joined = λ id v at z. (holds.seats id v at).idle z;
  }
    where
      node : (id : ℕ) (v : View) → get_elem? s.views id ≡ some v → (n : ℕ) → 1 ≤ times n v.claimed
          → Dec (n < count) → n < count
      node id v at n le (yes lt) = lt
      node id v at n le (no ge) =
          let z = (holds.seats id v at).nodes n (omega arith) in absurd (omega (arith, le, z))

      end : (id : ℕ) (v : View) → get_elem? s.views id ≡ some v → (e : ℕ)
          → 1 ≤ times e v.opened + times e v.filled + times e v.subtracted + times e v.fetched
          → Dec (e < length edges) → e < length edges
      end id v at e le (yes lt) = lt
      end id v at e le (no ge) =
          let z = (holds.seats id v at).ends e (omega arith) in let b = (holds.seats id v at).subtracted e in
          absurd (omega (arith, le, z, b))

  abbrev left : ℕ → ℕ
  left n = left_from (subtractions s.views) 0 edges n

  word_of : (n : ℕ) → n < count
      → HasWord (claims s.views n) (slice_index s.words n) (left_from (subtractions s.views) 0 edges n)
  word_of n lt = holds.counters.words n lt

  counts : HasCounts count edges s.words s.views
  counts = record {
    taken = λ n lt. (
      λ w. (is_taken (claims s.views n) (slice_index s.words n) (left n) (word_of n lt)
          (let a = left_bound (subtractions s.views) 0 edges n in omega (arith, a, few)) w).0,
      λ le. taken_word (claims s.views n) (slice_index s.words n) (left n) (word_of n lt) le,
    );
    free = λ n lt z. free_word (claims s.views n) (slice_index s.words n) (left n) (word_of n lt) z;
  }

  states : HasStates count edges s.words s.views
  states = record {
    writing = λ e lt. (tells e lt).0;
    full = λ e lt. (tells e lt).1;
    reading = λ e lt. (tells e lt).2;
    empty = λ e lt. (tells e lt).3;
  }

  order : (id : ℕ) (v : View) → get_elem? s.views id ≡ some v → HasOrder edges v
  order id v at = let h = holds.seats id v at in record {
    subtracted = λ e le. let a = h.subtracted e in omega (arith, a, le);
    sourced = λ e lt le. let a = h.sourced e lt in omega (arith, a, le);
    drawn = λ n le. let a = h.drawn n in omega (arith, a, le);
    gathered = λ e lt le. let a = h.gathered e lt in omega (arith, a, le);
    targeted = λ e lt le. let a = h.targeted e lt in omega (arith, a, le);
  }

  slots : HasSlots count edges result s.words s.homes
  slots = record { full = λ e lt. (tells e lt).4; empty = λ e lt. (tells e lt).5 }

  numbers : HasNumbers count edges (slice_index s.words (count + length edges)) s.views
  numbers = record {
    counted = holds.tickets.counted;
    once = drawn_once;
    differ = λ k. by_word k (dec_lt k word);
    below = λ k le. below_word k le (dec_lt k word);
    rises = holds.tickets.rises;
  }
    where
      word : ℕ
      word = slice_index s.words (count + length edges)

      by_word : (k : ℕ) → Dec (k < word) → uses s.views k ≤ 1
      by_word k (yes lt) = let a = holds.tickets.below k lt in omega (arith, a)
      by_word k (no ge) = let a = holds.tickets.above k (omega arith) in omega (arith, a)

      below_word : (k : ℕ) → 1 ≤ uses s.views k → Dec (k < word) → k < word
      below_word k le (yes lt) = lt
      below_word k le (no ge) = let a = holds.tickets.above k (omega arith) in absurd (omega (arith, a, le))

  pub has_parts : HasParts count edges result s
  has_parts = record {
    entries = entries;
    counters = counts;
    claims = λ n lt le. none_left (claims s.views n) (slice_index s.words n) (left n) (word_of n lt) le;
    states = states;
    order = order;
    slots = slots;
    tickets = numbers;
  }
