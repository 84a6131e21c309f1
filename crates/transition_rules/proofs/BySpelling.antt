-- The other variations of a node stand by their spelling.
use Rattle.std.proofs.Common.{◌≡◌, ◌||◌, ◌∙◌, Bool, true, false, cond, List, [], ◌∷◌, fold, ap, refl}
use Rattle.std.specs.List.{list_any}
use Rattle.std.specs.Ordering.{nat_cmp, is_lt, ordering_reverse}
use Rattle.std.specs.Cmp.Lexicographic.{slice_cmp, nat_list_cmp_total}
use Rattle.std.specs.declared.cmp.Ordering.{Ordering}
use Rattle.std.specs.declared.cmp.Ordering.TheVariants.{Less, Equal, Greater}
use Rattle.bp_faults.proofs.Lists.{all_map, Apart}
use Rattle.graph_nodes.specs.declared.variation.Variation.{Variation}
use Rattle.graph_nodes.specs.Names.{spelling}
use Rattle.graph_nodes.specs.Same.{same}
use Rattle.transition_rules.specs.Spelled.{is_spelled_before, list_with}
use Rattle.transition_rules.specs.Wants.{wants_with}
use Rattle.transition_rules.proofs.Adding.{all_inserted}

less_if : (o : Ordering) → is_lt o ≡ true → o ≡ Less
less_if Less h = refl
less_if Equal h = cc
less_if Greater h = cc

not_true : (b : Bool) → (b ≡ true → ⊥) → b ≡ false
not_true true h = absurd (h refl)
not_true false h = refl

true_false : (b : Bool) → b ≡ true → b ≡ false → ⊥
true_false b p q = cc

not_after : (v w : Variation) → is_spelled_before v w ≡ true → is_spelled_before w v ≡ false
not_after v w h =
    ap is_lt (nat_list_cmp_total.antisymm (spelling w) (spelling v)
    ∙ ap ordering_reverse (less_if (slice_cmp nat_cmp (spelling v) (spelling w)) h))

before_first : (w x y : Variation) → is_spelled_before w x ≡ true → is_spelled_before y x ≡ false
    → is_spelled_before y w ≡ false
before_first w x y wx yx =
    not_true (is_spelled_before y w) (λ yw. true_false (is_spelled_before y x)
    (ap is_lt (nat_list_cmp_total.trans (spelling y) (spelling w) (spelling x) (less_if (slice_cmp nat_cmp (spelling y)
    (spelling w)) yw) (less_if (slice_cmp nat_cmp (spelling w) (spelling x)) wx))) yx)

abbrev Stand : List Variation → Type 0
Stand xs = Apart (λ v w. is_spelled_before w v ≡ false) xs

inserted_stand : (w : Variation) (xs : List Variation) → Stand xs → Stand (list_with w xs)
inserted_stand w [] h = (tt, tt)
inserted_stand w (x ∷ xs) h = by (is_spelled_before w x) refl (inserted_stand w xs h.1)
  where
    by : (b : Bool) → is_spelled_before w x ≡ b → Stand (list_with w xs)
        → Stand (cond b (w ∷ x ∷ xs) (x ∷ list_with w xs))
    by true wx rest = (
      (
        not_after w x wx,
        all_map (λ y. is_spelled_before y x ≡ false) (λ y. is_spelled_before y w ≡ false)
            (λ y yx. before_first w x y wx yx) xs h.0,
      ),
      h,
    )
    by false wx rest = (all_inserted (λ y. is_spelled_before y x ≡ false) w xs wx h.0, rest)

added_stand : (own others : List Variation) (w : Variation) → Stand others → Stand (wants_with own others w)
added_stand own others w h = by (list_any (same w) own || list_any (same w) others)
  where
    by : (b : Bool) → Stand (cond b others (list_with w others))
    by true = h
    by false = inserted_stand w others h

pub all_stand : (own others ws : List Variation) → Apart (λ v w. is_spelled_before w v ≡ false) others
    → Apart (λ v w. is_spelled_before w v ≡ false) (fold (wants_with own) others ws)
all_stand own others [] h = h
all_stand own others (w ∷ ws) h = all_stand own (wants_with own others w) ws (added_stand own others w h)
