-- The other variations of a node are those that are wanted beside its own, each once and by spelling.
use Rattle.std.proofs.Common.{◌≡◌, ◌≢◌, ◌∙◌, ◌<◌, ◌||◌, ◌⊎◌, inl, inr, ℕ, zero, suc, Bool, true, false, cond}
use Rattle.std.proofs.Common.{List, [], ◌∷◌, fold, length, get_or, ap, arith, refl, sym}
use Rattle.std.specs.Prelude.{◌↔◌, Contains}
use Rattle.std.specs.List.{AllByRecursion, AllPairs, list_any}
use Rattle.std.specs.Ordering.{nat_cmp, is_eq, is_lt, ordering_reverse}
use Rattle.std.proofs.lemmas.Map.Text.{is_eq-slice_cmp}
use Rattle.std.specs.Cmp.Lexicographic.{slice_cmp, nat_list_cmp_total}
use Rattle.std.specs.declared.cmp.Ordering.{Ordering}
use Rattle.std.specs.declared.cmp.Ordering.TheVariants.{Less, Equal, Greater}
use Rattle.bp_faults.proofs.Lists.{same_bytes, Apart, pairs_apart}
use Rattle.graph_nodes.specs.declared.variation.Variation.{Variation}
use Rattle.graph_nodes.specs.Laws.{SameMeansEqual}
use Rattle.graph_nodes.specs.Names.{spelling}
use Rattle.graph_nodes.specs.Same.{same}
use Rattle.transition_rules.specs.Spelled.{is_spelled_before, list_with, FitsNumber}
use Rattle.transition_rules.specs.Wants.{wants_with, others_of}
use Rattle.transition_rules.proofs.Adding.{all_inserted, all_added_differ, has_wanted}
use Rattle.transition_rules.proofs.BySpelling.{all_stand}
use Rattle.transition_rules.proofs.Members.{Has, has_all, all_have}
use Rattle.transition_rules.proofs.Spellings.{same_spelled}

-- what holds of the variations so far and of all that are wanted holds of all
all_added : (Q : Variation → Type 0) (own others ws : List Variation) → AllByRecursion Q others → AllByRecursion Q ws
    → AllByRecursion Q (fold (wants_with own) others ws)
all_added Q own others [] h k = h
all_added Q own others (w ∷ ws) h k =
    all_added Q own (wants_with own others w) ws (by (list_any (same w) own || list_any (same w) others)) k.1
  where
    by : (b : Bool) → AllByRecursion Q (cond b others (list_with w others))
    by true = h
    by false = all_inserted Q w others k.0 h

all_apart : {A : Type 0} (R S T : A → A → Type 0) (Q : A → Type 0)
    → ((x y : A) → R x y → S x y → Q x → Q y → T x y) → (xs : List A) → Apart R xs → Apart S xs
    → AllByRecursion Q xs → Apart T xs
all_apart R S T Q imp [] r s q = tt
all_apart R S T Q imp (x ∷ xs) r s q = (later xs r.0 s.0 q.1, all_apart R S T Q imp xs r.1 s.1 q.1)
  where
    later : (ys : List _) → AllByRecursion (R x) ys → AllByRecursion (S x) ys → AllByRecursion Q ys
        → AllByRecursion (T x) ys
    later [] a b c = tt
    later (y ∷ ys) a b c = (imp x y a.0 b.0 q.0 c.0, later ys a.1 b.1 c.1)

-- of two variations that differ one is spelled first
one_first : (v w : Variation) → is_spelled_before w v ≡ false → v ≢ w → FitsNumber v → FitsNumber w
    → is_spelled_before v w ≡ true
one_first v w not_after differ fv fw = by (slice_cmp nat_cmp (spelling v) (spelling w)) refl
  where
    by : (o : Ordering) → slice_cmp nat_cmp (spelling v) (spelling w) ≡ o → is_lt o ≡ true
    by Less is = refl
    by Equal is =
        absurd (differ (same_spelled v w fv fw
        (same_bytes (spelling v) (spelling w) (sym (is_eq-slice_cmp (spelling v) (spelling w)) ∙ ap is_eq is))))
    by Greater is =
        let after : is_spelled_before w v ≡ true =
        ap is_lt (nat_list_cmp_total.antisymm (spelling w) (spelling v) ∙ ap ordering_reverse is) in
        absurd (true_false (sym after ∙ not_after))
      where
        true_false : ◌≡◌ {A = Bool} true false → ⊥
        true_false e = cc

pub others_rise : SameMeansEqual → (own ws : List Variation) → AllByRecursion FitsNumber ws
    → AllPairs (λ v w. is_spelled_before v w ≡ true) (others_of own ws)
others_rise means own ws fit =
    pairs_apart (λ v w. is_spelled_before v w ≡ true) (others_of own ws)
    (all_apart (λ v w. is_spelled_before w v ≡ false) (λ v w. v ≢ w) (λ v w. is_spelled_before v w ≡ true) FitsNumber
    one_first (others_of own ws) (all_stand own [] ws tt) (all_added_differ means own [] ws (tt, tt)).0
    (all_added FitsNumber own [] ws tt fit))

contains_has : (xs : List Variation) (x : Variation) → Contains xs x → Has xs x
contains_has [] x c = absurd (let lt = c.1 in omega arith)
contains_has (y ∷ ys) x c = by c.0 c.1 c.2 (λ j lt e. contains_has ys x (j, lt, e))
  where
    by : (k : ℕ) → k < length (y ∷ ys) → get_or (y ∷ ys) k x ≡ x
        → ((j : ℕ) → j < length ys → get_or ys j x ≡ x → Has ys x) → (y ≡ x) ⊎ Has ys x
    by zero lt e rest = inl e
    by (suc k) lt e rest = inr (rest k (omega arith) e)

has_contains : (xs : List Variation) (x : Variation) → Has xs x → Contains xs x
has_contains [] x has = absurd has
has_contains (y ∷ ys) x (inl e) = (zero, omega arith, e)
has_contains (y ∷ ys) x (inr has) = let c = has_contains ys x has in (suc c.0, let lt = c.1 in omega arith, c.2)

pub others_are_those_wanted : SameMeansEqual → (own ws : List Variation) (v : Variation)
    → Contains (others_of own ws) v ↔ (Contains ws v × (Contains own v → ⊥))
others_are_those_wanted means own ws v = (to, from)
  where
    differ : AllByRecursion (λ o. AllByRecursion (λ x. x ≢ o) own) (others_of own ws)
    differ = (all_added_differ means own [] ws (tt, tt)).1

    to : Contains (others_of own ws) v → Contains ws v × (Contains own v → ⊥)
    to c =
        let has = contains_has (others_of own ws) v c in (
          has_contains ws v (has_all (Has ws) (others_of own ws) v (all_added (Has ws) own [] ws tt (all_have ws)) has),
          λ mine. has_all (λ x. x ≢ v) own v
              (has_all (λ o. AllByRecursion (λ x. x ≢ o) own) (others_of own ws) v differ has) (contains_has own v mine)
              refl,
        )

    from : Contains ws v × (Contains own v → ⊥) → Contains (others_of own ws) v
    from h = by (has_wanted means own [] ws v (contains_has ws v h.0))
      where
        by : Has own v ⊎ Has (others_of own ws) v → Contains (others_of own ws) v
        by (inl mine) = absurd (h.1 (has_contains own v mine))
        by (inr other) = has_contains (others_of own ws) v other
