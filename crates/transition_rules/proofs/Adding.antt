-- What the other variations of a node are: each wanted one is there or is the node's own, and all differ.
use Rattle.std.proofs.Common.{◌≡◌, ◌≢◌, ◌++◌, ◌||◌, ◌⊎◌, inl, inr, Bool, true, false, cond, List, [], ◌∷◌, fold, refl}
use Rattle.std.proofs.Common.{sym, subst}
use Rattle.std.specs.List.{AllByRecursion, list_any}
use Rattle.bp_faults.proofs.Lists.{all_map, Apart, apart_append}
use Rattle.graph_nodes.specs.Laws.{SameMeansEqual}
use Rattle.graph_nodes.specs.declared.variation.Variation.{Variation}
use Rattle.graph_nodes.specs.Same.{same}
use Rattle.transition_rules.specs.Spelled.{is_spelled_before, list_with}
use Rattle.transition_rules.specs.Wants.{wants_with, others_of}
use Rattle.transition_rules.proofs.Members.{Has, none_same, any_same}

pub all_inserted : (Q : Variation → Type 0) (w : Variation) (xs : List Variation) → Q w → AllByRecursion Q xs
    → AllByRecursion Q (list_with w xs)
all_inserted Q w [] here h = (here, tt)
all_inserted Q w (x ∷ xs) here h = by (is_spelled_before w x) (all_inserted Q w xs here h.1)
  where
    by : (b : Bool) → AllByRecursion Q (list_with w xs) → AllByRecursion Q (cond b (w ∷ x ∷ xs) (x ∷ list_with w xs))
    by true rest = (here, (h.0, h.1))
    by false rest = (h.0, rest)

apart_inserted : (w : Variation) (xs : List Variation) → AllByRecursion (λ x. w ≢ x) xs → Apart (λ x y. x ≢ y) xs
    → Apart (λ x y. x ≢ y) (list_with w xs)
apart_inserted w [] new h = (tt, tt)
apart_inserted w (x ∷ xs) new h = by (is_spelled_before w x) (apart_inserted w xs new.1 h.1)
  where
    by : (b : Bool) → Apart (λ x y. x ≢ y) (list_with w xs)
        → Apart (λ x y. x ≢ y) (cond b (w ∷ x ∷ xs) (x ∷ list_with w xs))
    by true rest = (new, h)
    by false rest = (all_inserted (λ y. x ≢ y) w xs (λ e. new.0 (sym e)) h.0, rest)

has_inserted : (w : Variation) (xs : List Variation) → Has (list_with w xs) w
has_inserted w [] = inl refl
has_inserted w (x ∷ xs) = by (is_spelled_before w x) (has_inserted w xs)
  where
    by : (b : Bool) → Has (list_with w xs) w → Has (cond b (w ∷ x ∷ xs) (x ∷ list_with w xs)) w
    by true rest = inl refl
    by false rest = inr rest

kept_inserted : (w : Variation) (xs : List Variation) (v : Variation) → Has xs v → Has (list_with w xs) v
kept_inserted w [] v has = absurd has
kept_inserted w (x ∷ xs) v has = by (is_spelled_before w x) has (kept_inserted w xs v)
  where
    by : (b : Bool) → (x ≡ v) ⊎ Has xs v → (Has xs v → Has (list_with w xs) v)
        → Has (cond b (w ∷ x ∷ xs) (x ∷ list_with w xs)) v
    by true h rest = inr h
    by false (inl e) rest = inl e
    by false (inr h) rest = inr (rest h)

-- they differ from each other and from the node's own
abbrev Differ : List Variation → List Variation → Type 0
Differ own others = Apart (λ x y. x ≢ y) others × AllByRecursion (λ o. AllByRecursion (λ x. x ≢ o) own) others

all_turned : (own others : List Variation) → AllByRecursion (λ o. AllByRecursion (λ x. x ≢ o) own) others
    → AllByRecursion (λ x. AllByRecursion (λ o. x ≢ o) others) own
all_turned [] others h = tt
all_turned (x ∷ own) others h = (
  all_map (λ o. AllByRecursion (λ x. x ≢ o) (x ∷ own)) (λ o. x ≢ o) (λ o k. k.0) others h,
  all_turned own others
      (all_map (λ o. AllByRecursion (λ x. x ≢ o) (x ∷ own)) (λ o. AllByRecursion (λ x. x ≢ o) own)
      (λ o k. k.1) others h),
)

kept_added : (own others : List Variation) (w v : Variation) → Has others v → Has (wants_with own others w) v
kept_added own others w v has = by (list_any (same w) own || list_any (same w) others)
  where
    by : (b : Bool) → Has (cond b others (list_with w others)) v
    by true = has
    by false = kept_inserted w others v has

kept_all : (own others ws : List Variation) (v : Variation) → Has others v → Has (fold (wants_with own) others ws) v
kept_all own others [] v has = has
kept_all own others (w ∷ ws) v has = kept_all own (wants_with own others w) ws v (kept_added own others w v has)

module _ (means : SameMeansEqual) where
  not_same : (w x : Variation) → same w x ≡ false → w ≢ x
  not_same w x h e = let t : same w x ≡ true = (means w x).1 e in cc

  added_differ : (own others : List Variation) (w : Variation) → Differ own others
      → Differ own (wants_with own others w)
  added_differ own others w h = by (list_any (same w) own) (list_any (same w) others) refl refl
    where
      by : (a b : Bool) → list_any (same w) own ≡ a → list_any (same w) others ≡ b
          → Differ own (cond (a || b) others (list_with w others))
      by true b p q = h
      by false true p q = h
      by false false p q = (
        apart_inserted w others
            (all_map (λ x. same w x ≡ false) (λ x. w ≢ x) (λ x f. not_same w x f) others (none_same w others q)) h.0,
        all_inserted (λ o. AllByRecursion (λ x. x ≢ o) own) w others
            (all_map (λ x. same w x ≡ false) (λ x. x ≢ w) (λ x f e. not_same w x f (sym e)) own
            (none_same w own p)) h.1,
      )

  pub all_added_differ : (own others ws : List Variation) → Differ own others
      → Differ own (fold (wants_with own) others ws)
  all_added_differ own others [] h = h
  all_added_differ own others (w ∷ ws) h =
      all_added_differ own (wants_with own others w) ws (added_differ own others w h)

  -- the variations of a node differ where its own do
  pub variations_differ : (own ws : List Variation) → Apart (λ x y. x ≢ y) own
      → Apart (λ x y. x ≢ y) (own ++ others_of own ws)
  variations_differ own ws h =
      let d = all_added_differ own [] ws (tt, tt) in
      apart_append (λ x y. x ≢ y) own (others_of own ws) h d.0 (all_turned own (others_of own ws) d.1)

  has_added : (own others : List Variation) (w : Variation) → Has own w ⊎ Has (wants_with own others w) w
  has_added own others w = by (list_any (same w) own) (list_any (same w) others) refl refl
    where
      by : (a b : Bool) → list_any (same w) own ≡ a → list_any (same w) others ≡ b
          → Has own w ⊎ Has (cond (a || b) others (list_with w others)) w
      by true b p q = inl (any_same means w own p)
      by false true p q = inr (any_same means w others q)
      by false false p q = inr (has_inserted w others)

  -- each wanted one is there or is the node's own
  pub has_wanted : (own others ws : List Variation) (w : Variation) → Has ws w
      → Has own w ⊎ Has (fold (wants_with own) others ws) w
  has_wanted own others [] w has = absurd has
  has_wanted own others (x ∷ ws) w (inl e) = by (has_added own others x)
    where
      by : Has own x ⊎ Has (wants_with own others x) x → Has own w ⊎ Has (fold (wants_with own) others (x ∷ ws)) w
      by (inl h) = inl (subst (Has own) e h)
      by (inr h) = inr (kept_all own (wants_with own others x) ws w (subst (Has (wants_with own others x)) e h))
  has_wanted own others (x ∷ ws) w (inr has) = has_wanted own (wants_with own others x) ws w has
