-- Modules expand to one thing alone.
use Rattle.std.proofs.Common.{◌≡◌, ◌<◌, ◌⊎◌, inl, inr, ℕ, zero, suc, Bool, true, false, List, [], ◌∷◌, length, get_or}
use Rattle.std.proofs.Common.{refl, sym, ◌∙◌}
use Rattle.std.proofs.Common.{subst, ap, arith}
use Rattle.std.specs.Prelude.{Ok, Err}
use Rattle.std.specs.declared.cmp.Ordering.{Ordering}
use Rattle.std.specs.declared.cmp.Ordering.TheVariants.{Less, Equal}
use Rattle.std.specs.Cmp.{IsTotalOrder}
use Rattle.std.specs.Cmp.Lexicographic.{slice_cmp, nat_list_cmp_total}
use Rattle.std.specs.Ordering.{nat_cmp}
use Rattle.std.specs.List.{Contains}
use Rattle.std.specs.List.Sorted.{IsStrictlySortedBy}
use Rattle.std.proofs.lemmas.Cmp.{tied_itself}
use Rattle.std.proofs.lemmas.List.Elements.{All-contains}
use Rattle.std.proofs.lemmas.Map.Keys.{sorted_tail}
use Rattle.std.proofs.lemmas.Map.Views.{All-after_first}
use Rattle.bp_faults.specs.Phases.{IsOnce, Then}
use Rattle.bp_faults.proofs.Phases.{value_once, then_once, phase_once}
use Rattle.bp_props.specs.declared.fields.GroupProps.{GroupProps}
use Rattle.bp_props.specs.declared.group_id.GroupId.{GroupId}
use Rattle.bp_props.specs.declared.module.Module.{Module}
use Rattle.bp_props.specs.declared.props.Props.{Props}
use Rattle.bp_props.specs.declared.source.Source.{Source}
use Rattle.path_patterns.specs.Matches.{AreMatches}
use Rattle.source_patterns.specs.Patterns.{is_pattern, tail_of, FoundMeans}
use Rattle.source_patterns.specs.Items.{items_within, with_matches, PatternMeans, SourceMeans, ItemMeans, ItemsMean}
use Rattle.source_patterns.specs.Expansion.{group_with_sources, props_with_groups, GroupMeans, KeyedGroupMeans}
use Rattle.source_patterns.specs.Expansion.{GroupsMean, PropsMean, ModuleMeans, ExpandMeans}

-- The list has the element.
abbrev Among : {X : Type 0} → List X → X → Type 0
Among [] x = ⊥
Among (y ∷ ys) x = (y ≡ x) ⊎ Among ys x

module _ {X : Type 0} where
  at_index : (xs : List X) (x : X) (k : ℕ) → k < length xs → get_or xs k x ≡ x → Among xs x
  at_index [] x k inside is = absurd (omega arith)
  at_index (y ∷ ys) x zero inside is = inl is
  at_index (y ∷ ys) x (suc k) inside is = inr (at_index ys x k (omega arith) is)

  contained_among : (xs : List X) (x : X) → Contains xs x → Among xs x
  contained_among xs x h = at_index xs x h.0 h.1 h.2

  among_contained : (xs : List X) (x : X) → Among xs x → Contains xs x
  among_contained [] x h = absurd h
  among_contained (y ∷ ys) x (inl e) = (0, omega arith, e)
  among_contained (y ∷ ys) x (inr h) = let r = among_contained ys x h in (suc r.0, omega arith, r.2)

module _ {K : Type 0} (R : K → K → Ordering) (o : IsTotalOrder R) where
  after : (k : K) (ks : List K) (x : K) → IsStrictlySortedBy R (k ∷ ks) → Among ks x → R k x ≡ Less
  after k ks x up h = All-contains (λ q. R k q ≡ Less) ks x (All-after_first R k ks up) (among_contained ks x h)

  not_itself : (x : K) → R x x ≡ Less → ⊥
  not_itself x less = let tied = tied_itself o x in let same : Less ≡ Equal = sym less ∙ tied in cc

  heads : (x : K) (xs : List K) (y : K) (ys : List K) → IsStrictlySortedBy R (x ∷ xs) → IsStrictlySortedBy R (y ∷ ys)
      → (y ≡ x) ⊎ Among ys x → (x ≡ y) ⊎ Among xs y → x ≡ y
  heads x xs y ys up vp (inl e) q = sym e
  heads x xs y ys up vp (inr p) (inl e) = e
  heads x xs y ys up vp (inr p) (inr q) =
      absurd (not_itself x (o.trans x y x (after x xs y up q) (after y ys x vp p)))

  behind : (x : K) (xs : List K) (y : K) (ys : List K) → IsStrictlySortedBy R (x ∷ xs) → x ≡ y
      → (z : K) → Among xs z → (y ≡ z) ⊎ Among ys z → Among ys z
  behind x xs y ys up e z h (inl f) =
      absurd (not_itself z (subst (λ k. R k z ≡ Less) (e ∙ f) (after x xs z up h)))
  behind x xs y ys up e z h (inr k) = k

  same_sorted : (xs ys : List K) → IsStrictlySortedBy R xs → IsStrictlySortedBy R ys
      → ((z : K) → Among xs z → Among ys z) → ((z : K) → Among ys z → Among xs z) → xs ≡ ys
  same_sorted [] [] up vp to from = refl
  same_sorted [] (y ∷ ys) up vp to from = absurd (from y (inl refl))
  same_sorted (x ∷ xs) [] up vp to from = absurd (to x (inl refl))
  same_sorted (x ∷ xs) (y ∷ ys) up vp to from =
      let e = heads x xs y ys up vp (to x (inl refl)) (from y (inl refl)) in
      let rest = same_sorted xs ys (sorted_tail R x xs up) (sorted_tail R y ys vp)
      (λ z h. behind x xs y ys up e z h (to z (inr h)))
      (λ z h. behind y ys x xs vp (sym e) z h (from z (inr h))) in
      λ i. e i ∷ rest i

matches_once : (held : List (List ℕ)) (dir tail : List ℕ) (one other : List (List ℕ))
    → AreMatches held dir tail one → AreMatches held dir tail other → one ≡ other
matches_once held dir tail one other a b =
    same_sorted (slice_cmp nat_cmp) nat_list_cmp_total one other a.order b.order
    (λ z h. contained_among other z ((b.exact z).1 ((a.exact z).0 (among_contained one z h))))
    (λ z h. contained_among one z ((a.exact z).1 ((b.exact z).0 (among_contained other z h))))

found_once : (held : List (List ℕ)) (dir : List ℕ) (source : Source) → IsOnce (FoundMeans held dir source)
found_once held dir source (Ok a) (Ok b) x y = ap Ok (matches_once held dir (tail_of dir source) a b x.0 y.0)
found_once held dir source (Ok a) (Err f) x y = absurd (x.1 y.0)
found_once held dir source (Err e) (Ok b) x y = absurd (y.1 x.0)
found_once held dir source (Err e) (Err f) x y = ap Err (x.1 ∙ sym y.1)

pattern_once : (held : List (List ℕ)) (dir : List ℕ) (items : List Source) (left : ℕ) (source : Source)
    → IsOnce (PatternMeans held dir items left source)
pattern_once held dir items left source =
    then_once (FoundMeans held dir source)
    (λ found o. items_within left source.item.at (with_matches items source.item.at found) ≡ o)
    (found_once held dir source)
    (λ found. value_once (items_within left source.item.at (with_matches items source.item.at found)))

item_once : (held : List (List ℕ)) (dir : List ℕ) (items : List Source) (left : ℕ) (source : Source)
    → IsOnce (ItemMeans held dir items left source)
item_once held dir items left source = by (is_pattern dir source)
  where
    by : (b : Bool) → IsOnce (SourceMeans b held dir items left source)
    by true = pattern_once held dir items left source
    by false = value_once (Ok _)

items_once : (held : List (List ℕ)) (dir : List ℕ) (sources items : List Source)
    → IsOnce (ItemsMean held dir items sources)
items_once held dir [] items = value_once (Ok items)
items_once held dir (source ∷ sources) items =
    then_once (ItemMeans held dir items (length sources) source) (λ more. ItemsMean held dir more sources)
    (item_once held dir items (length sources) source) (λ more. items_once held dir sources more)

group_once : (held : List (List ℕ)) (dir : List ℕ) (group : GroupProps) → IsOnce (GroupMeans held dir group)
group_once held dir group =
    then_once (ItemsMean held dir [] group.srcs.items) (λ items o. Ok (group_with_sources items group) ≡ o)
    (items_once held dir group.srcs.items []) (λ items. value_once (Ok (group_with_sources items group)))

entry_once : (held : List (List ℕ)) (dir : List ℕ) (e : GroupId × GroupProps) → IsOnce (KeyedGroupMeans held dir e)
entry_once held dir e =
    then_once (GroupMeans held dir e.1) (λ group o. Ok (e.0, group) ≡ o) (group_once held dir e.1)
    (λ group. value_once (Ok (e.0, group)))

props_once : (held : List (List ℕ)) (dir : List ℕ) (props : Props) → IsOnce (PropsMean held dir props)
props_once held dir props =
    then_once (GroupMeans held dir props.base)
    (λ base. Then (GroupsMean held dir props.groups) (λ groups o. Ok (props_with_groups props base groups) ≡ o))
    (group_once held dir props.base)
    (λ base. then_once (GroupsMean held dir props.groups) (λ groups o. Ok (props_with_groups props base groups) ≡ o)
    (phase_once (λ n. KeyedGroupMeans held dir) (λ n. entry_once held dir) 0 props.groups)
    (λ groups. value_once (Ok (props_with_groups props base groups))))

module_once : (held : List (List ℕ)) (m : Module) → IsOnce (ModuleMeans held m)
module_once held m =
    then_once (PropsMean held m.dir m.props) (λ props o. Ok (record m { props = props }) ≡ o)
    (props_once held m.dir m.props) (λ props. value_once (Ok (record m { props = props })))

pub expand_once : (held : List (List ℕ)) (mods : List Module) → IsOnce (ExpandMeans held mods)
expand_once held mods = phase_once (λ n. ModuleMeans held) (λ n. module_once held) 0 mods
