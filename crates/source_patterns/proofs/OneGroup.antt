-- One group of several is expanded.
use Rattle.std.proofs.Common.{◌≡◌, ◌∙◌, ◌<◌, ℕ, false, List, length, get_or, set, refl, ap, sym, subst}
use Rattle.std.specs.Prelude.{Result, Ok, Err}
use Rattle.std.specs.List.{list_any, HoldsAt}
use Rattle.std.proofs.lemmas.List.{set-get_or}
use Rattle.bp_faults.specs.declared.fault.Fault.{Fault}
use Rattle.bp_faults.specs.Phases.{Then}
use Rattle.bp_faults.proofs.Lists.{same_at}
use Rattle.bp_props.specs.declared.fields.GroupProps.{GroupProps}
use Rattle.bp_props.specs.declared.group_id.GroupId.{GroupId}
use Rattle.source_patterns.specs.declared.error.ExpandError.{ExpandError}
use Rattle.source_patterns.specs.Answers.{ExpandGives}
use Rattle.source_patterns.specs.Expansion.{GroupMeans, KeyedGroupMeans}
use Rattle.source_patterns.specs.Patterns.{is_pattern}
use Rattle.source_patterns.specs.Walked.{GroupWalks}
use Rattle.source_patterns.proofs.Gives.{stops}
use Rattle.source_patterns.proofs.Turns.{no_pattern_in}

module _ (held : List (List ℕ)) (dir : List ℕ) (groups : List (GroupId × GroupProps)) (i : ℕ) (x : GroupId × GroupProps)
    (within : i < length groups) (is : x ≡ get_or groups i x) where
  -- What comes of all groups where this comes of the one.
  abbrev pub Sets : GroupId × GroupProps → Result (List (GroupId × GroupProps)) Fault → Type 0
  Sets e = Then (KeyedGroupMeans held dir e) (λ more o. Ok (set groups i more) ≡ o)

  here : (d : GroupId × GroupProps) → x ≡ get_or groups i d
  here d = is ∙ same_at groups i x d within

  -- Without a pattern all stay.
  pub unchanged_at : list_any (is_pattern dir) x.1.srcs.items ≡ false → HoldsAt (λ e. Sets e (Ok groups)) groups i
  unchanged_at none d =
      subst (λ e. Sets e (Ok groups)) (here d) (
        Ok x,
        (Ok x.1, no_pattern_in held dir x.1 none, refl),
        ap Ok (ap (λ e. set groups i e) (here d) ∙ set-get_or groups i d),
      )

  -- The group is another.
  pub changed_at : (old more : GroupProps) (new : List (GroupId × GroupProps)) → old ≡ x.1
      → HoldsAt (λ e. new ≡ set groups i (e.0, more)) groups i → GroupMeans held dir old (Ok more)
      → HoldsAt (λ e. Sets e (Ok new)) groups i
  changed_at old more new same put means d =
      let e = get_or groups i d in
      let its : GroupMeans held dir e.1 (Ok more) =
      subst (λ g. GroupMeans held dir g (Ok more)) (same ∙ ap (λ (y : GroupId × GroupProps). y.1) (here d)) means in
      (Ok (e.0, more), (Ok more, its, refl), ap Ok (sym (put d)))

  -- The group gives no value.
  pub stopped_at : {T U : Type 0} (part : T → GroupProps) (view : U → List (GroupId × GroupProps)) (old : GroupProps)
      → old ≡ x.1 → (e : ExpandError) → ExpandGives part (GroupMeans held dir old) (GroupWalks held dir old) (Err e)
      → HoldsAt (λ y. ExpandGives view (Sets y) (GroupWalks held dir y.1) (Err e)) groups i
  stopped_at part view old same e given d =
      subst (λ y. ExpandGives view (Sets y) (GroupWalks held dir y.1) (Err e)) (here d)
      (stops part view (GroupMeans held dir x.1) (Sets x) (GroupWalks held dir x.1) (GroupWalks held dir x.1)
      (λ fault bad. (Err fault, (Err fault, bad, refl), refl)) (λ walked h. h) e
      (subst (λ g. ExpandGives part (GroupMeans held dir g) (GroupWalks held dir g) (Err e)) same given))
