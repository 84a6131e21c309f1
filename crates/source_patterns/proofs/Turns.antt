-- What comes of the sources of a list, item by item.
use Rattle.std.proofs.Common.{◌≡◌, ◌<◌, ◌≤◌, ◌+◌, ℕ, Bool, true, false, inl, inr, List, [], ◌∷◌, ◌++◌, length, get_or}
use Rattle.std.proofs.Common.{drop, refl, ap, sym, subst, append_assoc}
use Rattle.std.specs.Prelude.{◌||◌, Result, Ok, Err}
use Rattle.std.specs.List.{list_any}
use Rattle.std.proofs.lemmas.List.{drop_all, append-nil}
use Rattle.bp_faults.specs.declared.fault.Fault.{Fault}
use Rattle.bp_faults.proofs.Lists.{drop-here}
use Rattle.bp_props.specs.declared.fields.GroupProps.{GroupProps}
use Rattle.bp_props.specs.declared.source.Source.{Source}
use Rattle.source_patterns.specs.Expansion.{GroupMeans}
use Rattle.source_patterns.specs.Items.{SourceMeans, ItemMeans, ItemsMean}
use Rattle.source_patterns.specs.Patterns.{is_pattern, WalksFor}
use Rattle.source_patterns.specs.Walked.{ItemsWalk}

module _ (held : List (List ℕ)) (dir : List ℕ) (sources : List Source) where
  -- Whatever comes of the sources from here on behind these items comes of all.
  pub record Far (i : ℕ) (items : List Source) : Type 0 where
    pub means : (o : Result (List Source) Fault) → ItemsMean held dir items (drop i sources) o
        → ItemsMean held dir [] sources o
    pub walks : (walked : List ℕ) → ItemsWalk held dir items (drop i sources) walked
        → ItemsWalk held dir [] sources walked

  pub far_begins : Far 0 []
  far_begins = record { means = λ o h. h; walks = λ walked h. h }

  module _ (i left : ℕ) (items : List Source) (source : Source) (within : i < length sources)
      (is : source ≡ get_or sources i source) (few : left ≡ length (drop (i + 1) sources)) (far : Far i items) where
    -- One more source has come to something.
    pub far_more : (more : List Source) → ItemMeans held dir items left source (Ok more) → Far (i + 1) more
    far_more more means =
        let here = sym (drop-here sources i source within is) in
        let counted = subst (λ n. ItemMeans held dir items n source (Ok more)) few means in
        record {
          means = λ o rest. far.means o
              (subst (λ xs. ItemsMean held dir items xs o) here (Ok more, counted, rest));
          walks = λ walked rest. far.walks walked
              (subst (λ xs. ItemsWalk held dir items xs walked) here (inr (more, counted, rest)));
        }

    -- A fault of it is that of all.
    pub far_bad : (fault : Fault) → ItemMeans held dir items left source (Err fault)
        → ItemsMean held dir [] sources (Err fault)
    far_bad fault means =
        let here = sym (drop-here sources i source within is) in
        let counted = subst (λ n. ItemMeans held dir items n source (Err fault)) few means in
        far.means (Err fault)
        (subst (λ xs. ItemsMean held dir items xs (Err fault)) here (Err fault, counted, refl))

    -- A directory that is walked for it is walked for the list.
    pub far_failed : (walked : List ℕ) → WalksFor dir source walked → ItemsWalk held dir [] sources walked
    far_failed walked walks =
        far.walks walked
        (subst (λ xs. ItemsWalk held dir items xs walked) (sym (drop-here sources i source within is)) (inl walks))

  -- Behind the last source stands what comes of all.
  pub far_ends : (i : ℕ) (items : List Source) → length sources ≤ i → Far i items
      → ItemsMean held dir [] sources (Ok items)
  far_ends i items past far =
      far.means (Ok items) (subst (λ xs. ItemsMean held dir items xs (Ok items)) (sym (drop_all i sources past)) refl)

both_false : (a b : Bool) → a || b ≡ false → (a ≡ false) × (b ≡ false)
both_false true b h = absurd (cc)
both_false false b h = (refl, h)

-- Without a pattern sources stay as they are.
pub no_pattern : (held : List (List ℕ)) (dir : List ℕ) (sources items : List Source)
    → list_any (is_pattern dir) sources ≡ false → ItemsMean held dir items sources (Ok (items ++ sources))
no_pattern held dir [] items none = ap Ok (sym (append-nil items))
no_pattern held dir (source ∷ sources) items none =
    let parts = both_false (is_pattern dir source) (list_any (is_pattern dir) sources) none in
    let first : ItemMeans held dir items (length sources) source (Ok (items ++ source ∷ [])) =
    subst (λ b. SourceMeans b held dir items (length sources) source (Ok (items ++ source ∷ []))) (sym parts.0) refl in
    let rest = no_pattern held dir sources (items ++ source ∷ []) parts.1 in (
      Ok (items ++ source ∷ []),
      first,
      subst (λ all. ItemsMean held dir (items ++ source ∷ []) sources (Ok all))
          (append_assoc items (source ∷ []) sources) rest,
    )

-- A group without a pattern stays as it is.
pub no_pattern_in : (held : List (List ℕ)) (dir : List ℕ) (group : GroupProps)
    → list_any (is_pattern dir) group.srcs.items ≡ false → GroupMeans held dir group (Ok group)
no_pattern_in held dir group none = (Ok group.srcs.items, no_pattern held dir group.srcs.items [] none, refl)
