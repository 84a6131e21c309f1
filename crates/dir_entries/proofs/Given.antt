-- What held paths give a directory, one path after another.
use Rattle.std.proofs.Common.{◌≡◌, ◌++◌, ◌⊎◌, inl, inr, ℕ, List, [], ◌∷◌, refl, sym, subst}
use Rattle.std.proofs.Common.{Bor, ◌+◌, ◌<◌, map, take, get_or, length, ap, ◌∙◌}
use Rattle.std.proofs.lemmas.List.{take_more, map-append}
use Rattle.std.specs.List.{Contains}
use Rattle.dir_entries.specs.declared.entry.DirEntry.{DirEntry}
use Rattle.dir_entries.specs.Below.{LiesBelow}
use Rattle.dir_entries.specs.Entries.{EntryMeans, IsDirEntry, GiveEntries}
use Rattle.dir_entries.proofs.Once.{Among, contained_among, among_contained}
use Rattle.dir_entries.proofs.First.{below_once, entry_once}

module _ {X : Type 0} where
  among_left : (xs ys : List X) (x : X) → Among xs x → Among (xs ++ ys) x
  among_left [] ys x h = absurd h
  among_left (z ∷ zs) ys x (inl e) = inl e
  among_left (z ∷ zs) ys x (inr h) = inr (among_left zs ys x h)

  among_last : (xs : List X) (x : X) → Among (xs ++ x ∷ []) x
  among_last [] x = inl refl
  among_last (z ∷ zs) x = inr (among_last zs x)

  among_either : (xs : List X) (y x : X) → Among (xs ++ y ∷ []) x → Among xs x ⊎ (y ≡ x)
  among_either [] y x (inl e) = inr e
  among_either [] y x (inr h) = absurd h
  among_either (z ∷ zs) y x (inl e) = inl (inl e)
  among_either (z ∷ zs) y x (inr h) = by (among_either zs y x h) where
    by : Among zs x ⊎ (y ≡ x) → ((z ≡ x) ⊎ Among zs x) ⊎ (y ≡ x)
    by (inl k) = inl (inr k)
    by (inr e) = inr e

  before_last : (xs : List X) (y x : X) → Contains xs x → Contains (xs ++ y ∷ []) x
  before_last xs y x h = among_contained (xs ++ y ∷ []) x (among_left xs (y ∷ []) x (contained_among xs x h))

  at_last : (xs : List X) (y : X) → Contains (xs ++ y ∷ []) y
  at_last xs y = among_contained (xs ++ y ∷ []) y (among_last xs y)

  either : (xs : List X) (y x : X) → Contains (xs ++ y ∷ []) x → Contains xs x ⊎ (y ≡ x)
  either xs y x h = by (among_either xs y x (contained_among (xs ++ y ∷ []) x h)) where
    by : Among xs x ⊎ (y ≡ x) → Contains xs x ⊎ (y ≡ x)
    by (inl k) = inl (among_contained xs x k)
    by (inr e) = inr e

pub none_given : (dir : List ℕ) → GiveEntries [] dir []
none_given dir e = (
  λ h. absurd (contained_among [] e h),
  λ h. absurd (contained_among [] h.path h.holds),
)

module _ (held : List (List ℕ)) (dir path : List ℕ) (es : List DirEntry) (so_far : GiveEntries held dir es) where
  longer : (e : DirEntry) → IsDirEntry held dir e → IsDirEntry (held ++ path ∷ []) dir e
  longer e h = record {
    path = h.path;
    holds = before_last held path h.path h.holds;
    rest = h.rest;
    below = h.below;
    whole = h.whole;
    begins = h.begins;
  }

  -- One more path gives one more entry.
  pub one_given : (rest : List ℕ) (e : DirEntry) → LiesBelow dir path rest → EntryMeans rest e
      → GiveEntries (held ++ path ∷ []) dir (es ++ e ∷ [])
  one_given rest e below means f = (
    λ h. there (either es e f h),
    λ h. back h (either held path h.path h.holds),
  ) where
    there : Contains es f ⊎ (e ≡ f) → IsDirEntry (held ++ path ∷ []) dir f
    there (inl k) = longer f ((so_far f).0 k)
    there (inr is) = subst (IsDirEntry (held ++ path ∷ []) dir) is (record {
      path = path;
      holds = at_last held path;
      rest = rest;
      below = below;
      whole = means.whole;
      begins = means.begins;
    })

    back : (h : IsDirEntry (held ++ path ∷ []) dir f) → Contains held h.path ⊎ (path ≡ h.path)
        → Contains (es ++ e ∷ []) f
    back h (inl k) = before_last es e f ((so_far f).1 (record {
      path = h.path;
      holds = k;
      rest = h.rest;
      below = h.below;
      whole = h.whole;
      begins = h.begins;
    }))
    back h (inr is) =
        let same = below_once dir path rest h.rest below (subst (λ p. LiesBelow dir p h.rest) (sym is) h.below) in
        let means_f : EntryMeans h.rest f = record { whole = h.whole; begins = h.begins } in
        let one = entry_once h.rest e f (subst (λ r. EntryMeans r e) same means) means_f in
        subst (Contains (es ++ e ∷ [])) one (at_last es e)

  -- A path that isn't below the directory gives none.
  pub none_more : ((rest : List ℕ) → LiesBelow dir path rest → ⊥) → GiveEntries (held ++ path ∷ []) dir es
  none_more outside f = (
    λ h. longer f ((so_far f).0 h),
    λ h. back h (either held path h.path h.holds),
  ) where
    back : (h : IsDirEntry (held ++ path ∷ []) dir f) → Contains held h.path ⊎ (path ≡ h.path) → Contains es f
    back h (inl k) = (so_far f).1 (record {
      path = h.path;
      holds = k;
      rest = h.rest;
      below = h.below;
      whole = h.whole;
      begins = h.begins;
    })
    back h (inr is) = absurd (outside h.rest (subst (λ p. LiesBelow dir p h.rest) (sym is) h.below))

-- One more path of a list.
pub paths_more : (paths : List (Bor (List ℕ))) (i : ℕ) (d : Bor (List ℕ)) → i < length paths
    → map (λ (path : Bor (List ℕ)). path.now) (take (i + 1) paths)
    ≡ map (λ (path : Bor (List ℕ)). path.now) (take i paths) ++ (get_or paths i d).now ∷ []
paths_more paths i d within =
    ap (map (λ (path : Bor (List ℕ)). path.now)) (take_more paths i d within)
    ∙ map-append (λ (path : Bor (List ℕ)). path.now) (take i paths) (get_or paths i d ∷ [])
