-- The walk over levels: what was found and what lies below the directories that are left come to what lies below the
-- first.
use Rattle.std.proofs.Common.{◌≡◌, ◌<◌, ◌++◌, ◌⊎◌, ◌↔◌, inl, inr, ℕ, true, List, [], ◌∷◌, length, refl, sym, ◌∙◌, subst}
use Rattle.std.proofs.Common.{arith}
use Rattle.dir_entries.specs.declared.entry.DirEntry.{DirEntry}
use Rattle.dir_entries.specs.Entries.{IsDirEntry, AreEntries, HasMore}
use Rattle.path_patterns.specs.Parts.{step_all, has_rest}
use Rattle.path_patterns.specs.Ways.{Way, way_to, is_next, found_at, ways_at, Finds, Leads}
use Rattle.bp_faults.specs.Paths.{is_component}
use Rattle.std.specs.Prelude.{◌&&◌}
use Rattle.path_patterns.specs.Levels.{Among, SomeFinds, SomeLeads, Walks}
use Rattle.path_patterns.proofs.Among.{among_left, among_right, among_either, among_contained, Source, among_source}
use Rattle.path_patterns.proofs.Steps.{leads_none}
use Rattle.path_patterns.proofs.Moves.{and_split, finds_on, found_here, finds_back, leads_on, leads_back}

-- Something is left at each directory to which one leads.
ways_go : (w : Way) (entries : List DirEntry) (v : Way) → Among (ways_at w entries) v → has_rest v.rests ≡ true
ways_go w entries v h = by (among_source (way_to w) (is_next w) entries v h) where
  by : Source (way_to w) (is_next w) entries v → has_rest v.rests ≡ true
  by s =
      let kind = and_split s.of.dir (is_component s.of.name && has_rest (step_all w.rests s.of.name)) s.passes in
      let on = and_split (is_component s.of.name) (has_rest (step_all w.rests s.of.name)) kind.1 in
      subst (λ u. has_rest u.rests ≡ true) s.is on.1

module _ (held : List (List ℕ)) (limit : ℕ) (first : Way) where
  -- It begins with the first directory.
  pub walks_begin : has_rest first.rests ≡ true → Walks held limit first [] (first ∷ [])
  walks_begin on = record {
    finds = λ path f. inr (first, inl refl, f);
    found_is = λ path h. absurd h;
    left_is = λ v h path f. only v h (λ u. Finds held u path) f;
    leads = λ walked many l. (first, inl refl, l);
    led = λ v h walked l. only v h (λ u. Leads u walked) l;
    going = λ v h. at v h;
  } where
    at : (v : Way) → (first ≡ v) ⊎ ⊥ → has_rest v.rests ≡ true
    at v (inl e) = subst (λ u. has_rest u.rests ≡ true) e on
    at v (inr h) = absurd h

    only : (v : Way) → (first ≡ v) ⊎ ⊥ → (P : Way → Type 0) → P v → P first
    only v (inl e) P p = subst P (sym e) p
    only v (inr h) P p = absurd h

  -- A directory that has so many entries has one.
  some_entry : (walked : List ℕ) → HasMore held walked limit → (e : DirEntry) × IsDirEntry held walked e
  some_entry walked many = by many.0 many.1 many.2 where
    by : (entries : List DirEntry) → AreEntries held walked entries → limit < length entries
        → (e : DirEntry) × IsDirEntry held walked e
    by [] are more = absurd (omega arith)
    by (e ∷ es) are more = (e, (are.exact e).0 (among_contained (e ∷ es) e (inl refl)))

  -- One of the directories is visited that hasn't too many entries.
  pub walks_on : (found : List (List ℕ)) (w : Way) (left : List Way) (entries : List DirEntry)
      → AreEntries held w.path entries → (HasMore held w.path limit → ⊥) → Walks held limit first found (w ∷ left)
      → Walks held limit first (found ++ found_at w entries) (left ++ ways_at w entries)
  walks_on found w left entries are narrow so = record {
    finds = λ path f. further path (so.finds path f);
    found_is = λ path h. known path (among_either found (found_at w entries) path h);
    left_is = λ v h path f. below v path f (among_either left (ways_at w entries) v h);
    leads = λ walked many l. onward walked many (so.leads walked many l);
    led = λ v h walked l. back v walked l (among_either left (ways_at w entries) v h);
    going = λ v h. still v (among_either left (ways_at w entries) v h);
  } where
    here : (path : List ℕ) → Among (found_at w entries) path ⊎ SomeFinds held (ways_at w entries) path
        → Among (found ++ found_at w entries) path ⊎ SomeFinds held (left ++ ways_at w entries) path
    here path (inl h) = inl (among_right found (found_at w entries) path h)
    here path (inr s) = inr (s.0, among_right left (ways_at w entries) s.0 s.1, s.2)

    at : (path : List ℕ) (v : Way) → (w ≡ v) ⊎ Among left v → Finds held v path
        → Among (found ++ found_at w entries) path ⊎ SomeFinds held (left ++ ways_at w entries) path
    at path v (inl e) f =
        here path (finds_on held w entries are path (subst (λ u. Finds held u path) (sym e) f))
    at path v (inr h) f = inr (v, among_left left (ways_at w entries) v h, f)

    further : (path : List ℕ) → Among found path ⊎ SomeFinds held (w ∷ left) path
        → Among (found ++ found_at w entries) path ⊎ SomeFinds held (left ++ ways_at w entries) path
    further path (inl h) = inl (among_left found (found_at w entries) path h)
    further path (inr s) = at path s.0 s.1 s.2

    known : (path : List ℕ) → Among found path ⊎ Among (found_at w entries) path → Finds held first path
    known path (inl h) = so.found_is path h
    known path (inr h) = so.left_is w (inl refl) path (found_here held w entries are path h)

    below : (v : Way) (path : List ℕ) → Finds held v path → Among left v ⊎ Among (ways_at w entries) v
        → Finds held first path
    below v path f (inl h) = so.left_is v (inr h) path f
    below v path f (inr h) = so.left_is w (inl refl) path (finds_back held w entries are v path h f)

    reached : (walked : List ℕ) → HasMore held walked limit → (walked ≡ w.path) ⊎ SomeLeads (ways_at w entries) walked
        → SomeLeads (left ++ ways_at w entries) walked
    reached walked many (inl e) = absurd (narrow (subst (λ d. HasMore held d limit) e many))
    reached walked many (inr s) = (s.0, among_right left (ways_at w entries) s.0 s.1, s.2)

    onward_at : (walked : List ℕ) → HasMore held walked limit → (v : Way) → (w ≡ v) ⊎ Among left v → Leads v walked
        → SomeLeads (left ++ ways_at w entries) walked
    onward_at walked many v (inl e) l =
        let some = some_entry walked many in
        reached walked many (leads_on held w entries are walked some.0 some.1 (subst (λ u. Leads u walked) (sym e) l))
    onward_at walked many v (inr h) l = (v, among_left left (ways_at w entries) v h, l)

    onward : (walked : List ℕ) → HasMore held walked limit → SomeLeads (w ∷ left) walked
        → SomeLeads (left ++ ways_at w entries) walked
    onward walked many s = onward_at walked many s.0 s.1 s.2

    back : (v : Way) (walked : List ℕ) → Leads v walked → Among left v ⊎ Among (ways_at w entries) v
        → Leads first walked
    back v walked l (inl h) = so.led v (inr h) walked l
    back v walked l (inr h) = so.led w (inl refl) walked (leads_back held w entries are v walked h l)

    still : (v : Way) → Among left v ⊎ Among (ways_at w entries) v → has_rest v.rests ≡ true
    still v (inl h) = so.going v (inr h)
    still v (inr h) = ways_go w entries v h

  -- A directory that is left is walked from the first.
  pub walks_here : (found : List (List ℕ)) (w : Way) (left : List Way) → Walks held limit first found (w ∷ left)
      → Leads first w.path
  walks_here found w left so = so.led w (inl refl) w.path (record {
    names = [];
    to = inl (refl, refl);
    named = refl;
    leads = leads_none w.rests ∙ so.going w (inl refl);
  })

  -- Where no directory is left, what was found is what lies below the first, and none has too many entries.
  pub walks_end : (found : List (List ℕ)) → Walks held limit first found []
      → (path : List ℕ) → Among found path ↔ Finds held first path
  walks_end found so path = (so.found_is path, λ f. done (so.finds path f)) where
    done : Among found path ⊎ SomeFinds held [] path → Among found path
    done (inl h) = h
    done (inr s) = absurd s.1

  pub walks_narrow : (found : List (List ℕ)) → Walks held limit first found []
      → (walked : List ℕ) → HasMore held walked limit → Leads first walked → ⊥
  walks_narrow found so walked many l = let s = so.leads walked many l in s.1
