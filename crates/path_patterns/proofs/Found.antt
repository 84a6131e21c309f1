-- What is found below the first directory is what the pattern matches, and what is walked from it is what it walks.
use Rattle.std.proofs.Common.{◌≡◌, ◌↔◌, ℕ, List, [], ◌∷◌, Bool, true, false, cond, Option, Some, None, Vec, Global}
use Rattle.std.proofs.Common.{refl, sym, ap, ◌∙◌, subst}
use Rattle.std.specs.Prelude.{◌||◌, if◌then◌else◌, IfSome, Ok, Err}
use Rattle.std.specs.List.{list_all, list_any, onto_first, Contains}
use Rattle.std.specs.List.Sorted.{IsStrictlySortedBy}
use Rattle.std.specs.Ordering.{nat_cmp}
use Rattle.std.specs.Cmp.Lexicographic.{slice_cmp}
use Rattle.std.proofs.Math.Bool.{true≢false}
use Rattle.std.proofs.lemmas.Bool.Decides.{Decides-eqb}
use Rattle.std.proofs.lemmas.Option.{IfSome_then}
use Rattle.bp_faults.specs.Paths.{is_component, is_normal}
use Rattle.dir_entries.specs.Below.{is_slash, names_of}
use Rattle.path_patterns.specs.declared.limits.TheConstants.{MOST_ENTRIES}
use Rattle.path_patterns.specs.declared.matches.WalkError.{WalkError}
use Rattle.path_patterns.specs.declared.walk.OnWay.{OnWay}
use Rattle.path_patterns.specs.Globs.{is_star, has_star}
use Rattle.path_patterns.specs.Levels.{FirstMeans, first_way, Walks, WalkEnds, WalkMeans}
use Rattle.path_patterns.specs.Matches.{plain_parts, starred_parts, IsMatch, AreMatches, IsWide, MatchesGive}
use Rattle.path_patterns.specs.Parts.{has_rest}
use Rattle.path_patterns.specs.Stages.{way_of}
use Rattle.path_patterns.specs.Ways.{Finds, Leads}
use Rattle.path_patterns.proofs.Among.{contained_among, among_contained}
use Rattle.path_patterns.proofs.Below.{names_begin}
use Rattle.path_patterns.proofs.Start.{walked_named, match_named, walked_leads, leads_walked, match_finds, finds_match}
use Rattle.path_patterns.proofs.Walks.{walks_end, walks_narrow}

nothing_ascends : IsStrictlySortedBy (slice_cmp nat_cmp) []
unfolding IsStrictlySortedBy
nothing_ascends = tt

or_assoc : (a b c : Bool) → ((a || b) || c) ≡ (a || (b || c))
or_assoc true b c = refl
or_assoc false b c = refl

-- A text has a `*` where one of its components has.
names_star : (text : List ℕ) → list_any has_star (names_of text) ≡ has_star text
names_star [] = refl
names_star (c ∷ cs) = by (is_slash c) refl (names_begin cs) (names_star cs) where
  slash : is_slash c ≡ true → is_star c ≡ false
  slash e = ap is_star ((Decides-eqb c 47).0 e)

  by : (b : Bool) → is_slash c ≡ b → ((first : List ℕ) × (others : List (List ℕ)) × (names_of cs ≡ first ∷ others))
      → list_any has_star (names_of cs) ≡ has_star cs
      → list_any has_star (cond b ([] ∷ names_of cs) (onto_first c (names_of cs))) ≡ (is_star c || has_star cs)
  by true e begin rest = rest ∙ sym (ap (λ s. s || has_star cs) (slash e))
  by false e begin rest =
      ap (λ ns. list_any has_star (onto_first c ns)) begin.2
      ∙ or_assoc (is_star c) (has_star begin.0) (list_any has_star begin.1)
      ∙ ap (λ b. is_star c || b) (sym (ap (list_any has_star) begin.2) ∙ rest)

pub some_starred : (tail : List ℕ) (parts : List (List ℕ)) → has_star tail ≡ true → parts ≡ names_of tail
    → list_any has_star parts ≡ true
some_starred tail parts star is = ap (list_any has_star) is ∙ names_star tail ∙ star

-- Then there is a first such component.
starred_first : (ps : List (List ℕ)) → list_any has_star ps ≡ true
    → (q : List ℕ) × (qs : List (List ℕ)) × (starred_parts ps ≡ q ∷ qs)
starred_first [] some = absurd (true≢false (sym some))
starred_first (p ∷ ps) some = by (λ h. starred_first ps h) (has_star p) some where
  by : (list_any has_star ps ≡ true → (q : List ℕ) × (qs : List (List ℕ)) × (starred_parts ps ≡ q ∷ qs))
      → (b : Bool) → (b || list_any has_star ps) ≡ true
      → (q : List ℕ) × (qs : List (List ℕ)) × ((if b then p ∷ ps else starred_parts ps) ≡ q ∷ qs)
  by rest true h = (p, ps, refl)
  by rest false h = rest h

pub begins_at : (start dir : List ℕ) (parts : List (List ℕ)) (one other : Option OnWay) → start ≡ dir → one ≡ other
    → FirstMeans start parts one → FirstMeans dir parts other
begins_at start dir parts one other here same begins =
    subst (λ d. FirstMeans d parts other) here (subst (λ f. FirstMeans start parts f) same begins)

module _ (dir tail : List ℕ) (parts : List (List ℕ)) (normal : is_normal dir ≡ true) (star : has_star tail ≡ true)
    (is : parts ≡ names_of tail) where
  -- Where the walk begins nowhere, nothing matches and nothing is walked.
  none_at : (held : List (List ℕ)) → FirstMeans dir parts None → (found : Vec (List ℕ) Global) → found.items ≡ []
      → MatchesGive held dir tail (Ok found)
  none_at held none found empty = (
    record {
      order = subst (λ xs. IsStrictlySortedBy (slice_cmp nat_cmp) xs) (sym empty) nothing_ascends;
      exact = λ path. (
        λ h. absurd (contained_among [] path (subst (λ xs. Contains xs path) empty h)),
        λ m. absurd (never (match_named dir tail normal held path m)),
      );
    },
    λ wide. never (walked_named dir tail normal wide.0 wide.1),
  ) where
    never : list_all is_component (plain_parts (names_of tail)) ≡ true → ⊥
    never named = true≢false (sym named ∙ sym (ap (λ ps. list_all is_component (plain_parts ps)) is) ∙ none)

  pub none_gives : (held : Option (List (List ℕ))) → FirstMeans dir parts None → (found : Vec (List ℕ) Global)
      → found.items ≡ [] → IfSome held (λ paths. MatchesGive paths dir tail (Ok found))
  none_gives None none found empty = tt
  none_gives (Some held) none found empty = none_at held none found empty

  module _ (first : OnWay) (begins : FirstMeans dir parts (Some first)) where
    starred : (q : List ℕ) × (qs : List (List ℕ)) × (starred_parts (names_of tail) ≡ q ∷ qs)
    starred = starred_first (names_of tail) (names_star tail ∙ star)

    named : list_all is_component (plain_parts (names_of tail)) ≡ true
    named = sym (ap (λ ps. list_all is_component (plain_parts ps)) is) ∙ begins.0

    same : way_of parts first ≡ first_way dir (names_of tail)
    same = begins.1 ∙ ap (first_way dir) is

    on : has_rest (way_of parts first).rests ≡ true
    on =
        ap (λ w. has_rest w.rests) same
        ∙ ap (λ qs. has_rest ((0, qs) ∷ [])) starred.2

    ends_at : (held : List (List ℕ)) (why : WalkError) → WalkEnds held (way_of parts first) why
        → MatchesGive held dir tail (Err why)
    ends_at held WalkError.TooMany (walked, leads, many) = (
      walked,
      leads_walked dir tail normal named starred.0 starred.1 starred.2 walked
          (subst (λ w. Leads w walked) same leads),
      many,
    )
    ends_at held (WalkError.Failed failed) leads =
        leads_walked dir tail normal named starred.0 starred.1 starred.2 failed
        (subst (λ w. Leads w failed) same leads)
    ends_at held WalkError.OutOfMemory ended = tt

    -- Where the walk ends early, so does the search for matches.
    pub some_stops : (held : Option (List (List ℕ))) (why : WalkError)
        → IfSome held (λ paths. has_rest (way_of parts first).rests ≡ true
        → WalkMeans paths (way_of parts first) (Err why))
        → IfSome held (λ paths. MatchesGive paths dir tail (Err why))
    some_stops held why ended = IfSome_then held ended (λ paths ends. ends_at paths why (ends on))

    gives_at : (held found sorted : List (List ℕ)) → IsStrictlySortedBy (slice_cmp nat_cmp) sorted
        → ((path : List ℕ) → Contains sorted path ↔ Contains found path)
        → Walks held MOST_ENTRIES (way_of parts first) found []
        → AreMatches held dir tail sorted × (IsWide held dir tail → ⊥)
    gives_at held found sorted order kept walks = (
      record { order = order; exact = λ path. (to path, from path) },
      λ wide. walks_narrow held MOST_ENTRIES (way_of parts first) found walks wide.0 wide.2
          (subst (λ w. Leads w wide.0) (sym same)
          (walked_leads dir tail normal named starred.0 starred.1 starred.2 wide.0 wide.1)),
    ) where
      to : (path : List ℕ) → Contains sorted path → IsMatch held dir tail path
      to path h =
          finds_match dir tail normal named starred.0 starred.1 starred.2 held path
          (subst (λ w. Finds held w path) same
          ((walks_end held MOST_ENTRIES (way_of parts first) found walks path).0
          (contained_among found path ((kept path).0 h))))

      from : (path : List ℕ) → IsMatch held dir tail path → Contains sorted path
      from path m =
          (kept path).1 (among_contained found path
          ((walks_end held MOST_ENTRIES (way_of parts first) found walks path).1
          (subst (λ w. Finds held w path) (sym same)
          (match_finds dir tail normal named starred.0 starred.1 starred.2 held path m))))

    -- And where it comes to its end, what is found is what matches.
    pub some_gives : (held : Option (List (List ℕ))) (found sorted : Vec (List ℕ) Global)
        → IsStrictlySortedBy (slice_cmp nat_cmp) sorted.items
        → ((path : List ℕ) → Contains sorted.items path ↔ Contains found.items path)
        → IfSome held (λ paths. has_rest (way_of parts first).rests ≡ true
        → WalkMeans paths (way_of parts first) (Ok found))
        → IfSome held (λ paths. MatchesGive paths dir tail (Ok sorted))
    some_gives held found sorted order kept walked =
        IfSome_then held walked (λ paths walks. gives_at paths found.items sorted.items order kept (walks on))
