-- How far a level is walked, directory by directory, and the levels one after another.
use Rattle.std.proofs.Common.{◌≡◌, ◌<◌, ◌≤◌, ◌+◌, ◌++◌, ℕ, zero, suc, List, [], ◌∷◌, length, drop, get_or, map, Bool}
use Rattle.std.proofs.Common.{true, false, cond, Option, Some, None, refl, sym, ap, ◌∙◌, subst, append_assoc}
use Rattle.std.proofs.Common.{append-nil, arith}
use Rattle.std.specs.Prelude.{◌&&◌, IfSome, Ok, Err}
use Rattle.std.specs.List.{AllByRecursion, filter}
use Rattle.std.proofs.lemmas.Option.{IfSome_then}
use Rattle.std.proofs.lemmas.List.{drop_all}
use Rattle.bp_faults.specs.Paths.{is_component}
use Rattle.bp_faults.proofs.Lists.{all_append, all_map, drop-here}
use Rattle.dir_entries.specs.declared.entry.DirEntry.{DirEntry}
use Rattle.path_patterns.specs.declared.limits.TheConstants.{MOST_ENTRIES}
use Rattle.path_patterns.specs.declared.matches.WalkError.{WalkError}
use Rattle.path_patterns.specs.declared.walk.OnWay.{OnWay}
use Rattle.bp_ports.specs.Causes.{Rose}
use Rattle.path_patterns.specs.Causes.{FailsOnlyWhere, WalkCause}
use Rattle.path_patterns.specs.Levels.{Walks, ReadMeans, WalkEnds, heaviest, tallest}
use Rattle.path_patterns.specs.Parts.{step_all, has_rest}
use Rattle.path_patterns.specs.Stages.{way_of, ways_of}
use Rattle.path_patterns.specs.Ways.{Way, is_next, way_to, found_at, ways_at, Leads}
use Rattle.path_patterns.proofs.Walks.{walks_begin, walks_on, walks_here}
use Rattle.path_patterns.proofs.Moves.{and_split}
use Rattle.path_patterns.proofs.Steps.{heaviest_falls}

if_each : {X : Type 0} (o : Option X) (P : X → Type 0) → ((x : X) → P x) → IfSome o P
if_each None P each = tt
if_each (Some x) P each = each x

if_both : {X : Type 0} (o : Option X) (P Q R : X → Type 0) → ((x : X) → P x → Q x → R x) → IfSome o P → IfSome o Q
    → IfSome o R
if_both None P Q R each p q = tt
if_both (Some x) P Q R each p q = each x p q

-- What is left at each directory to which one leads is lighter.
ways_lighter : (w : Way) (entries : List DirEntry)
    → AllByRecursion (λ v. heaviest v.rests < heaviest w.rests) (ways_at w entries)
ways_lighter w [] = tt
ways_lighter w (e ∷ es) = by (is_next w e) refl (ways_lighter w es) where
  by : (b : Bool) → is_next w e ≡ b → AllByRecursion (λ v. heaviest v.rests < heaviest w.rests) (ways_at w es)
      → AllByRecursion (λ v. heaviest v.rests < heaviest w.rests)
      (map (way_to w) (cond b (e ∷ filter (is_next w) es) (filter (is_next w) es)))
  by true next rest =
      let kind = and_split e.dir (is_component e.name && has_rest (step_all w.rests e.name)) next in
      let on = and_split (is_component e.name) (has_rest (step_all w.rests e.name)) kind.1 in
      (heaviest_falls w.rests e.name on.1, rest)
  by false none rest = rest

-- No directory of a level is taller than the level.
tallest_at : (parts : List (List ℕ)) (level : List OnWay) (i : ℕ) (d : OnWay) → i < length level
    → heaviest (way_of parts (get_or level i d)).rests < tallest (ways_of parts level)
tallest_at parts [] i d inside = absurd (omega arith)
tallest_at parts (dir ∷ level) zero d inside = omega arith
tallest_at parts (dir ∷ level) (suc i) d inside =
    let rest = tallest_at parts level i d (omega arith) in omega arith

all_lower : (vs : List Way) (top : ℕ) → AllByRecursion (λ v. suc (heaviest v.rests) < top) vs → 0 < top
    → tallest vs < top
all_lower [] top lower some = some
all_lower (v ∷ vs) top lower some =
    let rest = all_lower vs top lower.1 some in let here = lower.0 in omega arith

-- How far a level is walked: the held paths and the count of failures, before and now, with what is found and the next
-- level so far.
pub record LevelWalk (parts : List (List ℕ)) (level : List OnWay) (start : List (List ℕ))
    (before now : Option (List (List ℕ))) (was count i : ℕ) (found : List (List ℕ)) (next : List OnWay) : Type 0 where
  pub same : now ≡ before
  pub later : was ≤ count
  pub far : IfSome before (λ held. (first : Way) → Walks held MOST_ENTRIES first start (ways_of parts level)
      → Walks held MOST_ENTRIES first found (ways_of parts (drop i level) ++ ways_of parts next))
  pub less : AllByRecursion (λ v. suc (heaviest v.rests) < tallest (ways_of parts level)) (ways_of parts next)

module _ (parts : List (List ℕ)) (level : List OnWay) (start : List (List ℕ)) where
  pub level_begins : (before : Option (List (List ℕ))) (was : ℕ) (next : List OnWay) → next ≡ []
      → LevelWalk parts level start before before was was 0 start next
  level_begins before was next none = record {
    same = refl;
    later = omega arith;
    far = if_each before (λ held. (first : Way) → Walks held MOST_ENTRIES first start (ways_of parts level)
        → Walks held MOST_ENTRIES first start (ways_of parts level ++ ways_of parts next))
        (λ held first walks. subst (λ ws. Walks held MOST_ENTRIES first start ws)
        (sym (ap (λ ns. ways_of parts level ++ ways_of parts ns) none ∙ append-nil (ways_of parts level))) walks);
    less = subst (λ ns. AllByRecursion (λ v. suc (heaviest v.rests) < tallest (ways_of parts level)) (ways_of parts ns))
        (sym none) tt;
  }

  module _ (before now : Option (List (List ℕ))) (was count i : ℕ) (found : List (List ℕ)) (next : List OnWay)
      (so : LevelWalk parts level start before now was count i found next) where
    module _ (dir : OnWay) (entries : List DirEntry) (inside : i < length level) (is : dir ≡ get_or level i dir) where
      left : List Way
      left = ways_of parts (drop (i + 1) level) ++ ways_of parts next

      here : (held : List (List ℕ)) (first : Way)
          → Walks held MOST_ENTRIES first found (ways_of parts (drop i level) ++ ways_of parts next)
          → Walks held MOST_ENTRIES first found
          (way_of parts dir ∷ (ways_of parts (drop (i + 1) level) ++ ways_of parts next))
      here held first walks =
          subst (λ ds. Walks held MOST_ENTRIES first found (ways_of parts ds ++ ways_of parts next))
          (drop-here level i dir inside is) walks

      -- One more directory is walked.
      pub level_onward : (then : Option (List (List ℕ))) (later : ℕ) (more : List (List ℕ)) (others : List OnWay)
          → IfSome now (λ held. ReadMeans held dir.path entries (Ok tt))
          → more ≡ found ++ found_at (way_of parts dir) entries
          → ways_of parts others ≡ ways_of parts next ++ ways_at (way_of parts dir) entries
          → then ≡ now → count ≤ later
          → LevelWalk parts level start before then was later (i + 1) more others
      level_onward then later more others read new ways kept rises = record {
        same = kept ∙ so.same;
        later = let l = so.later in omega arith;
        far = if_both before _ _ _ on so.far
            (subst (λ o. IfSome o (λ held. ReadMeans held dir.path entries (Ok tt))) so.same read);
        less = subst (λ vs. AllByRecursion (λ v. suc (heaviest v.rests) < tallest (ways_of parts level)) vs) (sym ways)
            (all_append (λ v. suc (heaviest v.rests) < tallest (ways_of parts level)) (ways_of parts next)
            (ways_at (way_of parts dir) entries) so.less
            (all_map (λ v. heaviest v.rests < heaviest (way_of parts dir).rests)
            (λ v. suc (heaviest v.rests) < tallest (ways_of parts level)) (λ v h. below v h)
            (ways_at (way_of parts dir) entries) (ways_lighter (way_of parts dir) entries)));
      } where
        tall : heaviest (way_of parts dir).rests < tallest (ways_of parts level)
        tall =
            subst (λ d. heaviest (way_of parts d).rests < tallest (ways_of parts level)) (sym is)
            (tallest_at parts level i dir inside)

        below : (v : Way) → heaviest v.rests < heaviest (way_of parts dir).rests
            → suc (heaviest v.rests) < tallest (ways_of parts level)
        below v h = let t = tall in omega arith

        on : (held : List (List ℕ)) → ((first : Way) → Walks held MOST_ENTRIES first start (ways_of parts level)
            → Walks held MOST_ENTRIES first found (ways_of parts (drop i level) ++ ways_of parts next))
            → ReadMeans held dir.path entries (Ok tt)
            → (first : Way) → Walks held MOST_ENTRIES first start (ways_of parts level)
            → Walks held MOST_ENTRIES first more (ways_of parts (drop (i + 1) level) ++ ways_of parts others)
        on held far given first walks =
            let rest = ways_of parts (drop (i + 1) level) in
            let w = way_of parts dir in
            let same_ways : (rest ++ ways_of parts next) ++ ways_at w entries ≡ rest ++ ways_of parts others =
            append_assoc rest (ways_of parts next) (ways_at w entries) ∙ ap (λ ws. rest ++ ws) (sym ways) in
            subst (λ ws. Walks held MOST_ENTRIES first more ws) same_ways
            (subst (λ fs. Walks held MOST_ENTRIES first fs ((rest ++ ways_of parts next) ++ ways_at w entries))
            (sym new)
            (walks_on held MOST_ENTRIES first found w (rest ++ ways_of parts next) entries given.0 given.1
            (here held first (far first walks))))

      -- A directory that isn't walked ends it.
      pub level_stops : (why : WalkError) → IfSome now (λ held. ReadMeans held dir.path entries (Err why))
          → IfSome before (λ held. (first : Way) → Walks held MOST_ENTRIES first start (ways_of parts level)
          → WalkEnds held first why)
      level_stops why read =
          if_both before _ _ _ off so.far
          (subst (λ o. IfSome o (λ held. ReadMeans held dir.path entries (Err why))) so.same read) where
            off : (held : List (List ℕ)) → ((first : Way) → Walks held MOST_ENTRIES first start (ways_of parts level)
                → Walks held MOST_ENTRIES first found (ways_of parts (drop i level) ++ ways_of parts next))
                → ReadMeans held dir.path entries (Err why)
                → (first : Way) → Walks held MOST_ENTRIES first start (ways_of parts level) → WalkEnds held first why
            off held far given first walks = by why given where
              leads : Leads first dir.path
              leads =
                  walks_here held MOST_ENTRIES first found (way_of parts dir)
                  (ways_of parts (drop (i + 1) level) ++ ways_of parts next) (here held first (far first walks))

              by : (w : WalkError) → ReadMeans held dir.path entries (Err w) → WalkEnds held first w
              by WalkError.TooMany many = (dir.path, leads, many)
              by (WalkError.Failed failed) same = subst (λ d. Leads first d) (sym same) leads
              by WalkError.OutOfMemory given = tt

    -- Where all are walked, the next level is left.
    pub level_ends : length level ≤ i
        → IfSome before (λ held. (first : Way) → Walks held MOST_ENTRIES first start (ways_of parts level)
        → Walks held MOST_ENTRIES first found (ways_of parts next))
    level_ends past =
        IfSome_then before so.far (λ held far first walks.
        subst (λ ds. Walks held MOST_ENTRIES first found (ways_of parts ds ++ ways_of parts next))
        (drop_all i level past) (far first walks))

    pub level_falls : 0 < length level → tallest (ways_of parts next) < tallest (ways_of parts level)
    level_falls some =
        all_lower (ways_of parts next) (tallest (ways_of parts level)) so.less (top level some) where
          top : (ds : List OnWay) → 0 < length ds → 0 < tallest (ways_of parts ds)
          top [] none = absurd (omega arith)
          top (d ∷ ds) some = omega arith

-- How far all levels are walked.
pub record AllWalk (parts : List (List ℕ)) (first : Way) (before now : Option (List (List ℕ))) (was count : ℕ)
    (found : List (List ℕ)) (level : List OnWay) : Type 0 where
  pub same : now ≡ before
  pub later : was ≤ count
  pub far : IfSome before (λ held. has_rest first.rests ≡ true
      → Walks held MOST_ENTRIES first found (ways_of parts level))

pub walk_begins : (parts : List (List ℕ)) (first : OnWay) (before : Option (List (List ℕ))) (was : ℕ)
    (found : List (List ℕ)) (level : List OnWay) → found ≡ [] → level ≡ first ∷ []
    → AllWalk parts (way_of parts first) before before was was found level
walk_begins parts first before was found level none one = record {
  same = refl;
  later = omega arith;
  far = if_each before (λ held. has_rest (way_of parts first).rests ≡ true
      → Walks held MOST_ENTRIES (way_of parts first) found (ways_of parts level))
      (λ held on. subst (λ fs. Walks held MOST_ENTRIES (way_of parts first) fs (ways_of parts level)) (sym none)
      (subst (λ ds. Walks held MOST_ENTRIES (way_of parts first) [] (ways_of parts ds)) (sym one)
      (walks_begin held MOST_ENTRIES (way_of parts first) on)));
}

module _ (parts : List (List ℕ)) (first : Way) (before now : Option (List (List ℕ))) (was count : ℕ)
    (found : List (List ℕ)) (level : List OnWay) (so : AllWalk parts first before now was count found level) where
  -- One more level is walked.
  pub walk_onward : (then : Option (List (List ℕ))) (later : ℕ) (more : List (List ℕ)) (next : List OnWay)
      → IfSome now (λ held. (f : Way) → Walks held MOST_ENTRIES f found (ways_of parts level)
      → Walks held MOST_ENTRIES f more (ways_of parts next))
      → then ≡ now → count ≤ later → AllWalk parts first before then was later more next
  walk_onward then later more next walked kept rises = record {
    same = kept ∙ so.same;
    later = let l = so.later in omega arith;
    far = if_both before _ _ _ (λ held far given on. given first (far on)) so.far
        (subst (λ o. IfSome o (λ held. (f : Way) → Walks held MOST_ENTRIES f found (ways_of parts level)
        → Walks held MOST_ENTRIES f more (ways_of parts next))) so.same walked);
  }

  -- A level that isn't walked ends it.
  pub walk_stops : (why : WalkError)
      → IfSome now (λ held. (f : Way) → Walks held MOST_ENTRIES f found (ways_of parts level) → WalkEnds held f why)
      → IfSome before (λ held. has_rest first.rests ≡ true → WalkEnds held first why)
  walk_stops why walked =
      if_both before _ _ _ (λ held far given on. given first (far on)) so.far
      (subst (λ o. IfSome o (λ held. (f : Way) → Walks held MOST_ENTRIES f found (ways_of parts level)
      → WalkEnds held f why)) so.same walked)

  -- Where no directory is left, all is found.
  pub walk_ends : level ≡ []
      → IfSome before (λ held. has_rest first.rests ≡ true → Walks held MOST_ENTRIES first found [])
  walk_ends none =
      IfSome_then before so.far (λ held far on.
      subst (λ ds. Walks held MOST_ENTRIES first found (ways_of parts ds)) none (far on))

-- A cause from a later moment on is one from an earlier on.
module _ {T U : Type 0} where
  pub cause_before : (was count now : ℕ) (why : WalkError) → was ≤ count → WalkCause {T = T} count now (Err why)
      → WalkCause {T = U} was now (Err why)
  cause_before was count now why rises cause = record {
    later = let l = cause.later in omega arith;
    rose = by why cause.rose;
  } where
    by : (w : WalkError) → FailsOnlyWhere {T = T} (Rose count now) (Err w)
        → FailsOnlyWhere {T = U} (Rose was now) (Err w)
    by WalkError.TooMany h = tt
    by (WalkError.Failed failed) h = omega arith
    by WalkError.OutOfMemory h = tt
