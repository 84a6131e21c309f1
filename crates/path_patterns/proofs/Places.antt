-- Rows of places as what is left of the pattern, one place after another, and the entries of a directory likewise.
use Rattle.std.proofs.Common.{◌≡◌, ◌<◌, ◌≤◌, ◌+◌, ◌++◌, ℕ, List, [], ◌∷◌, length, drop, get_or, Bool, true, false, cond}
use Rattle.std.proofs.Common.{map, refl, sym, ap, ◌∙◌, append_assoc, append-nil}
use Rattle.std.specs.Prelude.{◌||◌, not, if◌then◌else◌}
use Rattle.std.specs.List.{filter}
use Rattle.std.proofs.lemmas.List.{drop_more, drop_all}
use Rattle.bp_faults.proofs.Lists.{drop-here}
use Rattle.dir_entries.specs.declared.entry.DirEntry.{DirEntry}
use Rattle.path_patterns.specs.declared.row.Reached.{Reached}
use Rattle.path_patterns.specs.Globs.{has_none, fits}
use Rattle.path_patterns.specs.Parts.{goes_deep, Rest, skip_one, step_parts, step_rest, step_all, is_done, has_rest}
use Rattle.path_patterns.specs.Rows.{rests_of}
use Rattle.path_patterns.specs.Ways.{Way, is_hit, is_next, path_in, way_to, found_at, ways_at}

module _ (parts : List (List ℕ)) (row : List Reached) (i : ℕ) (d : Reached) (inside : i < length row) where
  outside : length parts ≤ (get_or row i d).at → has_none (drop (get_or row i d).at parts) ≡ true
  outside past = ap has_none (drop_all (get_or row i d).at parts past)

  within : (get_or row i d).at < length parts → has_none (drop (get_or row i d).at parts) ≡ false
  within before = ap has_none (drop_more parts (get_or row i d).at [] before)

  -- A place at the pattern's end makes the row done, and any other leaves it as it was.
  pub done_here : length parts ≤ (get_or row i d).at → is_done (rests_of parts (drop i row)) ≡ true
  done_here past =
      ap (λ r. is_done (rests_of parts r)) (drop_more row i d inside)
      ∙ ap (λ b. b || is_done (rests_of parts (drop (i + 1) row))) (outside past)

  pub done_past : (get_or row i d).at < length parts
      → is_done (rests_of parts (drop i row)) ≡ is_done (rests_of parts (drop (i + 1) row))
  done_past before =
      ap (λ r. is_done (rests_of parts r)) (drop_more row i d inside)
      ∙ ap (λ b. b || is_done (rests_of parts (drop (i + 1) row))) (within before)

  -- A place before the end leaves something, and any other nothing more.
  pub on_here : (get_or row i d).at < length parts → has_rest (rests_of parts (drop i row)) ≡ true
  on_here before =
      ap (λ r. has_rest (rests_of parts r)) (drop_more row i d inside)
      ∙ ap (λ b. not b || has_rest (rests_of parts (drop (i + 1) row))) (within before)

  pub on_past : length parts ≤ (get_or row i d).at
      → has_rest (rests_of parts (drop i row)) ≡ has_rest (rests_of parts (drop (i + 1) row))
  on_past past =
      ap (λ r. has_rest (rests_of parts r)) (drop_more row i d inside)
      ∙ ap (λ b. not b || has_rest (rests_of parts (drop (i + 1) row))) (outside past)

  -- What the place leaves is put behind what those before it leave.
  pub row_onward : (n : List ℕ) (was now all : List Rest)
      → now ≡ was ++ step_rest (get_or row i d).skips (drop (get_or row i d).at parts) n
      → was ++ step_all (rests_of parts (drop i row)) n ≡ all
      → now ++ step_all (rests_of parts (drop (i + 1) row)) n ≡ all
  row_onward n was now all new so =
      let one = step_rest (get_or row i d).skips (drop (get_or row i d).at parts) n in
      let others = step_all (rests_of parts (drop (i + 1) row)) n in
      ap (λ rs. rs ++ others) new ∙ append_assoc was one others
      ∙ sym (ap (λ r. was ++ step_all (rests_of parts r) n) (drop_more row i d inside)) ∙ so

pub row_end : (parts : List (List ℕ)) (row : List Reached) (i : ℕ) (n : List ℕ) (was all : List Rest) → length row ≤ i
    → was ++ step_all (rests_of parts (drop i row)) n ≡ all → was ≡ all
row_end parts row i n was all past so =
    sym (append-nil was) ∙ sym (ap (λ r. was ++ step_all (rests_of parts r) n) (drop_all i row past)) ∙ so

module _ (parts : List (List ℕ)) (at : ℕ) (n : List ℕ) (was now all : List Rest) where
  deep_parts : at < length parts → goes_deep (get_or parts at []) (drop (at + 1) parts) ≡ true
      → step_parts (drop at parts) n ≡ skip_one 64 (drop (at + 1) parts) n ++ step_parts (drop (at + 1) parts) n
  deep_parts inside deep =
      ap (λ qs. step_parts qs n) (drop_more parts at [] inside)
      ∙ ap (λ b. if b then skip_one 64 (drop (at + 1) parts) n ++ step_parts (drop (at + 1) parts) n
      else if fits (get_or parts at []) n then (0, drop (at + 1) parts) ∷ [] else []) deep

  one_part : (fit : Bool) → at < length parts → goes_deep (get_or parts at []) (drop (at + 1) parts) ≡ false
      → fits (get_or parts at []) n ≡ fit
      → step_parts (drop at parts) n ≡ (if fit then (0, drop (at + 1) parts) ∷ [] else [])
  one_part fit inside plain e =
      ap (λ qs. step_parts qs n) (drop_more parts at [] inside)
      ∙ ap (λ b. if b then skip_one 64 (drop (at + 1) parts) n ++ step_parts (drop (at + 1) parts) n
      else if fits (get_or parts at []) n then (0, drop (at + 1) parts) ∷ [] else []) plain
      ∙ ap (λ b. if b then (0, drop (at + 1) parts) ∷ [] else []) e

  -- A component that goes deep may be skipped.
  pub parts_onward : at < length parts → goes_deep (get_or parts at []) (drop (at + 1) parts) ≡ true
      → now ≡ was ++ skip_one 64 (drop (at + 1) parts) n → was ++ step_parts (drop at parts) n ≡ all
      → now ++ step_parts (drop (at + 1) parts) n ≡ all
  parts_onward inside deep new so =
      let one = skip_one 64 (drop (at + 1) parts) n in
      let others = step_parts (drop (at + 1) parts) n in
      ap (λ rs. rs ++ others) new ∙ append_assoc was one others
      ∙ sym (ap (λ rs. was ++ rs) (deep_parts inside deep)) ∙ so

  -- Any other is the last that is looked at.
  pub parts_fit : at < length parts → goes_deep (get_or parts at []) (drop (at + 1) parts) ≡ false
      → fits (get_or parts at []) n ≡ true → now ≡ was ++ (0, drop (at + 1) parts) ∷ []
      → was ++ step_parts (drop at parts) n ≡ all → now ≡ all
  parts_fit inside plain fit new so = new ∙ sym (ap (λ rs. was ++ rs) (one_part true inside plain fit)) ∙ so

  pub parts_unfit : at < length parts → goes_deep (get_or parts at []) (drop (at + 1) parts) ≡ false
      → fits (get_or parts at []) n ≡ false → was ++ step_parts (drop at parts) n ≡ all → was ≡ all
  parts_unfit inside plain unfit so =
      sym (append-nil was) ∙ sym (ap (λ rs. was ++ rs) (one_part false inside plain unfit)) ∙ so

  pub parts_end : length parts ≤ at → was ++ step_parts (drop at parts) n ≡ all → was ≡ all
  parts_end past so = sym (append-nil was) ∙ sym (ap (λ qs. was ++ step_parts qs n) (drop_all at parts past)) ∙ so

-- What is left of a pattern leaves what may be skipped, and then what its components leave.
pub rest_inside : (parts : List (List ℕ)) (at most : ℕ) (n : List ℕ) (was skipped now : List Rest) → at < length parts
    → skipped ≡ was ++ skip_one most (drop at parts) n → now ≡ skipped ++ step_parts (drop at parts) n
    → now ≡ was ++ step_rest most (drop at parts) n
rest_inside parts at most n was skipped now inside first second =
    second ∙ ap (λ rs. rs ++ step_parts (drop at parts) n) first
    ∙ append_assoc was (skip_one most (drop at parts) n) (step_parts (drop at parts) n)
    ∙ ap (λ rs. was ++ rs) (sym split) where
      split : step_rest most (drop at parts) n ≡ skip_one most (drop at parts) n ++ step_parts (drop at parts) n
      split =
          ap (λ qs. step_rest most qs n) (drop_more parts at [] inside)
          ∙ ap (λ qs. skip_one most qs n ++ step_parts qs n) (sym (drop_more parts at [] inside))

pub rest_outside : (parts : List (List ℕ)) (at most : ℕ) (n : List ℕ) (was : List Rest) → length parts ≤ at
    → was ≡ was ++ step_rest most (drop at parts) n
rest_outside parts at most n was past =
    sym (append-nil was) ∙ ap (λ qs. was ++ step_rest most qs n) (sym (drop_all at parts past))

module _ (w : Way) where
  found_first : (e : DirEntry) (es : List DirEntry)
      → found_at w (e ∷ es) ≡ (if is_hit w e then path_in w e ∷ [] else []) ++ found_at w es
  found_first e es = by (is_hit w e) where
    by : (b : Bool) → map (path_in w) (cond b (e ∷ filter (is_hit w) es) (filter (is_hit w) es))
        ≡ (if b then path_in w e ∷ [] else []) ++ found_at w es
    by true = refl
    by false = refl

  ways_first : (e : DirEntry) (es : List DirEntry)
      → ways_at w (e ∷ es) ≡ (if is_next w e then way_to w e ∷ [] else []) ++ ways_at w es
  ways_first e es = by (is_next w e) where
    by : (b : Bool) → map (way_to w) (cond b (e ∷ filter (is_next w) es) (filter (is_next w) es))
        ≡ (if b then way_to w e ∷ [] else []) ++ ways_at w es
    by true = refl
    by false = refl

  module _ (entries : List DirEntry) (i : ℕ) (e : DirEntry) (inside : i < length entries)
      (is : e ≡ get_or entries i e) where
    -- What is found at an entry is put behind what was found before it.
    pub found_onward : (was now all : List (List ℕ)) → now ≡ was ++ (if is_hit w e then path_in w e ∷ [] else [])
        → was ++ found_at w (drop i entries) ≡ all → now ++ found_at w (drop (i + 1) entries) ≡ all
    found_onward was now all new so =
        let one = if is_hit w e then path_in w e ∷ [] else [] in
        let others = found_at w (drop (i + 1) entries) in
        ap (λ rs. rs ++ others) new ∙ append_assoc was one others
        ∙ sym (ap (λ es. was ++ found_at w es) (drop-here entries i e inside is)
        ∙ ap (λ rs. was ++ rs) (found_first e (drop (i + 1) entries))) ∙ so

    pub ways_onward : (was now all : List Way) → now ≡ was ++ (if is_next w e then way_to w e ∷ [] else [])
        → was ++ ways_at w (drop i entries) ≡ all → now ++ ways_at w (drop (i + 1) entries) ≡ all
    ways_onward was now all new so =
        let one = if is_next w e then way_to w e ∷ [] else [] in
        let others = ways_at w (drop (i + 1) entries) in
        ap (λ rs. rs ++ others) new ∙ append_assoc was one others
        ∙ sym (ap (λ es. was ++ ways_at w es) (drop-here entries i e inside is)
        ∙ ap (λ rs. was ++ rs) (ways_first e (drop (i + 1) entries))) ∙ so

  pub found_end : (entries : List DirEntry) (i : ℕ) (was all : List (List ℕ)) → length entries ≤ i
      → was ++ found_at w (drop i entries) ≡ all → was ≡ all
  found_end entries i was all past so =
      sym (append-nil was) ∙ sym (ap (λ es. was ++ found_at w es) (drop_all i entries past)) ∙ so

  pub ways_end : (entries : List DirEntry) (i : ℕ) (was all : List Way) → length entries ≤ i
      → was ++ ways_at w (drop i entries) ≡ all → was ≡ all
  ways_end entries i was all past so =
      sym (append-nil was) ∙ sym (ap (λ es. was ++ ways_at w es) (drop_all i entries past)) ∙ so
