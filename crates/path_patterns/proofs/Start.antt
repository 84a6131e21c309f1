-- Where the walk begins: at the directory of the components before the first with `*`. What lies below it by the
-- others is what the pattern matches, and what is walked from it is what the pattern walks.
use Rattle.std.proofs.Common.{◌≡◌, ◌≢◌, ◌++◌, ◌==◌, inl, inr, ℕ, Bool, true, false, List, [], ◌∷◌, refl, sym, ap, ◌∙◌}
use Rattle.std.specs.Prelude.{◌&&◌, ◌||◌, not, if◌then◌else◌}
use Rattle.std.specs.List.{list_all, AllByRecursion}
use Rattle.std.proofs.Math.Bool.{true≢false}
use Rattle.std.proofs.lemmas.Bool.Decides.{Decides-eqb}
use Rattle.bp_faults.specs.Paths.{is_component, is_normal}
use Rattle.bp_faults.proofs.Lists.{same_bytes}
use Rattle.dir_entries.specs.Below.{names_of, has_slash, child}
use Rattle.path_patterns.proofs.Below.{names_begin, names_whole, normal_below, list_all-append}
use Rattle.path_patterns.specs.Globs.{is_star, has_star, star, next, glob, is_hidden, fits}
use Rattle.path_patterns.specs.Parts.{goes_deep, deep, first_fits, all_fit, leads, some_fit}
use Rattle.path_patterns.specs.Matches.{is_clear, IsMatch, plain_parts, starred_parts, NamesTo, IsWalked}
use Rattle.path_patterns.specs.Levels.{descend, first_way}
use Rattle.path_patterns.specs.Ways.{Way, Finds, Leads}
use Rattle.path_patterns.proofs.Moves.{and_split, and_join, first_of_names, names_behind}
use Rattle.path_patterns.proofs.Steps.{at_once, parts_fit_none}

or_split : (a b : Bool) → (a || b) ≡ false → (a ≡ false) × (b ≡ false)
or_split true b h = absurd (true≢false h)
or_split false b h = (refl, h)

or_false : (a : Bool) → (a || false) ≡ a
or_false true = refl
or_false false = refl

-- Without a `*`, a component fits itself.
glob_self : (p : List ℕ) → has_star p ≡ false → glob p p ≡ true
glob_self [] plain = refl
glob_self (c ∷ cs) plain =
    let two = or_split (is_star c) (has_star cs) plain in by (is_star c) two.0 (glob_self cs two.1) where
      by : (b : Bool) → b ≡ false → glob cs cs ≡ true
          → (if b then star (glob cs) (c ∷ cs) else next c (glob cs) (c ∷ cs)) ≡ true
      by true h rest = absurd (true≢false h)
      by false h rest = and_join (c == c) (glob cs cs) ((Decides-eqb c c).1 refl) rest

-- And nothing else.
glob_only : (p name : List ℕ) → has_star p ≡ false → glob p name ≡ true → p ≡ name
glob_only [] [] plain h = refl
glob_only [] (d ∷ ds) plain h = absurd (true≢false (sym h))
glob_only (c ∷ cs) name plain h =
    let two = or_split (is_star c) (has_star cs) plain in
    by (λ ds k. glob_only cs ds two.1 k) (is_star c) two.0 name h where
      first : ((ds : List ℕ) → glob cs ds ≡ true → cs ≡ ds) → (name : List ℕ) → next c (glob cs) name ≡ true
          → (c ∷ cs) ≡ name
      first rest [] k = absurd (true≢false (sym k))
      first rest (d ∷ ds) k =
          let two = and_split (d == c) (glob cs ds) k in
          let same : d ≡ c = (Decides-eqb d c).0 two.0 in
          let others : cs ≡ ds = rest ds two.1 in
          cc

      by : ((ds : List ℕ) → glob cs ds ≡ true → cs ≡ ds) → (b : Bool) → b ≡ false → (name : List ℕ)
          → (if b then star (glob cs) name else next c (glob cs) name) ≡ true → (c ∷ cs) ≡ name
      by rest true none name k = absurd (true≢false none)
      by rest false none name k = first rest name k

fits_self : (p : List ℕ) → has_star p ≡ false → fits p p ≡ true
fits_self p plain =
    and_join (glob p p) (is_hidden p || not (is_hidden p)) (glob_self p plain) (either (is_hidden p)) where
      either : (b : Bool) → (b || not b) ≡ true
      either true = refl
      either false = refl

plain_not_deep : (p : List ℕ) (ps : List (List ℕ)) → has_star p ≡ false → goes_deep p ps ≡ false
plain_not_deep p [] plain = refl
plain_not_deep p (q ∷ qs) plain = by (goes_deep p (q ∷ qs)) refl where
  by : (b : Bool) → goes_deep p (q ∷ qs) ≡ b → b ≡ false
  by true e = sym (sym plain ∙ ap has_star (same_bytes p (42 ∷ 42 ∷ []) e))
  by false e = refl

-- The names begin with the components before the first `*`, and the others fit the other names.
pub record Fitted (ps names : List (List ℕ)) : Type 0 where
  pub more : List (List ℕ)
  pub is : names ≡ plain_parts ps ++ more
  pub fits : all_fit (starred_parts ps) more ≡ true

pub fitted : (ps names : List (List ℕ)) → all_fit ps names ≡ true → Fitted ps names
fitted [] names h = record { more = names; is = refl; fits = h }
fitted (p ∷ ps) names h = by (λ ns k. fitted ps ns k) (has_star p) refl where
  next_name : ((ns : List (List ℕ)) → all_fit ps ns ≡ true → Fitted ps ns) → has_star p ≡ false
      → (names : List (List ℕ)) → first_fits p (all_fit ps) names ≡ true
      → (more : List (List ℕ)) × (names ≡ p ∷ (plain_parts ps ++ more)) × (all_fit (starred_parts ps) more ≡ true)
  next_name rest plain [] k = absurd (true≢false (sym k))
  next_name rest plain (n ∷ ns) k =
      let two = and_split (fits p n) (all_fit ps ns) k in
      let same : p ≡ n = glob_only p n plain (and_split (glob p n) (is_hidden p || not (is_hidden n)) two.0).0 in
      let f = rest ns two.1 in
      (f.more, (λ i. sym same i ∷ f.is i), f.fits)

  one_fits : has_star p ≡ false → first_fits p (all_fit ps) names ≡ true
  one_fits plain =
      ap (λ b. if b then deep 64 (all_fit ps) names else first_fits p (all_fit ps) names)
      (sym (plain_not_deep p ps plain))
      ∙ h

  by : ((ns : List (List ℕ)) → all_fit ps ns ≡ true → Fitted ps ns) → (b : Bool) → has_star p ≡ b
      → Fitted (p ∷ ps) names
  by rest true e = record {
    more = names;
    is = ap (λ b. (if b then [] else p ∷ plain_parts ps) ++ names) (sym e);
    fits = ap (λ b. all_fit (if b then p ∷ ps else starred_parts ps) names) e ∙ h;
  }
  by rest false e =
      let r = next_name rest e names (one_fits e) in
      record {
        more = r.0;
        is = r.1 ∙ ap (λ b. (if b then [] else p ∷ plain_parts ps) ++ r.0) (sym e);
        fits = ap (λ b. all_fit (if b then p ∷ ps else starred_parts ps) r.0) e ∙ r.2;
      }

-- And where they begin so, the whole pattern fits.
pub refitted : (ps more : List (List ℕ)) → all_fit (starred_parts ps) more ≡ true
    → all_fit ps (plain_parts ps ++ more) ≡ true
refitted [] more h = h
refitted (p ∷ ps) more h = by (λ k. refitted ps more k) (has_star p) refl where
  by : (all_fit (starred_parts ps) more ≡ true → all_fit ps (plain_parts ps ++ more) ≡ true) → (b : Bool)
      → has_star p ≡ b → all_fit (p ∷ ps) (plain_parts (p ∷ ps) ++ more) ≡ true
  by others true e =
      ap (λ b. all_fit (p ∷ ps) ((if b then [] else p ∷ plain_parts ps) ++ more)) e
      ∙ ap (λ b. all_fit (if b then p ∷ ps else starred_parts ps) more) (sym e) ∙ h
  by others false e =
      let rest : all_fit (starred_parts ps) more ≡ true =
      ap (λ b. all_fit (if b then p ∷ ps else starred_parts ps) more) (sym e) ∙ h in
      let names = plain_parts ps ++ more in
      ap (λ b. all_fit (p ∷ ps) ((if b then [] else p ∷ plain_parts ps) ++ more)) e
      ∙ ap (λ b. if b then deep 64 (all_fit ps) (p ∷ names) else first_fits p (all_fit ps) (p ∷ names))
      (plain_not_deep p ps e)
      ∙ and_join (fits p p) (all_fit ps names) (fits_self p e) (others rest)

names_down : (dir path : List ℕ) (plain more : List (List ℕ)) → list_all is_component plain ≡ true
    → NamesTo dir path (plain ++ more) → NamesTo (descend dir plain) path more
names_down dir path [] more named to = to
names_down dir path (n ∷ ns) more named to =
    let two = and_split (is_component n) (list_all is_component ns) named in
    names_down (child dir n) path ns more two.1 (first_of_names dir path n (ns ++ more) two.0 to).to

names_up : (dir path : List ℕ) (plain more : List (List ℕ)) → list_all is_component plain ≡ true
    → AllByRecursion (λ name. has_slash name ≡ false) plain → NamesTo (descend dir plain) path more
    → NamesTo dir path (plain ++ more)
names_up dir path [] more named whole to = to
names_up dir path (n ∷ ns) more named whole to =
    let two = and_split (is_component n) (list_all is_component ns) named in
    names_behind dir path n (ns ++ more) two.0 whole.0 (names_up (child dir n) path ns more two.1 whole.1 to)

plain_whole : (ps : List (List ℕ)) → AllByRecursion (λ name. has_slash name ≡ false) ps
    → AllByRecursion (λ name. has_slash name ≡ false) (plain_parts ps)
plain_whole [] h = tt
plain_whole (p ∷ ps) h = by (has_star p) (plain_whole ps h.1) where
  by : (b : Bool) → AllByRecursion (λ name. has_slash name ≡ false) (plain_parts ps)
      → AllByRecursion (λ name. has_slash name ≡ false) (if b then [] else p ∷ plain_parts ps)
  by true rest = tt
  by false rest = (h.0, rest)

-- A path is in normal form where the names to it are components.
pub normal_names : (dir path : List ℕ) (names : List (List ℕ)) → is_normal dir ≡ true → NamesTo dir path names
    → is_normal path ≡ list_all is_component names
normal_names dir path names normal (inl (at, none)) =
    ap is_normal at ∙ normal ∙ sym (ap (list_all is_component) none)
normal_names dir path names normal (inr (rest, below, is)) =
    normal_below dir path rest normal below ∙ ap (list_all is_component) (sym is)

module _ (dir tail : List ℕ) (normal : is_normal dir ≡ true) where
  -- Where a component before the first `*` is none of a path, nothing is walked.
  pub walked_named : (walked : List ℕ) → IsWalked dir tail walked
      → list_all is_component (plain_parts (names_of tail)) ≡ true
  walked_named walked k =
      (and_split (list_all is_component (plain_parts (names_of tail))) (list_all is_component k.more)
      (sym (list_all-append is_component (plain_parts (names_of tail)) k.more)
      ∙ sym (normal_names dir walked (plain_parts (names_of tail) ++ k.more) normal k.to) ∙ k.normal)).0

  -- And nothing matches.
  pub match_named : (held : List (List ℕ)) (path : List ℕ) → IsMatch held dir tail path
      → list_all is_component (plain_parts (names_of tail)) ≡ true
  match_named held path m =
      let f = fitted (names_of tail) (names_of m.rest) m.fits in
      (and_split (list_all is_component (plain_parts (names_of tail))) (list_all is_component f.more)
      (sym (list_all-append is_component (plain_parts (names_of tail)) f.more)
      ∙ sym (ap (list_all is_component) f.is)
      ∙ sym (normal_below dir path m.rest normal m.below) ∙ m.normal)).0

module _ (dir tail : List ℕ) (normal : is_normal dir ≡ true)
    (named : list_all is_component (plain_parts (names_of tail)) ≡ true)
    (p : List ℕ) (ps : List (List ℕ)) (starred : starred_parts (names_of tail) ≡ p ∷ ps) where
  -- The first directory on the way.
  abbrev pub start : Way
  start = first_way dir (names_of tail)

  whole : AllByRecursion (λ name. has_slash name ≡ false) (plain_parts (names_of tail))
  whole = plain_whole (names_of tail) (names_whole tail)

  fits_first : (F : List (List ℕ) → List (List ℕ) → Bool) (names : List (List ℕ))
      → some_fit F ((0, starred_parts (names_of tail)) ∷ []) names ≡ F (p ∷ ps) names
  fits_first F names =
      ap (λ qs. some_fit F ((0, qs) ∷ []) names) starred
      ∙ or_false (deep 0 (F (p ∷ ps)) names) ∙ at_once F (p ∷ ps) names

  pub walked_leads : (walked : List ℕ) → IsWalked dir tail walked → Leads start walked
  walked_leads walked k = record {
    names = k.more;
    to = names_down dir walked (plain_parts (names_of tail)) k.more named k.to;
    named = (and_split (list_all is_component (plain_parts (names_of tail))) (list_all is_component k.more)
        (sym (list_all-append is_component (plain_parts (names_of tail)) k.more)
        ∙ sym (normal_names dir walked (plain_parts (names_of tail) ++ k.more) normal k.to) ∙ k.normal)).1;
    leads = fits_first leads k.more ∙ ap (λ qs. leads qs k.more) (sym starred) ∙ k.leads;
  }

  pub leads_walked : (walked : List ℕ) → Leads start walked → IsWalked dir tail walked
  leads_walked walked l =
      let to = names_up dir walked (plain_parts (names_of tail)) l.names named whole l.to in
      record {
        normal = normal_names dir walked (plain_parts (names_of tail) ++ l.names) normal to
            ∙ list_all-append is_component (plain_parts (names_of tail)) l.names
            ∙ and_join (list_all is_component (plain_parts (names_of tail)))
            (list_all is_component l.names) named l.named;
        more = l.names;
        to = to;
        leads = ap (λ qs. leads qs l.names) starred ∙ sym (fits_first leads l.names) ∙ l.leads;
      }

  pub match_finds : (held : List (List ℕ)) (path : List ℕ) → IsMatch held dir tail path → Finds held start path
  match_finds held path m = by f.more refl (names_down dir path (plain_parts (names_of tail)) f.more named
      (inr (m.rest, m.below, sym f.is))) where
        f : Fitted (names_of tail) (names_of m.rest)
        f = fitted (names_of tail) (names_of m.rest) m.fits

        by : (more : List (List ℕ)) → f.more ≡ more → NamesTo (descend dir (plain_parts (names_of tail))) path f.more
            → Finds held start path
        by more e (inl (at, none)) =
            absurd (true≢false (sym f.fits ∙ ap (λ ns. all_fit (starred_parts (names_of tail)) ns) none
            ∙ ap (λ qs. all_fit qs []) starred ∙ parts_fit_none p ps))
        by more e (inr (rest, below, is)) =
            let parts = plain_parts (names_of tail) in
            let clear : (list_all is_clear parts && list_all is_clear f.more) ≡ true =
            sym (list_all-append is_clear parts f.more) ∙ sym (ap (list_all is_clear) f.is) ∙ m.clear in
            record {
              holds = m.holds;
              rest = rest;
              below = below;
              named = ap (list_all is_component) (sym is)
                  ∙ (and_split (list_all is_component parts) (list_all is_component f.more)
                  (sym (list_all-append is_component parts f.more) ∙ sym (ap (list_all is_component) f.is)
                  ∙ sym (normal_below dir path m.rest normal m.below) ∙ m.normal)).1;
              clear = ap (λ ns. list_all is_clear parts && list_all is_clear ns) (sym is) ∙ clear;
              fits = fits_first all_fit (names_of rest) ∙ ap (all_fit (p ∷ ps)) (sym is)
                  ∙ ap (λ qs. all_fit qs f.more) (sym starred) ∙ f.fits;
            }

  pub finds_match : (held : List (List ℕ)) (path : List ℕ) → Finds held start path → IsMatch held dir tail path
  finds_match held path f = by (names_up dir path (plain_parts (names_of tail)) (names_of f.rest) named whole
      (inr (f.rest, f.below, refl))) where
        some : (xs : List (List ℕ)) → (xs ++ names_of f.rest) ≢ []
        some [] = λ e. let begin = names_begin f.rest in let z = sym begin.2 ∙ e in cc
        some (x ∷ xs) = λ e. cc

        by : NamesTo dir path (plain_parts (names_of tail) ++ names_of f.rest) → IsMatch held dir tail path
        by (inl (at, none)) = absurd (some (plain_parts (names_of tail)) none)
        by (inr (rest, below, is)) = record {
          holds = f.holds;
          normal = normal_below dir path rest normal below ∙ ap (list_all is_component) (sym is)
              ∙ list_all-append is_component (plain_parts (names_of tail)) (names_of f.rest)
              ∙ and_join (list_all is_component (plain_parts (names_of tail))) (list_all is_component (names_of f.rest))
              named f.named;
          rest = rest;
          below = below;
          clear = ap (list_all is_clear) (sym is)
              ∙ list_all-append is_clear (plain_parts (names_of tail)) (names_of f.rest) ∙ f.clear;
          fits = ap (all_fit (names_of tail)) (sym is)
              ∙ refitted (names_of tail) (names_of f.rest)
              (ap (λ qs. all_fit qs (names_of f.rest)) starred ∙ sym (fits_first all_fit (names_of f.rest)) ∙ f.fits);
        }
