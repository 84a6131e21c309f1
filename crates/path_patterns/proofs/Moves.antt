-- One step of the walk: what lies below a directory on the way is found in it, or lies below a directory to which it
-- leads.
use Rattle.std.proofs.Common.{◌≡◌, ◌≢◌, ◌++◌, ◌⊎◌, inl, inr, ℕ, Bool, true, false, List, [], ◌∷◌, refl, sym, ap, ◌∙◌}
use Rattle.std.proofs.Common.{subst, append_assoc}
use Rattle.std.specs.Prelude.{◌&&◌, not}
use Rattle.std.specs.List.{list_all, Contains}
use Rattle.std.proofs.Math.Bool.{true≢false}
use Rattle.bp_faults.specs.Paths.{is_component}
use Rattle.dir_entries.specs.declared.entry.DirEntry.{DirEntry}
use Rattle.dir_entries.specs.Below.{names_of, has_slash, LiesBelow, child}
use Rattle.dir_entries.specs.Entries.{Begins, IsDirEntry, AreEntries}
use Rattle.path_patterns.proofs.Below.{Cut, cut, names_begin, names_one, names_more, below_child, below_parent}
use Rattle.path_patterns.proofs.Below.{child_below, child_only}
use Rattle.path_patterns.proofs.Below.{component_some}
use Rattle.path_patterns.specs.Matches.{is_clear, NamesTo}
use Rattle.path_patterns.specs.Parts.{all_fit, leads, step_all, some_fit, is_done, has_rest}
use Rattle.path_patterns.specs.Ways.{Way, is_hit, is_next, path_in, way_to, found_at, ways_at, Finds, Leads}
use Rattle.path_patterns.specs.Levels.{Among}
use Rattle.path_patterns.proofs.Among.{contained_among, among_contained, among_made, Source, among_source}
use Rattle.path_patterns.proofs.Steps.{all_fit-stepwise, leads-stepwise, steps_all, fits_none, has_rest-fits}

pub and_split : (a b : Bool) → (a && b) ≡ true → (a ≡ true) × (b ≡ true)
and_split true b h = (refl, h)
and_split false b h = absurd (true≢false (sym h))

pub and_join : (a b : Bool) → a ≡ true → b ≡ true → (a && b) ≡ true
and_join a b h k = ap (λ c. c && b) h ∙ k

is_file : (dir : Bool) → not dir ≡ true → dir ≡ false
is_file true h = absurd (true≢false (sym h))
is_file false h = refl

file_begins : (rest name : List ℕ) (dir : Bool) → dir ≡ false → Begins rest name dir → rest ≡ name
file_begins rest name true e begins = absurd (true≢false e)
file_begins rest name false e begins = begins

-- What lies below a directory that lies below another lies below that too.
below_further : (top dir path rest more : List ℕ) → LiesBelow top dir rest → LiesBelow dir path more
    → LiesBelow top path (rest ++ 47 ∷ more)
below_further [] [] path rest more below further = absurd (below.1 (sym below.0))
below_further [] (d ∷ ds) path rest more below further =
    (further ∙ ap (λ r. r ++ 47 ∷ more) below.0, some rest) where
      some : (r : List ℕ) → (r ++ 47 ∷ more) ≢ []
      some [] = λ e. cc
      some (x ∷ xs) = λ e. cc
below_further (t ∷ ts) dir path rest more below further =
    let P : List ℕ → Type 0 = λ d. LiesBelow d path more in
    let along : path ≡ ((t ∷ ts) ++ 47 ∷ rest) ++ 47 ∷ more = subst P below further in
    along ∙ append_assoc (t ∷ ts) (47 ∷ rest) (47 ∷ more)

-- The first of some names, and those behind it.
pub record First (dir path name : List ℕ) (names : List (List ℕ)) : Type 0 where
  pub whole : has_slash name ≡ false
  pub to : NamesTo (child dir name) path names

pub first_of_names : (dir path name : List ℕ) (names : List (List ℕ)) → is_component name ≡ true
    → NamesTo dir path (name ∷ names) → First dir path name names
first_of_names dir path name names named (inl (at, none)) = absurd (bad none) where
  bad : (name ∷ names) ≡ [] → ⊥
  bad e = cc
first_of_names dir path name names named (inr (rest, below, is)) = by (cut rest) where
  by : (has_slash rest ≡ false) ⊎ Cut rest → First dir path name names
  by (inl none) =
      let same : name ∷ names ≡ rest ∷ [] = is ∙ names_one rest none in
      let one : rest ≡ name = cc in
      let last : names ≡ [] = cc in
      record {
        whole = subst (λ n. has_slash n ≡ false) one none;
        to = inl (child_only dir path name (subst (λ r. LiesBelow dir path r) one below), last);
      }
  by (inr c) =
      let same : name ∷ names ≡ c.name ∷ names_of c.more
      = is ∙ ap names_of c.is ∙ names_more c.name c.more c.whole in
      let one : c.name ≡ name = cc in
      let others : names ≡ names_of c.more = cc in
      record {
        whole = subst (λ n. has_slash n ≡ false) one c.whole;
        to = inr (
          c.more,
          below_child dir path name c.more (component_some name named)
              (subst (λ n. LiesBelow dir path (n ++ 47 ∷ c.more)) one (subst (λ r. LiesBelow dir path r) c.is below)),
          others,
        );
      }

-- Names behind a name's directory are names behind that name.
pub names_behind : (dir path name : List ℕ) (names : List (List ℕ)) → is_component name ≡ true → has_slash name ≡ false
    → NamesTo (child dir name) path names → NamesTo dir path (name ∷ names)
names_behind dir path name names named whole (inl (at, none)) =
    inr (
      name,
      subst (λ p. LiesBelow dir p name) (sym at) (child_below dir name (component_some name named)),
      ap (λ ns. name ∷ ns) none ∙ sym (names_one name whole),
    )
names_behind dir path name names named whole (inr (rest, below, is)) =
    inr (
      name ++ 47 ∷ rest,
      below_parent dir path name rest (component_some name named) below,
      ap (λ ns. name ∷ ns) is ∙ sym (names_more name rest whole),
    )

-- What lies below a path to which there are names lies below the directory.
below_names : (dir path deeper : List ℕ) (names : List (List ℕ)) (rest : List ℕ) → NamesTo dir path names
    → LiesBelow path deeper rest → (more : List ℕ) × LiesBelow dir deeper more
below_names dir path deeper names rest (inl (at, none)) below = (rest, subst (λ d. LiesBelow d deeper rest) at below)
below_names dir path deeper names rest (inr (way, first, is)) below =
    (way ++ 47 ∷ rest, below_further dir path deeper way rest first below)

module _ (held : List (List ℕ)) (w : Way) (entries : List DirEntry) (given : AreEntries held w.path entries) where
  entry_among : (e : DirEntry) → IsDirEntry held w.path e → Among entries e
  entry_among e is = contained_among entries e ((given.exact e).1 is)

  among_entry : (e : DirEntry) → Among entries e → IsDirEntry held w.path e
  among_entry e h = (given.exact e).0 (among_contained entries e h)

  -- A path below is found here, or below a directory to which this leads.
  pub finds_on : (path : List ℕ) → Finds held w path
      → Among (found_at w entries) path ⊎ ((v : Way) × Among (ways_at w entries) v × Finds held v path)
  finds_on path f = by (cut f.rest) where
    by : (has_slash f.rest ≡ false) ⊎ Cut f.rest
        → Among (found_at w entries) path ⊎ ((v : Way) × Among (ways_at w entries) v × Finds held v path)
    by (inl none) =
        let e : DirEntry = record { name = f.rest; dir = false } in
        let one = names_one f.rest none in
        let named = (and_split (is_component f.rest) true
        (ap (list_all is_component) (sym one) ∙ f.named)).0 in
        let clear = and_split w.clear (list_all is_clear (names_of f.rest)) f.clear in
        let clear_here = (and_split (is_clear f.rest) true
        (ap (list_all is_clear) (sym one) ∙ clear.1)).0 in
        let done : is_done (step_all w.rests f.rest) ≡ true =
        sym (fits_none (step_all w.rests f.rest))
        ∙ sym (steps_all all_fit all_fit-stepwise w.rests f.rest [])
        ∙ ap (some_fit all_fit w.rests) (sym one) ∙ f.fits in
        let hit : is_hit w e ≡ true =
        and_join (w.clear && is_clear f.rest) (is_component f.rest && is_done (step_all w.rests f.rest))
        (and_join w.clear (is_clear f.rest) clear.0 clear_here)
        (and_join (is_component f.rest) (is_done (step_all w.rests f.rest)) named done) in
        inl (subst (Among (found_at w entries)) (sym (child_only w.path path f.rest f.below))
        (among_made (path_in w) (is_hit w) entries e (entry_among e (record {
          path = path;
          holds = f.holds;
          rest = f.rest;
          below = f.below;
          whole = none;
          begins = refl;
        })) hit))
    by (inr c) =
        let e : DirEntry = record { name = c.name; dir = true } in
        let more = ap names_of c.is ∙ names_more c.name c.more c.whole in
        let named = and_split (is_component c.name) (list_all is_component (names_of c.more))
        (ap (list_all is_component) (sym more) ∙ f.named) in
        let clear = and_split w.clear (list_all is_clear (names_of f.rest)) f.clear in
        let clear_more = and_split (is_clear c.name) (list_all is_clear (names_of c.more))
        (ap (list_all is_clear) (sym more) ∙ clear.1) in
        let fits : some_fit all_fit (step_all w.rests c.name) (names_of c.more) ≡ true =
        sym (steps_all all_fit all_fit-stepwise w.rests c.name (names_of c.more))
        ∙ ap (some_fit all_fit w.rests) (sym more) ∙ f.fits in
        let begin = names_begin c.more in
        let none : all_fit [] (names_of c.more) ≡ false = ap (all_fit []) begin.2 in
        let on = has_rest-fits all_fit (names_of c.more) none (step_all w.rests c.name) fits in
        let next : is_next w e ≡ true =
        and_join (is_component c.name) (has_rest (step_all w.rests c.name)) named.0 on in
        inr (
          way_to w e,
          among_made (way_to w) (is_next w) entries e (entry_among e (record {
            path = path;
            holds = f.holds;
            rest = f.rest;
            below = f.below;
            whole = c.whole;
            begins = (c.more, c.is);
          })) next,
          record {
            holds = f.holds;
            rest = c.more;
            below = below_child w.path path c.name c.more (component_some c.name named.0)
                (subst (λ r. LiesBelow w.path path r) c.is f.below);
            named = named.1;
            clear = and_join (w.clear && is_clear c.name) (list_all is_clear (names_of c.more))
                (and_join w.clear (is_clear c.name) clear.0 clear_more.0) clear_more.1;
            fits = fits;
          },
        )

  -- What is found here is below.
  pub found_here : (path : List ℕ) → Among (found_at w entries) path → Finds held w path
  found_here path h = by (among_source (path_in w) (is_hit w) entries path h) where
    by : Source (path_in w) (is_hit w) entries path → Finds held w path
    by s =
        let i = among_entry s.of s.among in
        let kind = and_split (not s.of.dir && (w.clear && is_clear s.of.name))
        (is_component s.of.name && is_done (step_all w.rests s.of.name)) s.passes in
        let plain = and_split (not s.of.dir) (w.clear && is_clear s.of.name) kind.0 in
        let clear = and_split w.clear (is_clear s.of.name) plain.1 in
        let fit = and_split (is_component s.of.name) (is_done (step_all w.rests s.of.name)) kind.1 in
        let rest : i.rest ≡ s.of.name = file_begins i.rest s.of.name s.of.dir (is_file s.of.dir plain.0) i.begins in
        let one = names_one s.of.name i.whole in
        let below : LiesBelow w.path i.path s.of.name = subst (λ r. LiesBelow w.path i.path r) rest i.below in
        let same : i.path ≡ path = child_only w.path i.path s.of.name below ∙ s.is in
        record {
          holds = subst (Contains held) same i.holds;
          rest = s.of.name;
          below = subst (λ p. LiesBelow w.path p s.of.name) same below;
          named = ap (list_all is_component) one ∙ and_join (is_component s.of.name) true fit.0 refl;
          clear = and_join w.clear (list_all is_clear (names_of s.of.name)) clear.0
              (ap (list_all is_clear) one ∙ and_join (is_clear s.of.name) true clear.1 refl);
          fits = ap (some_fit all_fit w.rests) one
              ∙ steps_all all_fit all_fit-stepwise w.rests s.of.name []
              ∙ fits_none (step_all w.rests s.of.name) ∙ fit.1;
        }

  -- What lies below a directory to which this leads is below.
  pub finds_back : (v : Way) (path : List ℕ) → Among (ways_at w entries) v → Finds held v path → Finds held w path
  finds_back v path h f = by (among_source (way_to w) (is_next w) entries v h) where
    by : Source (way_to w) (is_next w) entries v → Finds held w path
    by s =
        let i = among_entry s.of s.among in
        let kind = and_split s.of.dir (is_component s.of.name && has_rest (step_all w.rests s.of.name)) s.passes in
        let named = and_split (is_component s.of.name) (has_rest (step_all w.rests s.of.name)) kind.1 in
        let g : Finds held (way_to w s.of) path = subst (λ u. Finds held u path) (sym s.is) f in
        let more = names_more s.of.name g.rest i.whole in
        let clear = and_split (w.clear && is_clear s.of.name) (list_all is_clear (names_of g.rest)) g.clear in
        let here = and_split w.clear (is_clear s.of.name) clear.0 in
        record {
          holds = g.holds;
          rest = s.of.name ++ 47 ∷ g.rest;
          below = below_parent w.path path s.of.name g.rest (component_some s.of.name named.0) g.below;
          named = ap (list_all is_component) more
              ∙ and_join (is_component s.of.name) (list_all is_component (names_of g.rest)) named.0 g.named;
          clear = and_join w.clear (list_all is_clear (names_of (s.of.name ++ 47 ∷ g.rest))) here.0
              (ap (list_all is_clear) more
              ∙ and_join (is_clear s.of.name) (list_all is_clear (names_of g.rest)) here.1 clear.1);
          fits = ap (some_fit all_fit w.rests) more
              ∙ steps_all all_fit all_fit-stepwise w.rests s.of.name (names_of g.rest) ∙ g.fits;
        }

  -- A directory that has entries is walked from a directory to which this leads, if it is another.
  pub leads_on : (walked : List ℕ) (e : DirEntry) → IsDirEntry held walked e → Leads w walked
      → (walked ≡ w.path) ⊎ ((v : Way) × Among (ways_at w entries) v × Leads v walked)
  leads_on walked inner is l = by l.names l.to l.named l.leads where
    nowhere : NamesTo w.path walked [] → walked ≡ w.path
    nowhere (inl (at, none)) = at
    nowhere (inr (rest, below, e)) =
        let begin = names_begin rest in let z : [] ≡ begin.0 ∷ begin.1 = e ∙ begin.2 in cc

    by : (names : List (List ℕ)) → NamesTo w.path walked names → list_all is_component names ≡ true
        → some_fit leads w.rests names ≡ true
        → (walked ≡ w.path) ⊎ ((v : Way) × Among (ways_at w entries) v × Leads v walked)
    by [] to named leading = inl (nowhere to)
    by (n ∷ ns) to named leading =
        let named_both = and_split (is_component n) (list_all is_component ns) named in
        let first = first_of_names w.path walked n ns named_both.0 to in
        let deeper = below_names (child w.path n) walked is.path ns is.rest first.to is.below in
        let e : DirEntry = record { name = n; dir = true } in
        let rest : some_fit leads (step_all w.rests n) ns ≡ true =
        sym (steps_all leads leads-stepwise w.rests n ns) ∙ leading in
        let on = has_rest-fits leads ns refl (step_all w.rests n) rest in
        let next : is_next w e ≡ true =
        and_join (is_component n) (has_rest (step_all w.rests n)) named_both.0 on in
        inr (
          way_to w e,
          among_made (way_to w) (is_next w) entries e (entry_among e (record {
            path = is.path;
            holds = is.holds;
            rest = n ++ 47 ∷ deeper.0;
            below = below_parent w.path is.path n deeper.0 (component_some n named_both.0) deeper.1;
            whole = first.whole;
            begins = (deeper.0, refl);
          })) next,
          record { names = ns; to = first.to; named = named_both.1; leads = rest },
        )

  -- And what is walked from such a directory is walked from this.
  pub leads_back : (v : Way) (walked : List ℕ) → Among (ways_at w entries) v → Leads v walked → Leads w walked
  leads_back v walked h l = by (among_source (way_to w) (is_next w) entries v h) where
    by : Source (way_to w) (is_next w) entries v → Leads w walked
    by s =
        let i = among_entry s.of s.among in
        let kind = and_split s.of.dir (is_component s.of.name && has_rest (step_all w.rests s.of.name)) s.passes in
        let named = and_split (is_component s.of.name) (has_rest (step_all w.rests s.of.name)) kind.1 in
        let m : Leads (way_to w s.of) walked = subst (λ u. Leads u walked) (sym s.is) l in
        record {
          names = s.of.name ∷ m.names;
          to = names_behind w.path walked s.of.name m.names named.0 i.whole m.to;
          named = and_join (is_component s.of.name) (list_all is_component m.names) named.0 m.named;
          leads = steps_all leads leads-stepwise w.rests s.of.name m.names ∙ m.leads;
        }
