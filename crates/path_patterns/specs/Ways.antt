-- The walk: a directory on the way, what is found in it, and where it leads. No public contract speaks of it.
use Rattle.std.specs.Prelude.{◌≡◌, ◌&&◌, ℕ, Bool, true, not, List, map}
use Rattle.std.specs.List.{list_all, filter, Contains}
use Rattle.bp_faults.specs.Paths.{is_component}
use Rattle.dir_entries.specs.declared.entry.DirEntry.{DirEntry}
use Rattle.dir_entries.specs.Below.{names_of, LiesBelow, child}
use Rattle.path_patterns.specs.Matches.{is_clear, NamesTo}
use Rattle.path_patterns.specs.Parts.{all_fit, leads, Rest, step_all, some_fit, is_done, has_rest}

-- A directory on the way: its path, whether its names are clear, and what is left of the pattern.
pub record Way : Type 0 where
  pub path : List ℕ
  pub clear : Bool
  pub rests : List Rest

-- A file of it is a match.
abbrev pub is_hit : Way → DirEntry → Bool
is_hit w e = not e.dir && (w.clear && is_clear e.name) && (is_component e.name && is_done (step_all w.rests e.name))

-- A directory of it is on the way.
abbrev pub is_next : Way → DirEntry → Bool
is_next w e = e.dir && (is_component e.name && has_rest (step_all w.rests e.name))

-- The path of an entry of it.
abbrev pub path_in : Way → DirEntry → List ℕ
path_in w e = child w.path e.name

-- An entry of it as the next directory on the way.
abbrev pub way_to : Way → DirEntry → Way
way_to w e = record { path = path_in w e; clear = w.clear && is_clear e.name; rests = step_all w.rests e.name }

-- The matches among its entries.
abbrev pub found_at : Way → List DirEntry → List (List ℕ)
found_at w entries = map (path_in w) (filter (is_hit w) entries)

-- The directories to which it leads.
abbrev pub ways_at : Way → List DirEntry → List Way
ways_at w entries = map (way_to w) (filter (is_next w) entries)

-- A held path lies below it by clear components for which what is left stands.
pub record Finds (held : List (List ℕ)) (w : Way) (path : List ℕ) : Type 0 where
  pub holds : Contains held path
  pub rest : List ℕ
  pub below : LiesBelow w.path path rest
  pub named : list_all is_component (names_of rest) ≡ true
  pub clear : w.clear && list_all is_clear (names_of rest) ≡ true
  pub fits : some_fit all_fit w.rests (names_of rest) ≡ true

-- A directory is walked from it.
pub record Leads (w : Way) (walked : List ℕ) : Type 0 where
  pub names : List (List ℕ)
  pub to : NamesTo w.path walked names
  pub named : list_all is_component names ≡ true
  pub leads : some_fit leads w.rests names ≡ true
