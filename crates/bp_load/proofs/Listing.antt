-- A map from directories to paths, as it takes line after line.
use Rattle.std.proofs.Common.{◌≡◌, ◌↔◌, ℕ, ◌+◌, ◌-◌, ◌<◌, ◌≤◌, ◌⊎◌, inl, inr, Bool, true, false, List, [], ◌∷◌, ◌++◌}
use Rattle.std.proofs.Common.{length, get_or, take, map, refl, ap, sym, subst, ◌∙◌, arith}
use Rattle.std.specs.Prelude.{◌==◌, nat_le, IsTrue, Some, None, Result, Ok, Err, ◌||◌, if◌then◌else◌, codes}
use Rattle.std.specs.List.{Contains, filter_map, cons_option, join_with_byte, slice_split}
use Rattle.std.specs.Str.Lines.{lines, lines_of_parts}
use Rattle.std.proofs.lemmas.List.Sums.{count_by-le-length}
use Rattle.std.proofs.lemmas.List.{get_or_default}
use Rattle.std.specs.List.Sorted.{IsStrictlySortedBy}
use Rattle.std.specs.Map.{keys_of, values_of}
use Rattle.std.specs.BTreeMap.{insert_entry}
use Rattle.std.specs.declared.cmp.Ordering.{Ordering}
use Rattle.std.specs.declared.cmp.Ordering.TheVariants.{Less, Equal, Greater}
use Rattle.std.specs.Ordering.{match_ordering}
use Rattle.std.specs.Cmp.Lexicographic.{same_text}
use Rattle.std.proofs.lemmas.Bool.{and_parts, or_right, leb-true, leb-false, or_from}
use Rattle.std.proofs.lemmas.List.{take_all, take_more, append-nil}
use Rattle.std.proofs.lemmas.List.Elements.{All-push, filter_map-append, Contains-append_left, Contains-append_right}
use Rattle.std.proofs.lemmas.List.Elements.{Contains-push_cases}
use Rattle.std.proofs.lemmas.List.Splits.{join_with_byte-slice_split, length-slice_split}
use Rattle.std.proofs.lemmas.Map.Entries.{length-values_of}
use Rattle.bp_faults.specs.declared.fault.Fault.{Fault}
use Rattle.property_values.specs.Paths.{parts}
use Rattle.bp_load.specs.Directories.{directories, directory_cmp}
use Rattle.bp_load.specs.ListFile.{is_blank, without_dots, is_listed, is_sound, listed_path, file_name, AreListed}
use Rattle.bp_load.specs.ListFile.{AreFiles, IsWrongAt, IsFirstListFault, line_place}
use Rattle.bp_faults.specs.Faults.{fault_on}
use Rattle.bp_faults.specs.declared.kind.FaultKind.TheVariants.{BadList, TooMany}
use Rattle.bp_faults.specs.declared.limits.TheConstants.{MOST_FILES}
use Rattle.bp_load.specs.Listing.{Entries, with_line, with_path, counted_entries}
use Rattle.bp_load.proofs.Orders.{directories_total, exact_directories, sorted_insert}
use Rattle.bp_load.proofs.Members.{Has, has_contained, contained_had}

-- a path that may be listed is its directory's components and `Android.bp`

abbrev Android : List ℕ
Android = codes "Android.bp"

listed_name : (path : List ℕ) → is_listed path ≡ true → file_name path ≡ Android
listed_name path listed =
    let rest = (and_parts _ _ listed).1 in
    same_text (file_name path) Android (sym (and_parts _ _ rest).1)

listed_parts : (path : List ℕ) → is_listed path ≡ true → parts path ≡ directories path ++ Android ∷ []
listed_parts path listed =
    let some : 0 < length (parts path) = omega (arith, length-slice_split (λ c. c == 47) path) in
    sym (take_all (length (parts path)) (parts path) (omega arith))
    ∙ ap (λ n. take n (parts path)) (omega arith)
    ∙ take_more (parts path) (length (parts path) - 1) [] (omega arith)
    ∙ ap (λ name. directories path ++ name ∷ []) (listed_name path listed)

pub listed_same : (p q : List ℕ) → is_listed p ≡ true → is_listed q ≡ true → directories p ≡ directories q → p ≡ q
listed_same p q first second same =
    sym (join_with_byte-slice_split 47 p)
    ∙ ap (join_with_byte 47) (listed_parts p first ∙ ap (λ ds. ds ++ Android ∷ []) same ∙ sym (listed_parts q second))
    ∙ join_with_byte-slice_split 47 q

-- each path stands under its directory, and may be listed
abbrev pub Keyed : Entries → Type 0
Keyed [] = Unit {0}
Keyed (e ∷ es) = (e.0 ≡ directories e.1) × (is_listed e.1 ≡ true) × Keyed es

keys_are : (es : Entries) → Keyed es → keys_of es ≡ map directories (values_of es)
keys_are [] keyed = refl
keys_are (e ∷ es) keyed =
    let first : e.0 ≡ directories e.1 = keyed.0 in
    let rest : keys_of es ≡ map directories (values_of es) = keys_are es keyed.2 in
    cc

abbrev with : List ℕ → Entries → Entries
with path es = insert_entry directory_cmp es (directories path) path

keyed_with : (path : List ℕ) → is_listed path ≡ true → (es : Entries) → Keyed es → Keyed (with path es)
keyed_with path listed [] keyed = (refl, listed, tt)
keyed_with path listed (e ∷ es) keyed =
    by (directory_cmp (directories path) e.0) refl (keyed_with path listed es keyed.2)
  where
    by : (o : Ordering) → directory_cmp (directories path) e.0 ≡ o → Keyed (with path es)
        → Keyed (match_ordering o ((directories path, path) ∷ e ∷ es) ((e.0, path) ∷ es) (e ∷ with path es))
    by Less is more = (refl, listed, keyed)
    by Equal is more = (sym (exact_directories (directories path) e.0 is), listed, keyed.2)
    by Greater is more = (keyed.0, keyed.1, more)

-- the map has the old paths and the new one

has_with : (path q : List ℕ) (es : Entries) → Has (values_of (with path es)) q → Has (values_of es) q ⊎ (path ≡ q)
has_with path q [] (inl e) = inr e
has_with path q [] (inr h) = inl h
has_with path q (e ∷ es) h = by (directory_cmp (directories path) e.0) h (has_with path q es)
  where
    by : (o : Ordering)
        → Has (values_of (match_ordering o ((directories path, path) ∷ e ∷ es) ((e.0, path) ∷ es) (e ∷ with path es))) q
        → (Has (values_of (with path es)) q → Has (values_of es) q ⊎ (path ≡ q))
        → Has (values_of (e ∷ es)) q ⊎ (path ≡ q)
    by Less (inl is) more = inr is
    by Less (inr h) more = inl h
    by Equal (inl is) more = inr is
    by Equal (inr h) more = inl (inr h)
    by Greater (inl is) more = inl (inl is)
    by Greater (inr h) more = elim (more h) [ inl old ↦ inl (inr old) | inr new ↦ inr new ]

had_with : (path q : List ℕ) → is_listed path ≡ true → (es : Entries) → Keyed es → Has (values_of es) q
    → Has (values_of (with path es)) q
had_with path q listed [] keyed h = absurd h
had_with path q listed (e ∷ es) keyed h =
    by (directory_cmp (directories path) e.0) refl h (had_with path q listed es keyed.2)
  where
    by : (o : Ordering) → directory_cmp (directories path) e.0 ≡ o → Has (values_of (e ∷ es)) q
        → (Has (values_of es) q → Has (values_of (with path es)) q)
        → Has (values_of (match_ordering o ((directories path, path) ∷ e ∷ es) ((e.0, path) ∷ es) (e ∷ with path es))) q
    by Less is h more = inr h
    by Equal is (inl old) more =
        inl (listed_same path e.1 listed keyed.1 (exact_directories (directories path) e.0 is ∙ keyed.0) ∙ old)
    by Equal is (inr h) more = inr h
    by Greater is (inl old) more = inl old
    by Greater is (inr h) more = inr (more h)

has_new : (path : List ℕ) (es : Entries) → Has (values_of (with path es)) path
has_new path [] = inl refl
has_new path (e ∷ es) = by (directory_cmp (directories path) e.0) (has_new path es)
  where
    by : (o : Ordering) → Has (values_of (with path es)) path → Has
        (values_of (match_ordering o ((directories path, path) ∷ e ∷ es) ((e.0, path) ∷ es) (e ∷ with path es))) path
    by Less more = inl refl
    by Equal more = inl refl
    by Greater more = inr more

-- what lines name, with one more line

named_path : (lines : List (List ℕ)) (line : List ℕ) → is_blank line ≡ false
    → filter_map listed_path (lines ++ line ∷ []) ≡ filter_map listed_path lines ++ without_dots line ∷ []
named_path lines line full =
    filter_map-append listed_path lines (line ∷ [])
    ∙ ap (λ (b : Bool). filter_map listed_path lines ++ cons_option (if b then None else Some (without_dots line)) [])
    full

named_none : (lines : List (List ℕ)) (line : List ℕ) → is_blank line ≡ true
    → filter_map listed_path (lines ++ line ∷ []) ≡ filter_map listed_path lines ++ []
named_none lines line blank =
    filter_map-append listed_path lines (line ∷ [])
    ∙ ap (λ (b : Bool). filter_map listed_path lines ++ cons_option (if b then None else Some (without_dots line)) [])
    blank

-- the map has the paths that the lines list, each under its directory
pub record Lists (lines : List (List ℕ)) (entries : Entries) : Type 0 where
  pub keyed : Keyed entries
  pub sorted : IsStrictlySortedBy directory_cmp (keys_of entries)
  pub listed : AreListed lines (values_of entries)

sound_blank : (line : List ℕ) → is_blank line ≡ true → IsTrue (is_sound line)
sound_blank line blank = ap (λ (b : Bool). b || is_listed (without_dots line)) blank

sound_listed : (line : List ℕ) → is_listed (without_dots line) ≡ true → IsTrue (is_sound line)
sound_listed line listed = or_right (is_blank line) (is_listed (without_dots line)) listed

with_blank : (lines : List (List ℕ)) (entries : Entries) (line : List ℕ) → is_blank line ≡ true → Lists lines entries
    → Lists (lines ++ line ∷ []) entries
with_blank lines entries line blank lists = record {
  keyed = lists.keyed;
  sorted = lists.sorted;
  listed = record {
    sound = All-push (λ l. IsTrue (is_sound l)) lines line lists.listed.sound (sound_blank line blank);
    order = lists.listed.order;
    members =
        λ q. subst (λ ps. Contains (values_of entries) q ↔ Contains ps q)
        (sym (named_none lines line blank ∙ append-nil _)) (lists.listed.members q);
  };
}

with_listed : (lines : List (List ℕ)) (entries : Entries) (line : List ℕ) → is_blank line ≡ false
    → is_listed (without_dots line) ≡ true → Lists lines entries
    → Lists (lines ++ line ∷ []) (with (without_dots line) entries)
with_listed lines entries line full listed lists =
    let path = without_dots line in
    let keyed : Keyed (with path entries) = keyed_with path listed entries lists.keyed in
    let sorted : IsStrictlySortedBy directory_cmp (keys_of (with path entries)) =
    sorted_insert directory_cmp directories_total (directories path) path entries lists.sorted in
    record {
      keyed = keyed;
      sorted = sorted;
      listed = record {
        sound = All-push (λ l. IsTrue (is_sound l)) lines line lists.listed.sound (sound_listed line listed);
        order = subst (IsStrictlySortedBy directory_cmp) (keys_are (with path entries) keyed) sorted;
        members = λ q. (
          λ has. subst (λ ps. Contains ps q) (sym (named_path lines line full))
              (elim (has_with path q entries (has_contained (values_of (with path entries)) q has)) [
                | inl old ↦ Contains-append_left (filter_map listed_path lines) (path ∷ []) q
                    ((lists.listed.members q).0 (contained_had (values_of entries) q old))
                | inr new ↦ Contains-append_right (filter_map listed_path lines) (path ∷ []) q
                    (contained_had (path ∷ []) q (inl new))
              ]),
          λ has. contained_had (values_of (with path entries)) q (elim (Contains-push_cases (filter_map listed_path
              lines) path q (subst (λ ps. Contains ps q) (named_path lines line full) has)) [
                | inl old ↦ had_with path q listed entries lists.keyed
                    (has_contained (values_of entries) q ((lists.listed.members q).1 old))
                | inr new ↦ subst (Has (values_of (with path entries))) new (has_new path entries)
              ]),
        );
      };
    }

-- the same, and the paths are no more than the limit
pub record Holds (lines : List (List ℕ)) (entries : Entries) : Type 0 where
  pub lists : Lists lines entries
  pub few : length (values_of entries) ≤ MOST_FILES

pub holds_none : Holds [] []
unfolding IsStrictlySortedBy
holds_none = record {
  lists = record {
    keyed = tt;
    sorted = tt;
    listed = record { sound = λ k d below. absurd (omega arith); order = tt; members = λ q. (λ has. has, λ has. has) };
  };
  few = omega arith;
}

pub files_held : (lines : List (List ℕ)) (entries : Entries) → Holds lines entries → AreFiles lines (values_of entries)
files_held lines entries holds = record { listed = holds.lists.listed; few = holds.few }

counted_ok : (at : ℕ) (entries new : Entries) → counted_entries at entries ≡ Ok new
    → (entries ≡ new) × (length entries ≤ MOST_FILES)
counted_ok at entries new = by (nat_le (length entries) MOST_FILES) refl
  where
    by : (few : Bool) → nat_le (length entries) MOST_FILES ≡ few
        → (if few then Ok entries else Err (fault_on TooMany (line_place at) (codes "files"))) ≡ Ok new
        → (entries ≡ new) × (length entries ≤ MOST_FILES)
    by true few is = (cc, leb-true (length entries) MOST_FILES few)
    by false many is = absurd (cc)

counted_err : (at : ℕ) (entries : Entries) (fault : Fault) → counted_entries at entries ≡ Err fault
    → (MOST_FILES < length entries) × (fault ≡ fault_on TooMany (line_place at) (codes "files"))
counted_err at entries fault = by (nat_le (length entries) MOST_FILES) refl
  where
    by : (few : Bool) → nat_le (length entries) MOST_FILES ≡ few
        → (if few then Ok entries else Err (fault_on TooMany (line_place at) (codes "files"))) ≡ Err fault
        → (MOST_FILES < length entries) × (fault ≡ fault_on TooMany (line_place at) (codes "files"))
    by true few is = absurd (cc)
    by false many is = (leb-false (length entries) MOST_FILES many, cc)

-- a line that is taken

abbrev line_by : (at : ℕ) (entries : Entries) (line : List ℕ) (blank listed : Bool) → Result Entries Fault
line_by at entries line blank listed =
    if blank then Ok entries else if listed then with_path at entries (without_dots line)
    else Err (fault_on BadList (line_place at) line)

pub holds_more : (lines : List (List ℕ)) (at : ℕ) (entries new : Entries) (line : List ℕ) → Holds lines entries
    → with_line at entries line ≡ Ok new → Holds (lines ++ line ∷ []) new
holds_more lines at entries new line holds = by (is_blank line) refl (is_listed (without_dots line)) refl
  where
    by : (blank : Bool) → is_blank line ≡ blank → (listed : Bool) → is_listed (without_dots line) ≡ listed
        → line_by at entries line blank listed ≡ Ok new → Holds (lines ++ line ∷ []) new
    by true blank listed is taken =
        subst (Holds (lines ++ line ∷ [])) (cc)
        (record { lists = with_blank lines entries line blank holds.lists; few = holds.few })
    by false full true listed taken =
        let counts = counted_ok at (with (without_dots line) entries) new taken in
        subst (Holds (lines ++ line ∷ [])) counts.0 (record {
          lists = with_listed lines entries line full listed holds.lists;
          few = omega (arith, counts.1, length-values_of (with (without_dots line) entries));
        })
    by false full false bad taken = absurd (cc)

-- a line that is refused

same_line : (lines : List (List ℕ)) (at : ℕ) (line : List ℕ) → at < length lines → line ≡ get_or lines at line
    → line ≡ get_or lines at []
same_line lines at line below is = is ∙ get_or_default lines at line [] below

pub wrong_line : (lines : List (List ℕ)) (at : ℕ) (entries : Entries) (line : List ℕ) (fault : Fault)
    → at < length lines → line ≡ get_or lines at line → Holds (take at lines) entries
    → with_line at entries line ≡ Err fault → IsWrongAt lines at fault
wrong_line lines at entries line fault below here holds = by (is_blank line) refl (is_listed (without_dots line)) refl
  where
    by : (blank : Bool) → is_blank line ≡ blank → (listed : Bool) → is_listed (without_dots line) ≡ listed
        → line_by at entries line blank listed ≡ Err fault → IsWrongAt lines at fault
    by true blank listed is taken = absurd (cc)
    by false full true listed taken =
        let counts = counted_err at (with (without_dots line) entries) fault taken in
        let front : take at lines ++ line ∷ [] ≡ take (at + 1) lines = sym (take_more lines at [] below
        ∙ ap (λ l. take at lines ++ l ∷ []) (sym (same_line lines at line below here))) in
        let lists : Lists (take (at + 1) lines) (with (without_dots line) entries) = subst (λ ls. Lists ls
        (with (without_dots line) entries)) front (with_listed (take at lines) entries line full listed holds.lists) in
        inr (
          values_of (with (without_dots line) entries),
          lists.listed,
          omega (arith, counts.0, length-values_of (with (without_dots line) entries)),
          counts.1,
        )
    by false full false bad taken = inl (
      ap is_sound (sym (same_line lines at line below here))
          ∙ or_from (is_blank line) (is_listed (without_dots line)) full bad,
      (let is : fault ≡ fault_on BadList (line_place at) line = cc in is)
          ∙ ap (fault_on BadList (line_place at)) (same_line lines at line below here),
    )

pub first_fault : (lines : List (List ℕ)) (at : ℕ) (entries : Entries) (line : List ℕ) (fault : Fault)
    → at < length lines → line ≡ get_or lines at line → Holds (take at lines) entries
    → with_line at entries line ≡ Err fault → IsFirstListFault lines fault
first_fault lines at entries line fault below here holds refused = record {
  at = at;
  inside = below;
  before = values_of entries;
  files = files_held (take at lines) entries holds;
  wrong = wrong_line lines at entries line fault below here holds refused;
}

-- A text has no more lines than bytes, and one more.

parts_lines : (ps : List (List ℕ)) → length (lines_of_parts ps) ≤ length ps
parts_lines [] = omega arith
parts_lines (p ∷ []) = by (length p == 0)
  where
    by : (empty : Bool) → length (if empty then [] else p ∷ []) ≤ 1
    by true = omega arith
    by false = omega arith
parts_lines (p ∷ q ∷ ps) = let more = parts_lines (q ∷ ps) in omega arith

pub few_lines : (text : List ℕ) → length (lines text) ≤ length text + 1
few_lines text =
    omega (
      arith,
      parts_lines (slice_split (λ b. b == 10) text),
      length-slice_split (λ b. b == 10) text,
      count_by-le-length (λ b. b == 10) text,
    )
