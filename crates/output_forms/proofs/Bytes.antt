-- Texts that a path of Ninja can be.
use Rattle.std.proofs.Common.{◌≡◌, ◌≤◌, ◌++◌, ◌&&◌, ◌==◌, ⊎_elim, ℕ, zero, suc, Bool, true, false, not, cond, List}
use Rattle.std.proofs.Common.{[], ◌∷◌, length, take, refl, sym, ap, arith, subst}
use Rattle.std.specs.Prelude.{IsTrue, nat_lt, nat_le}
use Rattle.std.specs.Char.{is_ascii_alphanumeric}
use Rattle.std.specs.List.{AllByRecursion, filter, join_with_byte, list_all, list_any, onto_first}
use Rattle.std.proofs.lemmas.Bool.{and_from, and_parts, or_cases, or_parts, or_from, le-ltb, ne_eqb, eqb-true, leb-true}
use Rattle.std.proofs.lemmas.Bool.Decides.{nat_tests}
use Rattle.bp_faults.specs.Characters.{is_control, is_barred_in_paths}
use Rattle.bp_faults.specs.Paths.{is_component}
use Rattle.bp_faults.proofs.Lists.{all_append}
use Rattle.bp_load.specs.Directories.{directories, directory_of}
use Rattle.build_actions.specs.Laws.{has_slash}
use Rattle.ninja_file.specs.Names.{is_shown, is_value, is_path}
use Rattle.property_tables.specs.Meaning.{is_module_name_byte, is_dots, is_module_name}
use Rattle.property_values.specs.Fits.{is_empty}
use Rattle.property_values.specs.Paths.{is_barred, parts, is_absolute, is_refused, components, path_below}
use Rattle.output_forms.proofs.Each.{all_filtered, IsShown}

-- A byte may stand in a path.
abbrev pub IsFree : ℕ → Type 0
IsFree b = is_barred_in_paths b ≡ false

-- So may each of a text.
abbrev pub IsClear : List ℕ → Type 0
IsClear text = AllByRecursion IsFree text

pub none_of : {X : Type 0} (test : X → Bool) (xs : List X) → list_any test xs ≡ false
    → AllByRecursion (λ x. test x ≡ false) xs
none_of test [] h = tt
none_of test (x ∷ xs) h = let s = or_parts (test x) (list_any test xs) h in (s.0, none_of test xs s.1)

pub any_none : {X : Type 0} (test : X → Bool) (xs : List X) → AllByRecursion (λ x. test x ≡ false) xs
    → list_any test xs ≡ false
any_none test [] h = refl
any_none test (x ∷ xs) h = or_from (test x) (list_any test xs) h.0 (any_none test xs h.1)

pub each_of : {X : Type 0} (test : X → Bool) (xs : List X) → list_all test xs ≡ true
    → AllByRecursion (λ x. test x ≡ true) xs
each_of test [] h = tt
each_of test (x ∷ xs) h = let s = and_parts (test x) (list_all test xs) h in (s.0, each_of test xs s.1)

pub bytes_shown : (text : List ℕ) → AllByRecursion (λ b. is_control b ≡ false) text → IsShown text
bytes_shown [] h = refl
bytes_shown (b ∷ text) h = and_from (is_shown b) (list_all is_shown text) (ap not h.0) (bytes_shown text h.1)

no_control : (text : List ℕ) → IsClear text → AllByRecursion (λ b. is_control b ≡ false) text
no_control [] h = tt
no_control (b ∷ text) h = ((or_parts (is_control b) (b == 124) h.0).0, no_control text h.1)

pub clear_shown : (text : List ℕ) → IsClear text → IsShown text
clear_shown text h = bytes_shown text (no_control text h)

no_bars : (text : List ℕ) → IsClear text → list_all (λ b. not (b == 124)) text ≡ true
no_bars [] h = refl
no_bars (b ∷ text) h =
    and_from (not (b == 124)) (list_all (λ b. not (b == 124)) text)
    (ap not (or_parts (is_control b) (b == 124) h.0).1) (no_bars text h.1)

not_zero : (n : ℕ) → not (suc n == 0) ≡ true
not_zero n = grind (arith, nat_tests)

pub path_from : (b : ℕ) (text : List ℕ) → IsClear (b ∷ text) → IsTrue (is_path (b ∷ text))
path_from b text h =
    and_from (is_value (b ∷ text)) (list_all (λ b. not (b == 124)) (b ∷ text))
    (and_from (not (suc (length text) == 0)) (list_all is_shown (b ∷ text)) (not_zero (length text))
    (clear_shown (b ∷ text) h))
    (no_bars (b ∷ text) h)

-- Parts of paths

joined_clear : (cs : List (List ℕ)) → AllByRecursion IsClear cs → IsClear (join_with_byte 47 cs)
joined_clear [] h = tt
joined_clear (c ∷ []) h = h.0
joined_clear (c ∷ d ∷ cs) h =
    all_append IsFree c (47 ∷ join_with_byte 47 (d ∷ cs)) h.0 (refl, joined_clear (d ∷ cs) h.1)

onto_clear : (b : ℕ) (ps : List (List ℕ)) → IsFree b → AllByRecursion IsClear ps
    → AllByRecursion IsClear (onto_first b ps)
onto_clear b [] h k = ((h, tt), tt)
onto_clear b (p ∷ ps) h k = ((h, k.0), k.1)

parts_clear : (text : List ℕ) → IsClear text → AllByRecursion IsClear (parts text)
parts_clear [] h = (tt, tt)
parts_clear (b ∷ text) h = by (b == 47) (parts_clear text h.1)
  where
    by : (is : Bool) → AllByRecursion IsClear (parts text)
        → AllByRecursion IsClear (cond is ([] ∷ parts text) (onto_first b (parts text)))
    by true rest = (tt, rest)
    by false rest = onto_clear b (parts text) h.0 rest

components_clear : (text : List ℕ) → IsClear text → AllByRecursion IsClear (components text)
components_clear text h = all_filtered IsClear is_component (parts text) (parts_clear text h)

taken_clear : (n : ℕ) (cs : List (List ℕ)) → AllByRecursion IsClear cs → AllByRecursion IsClear (take n cs)
taken_clear zero cs h = tt
taken_clear (suc n) [] h = tt
taken_clear (suc n) (c ∷ cs) h = (h.0, taken_clear n cs h.1)

pub directory_clear : (path : List ℕ) → IsClear path → IsClear (directory_of path)
directory_clear path h = joined_clear (directories path) (taken_clear _ (parts path) (parts_clear path h))

pub placed_clear : (dir text : List ℕ) → IsClear dir → IsClear text → IsClear (path_below dir text)
placed_clear dir text h k =
    joined_clear (components dir ++ components text)
    (all_append IsClear (components dir) (components text) (components_clear dir h) (components_clear text k))

passing : (test : List ℕ → Bool) (xs : List (List ℕ)) → AllByRecursion (λ x. test x ≡ true) (filter test xs)
passing test [] = tt
passing test (x ∷ xs) = by (test x) refl (passing test xs)
  where
    by : (is : Bool) → test x ≡ is → AllByRecursion (λ x. test x ≡ true) (filter test xs)
        → AllByRecursion (λ x. test x ≡ true) (cond is (x ∷ filter test xs) (filter test xs))
    by true e rest = (e, rest)
    by false e rest = rest

more_behind : (cs ds : List (List ℕ)) → is_empty ds ≡ false → is_empty (cs ++ ds) ≡ false
more_behind [] ds h = h
more_behind (c ∷ cs) ds h = refl

joined_path : (cs : List (List ℕ)) → AllByRecursion (λ c. is_component c ≡ true) cs → AllByRecursion IsClear cs
    → is_empty cs ≡ false → IsTrue (is_path (join_with_byte 47 cs))
joined_path [] h k some = absurd (cc)
joined_path ([] ∷ cs) h k some = let no = h.0 in absurd (cc)
joined_path ((b ∷ c) ∷ []) h k some = path_from b c k.0
joined_path ((b ∷ c) ∷ d ∷ cs) h k some =
    path_from b (c ++ (47 ∷ join_with_byte 47 (d ∷ cs))) (joined_clear ((b ∷ c) ∷ d ∷ cs) k)

pub placed_path : (dir text : List ℕ) → IsClear dir → IsClear text → is_empty (components text) ≡ false
    → IsTrue (is_path (path_below dir text))
placed_path dir text h k some =
    joined_path (components dir ++ components text)
    (all_append (λ c. is_component c ≡ true) (components dir) (components text)
    (passing is_component (parts dir)) (passing is_component (parts text)))
    (all_append IsClear (components dir) (components text) (components_clear dir h) (components_clear text k))
    (more_behind (components dir) (components text) some)

not_barred : (text : List ℕ) → AllByRecursion (λ b. is_barred b ≡ false) text → IsClear text
not_barred [] h = tt
not_barred (b ∷ text) h = ((or_parts (is_barred_in_paths b) (b == 42) h.0).0, not_barred text h.1)

-- what isn't refused is clear
pub item_clear : (text : List ℕ) → is_refused text ≡ false → IsClear text
item_clear text h =
    let s = or_parts (is_absolute text) _ h in
    not_barred text (none_of is_barred text (or_parts _ (list_any is_barred text) s.1).1)

-- Names of modules

-- A byte may stand in the name of a directory.
abbrev IsPlain : ℕ → Type 0
IsPlain b = IsFree b × ((b == 47) ≡ false)

plain_between : (b : ℕ) → 48 ≤ b → b ≤ 122 → IsPlain b
plain_between b least most = (
  or_from (is_control b) (b == 124)
      (or_from (nat_lt b 32) (b == 127) (le-ltb b 32 (omega (arith, least)))
      (ne_eqb b 127 (λ e. omega (arith, most, e))))
      (ne_eqb b 124 (λ e. omega (arith, most, e))),
  ne_eqb b 47 (λ e. omega (arith, least, e)),
)

plain_in : (b low high : ℕ) → 48 ≤ low → high ≤ 122 → (nat_le low b && nat_le b high) ≡ true → IsPlain b
plain_in b low high least most h =
    let s = and_parts (nat_le low b) (nat_le b high) h in
    let l = leb-true low b s.0 in
    let u = leb-true b high s.1 in
    plain_between b (omega (arith, least, l)) (omega (arith, most, u))

plain_at : (b c : ℕ) → (b == c) ≡ true → IsPlain c → IsPlain b
plain_at b c h plain = subst IsPlain (sym (eqb-true b c h)) plain

plain_letter : (b : ℕ) → is_ascii_alphanumeric b ≡ true → IsPlain b
plain_letter b h =
    ⊎_elim
    (λ early. ⊎_elim (λ digit. plain_in b 48 57 (omega arith) (omega arith) digit)
    (λ upper. plain_in b 65 90 (omega arith) (omega arith) upper) (or_cases _ _ early))
    (λ lower. plain_in b 97 122 (omega arith) (omega arith) lower)
    (or_cases _ _ h)

plain_byte : (b : ℕ) → is_module_name_byte b ≡ true → IsPlain b
plain_byte b h =
    ⊎_elim
    (λ h. ⊎_elim
    (λ h. ⊎_elim
    (λ h. ⊎_elim
    (λ h. ⊎_elim (plain_letter b) (λ e. plain_at b 95 e (refl, refl)) (or_cases _ _ h))
    (λ e. plain_at b 46 e (refl, refl)) (or_cases _ _ h))
    (λ e. plain_at b 43 e (refl, refl)) (or_cases _ _ h))
    (λ e. plain_at b 45 e (refl, refl)) (or_cases _ _ h))
    (λ e. plain_at b 64 e (refl, refl)) (or_cases _ _ h)

plain_bytes : (name : List ℕ) → AllByRecursion (λ b. is_module_name_byte b ≡ true) name → AllByRecursion IsPlain name
plain_bytes [] h = tt
plain_bytes (b ∷ name) h = (plain_byte b h.0, plain_bytes name h.1)

plain_clear : (name : List ℕ) → AllByRecursion IsPlain name → IsClear name
plain_clear [] h = tt
plain_clear (b ∷ name) h = (h.0.0, plain_clear name h.1)

plain_whole : (name : List ℕ) → AllByRecursion IsPlain name → has_slash name ≡ false
plain_whole [] h = refl
plain_whole (b ∷ name) h = or_from (b == 47) (has_slash name) h.0.1 (plain_whole name h.1)

-- the name of a module can be a path of Ninja, and has no slash
pub name_fits : (name : List ℕ) → is_module_name name ≡ true → IsTrue (is_path name) × (has_slash name ≡ false)
name_fits name h =
    let s = and_parts _ (not (is_dots name)) h in
    let t = and_parts _ (list_all is_module_name_byte name) s.0 in
    let u = and_parts (nat_le 1 (length name)) _ t.0 in
    let plain = plain_bytes name (each_of is_module_name_byte name t.1) in
    (by name (leb-true 1 (length name) u.0) (plain_clear name plain), plain_whole name plain)
  where
    by : (name : List ℕ) → 1 ≤ length name → IsClear name → IsTrue (is_path name)
    by [] some clear = absurd (omega (arith, some))
    by (b ∷ name) some clear = path_from b name clear
