-- Files evaluated below a base: what changes where a base stands for files that are finished, or finished files for
-- nothing.
use Rattle.std.proofs.Common.{◌≡◌, ℕ, ◌≤◌, Bool, true, false, cond, List, [], ◌∷◌, ◌++◌, length, refl, ap, sym, ◌∙◌}
use Rattle.std.proofs.Common.{arith, append_assoc}
use Rattle.std.specs.Prelude.{⊤, filter, Option, Some, None, Result, Ok, Err, nat_le, if◌then◌else◌}
use Rattle.std.specs.List.{AllByRecursion, fold}
use Rattle.std.specs.Str.{bytes_eq}
use Rattle.std.proofs.lemmas.Bool.{le-leb, and_parts}
use Rattle.std.proofs.lemmas.List.{append-nil}
use Rattle.std.proofs.lemmas.List.Elements.{filter-append}
use Rattle.bp_faults.specs.declared.fault.Fault.{Fault}
use Rattle.bp_faults.specs.Answers.{then_do}
use Rattle.bp_values.specs.Scopes.{Pairs}
use Rattle.bp_values.specs.Meaning.{Raw, file_evaluation}
use Rattle.bp_load.specs.Directories.{is_above}
use Rattle.bp_load.specs.Trees.{Placed}
use Rattle.bp_load.specs.Inherited.{Finished, nearer, nearest_file, scope_of, in_directory, all_evaluated}
use Rattle.bp_load.specs.Opened.{Turn, scope_in, evaluated_in, still_open, innermost, all_turned}
use Rattle.bp_load.proofs.Joined.{and_then}
use Rattle.bp_load.proofs.Turns.{Modules, goes_on, goes_none, goes_more, with_file}

-- what a file and those behind it give, once its values are known
abbrev then_files : Pairs → List Finished → Placed → List Placed → Result (List Raw × Pairs) Fault
    → Result Modules Fault
then_files base finished file files values =
    then_do values (λ v. then_do (evaluated_in base (finished ++ (file.directory, v.1) ∷ []) files)
    (λ more. Ok (in_directory file.dir v.0 ++ more)))

-- the empty base is none

no_scope : (found : Option Finished) → scope_in [] found ≡ scope_of found
no_scope None = refl
no_scope (Some file) = refl

pub without_base : (finished : List Finished) (files : List Placed)
    → evaluated_in [] finished files ≡ all_evaluated finished files
without_base finished [] = refl
without_base finished (file ∷ files) =
    ap (λ scope. then_files [] finished file files (file_evaluation scope file.defs))
    (no_scope (nearest_file file.directory finished))
    ∙ by (file_evaluation (scope_of (nearest_file file.directory finished)) file.defs)
    (λ more. without_base (finished ++ more ∷ []) files)
  where
    by : (values : Result (List Raw × Pairs) Fault) → ((more : Finished)
        → evaluated_in [] (finished ++ more ∷ []) files ≡ all_evaluated (finished ++ more ∷ []) files)
        → then_files [] finished file files values ≡ then_do values (λ v. then_do
        (all_evaluated (finished ++ (file.directory, v.1) ∷ []) files) (λ more. Ok (in_directory file.dir v.0 ++ more)))
    by (Err fault) same = refl
    by (Ok v) same =
        ap (λ rest. then_do rest (λ more. Ok (in_directory file.dir v.0 ++ more))) (same (file.directory, v.1))

-- files of which none is above a directory

abbrev pub AreApart : List (List ℕ) → List Finished → Type 0
AreApart d files = AllByRecursion (λ f. is_above f.0 d ≡ false) files

abbrev pub NoneAbove : List Finished → List Placed → Type 0
NoneAbove finished files = AllByRecursion (λ p. AreApart p.directory finished) files

none_left : (d : List (List ℕ)) (files : List Finished) → AreApart d files → filter (λ f. is_above f.0 d) files ≡ []
none_left d [] apart = refl
none_left d (f ∷ files) apart =
    ap (λ t. cond t (f ∷ filter (λ g. is_above g.0 d) files) (filter (λ g. is_above g.0 d) files)) apart.0
    ∙ none_left d files apart.1

nearest_without : (d : List (List ℕ)) (lost finished : List Finished) → AreApart d lost
    → nearest_file d (lost ++ finished) ≡ nearest_file d finished
nearest_without d lost finished apart =
    ap (fold nearer None) (filter-append (λ f. is_above f.0 d) lost finished
    ∙ ap (λ fs. fs ++ filter (λ f. is_above f.0 d) finished) (none_left d lost apart))

module _ (base : Pairs) where
  -- finished files that are above none make no difference
  without_lost : (lost finished : List Finished) (files : List Placed) → NoneAbove lost files
      → evaluated_in base (lost ++ finished) files ≡ evaluated_in base finished files
  without_lost lost finished [] none = refl
  without_lost lost finished (file ∷ files) none =
      ap (λ found. then_files base (lost ++ finished) file files (file_evaluation (scope_in base found) file.defs))
      (nearest_without file.directory lost finished none.0)
      ∙ by (file_evaluation (scope_in base (nearest_file file.directory finished)) file.defs)
      (λ more. without_lost lost (finished ++ more ∷ []) files none.1)
    where
      by : (values : Result (List Raw × Pairs) Fault) → ((more : Finished)
          → evaluated_in base (lost ++ (finished ++ more ∷ [])) files ≡ evaluated_in base (finished ++ more ∷ []) files)
          → then_files base (lost ++ finished) file files values ≡ then_files base finished file files values
      by (Err fault) same = refl
      by (Ok v) same =
          ap (λ rest. then_do rest (λ more. Ok (in_directory file.dir v.0 ++ more)))
          (ap (λ fs. evaluated_in base fs files) (append_assoc lost finished ((file.directory, v.1) ∷ []))
          ∙ same (file.directory, v.1))

-- two lists of files, of which the second inherits nothing from the first

abbrev pub Below : List (List ℕ) → List Placed → Type 0
Below d files = AllByRecursion (λ p. is_above d p.directory ≡ true) files

abbrev pub NotBelow : List (List ℕ) → List Placed → Type 0
NotBelow d files = AllByRecursion (λ p. is_above d p.directory ≡ false) files

abbrev pub AreSeparate : List Placed → List Placed → Type 0
AreSeparate front back = AllByRecursion (λ p. NotBelow p.directory back) front

apart_more : (d : List (List ℕ)) (finished : List Finished) (file : Finished) → AreApart d finished
    → is_above file.0 d ≡ false → AreApart d (finished ++ file ∷ [])
apart_more d [] file apart last = (last, tt)
apart_more d (f ∷ finished) file apart last = (apart.0, apart_more d finished file apart.1 last)

none_more : (finished : List Finished) (file : Finished) (files : List Placed) → NoneAbove finished files
    → NotBelow file.0 files → NoneAbove (finished ++ file ∷ []) files
none_more finished file [] none not = tt
none_more finished file (p ∷ files) none not =
    (apart_more p.directory finished file none.0 not.0, none_more finished file files none.1 not.1)

none_first : (files : List Placed) → NoneAbove [] files
none_first [] = tt
none_first (p ∷ files) = (tt, none_first files)

module _ (base : Pairs) (back : List Placed) where
  separate_behind : (front : List Placed) (finished : List Finished) → NoneAbove finished back → AreSeparate front back
      → evaluated_in base finished (front ++ back)
      ≡ and_then (evaluated_in base finished front) (evaluated_in base [] back)
  separate_behind [] finished none separate =
      ap (λ fs. evaluated_in base fs back) (sym (append-nil finished))
      ∙ without_lost base finished [] back none
      ∙ sym (goes_none (evaluated_in base [] back))
  separate_behind (file ∷ front) finished none separate =
      by (file_evaluation (scope_in base (nearest_file file.directory finished)) file.defs)
      (λ scope. separate_behind front (finished ++ (file.directory, scope) ∷ [])
      (none_more finished (file.directory, scope) back none separate.0) separate.1)
    where
      joins : (here : Modules) (front back : Result Modules Fault) → then_do (and_then front back)
          (λ more. Ok (here ++ more)) ≡ and_then (then_do front (λ more. Ok (here ++ more))) back
      joins here (Err fault) back = refl
      joins here (Ok ms) (Err fault) = refl
      joins here (Ok ms) (Ok more) = ap Ok (sym (append_assoc here ms more))

      by : (values : Result (List Raw × Pairs) Fault)
          → ((scope : Pairs) → evaluated_in base (finished ++ (file.directory, scope) ∷ []) (front ++ back)
          ≡ and_then (evaluated_in base (finished ++ (file.directory, scope) ∷ []) front) (evaluated_in base [] back))
          → then_files base finished file (front ++ back) values
          ≡ and_then (then_files base finished file front values) (evaluated_in base [] back)
      by (Err fault) same = refl
      by (Ok v) same =
          ap (λ rest. then_do rest (λ more. Ok (in_directory file.dir v.0 ++ more))) (same v.1)
          ∙ joins (in_directory file.dir v.0) (evaluated_in base (finished ++ (file.directory, v.1) ∷ []) front)
          (evaluated_in base [] back)

  pub evaluated_apart : (front : List Placed) → AreSeparate front back
      → evaluated_in base [] (front ++ back) ≡ and_then (evaluated_in base [] front) (evaluated_in base [] back)
  evaluated_apart front separate = separate_behind front [] (none_first back) separate

-- a file above all that are left is their base

above_length : (a b : List (List ℕ)) → is_above a b ≡ true → length a ≤ length b
above_length [] b above = omega arith
above_length (x ∷ a) [] above = absurd (cc)
above_length (x ∷ a) (y ∷ b) above =
    let rest = above_length a b (and_parts (bytes_eq x y) (is_above a b) above).1 in omega arith

found_once : (a b : Pairs) (best : Finished) (files : List Finished)
    → scope_in a (fold nearer (Some best) files) ≡ scope_in b (fold nearer (Some best) files)
found_once a b best [] = refl
found_once a b best (f ∷ files) =
    by (nat_le (length best.0) (length f.0)) (found_once a b f files) (found_once a b best files)
  where
    by : (less : Bool) → scope_in a (fold nearer (Some f) files) ≡ scope_in b (fold nearer (Some f) files)
        → scope_in a (fold nearer (Some best) files) ≡ scope_in b (fold nearer (Some best) files)
        → scope_in a (fold nearer (if less then Some f else Some best) files)
        ≡ scope_in b (fold nearer (if less then Some f else Some best) files)
    by true one other = one
    by false one other = other

abbrev AreLonger : List (List ℕ) → List Finished → Type 0
AreLonger k files = AllByRecursion (λ f. length k ≤ length f.0) files

longer_left : (k d : List (List ℕ)) (files : List Finished) → AreLonger k files
    → AreLonger k (filter (λ f. is_above f.0 d) files)
longer_left k d [] longer = tt
longer_left k d (f ∷ files) longer = by (is_above f.0 d) (longer_left k d files longer.1)
  where
    by : (above : Bool) → AreLonger k (filter (λ g. is_above g.0 d) files)
        → AreLonger k (cond above (f ∷ filter (λ g. is_above g.0 d) files) (filter (λ g. is_above g.0 d) files))
    by true rest = (longer.0, rest)
    by false rest = rest

base_for : (base scope : Pairs) (k : List (List ℕ)) (files : List Finished) → AreLonger k files
    → scope_in base (fold nearer (Some (k, scope)) files) ≡ scope_in scope (fold nearer None files)
base_for base scope k [] longer = refl
base_for base scope k (f ∷ files) longer =
    ap (λ (t : Bool). scope_in base (fold nearer (if t then Some f else Some (k, scope)) files))
    (le-leb (length k) (length f.0) longer.0)
    ∙ found_once base scope f files

longer_more : (k : List (List ℕ)) (finished : List Finished) (file : Finished) → AreLonger k finished
    → length k ≤ length file.0 → AreLonger k (finished ++ file ∷ [])
longer_more k [] file longer last = (last, tt)
longer_more k (f ∷ finished) file longer last = (longer.0, longer_more k finished file longer.1 last)

module _ (base scope : Pairs) (k : List (List ℕ)) where
  inherits_base : (d : List (List ℕ)) (finished : List Finished) → AreLonger k finished → is_above k d ≡ true
      → scope_in base (nearest_file d ((k, scope) ∷ finished)) ≡ scope_in scope (nearest_file d finished)
  inherits_base d finished longer above =
      ap (λ t. scope_in base (fold nearer None
      (cond t ((k, scope) ∷ filter (λ f. is_above f.0 d) finished) (filter (λ f. is_above f.0 d) finished)))) above
      ∙ base_for base scope k (filter (λ f. is_above f.0 d) finished) (longer_left k d finished longer)

  on_base : (finished : List Finished) (files : List Placed) → AreLonger k finished → Below k files
      → evaluated_in base ((k, scope) ∷ finished) files ≡ evaluated_in scope finished files
  on_base finished [] longer below = refl
  on_base finished (file ∷ files) longer below =
      ap (λ inherited. then_files base ((k, scope) ∷ finished) file files (file_evaluation inherited file.defs))
      (inherits_base file.directory finished longer below.0)
      ∙ by (file_evaluation (scope_in scope (nearest_file file.directory finished)) file.defs)
      (λ more. on_base (finished ++ (file.directory, more) ∷ []) files
      (longer_more k finished (file.directory, more) longer (above_length k file.directory below.0)) below.1)
    where
      by : (values : Result (List Raw × Pairs) Fault)
          → ((more : Pairs) → evaluated_in base ((k, scope) ∷ (finished ++ (file.directory, more) ∷ [])) files
          ≡ evaluated_in scope (finished ++ (file.directory, more) ∷ []) files)
          → then_files base ((k, scope) ∷ finished) file files values ≡ then_files scope finished file files values
      by (Err fault) same = refl
      by (Ok v) same = ap (λ rest. then_do rest (λ more. Ok (in_directory file.dir v.0 ++ more))) (same v.1)

-- first files, each of which is above all behind it

abbrev pub AreAbove : List Placed → List Placed → Type 0
AreAbove [] rest = ⊤
AreAbove (file ∷ trunk) rest = Below file.directory (trunk ++ rest) × AreAbove trunk rest

abbrev IsOver : List Finished → List Placed → Type 0
IsOver [] files = ⊤
IsOver (o ∷ opened) files = Below o.0 files

stays : (opened : List Finished) (file : Placed) (files : List Placed) → IsOver opened (file ∷ files)
    → still_open file.directory opened ≡ opened
stays [] file files over = refl
stays (o ∷ opened) file files over =
    ap (λ (t : Bool). if t then o ∷ opened else still_open file.directory opened) over.0

module _ (base : Pairs) (rest : List Placed) where
  abbrev pub behind : Result Turn Fault → Result Modules Fault
  behind turn = then_do turn (λ t. goes_on t.modules (evaluated_in (scope_in base (innermost t.opened)) [] rest))

  abbrev Continues : List Placed → Type 0
  Continues trunk = (turn : Turn) → IsOver turn.opened (trunk ++ rest) → AreAbove trunk rest
      → behind (all_turned base turn trunk)
      ≡ goes_on turn.modules (evaluated_in (scope_in base (innermost turn.opened)) [] (trunk ++ rest))

  one_more : (file : Placed) (trunk : List Placed) → Continues trunk → Continues (file ∷ trunk)
  one_more file trunk more turn over above =
      ap (λ stay. by_stack stay (file_evaluation (scope_in base (innermost stay)) file.defs))
      (stays turn.opened file (trunk ++ rest) over)
      ∙ same (file_evaluation (scope_in base (innermost turn.opened)) file.defs)
    where
      by_stack : List Finished → Result (List Raw × Pairs) Fault → Result Modules Fault
      by_stack stay values =
          behind (then_do (then_do values (λ v. Ok (with_file turn stay file v))) (λ next. all_turned base next trunk))

      same : (values : Result (List Raw × Pairs) Fault) → by_stack turn.opened values
          ≡ goes_on turn.modules (then_files (scope_in base (innermost turn.opened)) [] file (trunk ++ rest) values)
      same (Err fault) = refl
      same (Ok v) =
          more (with_file turn turn.opened file v) above.0 above.1
          ∙ sym (goes_more turn.modules (in_directory file.dir v.0) (evaluated_in v.1 [] (trunk ++ rest)))
          ∙ ap (λ r. goes_on turn.modules (then_do r (λ ms. Ok (in_directory file.dir v.0 ++ ms))))
          (sym (on_base (scope_in base (innermost turn.opened)) v.1 file.directory [] (trunk ++ rest) tt above.0))

  pub trunk_first : (trunk : List Placed) → Continues trunk
  trunk_first [] turn over above = refl
  trunk_first (file ∷ trunk) turn over above = one_more file trunk (trunk_first trunk) turn over above
