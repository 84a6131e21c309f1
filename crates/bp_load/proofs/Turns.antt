-- Files evaluated in turn, while the directories above stay open, give what they give by the nearest above.
use Rattle.std.specs.declared.cmp.Ordering.{Ordering}
use Rattle.std.proofs.Common.{◌≡◌, ℕ, ◌+◌, ◌<◌, Bool, true, false, cond, List, [], ◌∷◌, ◌++◌, length, get_or, map, drop}
use Rattle.std.proofs.Common.{refl, ap, sym, subst, ◌∙◌, arith, suc, append_assoc}
use Rattle.std.specs.Prelude.{reverse, filter, None, Result, Ok, Err}
use Rattle.std.specs.List.{AllByRecursion, fold}
use Rattle.std.specs.List.Sorted.{IsStrictlySortedBy}
use Rattle.std.specs.declared.cmp.Ordering.TheVariants.{Less}
use Rattle.std.proofs.Math.Seq.{drop-cons}
use Rattle.std.proofs.lemmas.List.{append-nil, map-append}
use Rattle.std.proofs.lemmas.List.Kept.{IsStrictlySortedBy-filter}
use Rattle.bp_faults.specs.declared.fault.Fault.{Fault}
use Rattle.bp_faults.specs.Answers.{then_do}
use Rattle.bp_values.specs.Scopes.{Pairs}
use Rattle.bp_values.specs.Meaning.{Raw, file_evaluation}
use Rattle.bp_load.specs.Directories.{is_above, directory_cmp}
use Rattle.bp_load.specs.Trees.{Placed}
use Rattle.bp_load.specs.Inherited.{Finished, nearer, nearest_file, in_directory}
use Rattle.bp_load.specs.Opened.{Turn, scope_in, evaluated_in, still_open, innermost, next_turn, all_turned, no_turn}
use Rattle.bp_load.proofs.Stack.{Before, IsOpen, open_none, open_more, nearest_last}

abbrev pub Modules : Type 0
Modules = List (List ℕ × Raw)

-- all files before the one at a directory are before it

keys_split : (ks more : List (List (List ℕ))) (k : List (List ℕ)) → IsStrictlySortedBy directory_cmp (ks ++ k ∷ more)
    → AllByRecursion (λ x. directory_cmp x k ≡ Less) ks × IsStrictlySortedBy directory_cmp ks
unfolding IsStrictlySortedBy
keys_split [] more k sorted = (tt, tt)
keys_split (x ∷ ks) more k sorted =
    let rest = keys_split ks more k sorted.1 in
    let head = all_split (λ y. directory_cmp x y ≡ Less) ks k more sorted.0 in
    ((head.1, rest.0), (head.0, rest.1))
  where
    all_split : (P : List (List ℕ) → Type 0) (ks : List (List (List ℕ))) (k : List (List ℕ))
        (more : List (List (List ℕ))) → AllByRecursion P (ks ++ k ∷ more) → AllByRecursion P ks × P k
    all_split P [] k more all = (tt, all.0)
    all_split P (y ∷ ks) k more all = let rest = all_split P ks k more all.1 in ((all.0, rest.0), rest.1)

before_keys : (d : List (List ℕ)) (files : List Finished)
    → AllByRecursion (λ x. directory_cmp x d ≡ Less) (map (λ f. f.0) files) → Before d files
before_keys d [] all = tt
before_keys d (f ∷ files) all = (all.0, before_keys d files all.1)

abbrev file_cmp : Finished → Finished → Ordering
file_cmp f g = directory_cmp f.0 g.0

all_keys : (d : List (List ℕ)) (files : List Finished)
    → AllByRecursion (λ x. directory_cmp d x ≡ Less) (map (λ f. f.0) files)
    → AllByRecursion (λ (f : Finished). directory_cmp d f.0 ≡ Less) files
all_keys d [] all = tt
all_keys d (f ∷ files) all = (all.0, all_keys d files all.1)

sorted_files : (files : List Finished) → IsStrictlySortedBy directory_cmp (map (λ f. f.0) files)
    → IsStrictlySortedBy file_cmp files
unfolding IsStrictlySortedBy
sorted_files [] sorted = tt
sorted_files (f ∷ files) sorted = (all_keys f.0 files sorted.0, sorted_files files sorted.1)

-- what a file inherits is the scope of the innermost directory that stays open

all_above : (d : List (List ℕ)) (files : List Finished)
    → AllByRecursion (λ f. is_above f.0 d ≡ true) (filter (λ f. is_above f.0 d) files)
all_above d [] = tt
all_above d (f ∷ files) = by (is_above f.0 d) refl (all_above d files)
  where
    by : (above : Bool) → is_above f.0 d ≡ above
        → AllByRecursion (λ f. is_above f.0 d ≡ true) (filter (λ f. is_above f.0 d) files)
        → AllByRecursion (λ f. is_above f.0 d ≡ true)
        (cond above (f ∷ filter (λ f. is_above f.0 d) files) (filter (λ f. is_above f.0 d) files))
    by true is rest = (is, rest)
    by false is rest = rest

nearest_of : (d : List (List ℕ)) (files : List Finished) → IsStrictlySortedBy file_cmp files
    → AllByRecursion (λ f. is_above f.0 d ≡ true) files → fold nearer None files ≡ innermost (reverse files)
nearest_of d [] sorted all = refl
nearest_of d (f ∷ files) sorted all = nearest_last d f files sorted all

inherits : (d : List (List ℕ)) (files opened : List Finished) → IsStrictlySortedBy directory_cmp (map (λ f. f.0) files)
    → IsOpen files opened → Before d files → nearest_file d files ≡ innermost (still_open d opened)
inherits d files opened sorted is before =
    nearest_of d (filter (λ f. is_above f.0 d) files)
    (IsStrictlySortedBy-filter file_cmp (λ f. is_above f.0 d) files (sorted_files files sorted)) (all_above d files)
    ∙ ap innermost (sym (is.stay d before))

-- modules in front of others

abbrev pub goes_on : Modules → Result Modules Fault → Result Modules Fault
goes_on done rest = then_do rest (λ more. Ok (done ++ more))

pub goes_none : (rest : Result Modules Fault) → goes_on [] rest ≡ rest
goes_none (Ok more) = refl
goes_none (Err fault) = refl

pub goes_more : (done here : Modules) (rest : Result Modules Fault)
    → goes_on done (then_do rest (λ more. Ok (here ++ more))) ≡ goes_on (done ++ here) rest
goes_more done here (Ok more) = ap Ok (sym (append_assoc done here more))
goes_more done here (Err fault) = refl

-- what is left to evaluate behind some files

abbrev pub with_file : Turn → List Finished → Placed → List Raw × Pairs → Turn
with_file turn stay file values = record {
  opened = (file.directory, values.1) ∷ stay;
  modules = turn.modules ++ in_directory file.dir values.0;
}

abbrev pub modules_of : Result Turn Fault → Result Modules Fault
modules_of turn = then_do turn (λ t. Ok t.modules)

abbrev directories_of : List Placed → List (List (List ℕ))
directories_of files = map (λ p. p.directory) files

module _ (base : Pairs) where
  abbrev AllTurn : List Placed → Type 0
  AllTurn files =
      (finished : List Finished) (turn : Turn) → IsOpen finished turn.opened
      → IsStrictlySortedBy directory_cmp (map (λ f. f.0) finished ++ directories_of files)
      → modules_of (all_turned base turn files) ≡ goes_on turn.modules (evaluated_in base finished files)

  one_more : (file : Placed) (files : List Placed) → AllTurn files → AllTurn (file ∷ files)
  one_more file files more finished turn is sorted = same (file_evaluation (scope_in base (innermost stay)) file.defs)
      ∙ ap (λ scope. by_nearest (file_evaluation (scope_in base scope) file.defs))
      (sym (inherits file.directory finished turn.opened split.1 is before))
    where
      stay : List Finished
      stay = still_open file.directory turn.opened

      split : AllByRecursion (λ x. directory_cmp x file.directory ≡ Less) (map (λ f. f.0) finished)
          × IsStrictlySortedBy directory_cmp (map (λ f. f.0) finished)
      split = keys_split (map (λ f. f.0) finished) (directories_of files) file.directory sorted

      before : Before file.directory finished
      before = before_keys file.directory finished split.0

      by_stack : Result (List Raw × Pairs) Fault → Result Modules Fault
      by_stack values =
          modules_of (then_do (then_do values (λ v. Ok (with_file turn stay file v)))
          (λ next. all_turned base next files))

      by_nearest : Result (List Raw × Pairs) Fault → Result Modules Fault
      by_nearest values =
          goes_on turn.modules (then_do values (λ v. then_do (evaluated_in base
          (finished ++ (file.directory, v.1) ∷ []) files) (λ more. Ok (in_directory file.dir v.0 ++ more))))

      keys : (scope : Pairs) → map (λ f. f.0) finished ++ directories_of (file ∷ files)
          ≡ map (λ f. f.0) (finished ++ (file.directory, scope) ∷ []) ++ directories_of files
      keys scope =
          sym (append_assoc (map (λ f. f.0) finished) (file.directory ∷ []) (directories_of files))
          ∙ ap (λ ks. ks ++ directories_of files) (sym (map-append (λ f. f.0) finished ((file.directory, scope) ∷ [])))

      same : (values : Result (List Raw × Pairs) Fault) → by_stack values ≡ by_nearest values
      same (Err fault) = refl
      same (Ok v) =
          more (finished ++ (file.directory, v.1) ∷ []) (with_file turn stay file v) (open_more finished turn.opened
          file.directory v.1 is before) (subst (IsStrictlySortedBy directory_cmp) (keys v.1) sorted)
          ∙ sym (goes_more turn.modules (in_directory file.dir v.0)
          (evaluated_in base (finished ++ (file.directory, v.1) ∷ []) files))

  all_turn : (files : List Placed) → AllTurn files
  all_turn [] finished turn is sorted = ap Ok (sym (append-nil turn.modules))
  all_turn (file ∷ files) finished turn is sorted = one_more file files (all_turn files) finished turn is sorted

  -- all files, from the first
  pub turned_first : (files : List Placed) → IsStrictlySortedBy directory_cmp (directories_of files)
      → modules_of (all_turned base no_turn files) ≡ evaluated_in base [] files
  turned_first files sorted = all_turn files [] no_turn open_none sorted ∙ goes_none (evaluated_in base [] files)

-- one file more

one_behind : (i : ℕ) → suc i ≡ i + 1
one_behind i = omega arith

from_here : (all : List Placed) (i : ℕ) (file : Placed) → i < length all → file ≡ get_or all i file
    → drop i all ≡ file ∷ drop (i + 1) all
from_here all i file within is =
    drop-cons all i file within ∙ ap (λ f. f ∷ drop (suc i) all) (sym is) ∙ ap (λ n. file ∷ drop n all) (one_behind i)

module _ (base : Pairs) (all : List Placed) (i : ℕ) (turn : Turn) (file : Placed) (within : i < length all)
    (here : file ≡ get_or all i file) (so_far : all_turned base no_turn all ≡ all_turned base turn (drop i all)) where
  with_next : (next : Result Turn Fault) → next_turn base turn file ≡ next
      → all_turned base no_turn all ≡ then_do next (λ t. all_turned base t (drop (i + 1) all))
  with_next next is =
      so_far
      ∙ ap (all_turned base turn) (from_here all i file within here)
      ∙ ap (λ r. then_do r (λ t. all_turned base t (drop (i + 1) all))) is

  pub turned_more : (new : Turn) → next_turn base turn file ≡ Ok new
      → all_turned base no_turn all ≡ all_turned base new (drop (i + 1) all)
  turned_more new is = with_next (Ok new) is

  pub turned_fault : (fault : Fault) → next_turn base turn file ≡ Err fault → all_turned base no_turn all ≡ Err fault
  turned_fault fault is = with_next (Err fault) is
