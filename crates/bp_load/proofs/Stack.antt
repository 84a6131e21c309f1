-- The open directories: those that stay open for a file are the ones above it, innermost first.
use Rattle.std.proofs.Common.{◌≡◌, ℕ, ◌<◌, Bool, true, false, cond, true≢false, List, [], ◌∷◌, ◌++◌, length, refl, ap}
use Rattle.std.proofs.Common.{sym, ◌∙◌, arith}
use Rattle.std.specs.Prelude.{reverse, filter, Some, if◌then◌else◌}
use Rattle.std.specs.List.{AllByRecursion, fold}
use Rattle.std.specs.List.Sorted.{IsStrictlySortedBy}
use Rattle.std.specs.declared.cmp.Ordering.TheVariants.{Less}
use Rattle.std.proofs.lemmas.Bool.{le-leb}
use Rattle.std.proofs.lemmas.List.{reverse-append, append-nil, length-reverse}
use Rattle.std.proofs.lemmas.List.Elements.{filter-append}
use Rattle.bp_values.specs.Scopes.{Pairs}
use Rattle.bp_load.specs.Directories.{is_above, directory_cmp}
use Rattle.bp_load.specs.Inherited.{Finished, nearer}
use Rattle.bp_load.specs.Opened.{still_open, innermost}
use Rattle.bp_load.proofs.Above.{above_trans, above_between, above_shorter}

abbrev above : List (List ℕ) → List Finished → List Finished
above d files = filter (λ f. is_above f.0 d) files

-- each file stands before the directory
abbrev pub Before : List (List ℕ) → List Finished → Type 0
Before d files = AllByRecursion (λ f. directory_cmp f.0 d ≡ Less) files

-- what the open directories are, for any file that comes later
pub record IsOpen (finished opened : List Finished) : Type 0 where
  pub stay : (d : List (List ℕ)) → Before d finished → still_open d opened ≡ reverse (above d finished)
  pub before : (d : List (List ℕ)) → Before d finished → Before d opened

pub open_none : IsOpen [] []
open_none = record { stay = λ d before. refl; before = λ d before. tt }

pub not_above : (a b d : List (List ℕ)) → directory_cmp a b ≡ Less → directory_cmp b d ≡ Less → is_above a b ≡ false
    → is_above a d ≡ false
not_above a b d first second apart = by (is_above a d) refl
  where
    by : (above : Bool) → is_above a d ≡ above → is_above a d ≡ false
    by true is = absurd (true≢false (sym (above_between a b d first second is) ∙ apart))
    by false is = is

-- closing for an earlier file closes nothing that stays for a later one
closed_twice : (b d : List (List ℕ)) → directory_cmp b d ≡ Less → (opened : List Finished) → Before b opened
    → still_open d (still_open b opened) ≡ still_open d opened
closed_twice b d later [] before = refl
closed_twice b d later (o ∷ opened) before = by (is_above o.0 b) refl (closed_twice b d later opened before.1)
  where
    by : (stays : Bool) → is_above o.0 b ≡ stays → still_open d (still_open b opened) ≡ still_open d opened
        → still_open d (if stays then o ∷ opened else still_open b opened) ≡ still_open d (o ∷ opened)
    by true is rest = refl
    by false is rest =
        rest
        ∙ sym (ap (λ (t : Bool). if t then o ∷ opened else still_open d opened) (not_above o.0 b d before.0 later is))

before_closed : (b d : List (List ℕ)) (opened : List Finished) → Before d opened → Before d (still_open b opened)
before_closed b d [] before = tt
before_closed b d (o ∷ opened) before = by (is_above o.0 b) (before_closed b d opened before.1)
  where
    by : (stays : Bool) → Before d (still_open b opened) → Before d (if stays then o ∷ opened else still_open b opened)
    by true rest = before
    by false rest = rest

-- above a directory are those above one below it, but for those between
same_above : (a b d : List (List ℕ)) → directory_cmp a b ≡ Less → directory_cmp b d ≡ Less → is_above b d ≡ true
    → is_above a b ≡ is_above a d
same_above a b d first second above = by (is_above a b) refl
  where
    by : (is : Bool) → is_above a b ≡ is → is_above a b ≡ is_above a d
    by true is = is ∙ sym (above_trans a b d is above)
    by false is = is ∙ sym (not_above a b d first second is)

above_same : (b d : List (List ℕ)) → directory_cmp b d ≡ Less → is_above b d ≡ true → (files : List Finished)
    → Before b files → above b files ≡ above d files
above_same b d later below [] before = refl
above_same b d later below (f ∷ files) before =
    ap (λ rest. cond (is_above f.0 b) (f ∷ rest) rest) (above_same b d later below files before.1)
    ∙ ap (λ t. cond t (f ∷ above d files) (above d files)) (same_above f.0 b d before.0 later below)

before_split : (d : List (List ℕ)) (files : List Finished) (f : Finished) → Before d (files ++ f ∷ [])
    → Before d files × (directory_cmp f.0 d ≡ Less)
before_split d [] f before = (tt, before.0)
before_split d (g ∷ files) f before = let rest = before_split d files f before.1 in ((before.0, rest.0), rest.1)

reverse_push : (files : List Finished) (f : Finished) → reverse (files ++ f ∷ []) ≡ f ∷ reverse files
reverse_push files f = reverse-append files (f ∷ [])

pub open_more : (finished opened : List Finished) (b : List (List ℕ)) (scope : Pairs) → IsOpen finished opened
    → Before b finished → IsOpen (finished ++ (b, scope) ∷ []) ((b, scope) ∷ still_open b opened)
open_more finished opened b scope is earlier = record {
  stay = λ d before. let split = before_split d finished (b, scope) before in by d split.0 split.1 (is_above b d) refl;
  before =
      λ d before. let split = before_split d finished (b, scope) before in
      (split.1, before_closed b d opened (is.before d split.0));
}
  where
    by : (d : List (List ℕ)) → Before d finished → directory_cmp b d ≡ Less → (below : Bool) → is_above b d ≡ below
        → still_open d ((b, scope) ∷ still_open b opened) ≡ reverse (above d (finished ++ (b, scope) ∷ []))
    by d before later true below =
        ap (λ (t : Bool). if t then (b, scope) ∷ still_open b opened else still_open d (still_open b opened)) below
        ∙ ap (λ rest. (b, scope) ∷ rest) (is.stay b earlier ∙ ap reverse (above_same b d later below finished earlier))
        ∙ sym (reverse_push (above d finished) (b, scope))
        ∙ ap reverse (sym (filter-append (λ f. is_above f.0 d) finished ((b, scope) ∷ [])
        ∙ ap (λ t. above d finished ++ cond t ((b, scope) ∷ []) []) below))
    by d before later false below =
        ap (λ (t : Bool). if t then (b, scope) ∷ still_open b opened else still_open d (still_open b opened)) below
        ∙ closed_twice b d later opened (is.before b earlier)
        ∙ is.stay d before
        ∙ ap reverse (sym (filter-append (λ f. is_above f.0 d) finished ((b, scope) ∷ [])
        ∙ ap (λ t. above d finished ++ cond t ((b, scope) ∷ []) []) below ∙ append-nil (above d finished)))

-- the innermost is the nearest

innermost_more : (files : List Finished) (f : Finished) → 0 < length files
    → innermost (files ++ f ∷ []) ≡ innermost files
innermost_more [] f some = absurd (omega arith)
innermost_more (g ∷ files) f some = refl

last_kept : (f : Finished) (files : List Finished) → 0 < length files
    → innermost (reverse (f ∷ files)) ≡ innermost (reverse files)
last_kept f files some =
    ap innermost (reverse-append (f ∷ []) files)
    ∙ innermost_more (reverse files) f (omega (arith, length-reverse files))

pub nearest_last : (d : List (List ℕ)) (best : Finished) (files : List Finished)
    → IsStrictlySortedBy (λ (f g : Finished). directory_cmp f.0 g.0) (best ∷ files)
    → AllByRecursion (λ f. is_above f.0 d ≡ true) (best ∷ files)
    → fold nearer (Some best) files ≡ innermost (reverse (best ∷ files))
unfolding IsStrictlySortedBy
nearest_last d best [] sorted all = refl
nearest_last d best (f ∷ files) sorted all =
    ap (λ (t : Bool). fold nearer (if t then Some f else Some best) files)
    (le-leb (length best.0) (length f.0) (above_shorter best.0 f.0 d sorted.0.0 all.0 all.1.0))
    ∙ nearest_last d f files sorted.1 all.1
    ∙ sym (last_kept best (f ∷ files) (omega arith))
