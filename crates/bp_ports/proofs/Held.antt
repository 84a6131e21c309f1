-- Which paths the files have: those that were given, and those that were written.
use Rattle.std.proofs.Common.{◌≡◌, ◌↔◌, ◌++◌, ℕ, Bool, true, false, cond, List, [], ◌∷◌, map, Some, refl, sym, ap, ◌∙◌}
use Rattle.std.proofs.Common.{subst, Bor}
use Rattle.std.specs.Prelude.{◌||◌, Vec, Result, Ok, Err, IfOk}
use Rattle.std.specs.Option.{is_some}
use Rattle.std.specs.List.{Contains, list_any}
use Rattle.std.specs.Ordering.{nat_cmp, eq_by_cmp, is_eq}
use Rattle.std.specs.Cmp.Lexicographic.{slice_cmp, nat_list_cmp_total}
use Rattle.std.specs.declared.alloc.Global.{Global}
use Rattle.std.specs.declared.cmp.Ordering.{Ordering}
use Rattle.std.specs.declared.cmp.Ordering.TheVariants.{Less, Equal, Greater}
use Rattle.std.specs.FinMap.{get, insert, keys, contains_key, from_entries, contains_key-keys, get-insert}
use Rattle.std.specs.FinMap.{slice_cmp-IsAntisymmetric, nat_cmp-IsAntisymmetric, get-from_entries}
use Rattle.std.proofs.Math.Bool.{true≢false}
use Rattle.std.proofs.lemmas.Cmp.{eq_by_cmp_equiv}
use Rattle.std.proofs.lemmas.Map.Views.{list_any-from_Contains, Contains-from_any}
use Rattle.bp_ports.specs.Files.{Files}
use Rattle.bp_ports.specs.Lists.{ArePaths}
use Rattle.bp_ports.specs.MemStore.{entries_of}
use Rattle.bp_ports.specs.declared.writes.Span.{Span}
use Rattle.bp_ports.specs.Written.{files_after, written_paths, first_path, first_bytes, run_behind}

-- Two paths are the same by their order.
abbrev same : List ℕ → List ℕ → Bool
same = eq_by_cmp (slice_cmp nat_cmp)

is_equal : (r : Ordering) → is_eq r ≡ true → r ≡ Equal
is_equal Less h = absurd (true≢false (sym h))
is_equal Equal h = refl
is_equal Greater h = absurd (true≢false (sym h))

same_path : (x y : List ℕ) → same x y ≡ true → x ≡ y
same_path x y h = slice_cmp-IsAntisymmetric nat_cmp-IsAntisymmetric x y (is_equal (slice_cmp nat_cmp x y) h)

found : (xs : List (List ℕ)) (q : List ℕ) → list_any (same q) xs ≡ true → Contains xs q
found xs q h = Contains-from_any same_path q xs h

contained : (xs : List (List ℕ)) (q : List ℕ) → Contains xs q → list_any (same q) xs ≡ true
contained xs q h = list_any-from_Contains (eq_by_cmp_equiv nat_list_cmp_total) q xs h

inserted : (m : Files) (k v q : List ℕ) → contains_key (insert m k v) q ≡ (same q k || contains_key m q)
inserted m k v q = ap is_some (get-insert nat_list_cmp_total m k v q) ∙ by (same q k) where
  by : (b : Bool) → is_some (cond b (Some v) (get m q)) ≡ (b || contains_key m q)
  by true = refl
  by false = refl

-- Files of entries, of two with one path the first.
abbrev files_of : List (List ℕ × List ℕ) → Files
files_of es = from_entries es

none : (q : List ℕ) → contains_key (files_of []) q ≡ false
none q = ap is_some (get-from_entries nat_list_cmp_total [] q)

given : (es : List (List ℕ × List ℕ)) (q : List ℕ)
    → contains_key (files_of es) q ≡ list_any (same q) (map (λ e. e.0) es)
given [] q = none q
given (e ∷ es) q = inserted (files_of es) e.0 e.1 q ∙ ap (λ b. same q e.0 || b) (given es q)

or_false : (b : Bool) → b ≡ (b || false)
or_false true = refl
or_false false = refl

turned : (e held rest : Bool) → ((e || held) || rest) ≡ (held || (e || rest))
turned true true rest = refl
turned true false rest = refl
turned false held rest = refl

written : (spans : List Span) (run : List ℕ) (m : Files) (q : List ℕ)
    → contains_key (files_after spans run m) q ≡ (contains_key m q || list_any (same q) (written_paths spans run))
written [] run m q = or_false (contains_key m q)
written (s ∷ spans) run m q =
    written spans (run_behind s run) (insert m (first_path s run) (first_bytes s run)) q
    ∙ ap (λ b. b || list_any (same q) (written_paths spans (run_behind s run)))
    (inserted m (first_path s run) (first_bytes s run) q)
    ∙ turned (same q (first_path s run)) (contains_key m q)
    (list_any (same q) (written_paths spans (run_behind s run)))

any_append : (q : List ℕ) (xs ys : List (List ℕ))
    → (list_any (same q) xs || list_any (same q) ys) ≡ list_any (same q) (xs ++ ys)
any_append q [] ys = refl
any_append q (x ∷ xs) ys = by (same q x) (any_append q xs ys) where
  by : (b : Bool) → (list_any (same q) xs || list_any (same q) ys) ≡ list_any (same q) (xs ++ ys)
      → ((b || list_any (same q) xs) || list_any (same q) ys) ≡ (b || list_any (same q) (xs ++ ys))
  by true e = refl
  by false e = e

given_paths : (files : List (List ℕ × Vec ℕ Global)) → map (λ e. e.0) (entries_of files) ≡ map (λ f. f.0) files
given_paths [] = refl
given_paths (f ∷ files) = ap (λ ps. f.0 ∷ ps) (given_paths files)

all_keys : (spans : List Span) (run : List ℕ) (files : List (List ℕ × Vec ℕ Global)) (q : List ℕ)
    → contains_key (files_after spans run (from_entries (entries_of files))) q
    ≡ list_any (same q) (map (λ f. f.0) files ++ written_paths spans run)
all_keys spans run files q =
    written spans run (from_entries (entries_of files)) q
    ∙ ap (λ b. b || list_any (same q) (written_paths spans run))
    (given (entries_of files) q ∙ ap (list_any (same q)) (given_paths files))
    ∙ any_append q (map (λ f. f.0) files) (written_paths spans run)

-- A path is held that was given or written.
pub held_paths : (spans : List Span) (run : List ℕ) (files : List (List ℕ × Vec ℕ Global)) (q : List ℕ)
    → Contains (map (λ f. f.0) files ++ written_paths spans run) q
    ↔ Contains (keys (files_after spans run (from_entries (entries_of files)))) q
held_paths spans run files q =
    let held = files_after spans run (from_entries (entries_of files)) in
    let both = map (λ f. f.0) files ++ written_paths spans run in
    let keyed = all_keys spans run files q in (
      λ h. found (keys held) q (sym (contains_key-keys held q) ∙ keyed ∙ contained both q h),
      λ h. found both q (sym keyed ∙ contains_key-keys held q ∙ contained (keys held) q h),
    )

-- The paths that were given, and behind them those that were written, are those that are held.
pub paths_held : {E : Type 0} (spans : List Span) (run : List ℕ) (files : List (List ℕ × Vec ℕ Global))
    (front : List (Bor (List ℕ))) (r : Result (Vec (Bor (List ℕ)) Global) E)
    → map (λ (path : Bor (List ℕ)). path.now) front ≡ map (λ f. f.0) files
    → IfOk r (λ all. map (λ path. path.now) all.items
    ≡ map (λ (path : Bor (List ℕ)). path.now) front ++ written_paths spans run)
    → IfOk r (λ all. ArePaths (map (λ path. path.now) all.items)
    (files_after spans run (from_entries (entries_of files))))
paths_held spans run files front (Err e) given made = tt
paths_held spans run files front (Ok all) given made =
    subst (λ paths. ArePaths paths (files_after spans run (from_entries (entries_of files))))
    (sym (made ∙ ap (λ paths. paths ++ written_paths spans run) given)) (held_paths spans run files)
