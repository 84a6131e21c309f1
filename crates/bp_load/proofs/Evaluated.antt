-- Files evaluated in parts: a trunk and its branches, and two halves of which the second begins a branch.
use Rattle.std.proofs.Common.{◌≡◌, ℕ, List, [], ◌++◌, Vec, Global, map, take, drop, ap, refl, sym, subst, ◌∙◌}
use Rattle.std.specs.Prelude.{Result, Ok, Err}
use Rattle.std.specs.List.Sorted.{IsStrictlySortedBy}
use Rattle.std.proofs.lemmas.List.{map-append, take-map, drop-map}
use Rattle.bp_faults.specs.Answers.{Answers}
use Rattle.bp_faults.specs.declared.fault.Fault.{Fault}
use Rattle.bp_faults.specs.declared.refusal.Refusal.{Refusal}
use Rattle.bp_values.specs.declared.file.RawModule.{RawModule}
use Rattle.bp_values.specs.Meaning.{Raw}
use Rattle.bp_values.specs.Scopes.{Pairs}
use Rattle.bp_load.specs.declared.opened.Evaluated.{Evaluated}
use Rattle.bp_load.specs.declared.parsed.Parsed.{Parsed}
use Rattle.bp_load.specs.Directories.{directory_cmp}
use Rattle.bp_load.specs.Trees.{Placed, placed_of}
use Rattle.bp_load.specs.Inherited.{placed_raw}
use Rattle.bp_load.specs.Halves.{JoinMeans}
use Rattle.bp_load.specs.Opened.{Turn, evaluated_in, all_turned, no_turn, values_of, modules_alone}
use Rattle.bp_load.specs.Branches.{directories_of, IsTrunk, IsBranch}
use Rattle.bp_load.proofs.Joined.{taken_and_dropped, and_then, both_answered}
use Rattle.bp_load.proofs.Turns.{goes_none}
use Rattle.bp_load.proofs.Bases.{behind, trunk_first, evaluated_apart, AreAbove, AreSeparate}
use Rattle.bp_load.proofs.Branches.{separate_at, trunk_above, sorted_front, sorted_back}

-- modules of both halves
pub raws_joined : (front back all : Vec (List ℕ × RawModule) Global) → all.items ≡ front.items ++ back.items
    → map placed_raw all.items ≡ map placed_raw front.items ++ map placed_raw back.items
raws_joined front back all is = ap (map placed_raw) is ∙ map-append placed_raw front.items back.items

-- an answer of modules alone, and one with the scopes that were left

module _ (meant : Result (List (List ℕ × Raw)) Fault) where
  modules_answer : (r : Result Evaluated Refusal) → Answers values_of r meant
      → Answers (λ (modules : Vec (List ℕ × RawModule) Global). map placed_raw modules.items) (modules_alone r) meant
  modules_answer (Ok evaluated) is = is
  modules_answer (Err refusal) is = is

  evaluated_answers : (r : Result Evaluated Refusal)
      → Answers (λ (modules : Vec (List ℕ × RawModule) Global). map placed_raw modules.items) (modules_alone r) meant
      → Answers values_of r meant
  evaluated_answers (Ok evaluated) is = is
  evaluated_answers (Err refusal) is = is

-- two parts that are evaluated, one behind the other
pub evaluated_joined : (first second : Result (List (List ℕ × Raw)) Fault) (front back whole : Result Evaluated Refusal)
    → Answers values_of front first → Answers values_of back second
    → JoinMeans (modules_alone front) (modules_alone back) (modules_alone whole)
    → Answers values_of whole (and_then first second)
evaluated_joined first second front back whole a b is =
    evaluated_answers (and_then first second) whole
    (both_answered (λ (modules : Vec (List ℕ × RawModule) Global). map placed_raw modules.items) raws_joined
    first second (modules_alone front) (modules_alone back) (modules_alone whole) (modules_answer first front a)
    (modules_answer second back b) is)

-- modules that are there, and a part that is evaluated behind them
pub evaluated_behind : (modules : Vec (List ℕ × RawModule) Global) (second : Result (List (List ℕ × Raw)) Fault)
    (back whole : Result Evaluated Refusal) → Answers values_of back second
    → JoinMeans (Ok modules) (modules_alone back) (modules_alone whole)
    → Answers values_of whole (and_then (Ok (map placed_raw modules.items)) second)
evaluated_behind modules second back whole b is =
    evaluated_answers (and_then (Ok (map placed_raw modules.items)) second) whole
    (both_answered (λ (modules : Vec (List ℕ × RawModule) Global). map placed_raw modules.items) raws_joined
    (Ok (map placed_raw modules.items)) second (Ok modules) (modules_alone back) (modules_alone whole) refl
    (modules_answer second back b) is)

-- two parts of files, in front of a place and behind it
module _ (all front back : List Parsed) (at : ℕ) (first : front ≡ take at all) (second : back ≡ drop at all) where
  placed : List Placed
  placed = map placed_of all

  parts : directories_of all ≡ directories_of front ++ directories_of back
  parts =
      ap directories_of (sym (taken_and_dropped all front back at first second))
      ∙ ap (map (λ (p : Placed). p.directory)) (map-append placed_of front back)
      ∙ map-append (λ (p : Placed). p.directory) (map placed_of front) (map placed_of back)

  pub order_front : IsStrictlySortedBy directory_cmp (directories_of all)
      → IsStrictlySortedBy directory_cmp (directories_of front)
  order_front sorted =
      sorted_front (directories_of front) (directories_of back) (subst (IsStrictlySortedBy directory_cmp) parts sorted)

  pub order_back : IsStrictlySortedBy directory_cmp (directories_of all)
      → IsStrictlySortedBy directory_cmp (directories_of back)
  order_back sorted =
      sorted_back (directories_of front) (directories_of back) (subst (IsStrictlySortedBy directory_cmp) parts sorted)

  placed_front : take at (map placed_of all) ≡ map placed_of front
  placed_front = take-map placed_of at all ∙ ap (map placed_of) (sym first)

  placed_back : drop at (map placed_of all) ≡ map placed_of back
  placed_back = drop-map placed_of at all ∙ ap (map placed_of) (sym second)

  together : map placed_of front ++ map placed_of back ≡ map placed_of all
  together =
      sym (map-append placed_of front back) ∙ ap (map placed_of) (taken_and_dropped all front back at first second)

  pub evaluated_halves : (base : Pairs) → IsStrictlySortedBy directory_cmp (directories_of all)
      → IsBranch (directories_of all) at
      → evaluated_in base [] (map placed_of all)
      ≡ and_then (evaluated_in base [] (map placed_of front)) (evaluated_in base [] (map placed_of back))
  evaluated_halves base sorted branch =
      let apart : AreSeparate (map placed_of front) (map placed_of back) =
      subst (λ fs. AreSeparate fs (map placed_of back)) placed_front (subst (AreSeparate (take at (map placed_of all)))
      placed_back (separate_at (map placed_of all) at sorted branch)) in
      ap (evaluated_in base []) (sym together) ∙ evaluated_apart base (map placed_of back) (map placed_of front) apart

  pub evaluated_branches : (base : Pairs) → IsStrictlySortedBy directory_cmp (directories_of all)
      → IsTrunk (directories_of all) at → (turn : Result Turn Fault)
      → all_turned base no_turn (map placed_of front) ≡ turn
      → evaluated_in base [] (map placed_of all) ≡ behind base (map placed_of back) turn
  evaluated_branches base sorted trunk turn is =
      let above : AreAbove (map placed_of front) (map placed_of back) =
      subst (λ fs. AreAbove fs (map placed_of back)) placed_front
      (subst (AreAbove (take at (map placed_of all))) placed_back (trunk_above (map placed_of all) at sorted trunk)) in
      ap (evaluated_in base []) (sym together)
      ∙ sym (goes_none (evaluated_in base [] (map placed_of front ++ map placed_of back)))
      ∙ sym (trunk_first base (map placed_of back) (map placed_of front) no_turn tt above)
      ∙ ap (behind base (map placed_of back)) is
