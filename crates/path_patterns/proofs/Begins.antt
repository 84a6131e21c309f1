-- Where the walk begins, component by component.
use Rattle.std.proofs.Common.{◌≡◌, ◌<◌, ◌≤◌, ◌+◌, ℕ, List, [], ◌∷◌, length, drop, get_or, Bool, true, false, Some, refl}
use Rattle.std.proofs.Common.{sym, ap, ◌∙◌}
use Rattle.std.specs.Prelude.{◌&&◌, ◌||◌, if◌then◌else◌}
use Rattle.std.specs.List.{list_all, list_any}
use Rattle.std.proofs.Math.Bool.{true≢false}
use Rattle.std.proofs.lemmas.List.{drop_all}
use Rattle.bp_faults.specs.Paths.{is_component}
use Rattle.bp_faults.proofs.Lists.{drop-here}
use Rattle.dir_entries.specs.Below.{child}
use Rattle.path_patterns.specs.declared.walk.OnWay.{OnWay}
use Rattle.path_patterns.specs.Globs.{has_star}
use Rattle.path_patterns.specs.Levels.{descend, FirstMeans}
use Rattle.path_patterns.specs.Matches.{is_clear, plain_parts, starred_parts}
use Rattle.path_patterns.specs.Stages.{way_of}

-- What the components so far come to, with those to come, is what all come to.
pub record FirstFrom (dir : List ℕ) (parts : List (List ℕ)) (path : List ℕ) (clear : Bool) (at : ℕ) : Type 0 where
  pub all_path : descend path (plain_parts (drop at parts)) ≡ descend dir (plain_parts parts)
  pub all_clear : (clear && list_all is_clear (plain_parts (drop at parts))) ≡ list_all is_clear (plain_parts parts)
  pub all_named : list_all is_component (plain_parts (drop at parts)) ≡ list_all is_component (plain_parts parts)
  pub all_starred : starred_parts (drop at parts) ≡ starred_parts parts
  pub all_some : list_any has_star (drop at parts) ≡ true

pub first_begins : (dir : List ℕ) (parts : List (List ℕ)) → list_any has_star parts ≡ true
    → FirstFrom dir parts dir true 0
first_begins dir parts some = record {
  all_path = refl;
  all_clear = refl;
  all_named = refl;
  all_starred = refl;
  all_some = some;
}

and_assoc : (a b c : Bool) → ((a && b) && c) ≡ (a && (b && c))
and_assoc true b c = refl
and_assoc false b c = refl

and_true : (a : Bool) → (a && true) ≡ a
and_true true = refl
and_true false = refl

module _ (dir : List ℕ) (parts : List (List ℕ)) (path : List ℕ) (clear : Bool) (at : ℕ) (part : List ℕ)
    (inside : at < length parts) (is : part ≡ get_or parts at part) (so : FirstFrom dir parts path clear at) where
  abbrev rest : List (List ℕ)
  rest = drop (at + 1) parts

  here : drop at parts ≡ part ∷ rest
  here = drop-here parts at part inside is

  plain_here : has_star part ≡ false → plain_parts (drop at parts) ≡ part ∷ plain_parts rest
  plain_here plain = ap plain_parts here ∙ ap (λ b. if b then [] else part ∷ plain_parts rest) plain

  plain_none : has_star part ≡ true → plain_parts (drop at parts) ≡ []
  plain_none star = ap plain_parts here ∙ ap (λ b. if b then [] else part ∷ plain_parts rest) star

  -- A component without `*` leads on.
  pub first_onward : has_star part ≡ false → is_component part ≡ true
      → FirstFrom dir parts (child path part) (clear && is_clear part) (at + 1)
  first_onward plain named = record {
    all_path = sym (ap (descend path) (plain_here plain)) ∙ so.all_path;
    all_clear = and_assoc clear (is_clear part) (list_all is_clear (plain_parts rest))
        ∙ sym (ap (λ ps. clear && list_all is_clear ps) (plain_here plain)) ∙ so.all_clear;
    all_named = sym (ap (λ b. b && list_all is_component (plain_parts rest)) named)
        ∙ sym (ap (list_all is_component) (plain_here plain)) ∙ so.all_named;
    all_starred =
        sym (ap starred_parts here ∙ ap (λ b. if b then part ∷ rest else starred_parts rest) plain) ∙ so.all_starred;
    all_some = sym (ap (list_any has_star) here ∙ ap (λ b. b || list_any has_star rest) plain) ∙ so.all_some;
  }

  -- The first with `*` is where the walk begins.
  pub first_found : (first : OnWay) → has_star part ≡ true
      → way_of parts first ≡ record { path = path; clear = clear; rests = (0, drop at parts) ∷ [] }
      → FirstMeans dir parts (Some first)
  first_found first star made = (
    sym so.all_named ∙ ap (list_all is_component) (plain_none star),
    made ∙ λ i. record { path = path_is i; clear = clear_is i; rests = (0, starred_is i) ∷ [] },
  ) where
    path_is : path ≡ descend dir (plain_parts parts)
    path_is = sym (ap (descend path) (plain_none star)) ∙ so.all_path

    clear_is : clear ≡ list_all is_clear (plain_parts parts)
    clear_is = sym (and_true clear) ∙ sym (ap (λ ps. clear && list_all is_clear ps) (plain_none star)) ∙ so.all_clear

    starred_is : drop at parts ≡ starred_parts parts
    starred_is =
        here ∙ sym (ap starred_parts here ∙ ap (λ b. if b then part ∷ rest else starred_parts rest) star)
        ∙ so.all_starred

  -- One that is no component of a path ends it.
  pub first_none : has_star part ≡ false → is_component part ≡ false
      → list_all is_component (plain_parts parts) ≡ false
  first_none plain unnamed =
      sym so.all_named ∙ ap (list_all is_component) (plain_here plain)
      ∙ ap (λ b. b && list_all is_component (plain_parts rest)) unnamed

-- There is one with `*`.
pub first_never : (dir : List ℕ) (parts : List (List ℕ)) (path : List ℕ) (clear : Bool) (at : ℕ) → length parts ≤ at
    → FirstFrom dir parts path clear at → ⊥
first_never dir parts path clear at past so =
    true≢false (sym so.all_some ∙ ap (list_any has_star) (drop_all at parts past))
