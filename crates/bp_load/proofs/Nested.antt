-- The scopes of open directories are outer parts of one scope: closing some, and opening one more, leaves those of the
-- others.
use Rattle.std.proofs.Common.{◌≡◌, ℕ, ◌≤◌, Bool, true, false, cond, List, [], ◌∷◌, ◌++◌, map, refl, ap, sym, subst, ◌∙◌}
use Rattle.std.proofs.Common.{arith}
use Rattle.std.specs.Prelude.{reverse, Ok}
use Rattle.bp_faults.specs.Answers.{then_do}
use Rattle.bp_values.specs.Meaning.{file_evaluation}
use Rattle.bp_load.proofs.Turns.{with_file}
use Rattle.std.proofs.lemmas.List.{take_all, reverse-append}
use Rattle.bp_values.specs.declared.scope.Scope.{Scope}
use Rattle.bp_values.specs.Scopes.{Pairs, pairs_of, count_of, outer_pairs, HasOuter}
use Rattle.bp_load.specs.declared.opened.Open.{Open}
use Rattle.bp_load.specs.Directories.{is_above}
use Rattle.bp_load.specs.Trees.{Placed}
use Rattle.bp_load.specs.Opened.{Turn, next_turn, open_in, still_open, stay_open, names_in, innermost, scope_in}
use Rattle.bp_load.specs.Opened.{AreNested}

-- all names of a scope
pub whole : (s : Scope) → outer_pairs (count_of s) s ≡ pairs_of s
whole s = take_all (count_of s) (pairs_of s) (omega arith)

-- what stays open
pub stays : (s : Scope) (d : List (List ℕ)) (os : List Open)
    → map (open_in s) (stay_open d os) ≡ still_open d (map (open_in s) os)
stays s d [] = refl
stays s d (o ∷ os) = by (is_above o.directory d) (stays s d os)
  where
    by : (b : Bool) → map (open_in s) (stay_open d os) ≡ still_open d (map (open_in s) os)
        → map (open_in s) (cond b (o ∷ os) (stay_open d os))
        ≡ cond b (map (open_in s) (o ∷ os)) (still_open d (map (open_in s) os))
    by true rest = refl
    by false rest = rest

pub higher : (base low high : ℕ) (os : List Open) → low ≤ high → AreNested base low os → AreNested base high os
higher base low high [] le nested = omega arith
higher base low high (o ∷ os) le nested = let first : o.names ≤ low = nested.0 in (omega arith, nested.1)

pub stay_nested : (base most : ℕ) (d : List (List ℕ)) (os : List Open) → AreNested base most os
    → AreNested base most (stay_open d os)
stay_nested base most d [] nested = nested
stay_nested base most d (o ∷ os) nested =
    by (is_above o.directory d) (stay_nested base most d os (higher base o.names most os nested.0 nested.1))
  where
    by : (b : Bool) → AreNested base most (stay_open d os) → AreNested base most (cond b (o ∷ os) (stay_open d os))
    by true rest = nested
    by false rest = rest

-- the base, and the innermost scope
pub base_within : (base most : ℕ) (os : List Open) → AreNested base most os → base ≤ most
base_within base most [] nested = nested
base_within base most (o ∷ os) nested =
    let first : o.names ≤ most = nested.0 in
    let rest : base ≤ o.names = base_within base o.names os nested.1 in
    omega arith

pub innermost_within : (base most : ℕ) (os : List Open) → AreNested base most os → names_in base os ≤ most
innermost_within base most [] nested = nested
innermost_within base most (o ∷ os) nested = nested.0

pub innermost_nested : (base most : ℕ) (os : List Open) → AreNested base most os → AreNested base (names_in base os) os
innermost_nested base most [] nested = omega arith
innermost_nested base most (o ∷ os) nested = (omega arith, nested.1)

pub innermost_scope : (s : Scope) (base : ℕ) (pairs : Pairs) (os : List Open) → outer_pairs base s ≡ pairs
    → outer_pairs (names_in base os) s ≡ scope_in pairs (innermost (map (open_in s) os))
innermost_scope s base pairs [] is = is
innermost_scope s base pairs (o ∷ os) is = refl

-- a scope with the same outer names
pub same_opened : (s t : Scope) (base most : ℕ) (os : List Open) → AreNested base most os → HasOuter most s t
    → map (open_in t) os ≡ map (open_in s) os
same_opened s t base most [] nested same = refl
same_opened s t base most (o ∷ os) nested same =
    let first : o.names ≤ most = nested.0 in
    λ i. (o.directory, same o.names first i) ∷ same_opened s t base o.names os nested.1 (λ n le. same n (omega arith)) i

-- a scope behind another that is behind a third
pub outer_after : (s t u : Scope) (n : ℕ) → HasOuter n s t → count_of t ≡ n → HasOuter (count_of t) t u → HasOuter n s u
outer_after s t u n narrowed count grown m le = grown m (omega (arith, count, le)) ∙ narrowed m le

-- one directory more
pub reverse_push : (os : List Open) (o : Open) → reverse (os ++ o ∷ []) ≡ o ∷ reverse os
reverse_push os o = reverse-append os (o ∷ [])

-- the directories that stay open for a file, and so many names of the scope
module _ (s : Scope) (base n : ℕ) (pairs : Pairs) (os stay : List Open) (d : List (List ℕ))
    (closes : stay ≡ stay_open d os)
    (nested : AreNested base (count_of s) os) (is_base : outer_pairs base s ≡ pairs)
    (count : n ≡ names_in base stay) where
  still : AreNested base (count_of s) stay
  still = subst (AreNested base (count_of s)) (sym closes) (stay_nested base (count_of s) d os nested)

  pub within : n ≤ count_of s
  within =
      let le : names_in base stay ≤ count_of s = innermost_within base (count_of s) stay still in
      omega (arith, count, le)

  inner : AreNested base n stay
  inner = subst (λ m. AreNested base m stay) (sym count) (innermost_nested base (count_of s) stay still)

  finished : map (open_in s) stay ≡ still_open d (map (open_in s) os)
  finished = ap (map (open_in s)) closes ∙ stays s d os

  -- the file inherits the scope of the innermost
  pub inherits : outer_pairs n s ≡ scope_in pairs (innermost (still_open d (map (open_in s) os)))
  inherits =
      ap (λ m. outer_pairs m s) count
      ∙ innermost_scope s base pairs stay is_base
      ∙ ap (λ l. scope_in pairs (innermost l)) finished

  -- its own scope is the innermost then
  module _ (new : Scope) (o : Open) (all : List Open) (pushed : reverse all ≡ o ∷ stay) (names : o.names ≡ count_of new)
      (outer : HasOuter n s new) (grown : n ≤ count_of new) where
    pub opened_more : map (open_in new) (reverse all) ≡ (o.directory, pairs_of new) ∷ still_open d (map (open_in s) os)
    opened_more =
        ap (map (open_in new)) pushed
        ∙ (λ i. (o.directory, (ap (λ m. outer_pairs m new) names ∙ whole new) i)
        ∷ (same_opened s new base n stay inner outer ∙ finished) i)

    pub nested_more : AreNested base (count_of new) (reverse all)
    nested_more =
        subst (AreNested base (count_of new)) (sym pushed) (
          omega (arith, names),
          subst (λ m. AreNested base m stay) (sym names) (higher base n (count_of new) stay grown inner),
        )

    pub base_more : outer_pairs base new ≡ pairs
    base_more = outer base (base_within base n stay inner) ∙ is_base

-- a file that inherits those pairs is evaluated
pub turned_by : (base inherited : Pairs) (turn : Turn) (file : Placed)
    → inherited ≡ scope_in base (innermost (still_open file.directory turn.opened))
    → next_turn base turn file ≡ then_do (file_evaluation inherited file.defs)
    (λ values. Ok (with_file turn (still_open file.directory turn.opened) file values))
turned_by base inherited turn file is =
    ap (λ b. then_do (file_evaluation b file.defs)
    (λ values. Ok (with_file turn (still_open file.directory turn.opened) file values))) (sym is)
