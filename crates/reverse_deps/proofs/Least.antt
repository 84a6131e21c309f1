-- The first item of a list that passes a test, and the least node that a request is for.
use Rattle.std.proofs.Common.{◌≡◌, ◌<◌, ◌+◌, ◌&&◌, ℕ, zero, suc, Bool, true, false, cond, List, [], ◌∷◌, Option, Some}
use Rattle.std.proofs.Common.{None, nat_eq, refl, ap, sym, ◌∙◌, subst, arith, eq-eqb}
use Rattle.std.specs.Prelude.{slice_get}
use Rattle.std.specs.Option.{option_map}
use Rattle.std.specs.List.{position_from}
use Rattle.std.proofs.lemmas.Bool.{eqb-true, and_parts, and_from}
use Rattle.graph_nodes.specs.declared.graph.Node.{Node}
use Rattle.graph_nodes.specs.declared.variations.Axis.TheVariants.{Target, Image, Link}
use Rattle.graph_nodes.specs.Laws.{SameMeansEqual}
use Rattle.mutator_rules.specs.declared.request.Wanted.{Wanted}
use Rattle.reverse_deps.specs.Laws.{along, IsFor, HasFor, IsLeastFor}
use Rattle.reverse_deps.specs.Resolved.{has_variation, is_wanted, is_for, node_for}

module _ {X : Type 0} (test : X → Bool) where
  -- the item at an index passes
  abbrev Passes : List X → ℕ → Type 0
  Passes xs n = (x : X) × (slice_get xs n ≡ Some x) × (test x ≡ true)

  -- the first index whose item passes, where indices count from k on, or none
  abbrev IsFirstFrom : ℕ → List X → Option ℕ → Type 0
  IsFirstFrom k xs None = (n : ℕ) → Passes xs n → ⊥
  IsFirstFrom k xs (Some first) =
      (n : ℕ) × (first ≡ k + n) × Passes xs n × ((j : ℕ) → j < n → Passes xs j → ⊥)

  none_there : (n : ℕ) → Passes [] n → ⊥
  none_there n p = let at = p.1 in cc

  -- where the first item doesn't pass, what passes stands behind it
  passes_behind : (x : X) (xs : List X) (n : ℕ) → test x ≡ false → Passes (x ∷ xs) n
      → (m : ℕ) × (n ≡ suc m) × Passes xs m
  passes_behind x xs zero fails p =
      let at = p.1 in let same : x ≡ p.0 = cc in let never : false ≡ true = sym fails ∙ ap test same ∙ p.2 in cc
  passes_behind x xs (suc m) fails p = (m, refl, p)

  behind : (k : ℕ) (x : X) (xs : List X) → test x ≡ false → (o : Option ℕ) → IsFirstFrom (k + 1) xs o
      → IsFirstFrom k (x ∷ xs) o
  behind k x xs fails None rest = λ n p. let q = passes_behind x xs n fails p in rest q.0 q.2
  behind k x xs fails (Some first) rest = (
    suc rest.0,
    let e = rest.1 in omega arith,
    rest.2,
    λ j lt p. let q = passes_behind x xs j fails p in let e = q.1 in rest.3 q.0 (omega arith) q.2,
  )

  pub first_from : (k : ℕ) (xs : List X) → IsFirstFrom k xs (position_from test k xs)
  first_from k [] = λ n p. none_there n p
  first_from k (x ∷ xs) = by (test x) refl (first_from (k + 1) xs)
    where
      by : (b : Bool) → test x ≡ b → IsFirstFrom (k + 1) xs (position_from test (k + 1) xs)
          → IsFirstFrom k (x ∷ xs) (cond b (Some k) (position_from test (k + 1) xs))
      by true is rest = (zero, omega arith, (x, refl, is), λ j lt p. absurd (omega arith))
      by false is rest = behind k x xs is (position_from test (k + 1) xs) rest

module _ {P : Type 0} (told : SameMeansEqual) (m : ℕ) (want : Wanted) where
  passed : (x : Node P) → is_for m want x ≡ true → IsFor m want x
  passed x is =
      let own = and_parts (nat_eq x.«module».0 m) (is_wanted want x.vars) is in
      let first =
      and_parts (has_variation Target want.target x.vars)
      (has_variation Image want.image x.vars && has_variation Link want.link x.vars) own.1 in
      let rest = and_parts (has_variation Image want.image x.vars) (has_variation Link want.link x.vars) first.1 in
      record {
        of_module = eqb-true x.«module».0 m own.0;
        target = (told want.target (along Target x)).0 first.0;
        image = (told want.image (along Image x)).0 rest.0;
        link = (told want.link (along Link x)).0 rest.1;
      }

  passes : (x : Node P) → IsFor m want x → is_for m want x ≡ true
  passes x is =
      and_from (nat_eq x.«module».0 m) (is_wanted want x.vars) (eq-eqb x.«module».0 m is.of_module)
      (and_from (has_variation Target want.target x.vars)
      (has_variation Image want.image x.vars && has_variation Link want.link x.vars)
      ((told want.target (along Target x)).1 is.target)
      (and_from (has_variation Image want.image x.vars) (has_variation Link want.link x.vars)
      ((told want.image (along Image x)).1 is.image) ((told want.link (along Link x)).1 is.link)))

  -- the node that is found is the least
  pub least_for : (nodes : List (Node P)) → IsLeastFor nodes m want (node_for nodes m want)
  least_for nodes = by (position_from (is_for m want) 0 nodes) (first_from (is_for m want) 0 nodes)
    where
      passing : (n : ℕ) → HasFor nodes m want n → Passes (is_for m want) nodes n
      passing n there = (there.0, there.1, passes there.0 there.2)

      by : (o : Option ℕ) → IsFirstFrom (is_for m want) 0 nodes o
          → IsLeastFor nodes m want (option_map (λ n. record { 0 = n }) o)
      by None none = λ n there. none n (passing n there)
      by (Some least) first =
          let e : first.0 ≡ least = let f = first.1 in omega arith in (
            subst (HasFor nodes m want) e (first.2.0, first.2.1, passed first.2.0 first.2.2),
            λ n lt there. first.3 n (omega arith) (passing n there),
          )
