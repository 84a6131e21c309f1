-- What a list of names in two parts knows: a few that are slices, and others.
use Rattle.std.proofs.Common.{◌≡◌, ◌∙◌, ℕ, Bool, true, false, cond, List, [], ◌∷◌, ◌++◌, map, refl, ap, sym, Bor}
use Rattle.std.proofs.lemmas.List.{append-nil, map-append}
use Rattle.std.specs.Prelude.{◌||◌}
use Rattle.std.specs.List.{list_any}
use Rattle.std.specs.Str.{bytes_eq}
use Rattle.std.proofs.lemmas.List.Folds.{list_any-append}
use Rattle.bp_names.specs.Meaning.{knows, Learns}
use Rattle.bp_parser.proofs.Steps.{has_name_push}
use Rattle.bp_faults.proofs.Lists.{same_bytes}

-- some slices
abbrev pub Slices : Type 0
Slices = List (Bor (List ℕ))

-- the names that they are
abbrev pub bytes_of : Slices → List (List ℕ)
bytes_of few = map (λ k. k.now) few

-- whether a name is one of them
abbrev pub is_one_of : List ℕ → Slices → Bool
is_one_of name few = list_any (λ k. bytes_eq name k.now) few

-- a name is one of some slices where their bytes have it
one_of_bytes : (name : List ℕ) (few : Slices) → knows (bytes_of few) name ≡ is_one_of name few
one_of_bytes name [] = refl
one_of_bytes name (k ∷ ks) = λ i. bytes_eq name k.now || one_of_bytes name ks i

-- what the two parts know
pub both_know : (few : Slices) (others : List (List ℕ)) (name : List ℕ)
    → knows (bytes_of few ++ others) name ≡ (is_one_of name few || knows others name)
both_know few others name =
    list_any-append (bytes_eq name) (bytes_of few) others ∙ ap (λ b. b || knows others name) (one_of_bytes name few)

-- a list that knows a name learns it as it is
learned_before : (names : List (List ℕ)) (name : List ℕ) → knows names name ≡ true → Learns names name names
learned_before names name known query = by (bytes_eq name query) refl
  where
    by : (same : Bool) → bytes_eq name query ≡ same → knows names query ≡ cond same true (knows names query)
    by true is = ap (knows names) (sym (same_bytes name query is)) ∙ known
    by false is = refl

-- a name that is one of the few is learned as it is
pub few_know : (few : Slices) (others : List (List ℕ)) (name : List ℕ) → is_one_of name few ≡ true
    → Learns (bytes_of few ++ others) name (bytes_of few ++ others)
few_know few others name known =
    learned_before (bytes_of few ++ others) name
    (both_know few others name ∙ ap (λ b. b || knows others name) known)

-- where there are no others, one slice more is one name more
pub few_learn : (few : Slices) (others : List (List ℕ)) (name : Bor (List ℕ)) → others ≡ []
    → Learns (bytes_of few ++ others) name.now (bytes_of (few ++ name ∷ []) ++ others)
few_learn few others name none query =
    rw (none, append-nil (bytes_of few), append-nil (bytes_of (few ++ name ∷ [])), map-append)
    (has_name_push query name.now (bytes_of few))
