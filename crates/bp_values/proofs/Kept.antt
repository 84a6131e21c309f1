-- The indices that are kept for variables, once one is set or extended.
use Rattle.std.proofs.Common.{◌≡◌, ℕ, Bool, true, false, cond, List, [], ◌∷◌, Option, None, Some, refl, ap, sym, ◌∙◌}
use Rattle.std.proofs.Common.{subst, ◌++◌}
use Rattle.std.specs.Str.{bytes_eq}
use Rattle.std.specs.Cmp.Lexicographic.{nat_list_eq_equiv}
use Rattle.std.proofs.lemmas.Slice.Eq.{bytes_eq-Decides}
use Rattle.bp_values.specs.declared.map_indices.MapIndices.{MapIndices}
use Rattle.bp_values.specs.Values.{Meaning}
use Rattle.bp_values.specs.Scopes.{Pairs, value_in}
use Rattle.bp_values.specs.MapIndices.{Finds, IndicesOf}
use Rattle.bp_values.specs.KeptIndices.{if_any}
use Rattle.bp_values.specs.Meaning.{with_other}
use Rattle.bp_values.proofs.MapIndices.{search_here}

-- a pair before the index of a name changes nothing there
passed : (name q : List ℕ) (v : Meaning) (p : List ℕ × Meaning) (rest : Option Meaning) → bytes_eq name p.0 ≡ false
    → cond (bytes_eq q p.0) (Some p.1) (cond (bytes_eq name q) (Some v) rest)
    ≡ cond (bytes_eq name q) (Some v) (cond (bytes_eq q p.0) (Some p.1) rest)
passed name q v p rest apart = last (bytes_eq q p.0) (bytes_eq name q) refl refl
  where
    last : (b c : Bool) → bytes_eq q p.0 ≡ b → bytes_eq name q ≡ c
        → cond b (Some p.1) (cond c (Some v) rest) ≡ cond c (Some v) (cond b (Some p.1) rest)
    last true true there here =
        let never : true ≡ false = sym here ∙ ap (λ n. bytes_eq name n) ((bytes_eq-Decides q p.0).0 there) ∙ apart in
        cc
    last true false there here = refl
    last false c there here = refl

-- the value of a name, once a new name is set
pub value_set : (name q : List ℕ) (v : Meaning) (ps : Pairs) → value_in ps name ≡ None
    → value_in (ps ++ (name, v) ∷ []) q ≡ cond (bytes_eq name q) (Some v) (value_in ps q)
value_set name q v [] none = ap (λ b. cond b (Some v) None) (nat_list_eq_equiv.symm q name)
value_set name q v (p ∷ ps) none = by (bytes_eq name p.0) refl none (value_set name q v ps)
  where
    by : (b : Bool) → bytes_eq name p.0 ≡ b → cond b (Some p.1) (value_in ps name) ≡ None
        → (value_in ps name ≡ None
        → value_in (ps ++ (name, v) ∷ []) q ≡ cond (bytes_eq name q) (Some v) (value_in ps q))
        → cond (bytes_eq q p.0) (Some p.1) (value_in (ps ++ (name, v) ∷ []) q)
        ≡ cond (bytes_eq name q) (Some v) (cond (bytes_eq q p.0) (Some p.1) (value_in ps q))
    by true same lacks more = cc
    by false apart lacks more =
        ap (λ r. cond (bytes_eq q p.0) (Some p.1) r) (more lacks) ∙ passed name q v p (value_in ps q) apart

-- the value of a name, once one that had a value has another
pub value_other : (name q : List ℕ) (v before : Meaning) (ps : Pairs) → value_in ps name ≡ Some before
    → value_in (with_other ps name v) q ≡ cond (bytes_eq name q) (Some v) (value_in ps q)
value_other name q v before [] has = cc
value_other name q v before (p ∷ ps) has = by (bytes_eq name p.0) refl has (value_other name q v before ps)
  where
    by : (b : Bool) → bytes_eq name p.0 ≡ b → cond b (Some p.1) (value_in ps name) ≡ Some before
        → (value_in ps name ≡ Some before
        → value_in (with_other ps name v) q ≡ cond (bytes_eq name q) (Some v) (value_in ps q))
        → value_in (cond b ((p.0, v) ∷ ps) (p ∷ with_other ps name v)) q
        ≡ cond (bytes_eq name q) (Some v) (cond (bytes_eq q p.0) (Some p.1) (value_in ps q))
    by true same there more =
        ap (λ n. cond (bytes_eq q n) (Some v) (value_in ps q)) (sym ((bytes_eq-Decides name p.0).0 same))
        ∙ ap (λ b. cond b (Some v) (value_in ps q)) (nat_list_eq_equiv.symm q name)
        ∙ here (bytes_eq name q) refl
      where
        here : (c : Bool) → bytes_eq name q ≡ c
            → cond c (Some v) (value_in ps q) ≡ cond c (Some v) (cond (bytes_eq q p.0) (Some p.1) (value_in ps q))
        here true is = refl
        here false is =
            let apart : bytes_eq q p.0 ≡ false =
            nat_list_eq_equiv.symm q p.0 ∙ ap (λ n. bytes_eq n q) (sym ((bytes_eq-Decides name p.0).0 same)) ∙ is in
            ap (λ b. cond b (Some p.1) (value_in ps q)) (sym apart)
    by false apart there more =
        ap (λ r. cond (bytes_eq q p.0) (Some p.1) r) (more there) ∙ passed name q v p (value_in ps q) apart

none_kept : (names : Option MapIndices) (v : Option Meaning) → IndicesOf names None → IndicesOf names v
none_kept None v indices = λ way. tt
none_kept (Some known) v indices = absurd (subst (λ s. Finds s None) (search_here known) (indices []))

-- a new name has no indices
pub kept_assigned : (kept : List ℕ → Option MapIndices) (old new : Pairs) (name : List ℕ) (v : Meaning)
    → value_in old name ≡ None → new ≡ old ++ (name, v) ∷ []
    → ((q : List ℕ) → IndicesOf (kept q) (value_in old q)) → (q : List ℕ) → IndicesOf (kept q) (value_in new q)
kept_assigned kept old new name v none put keeps q =
    subst (λ (o : Option Meaning). IndicesOf (kept q) o)
    (sym (ap (λ ps. value_in ps q) put ∙ value_set name q v old none)) (by (bytes_eq name q) refl)
  where
    by : (b : Bool) → bytes_eq name q ≡ b → IndicesOf (kept q) (cond b (Some v) (value_in old q))
    by false apart = keeps q
    by true same =
        let is = (bytes_eq-Decides name q).0 same in
        none_kept (kept q) (Some v)
        (subst (λ (o : Option Meaning). IndicesOf (kept q) o) (ap (value_in old) (sym is) ∙ none) (keeps q))

-- a name that is extended gets the indices of the sum
pub kept_extended : (kept mid now : List ℕ → Option MapIndices) (old new : Pairs) (name : List ℕ) (v before : Meaning)
    (names : Option MapIndices)
    → value_in old name ≡ Some before → ((q : List ℕ) → mid q ≡ cond (bytes_eq name q) None (kept q))
    → ((q : List ℕ) → now q ≡ cond (bytes_eq name q) names (mid q)) → new ≡ with_other old name v
    → IndicesOf names (Some v) → ((q : List ℕ) → IndicesOf (kept q) (value_in old q)) → (q : List ℕ)
    → IndicesOf (now q) (value_in new q)
kept_extended kept mid now old new name v before names has taken given put indices keeps q =
    subst (λ (o : Option Meaning). IndicesOf (now q) o)
    (sym (ap (λ ps. value_in ps q) put ∙ value_other name q v before old has))
    (subst (λ (t : Option MapIndices). IndicesOf t (cond (bytes_eq name q) (Some v) (value_in old q)))
    (sym (given q ∙ ap (λ t. cond (bytes_eq name q) names t) (taken q))) (by (bytes_eq name q)))
  where
    by : (b : Bool) → IndicesOf (cond b names (cond b None (kept q))) (cond b (Some v) (value_in old q))
    by true = indices
    by false = keeps q

-- what is put for a variable, and what the others have
pub any_put : (b : Bool) (names : Option MapIndices) (old : Option (Option MapIndices))
    → if_any (cond b (Some names) old) ≡ cond b names (if_any old)
any_put true names old = refl
any_put false names old = refl
