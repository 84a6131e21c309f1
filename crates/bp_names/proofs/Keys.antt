-- What the keys of a set or a map of slices say of the names that contracts see.
use Rattle.std.proofs.Common.{◌≡◌, ℕ, cond, List, [], ◌∷◌, map, refl, Bor, Some}
use Rattle.std.specs.Prelude.{◌||◌}
use Rattle.std.specs.declared.cmp.Ordering.{Ordering}
use Rattle.std.specs.declared.cmp.Ordering.TheVariants.{Less, Equal, Greater}
use Rattle.std.specs.Ordering.{nat_cmp, is_eq, match_ordering}
use Rattle.std.specs.Cmp.Lexicographic.{slice_cmp}
use Rattle.std.specs.List.{AllByRecursion, list_any}
use Rattle.std.specs.List.Sorted.{IsStrictlySortedBy}
use Rattle.std.specs.BTreeSet.{insert_key}
use Rattle.std.specs.Map.{lookup, keys_of}
use Rattle.std.proofs.lemmas.Map.Text.{is_eq-slice_cmp}
use Rattle.bp_names.specs.Meaning.{knows, number_of}

abbrev pub Key : Type 0
Key = Bor (List ℕ)

-- some slice with these bytes
abbrev pub key : List ℕ → Key
key bytes = record { ref_ptr = (0, 0); now = bytes }

abbrev pub key_cmp : Key → Key → Ordering
key_cmp a b = slice_cmp nat_cmp a.now b.now

abbrev pub names_of : List Key → List (List ℕ)
names_of ks = map (λ k. k.now) ks

abbrev pub pairs_of : List (Key × ℕ) → List (List ℕ × ℕ)
pairs_of es = map (λ e. (e.0.now, e.1)) es

pub known_here : (name : List ℕ) (ks : List Key)
    → list_any (λ k. is_eq (slice_cmp nat_cmp name k.now)) ks ≡ knows (names_of ks) name
known_here name [] = refl
known_here name (k ∷ ks) = λ i. is_eq-slice_cmp name k.now i || known_here name ks i

pub number_here : (name : List ℕ) (es : List (Key × ℕ))
    → lookup (λ k. is_eq (slice_cmp nat_cmp name k.now)) es ≡ number_of (pairs_of es) name
number_here name [] = refl
number_here name (e ∷ es) = λ i. cond (is_eq-slice_cmp name e.0.now i) (Some e.1) (number_here name es i)

pub placed : (ks : List Key) (k : Key)
    → names_of (insert_key key_cmp ks k) ≡ insert_key (slice_cmp nat_cmp) (names_of ks) k.now
placed [] k = refl
placed (x ∷ xs) k = by (placed xs k) (slice_cmp nat_cmp k.now x.now)
  where
    by : names_of (insert_key key_cmp xs k) ≡ insert_key (slice_cmp nat_cmp) (names_of xs) k.now → (o : Ordering)
        → names_of (match_ordering o (k ∷ x ∷ xs) (x ∷ xs) (x ∷ insert_key key_cmp xs k))
        ≡ match_ordering o (k.now ∷ x.now ∷ names_of xs) (x.now ∷ names_of xs)
        (x.now ∷ insert_key (slice_cmp nat_cmp) (names_of xs) k.now)
    by rest Less = refl
    by rest Equal = refl
    by rest Greater = λ i. x.now ∷ rest i

below : (x : Key) (ks : List Key) → AllByRecursion (λ k. key_cmp x k ≡ Less) ks
    → AllByRecursion (λ name. slice_cmp nat_cmp x.now name ≡ Less) (names_of ks)
below x [] h = tt
below x (k ∷ ks) h = (h.0, below x ks h.1)

pub names_ascend : (ks : List Key) → IsStrictlySortedBy key_cmp ks
    → IsStrictlySortedBy (slice_cmp nat_cmp) (names_of ks)
unfolding IsStrictlySortedBy
names_ascend [] h = tt
names_ascend (k ∷ ks) h = (below k ks h.0, names_ascend ks h.1)

pub names_of_pairs : (es : List (Key × ℕ)) → names_of (keys_of es) ≡ map (λ pair. pair.0) (pairs_of es)
names_of_pairs [] = refl
names_of_pairs (e ∷ es) = λ i. e.0.now ∷ names_of_pairs es i
