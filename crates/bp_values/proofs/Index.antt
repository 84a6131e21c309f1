-- What the first index of a name in a list of entries says.
use Rattle.std.proofs.Common.{◌≡◌, ℕ, ◌+◌, ◌<◌, Bool, true, false, List, [], ◌∷◌, length, get_or, map, Option, None}
use Rattle.std.proofs.Common.{Some, option_map, is_some, ◌||◌, if◌then◌else◌, cond, suc, refl, ap, ◌∙◌, arith}
use Rattle.std.specs.Str.{bytes_eq}
use Rattle.bp_names.specs.Meaning.{first_number, first_number_from}
use Rattle.bp_values.specs.Values.{MapEntry, map_entry_of}
use Rattle.bp_values.specs.declared.value.Entry.{Entry}
use Rattle.bp_values.specs.Sums.{value_at, has_name}
use Rattle.bp_values.specs.Inside.{index_of}

pub has_index : (name : List ℕ) (fs : List MapEntry) → has_name fs name ≡ is_some (index_of name fs)
has_index name [] = refl
has_index name (f ∷ fs) = by (bytes_eq name f.name) (index_of name fs) (has_index name fs)
  where
    by : (b : Bool) (r : Option ℕ) → has_name fs name ≡ is_some r
        → (b || has_name fs name) ≡ is_some (if b then Some 0 else option_map suc r)
    by true r e = refl
    by false None e = e
    by false (Some i) e = e

pub value_absent : (name : List ℕ) (fs : List MapEntry) → index_of name fs ≡ None → value_at name fs ≡ None
value_absent name [] e = refl
value_absent name (f ∷ fs) e = by (bytes_eq name f.name) (index_of name fs) (value_absent name fs) e
  where
    by : (b : Bool) (r : Option ℕ) → (r ≡ None → value_at name fs ≡ None) → cond b (Some 0) (option_map suc r) ≡ None
        → cond b (Some f.value) (value_at name fs) ≡ None
    by true r rest e = cc
    by false None rest e = rest refl
    by false (Some i) rest e = cc

pub index_within : (name : List ℕ) (es : List Entry) (i : ℕ) → index_of name (map map_entry_of es) ≡ Some i
    → i < length es
index_within name [] i e = cc
index_within name (x ∷ es) i e =
    by (bytes_eq name (map_entry_of x).name) (index_of name (map map_entry_of es)) (index_within name es) e
  where
    by : (b : Bool) (r : Option ℕ) → ((j : ℕ) → r ≡ Some j → j < length es)
        → cond b (Some 0) (option_map suc r) ≡ Some i → i < suc (length es)
    by true r p e = let h : i ≡ 0 = cc in omega arith
    by false None p e = cc
    by false (Some j) p e = let h : i ≡ suc j = cc in let k = p j refl in omega arith

pub value_there : (name : List ℕ) (es : List Entry) (i : ℕ) (d : Entry) → index_of name (map map_entry_of es) ≡ Some i
    → Some (map_entry_of (get_or es i d)).value ≡ value_at name (map map_entry_of es)
value_there name [] i d e = cc
value_there name (x ∷ es) i d e =
    by (bytes_eq name (map_entry_of x).name) (index_of name (map map_entry_of es)) (λ j. value_there name es j d) e
  where
    by : (b : Bool) (r : Option ℕ)
        → ((j : ℕ) → r ≡ Some j → Some (map_entry_of (get_or es j d)).value ≡ value_at name (map map_entry_of es))
        → cond b (Some 0) (option_map suc r) ≡ Some i → Some (map_entry_of (get_or (x ∷ es) i d)).value
        ≡ cond b (Some (map_entry_of x).value) (value_at name (map map_entry_of es))
    by true r p e = let h : i ≡ 0 = cc in rw h refl
    by false None p e = cc
    by false (Some j) p e = let h : i ≡ suc j = cc in rw h (p j refl)

-- the first index among the names, counted from n on
first_from : (n : ℕ) (es : List Entry) (q : List ℕ)
    → first_number_from n (map (λ e. (map_entry_of e).name) es) q
    ≡ option_map (λ i. n + i) (index_of q (map map_entry_of es))
first_from n [] q = refl
first_from n (e ∷ es) q = by (bytes_eq q (map_entry_of e).name) (first_from (n + 1) es q)
  where
    more : (r : Option ℕ) → option_map (λ i. n + 1 + i) r ≡ option_map (λ i. n + i) (option_map suc r)
    more None = refl
    more (Some i) = let next : n + 1 + i ≡ n + suc i = omega arith in ap Some next

    by : (b : Bool) → first_number_from (n + 1) (map (λ x. (map_entry_of x).name) es) q
        ≡ option_map (λ i. n + 1 + i) (index_of q (map map_entry_of es))
        → (if b then Some n else first_number_from (n + 1) (map (λ x. (map_entry_of x).name) es) q)
        ≡ option_map (λ i. n + i) (if b then Some 0 else option_map suc (index_of q (map map_entry_of es)))
    by true rest = let here : n ≡ n + 0 = omega arith in ap Some here
    by false rest = rest ∙ more (index_of q (map map_entry_of es))

pub first_index : (es : List Entry) (q : List ℕ)
    → first_number (map (λ e. (map_entry_of e).name) es) q ≡ index_of q (map map_entry_of es)
first_index es q = first_from 0 es q ∙ from_none (index_of q (map map_entry_of es))
  where
    from_none : (r : Option ℕ) → option_map (λ i. 0 + i) r ≡ r
    from_none None = refl
    from_none (Some i) = let same : 0 + i ≡ i = omega arith in ap Some same
