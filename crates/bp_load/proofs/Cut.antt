-- A path cut at its last slash.
use Rattle.std.proofs.Common.{◌≡◌, ℕ, ◌+◌, ◌-◌, ◌<◌, Bool, true, false, cond, List, [], ◌∷◌, ◌++◌, length, get_or, take}
use Rattle.std.proofs.Common.{drop, refl, ap, sym, ◌∙◌, arith, eqb, suc}
use Rattle.std.specs.List.{All, list_all, onto_first, join_with_byte}
use Rattle.std.proofs.Math.Seq.{drop-cons, take-append_seam}
use Rattle.std.proofs.lemmas.Bool.{and_parts, ne_eqb}
use Rattle.std.proofs.lemmas.List.{get_or-drop, get_or_default, take-append-drop, length-append, length-drop}
use Rattle.std.proofs.lemmas.List.Folds.{list_all-append}
use Rattle.std.proofs.lemmas.List.Splits.{slice_split_none, length-slice_split, join_with_byte-slice_split}
use Rattle.bp_faults.specs.Paths.{is_component, is_normal}
use Rattle.bp_faults.proofs.Paths.{normal_of_parts}
use Rattle.property_values.specs.Paths.{parts}
use Rattle.bp_load.specs.Directories.{directory_of}

abbrev slash : ℕ → Bool
slash b = eqb b 47

onto_append : (b : ℕ) (ps qs : List (List ℕ)) → 0 < length ps → onto_first b (ps ++ qs) ≡ onto_first b ps ++ qs
onto_append b [] qs some = absurd (omega arith)
onto_append b (p ∷ ps) qs some = refl

-- what is cut at a slash are the parts before it and those behind it
parts_append : (before after : List ℕ) → parts (before ++ 47 ∷ after) ≡ parts before ++ parts after
parts_append [] after = refl
parts_append (b ∷ before) after = by (slash b) (parts_append before after)
  where
    by : (cut : Bool) → parts (before ++ 47 ∷ after) ≡ parts before ++ parts after
        → cond cut ([] ∷ parts (before ++ 47 ∷ after)) (onto_first b (parts (before ++ 47 ∷ after)))
        ≡ cond cut ([] ∷ parts before) (onto_first b (parts before)) ++ parts after
    by true rest = ap (λ ps. [] ∷ ps) rest
    by false rest =
        ap (onto_first b) rest
        ∙ onto_append b (parts before) (parts after) (omega (arith, length-slice_split slash before))

none_behind : (path : List ℕ) (k : ℕ) → ((i : ℕ) → k < i → i < length path → get_or path i 0 ≡ 47 → ⊥)
    → All (λ b. slash b ≡ false) (drop (k + 1) path)
none_behind path k last i d within =
    let inside : k + 1 + i < length path = omega (arith, length-drop (k + 1) path) in
    ne_eqb (get_or (drop (k + 1) path) i d) 47 (λ is. last (k + 1 + i) (omega arith) inside
    (get_or_default path (k + 1 + i) 0 d inside ∙ sym (get_or-drop (k + 1) path i d) ∙ is))

one_more : (k : ℕ) → suc k ≡ k + 1
one_more k = omega arith

cut_parts : (path : List ℕ) (k : ℕ) → k < length path → get_or path k 0 ≡ 47
    → ((i : ℕ) → k < i → i < length path → get_or path i 0 ≡ 47 → ⊥)
    → parts path ≡ parts (take k path) ++ drop (k + 1) path ∷ []
cut_parts path k within here last =
    ap parts (sym (take-append-drop k path)
    ∙ ap (λ rest. take k path ++ rest) (drop-cons path k 0 within ∙ ap (λ b. b ∷ drop (suc k) path) here))
    ∙ parts_append (take k path) (drop (suc k) path)
    ∙ ap (λ n. parts (take k path) ++ parts (drop n path)) (one_more k)
    ∙ ap (λ ps. parts (take k path) ++ ps) (slice_split_none slash (drop (k + 1) path) (none_behind path k last))

front_of : (ps : List (List ℕ)) (p : List ℕ) → take (length (ps ++ p ∷ []) - 1) (ps ++ p ∷ []) ≡ ps
front_of ps p =
    ap (λ n. take n (ps ++ p ∷ [])) (omega (arith, length-append ps (p ∷ []))) ∙ take-append_seam ps (p ∷ [])

pub cut_directory : (path : List ℕ) (k : ℕ) → k < length path → get_or path k 0 ≡ 47
    → ((i : ℕ) → k < i → i < length path → get_or path i 0 ≡ 47 → ⊥) → directory_of path ≡ take k path
cut_directory path k within here last =
    ap (join_with_byte 47) (ap (λ ps. take (length ps - 1) ps) (cut_parts path k within here last)
    ∙ front_of (parts (take k path)) (drop (k + 1) path))
    ∙ join_with_byte-slice_split 47 (take k path)

pub whole_directory : (path : List ℕ) → ((i : ℕ) → i < length path → get_or path i 0 ≡ 47 → ⊥) → directory_of path ≡ []
whole_directory path none =
    ap (λ ps. join_with_byte 47 (take (length ps - 1) ps)) (slice_split_none slash path
    (λ i d within. ne_eqb (get_or path i d) 47 (λ is. none i within (get_or_default path i 0 d within ∙ is))))

parts_of_normal : (text : List ℕ) → 0 < length text → is_normal text ≡ true → list_all is_component (parts text) ≡ true
parts_of_normal [] some all = absurd (omega arith)
parts_of_normal (b ∷ bs) some all = all

pub cut_normal : (path : List ℕ) (k : ℕ) → k < length path → get_or path k 0 ≡ 47
    → ((i : ℕ) → k < i → i < length path → get_or path i 0 ≡ 47 → ⊥) → is_normal path ≡ true
    → is_normal (take k path) ≡ true
cut_normal path k within here last normal =
    let all = parts_of_normal path (omega arith) normal in
    let both : _ =
    sym (list_all-append is_component (parts (take k path)) (drop (k + 1) path ∷ []))
    ∙ ap (list_all is_component) (sym (cut_parts path k within here last))
    ∙ all in
    normal_of_parts (take k path) (and_parts (list_all is_component (parts (take k path))) _ both).0
