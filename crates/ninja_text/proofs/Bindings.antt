-- Written bindings are read back.
use Rattle.std.proofs.Common.{◌≡◌, ℕ, zero, suc, length-append, ◌<◌, Bool, true, false, cond, not, ◌&&◌, ◌||◌, List, []}
use Rattle.std.proofs.Common.{◌∷◌, ◌++◌, eqb, length, take, drop, get_or, Option, Some, None, codes, append_assoc, ap}
use Rattle.std.proofs.Common.{sym, ◌∙◌, refl, arith}
use Rattle.std.specs.List.{flat_map, list_all, list_any}
use Rattle.std.specs.Str.{bytes_eq}
use Rattle.std.proofs.Math.Seq.{get_or-append_seam}
use Rattle.std.proofs.lemmas.Slice.Eq.{bytes_eq-Decides}
use Rattle.ninja_lines.specs.Meaning.{drop_spaces}
use Rattle.ninja_file.specs.declared.escape.Escape.TheVariants.{Value}
use Rattle.ninja_file.specs.declared.file.Piece.{Piece}
use Rattle.ninja_file.specs.declared.file.Piece.TheVariants.{Lit, Var}
use Rattle.ninja_file.specs.Escapes.{is_escaped}
use Rattle.ninja_write.specs.Escaped.{escaped_byte, escaped_bytes, lead, value_text}
use Rattle.ninja_write.specs.Meaning.{piece_text, pieces_text, line_of_binding}
use Rattle.ninja_read.specs.Heads.{a_binding, form_of, value_behind, binding_behind, binding_of}
use Rattle.ninja_read.specs.Values.{name_length}
use Rattle.ninja_file.specs.Meaning.{AllDiffer, is_piece, is_rule_value, are_apart}
use Rattle.ninja_file.specs.Names.{is_nil, is_name, is_name_byte, is_value, is_rule_key}
use Rattle.std.proofs.lemmas.Bool.{and_parts}
use Rattle.ninja_text.proofs.Bytes.{apart_by}
use Rattle.std.proofs.lemmas.List.{get_or_append_left}
use Rattle.std.proofs.lemmas.List.Folds.{Any-from_list_any}
use Rattle.ninja_text.proofs.Values.{name_before, name_taken, name_dropped}

named_byte : (b n : ℕ) → is_name_byte n ≡ false → is_name_byte b ≡ true → eqb b n ≡ false
named_byte b n h k = apart_by is_name_byte b n k h

spaced_form : (k : ℕ) (text : List ℕ) → is_name_byte k ≡ true → form_of (32 ∷ 32 ∷ k ∷ text) ≡ a_binding
spaced_form k text h =
    let space : eqb k 32 ≡ false = named_byte k 32 refl h in
    let hash : eqb k 35 ≡ false = named_byte k 35 refl h in
    rw (space, hash) refl

pub binding_form : (key value : List ℕ) → is_name key ≡ true → form_of (line_of_binding key value) ≡ a_binding
binding_form [] value h = absurd (cc)
binding_form (k ∷ key) value h =
    spaced_form k (key ++ (codes " = " ++ value)) ((and_parts (is_name_byte k) (list_all is_name_byte key)
    ((and_parts (not (is_nil (k ∷ key))) (list_all is_name_byte (k ∷ key)) h).1)).0)

turned : (e : Bool) → not e ≡ true → e ≡ false
turned true h = absurd (cc)
turned false h = refl

key_behind : (key value : List ℕ) → is_name key ≡ true
    → binding_behind (key ++ 32 ∷ 61 ∷ 32 ∷ value) ≡ Some (key, drop_spaces value)
key_behind key value h =
    let text : List ℕ = key ++ 32 ∷ 61 ∷ 32 ∷ value in
    let bytes : list_all is_name_byte key ≡ true = (and_parts (not (is_nil key)) (list_all is_name_byte key) h).1 in
    let front = name_taken key (61 ∷ 32 ∷ value) 32 refl bytes in
    let behind = name_dropped key (61 ∷ 32 ∷ value) 32 refl bytes in
    let some : eqb (name_length text) 0 ≡ false =
    ap (λ n. eqb n 0) (name_before key (61 ∷ 32 ∷ value) 32 refl bytes)
    ∙ turned (eqb (length key) 0) ((and_parts (not (is_nil key)) (list_all is_name_byte key) h).0) in
    ap (λ e. cond {A = Option (List ℕ × List ℕ)} e None
    (value_behind (take (name_length text) text) (drop_spaces (drop (name_length text) text)))) some
    ∙ ap (λ k. value_behind k (drop_spaces (drop (name_length text) text))) (sym front)
    ∙ ap (λ r. value_behind key (drop_spaces r)) (sym behind)

key_first : (k : ℕ) (text : List ℕ) → is_name_byte k ≡ true → drop_spaces (32 ∷ 32 ∷ k ∷ text) ≡ k ∷ text
key_first k text h = let space : eqb k 32 ≡ false = named_byte k 32 refl h in rw space refl

pub binding_found : (key value : List ℕ) → is_name key ≡ true
    → binding_of (line_of_binding key value) ≡ Some (key, drop_spaces value)
binding_found [] value h = absurd (cc)
binding_found (k ∷ key) value h =
    ap binding_behind (key_first k (key ++ (codes " = " ++ value)) ((and_parts (is_name_byte k)
    (list_all is_name_byte key) ((and_parts (not (is_nil (k ∷ key))) (list_all is_name_byte (k ∷ key)) h).1)).0))
    ∙ key_behind (k ∷ key) value h

-- no written value begins with a space
plain_first : (b : ℕ) (rest : List ℕ) (e : Bool) → is_escaped Value b ≡ e → eqb b 32 ≡ false
    → drop_spaces (escaped_byte Value b ++ rest) ≡ escaped_byte Value b ++ rest
plain_first b rest true e h = rw e refl
plain_first b rest false e h = rw (e, h) refl

leads_first : (b : ℕ) (text rest : List ℕ) (e : Bool) → eqb b 32 ≡ e
    → drop_spaces (cond e (36 ∷ []) [] ++ (escaped_byte Value b ++ rest))
    ≡ cond e (36 ∷ []) [] ++ (escaped_byte Value b ++ rest)
leads_first b text rest true e = refl
leads_first b text rest false e = plain_first b rest (is_escaped Value b) refl e

pub value_first : (value : List ℕ) → drop_spaces (value_text value) ≡ value_text value
value_first [] = refl
value_first (b ∷ value) = leads_first b value (escaped_bytes Value value) (eqb b 32) refl

pub pieces_first : (pieces : List Piece) → is_rule_value pieces ≡ true
    → drop_spaces (pieces_text pieces) ≡ pieces_text pieces
pieces_first [] h = refl
pieces_first (Lit [] ∷ pieces) h =
    absurd (let e : false ≡ true = (and_parts (is_value []) (list_all is_piece pieces) ((and_parts (list_all is_piece
    (Lit [] ∷ pieces)) (are_apart (Lit [] ∷ pieces)) ((and_parts (not (is_nil (Lit [] ∷ pieces)))
    (list_all is_piece (Lit [] ∷ pieces) && are_apart (Lit [] ∷ pieces)) h).1)).0)).0 in cc)
pieces_first (Lit (b ∷ text) ∷ pieces) h =
    let same = append_assoc (escaped_byte Value b) (escaped_bytes Value text) (flat_map piece_text pieces) in
    ap (λ t. drop_spaces (lead (b ∷ text) ++ t)) same
    ∙ leads_first b text (escaped_bytes Value text ++ flat_map piece_text pieces) (eqb b 32) refl
    ∙ ap (λ t. lead (b ∷ text) ++ t) (sym same)
pieces_first (Var name ∷ pieces) h = refl

-- the keys of rules are names
known : (key other : List ℕ) → is_name other ≡ true → bytes_eq key other ≡ true → is_name key ≡ true
known key other name same = rw ((bytes_eq-Decides key other).0 same) name

either : {P : Type 0} (a b : Bool) → (a ≡ true → P) → (b ≡ true → P) → (a || b) ≡ true → P
either true b one other h = one refl
either false b one other h = other h

pub rule_key_name : (key : List ℕ) → is_rule_key key ≡ true → is_name key ≡ true
rule_key_name key h =
    either _ _ (either _ _ (either _ _ (known key (codes "command") refl) (known key (codes "description") refl))
    (known key (codes "depfile") refl)) (known key (codes "deps") refl) h

-- what differs from what stands before isn't there
not_there : (xs ys : List (List ℕ)) (x : List ℕ) (e : Bool) → list_any (bytes_eq x) xs ≡ e → AllDiffer (xs ++ x ∷ ys)
    → e ≡ false
not_there xs ys x true is differ =
    let found : (k : ℕ) × (y : List ℕ) × (k < length xs) × (get_or xs k y ≡ y) × (bytes_eq x y ≡ true) =
    Any-from_list_any (bytes_eq x) xs is in
    let same : x ≡ found.1 = (bytes_eq-Decides x found.1).0 found.4 in
    let inside : length xs < length (xs ++ x ∷ ys) = omega (arith, length-append xs (x ∷ ys)) in
    absurd (differ found.0 (length xs) found.1 found.2 inside (get_or_append_left xs (x ∷ ys) found.1 found.0 found.2
    ∙ found.3 ∙ sym same ∙ sym (get_or-append_seam xs x ys found.1)))
not_there xs ys x false is differ = refl

pub fresh : (xs ys : List (List ℕ)) (x : List ℕ) → AllDiffer (xs ++ x ∷ ys) → list_any (bytes_eq x) xs ≡ false
fresh xs ys x differ = not_there xs ys x (list_any (bytes_eq x) xs) refl differ

or_true : (a b : Bool) → b ≡ true → (a || b) ≡ true
or_true true b h = refl
or_true false b h = h

-- what a list contains, it has
pub has_at : (test : List ℕ → List ℕ → Bool) → ((y x : List ℕ) → y ≡ x → test y x ≡ true)
    → (xs : List (List ℕ)) (x : List ℕ) (k : ℕ) → k < length xs → get_or xs k x ≡ x → list_any (λ y. test y x) xs ≡ true
has_at test is [] x k h at = absurd (omega arith)
has_at test is (y ∷ ys) x zero h at = ap (λ e. e || list_any (λ z. test z x) ys) (is y x at)
has_at test is (y ∷ ys) x (suc k) h at =
    or_true (test y x) (list_any (λ z. test z x) ys) (has_at test is ys x k (omega arith) at)
