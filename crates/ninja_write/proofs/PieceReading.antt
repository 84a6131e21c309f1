-- What is written for the value of a rule's key can be read back.
use Rattle.std.proofs.Common.{◌≡◌, ℕ, Bool, true, false, cond, List, [], ◌∷◌, ◌++◌, ◌&&◌, eqb, not, map, length, arith}
use Rattle.std.proofs.Common.{ap, refl, sym, ◌∙◌, append_assoc, append-nil, codes}
use Rattle.std.proofs.lemmas.Bool.Decides.{nat_tests}
use Rattle.std.specs.Bool.{IsTrue}
use Rattle.std.specs.List.{flat_map, list_all}
use Rattle.ninja_file.specs.declared.escape.Escape.TheVariants.{Value}
use Rattle.ninja_file.specs.declared.file.Piece.{Piece}
use Rattle.ninja_file.specs.declared.file.Piece.TheVariants.{Lit, Var}
use Rattle.ninja_write.specs.Escaped.{escaped_byte, escaped_bytes}
use Rattle.ninja_write.specs.Meaning.{piece_text, pieces_text}
use Rattle.std.proofs.lemmas.Bool.{and_parts}
use Rattle.ninja_write.proofs.Bytes.{apart_by}
use Rattle.ninja_file.specs.Names.{is_name_byte, is_name, is_value}
use Rattle.ninja_file.specs.Meaning.{is_piece, begins_literally, are_apart, is_rule_value}
use Rattle.bp_faults.specs.Characters.{dollar, space}

-- where a reader stands: in plain text, behind a dollar, or in a variable's name
data Place : Type 0 where
  plain : Place
  behind : Place
  inside : List ℕ → Place

abbrev single : ℕ → Piece
single b = Lit (b ∷ [])

-- the pieces of a text, with a literal piece for each byte
abbrev read : Place → List ℕ → List Piece
read place [] = []
read plain (b ∷ bytes) = cond (eqb b dollar) (read behind bytes) (single b ∷ read plain bytes)
read behind (b ∷ bytes) = cond (eqb b 123) (read (inside []) bytes) (single b ∷ read plain bytes)
read (inside name) (b ∷ bytes) = cond (eqb b 125) (Var name ∷ read plain bytes) (read (inside (name ++ (b ∷ []))) bytes)

-- pieces, with a literal piece for each byte
abbrev split : List Piece → List Piece
split [] = []
split (Lit text ∷ pieces) = map single text ++ split pieces
split (Var name ∷ pieces) = Var name ∷ split pieces

read-byte : (b : ℕ) (rest : List ℕ) (e : Bool) → eqb b dollar ≡ e
    → read plain (escaped_byte Value b ++ rest) ≡ single b ∷ read plain rest
read-byte b rest true e =
    let brace : eqb b 123 ≡ false = grind (arith, nat_tests) in
    rw (e, brace) refl
read-byte b rest false e = rw e (rw e refl)

read-escaped : (text rest : List ℕ) → read plain (escaped_bytes Value text ++ rest) ≡ map single text ++ read plain rest
read-escaped [] rest = refl
read-escaped (b ∷ text) rest =
    ap (read plain) (append_assoc (escaped_byte Value b) (escaped_bytes Value text) rest)
    ∙ read-byte b (escaped_bytes Value text ++ rest) (eqb b dollar) refl
    ∙ ap (λ more. single b ∷ more) (read-escaped text rest)

read-name : (before name rest : List ℕ) → list_all is_name_byte name ≡ true
    → read (inside before) (name ++ (125 ∷ rest)) ≡ Var (before ++ name) ∷ read plain rest
read-name before [] rest h = ap (λ name. Var name ∷ read plain rest) (sym (append-nil before))
read-name before (b ∷ name) rest h =
    let brace : eqb b 125 ≡ false =
    apart_by is_name_byte b 125 ((and_parts (is_name_byte b) (list_all is_name_byte name) h).0) refl in
    rw brace (read-name (before ++ (b ∷ [])) name rest ((and_parts (is_name_byte b) (list_all is_name_byte name) h).1)
    ∙ ap (λ all. Var all ∷ read plain rest) (append_assoc before (b ∷ []) name))

read-pieces : (pieces : List Piece) → list_all is_piece pieces ≡ true
    → read plain (flat_map piece_text pieces) ≡ split pieces
read-pieces [] h = refl
read-pieces (Lit text ∷ pieces) h =
    read-escaped text (flat_map piece_text pieces)
    ∙ ap (λ more. map single text ++ more)
    (read-pieces pieces ((and_parts (is_value text) (list_all is_piece pieces) h).1))
read-pieces (Var name ∷ pieces) h =
    let named : list_all is_name_byte name ≡ true = (and_parts (not (eqb (length name) 0)) (list_all is_name_byte name)
    ((and_parts (is_name name) (list_all is_piece pieces) h).0)).1 in
    ap (read (inside [])) (append_assoc name (codes "}") (flat_map piece_text pieces))
    ∙ read-name [] name (flat_map piece_text pieces) named
    ∙ ap (λ more. Var name ∷ more) (read-pieces pieces ((and_parts (is_name name) (list_all is_piece pieces) h).1))

read-lead : (b : ℕ) (rest : List ℕ) (e : Bool) → eqb b space ≡ e → read plain
    (cond (eqb b space) (dollar ∷ []) [] ++ (escaped_byte Value b ++ rest)) ≡ read plain (escaped_byte Value b ++ rest)
read-lead b rest true e =
    let plainly : eqb b dollar ≡ false = grind (arith, nat_tests) in
    let brace : eqb b 123 ≡ false = grind (arith, nat_tests) in
    rw (e, plainly, brace, plainly) refl
read-lead b rest false e = rw e refl

read-lead_of : (pieces : List Piece) → read plain (pieces_text pieces) ≡ read plain (flat_map piece_text pieces)
read-lead_of [] = refl
read-lead_of (Var name ∷ pieces) = refl
read-lead_of (Lit [] ∷ pieces) = refl
read-lead_of (Lit (b ∷ text) ∷ pieces) =
    let joined : (escaped_byte Value b ++ escaped_bytes Value text) ++ flat_map piece_text pieces
    ≡ escaped_byte Value b ++ (escaped_bytes Value text ++ flat_map piece_text pieces) =
    append_assoc (escaped_byte Value b) (escaped_bytes Value text) (flat_map piece_text pieces) in
    ap (λ more. read plain (cond (eqb b space) (dollar ∷ []) [] ++ more)) joined
    ∙ read-lead b (escaped_bytes Value text ++ flat_map piece_text pieces) (eqb b space) refl
    ∙ ap (read plain) (sym joined)

-- literal text before pieces
abbrev glue : List ℕ → List Piece → List Piece
glue text [] = Lit text ∷ []
glue text (Lit more ∷ pieces) = Lit (text ++ more) ∷ pieces
glue text (Var name ∷ pieces) = Lit text ∷ Var name ∷ pieces

abbrev regroup : List Piece → List Piece
regroup [] = []
regroup (Lit text ∷ pieces) = glue text (regroup pieces)
regroup (Var name ∷ pieces) = Var name ∷ regroup pieces

glue-apart : (text : List ℕ) (pieces : List Piece) → begins_literally pieces ≡ false
    → glue text pieces ≡ Lit text ∷ pieces
glue-apart text [] h = refl
glue-apart text (Lit more ∷ pieces) h = absurd (cc)
glue-apart text (Var name ∷ pieces) h = refl

regroup-run : (b : ℕ) (text : List ℕ) (rest pieces : List Piece) → regroup rest ≡ pieces
    → begins_literally pieces ≡ false → regroup (single b ∷ (map single text ++ rest)) ≡ Lit (b ∷ text) ∷ pieces
regroup-run b [] rest pieces h apart = ap (glue (b ∷ [])) h ∙ glue-apart (b ∷ []) pieces apart
regroup-run b (c ∷ text) rest pieces h apart = ap (glue (b ∷ [])) (regroup-run c text rest pieces h apart)

no_literal : (a b : Bool) → (not (true && a) && b) ≡ true → a ≡ false
no_literal a b h = grind (arith, nat_tests)

regroup-split : (pieces : List Piece) → list_all is_piece pieces ≡ true → are_apart pieces ≡ true
    → regroup (split pieces) ≡ pieces
regroup-split [] h apart = refl
regroup-split (Var name ∷ pieces) h apart =
    ap (λ more. Var name ∷ more)
    (regroup-split pieces ((and_parts (is_name name) (list_all is_piece pieces) h).1) apart)
regroup-split (Lit [] ∷ pieces) h apart = absurd (cc)
regroup-split (Lit (b ∷ text) ∷ pieces) h apart =
    regroup-run b text (split pieces) pieces
    (regroup-split pieces ((and_parts (is_value (b ∷ text)) (list_all is_piece pieces) h).1)
    ((and_parts (not (true && begins_literally pieces)) (are_apart pieces) apart).1))
    (no_literal (begins_literally pieces) (are_apart pieces) apart)

-- a value is what its written form is read as
read_back : (pieces : List Piece) → IsTrue (is_rule_value pieces) → regroup (read plain (pieces_text pieces)) ≡ pieces
read_back pieces good =
    let parts : (list_all is_piece pieces && are_apart pieces) ≡ true =
    (and_parts (not (eqb (length pieces) 0)) (list_all is_piece pieces && are_apart pieces) good).1 in
    let each : list_all is_piece pieces ≡ true = (and_parts (list_all is_piece pieces) (are_apart pieces) parts).0 in
    ap regroup (read-lead_of pieces ∙ read-pieces pieces each)
    ∙ regroup-split pieces each ((and_parts (list_all is_piece pieces) (are_apart pieces) parts).1)

pub rule_values_apart : (a b : List Piece) → IsTrue (is_rule_value a) → IsTrue (is_rule_value b)
    → pieces_text a ≡ pieces_text b → a ≡ b
rule_values_apart a b good_a good_b e =
    sym (read_back a good_a) ∙ ap (λ text. regroup (read plain text)) e ∙ read_back b good_b
