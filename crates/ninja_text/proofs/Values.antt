-- A written value is read back.
use Rattle.std.proofs.Common.{◌≡◌, ℕ, suc, Bool, true, false, cond, not, ◌&&◌, List, [], ◌∷◌, ◌++◌, eqb, eqb-true}
use Rattle.std.proofs.Common.{length, take, drop, map, Option, Some, None, option_map, option_and_then, codes}
use Rattle.std.proofs.Common.{append_assoc, append-nil, ap, sym, ◌∙◌, refl}
use Rattle.std.specs.List.{flat_map, list_all}
use Rattle.ninja_file.specs.declared.escape.Escape.{Escape}
use Rattle.ninja_file.specs.declared.escape.Escape.TheVariants.{Path, Value}
use Rattle.ninja_file.specs.declared.file.Piece.{Piece}
use Rattle.ninja_file.specs.declared.file.Piece.TheVariants.{Lit, Var}
use Rattle.ninja_file.specs.Escapes.{is_escaped}
use Rattle.ninja_write.specs.Escaped.{escaped_byte, escaped_bytes, path_text, lead, value_text}
use Rattle.ninja_write.specs.Meaning.{piece_text, pieces_text}
use Rattle.ninja_read.specs.Values.{in_text, in_braces, name_length, with_byte, with_variable, closed_name, pieces_from}
use Rattle.ninja_read.specs.Values.{pieces_of, literal, value_of}
use Rattle.ninja_read.specs.Heads.{path_of, paths_of, if_path}
use Rattle.ninja_file.specs.Names.{is_nil, is_name, is_name_byte, is_value, is_path}
use Rattle.ninja_file.specs.Meaning.{is_piece, begins_literally, are_apart, is_rule_value}
use Rattle.std.proofs.Math.Seq.{take-append_seam, drop-append_seam}
use Rattle.std.proofs.lemmas.Bool.{and_parts}
use Rattle.ninja_text.proofs.Bytes.{no_dollar, apart_by}

map_id : {A : Type 0} (o : Option A) → option_map (λ x. x) o ≡ o
map_id None = refl
map_id (Some x) = refl

map_twice : {A B C : Type 0} (g : B → C) (f : A → B) (o : Option A)
    → option_map g (option_map f o) ≡ option_map (λ x. g (f x)) o
map_twice g f None = refl
map_twice g f (Some x) = refl

-- text before pieces
abbrev onto_pieces : List ℕ → List Piece → List Piece
onto_pieces [] pieces = pieces
onto_pieces (b ∷ text) pieces = with_byte b (onto_pieces text pieces)

-- a byte, as it is written
reads_byte : (escape : Escape) (b : ℕ) (e : Bool) → is_escaped escape b ≡ e → (rest : List ℕ)
    → pieces_from in_text (escaped_byte escape b ++ rest) ≡ option_map (with_byte b) (pieces_from in_text rest)
reads_byte Path b true e rest = rw (e, e) refl
reads_byte Value b true e rest = let is : b ≡ 36 = eqb-true b 36 e in rw (e, is) refl
reads_byte escape b false e rest = rw (e, no_dollar escape b e) refl

-- text, as it is written
pub reads_text : (escape : Escape) (text rest : List ℕ)
    → pieces_from in_text (escaped_bytes escape text ++ rest) ≡ option_map (onto_pieces text) (pieces_from in_text rest)
reads_text escape [] rest = sym (map_id (pieces_from in_text rest))
reads_text escape (b ∷ text) rest =
    ap (pieces_from in_text) (append_assoc (escaped_byte escape b) (escaped_bytes escape text) rest)
    ∙ reads_byte escape b (is_escaped escape b) refl (escaped_bytes escape text ++ rest)
    ∙ ap (option_map (with_byte b)) (reads_text escape text rest)
    ∙ map_twice (with_byte b) (onto_pieces text) (pieces_from in_text rest)

-- a name that a byte follows that is of no name
pub name_before : (name rest : List ℕ) (c : ℕ) → is_name_byte c ≡ false → list_all is_name_byte name ≡ true
    → name_length (name ++ c ∷ rest) ≡ length name
name_before [] rest c h k = ap (λ e. cond e (suc (name_length rest)) 0) h
name_before (b ∷ name) rest c h k =
    ap (λ e. cond e (suc (name_length (name ++ c ∷ rest))) 0)
    ((and_parts (is_name_byte b) (list_all is_name_byte name) k).0)
    ∙ ap suc (name_before name rest c h ((and_parts (is_name_byte b) (list_all is_name_byte name) k).1))

pub name_taken : (name rest : List ℕ) (c : ℕ) → is_name_byte c ≡ false → list_all is_name_byte name ≡ true
    → name ≡ take (name_length (name ++ c ∷ rest)) (name ++ c ∷ rest)
name_taken name rest c h k =
    sym (ap (λ n. take n (name ++ c ∷ rest)) (name_before name rest c h k) ∙ take-append_seam name (c ∷ rest))

pub name_dropped : (name rest : List ℕ) (c : ℕ) → is_name_byte c ≡ false → list_all is_name_byte name ≡ true
    → c ∷ rest ≡ drop (name_length (name ++ c ∷ rest)) (name ++ c ∷ rest)
name_dropped name rest c h k =
    sym (ap (λ n. drop n (name ++ c ∷ rest)) (name_before name rest c h k) ∙ drop-append_seam name (c ∷ rest))

some_bytes : (e : Bool) → not e ≡ true → e ≡ false
some_bytes true h = absurd (cc)
some_bytes false h = refl

-- a name in braces, of which so much is read
name_closed : (done name rest : List ℕ) → list_all is_name_byte name ≡ true → is_nil (done ++ name) ≡ false
    → pieces_from (in_braces done) (name ++ 125 ∷ rest) ≡ with_variable (done ++ name) (pieces_from in_text rest)
name_closed done [] rest h some =
    let e : is_nil done ≡ false = ap is_nil (sym (append-nil done)) ∙ some in
    ap (λ x. cond x None (with_variable done (pieces_from in_text rest))) e
    ∙ ap (λ n. with_variable n (pieces_from in_text rest)) (sym (append-nil done))
name_closed done (b ∷ name) rest h some =
    let k : is_name_byte b ≡ true = (and_parts (is_name_byte b) (list_all is_name_byte name) h).0 in
    let e : eqb b 125 ≡ false = apart_by is_name_byte b 125 k refl in
    let same : (done ++ b ∷ []) ++ name ≡ done ++ b ∷ name = append_assoc done (b ∷ []) name in
    ap (λ x. cond x (closed_name done (pieces_from in_text (name ++ 125 ∷ rest)))
    (cond (is_name_byte b) (pieces_from (in_braces (done ++ b ∷ [])) (name ++ 125 ∷ rest)) None)) e
    ∙ ap (λ x. cond x (pieces_from (in_braces (done ++ b ∷ [])) (name ++ 125 ∷ rest)) None) k
    ∙ name_closed (done ++ b ∷ []) name rest ((and_parts (is_name_byte b) (list_all is_name_byte name) h).1)
    (ap is_nil same ∙ some)
    ∙ ap (λ n. with_variable n (pieces_from in_text rest)) same

reads_variable : (name rest : List ℕ) → is_name name ≡ true → pieces_from in_text
    ((codes "${" ++ (name ++ codes "}")) ++ rest) ≡ option_map (λ more. Var name ∷ more) (pieces_from in_text rest)
reads_variable name rest h =
    ap (λ t. pieces_from in_text (36 ∷ 123 ∷ t)) (append_assoc name (codes "}") rest)
    ∙ name_closed [] name rest ((and_parts (not (is_nil name)) (list_all is_name_byte name) h).1)
    (some_bytes (is_nil name) ((and_parts (not (is_nil name)) (list_all is_name_byte name) h).0))

-- text before pieces that begin with a variable, or none
literal_from : (b : ℕ) (text : List ℕ) (pieces : List Piece) → not (begins_literally pieces) ≡ true
    → onto_pieces (b ∷ text) pieces ≡ Lit (b ∷ text) ∷ pieces
literal_from b [] [] h = refl
literal_from b [] (Lit other ∷ pieces) h = absurd (cc)
literal_from b [] (Var name ∷ pieces) h = refl
literal_from b (c ∷ text) pieces h = ap (with_byte b) (literal_from c text pieces h)

literal_first : (text : List ℕ) (pieces : List Piece) → is_value text ≡ true → not (begins_literally pieces) ≡ true
    → onto_pieces text pieces ≡ Lit text ∷ pieces
literal_first [] pieces h k = absurd (cc)
literal_first (b ∷ text) pieces h k = literal_from b text pieces k

reads_pieces : (pieces : List Piece) → list_all is_piece pieces ≡ true → are_apart pieces ≡ true
    → pieces_from in_text (flat_map piece_text pieces) ≡ Some pieces
reads_pieces [] h k = refl
reads_pieces (Lit text ∷ pieces) h k =
    reads_text Value text (flat_map piece_text pieces)
    ∙ ap (option_map (onto_pieces text))
    (reads_pieces pieces ((and_parts (is_value text) (list_all is_piece pieces) h).1)
    ((and_parts (not (begins_literally pieces)) (are_apart pieces) k).1))
    ∙ ap Some (literal_first text pieces ((and_parts (is_value text) (list_all is_piece pieces) h).0)
    ((and_parts (not (begins_literally pieces)) (are_apart pieces) k).0))
reads_pieces (Var name ∷ pieces) h k =
    reads_variable name (flat_map piece_text pieces) ((and_parts (is_name name) (list_all is_piece pieces) h).0)
    ∙ ap (option_map (λ more. Var name ∷ more))
    (reads_pieces pieces ((and_parts (is_name name) (list_all is_piece pieces) h).1) k)

-- a dollar before a space that begins a value changes nothing
leads_by : (b : ℕ) (text rest : List ℕ) (e : Bool) → eqb b 32 ≡ e
    → pieces_from in_text (cond e (36 ∷ []) [] ++ (escaped_bytes Value (b ∷ text) ++ rest))
    ≡ pieces_from in_text (escaped_bytes Value (b ∷ text) ++ rest)
leads_by b text rest true e = let is : b ≡ 32 = eqb-true b 32 e in rw is refl
leads_by b text rest false e = refl

lead_reads : (text rest : List ℕ) → pieces_from in_text (lead text ++ (escaped_bytes Value text ++ rest))
    ≡ pieces_from in_text (escaped_bytes Value text ++ rest)
lead_reads [] rest = refl
lead_reads (b ∷ text) rest = leads_by b text rest (eqb b 32) refl

pub pieces_read_back : (pieces : List Piece) → is_rule_value pieces ≡ true
    → pieces_of (pieces_text pieces) ≡ Some pieces
pieces_read_back [] h = absurd (cc)
pieces_read_back (Lit text ∷ pieces) h =
    let parts = (and_parts (not (is_nil (Lit text ∷ pieces)))
    (list_all is_piece (Lit text ∷ pieces) && are_apart (Lit text ∷ pieces)) h).1 in
    lead_reads text (flat_map piece_text pieces)
    ∙ reads_pieces (Lit text ∷ pieces)
    ((and_parts (list_all is_piece (Lit text ∷ pieces)) (are_apart (Lit text ∷ pieces)) parts).0)
    ((and_parts (list_all is_piece (Lit text ∷ pieces)) (are_apart (Lit text ∷ pieces)) parts).1)
pieces_read_back (Var name ∷ pieces) h =
    let parts = (and_parts (not (is_nil (Var name ∷ pieces)))
    (list_all is_piece (Var name ∷ pieces) && are_apart (Var name ∷ pieces)) h).1 in
    reads_pieces (Var name ∷ pieces)
    ((and_parts (list_all is_piece (Var name ∷ pieces)) (are_apart (Var name ∷ pieces)) parts).0)
    ((and_parts (list_all is_piece (Var name ∷ pieces)) (are_apart (Var name ∷ pieces)) parts).1)

pub value_read_back : (value : List ℕ) → is_value value ≡ true → value_of (value_text value) ≡ Some value
value_read_back value h =
    ap (λ t. option_and_then literal (pieces_from in_text (lead value ++ t)))
    (sym (append-nil (escaped_bytes Value value)))
    ∙ ap (option_and_then literal) (lead_reads value [] ∙ reads_text Value value [])
    ∙ ap (λ ps. option_and_then literal (Some ps)) (literal_first value [] h refl)

pub path_read_back : (path : List ℕ) → is_path path ≡ true → path_of (path_text path) ≡ Some path
path_read_back path h =
    let value : is_value path ≡ true = (and_parts (is_value path) (list_all (λ b. not (eqb b 124)) path) h).0 in
    ap (λ t. option_and_then if_path (option_and_then literal (pieces_from in_text t)))
    (sym (append-nil (path_text path)))
    ∙ ap (λ o. option_and_then if_path (option_and_then literal o)) (reads_text Path path [])
    ∙ ap (λ ps. option_and_then if_path (option_and_then literal (Some ps))) (literal_first path [] value refl)
    ∙ ap (λ e. cond e (Some path) None) h

pub paths_read_back : (paths : List (List ℕ)) → list_all is_path paths ≡ true
    → paths_of (map path_text paths) ≡ Some paths
paths_read_back [] h = refl
paths_read_back (path ∷ paths) h =
    ap (λ o. option_and_then (λ y. option_map (λ ys. y ∷ ys) (paths_of (map path_text paths))) o)
    (path_read_back path ((and_parts (is_path path) (list_all is_path paths) h).0))
    ∙ ap (option_map (λ ys. path ∷ ys))
    (paths_read_back paths ((and_parts (is_path path) (list_all is_path paths) h).1))
