-- No written line has a dollar open at its end.
use Rattle.std.proofs.Common.{◌≡◌, ℕ, suc, Bool, true, false, cond, not, ◌&&◌, List, [], ◌∷◌, ◌++◌, eqb, eqb-true, map}
use Rattle.std.proofs.Common.{codes, append-nil, ap, sym, ◌∙◌, refl, arith}
use Rattle.std.specs.List.{All, flat_map, list_all}
use Rattle.std.specs.Map.{keys_of, values_of}
use Rattle.std.proofs.lemmas.List.Folds.{list_all-append}
use Rattle.ninja_lines.specs.Meaning.{dangles}
use Rattle.ninja_file.specs.declared.escape.Escape.TheVariants.{Path, Value}
use Rattle.ninja_file.specs.declared.file.NinjaFile.{NinjaFile}
use Rattle.ninja_file.specs.declared.file.NinjaRule.{NinjaRule}
use Rattle.ninja_file.specs.declared.file.Piece.{Piece}
use Rattle.ninja_file.specs.declared.file.Piece.TheVariants.{Lit, Var}
use Rattle.ninja_file.specs.declared.file.Statement.{Statement}
use Rattle.ninja_write.specs.Escaped.{escaped_bytes, path_text, lead, value_text}
use Rattle.ninja_write.specs.Meaning.{piece_text, pieces_text, line_of_binding, binding_line, variable_line}
use Rattle.ninja_write.specs.Meaning.{spaced_path, spaced_paths, paths_behind, ins_text, build_line, rule_line}
use Rattle.ninja_write.specs.Meaning.{rule_lines, statement_lines, default_lines, head_line, lines_of}
use Rattle.ninja_file.specs.Names.{is_nil, is_name, is_name_byte, is_rule_key}
use Rattle.ninja_file.specs.Meaning.{is_piece, are_apart, is_rule_value, IsRule, IsStatement, IsWellFormed, rule_names}
use Rattle.std.proofs.lemmas.Bool.{and_parts, and_from}
use Rattle.bp_faults.proofs.Lists.{contained_passes}
use Rattle.ninja_text.proofs.Bindings.{rule_key_name}
use Rattle.ninja_text.proofs.Bytes.{IsClosed, closed_beside, closed_test, closed_escaped, closed_all}
use Rattle.ninja_text.proofs.Lines.{AreWhole}

named : (name : List ℕ) → is_name name ≡ true → IsClosed name
named name h = closed_test is_name_byte refl name ((and_parts (not (is_nil name)) (list_all is_name_byte name) h).1)

-- a dollar before a space that begins a value takes the space
leads_by : (b : ℕ) (text rest : List ℕ) (e : Bool) → eqb b 32 ≡ e
    → dangles false (cond e (36 ∷ []) [] ++ (escaped_bytes Value (b ∷ text) ++ rest))
    ≡ dangles false (escaped_bytes Value (b ∷ text) ++ rest)
leads_by b text rest true e = let is : b ≡ 32 = eqb-true b 32 e in rw is refl
leads_by b text rest false e = refl

lead_closed : (text rest : List ℕ) → IsClosed (escaped_bytes Value text ++ rest)
    → IsClosed (lead text ++ (escaped_bytes Value text ++ rest))
lead_closed [] rest h = h
lead_closed (b ∷ text) rest h = leads_by b text rest (eqb b 32) refl ∙ h

piece_closed : (piece : Piece) → is_piece piece ≡ true → IsClosed (piece_text piece)
piece_closed (Lit text) h = closed_escaped Value text
piece_closed (Var name) h =
    closed_beside (codes "${") (name ++ codes "}") refl (closed_beside name (codes "}") (named name h) refl)

all_closed : (pieces : List Piece) → list_all is_piece pieces ≡ true → IsClosed (flat_map piece_text pieces)
all_closed [] h = refl
all_closed (piece ∷ pieces) h =
    closed_beside (piece_text piece) (flat_map piece_text pieces)
    (piece_closed piece ((and_parts (is_piece piece) (list_all is_piece pieces) h).0))
    (all_closed pieces ((and_parts (is_piece piece) (list_all is_piece pieces) h).1))

led_pieces : (pieces : List Piece) → IsClosed (flat_map piece_text pieces) → IsClosed (pieces_text pieces)
led_pieces [] h = h
led_pieces (Lit text ∷ pieces) h = lead_closed text (flat_map piece_text pieces) h
led_pieces (Var name ∷ pieces) h = h

rule_value_closed : (pieces : List Piece) → is_rule_value pieces ≡ true → IsClosed (pieces_text pieces)
rule_value_closed pieces h =
    led_pieces pieces (all_closed pieces ((and_parts (list_all is_piece pieces) (are_apart pieces)
    ((and_parts (not (is_nil pieces)) (list_all is_piece pieces && are_apart pieces) h).1)).0))

value_closed : (value : List ℕ) → IsClosed (value_text value)
value_closed value =
    ap (λ t. dangles false (lead value ++ t)) (sym (append-nil (escaped_bytes Value value)))
    ∙ lead_closed value [] (ap (dangles false) (append-nil (escaped_bytes Value value)) ∙ closed_escaped Value value)

bound_closed : (key value : List ℕ) → is_name key ≡ true → IsClosed value → IsClosed (line_of_binding key value)
bound_closed key value h k =
    closed_beside (codes "  ") (key ++ (codes " = " ++ value)) refl
    (closed_beside key (codes " = " ++ value) (named key h) (closed_beside (codes " = ") value refl k))

spaced_closed : (paths : List (List ℕ)) → IsClosed (spaced_paths paths)
spaced_closed paths =
    closed_all spaced_path paths (λ path. closed_beside (32 ∷ []) (path_text path) refl (closed_escaped Path path))

marked_closed : (mark : List ℕ) → IsClosed mark → (paths : List (List ℕ)) → IsClosed (paths_behind mark paths)
marked_closed mark h [] = refl
marked_closed mark h (path ∷ paths) = closed_beside mark (spaced_paths (path ∷ paths)) h (spaced_closed (path ∷ paths))

ins_closed : (s : Statement) → IsClosed (ins_text s)
ins_closed s =
    closed_beside (spaced_paths s.ins) (paths_behind (codes " |") s.implicit ++ paths_behind (codes " ||") s.order_only)
    (spaced_closed s.ins) (closed_beside (paths_behind (codes " |") s.implicit) (paths_behind (codes " ||")
    s.order_only) (marked_closed (codes " |") refl s.implicit) (marked_closed (codes " ||") refl s.order_only))

build_closed : (s : Statement) → is_name s.rule ≡ true → IsClosed (build_line s)
build_closed s h =
    closed_beside (codes "build") (spaced_paths s.outs ++ (codes ": " ++ (s.rule ++ ins_text s))) refl
    (closed_beside (spaced_paths s.outs) (codes ": " ++ (s.rule ++ ins_text s)) (spaced_closed s.outs) (closed_beside
    (codes ": ") (s.rule ++ ins_text s) refl (closed_beside s.rule (ins_text s) (named s.rule h) (ins_closed s))))

whole_line : (line : List ℕ) → IsClosed line → not (dangles false line) ≡ true
whole_line line h = ap not h

above : (xs ys : List (List ℕ)) → AreWhole xs → AreWhole ys → AreWhole (xs ++ ys)
above xs ys h k = list_all-append (λ l. not (dangles false l)) xs ys ∙ and_from _ _ h k

lines_of_each : {X : Type 0} (P : X → Type 0) (lines : X → List (List ℕ)) → ((x : X) → P x → AreWhole (lines x))
    → (xs : List X) → All P xs → AreWhole (flat_map lines xs)
lines_of_each P lines each [] h = refl
lines_of_each P lines each (x ∷ xs) h =
    above (lines x) (flat_map lines xs) (each x (h 0 x (omega arith)))
    (lines_of_each P lines each xs (λ k d inside. h (suc k) d (omega arith)))

binding_lines : (bindings : List (List ℕ × List Piece)) → list_all is_rule_key (keys_of bindings) ≡ true
    → list_all is_rule_value (values_of bindings) ≡ true → AreWhole (map binding_line bindings)
binding_lines [] h k = refl
binding_lines (b ∷ bindings) h k =
    and_from _ _ (whole_line (binding_line b) (bound_closed b.0 (pieces_text b.1)
    (rule_key_name b.0 ((and_parts _ _ h).0)) (rule_value_closed b.1 ((and_parts _ _ k).0))))
    (binding_lines bindings ((and_parts _ _ h).1) ((and_parts _ _ k).1))

variable_lines : (variables : List (List ℕ × List ℕ)) → list_all is_name (keys_of variables) ≡ true
    → AreWhole (map variable_line variables)
variable_lines [] h = refl
variable_lines (v ∷ variables) h =
    and_from _ _
    (whole_line (variable_line v) (bound_closed v.0 (value_text v.1) ((and_parts _ _ h).0) (value_closed v.1)))
    (variable_lines variables ((and_parts _ _ h).1))

lines_of_rule : (rule : NinjaRule) → IsRule rule → AreWhole (rule_lines rule)
lines_of_rule rule good =
    and_from _ _
    (whole_line (rule_line rule) (closed_beside (codes "rule ") rule.name refl (named rule.name good.name)))
    (binding_lines rule.bindings good.keys good.values)

pub names_are_names : (rules : List NinjaRule) → All IsRule rules
    → list_all is_name (map (λ rule. rule.name) rules) ≡ true
names_are_names [] h = refl
names_are_names (rule ∷ rules) h =
    and_from (is_name rule.name) _ (h 0 rule (omega arith)).name
    (names_are_names rules (λ k d inside. h (suc k) d (omega arith)))

pub rule_is_name : (names : List (List ℕ)) (s : Statement) → list_all is_name names ≡ true → IsStatement names s
    → is_name s.rule ≡ true
rule_is_name names s h good =
    contained_passes is_name (codes "phony" ∷ names) s.rule
    (and_from (is_name (codes "phony")) (list_all is_name names) refl h) good.rule

lines_of_statement : (names : List (List ℕ)) → list_all is_name names ≡ true → (s : Statement) → IsStatement names s
    → AreWhole (statement_lines s)
lines_of_statement names h s good =
    and_from _ _ (whole_line (build_line s) (build_closed s (rule_is_name names s h good)))
    (variable_lines s.vars good.keys)

lines_of_defaults : (paths : List (List ℕ)) → AreWhole (default_lines paths)
lines_of_defaults [] = refl
lines_of_defaults (path ∷ paths) =
    and_from _ _ (whole_line (codes "default" ++ spaced_paths (path ∷ paths))
    (closed_beside (codes "default") (spaced_paths (path ∷ paths)) refl (spaced_closed (path ∷ paths)))) refl

head_whole : not (dangles false head_line) ≡ true
unfolding head_line
head_whole = refl

pub whole_lines : (f : NinjaFile) → IsWellFormed f → AreWhole (lines_of f)
whole_lines f good =
    and_from _ _ head_whole
    (above (flat_map rule_lines f.rules) _ (lines_of_each IsRule rule_lines lines_of_rule f.rules good.rules)
    (above (flat_map statement_lines f.statements) (default_lines f.defaults)
    (lines_of_each (IsStatement (rule_names f)) statement_lines (lines_of_statement (rule_names f)
    (names_are_names f.rules good.rules)) f.statements good.statements) (lines_of_defaults f.defaults)))
