-- Lines without LF.
use Rattle.std.proofs.Common.{◌≡◌, ℕ, suc, Bool, true, false, cond, List, [], ◌∷◌, ◌++◌, ◌&&◌, ◌||◌, eqb, not, map}
use Rattle.std.proofs.Common.{length, get_or, codes, arith, ap, refl, sym, ◌∙◌}
use Rattle.std.proofs.lemmas.List.Folds.{list_all-append}
use Rattle.std.proofs.lemmas.List.Sums.{AllPass-from_list_all, list_all-from_AllPass}
use Rattle.std.proofs.lemmas.Slice.Eq.{bytes_eq-Decides}
use Rattle.std.specs.List.{All, flat_map, list_all}
use Rattle.std.specs.Map.{keys_of, values_of}
use Rattle.std.specs.Str.{bytes_eq}
use Rattle.std.proofs.lemmas.Bool.{and_parts, and_from}
use Rattle.ninja_write.proofs.Bytes.{apart_by}
use Rattle.ninja_file.specs.declared.escape.Escape.{Escape}
use Rattle.ninja_file.specs.declared.escape.Escape.TheVariants.{Path, Value}
use Rattle.ninja_file.specs.declared.file.NinjaFile.{NinjaFile}
use Rattle.ninja_file.specs.declared.file.NinjaRule.{NinjaRule}
use Rattle.ninja_file.specs.declared.file.Piece.{Piece}
use Rattle.ninja_file.specs.declared.file.Piece.TheVariants.{Lit, Var}
use Rattle.ninja_file.specs.declared.file.Statement.{Statement}
use Rattle.ninja_file.specs.Escapes.{is_escaped}
use Rattle.ninja_write.specs.Escaped.{escaped_byte, escaped_bytes, path_text, lead, value_text}
use Rattle.ninja_write.specs.Laws.{IsOneLine}
use Rattle.ninja_write.specs.Meaning.{piece_text, lead_of, pieces_text, line_of_binding, binding_line, variable_line}
use Rattle.ninja_write.specs.Meaning.{spaced_path, spaced_paths, paths_behind, ins_text, build_line, rule_line}
use Rattle.ninja_write.specs.Meaning.{rule_lines, statement_lines, default_lines, head_line, lines_of, text_of}
use Rattle.ninja_file.specs.Names.{is_name_byte, is_name, is_shown, is_value, is_path, is_rule_key}
use Rattle.ninja_file.specs.Meaning.{is_piece, are_apart, is_rule_value, IsRule, IsStatement, IsWellFormed, rule_names}
use Rattle.ninja_file.specs.Meaning.{outs_of}
use Rattle.bp_faults.specs.Characters.{dollar, space}
use Rattle.bp_faults.proofs.Lists.{contained_passes}

abbrev stays : ℕ → Bool
stays b = not (eqb b 10)

-- texts one behind the other
beside : (xs ys : List ℕ) → IsOneLine xs → IsOneLine ys → IsOneLine (xs ++ ys)
beside xs ys h k = list_all-append stays xs ys ∙ and_from _ _ h k

-- texts of which each byte passes a test that LF doesn't
by_test : (test : ℕ → Bool) → test 10 ≡ false → (text : List ℕ) → list_all test text ≡ true → IsOneLine text
by_test test fails [] h = refl
by_test test fails (b ∷ text) h =
    and_from (stays b) (list_all stays text)
    (ap not (apart_by test b 10 ((and_parts (test b) (list_all test text) h).0) fails))
    (by_test test fails text ((and_parts (test b) (list_all test text) h).1))

named : (name : List ℕ) → is_name name ≡ true → IsOneLine name
named name h = by_test is_name_byte refl name ((and_parts (not (eqb (length name) 0)) (list_all is_name_byte name) h).1)

shown : (value : List ℕ) → is_value value ≡ true → IsOneLine value
shown value h = by_test is_shown refl value ((and_parts (not (eqb (length value) 0)) (list_all is_shown value) h).1)

-- elements each of which has a text without LF
joined_all : {X : Type 0} (text : X → List ℕ) (test : X → Bool) → ((x : X) → test x ≡ true → IsOneLine (text x))
    → (xs : List X) → list_all test xs ≡ true → IsOneLine (flat_map text xs)
joined_all text test each [] h = refl
joined_all text test each (x ∷ xs) h =
    beside (text x) (flat_map text xs) (each x ((and_parts (test x) (list_all test xs) h).0))
    (joined_all text test each xs ((and_parts (test x) (list_all test xs) h).1))

byte : (escape : Escape) (b : ℕ) (e : Bool) → is_escaped escape b ≡ e → stays b ≡ true
    → IsOneLine (escaped_byte escape b)
byte escape b true e h = rw e (and_from (stays b) true h refl)
byte escape b false e h = rw e (and_from (stays b) true h refl)

escapes : (escape : Escape) (text : List ℕ) → IsOneLine text → IsOneLine (escaped_bytes escape text)
escapes escape text h =
    joined_all (escaped_byte escape) stays (λ b k. byte escape b (is_escaped escape b) refl k) text h

leads : (b : ℕ) (e : Bool) → eqb b space ≡ e → IsOneLine (cond (eqb b space) (dollar ∷ []) [])
leads b true e = rw e refl
leads b false e = rw e refl

lead_line : (text : List ℕ) → IsOneLine (lead text)
lead_line [] = refl
lead_line (b ∷ text) = leads b (eqb b space) refl

lead_of_line : (pieces : List Piece) → IsOneLine (lead_of pieces)
lead_of_line [] = refl
lead_of_line (Lit text ∷ pieces) = lead_line text
lead_of_line (Var name ∷ pieces) = refl

piece_line : (piece : Piece) → is_piece piece ≡ true → IsOneLine (piece_text piece)
piece_line (Lit text) h = escapes Value text (shown text h)
piece_line (Var name) h = beside (codes "${") (name ++ codes "}") refl (beside name (codes "}") (named name h) refl)

rule_value_line : (pieces : List Piece) → is_rule_value pieces ≡ true → IsOneLine (pieces_text pieces)
rule_value_line pieces h =
    beside (lead_of pieces) (flat_map piece_text pieces) (lead_of_line pieces)
    (joined_all piece_text is_piece piece_line pieces ((and_parts (list_all is_piece pieces) (are_apart pieces)
    ((and_parts (not (eqb (length pieces) 0)) (list_all is_piece pieces && are_apart pieces) h).1)).0))

value_line : (value : List ℕ) → is_value value ≡ true → IsOneLine (value_text value)
value_line value h =
    beside (lead value) (escaped_bytes Value value) (lead_line value) (escapes Value value (shown value h))

path_line : (path : List ℕ) → is_path path ≡ true → IsOneLine (spaced_path path)
path_line path h =
    beside (space ∷ []) (path_text path) refl
    (escapes Path path (shown path ((and_parts (is_value path) (list_all (λ b. not (eqb b 124)) path) h).0)))

spaced_line : (paths : List (List ℕ)) → list_all is_path paths ≡ true → IsOneLine (spaced_paths paths)
spaced_line paths h = joined_all spaced_path is_path path_line paths h

marked_line : (mark : List ℕ) (paths : List (List ℕ)) → IsOneLine mark → list_all is_path paths ≡ true
    → IsOneLine (paths_behind mark paths)
marked_line mark [] m h = refl
marked_line mark (path ∷ paths) m h = beside mark (spaced_paths (path ∷ paths)) m (spaced_line (path ∷ paths) h)

bound_line : (key value : List ℕ) → IsOneLine key → IsOneLine value → IsOneLine (line_of_binding key value)
bound_line key value h k =
    beside (codes "  ") (key ++ (codes " = " ++ value)) refl
    (beside key (codes " = " ++ value) h (beside (codes " = ") value refl k))

either : {P : Type 0} (a b : Bool) → (a ≡ true → P) → (b ≡ true → P) → (a || b) ≡ true → P
either true b one other h = one refl
either false b one other h = other h

known : (key other : List ℕ) → IsOneLine other → bytes_eq key other ≡ true → IsOneLine key
known key other line same = rw ((bytes_eq-Decides key other).0 same) line

rule_key : (key : List ℕ) → is_rule_key key ≡ true → IsOneLine key
rule_key key h =
    either _ _ (either _ _ (either _ _ (known key (codes "command") refl) (known key (codes "description") refl))
    (known key (codes "depfile") refl)) (known key (codes "deps") refl) h

-- lines of which none has LF
abbrev AreLines : List (List ℕ) → Type 0
AreLines lines = list_all (λ line. list_all stays line) lines ≡ true

above : (xs ys : List (List ℕ)) → AreLines xs → AreLines ys → AreLines (xs ++ ys)
above xs ys h k = list_all-append (λ line. list_all stays line) xs ys ∙ and_from _ _ h k

lines_of_each : {X : Type 0} (P : X → Type 0) (lines : X → List (List ℕ)) → ((x : X) → P x → AreLines (lines x))
    → (xs : List X) → All P xs → AreLines (flat_map lines xs)
lines_of_each P lines each [] h = refl
lines_of_each P lines each (x ∷ xs) h =
    above (lines x) (flat_map lines xs) (each x (h 0 x (omega arith)))
    (lines_of_each P lines each xs (λ k d inside. h (suc k) d (omega arith)))

binding_lines : (bindings : List (List ℕ × List Piece)) → list_all is_rule_key (keys_of bindings) ≡ true
    → list_all is_rule_value (values_of bindings) ≡ true → AreLines (map binding_line bindings)
binding_lines [] h k = refl
binding_lines (b ∷ bindings) h k =
    and_from _ _ (bound_line b.0 (pieces_text b.1) (rule_key b.0 ((and_parts _ _ h).0))
    (rule_value_line b.1 ((and_parts _ _ k).0))) (binding_lines bindings ((and_parts _ _ h).1) ((and_parts _ _ k).1))

variable_lines : (variables : List (List ℕ × List ℕ)) → list_all is_name (keys_of variables) ≡ true
    → list_all is_value (values_of variables) ≡ true → AreLines (map variable_line variables)
variable_lines [] h k = refl
variable_lines (v ∷ variables) h k =
    and_from _ _ (bound_line v.0 (value_text v.1) (named v.0 ((and_parts _ _ h).0))
    (value_line v.1 ((and_parts _ _ k).0))) (variable_lines variables ((and_parts _ _ h).1) ((and_parts _ _ k).1))

names_of : (rules : List NinjaRule) → All IsRule rules → AreLines (map (λ rule. rule.name) rules)
names_of [] h = refl
names_of (rule ∷ rules) h =
    and_from (list_all stays rule.name) _ (named rule.name (h 0 rule (omega arith)).name)
    (names_of rules (λ k d inside. h (suc k) d (omega arith)))

lines_of_rule : (rule : NinjaRule) → IsRule rule → AreLines (rule_lines rule)
lines_of_rule rule good =
    and_from (list_all stays (rule_line rule)) _ (beside (codes "rule ") rule.name refl (named rule.name good.name))
    (binding_lines rule.bindings good.keys good.values)

paths_of : (xs ys : List (List ℕ)) → list_all is_path (xs ++ ys) ≡ true
    → (list_all is_path xs && list_all is_path ys) ≡ true
paths_of xs ys h = sym (list_all-append is_path xs ys) ∙ h

ins_line : (s : Statement) → list_all is_path (s.ins ++ (s.implicit ++ s.order_only)) ≡ true → IsOneLine (ins_text s)
ins_line s h =
    let parts : (list_all is_path s.ins && list_all is_path (s.implicit ++ s.order_only)) ≡ true =
    paths_of s.ins (s.implicit ++ s.order_only) h in
    let rest : (list_all is_path s.implicit && list_all is_path s.order_only) ≡ true =
    paths_of s.implicit s.order_only ((and_parts _ _ parts).1) in
    beside (spaced_paths s.ins) _ (spaced_line s.ins ((and_parts _ _ parts).0))
    (beside (paths_behind (codes " |") s.implicit) (paths_behind (codes " ||") s.order_only) (marked_line (codes " |")
    s.implicit refl ((and_parts _ _ rest).0)) (marked_line (codes " ||") s.order_only refl ((and_parts _ _ rest).1)))

lines_of_statement : (names : List (List ℕ)) → AreLines names → (s : Statement) → IsStatement names s
    → AreLines (statement_lines s)
lines_of_statement names lines s good =
    let parts : (list_all is_path s.outs && list_all is_path (s.ins ++ (s.implicit ++ s.order_only))) ≡ true =
    paths_of s.outs (s.ins ++ (s.implicit ++ s.order_only)) good.paths in
    let rule : IsOneLine s.rule = contained_passes (λ line. list_all stays line) (codes "phony" ∷ names) s.rule
    (and_from true _ refl lines) good.rule in
    and_from (list_all stays (build_line s)) _
    (beside (codes "build") (spaced_paths s.outs ++ (codes ": " ++ (s.rule ++ ins_text s))) refl
    (beside (spaced_paths s.outs) (codes ": " ++ (s.rule ++ ins_text s)) (spaced_line s.outs ((and_parts _ _ parts).0))
    (beside (codes ": ") (s.rule ++ ins_text s) refl
    (beside s.rule (ins_text s) rule (ins_line s ((and_parts _ _ parts).1))))))
    (variable_lines s.vars good.keys good.values)

outs_are_paths : (names : List (List ℕ)) (statements : List Statement) → All (IsStatement names) statements
    → list_all is_path (flat_map (λ s. s.outs) statements) ≡ true
outs_are_paths names [] h = refl
outs_are_paths names (s ∷ statements) h =
    list_all-append is_path s.outs (flat_map (λ s. s.outs) statements)
    ∙ and_from _ _
    ((and_parts _ _ (paths_of s.outs (s.ins ++ (s.implicit ++ s.order_only)) (h 0 s (omega arith)).paths)).0)
    (outs_are_paths names statements (λ k d inside. h (suc k) d (omega arith)))

default_line : (paths : List (List ℕ)) → list_all is_path paths ≡ true → AreLines (default_lines paths)
default_line [] h = refl
default_line (path ∷ paths) h =
    and_from (list_all stays (codes "default" ++ spaced_paths (path ∷ paths))) true
    (beside (codes "default") (spaced_paths (path ∷ paths)) refl (spaced_line (path ∷ paths) h)) refl

head_is_line : IsOneLine head_line
unfolding head_line
head_is_line = refl

pub lines_of_whole : (f : NinjaFile) → IsWellFormed f
    → (text_of f ≡ flat_map (λ line. line ++ codes "\n") (lines_of f)) × All IsOneLine (lines_of f)
lines_of_whole f good =
    let outs : list_all is_path (outs_of f) ≡ true = outs_are_paths (rule_names f) f.statements good.statements in
    let defaults : list_all is_path f.defaults ≡ true = list_all-from_AllPass is_path f.defaults
    (λ k d inside. contained_passes is_path (outs_of f) (get_or f.defaults k d) outs (good.defaults k d inside)) in
    let statements : AreLines (flat_map statement_lines f.statements) = lines_of_each (IsStatement (rule_names f))
    statement_lines (lines_of_statement (rule_names f) (names_of f.rules good.rules)) f.statements good.statements in
    let rules : AreLines (flat_map rule_lines f.rules) =
    lines_of_each IsRule rule_lines lines_of_rule f.rules good.rules in
    let all : AreLines (lines_of f) = and_from (list_all stays head_line) _ head_is_line
    (above (flat_map rule_lines f.rules) _ rules (above (flat_map statement_lines f.statements)
    (default_lines f.defaults) statements (default_line f.defaults defaults))) in
    (refl, AllPass-from_list_all (λ line. list_all stays line) (lines_of f) all)
