-- How long texts are at the least.
use Rattle.std.proofs.Common.{◌≡◌, ℕ, ◌+◌, ◌<◌, ◌≤◌, List, [], ◌∷◌, ◌++◌, Bool, true, false, cond, map, take, length}
use Rattle.std.proofs.Common.{length-append, get_or, ap, sym, subst, arith, ◌∙◌}
use Rattle.std.specs.List.{flat_map}
use Rattle.std.specs.Prelude.{codes}
use Rattle.std.proofs.lemmas.List.{take_more}
use Rattle.std.proofs.lemmas.Grind.{flat_map-append}
use Rattle.std.proofs.lemmas.List.Folds.{flat_map-map}
use Rattle.ninja_file.specs.declared.escape.Escape.{Escape}
use Rattle.ninja_file.specs.declared.escape.Escape.TheVariants.{Path, Value}
use Rattle.ninja_file.specs.declared.file.NinjaFile.{NinjaFile}
use Rattle.ninja_file.specs.declared.file.Statement.{Statement}
use Rattle.ninja_file.specs.Escapes.{is_escaped}
use Rattle.ninja_write.specs.Escaped.{escaped_byte, escaped_bytes, lead, value_text}
use Rattle.ninja_write.specs.Inside.{statements_text}
use Rattle.ninja_write.specs.Meaning.{spaced_paths, spaced_path, paths_behind, variable_line, ins_text, build_line}
use Rattle.ninja_write.specs.Meaning.{statement_lines, default_lines, head_line, joined_text, text_of, rule_lines}
use Rattle.ninja_write.proofs.Lines.{text-parts}
use Rattle.bp_faults.specs.Characters.{ended_line, dollar}

-- one text more
pub one_more : {X : Type 0} (text : X → List ℕ) (xs : List X) (i : ℕ) (d : X) (bytes more new : ℕ) → i < length xs
    → bytes ≤ length (flat_map text (take i xs)) → more ≤ length (text (get_or xs i d)) → new ≤ bytes + more
    → new ≤ length (flat_map text (take (i + 1) xs))
one_more text xs i d bytes more new lt so_far one sum =
    let parts : length (flat_map text (take (i + 1) xs))
    ≡ length (flat_map text (take i xs)) + (length (text (get_or xs i d)) + 0) =
    ap (λ ys. length (flat_map text ys)) (take_more xs i d lt)
    ∙ ap length (flat_map-append text (take i xs) (get_or xs i d ∷ []))
    ∙ length-append (flat_map text (take i xs)) (text (get_or xs i d) ++ [])
    ∙ ap (λ n. length (flat_map text (take i xs)) + n) (length-append (text (get_or xs i d)) []) in
    omega (arith, parts, so_far, one, sum)

-- a byte has a text
byte_has : (escape : Escape) (b : ℕ) → 1 ≤ length (escaped_byte escape b)
byte_has escape b = by (is_escaped escape b)
  where
    by : (is : Bool) → 1 ≤ length (cond is (dollar ∷ b ∷ []) (b ∷ []))
    by true = omega arith
    by false = omega arith

-- no byte is left out
pub escaped_has : (escape : Escape) (bytes : List ℕ) → length bytes ≤ length (escaped_bytes escape bytes)
escaped_has escape [] = omega arith
escaped_has escape (b ∷ bytes) =
    omega (
      arith,
      length-append (escaped_byte escape b) (escaped_bytes escape bytes),
      byte_has escape b,
      escaped_has escape bytes,
    )

pub path_has : (path : List ℕ) → length path ≤ length (spaced_path path)
path_has path = omega (arith, escaped_has Path path)

-- the same of what is read as the text
pub path_read : (path text : List ℕ) → text ≡ path → length text ≤ length (spaced_path path)
path_read path text is = subst (λ t. length t ≤ length (spaced_path path)) (sym is) (path_has path)

value_has : (value : List ℕ) → length value ≤ length (value_text value)
value_has value = omega (arith, length-append (lead value) (escaped_bytes Value value), escaped_has Value value)

-- a variable has its name and its value
pub variable_has : (name value : List ℕ)
    → length name + length value ≤ length (ended_line (variable_line (name, value)))
variable_has name value =
    omega (
      arith,
      length-append name (32 ∷ 61 ∷ 32 ∷ value_text value),
      value_has value,
      length-append (variable_line (name, value)) (10 ∷ []),
    )

-- a statement has its outs, its ins and its variables
pub statement_has : (s : Statement) (outs ins vars : ℕ) → outs ≤ length (spaced_paths s.outs)
    → ins ≤ length (spaced_paths s.ins)
    → vars ≤ length (flat_map (λ v. ended_line (variable_line v)) s.vars)
    → (outs + ins) + vars ≤ length (joined_text (statement_lines s))
statement_has s outs ins vars o i v =
    let lines : length (joined_text (statement_lines s))
    ≡ length (ended_line (build_line s)) + length (joined_text (map variable_line s.vars)) =
    length-append (ended_line (build_line s)) (joined_text (map variable_line s.vars)) in
    let line : length (ended_line (build_line s)) ≡ length (build_line s) + 1 =
    length-append (build_line s) (10 ∷ []) in
    let first : length (spaced_paths s.outs ++ (58 ∷ 32 ∷ (s.rule ++ ins_text s)))
    ≡ length (spaced_paths s.outs) + length (58 ∷ 32 ∷ (s.rule ++ ins_text s)) =
    length-append (spaced_paths s.outs) (58 ∷ 32 ∷ (s.rule ++ ins_text s)) in
    let second = length-append s.rule (ins_text s) in
    let third = length-append (spaced_paths s.ins)
    (paths_behind (codes " |") s.implicit ++ paths_behind (codes " ||") s.order_only) in
    let fourth : length (joined_text (map variable_line s.vars))
    ≡ length (flat_map (λ v. ended_line (variable_line v)) s.vars) =
    ap length (flat_map-map ended_line variable_line s.vars) in
    omega (arith, lines, line, first, second, third, fourth, o, i, v)

-- a file has its statements
pub file_has : (f : NinjaFile) → length (statements_text f.statements) ≤ length (text_of f)
file_has f =
    let rest = statements_text f.statements ++ joined_text (default_lines f.defaults) in
    omega (
      arith,
      ap length (text-parts f),
      length-append (ended_line head_line) (flat_map (λ r. joined_text (rule_lines r)) f.rules ++ rest),
      length-append (flat_map (λ r. joined_text (rule_lines r)) f.rules) rest,
      length-append (statements_text f.statements) (joined_text (default_lines f.defaults)),
    )
