-- A written file is read back.
use Rattle.std.proofs.Common.{◌≡◌, ◌≢◌, ℕ, suc, ◌+◌, Bool, true, false, cond, ◌||◌, List, [], ◌∷◌, ◌++◌, map, Some}
use Rattle.std.proofs.Common.{None, option_map, option_and_then, Ok, codes, IsUtf8, append_assoc, append-nil, ap, sym}
use Rattle.std.proofs.Common.{subst, ◌∙◌, refl, arith}
use Rattle.std.specs.List.{All, Contains, flat_map, list_all}
use Rattle.std.specs.Str.{bytes_eq}
use Rattle.std.proofs.lemmas.List.{map-append}
use Rattle.std.proofs.lemmas.List.Folds.{list_all-append, flat_map-map}
use Rattle.ninja_lines.specs.Meaning.{joined_from, joined_lines}
use Rattle.ninja_read.specs.declared.book.Open.TheVariants.{Rule, Build}
use Rattle.ninja_file.specs.declared.file.NinjaRule.{NinjaRule}
use Rattle.ninja_file.specs.declared.file.Statement.{Statement}
use Rattle.ninja_file.specs.declared.file.NinjaFile.{NinjaFile}
use Rattle.ninja_write.specs.Escaped.{path_text}
use Rattle.ninja_write.specs.Meaning.{spaced_paths, ins_text, variable_line, build_line, rule_lines, statement_lines}
use Rattle.ninja_write.specs.Meaning.{default_lines, head_line, lines_of, text_of}
use Rattle.ninja_write.specs.Laws.{LinesAreLines}
use Rattle.ninja_read.specs.Heads.{skipped, form_of, build_statement}
use Rattle.ninja_read.specs.Book.{Book, no_book, has_text, book_file, outs_of_book, rules_of, statements_of}
use Rattle.ninja_read.specs.Book.{names_of_rules, book_with_open, with_statement, with_defaults}
use Rattle.ninja_read.specs.Meaning.{repeats, repeated_out, stray, or_line, refused_line, unless_refused, answer}
use Rattle.ninja_read.specs.Meaning.{with_form, binds_command, read_lines, reading}
use Rattle.ninja_file.specs.Meaning.{AllDiffer, IsRule, IsStatement, IsWellFormed, rule_names, outs_of}
use Rattle.ninja_file.specs.Names.{is_name, is_path}
use Rattle.std.proofs.lemmas.Bool.{and_parts, and_from}
use Rattle.bp_faults.proofs.Lists.{contained_passes}
use Rattle.ninja_text.proofs.Bindings.{fresh, has_at}
use Rattle.ninja_text.proofs.Blocks.{Reads, step, with_vars, variables_read, rule_read, same_texts}
use Rattle.ninja_text.proofs.Lines.{plain, lines_joined, joined_plain, utf8_lines}
use Rattle.ninja_text.proofs.Whole.{whole_lines, names_are_names, rule_is_name}
use Rattle.ninja_text.proofs.Words.{HasPaths, build_read, defaults_read}

names_with_rule : (book : Book) (rule : NinjaRule)
    → names_of_rules book ++ rule.name ∷ [] ≡ names_of_rules (book_with_open (Rule rule) book)
names_with_rule book rule = sym (map-append (λ r. r.name) (rules_of book) (rule ∷ []))

names_with_statement : (book : Book) (number : ℕ) (s : Statement)
    → names_of_rules book ≡ names_of_rules (book_with_open (Build number s) book)
names_with_statement book number s = ap (λ rs. map (λ r. r.name) rs) (sym (append-nil (rules_of book)))

-- what reading lines makes of a book
pub record Grows (from : Book) (n : ℕ) (lines rest : List (List ℕ)) (rules : List NinjaRule)
    (statements : List Statement) : Type 0 where
  pub to : Book
  pub number : ℕ
  pub same : read_lines from (plain n lines) ≡ read_lines to (plain number rest)
  pub has_rules : rules_of to ≡ rules_of from ++ rules
  pub has_statements : map (λ s. s.1) (statements_of to) ≡ map (λ s. s.1) (statements_of from) ++ statements
  pub has_defaults : to.defaults ≡ from.defaults

rules_read : (n : ℕ) (book : Book) (rules : List NinjaRule) (rest : List (List ℕ)) → All IsRule rules
    → AllDiffer (names_of_rules book ++ map (λ r. r.name) rules)
    → Grows book n (flat_map rule_lines rules ++ rest) rest rules []
rules_read n book [] rest good differ = record {
  to = book;
  number = n;
  same = refl;
  has_rules = sym (append-nil (rules_of book));
  has_statements = sym (append-nil (map (λ s. s.1) (statements_of book)));
  has_defaults = refl;
}
rules_read n book (rule ∷ rules) rest good differ =
    let one = rule_read n book rule (flat_map rule_lines rules ++ rest) (good 0 rule (omega arith))
    (fresh (names_of_rules book) (map (λ r. r.name) rules) rule.name differ) in
    let next : Book = book_with_open (Rule rule) book in
    let names : names_of_rules book ++ rule.name ∷ map (λ r. r.name) rules
    ≡ names_of_rules next ++ map (λ r. r.name) rules =
    sym (append_assoc (names_of_rules book) (rule.name ∷ []) (map (λ r. r.name) rules))
    ∙ ap (λ ns. ns ++ map (λ r. r.name) rules) (names_with_rule book rule) in
    let more =
    rules_read one.number next rules rest (λ k d inside. good (suc k) d (omega arith)) (subst AllDiffer names differ) in
    record {
      to = more.to;
      number = more.number;
      same =
          ap (λ ls. read_lines book (plain n ls)) (append_assoc (rule_lines rule) (flat_map rule_lines rules) rest)
          ∙ one.same
          ∙ more.same;
      has_rules = more.has_rules ∙ append_assoc (rules_of book) (rule ∷ []) rules;
      has_statements = more.has_statements ∙ ap (λ ss. map (λ s. s.1) ss ++ []) (append-nil (statements_of book));
      has_defaults = more.has_defaults;
    }

-- the parts of a statement's paths
statement_paths : (s : Statement) → list_all is_path (s.outs ++ (s.ins ++ (s.implicit ++ s.order_only))) ≡ true
    → (list_all is_path s.outs ≡ true) × HasPaths s
statement_paths s h =
    let a = sym (list_all-append is_path s.outs (s.ins ++ (s.implicit ++ s.order_only))) ∙ h in
    let b = sym (list_all-append is_path s.ins (s.implicit ++ s.order_only))
    ∙ (and_parts (list_all is_path s.outs) _ a).1 in
    let d = sym (list_all-append is_path s.implicit s.order_only) ∙ (and_parts (list_all is_path s.ins) _ b).1 in (
      (and_parts (list_all is_path s.outs) _ a).0,
      (
        (and_parts (list_all is_path s.ins) _ b).0,
        (and_parts (list_all is_path s.implicit) _ d).0,
        (and_parts (list_all is_path s.implicit) _ d).1,
      ),
    )

build_step : (n : ℕ) (book : Book) (s : Statement) (outs : List (List ℕ)) (rest : List (List ℕ)) → s.outs ≡ outs
    → s.outs ≢ [] → list_all is_path s.outs ≡ true → HasPaths s → is_name s.rule ≡ true
    → (bytes_eq s.rule (codes "phony") || has_text (names_of_rules book) s.rule) ≡ true
    → with_form n (binds_command (plain (n + 1) rest)) book (build_line s) (form_of (build_line s))
    ≡ Some (book_with_open (Build n (with_vars s [])) book)
build_step n book s [] rest is some paths h name known = absurd (some is)
build_step n book s (out ∷ outs) rest is some paths h name known =
    let tail : List ℕ = codes ": " ++ (s.rule ++ ins_text s) in
    let c : Bool = binds_command (plain (n + 1) rest) in
    ap (λ os. with_form n c book (codes "build" ++ (spaced_paths os ++ tail))
    (form_of (codes "build" ++ (spaced_paths os ++ tail)))) is
    ∙ ap (λ t. option_and_then (with_statement n book) (build_statement t))
    (append_assoc (path_text out) (spaced_paths outs) tail)
    ∙ ap (option_and_then (with_statement n book))
    (build_read s out outs is (ap (list_all is_path) (sym is) ∙ paths) name h)
    ∙ ap (λ e. cond e (Some (book_with_open (Build n (with_vars s [])) book)) None) known

statement_read : (n : ℕ) (book : Book) (s : Statement) (rest : List (List ℕ))
    → list_all is_name (names_of_rules book) ≡ true → IsStatement (names_of_rules book) s
    → Reads book n (statement_lines s ++ rest) (book_with_open (Build n s) book) rest
statement_read n book s rest names good =
    let paths = statement_paths s good.paths in
    let known : (bytes_eq s.rule (codes "phony") || has_text (names_of_rules book) s.rule) ≡ true =
    has_at (λ y x. bytes_eq x y) (λ y x e. same_texts x y (sym e))
    (codes "phony" ∷ names_of_rules book) s.rule good.rule.0 good.rule.1 good.rule.2 in
    let lines : List (List ℕ) = map variable_line s.vars ++ rest in
    let one = step n book (book_with_open (Build n (with_vars s [])) book) (build_line s) lines (build_step n book s
    s.outs lines refl good.makes paths.0 paths.1 (rule_is_name (names_of_rules book) s names good) known) in
    let more = variables_read (n + 1) n
    (book_with_open (Build n s) book) s [] s.vars rest good.keys good.values good.keys_differ in
    record { number = more.number; same = one ∙ more.same }

statements_read : (n : ℕ) (book : Book) (statements : List Statement) (rest : List (List ℕ))
    → list_all is_name (names_of_rules book) ≡ true → All (IsStatement (names_of_rules book)) statements
    → Grows book n (flat_map statement_lines statements ++ rest) rest [] statements
statements_read n book [] rest names good = record {
  to = book;
  number = n;
  same = refl;
  has_rules = sym (append-nil (rules_of book));
  has_statements = sym (append-nil (map (λ s. s.1) (statements_of book)));
  has_defaults = refl;
}
statements_read n book (s ∷ statements) rest names good =
    let one = statement_read n book s (flat_map statement_lines statements ++ rest) names (good 0 s (omega arith)) in
    let next : Book = book_with_open (Build n s) book in
    let same_names : names_of_rules book ≡ names_of_rules next = names_with_statement book n s in
    let more = statements_read one.number next statements rest (subst (λ ns. list_all is_name ns ≡ true) same_names
    names) (subst (λ ns. All (IsStatement ns) statements) same_names (λ k d inside. good (suc k) d (omega arith))) in
    record {
      to = more.to;
      number = more.number;
      same =
          ap (λ ls. read_lines book (plain n ls))
          (append_assoc (statement_lines s) (flat_map statement_lines statements) rest)
          ∙ one.same
          ∙ more.same;
      has_rules = more.has_rules ∙ ap (λ rs. rs ++ []) (append-nil (rules_of book));
      has_statements =
          more.has_statements
          ∙ ap (λ ss. ss ++ statements) (map-append (λ t. t.1) (statements_of book) ((n, s) ∷ []))
          ∙ append_assoc (map (λ t. t.1) (statements_of book)) (s ∷ []) statements;
      has_defaults = more.has_defaults;
    }

-- what reading the line of the defaults makes of a book, at the end
record Ended (from : Book) (n : ℕ) (lines : List (List ℕ)) (defaults : List (List ℕ)) : Type 0 where
  pub to : Book
  pub same : read_lines from (plain n lines) ≡ (to, None)
  pub has_rules : rules_of to ≡ rules_of from
  pub has_statements : statements_of to ≡ statements_of from
  pub has_defaults : map (λ d. d.1) to.defaults ≡ map (λ d. d.1) from.defaults ++ defaults

numbered : (n : ℕ) (paths : List (List ℕ)) → map (λ (d : ℕ × List ℕ). d.1) (map (λ path. (n, path)) paths) ≡ paths
numbered n [] = refl
numbered n (path ∷ paths) = ap (λ ps. path ∷ ps) (numbered n paths)

defaults_end : (n : ℕ) (book : Book) (paths : List (List ℕ)) → list_all is_path paths ≡ true
    → Ended book n (default_lines paths) paths
defaults_end n book [] h = record {
  to = book;
  same = refl;
  has_rules = refl;
  has_statements = refl;
  has_defaults = sym (append-nil (map (λ d. d.1) book.defaults));
}
defaults_end n book (path ∷ paths) h =
    let new : Book = with_defaults n book (path ∷ paths) in
    record {
      to = new;
      same =
          step n book new (codes "default" ++ spaced_paths (path ∷ paths)) []
          (ap (option_map (with_defaults n book)) (defaults_read path paths h));
      has_rules = refl;
      has_statements = refl;
      has_defaults =
          map-append (λ d. d.1) book.defaults (map (λ p. (n, p)) (path ∷ paths))
          ∙ ap (λ ps. map (λ d. d.1) book.defaults ++ ps) (numbered n (path ∷ paths));
    }

-- no out is named again
repeats_none : (seen outs more : List (List ℕ)) → AllDiffer (seen ++ (outs ++ more)) → repeats seen outs ≡ false
repeats_none seen [] more differ = refl
repeats_none seen (out ∷ outs) more differ =
    ap (λ e. e || repeats (seen ++ out ∷ []) outs) (fresh seen (outs ++ more) out differ)
    ∙ repeats_none (seen ++ out ∷ []) outs more
    (subst AllDiffer (sym (append_assoc seen (out ∷ []) (outs ++ more))) differ)

repeated_none : (seen : List (List ℕ)) (statements : List (ℕ × Statement))
    → AllDiffer (seen ++ flat_map (λ t. t.1.outs) statements) → repeated_out seen statements ≡ None
repeated_none seen [] differ = refl
repeated_none seen (s ∷ statements) differ =
    ap (λ e. cond e (Some s.0) (repeated_out (seen ++ s.1.outs) statements))
    (repeats_none seen s.1.outs (flat_map (λ t. t.1.outs) statements) differ)
    ∙ repeated_none (seen ++ s.1.outs) statements
    (subst AllDiffer (sym (append_assoc seen s.1.outs (flat_map (λ t. t.1.outs) statements))) differ)

-- each default is an out
all_have : (outs paths : List (List ℕ)) → All (Contains outs) paths → list_all (has_text outs) paths ≡ true
all_have outs [] h = refl
all_have outs (path ∷ paths) h =
    let held : Contains outs path = h 0 path (omega arith) in
    and_from (has_text outs path) (list_all (has_text outs) paths)
    (has_at (λ y x. bytes_eq x y) (λ y x e. same_texts x y (sym e)) outs path held.0 held.1 held.2)
    (all_have outs paths (λ k d inside. h (suc k) d (omega arith)))

stray_none : (outs : List (List ℕ)) (defaults : List (ℕ × List ℕ))
    → list_all (has_text outs) (map (λ d. d.1) defaults) ≡ true → stray outs defaults ≡ None
stray_none outs [] h = refl
stray_none outs (d ∷ defaults) h =
    ap (λ e. cond e (stray outs defaults) (Some d.0))
    ((and_parts (has_text outs d.1) (list_all (has_text outs) (map (λ x. x.1) defaults)) h).0)
    ∙ stray_none outs defaults
    ((and_parts (has_text outs d.1) (list_all (has_text outs) (map (λ x. x.1) defaults)) h).1)

-- the outs and the defaults are paths
outs_paths : (names : List (List ℕ)) (statements : List Statement) → All (IsStatement names) statements
    → list_all is_path (flat_map (λ s. s.outs) statements) ≡ true
outs_paths names [] h = refl
outs_paths names (s ∷ statements) h =
    let good : IsStatement names s = h 0 s (omega arith) in
    list_all-append is_path s.outs (flat_map (λ t. t.outs) statements)
    ∙ and_from (list_all is_path s.outs) _ (statement_paths s good.paths).0
    (outs_paths names statements (λ k d inside. h (suc k) d (omega arith)))

defaults_paths : (outs paths : List (List ℕ)) → list_all is_path outs ≡ true → All (Contains outs) paths
    → list_all is_path paths ≡ true
defaults_paths outs [] h k = refl
defaults_paths outs (path ∷ paths) h k =
    and_from (is_path path) (list_all is_path paths) (contained_passes is_path outs path h (k 0 path (omega arith)))
    (defaults_paths outs paths h (λ i d inside. k (suc i) d (omega arith)))

head_skipped : form_of head_line ≡ skipped
unfolding head_line
head_skipped = refl

-- a book of which nothing is refused, and the file of it
file_read : (f : NinjaFile) (book : Book) → IsWellFormed f → rules_of book ≡ f.rules
    → map (λ s. s.1) (statements_of book) ≡ f.statements → map (λ d. d.1) book.defaults ≡ f.defaults
    → unless_refused (refused_line book None) (book_file book) ≡ Ok f
file_read f book good rs ss ds =
    let outs : outs_of_book book ≡ outs_of f =
    sym (flat_map-map (λ s. s.outs) (λ t. t.1) (statements_of book)) ∙ ap (flat_map (λ s. s.outs)) ss in
    let none : repeated_out [] (statements_of book) ≡ None =
    repeated_none [] (statements_of book) (subst AllDiffer (sym outs) good.outs_differ) in
    let listed : list_all (has_text (outs_of_book book)) (map (λ d. d.1) book.defaults) ≡ true =
    ap (λ os. list_all (has_text os) (map (λ d. d.1) book.defaults)) outs
    ∙ ap (list_all (has_text (outs_of f))) ds
    ∙ all_have (outs_of f) f.defaults good.defaults in
    let file : book_file book ≡ f =
    ap (λ x.
    record { rules = x; statements = map (λ s. s.1) (statements_of book); defaults = map (λ d. d.1) book.defaults }) rs
    ∙ ap (λ x. record { rules = f.rules; statements = x; defaults = map (λ d. d.1) book.defaults }) ss
    ∙ ap (λ x. record { rules = f.rules; statements = f.statements; defaults = x }) ds in
    ap (λ o. unless_refused (or_line o (stray (outs_of_book book) book.defaults)) (book_file book)) none
    ∙ ap (λ o. unless_refused o (book_file book)) (stray_none (outs_of_book book) book.defaults listed)
    ∙ ap Ok file

pub read_back : LinesAreLines → (f : NinjaFile) → IsWellFormed f → IsUtf8 (text_of f) → reading (text_of f) ≡ Ok f
read_back are_lines f good utf8 =
    let behind : List (List ℕ) = flat_map statement_lines f.statements ++ default_lines f.defaults in
    let lines_are : joined_lines (text_of f) ≡ plain 1 (lines_of f) =
    ap (joined_from 1) (lines_joined (lines_of f) (are_lines f good).1)
    ∙ joined_plain 1 (lines_of f) (utf8_lines (lines_of f) utf8) (whole_lines f good) in
    let begun = step 1 no_book no_book head_line (flat_map rule_lines f.rules ++ behind) (ap (with_form 1
    (binds_command (plain 2 (flat_map rule_lines f.rules ++ behind))) no_book head_line) head_skipped) in
    let rules = rules_read 2 no_book f.rules behind good.rules good.rules_differ in
    let names : names_of_rules rules.to ≡ rule_names f = ap (map (λ r. r.name)) rules.has_rules in
    let statements = statements_read rules.number rules.to f.statements (default_lines f.defaults)
    (subst (λ ns. list_all is_name ns ≡ true) (sym names) (names_are_names f.rules good.rules))
    (subst (λ ns. All (IsStatement ns) f.statements) (sym names) good.statements) in
    let ended = defaults_end statements.number statements.to f.defaults
    (defaults_paths (outs_of f) f.defaults (outs_paths (rule_names f) f.statements good.statements) good.defaults) in
    let all : read_lines no_book (plain 1 (lines_of f)) ≡ (ended.to, None) =
    begun ∙ rules.same ∙ statements.same ∙ ended.same in
    let rs : rules_of ended.to ≡ f.rules =
    ended.has_rules ∙ statements.has_rules ∙ append-nil (rules_of rules.to) ∙ rules.has_rules in
    let ss : map (λ s. s.1) (statements_of ended.to) ≡ f.statements =
    ap (map (λ s. s.1)) ended.has_statements
    ∙ statements.has_statements
    ∙ ap (λ x. x ++ f.statements) rules.has_statements in
    let ds : map (λ d. d.1) ended.to.defaults ≡ f.defaults =
    ended.has_defaults ∙ ap (λ x. map (λ d. d.1) x ++ f.defaults) (statements.has_defaults ∙ rules.has_defaults) in
    ap (λ l. answer (read_lines no_book l)) lines_are ∙ ap answer all ∙ file_read f ended.to good rs ss ds
