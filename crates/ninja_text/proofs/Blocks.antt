-- Written lines, one after another, make the book of their file.
use Rattle.std.proofs.Common.{◌≡◌, ◌≢◌, ℕ, ◌+◌, Bool, true, false, cond, not, ◌&&◌, ◌||◌, List, [], ◌∷◌, ◌++◌, map}
use Rattle.std.proofs.Common.{Option, Some, None, option_map, option_and_then, codes, append_assoc, append-nil, ap, sym}
use Rattle.std.proofs.Common.{subst, ◌∙◌, refl}
use Rattle.std.specs.List.{list_all, list_any}
use Rattle.std.specs.Map.{keys_of, values_of}
use Rattle.std.specs.Str.{bytes_eq}
use Rattle.std.proofs.lemmas.List.{map-append}
use Rattle.std.proofs.lemmas.Slice.Eq.{bytes_eq-Decides}
use Rattle.ninja_read.specs.declared.book.Open.{Open}
use Rattle.ninja_read.specs.declared.book.Open.TheVariants.{Rule, Build}
use Rattle.ninja_file.specs.declared.file.Piece.{Piece}
use Rattle.ninja_file.specs.declared.file.NinjaRule.{NinjaRule}
use Rattle.ninja_file.specs.declared.file.Statement.{Statement}
use Rattle.ninja_write.specs.Escaped.{value_text}
use Rattle.ninja_write.specs.Meaning.{pieces_text, line_of_binding, binding_line, variable_line, rule_line, rule_lines}
use Rattle.ninja_read.specs.Values.{pieces_of, value_of}
use Rattle.ninja_read.specs.Heads.{form_of, binding_of, rule_name_of, rule_name_of_words}
use Rattle.ninja_read.specs.Book.{Book, bare_rule, bound_rule, bound_statement, has_text, names_of_rules}
use Rattle.ninja_read.specs.Book.{book_with_open, bind, with_last, with_rule, with_binding}
use Rattle.ninja_read.specs.Meaning.{with_form, is_command, binds_command, binds_command_by, or_stop, read_lines}
use Rattle.ninja_file.specs.Meaning.{AllDiffer, is_rule_value, IsRule}
use Rattle.ninja_file.specs.Names.{is_name, is_value, is_rule_key}
use Rattle.std.proofs.lemmas.Bool.{and_parts}
use Rattle.ninja_text.proofs.Lines.{plain}
use Rattle.ninja_text.proofs.Values.{pieces_read_back, value_read_back}
use Rattle.ninja_text.proofs.Words.{word_alone}
use Rattle.ninja_text.proofs.Bindings.{binding_form, binding_found, pieces_first, value_first, rule_key_name, fresh}
use Rattle.ninja_text.proofs.Bindings.{has_at}

-- one line read
pub step : (n : ℕ) (book new : Book) (line : List ℕ) (more : List (List ℕ))
    → with_form n (binds_command (plain (n + 1) more)) book line (form_of line) ≡ Some new
    → read_lines book (plain n (line ∷ more)) ≡ read_lines new (plain (n + 1) more)
step n book new line more h = ap (λ o. or_stop o n book (λ b. read_lines b (plain (n + 1) more))) h

-- lines read up to the others
pub record Reads (from : Book) (n : ℕ) (lines : List (List ℕ)) (to : Book) (rest : List (List ℕ)) : Type 0 where
  pub number : ℕ
  pub same : read_lines from (plain n lines) ≡ read_lines to (plain number rest)

-- a new key is bound
rule_binds : (key written : List ℕ) (rule : NinjaRule) (pieces : List Piece) → is_rule_key key ≡ true
    → has_text (keys_of rule.bindings) key ≡ false → pieces_of written ≡ Some pieces
    → bind (key, written) (Rule rule) ≡ Some (bound_rule rule key pieces)
rule_binds key written rule pieces known fresh value =
    let F : List Piece → Open = λ ps. bound_rule rule key ps in
    ap (λ b. cond (b && not (has_text (keys_of rule.bindings) key)) (option_map F (pieces_of written)) None) known
    ∙ ap (λ b. cond (not b) (option_map F (pieces_of written)) None) fresh
    ∙ ap (option_map F) value

statement_binds : (key written : List ℕ) (number : ℕ) (s : Statement) (value : List ℕ)
    → has_text (keys_of s.vars) key ≡ false → value_of written ≡ Some value
    → bind (key, written) (Build number s) ≡ Some (bound_statement number s key value)
statement_binds key written number s value fresh meant =
    let F : List ℕ → Open = λ v. bound_statement number s key v in
    ap (λ b. cond (not b) (option_map F (value_of written)) None) fresh ∙ ap (option_map F) meant

binding_step : (n : ℕ) (c : Bool) (book : Book) (key value read : List ℕ) (old new : Open) → is_name key ≡ true
    → binding_of (line_of_binding key value) ≡ Some (key, read) → bind (key, read) old ≡ Some new → with_form n c
    (with_last book old) (line_of_binding key value) (form_of (line_of_binding key value)) ≡ Some (with_last book new)
binding_step n c book key value read old new name found h =
    ap (with_form n c (with_last book old) (line_of_binding key value)) (binding_form key value name)
    ∙ ap (option_and_then (with_binding (with_last book old))) found
    ∙ ap (option_map (λ l. with_last book l)) h

split_keys : {X : Type 0} (done todo : List (List ℕ × X)) (b : List ℕ × X)
    → keys_of (done ++ b ∷ todo) ≡ keys_of done ++ b.0 ∷ keys_of todo
split_keys done todo b = map-append (λ e. e.0) done (b ∷ todo)

bindings_read : (n : ℕ) (book : Book) (name : List ℕ) (done todo : List (List ℕ × List Piece)) (rest : List (List ℕ))
    → list_all is_rule_key (keys_of todo) ≡ true → list_all is_rule_value (values_of todo) ≡ true
    → AllDiffer (keys_of (done ++ todo)) → Reads (with_last book (Rule (record { name = name; bindings = done }))) n
    (map binding_line todo ++ rest) (with_last book (Rule (record { name = name; bindings = done ++ todo }))) rest
bindings_read n book name done [] rest keys values differ = record {
  number = n;
  same =
      ap (λ bs. read_lines (with_last book (Rule (record { name = name; bindings = bs }))) (plain n rest))
      (sym (append-nil done));
}
bindings_read n book name done (b ∷ todo) rest keys values differ =
    let key : is_rule_key b.0 ≡ true = (and_parts (is_rule_key b.0) (list_all is_rule_key (keys_of todo)) keys).0 in
    let value : is_rule_value b.1 ≡ true =
    (and_parts (is_rule_value b.1) (list_all is_rule_value (values_of todo)) values).0 in
    let rule : NinjaRule = record { name = name; bindings = done } in
    let new : NinjaRule = record { name = name; bindings = done ++ b ∷ [] } in
    let found : binding_of (line_of_binding b.0 (pieces_text b.1)) ≡ Some (b.0, pieces_text b.1) =
    binding_found b.0 (pieces_text b.1) (rule_key_name b.0 key) ∙ ap (λ v. Some (b.0, v)) (pieces_first b.1 value) in
    let is_new : has_text (keys_of done) b.0 ≡ false =
    fresh (keys_of done) (keys_of todo) b.0 (subst AllDiffer (split_keys done todo b) differ) in
    let taken = binding_step n (binds_command (plain (n + 1) (map binding_line todo ++ rest))) book b.0
    (pieces_text b.1) (pieces_text b.1) (Rule rule) (Rule new) (rule_key_name b.0 key) found
    (rule_binds b.0 (pieces_text b.1) rule b.1 key is_new (pieces_read_back b.1 value)) in
    let one = step n (with_last book (Rule rule)) (with_last book (Rule new)) (binding_line b)
    (map binding_line todo ++ rest) taken in
    let more = bindings_read (n + 1) book name (done ++ b ∷ []) todo rest
    ((and_parts (is_rule_key b.0) (list_all is_rule_key (keys_of todo)) keys).1)
    ((and_parts (is_rule_value b.1) (list_all is_rule_value (values_of todo)) values).1)
    (subst (λ bs. AllDiffer (keys_of bs)) (sym (append_assoc done (b ∷ []) todo)) differ) in
    record {
      number = more.number;
      same =
          one
          ∙ more.same
          ∙ ap (λ bs. read_lines (with_last book (Rule (record { name = name; bindings = bs })))
          (plain more.number rest)) (append_assoc done (b ∷ []) todo);
    }

abbrev pub with_vars : Statement → List (List ℕ × List ℕ) → Statement
with_vars s vars = record {
  outs = s.outs;
  rule = s.rule;
  ins = s.ins;
  implicit = s.implicit;
  order_only = s.order_only;
  vars = vars;
}

pub variables_read : (n number : ℕ) (book : Book) (s : Statement) (done todo : List (List ℕ × List ℕ))
    (rest : List (List ℕ)) → list_all is_name (keys_of todo) ≡ true → list_all is_value (values_of todo) ≡ true
    → AllDiffer (keys_of (done ++ todo)) → Reads (with_last book (Build number (with_vars s done))) n
    (map variable_line todo ++ rest) (with_last book (Build number (with_vars s (done ++ todo)))) rest
variables_read n number book s done [] rest keys values differ = record {
  number = n;
  same = ap (λ bs. read_lines (with_last book (Build number (with_vars s bs))) (plain n rest)) (sym (append-nil done));
}
variables_read n number book s done (b ∷ todo) rest keys values differ =
    let key : is_name b.0 ≡ true = (and_parts (is_name b.0) (list_all is_name (keys_of todo)) keys).0 in
    let value : is_value b.1 ≡ true = (and_parts (is_value b.1) (list_all is_value (values_of todo)) values).0 in
    let found : binding_of (line_of_binding b.0 (value_text b.1)) ≡ Some (b.0, value_text b.1) =
    binding_found b.0 (value_text b.1) key ∙ ap (λ v. Some (b.0, v)) (value_first b.1) in
    let is_new : has_text (keys_of done) b.0 ≡ false =
    fresh (keys_of done) (keys_of todo) b.0 (subst AllDiffer (split_keys done todo b) differ) in
    let taken = binding_step n (binds_command (plain (n + 1) (map variable_line todo ++ rest))) book b.0
    (value_text b.1) (value_text b.1) (Build number (with_vars s done)) (Build number (with_vars s (done ++ b ∷ [])))
    key found (statement_binds b.0 (value_text b.1) number (with_vars s done) b.1 is_new (value_read_back b.1 value)) in
    let one = step n (with_last book (Build number (with_vars s done))) (with_last book
    (Build number (with_vars s (done ++ b ∷ [])))) (variable_line b) (map variable_line todo ++ rest) taken in
    let more = variables_read (n + 1) number book s (done ++ b ∷ []) todo rest
    ((and_parts (is_name b.0) (list_all is_name (keys_of todo)) keys).1)
    ((and_parts (is_value b.1) (list_all is_value (values_of todo)) values).1)
    (subst (λ bs. AllDiffer (keys_of bs)) (sym (append_assoc done (b ∷ []) todo)) differ) in
    record {
      number = more.number;
      same =
          one
          ∙ more.same
          ∙ ap (λ bs. read_lines (with_last book (Build number (with_vars s bs))) (plain more.number rest))
          (append_assoc done (b ∷ []) todo);
    }

-- `command` is bound
command_by : (b : List ℕ × List Piece) (behind e : Bool) → bytes_eq b.0 (codes "command") ≡ e → (e || behind) ≡ true
    → is_rule_key b.0 ≡ true → is_rule_value b.1 ≡ true
    → binds_command_by (form_of (binding_line b)) (binding_line b) behind ≡ true
command_by b behind e is h key value =
    ap (λ f. binds_command_by f (binding_line b) behind) (binding_form b.0 (pieces_text b.1) (rule_key_name b.0 key))
    ∙ ap (λ o. is_command o || behind) (binding_found b.0 (pieces_text b.1) (rule_key_name b.0 key))
    ∙ ap (λ x. x || behind) is ∙ h

or_more : (a b c : Bool) → (a || b) ≡ true → (b ≡ true → c ≡ true) → (a || c) ≡ true
or_more true b c h more = refl
or_more false b c h more = more h

command_bound : (n : ℕ) (todo : List (List ℕ × List Piece)) (rest : List (List ℕ))
    → list_all is_rule_key (keys_of todo) ≡ true → list_all is_rule_value (values_of todo) ≡ true
    → list_any (λ k. bytes_eq k (codes "command")) (keys_of todo) ≡ true
    → binds_command (plain n (map binding_line todo ++ rest)) ≡ true
command_bound n [] rest keys values h = absurd (cc)
command_bound n (b ∷ todo) rest keys values h =
    command_by b (binds_command (plain (n + 1) (map binding_line todo ++ rest))) (bytes_eq b.0 (codes "command")) refl
    (or_more (bytes_eq b.0 (codes "command")) (list_any (λ k. bytes_eq k (codes "command")) (keys_of todo))
    (binds_command (plain (n + 1) (map binding_line todo ++ rest))) h
    (λ k. command_bound (n + 1) todo rest ((and_parts (is_rule_key b.0) (list_all is_rule_key (keys_of todo)) keys).1)
    ((and_parts (is_rule_value b.1) (list_all is_rule_value (values_of todo)) values).1) k))
    ((and_parts (is_rule_key b.0) (list_all is_rule_key (keys_of todo)) keys).0)
    ((and_parts (is_rule_value b.1) (list_all is_rule_value (values_of todo)) values).0)

other_text : (x y : List ℕ) (e : Bool) → bytes_eq x y ≡ e → (x ≡ y → ⊥) → e ≡ false
other_text x y true is h = absurd (h ((bytes_eq-Decides x y).0 is))
other_text x y false is h = refl

name_read : (name : List ℕ) → is_name name ≡ true → name ≢ codes "phony" → rule_name_of name ≡ Some name
name_read name h other =
    ap rule_name_of_words (word_alone name h)
    ∙ ap (λ e. cond e (cond (bytes_eq name (codes "phony")) None (Some name)) None) h
    ∙ ap (λ e. cond {A = Option (List ℕ)} e None (Some name))
    (other_text name (codes "phony") (bytes_eq name (codes "phony")) refl other)

pub same_texts : (y x : List ℕ) → y ≡ x → bytes_eq y x ≡ true
same_texts y x h = (bytes_eq-Decides y x).1 h

rule_begins : (has_command : Bool) (book : Book) (name : List ℕ) → has_command ≡ true
    → has_text (names_of_rules book) name ≡ false
    → with_rule has_command book name ≡ Some (book_with_open (bare_rule name) book)
rule_begins has_command book name command fresh =
    let new : Option Book = Some (book_with_open (bare_rule name) book) in
    ap (λ b. cond (b && not (has_text (names_of_rules book) name)) new None) command
    ∙ ap (λ b. cond (not b) new None) fresh

pub rule_read : (n : ℕ) (book : Book) (rule : NinjaRule) (rest : List (List ℕ)) → IsRule rule
    → has_text (names_of_rules book) rule.name ≡ false
    → Reads book n (rule_lines rule ++ rest) (book_with_open (Rule rule) book) rest
rule_read n book rule rest good is_new =
    let begun : Book = book_with_open (Rule (record { name = rule.name; bindings = [] })) book in
    let command : binds_command (plain (n + 1) (map binding_line rule.bindings ++ rest)) ≡ true =
    command_bound (n + 1) rule.bindings rest good.keys good.values (has_at bytes_eq same_texts (keys_of rule.bindings)
    (codes "command") good.command.0 good.command.1 good.command.2) in
    let taken : with_form n (binds_command (plain (n + 1) (map binding_line rule.bindings ++ rest))) book
    (rule_line rule) (form_of (rule_line rule)) ≡ Some begun =
    ap (option_and_then (with_rule (binds_command (plain (n + 1) (map binding_line rule.bindings ++ rest))) book))
    (name_read rule.name good.name good.not_phony)
    ∙ rule_begins (binds_command (plain (n + 1) (map binding_line rule.bindings ++ rest))) book rule.name command
    is_new in
    let one = step n book begun (rule_line rule) (map binding_line rule.bindings ++ rest) taken in
    let more = bindings_read (n + 1)
    (book_with_open (Rule rule) book) rule.name [] rule.bindings rest good.keys good.values good.keys_differ in
    record { number = more.number; same = one ∙ more.same }
