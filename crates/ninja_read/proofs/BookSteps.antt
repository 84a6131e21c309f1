-- What a line makes of the book.
use Rattle.std.proofs.Common.{◌≡◌, ℕ, Bool, true, false, cond, not, ◌&&◌, ◌||◌, List, [], ◌∷◌, ◌++◌, map, Option, Some}
use Rattle.std.proofs.Common.{None, option_map, option_and_then, codes, append-nil, ap, sym, subst, ◌∙◌, refl}
use Rattle.std.proofs.lemmas.List.{map-append}
use Rattle.std.proofs.lemmas.List.Folds.{list_any-append}
use Rattle.std.proofs.lemmas.Option.{same_Some}
use Rattle.std.proofs.lemmas.Cmp.{nat_list_eq_equiv}
use Rattle.std.specs.List.{list_any}
use Rattle.std.specs.Map.{keys_of}
use Rattle.std.specs.Str.{bytes_eq}
use Rattle.bp_names.specs.Meaning.{knows, Learns, IsSetOf}
use Rattle.ninja_read.specs.Inside.{shown_book, open_keys, IsLearnt, Takes, Binds}
use Rattle.ninja_read.specs.Book.{Book, has_text, bind, names_of_rules, open_rule, rules_of, book_with_open, with_rule}
use Rattle.ninja_read.specs.Book.{with_statement, with_binding}
use Rattle.ninja_read.specs.Heads.{binding_of}
use Rattle.ninja_read.specs.Values.{pieces_of, value_of}
use Rattle.ninja_file.specs.Names.{is_rule_key}
use Rattle.ninja_read.specs.declared.book.Book as code
use Rattle.ninja_read.specs.declared.book.Open.{Open}
use Rattle.ninja_read.specs.declared.book.Open.TheVariants.{Nothing, Rule, Build}
use Rattle.ninja_file.specs.declared.file.Piece.{Piece}
use Rattle.ninja_file.specs.declared.file.NinjaRule.{NinjaRule}
use Rattle.ninja_file.specs.declared.file.Statement.{Statement}

one_or : (a b : Bool) → cond b true a ≡ (a || (b || false))
one_or true true = refl
one_or true false = refl
one_or false true = refl
one_or false false = refl

-- one more text in a set
pub set_more : (texts s n : List (List ℕ)) (x : List ℕ) → IsSetOf texts s → Learns s x n → IsSetOf (texts ++ x ∷ []) n
set_more texts s n x set updates = λ q.
    updates q
    ∙ ap (λ b. cond b true (knows s q)) (nat_list_eq_equiv.symm x q)
    ∙ ap (cond (bytes_eq q x) true) (set q)
    ∙ one_or (list_any (bytes_eq q) texts) (bytes_eq q x)
    ∙ sym (list_any-append (bytes_eq q) texts (x ∷ []))

pub rule_bound : (key written : List ℕ) (rule new : NinjaRule) (pieces : List Piece) → is_rule_key key ≡ true
    → has_text (keys_of rule.bindings) key ≡ false → Some pieces ≡ pieces_of written
    → new ≡ record { name = rule.name; bindings = rule.bindings ++ (key, pieces) ∷ [] }
    → bind (key, written) (Rule rule) ≡ Some (Rule new)
rule_bound key written rule new pieces known fresh value is =
    let F : List Piece → Open = λ ps. Rule (record { name = rule.name; bindings = rule.bindings ++ (key, ps) ∷ [] }) in
    ap (λ b. cond (b && not (has_text (keys_of rule.bindings) key)) (option_map F (pieces_of written)) None) known
    ∙ ap (λ b. cond (not b) (option_map F (pieces_of written)) None) fresh
    ∙ ap (option_map F) (sym value) ∙ ap (λ r. Some (Rule r)) (sym is)

pub statement_bound : (key written : List ℕ) (number : ℕ) (s new : Statement) (value : List ℕ)
    → has_text (keys_of s.vars) key ≡ false → Some value ≡ value_of written → new ≡ record {
      outs = s.outs;
      rule = s.rule;
      ins = s.ins;
      implicit = s.implicit;
      order_only = s.order_only;
      vars = s.vars ++ (key, value) ∷ [];
    } → bind (key, written) (Build number s) ≡ Some (Build number new)
statement_bound key written number s new value fresh meant is =
    let F : List ℕ → Open = λ v. Build number (record {
      outs = s.outs;
      rule = s.rule;
      ins = s.ins;
      implicit = s.implicit;
      order_only = s.order_only;
      vars = s.vars ++ (key, v) ∷ [];
    }) in
    ap (λ b. cond (not b) (option_map F (value_of written)) None) fresh
    ∙ ap (option_map F) (sym meant) ∙ ap (λ r. Some (Build number r)) (sym is)

-- the keys with one more
pub keys_more : {X : Type 0} (pairs new : List (List ℕ × X)) (x : X) (key : List ℕ) (s n : List (List ℕ))
    → new ≡ pairs ++ (key, x) ∷ [] → IsSetOf (keys_of pairs) s → Learns s key n → IsSetOf (keys_of new) n
keys_more pairs new x key s n is set updates =
    subst (λ ks. IsSetOf ks n) (sym (ap keys_of is ∙ map-append (λ e. e.0) pairs ((key, x) ∷ [])))
    (set_more (keys_of pairs) s n key set updates)

-- a new rule or statement is learnt
pub learnt_new : (new : code.Book) (old : Book) (last : Open) → shown_book new ≡ book_with_open last old
    → open_keys last ≡ [] → IsSetOf (names_of_rules (book_with_open last old)) new.names → IsSetOf [] new.keys
    → IsLearnt new
learnt_new new old last shown none names keys = record {
  names = subst (λ b. IsSetOf (names_of_rules b) new.names) (sym shown) names;
  keys = subst (λ ks. IsSetOf ks new.keys) (sym (ap (λ b. open_keys b.last) shown ∙ none)) keys;
}

pub rule_taken : (has_command : Bool) (name : List ℕ) (old : Book) → has_command ≡ true
    → has_text (names_of_rules old) name ≡ false
    → with_rule has_command old name ≡ Some (book_with_open (Rule (record { name = name; bindings = [] })) old)
rule_taken has_command name old command fresh =
    let new : Option Book = Some (book_with_open (Rule (record { name = name; bindings = [] })) old) in
    ap (λ b. cond (b && not (has_text (names_of_rules old) name)) new None) command
    ∙ ap (λ b. cond (not b) new None) fresh

pub names_with_rule : (old : Book) (rule : NinjaRule)
    → names_of_rules old ++ rule.name ∷ [] ≡ names_of_rules (book_with_open (Rule rule) old)
names_with_rule old rule = sym (map-append (λ r. r.name) (rules_of old) (rule ∷ []))

pub names_with_statement : (old : Book) (number : ℕ) (s : Statement)
    → names_of_rules old ≡ names_of_rules (book_with_open (Build number s) old)
names_with_statement old number s = ap (λ rs. map (λ r. r.name) rs) (sym (append-nil (rules_of old)))

some_of_cond : {A : Type 0} (b : Bool) (o : Option A) (y : A) → cond b o None ≡ Some y → o ≡ Some y
some_of_cond true o y h = h
some_of_cond false o y h = absurd (cc)

some_of_map : {A B : Type 0} (f : A → B) (o : Option A) (y : B) → option_map f o ≡ Some y → (x : A) × (f x ≡ y)
some_of_map f None y h = absurd (cc)
some_of_map f (Some x) y h = (x, same_Some (f x) y h)

-- a binding leaves the name of the rule
last_name : (binding : List ℕ × List ℕ) (old new : Open) → bind binding old ≡ Some new
    → map (λ r. r.name) (open_rule new) ≡ map (λ r. r.name) (open_rule old)
last_name binding Nothing new h = absurd (cc)
last_name binding (Rule rule) new h =
    let found = some_of_map (λ ps. Rule (record { name = rule.name; bindings = rule.bindings ++ (binding.0, ps) ∷ [] }))
    (pieces_of binding.1) new
    (some_of_cond (is_rule_key binding.0 && not (has_text (keys_of rule.bindings) binding.0)) _ new h) in
    ap (λ o. map (λ r. r.name) (open_rule o)) (sym found.1)
last_name binding (Build number s) new h =
    let found = some_of_map (λ v. Build number (record {
      outs = s.outs;
      rule = s.rule;
      ins = s.ins;
      implicit = s.implicit;
      order_only = s.order_only;
      vars = s.vars ++ (binding.0, v) ∷ [];
    })) (value_of binding.1) new (some_of_cond (not (has_text (keys_of s.vars) binding.0)) _ new h) in
    ap (λ o. map (λ r. r.name) (open_rule o)) (sym found.1)

same_names : (new old : code.Book) → new.rules.items ≡ old.rules.items
    → map (λ r. r.name) (open_rule new.last) ≡ map (λ r. r.name) (open_rule old.last)
    → names_of_rules (shown_book new) ≡ names_of_rules (shown_book old)
same_names new old rs last =
    map-append (λ r. r.name) new.rules.items (open_rule new.last)
    ∙ ap (λ x. map (λ r. r.name) new.rules.items ++ x) last
    ∙ ap (λ x. map (λ r. r.name) x ++ map (λ r. r.name) (open_rule old.last)) rs
    ∙ sym (map-append (λ r. r.name) old.rules.items (open_rule old.last))

pub binding_taken : (taken : Bool) (new old : code.Book) (binding : List ℕ × List ℕ) (text : List ℕ)
    → Some binding ≡ binding_of text → Binds taken new.last new.keys (bind binding old.last) old.last → IsLearnt old
    → new.rules.items ≡ old.rules.items → new.statements.items ≡ old.statements.items
    → new.defaults.items ≡ old.defaults.items → new.names ≡ old.names
    → Takes taken new (option_and_then (with_binding (shown_book old)) (binding_of text)) (shown_book old)
binding_taken true new old binding text found binds learnt rs ss ds ns =
    let F : Open → Book = λ l.
    record { rules = old.rules.items; statements = old.statements.items; defaults = old.defaults.items; last = l } in
    let same : F new.last ≡ shown_book new = cc in (
      ap (option_and_then (with_binding (shown_book old))) (sym found) ∙ ap (option_map F) binds.0 ∙ ap Some same,
      record {
        names =
            subst (λ n. IsSetOf (names_of_rules (shown_book new)) n) (sym ns) (subst (λ ts. IsSetOf ts old.names)
            (sym (same_names new old rs (last_name binding old.last new.last binds.0))) learnt.names);
        keys = binds.1;
      },
    )
binding_taken false new old binding text found binds learnt rs ss ds ns =
    let F : Open → Book = λ l.
    record { rules = old.rules.items; statements = old.statements.items; defaults = old.defaults.items; last = l } in
    let last : new.last ≡ old.last = binds.1 in
    let same : shown_book new ≡ shown_book old = cc in
    (ap (option_and_then (with_binding (shown_book old))) (sym found) ∙ ap (option_map F) binds.0, same)

pub statement_taken : (number : ℕ) (old : Book) (s : Statement)
    → (bytes_eq s.rule (codes "phony") || has_text (names_of_rules old) s.rule) ≡ true
    → with_statement number old s ≡ Some (book_with_open (Build number s) old)
statement_taken number old s known = ap (λ b. cond b (Some (book_with_open (Build number s) old)) None) known
