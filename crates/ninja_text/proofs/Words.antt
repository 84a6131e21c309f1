-- The words of written lines.
use Rattle.std.proofs.Common.{◌≡◌, ℕ, Bool, true, false, cond, not, List, [], ◌∷◌, ◌++◌, eqb, length, map, filter}
use Rattle.std.proofs.Common.{Option, Some, option_map, option_and_then, codes, append_assoc, append-nil, ap, sym}
use Rattle.std.proofs.Common.{subst, ◌∙◌, refl, arith}
use Rattle.std.specs.List.{list_all}
use Rattle.std.specs.Str.{bytes_eq}
use Rattle.std.proofs.lemmas.Bool.Decides.{nat_tests}
use Rattle.ninja_lines.specs.Cuts.{parts_between, words}
use Rattle.ninja_file.specs.declared.escape.Escape.TheVariants.{Path}
use Rattle.ninja_file.specs.declared.file.Statement.{Statement}
use Rattle.ninja_file.specs.Escapes.{is_escaped}
use Rattle.ninja_write.specs.Escaped.{escaped_byte, path_text}
use Rattle.ninja_write.specs.Meaning.{spaced_paths, paths_behind, ins_text}
use Rattle.ninja_read.specs.Heads.{paths_of, some_paths, before_mark, behind_mark, marked_paths, bar, bars}
use Rattle.ninja_read.specs.Heads.{statement_of, statement_of_words, statement_of_parts, build_statement, defaults_of}
use Rattle.ninja_read.specs.Heads.{defaults_of_parts}
use Rattle.ninja_file.specs.Names.{is_nil, is_name, is_name_byte, is_value, is_path}
use Rattle.std.proofs.lemmas.Bool.{and_parts}
use Rattle.ninja_text.proofs.Bytes.{Passes, onto_text, onto_text-cons, passes_beside, plain_byte, passes_test}
use Rattle.ninja_text.proofs.Bytes.{path_passes}
use Rattle.ninja_text.proofs.Values.{paths_read_back}

abbrev is_word : List ℕ → Bool
is_word part = not (eqb (length part) 0)

-- a word ends here
pub record Ends (rest : List ℕ) : Type 0 where
  pub parts : List (List ℕ)
  pub is : parts_between 32 false rest ≡ [] ∷ parts

pub ends_nil : Ends []
ends_nil = record { parts = []; is = refl }

pub ends_space : (rest : List ℕ) → Ends (32 ∷ rest)
ends_space rest = record { parts = parts_between 32 false rest; is = refl }

word_then : (word rest : List ℕ) → Passes 32 word → is_word word ≡ true → Ends rest
    → words (word ++ rest) ≡ word ∷ words rest
word_then word rest passes some ends =
    ap (filter is_word) (passes rest ∙ ap (onto_text word) ends.is ∙ onto_text-cons word [] ends.parts
    ∙ ap (λ w. w ∷ ends.parts) (append-nil word))
    ∙ ap (λ e. cond e (word ∷ filter is_word ends.parts) (filter is_word ends.parts)) some
    ∙ ap (λ ps. word ∷ ps) (sym (ap (filter is_word) ends.is))

byte_some : (b : ℕ) (rest : List ℕ) (e : Bool) → is_escaped Path b ≡ e → is_word (escaped_byte Path b ++ rest) ≡ true
byte_some b rest true e = rw e (let n = length rest in grind (arith, nat_tests))
byte_some b rest false e = rw e (let n = length rest in grind (arith, nat_tests))

path_some : (path : List ℕ) → is_path path ≡ true → is_word (path_text path) ≡ true
path_some [] h = absurd (cc)
path_some (b ∷ path) h = byte_some b (path_text path) (is_escaped Path b) refl

name_some : (name : List ℕ) → is_name name ≡ true → is_word name ≡ true
name_some name h = (and_parts (not (is_nil name)) (list_all is_name_byte name) h).0

-- a name alone
pub word_alone : (name : List ℕ) → is_name name ≡ true → words name ≡ name ∷ []
word_alone name h =
    ap words (sym (append-nil name))
    ∙ word_then name [] (passes_test 32 is_name_byte refl refl name
    ((and_parts (not (is_nil name)) (list_all is_name_byte name) h).1)) (name_some name h) ends_nil

spaced_ends : (paths : List (List ℕ)) (rest : List ℕ) → Ends rest → Ends (spaced_paths paths ++ rest)
spaced_ends [] rest ends = ends
spaced_ends (path ∷ paths) rest ends = ends_space _

pub spaced_words : (paths : List (List ℕ)) (rest : List ℕ) → list_all is_path paths ≡ true → Ends rest
    → words (spaced_paths paths ++ rest) ≡ map path_text paths ++ words rest
spaced_words [] rest h ends = refl
spaced_words (path ∷ paths) rest h ends =
    ap words (ap (λ t. 32 ∷ t) (append_assoc (path_text path) (spaced_paths paths) rest))
    ∙ word_then (path_text path) (spaced_paths paths ++ rest) (path_passes 32 refl path)
    (path_some path ((and_parts (is_path path) (list_all is_path paths) h).0)) (spaced_ends paths rest ends)
    ∙ ap (λ ws. path_text path ∷ ws)
    (spaced_words paths rest ((and_parts (is_path path) (list_all is_path paths) h).1) ends)

pub path_words : (path : List ℕ) (paths : List (List ℕ)) (rest : List ℕ) → is_path path ≡ true
    → list_all is_path paths ≡ true → Ends rest
    → words (path_text path ++ (spaced_paths paths ++ rest)) ≡ path_text path ∷ (map path_text paths ++ words rest)
path_words path paths rest h k ends =
    word_then (path_text path) (spaced_paths paths ++ rest) (path_passes 32 refl path) (path_some path h)
    (spaced_ends paths rest ends)
    ∙ ap (λ ws. path_text path ∷ ws) (spaced_words paths rest k ends)

-- the words behind a mark, where there are any
abbrev mark_words : List ℕ → List (List ℕ) → List (List ℕ)
mark_words mark [] = []
mark_words mark (path ∷ paths) = mark ∷ map path_text (path ∷ paths)

marked_ends : (mark : List ℕ) (paths : List (List ℕ)) (rest : List ℕ) → Ends rest
    → Ends (paths_behind (32 ∷ mark) paths ++ rest)
marked_ends mark [] rest ends = ends
marked_ends mark (path ∷ paths) rest ends = ends_space _

mark_then : (mark : List ℕ) → Passes 32 mark → is_word mark ≡ true → (paths : List (List ℕ)) (rest : List ℕ)
    → list_all is_path paths ≡ true → Ends rest
    → words (paths_behind (32 ∷ mark) paths ++ rest) ≡ mark_words mark paths ++ words rest
mark_then mark passes some [] rest h ends = refl
mark_then mark passes some (path ∷ paths) rest h ends =
    ap words (ap (λ t. 32 ∷ t) (append_assoc mark (spaced_paths (path ∷ paths)) rest))
    ∙ word_then mark (spaced_paths (path ∷ paths) ++ rest) passes some (spaced_ends (path ∷ paths) rest ends)
    ∙ ap (λ ws. mark ∷ ws) (spaced_words (path ∷ paths) rest h ends)

-- the words behind the rule
abbrev takes_words : Statement → List (List ℕ)
takes_words s = map path_text s.ins ++ (mark_words bar s.implicit ++ mark_words bars s.order_only)

abbrev pub HasPaths : Statement → Type 0
HasPaths s =
    (list_all is_path s.ins ≡ true) × (list_all is_path s.implicit ≡ true) × (list_all is_path s.order_only ≡ true)

ins_ends : (s : Statement) → Ends (ins_text s)
ins_ends s =
    spaced_ends s.ins _ (marked_ends bar s.implicit _
    (subst Ends (append-nil (paths_behind (32 ∷ bars) s.order_only)) (marked_ends bars s.order_only [] ends_nil)))

ins_words : (s : Statement) → HasPaths s → words (ins_text s) ≡ takes_words s
ins_words s h =
    let last : words (paths_behind (32 ∷ bars) s.order_only) ≡ mark_words bars s.order_only =
    ap words (sym (append-nil (paths_behind (32 ∷ bars) s.order_only)))
    ∙ mark_then bars (λ rest. refl) refl s.order_only [] h.2 ends_nil
    ∙ append-nil (mark_words bars s.order_only) in
    let last_ends : Ends (paths_behind (32 ∷ bars) s.order_only) =
    subst Ends (append-nil (paths_behind (32 ∷ bars) s.order_only)) (marked_ends bars s.order_only [] ends_nil) in
    spaced_words s.ins (paths_behind (32 ∷ bar) s.implicit ++ paths_behind (32 ∷ bars) s.order_only) h.0
    (marked_ends bar s.implicit _ last_ends)
    ∙ ap (λ ws. map path_text s.ins ++ ws) (mark_then bar (λ rest. refl) refl s.implicit
    (paths_behind (32 ∷ bars) s.order_only) h.1 last_ends ∙ ap (λ ws. mark_words bar s.implicit ++ ws) last)

-- no path is a mark
no_mark_by : (b : ℕ) (rest mark : List ℕ) (e : Bool) → is_escaped Path b ≡ e → eqb b 124 ≡ false
    → bytes_eq (escaped_byte Path b ++ rest) (124 ∷ mark) ≡ false
no_mark_by b rest mark true e h = rw e refl
no_mark_by b rest mark false e h = rw (e, h) refl

not_true : (e : Bool) → not e ≡ true → e ≡ false
not_true true h = absurd (cc)
not_true false h = refl

no_mark : (path mark : List ℕ) → is_path path ≡ true → bytes_eq (path_text path) (124 ∷ mark) ≡ false
no_mark [] mark h = absurd (cc)
no_mark (b ∷ path) mark h =
    let no_bar = (and_parts (is_value (b ∷ path)) (list_all (λ c. not (eqb c 124)) (b ∷ path)) h).1 in
    no_mark_by b (path_text path) mark (is_escaped Path b) refl
    (not_true (eqb b 124) ((and_parts (not (eqb b 124)) (list_all (λ c. not (eqb c 124)) path) no_bar).0))

before_paths : (mark : List ℕ) (paths more : List (List ℕ)) → list_all is_path paths ≡ true
    → before_mark (124 ∷ mark) (map path_text paths ++ more) ≡ map path_text paths ++ before_mark (124 ∷ mark) more
before_paths mark [] more h = refl
before_paths mark (path ∷ paths) more h =
    ap (λ e. cond e [] (path_text path ∷ before_mark (124 ∷ mark) (map path_text paths ++ more)))
    (no_mark path mark ((and_parts (is_path path) (list_all is_path paths) h).0))
    ∙ ap (λ ws. path_text path ∷ ws)
    (before_paths mark paths more ((and_parts (is_path path) (list_all is_path paths) h).1))

behind_paths : (mark : List ℕ) (paths more : List (List ℕ)) → list_all is_path paths ≡ true
    → behind_mark (124 ∷ mark) (map path_text paths ++ more) ≡ behind_mark (124 ∷ mark) more
behind_paths mark [] more h = refl
behind_paths mark (path ∷ paths) more h =
    ap (λ e. cond e (Some (map path_text paths ++ more)) (behind_mark (124 ∷ mark) (map path_text paths ++ more)))
    (no_mark path mark ((and_parts (is_path path) (list_all is_path paths) h).0))
    ∙ behind_paths mark paths more ((and_parts (is_path path) (list_all is_path paths) h).1)

-- the words of one mark, seen for the other
before_bar_words : (paths more : List (List ℕ)) → list_all is_path paths ≡ true
    → before_mark bars (mark_words bar paths ++ more) ≡ mark_words bar paths ++ before_mark bars more
before_bar_words [] more h = refl
before_bar_words (path ∷ paths) more h = ap (λ ws. bar ∷ ws) (before_paths (124 ∷ []) (path ∷ paths) more h)

behind_bar_words : (paths more : List (List ℕ)) → list_all is_path paths ≡ true
    → behind_mark bars (mark_words bar paths ++ more) ≡ behind_mark bars more
behind_bar_words [] more h = refl
behind_bar_words (path ∷ paths) more h = behind_paths (124 ∷ []) (path ∷ paths) more h

before_own : (paths : List (List ℕ)) → before_mark bars (mark_words bars paths) ≡ []
before_own [] = refl
before_own (path ∷ paths) = refl

before_own_bar : (paths : List (List ℕ)) → before_mark bar (mark_words bar paths) ≡ []
before_own_bar [] = refl
before_own_bar (path ∷ paths) = refl

own_paths : (paths : List (List ℕ)) → list_all is_path paths ≡ true
    → marked_paths (behind_mark bars (mark_words bars paths)) ≡ Some paths
own_paths [] h = refl
own_paths (path ∷ paths) h = paths_read_back (path ∷ paths) h

own_paths_bar : (paths : List (List ℕ)) → list_all is_path paths ≡ true
    → marked_paths (behind_mark bar (mark_words bar paths)) ≡ Some paths
own_paths_bar [] h = refl
own_paths_bar (path ∷ paths) h = paths_read_back (path ∷ paths) h

abbrev parts_of : List ℕ → Option (List (List ℕ)) → Option (List (List ℕ)) → Option (List (List ℕ))
    → Option (List (List ℕ)) → Option Statement
parts_of rule o1 o2 o3 o4 =
    option_and_then (λ outs. option_and_then (λ ins. option_and_then (λ implicit. option_map (λ order_only.
    record { outs = outs; rule = rule; ins = ins; implicit = implicit; order_only = order_only; vars = [] }) o4) o3) o2)
    o1

pub statement_read : (s : Statement) (makes : List (List ℕ)) → HasPaths s → some_paths makes ≡ Some s.outs
    → statement_of makes s.rule (takes_words s) ≡ Some
    (record { outs = s.outs; rule = s.rule; ins = s.ins; implicit = s.implicit; order_only = s.order_only; vars = [] })
statement_read s makes h outs =
    let rest = mark_words bar s.implicit ++ mark_words bars s.order_only in
    let front : before_mark bars (takes_words s) ≡ map path_text s.ins ++ mark_words bar s.implicit =
    before_paths (124 ∷ []) s.ins rest h.0
    ∙ ap (λ ws. map path_text s.ins ++ ws) (before_bar_words s.implicit (mark_words bars s.order_only) h.1
    ∙ ap (λ ws. mark_words bar s.implicit ++ ws) (before_own s.order_only) ∙ append-nil (mark_words bar s.implicit)) in
    let last : marked_paths (behind_mark bars (takes_words s)) ≡ Some s.order_only =
    ap marked_paths
    (behind_paths (124 ∷ []) s.ins rest h.0 ∙ behind_bar_words s.implicit (mark_words bars s.order_only) h.1)
    ∙ own_paths s.order_only h.2 in
    let ins : paths_of (before_mark bar (before_mark bars (takes_words s))) ≡ Some s.ins =
    ap (λ ws. paths_of (before_mark bar ws)) front
    ∙ ap paths_of (before_paths [] s.ins (mark_words bar s.implicit) h.0
    ∙ ap (λ ws. map path_text s.ins ++ ws) (before_own_bar s.implicit) ∙ append-nil (map path_text s.ins))
    ∙ paths_read_back s.ins h.0 in
    let middle : marked_paths (behind_mark bar (before_mark bars (takes_words s))) ≡ Some s.implicit =
    ap (λ ws. marked_paths (behind_mark bar ws)) front
    ∙ ap marked_paths (behind_paths [] s.ins (mark_words bar s.implicit) h.0)
    ∙ own_paths_bar s.implicit h.1 in
    ap (λ o. parts_of s.rule o (paths_of (before_mark bar (before_mark bars (takes_words s)))) (marked_paths
    (behind_mark bar (before_mark bars (takes_words s)))) (marked_paths (behind_mark bars (takes_words s)))) outs
    ∙ ap (λ o. parts_of s.rule (Some s.outs) o (marked_paths (behind_mark bar (before_mark bars (takes_words s))))
    (marked_paths (behind_mark bars (takes_words s)))) ins
    ∙ ap (λ o. parts_of s.rule (Some s.outs) (Some s.ins) o (marked_paths (behind_mark bars (takes_words s)))) middle
    ∙ ap (parts_of s.rule (Some s.outs) (Some s.ins) (Some s.implicit)) last

-- nothing before the colon, or behind it, is a colon
spaced_passes : (paths : List (List ℕ)) → Passes 58 (spaced_paths paths)
spaced_passes [] = λ rest. refl
spaced_passes (path ∷ paths) =
    passes_beside 58 (32 ∷ path_text path) (spaced_paths paths) (passes_beside 58 (32 ∷ []) (path_text path)
    (plain_byte 58 32 refl refl) (path_passes 58 refl path)) (spaced_passes paths)

marked_passes : (mark : List ℕ) → Passes 58 mark → (paths : List (List ℕ)) → Passes 58 (paths_behind mark paths)
marked_passes mark h [] = λ rest. refl
marked_passes mark h (path ∷ paths) =
    passes_beside 58 mark (spaced_paths (path ∷ paths)) h (spaced_passes (path ∷ paths))

ins_passes : (s : Statement) → Passes 58 (ins_text s)
ins_passes s =
    passes_beside 58 (spaced_paths s.ins) _ (spaced_passes s.ins)
    (passes_beside 58 (paths_behind (32 ∷ bar) s.implicit) (paths_behind (32 ∷ bars) s.order_only)
    (marked_passes (32 ∷ bar) (λ rest. refl) s.implicit) (marked_passes (32 ∷ bars) (λ rest. refl) s.order_only))

one_part : (text : List ℕ) → Passes 58 text → parts_between 58 false text ≡ text ∷ []
one_part text h =
    ap (parts_between 58 false) (sym (append-nil text))
    ∙ h []
    ∙ onto_text-cons text [] []
    ∙ ap (λ t. t ∷ []) (append-nil text)

two_parts : (makes takes : List ℕ) → Passes 58 makes → Passes 58 takes
    → parts_between 58 false (makes ++ 58 ∷ takes) ≡ makes ∷ takes ∷ []
two_parts makes takes h k =
    h (58 ∷ takes)
    ∙ ap (λ ps. onto_text makes ([] ∷ ps)) (one_part takes k)
    ∙ onto_text-cons makes [] (takes ∷ [])
    ∙ ap (λ t. t ∷ takes ∷ []) (append-nil makes)

pub build_read : (s : Statement) (out : List ℕ) (outs : List (List ℕ)) → s.outs ≡ out ∷ outs
    → list_all is_path (out ∷ outs) ≡ true → is_name s.rule ≡ true → HasPaths s
    → build_statement (path_text out ++ (spaced_paths outs ++ (codes ": " ++ (s.rule ++ ins_text s)))) ≡ Some
    (record { outs = s.outs; rule = s.rule; ins = s.ins; implicit = s.implicit; order_only = s.order_only; vars = [] })
build_read s out outs is paths name h =
    let makes : List ℕ = path_text out ++ spaced_paths outs in
    let takes : List ℕ = 32 ∷ (s.rule ++ ins_text s) in
    let h0 : is_path out ≡ true = (and_parts (is_path out) (list_all is_path outs) paths).0 in
    let h1 : list_all is_path outs ≡ true = (and_parts (is_path out) (list_all is_path outs) paths).1 in
    let rule_passes : Passes 58 s.rule = passes_test 58 is_name_byte refl refl s.rule
    ((and_parts (not (is_nil s.rule)) (list_all is_name_byte s.rule) name).1) in
    let rule_word : Passes 32 s.rule = passes_test 32 is_name_byte refl refl s.rule
    ((and_parts (not (is_nil s.rule)) (list_all is_name_byte s.rule) name).1) in
    let parts : parts_between 58 false (path_text out ++ (spaced_paths outs ++ (58 ∷ takes))) ≡ makes ∷ takes ∷ [] =
    ap (parts_between 58 false) (sym (append_assoc (path_text out) (spaced_paths outs) (58 ∷ takes)))
    ∙ two_parts makes takes (passes_beside 58 (path_text out) (spaced_paths outs) (path_passes 58 refl out)
    (spaced_passes outs)) (passes_beside 58 (32 ∷ []) (s.rule ++ ins_text s) (plain_byte 58 32 refl refl)
    (passes_beside 58 s.rule (ins_text s) rule_passes (ins_passes s))) in
    let made : words makes ≡ map path_text (out ∷ outs) =
    ap words (ap (λ t. path_text out ++ t) (sym (append-nil (spaced_paths outs))))
    ∙ path_words out outs [] h0 h1 ends_nil
    ∙ ap (λ ws. path_text out ∷ ws) (append-nil (map path_text outs)) in
    let took : words takes ≡ s.rule ∷ takes_words s =
    word_then s.rule (ins_text s) rule_word (name_some s.rule name) (ins_ends s)
    ∙ ap (λ ws. s.rule ∷ ws) (ins_words s h) in
    ap statement_of_parts parts
    ∙ ap (λ ws. statement_of_words ws (words takes)) made
    ∙ ap (statement_of_words (map path_text (out ∷ outs))) took
    ∙ statement_read s (map path_text (out ∷ outs)) h (paths_read_back (out ∷ outs) paths ∙ ap Some (sym is))

pub defaults_read : (path : List ℕ) (paths : List (List ℕ)) → list_all is_path (path ∷ paths) ≡ true
    → defaults_of (path_text path ++ spaced_paths paths) ≡ Some (path ∷ paths)
defaults_read path paths h =
    let h0 : is_path path ≡ true = (and_parts (is_path path) (list_all is_path paths) h).0 in
    let h1 : list_all is_path paths ≡ true = (and_parts (is_path path) (list_all is_path paths) h).1 in
    ap defaults_of_parts (one_part (path_text path ++ spaced_paths paths)
    (passes_beside 58 (path_text path) (spaced_paths paths) (path_passes 58 refl path) (spaced_passes paths)))
    ∙ ap some_paths (ap words (ap (λ t. path_text path ++ t) (sym (append-nil (spaced_paths paths))))
    ∙ path_words path paths [] h0 h1 ends_nil ∙ ap (λ ws. path_text path ∷ ws) (append-nil (map path_text paths)))
    ∙ paths_read_back (path ∷ paths) h
