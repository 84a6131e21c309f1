-- What `clap` reads of plain pairs: each option's value, and nothing else.
use Rattle.std.proofs.Common.{◌≡◌, ◌∙◌, ℕ, Bool, true, false, List, [], ◌∷◌, ◌++◌, map, ap, ap₂, sym, refl}
use Rattle.std.proofs.Common.{append_assoc, subst}
use Rattle.std.specs.Prelude.{Option, Some, None, not, ◌&&◌, ◌||◌, ◌==◌, fold, drop, IsSomeAnd, if◌then◌else◌}
use Rattle.std.specs.List.{list_all, list_any}
use Rattle.std.specs.Option.{option_map_or}
use Rattle.std.specs.Str.{bytes_eq}
use Rattle.std.proofs.lemmas.List.{map-append}
use Rattle.std.proofs.lemmas.Bool.{and_parts}
use Rattle.clap.specs.Walk.{Row, Rule, Text, Walk, arg_by_id, at_row, default_rows, finished, first_of, has_row}
use Rattle.clap.specs.Walk.{more_values, nothing_held, reading_by, settled_rows, used_by_id, walk, walk_from, walked}
use Rattle.clap.specs.Walk.{with_default, with_values, without}
use Rattle.clap.specs.Simple.{Shape, built, matches_of}
use Rattle.clap.specs.Takes.{default_passes, is_given, is_valid, level_passes, settle_passes, takes, turn_passes}
use Rattle.clap.specs.Takes.{use_passes, walk_passes}
use Rattle.clap.specs.declared.parser.matches.ValueSource.TheVariants.{CommandLine}
use Rattle.clap.proofs.WalkLemmas.{list_any-map}
use Rattle.clap.proofs.TakesLemmas.{leaf_takes}
use Rattle.command_words.specs.declared.command.CommandName.{CommandName}
use Rattle.command_words.specs.declared.command.CommandName.TheVariants.{Build, Replay, Graph, Synth, Format, Edit}
use Rattle.command_words.specs.declared.option.OptionName.{OptionName}
use Rattle.command_words.specs.declared.pairs.Pair.{Pair}
use Rattle.command_words.specs.Once.{has_none_twice}
use Rattle.command_words.specs.Options.{option_name, options_of, is_required, is_same}
use Rattle.command_words.specs.Values.{is_option_value, with_first}
use Rattle.command_words.specs.Rules.{app_for}
use Rattle.command_words.specs.Words.{option_of, pair_with, option_pairs, is_same_option, are_plain_pairs, has_option}
use Rattle.command_words.specs.Words.{has_required, option_value}
use Rattle.command_words.proofs.Walking.{Turn, awaits, built_rule, held, not_true, rules_are, rules_for, shape_for}
use Rattle.command_words.proofs.Walking.{simple, turn_of, value_met, value_passes}

-- the row of a pair
abbrev pub row_of : Pair → Row
row_of p = record {
  id = option_name p.option;
  values = p.value ∷ [];
  count = None;
  source = Some CommandLine;
  reading = reading_by (built_rule p.option);
}

abbrev pub rows_of : List Pair → List Row
rows_of = map row_of

nothing_after : {X : Type 0} (xs : List X) → xs ++ [] ≡ xs
nothing_after [] = refl
nothing_after (x ∷ xs) = ap (λ ws. x ∷ ws) (nothing_after xs)

-- ---- a use of an option that was not used before

after_one : (id : Text) (change : Row → List Row) (missing : List Row) (r : Row) (rows : List Row) (b : Bool)
    → bytes_eq r.id id ≡ b → (b || has_row id rows) ≡ false
    → (has_row id rows ≡ false → at_row id change missing rows ≡ rows ++ missing)
    → (if b then change r ++ rows else r ∷ at_row id change missing rows) ≡ r ∷ (rows ++ missing)
after_one id change missing r rows true is h rest = absurd (cc)
after_one id change missing r rows false is h rest = ap (λ (rs : List Row). r ∷ rs) (rest h)

after_last : (id : Text) (change : Row → List Row) (missing rows : List Row) → has_row id rows ≡ false
    → at_row id change missing rows ≡ rows ++ missing
after_last id change missing [] h = refl
after_last id change missing (r ∷ rows) h =
    after_one id change missing r rows (bytes_eq r.id id) refl h (after_last id change missing rows)

used_new : (o : OptionName) (value : Text) (rows : List Row) → has_row (option_name o) rows ≡ false
    → with_values (option_name o) (reading_by (built_rule o)) CommandLine (value ∷ []) (without (option_name o) rows)
    ≡ rows ++ row_of (record { option = o; value = value }) ∷ []
used_new o value rows new =
    let row = row_of (record { option = o; value = value }) in
    let same : without (option_name o) rows ≡ rows =
    after_last (option_name o) (λ r. []) [] rows new ∙ nothing_after rows in
    ap (with_values (option_name o) (reading_by (built_rule o)) CommandLine (value ∷ [])) same
    ∙ after_last (option_name o) (more_values CommandLine (value ∷ [])) (row ∷ []) rows new

fresh : (before : List Pair) (p : Pair) (ps : List Pair) → has_none_twice is_same_option before (p ∷ ps) ≡ true
    → (has_row (option_name p.option) (rows_of before) ≡ false)
    × (has_none_twice is_same_option (before ++ p ∷ []) ps ≡ true)
fresh before p ps once =
    let h = and_parts (not (list_any (λ q. is_same_option q p) before))
    (has_none_twice is_same_option (before ++ p ∷ []) ps) once in (
      sym (list_any-map (λ r. bytes_eq r.id (option_name p.option)) row_of before)
          ∙ not_true (list_any (λ q. is_same_option q p) before) h.0,
      h.1,
    )

-- ---- one pair

-- What the walk holds stands for these pairs, and may be used.
pub record Stands (c : CommandName) (ps : List Pair) (rows : List Row)
    (pending : Option (Text × List Text)) : Type 0 where
  pub rows_are : settled_rows (rules_for c) pending rows ≡ rows_of ps
  pub passes : settle_passes (rules_for c) false (held rows pending) ≡ true

stands_after : (c : CommandName) (before : List Pair) (p : Pair) (rows : List Row) → rows ≡ rows_of before
    → arg_by_id (rules_for c) (option_name p.option) ≡ Some (built_rule p.option)
    → has_row (option_name p.option) (rows_of before) ≡ false
    → Stands c (before ++ p ∷ []) rows (Some (option_name p.option, p.value ∷ []))
stands_after c before p rows are rule new =
    let new_here : has_row (option_name p.option) rows ≡ false = ap (has_row (option_name p.option)) are ∙ new in
    record {
      rows_are =
          ap (λ (a : Option Rule). used_by_id a (p.value ∷ []) rows) rule ∙ used_new p.option p.value rows new_here
          ∙ ap (λ (rs : List Row). rs ++ row_of p ∷ []) are ∙ sym (map-append row_of before (p ∷ []));
      passes =
          ap (λ (a : Option Rule). option_map_or (λ (r : Rule). use_passes false r (p.value ∷ []) rows) a true) rule
          ∙ ap (λ (b : Bool). (not b || false) && true) new_here;
    }

-- the walk over the rest of the words ends where it stands for all pairs, and passes
pub record Walks (c : CommandName) (ps : List Pair) (rows : List Row) (pending : Option (Text × List Text))
    (words : List Text) : Type 0 where
  pub last_rows : List Row
  pub last_pending : Option (Text × List Text)
  pub ends : fold (walked (rules_for c) []) (walk_from (held rows pending)) words
      ≡ walk_from (held last_rows last_pending)
  pub stands : Stands c ps last_rows last_pending
  pub turns : walk_passes (shape_for c) [] (walk_from (held rows pending)) words ≡ true

not_dash : (value : Text) → is_option_value value ≡ true
    → (b : ℕ) × (bs : Text) × (value ≡ b ∷ bs) × ((b == 45) ≡ false)
not_dash [] h = absurd (cc)
not_dash (b ∷ bs) h = (b, bs, refl, not_true (b == 45) h)

both_met : (c : CommandName) (o : OptionName) (rows : List Row) (pending : Option (Text × List Text))
    (word value : Text) → Turn c word o → is_option_value value ≡ true
    → walked (rules_for c) [] (walked (rules_for c) [] (walk_from (held rows pending)) word) value
    ≡ walk_from (held (settled_rows (rules_for c) pending rows) (Some (option_name o, value ∷ [])))
both_met c o rows pending word value turn is =
    let v = not_dash value is in
    ap (λ (w : Walk). walked (rules_for c) [] w value) (turn.met rows pending)
    ∙ subst (λ (t : Text). walked (rules_for c) [] (awaits o (settled_rows (rules_for c) pending rows)) t
    ≡ walk_from (held (settled_rows (rules_for c) pending rows) (Some (option_name o, t ∷ [])))) (sym v.2)
    (value_met c o (settled_rows (rules_for c) pending rows) v.0 v.1 turn.rule v.3)

value_turn : (c : CommandName) (o : OptionName) (rows : List Row) (pending : Option (Text × List Text))
    (word value : Text) → Turn c word o → is_option_value value ≡ true
    → turn_passes (shape_for c) [] (walked (rules_for c) [] (walk_from (held rows pending)) word) value ≡ true
value_turn c o rows pending word value turn is =
    let v = not_dash value is in
    ap (λ (w : Walk). turn_passes (shape_for c) [] w value) (turn.met rows pending)
    ∙ subst (λ (t : Text). turn_passes (shape_for c) [] (awaits o (settled_rows (rules_for c) pending rows)) t ≡ true)
    (sym v.2) (value_passes c o (settled_rows (rules_for c) pending rows) v.0 v.1 turn.rule v.3)

-- ---- all pairs

-- The first pair of words that are pairs.
pub record First (c : CommandName) (word value : Text) (rest : List Text) (ps : List Pair) : Type 0 where
  pub option : OptionName
  pub more : List Pair
  pub named : option_of c word ≡ Some option
  pub behind : option_pairs c rest ≡ Some more
  pub are : ps ≡ (record { option = option; value = value }) ∷ more

first_of_two : (c : CommandName) (word value : Text) (rest : List Text) (ps : List Pair) (o : Option OptionName)
    (more : Option (List Pair)) → option_of c word ≡ o → option_pairs c rest ≡ more
    → with_first (pair_with value o) more ≡ Some ps → First c word value rest ps
first_of_two c word value rest ps None more named behind e = absurd (cc)
first_of_two c word value rest ps (Some o) None named behind e = absurd (cc)
first_of_two c word value rest ps (Some o) (Some more) named behind e = record {
  option = o;
  more = more;
  named = named;
  behind = behind;
  are = cc;
}

pub first_pair : (c : CommandName) (word value : Text) (rest : List Text) (ps : List Pair)
    → option_pairs c (word ∷ value ∷ rest) ≡ Some ps → First c word value rest ps
first_pair c word value rest ps e =
    first_of_two c word value rest ps (option_of c word) (option_pairs c rest) refl refl e

abbrev all_values : List Pair → Bool
all_values ps = list_all (λ p. is_option_value p.value) ps

no_turns : (s : Shape) (w : Walk) → walk_passes s [] w [] ≡ true
unfolding walk_passes
no_turns s w = refl

two_turns : (s : Shape) (w : Walk) (a b : Text) (rest : List Text) → turn_passes s [] w a ≡ true
    → turn_passes s [] (walked s.rules [] w a) b ≡ true
    → walk_passes s [] (walked s.rules [] (walked s.rules [] w a) b) rest ≡ true
    → walk_passes s [] w (a ∷ b ∷ rest) ≡ true
unfolding walk_passes
two_turns s w a b rest first second others =
    ap₂ (λ (p q : Bool). p && q) first (ap₂ (λ (p q : Bool). p && q) second others)

walks : (c : CommandName) (words : List Text) (before ps : List Pair) (rows : List Row)
    (pending : Option (Text × List Text)) → option_pairs c words ≡ Some ps → all_values ps ≡ true
    → has_none_twice is_same_option before ps ≡ true → Stands c before rows pending
    → Walks c (before ++ ps) rows pending words
walks c [] before ps rows pending are values once stands =
    let none : [] ≡ ps = cc in
    subst (λ (qs : List Pair). Walks c (before ++ qs) rows pending []) none (record {
      last_rows = rows;
      last_pending = pending;
      ends = refl;
      stands = subst (λ (qs : List Pair). Stands c qs rows pending) (sym (nothing_after before)) stands;
      turns = no_turns (shape_for c) (walk_from (held rows pending));
    })
walks c (word ∷ []) before ps rows pending are values once stands = absurd (cc)
walks c (word ∷ value ∷ rest) before ps rows pending are values once stands =
    let first = first_pair c word value rest ps are in
    let p : Pair = record { option = first.option; value = value } in
    let values_here = and_parts (is_option_value value) (all_values first.more)
    (subst (λ (qs : List Pair). all_values qs ≡ true) first.are values) in
    let new = fresh before p first.more
    (subst (λ (qs : List Pair). has_none_twice is_same_option before qs ≡ true) first.are once) in
    let turn = turn_of c first.option word first.named in
    let settled = settled_rows (rules_for c) pending rows in
    let later = walks c rest (before ++ p ∷ []) first.more settled (Some (option_name first.option, value ∷ []))
    first.behind values_here.1 new.1 (stands_after c before p settled stands.rows_are turn.rule new.0) in
    let met = both_met c first.option rows pending word value turn values_here.0 in
    subst (λ (qs : List Pair). Walks c (before ++ qs) rows pending (word ∷ value ∷ rest)) (sym first.are) (record {
      last_rows = later.last_rows;
      last_pending = later.last_pending;
      ends = ap (λ (w : Walk). fold (walked (rules_for c) []) w rest) met ∙ later.ends;
      stands =
          subst (λ (qs : List Pair). Stands c qs later.last_rows later.last_pending)
          (append_assoc before (p ∷ []) first.more) later.stands;
      turns =
          two_turns (shape_for c) (walk_from (held rows pending)) word value rest (turn.passes rows pending
          stands.passes) (value_turn c first.option rows pending word value turn values_here.0)
          (ap (λ (w : Walk). walk_passes (shape_for c) [] w rest) met ∙ later.turns);
    })

-- ---- the whole line

with_none : (rows : List Row) (a : Rule) (b : Bool) → a.defaults ≡ []
    → (if b then rows else default_rows a.id (reading_by a) a.defaults rows) ≡ rows
with_none rows a true none = refl
with_none rows a false none = ap (λ (ds : List Text). default_rows a.id (reading_by a) ds rows) none

no_default : (rows : List Row) (a : Rule) → a.defaults ≡ [] → with_default rows a ≡ rows
no_default rows a none = with_none rows a (has_row a.id rows) none

default_passes_all : (c : CommandName) → list_all default_passes (rules_for c) ≡ true
default_passes_all Build = refl
default_passes_all Replay = refl
default_passes_all Graph = refl
default_passes_all Synth = refl
default_passes_all Format = refl
default_passes_all Edit = refl

all_free : (c : CommandName) → list_all (λ (a : Rule). a.is_free) (rules_for c) ≡ true
all_free Build = refl
all_free Replay = refl
all_free Graph = refl
all_free Synth = refl
all_free Format = refl
all_free Edit = refl

-- no option has a default
finished_is : (os : List OptionName) (rows : List Row) → fold with_default rows (map built_rule os) ≡ rows
finished_is [] rows = refl
finished_is (o ∷ os) rows =
    ap (λ (rs : List Row). fold with_default rs (map built_rule os)) (no_default rows (built_rule o) refl)
    ∙ finished_is os rows

given_first : (o : OptionName) (p : Pair) (ps : List Pair) (b : Bool) → is_same p.option o ≡ b
    → is_given (option_name o) (rows_of ps) ≡ has_option o ps
    → is_given (option_name o) (rows_of (p ∷ ps)) ≡ has_option o (p ∷ ps)
given_first o p ps true is rest = rw is refl
given_first o p ps false is rest = rw is rest

given_has : (o : OptionName) (ps : List Pair) → is_given (option_name o) (rows_of ps) ≡ has_option o ps
given_has o [] = refl
given_has o (p ∷ ps) = given_first o p ps (is_same p.option o) refl (given_has o ps)

required_is : (os : List OptionName) (ps : List Pair)
    → list_all (λ (a : Rule). not a.required || is_given a.id (rows_of ps)) (map built_rule os)
    ≡ list_all (λ (o : OptionName). not (is_required o) || has_option o ps) os
required_is [] ps = refl
required_is (o ∷ os) ps = ap₂ (λ (x y : Bool). (not (is_required o) || x) && y) (given_has o ps) (required_is os ps)

valid : (c : CommandName) (ps : List Pair) → has_required c ps ≡ true → is_valid (shape_for c) (rows_of ps) false ≡ true
valid c ps required =
    ap₂ (λ (x y : Bool). x && y) (all_free c)
    (ap (list_all (λ (a : Rule). not a.required || is_given a.id (rows_of ps))) (rules_are c)
    ∙ required_is (options_of c) ps ∙ required)

first_found : (o : OptionName) (p : Pair) (ps : List Pair) (b : Bool) → is_same p.option o ≡ b
    → first_of (option_name o) (rows_of ps) ≡ option_value ps o
    → first_of (option_name o) (rows_of (p ∷ ps)) ≡ option_value (p ∷ ps) o
first_found o p ps true is rest = rw is refl
first_found o p ps false is rest = rw is rest

pub first_is : (o : OptionName) (ps : List Pair) → first_of (option_name o) (rows_of ps) ≡ option_value ps o
first_is o [] = refl
first_is o (p ∷ ps) = first_found o p ps (is_same p.option o) refl (first_is o ps)

-- What `clap` makes of the words behind a command's name, where they are these plain pairs.
pub record Line (c : CommandName) (words : List Text) (ps : List Pair) : Type 0 where
  pub takes_it : takes (app_for c) words ≡ true
  pub rows : matches_of (app_for c) words ≡ rows_of ps

no_subcommands : (c : CommandName) → (built (app_for c)).subs ≡ []
no_subcommands c = refl

pub line : (c : CommandName) (words : List Text) (ps : List Pair) → option_pairs c (drop 1 words) ≡ Some ps
    → are_plain_pairs c ps ≡ true → Line c words ps
line c words ps are plain =
    let h = and_parts (all_values ps) (has_none_twice is_same_option [] ps && has_required c ps) plain in
    let k = and_parts (has_none_twice is_same_option [] ps) (has_required c ps) h.1 in
    let w = walks c (drop 1 words) [] ps [] None are h.0 k.0 (record { rows_are = refl; passes = refl }) in
    let end : (walk (rules_for c) [] nothing_held (drop 1 words)).held ≡ held w.last_rows w.last_pending =
    ap (λ (at : Walk). at.held) w.ends in
    let rows : finished (rules_for c) (walk (rules_for c) [] nothing_held (drop 1 words)).held ≡ rows_of ps =
    ap (finished (rules_for c)) end
    ∙ ap (λ (rs : List Row). fold with_default rs (rules_for c)) w.stands.rows_are
    ∙ ap (λ (rules : List Rule). fold with_default (rows_of ps) rules) (rules_are c)
    ∙ finished_is (options_of c) (rows_of ps) in
    let settles : settle_passes (rules_for c) false (walk (rules_for c) [] nothing_held (drop 1 words)).held ≡ true =
    ap (settle_passes (rules_for c) false) end ∙ w.stands.passes in
    let is_level : level_passes (shape_for c) [] nothing_held (drop 1 words) false ≡ true =
    ap₂ (λ (x y : Bool). x && y) w.turns (ap₂ (λ (x y : Bool). x && y) settles (ap₂ (λ (x y : Bool). x && y)
    (default_passes_all c) (ap (λ (rs : List Row). is_valid (shape_for c) rs false) rows ∙ valid c ps k.1))) in
    record {
      takes_it =
          ap₂ (λ (x y : Bool). x && y) (simple c)
          (leaf_takes (built (app_for c)) nothing_held (drop 1 words) (no_subcommands c) is_level);
      rows = rows;
    }

pub some_pairs : (P : List Pair → Type 0) (x : Option (List Pair)) → IsSomeAnd x P
    → (ps : List Pair) × (x ≡ Some ps) × P ps
some_pairs P None h = absurd h
some_pairs P (Some ps) h = (ps, refl, h)
