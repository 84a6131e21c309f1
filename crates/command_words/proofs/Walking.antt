-- How `clap` walks over the plain pairs of a command.
use Rattle.std.proofs.Common.{◌≡◌, ◌∙◌, ℕ, Bool, true, false, List, [], ◌∷◌, map, ap, ap₂, sym, refl, subst, inl, inr}
use Rattle.std.specs.Prelude.{Option, Some, None, not, ◌&&◌, ◌||◌, ◌==◌, find, option_and_then, ◌⊎◌, if◌then◌else◌}
use Rattle.std.specs.Prelude.{nat_lt, IfSome, ⊤}
use Rattle.std.specs.Option.{option_map_or}
use Rattle.std.specs.Str.{bytes_eq}
use Rattle.std.proofs.lemmas.Slice.Eq.{bytes_eq-Decides}
use Rattle.clap.specs.Lexer.{long_of, long_of_rest, short_of, short_of_rest, strip_byte}
use Rattle.clap.specs.Walk.{Step, next, trailing, idle, after_step, word_met, long_or_other, short_or_plain, plain_word}
use Rattle.clap.specs.Walk.{option_word, Held, Row, Rule, Text, Waiting, Walk, option, arg_by_id, settled_rows}
use Rattle.clap.specs.Walk.{walk_from, walked}
use Rattle.clap.specs.Simple.{Shape, built, filled, is_simple}
use Rattle.clap.specs.Takes.{flag_word_passes, bundle_passes, step_passes, settle_passes, turn_passes}
use Rattle.clap.proofs.OnLiterals.{clap_on_literals}
use Rattle.command_words.specs.declared.command.CommandName.{CommandName}
use Rattle.command_words.specs.declared.command.CommandName.TheVariants.{Build, Replay, Graph, Synth, Format, Edit}
use Rattle.command_words.specs.declared.option.OptionName.{OptionName}
use Rattle.command_words.specs.Options.{option_name, short_name, options_of, is_short_spelling, is_spelling}
use Rattle.command_words.specs.Rules.{app_for, rule_for}
use Rattle.command_words.specs.Words.{option_of}

abbrev pub shape_for : CommandName → Shape
shape_for c = (built (app_for c)).top

abbrev pub rules_for : CommandName → List Rule
rules_for c = (shape_for c).rules

abbrev pub built_rule : OptionName → Rule
built_rule o = filled (rule_for o)

pub rules_are : (c : CommandName) → rules_for c ≡ map built_rule (options_of c)
rules_are Build = refl
rules_are Replay = refl
rules_are Graph = refl
rules_are Synth = refl
rules_are Format = refl
rules_are Edit = refl

pub simple : (c : CommandName) → is_simple (app_for c) ≡ true
simple Build = refl
simple Replay = refl
simple Graph = refl
simple Synth = refl
simple Format = refl
simple Edit = refl

-- The walk holds these rows, and the last option's value.
abbrev pub held : List Row → Option (Text × List Text) → Held
held rows pending = record { rows = rows; pending = pending; skip = 0 }

-- The walk has read an option, which waits for its value.
abbrev pub awaits : OptionName → List Row → Walk
awaits o rows = record {
  held = held rows (Some (option_name o, []));
  waiting = option (option_name o);
  position = 1;
  is_trailing = false;
  stopped = None;
}

-- What a word that spells an option does to the walk.
pub record Turn (c : CommandName) (word : Text) (o : OptionName) : Type 0 where
  pub rule : arg_by_id (rules_for c) (option_name o) ≡ Some (built_rule o)
  pub met : (rows : List Row) (pending : Option (Text × List Text)) → walked (rules_for c) []
      (walk_from (held rows pending)) word ≡ awaits o (settled_rows (rules_for c) pending rows)
  pub passes : (rows : List Row) (pending : Option (Text × List Text))
      → settle_passes (rules_for c) false (held rows pending) ≡ true
      → turn_passes (shape_for c) [] (walk_from (held rows pending)) word ≡ true

-- What the spellings of an option do: of its long name, and of its short one where it has one.
pub record Turns (c : CommandName) (o : OptionName) : Type 0 where
  pub long : Turn c (45 ∷ 45 ∷ option_name o) o
  pub short : IfSome (short_name o) (λ x. Turn c (45 ∷ x ∷ []) o)

-- It holds of each option of a list.
abbrev OfEach : (OptionName → Type 0) → List OptionName → Type 0
OfEach P [] = ⊤
OfEach P (o ∷ os) = P o × OfEach P os

turns : (c : CommandName) → OfEach (Turns c) (options_of c)
unfolding clap_on_literals
turns Build = (
  record {
    long = record { rule = refl; met = λ rows pending. refl; passes = λ rows pending ok. rw ok refl };
    short = record { rule = refl; met = λ rows pending. refl; passes = λ rows pending ok. rw ok refl };
  },
  (
    record {
      long = record { rule = refl; met = λ rows pending. refl; passes = λ rows pending ok. rw ok refl };
      short = record { rule = refl; met = λ rows pending. refl; passes = λ rows pending ok. rw ok refl };
    },
    (
      record {
        long = record { rule = refl; met = λ rows pending. refl; passes = λ rows pending ok. rw ok refl };
        short = record { rule = refl; met = λ rows pending. refl; passes = λ rows pending ok. rw ok refl };
      },
      (
        record {
          long = record { rule = refl; met = λ rows pending. refl; passes = λ rows pending ok. rw ok refl };
          short = record { rule = refl; met = λ rows pending. refl; passes = λ rows pending ok. rw ok refl };
        },
        (
          record {
            long = record { rule = refl; met = λ rows pending. refl; passes = λ rows pending ok. rw ok refl };
            short = tt;
          },
          tt,
        ),
      ),
    ),
  ),
)
turns Replay = (
  record {
    long = record { rule = refl; met = λ rows pending. refl; passes = λ rows pending ok. rw ok refl };
    short = record { rule = refl; met = λ rows pending. refl; passes = λ rows pending ok. rw ok refl };
  },
  (
    record {
      long = record { rule = refl; met = λ rows pending. refl; passes = λ rows pending ok. rw ok refl };
      short = record { rule = refl; met = λ rows pending. refl; passes = λ rows pending ok. rw ok refl };
    },
    (
      record {
        long = record { rule = refl; met = λ rows pending. refl; passes = λ rows pending ok. rw ok refl };
        short = tt;
      },
      (
        record {
          long = record { rule = refl; met = λ rows pending. refl; passes = λ rows pending ok. rw ok refl };
          short = record { rule = refl; met = λ rows pending. refl; passes = λ rows pending ok. rw ok refl };
        },
        tt,
      ),
    ),
  ),
)
turns Graph = (
  record {
    long = record { rule = refl; met = λ rows pending. refl; passes = λ rows pending ok. rw ok refl };
    short = record { rule = refl; met = λ rows pending. refl; passes = λ rows pending ok. rw ok refl };
  },
  (
    record {
      long = record { rule = refl; met = λ rows pending. refl; passes = λ rows pending ok. rw ok refl };
      short = record { rule = refl; met = λ rows pending. refl; passes = λ rows pending ok. rw ok refl };
    },
    (
      record {
        long = record { rule = refl; met = λ rows pending. refl; passes = λ rows pending ok. rw ok refl };
        short = record { rule = refl; met = λ rows pending. refl; passes = λ rows pending ok. rw ok refl };
      },
      (
        record {
          long = record { rule = refl; met = λ rows pending. refl; passes = λ rows pending ok. rw ok refl };
          short = record { rule = refl; met = λ rows pending. refl; passes = λ rows pending ok. rw ok refl };
        },
        tt,
      ),
    ),
  ),
)
turns Synth = (
  record {
    long = record { rule = refl; met = λ rows pending. refl; passes = λ rows pending ok. rw ok refl };
    short = tt;
  },
  (
    record {
      long = record { rule = refl; met = λ rows pending. refl; passes = λ rows pending ok. rw ok refl };
      short = tt;
    },
    (
      record {
        long = record { rule = refl; met = λ rows pending. refl; passes = λ rows pending ok. rw ok refl };
        short = record { rule = refl; met = λ rows pending. refl; passes = λ rows pending ok. rw ok refl };
      },
      tt,
    ),
  ),
)
turns Format = (
  record {
    long = record { rule = refl; met = λ rows pending. refl; passes = λ rows pending ok. rw ok refl };
    short = record { rule = refl; met = λ rows pending. refl; passes = λ rows pending ok. rw ok refl };
  },
  (
    record {
      long = record { rule = refl; met = λ rows pending. refl; passes = λ rows pending ok. rw ok refl };
      short = record { rule = refl; met = λ rows pending. refl; passes = λ rows pending ok. rw ok refl };
    },
    tt,
  ),
)
turns Edit = (
  record {
    long = record { rule = refl; met = λ rows pending. refl; passes = λ rows pending ok. rw ok refl };
    short = record { rule = refl; met = λ rows pending. refl; passes = λ rows pending ok. rw ok refl };
  },
  (
    record {
      long = record { rule = refl; met = λ rows pending. refl; passes = λ rows pending ok. rw ok refl };
      short = record { rule = refl; met = λ rows pending. refl; passes = λ rows pending ok. rw ok refl };
    },
    (
      record {
        long = record { rule = refl; met = λ rows pending. refl; passes = λ rows pending ok. rw ok refl };
        short = record { rule = refl; met = λ rows pending. refl; passes = λ rows pending ok. rw ok refl };
      },
      (
        record {
          long = record { rule = refl; met = λ rows pending. refl; passes = λ rows pending ok. rw ok refl };
          short = record { rule = refl; met = λ rows pending. refl; passes = λ rows pending ok. rw ok refl };
        },
        (
          record {
            long = record { rule = refl; met = λ rows pending. refl; passes = λ rows pending ok. rw ok refl };
            short = tt;
          },
          tt,
        ),
      ),
    ),
  ),
)

absurd_option : {X : Type 0} → false ≡ true → X
absurd_option e = absurd (cc)

-- ---- the option that a word spells

either : (a b : Bool) → (a || b) ≡ true → (a ≡ true) ⊎ (b ≡ true)
either true b e = inl refl
either false b e = inr e

pub not_true : (b : Bool) → not b ≡ true → b ≡ false
not_true true e = absurd (cc)
not_true false e = refl

pub same_name : (n : Text) → bytes_eq n n ≡ true
same_name n = (bytes_eq-Decides n n).1 refl

-- What is found passes the test, and what holds of each option holds of it.
found_at : (P : OptionName → Type 0) (p : OptionName → Bool) (x : OptionName) (os : List OptionName) (o : OptionName)
    (b : Bool)
    → p x ≡ b → P x → (find p os ≡ Some o → (p o ≡ true) × P o) → find p (x ∷ os) ≡ Some o → (p o ≡ true) × P o
found_at P p x os o true here holds rest e =
    let is : ◌≡◌ {A = Option OptionName} (Some x) (Some o) = rw here at e in
    let same : x ≡ o = cc in
    subst (λ (y : OptionName). (p y ≡ true) × P y) same (here, holds)
found_at P p x os o false here holds rest e = rest (rw here at e)

found : (P : OptionName → Type 0) (p : OptionName → Bool) (os : List OptionName) (o : OptionName) → OfEach P os
    → find p os ≡ Some o → (p o ≡ true) × P o
found P p [] o each e = absurd (cc)
found P p (x ∷ os) o each e = found_at P p x os o (p x) refl each.0 (found P p os o each.1) e

short_spelled : (c : CommandName) (o : OptionName) (word : Text) (s : Option ℕ)
    → IfSome s (λ x. Turn c (45 ∷ x ∷ []) o) → is_short_spelling s word ≡ true → Turn c word o
short_spelled c o word None turn h = absurd_option h
short_spelled c o word (Some x) turn h =
    subst (λ (w : Text). Turn c w o) (sym ((bytes_eq-Decides word (45 ∷ x ∷ [])).0 h)) turn

pub turn_of : (c : CommandName) (o : OptionName) (word : Text) → option_of c word ≡ Some o → Turn c word o
turn_of c o word e =
    let f = found (Turns c) (λ (other : OptionName). is_spelling other word) (options_of c) o (turns c) e in
    elim (either (bytes_eq word (45 ∷ 45 ∷ option_name o)) (is_short_spelling (short_name o) word) f.0) [
      | inl h ↦ subst (λ (w : Text). Turn c w o) (sym ((bytes_eq-Decides word (45 ∷ 45 ∷ option_name o)).0 h)) f.1.long
      | inr h ↦ short_spelled c o word (short_name o) f.1.short h
    ]

-- ---- the value of an option

no_dash : (b : ℕ) (bs : Text) → (b == 45) ≡ false → strip_byte 45 (b ∷ bs) ≡ None
no_dash b bs plain = rw plain refl

no_long : (b : ℕ) (bs : Text) → (b == 45) ≡ false → long_of (b ∷ bs) ≡ None
no_long b bs plain =
    ap (λ (s : Option Text). option_and_then long_of_rest (option_and_then (strip_byte 45) s)) (no_dash b bs plain)

no_short : (b : ℕ) (bs : Text) → (b == 45) ≡ false → short_of (b ∷ bs) ≡ None
no_short b bs plain = ap (option_and_then short_of_rest) (no_dash b bs plain)

no_dashes : (b : ℕ) (bs : Text) → (b == 45) ≡ false → bytes_eq (b ∷ bs) (45 ∷ 45 ∷ []) ≡ false
no_dashes b bs plain = rw plain refl

other_word : (c : List Rule) (w : Waiting) (b : ℕ) (bs : Text) (h : Held) → (b == 45) ≡ false
    → long_or_other c w (b ∷ bs) (long_of (b ∷ bs)) h ≡ plain_word c w (b ∷ bs) h
other_word c w b bs h plain =
    ap (λ (l : Option (Text × Option Text)). long_or_other c w (b ∷ bs) l h) (no_long b bs plain)
    ∙ ap (λ (s : Option Text). short_or_plain c w (b ∷ bs) s h) (no_short b bs plain)

value_word : (c : List Rule) (id : Text) (b : ℕ) (bs : Text) (h : Held) → (b == 45) ≡ false
    → word_met c [] false (option id) 1 (b ∷ bs) h ≡ plain_word c (option id) (b ∷ bs) h
value_word c id b bs h plain =
    ap (λ (is : Bool). if is then (h, trailing 1) else long_or_other c (option id) (b ∷ bs) (long_of (b ∷ bs)) h)
    (no_dashes b bs plain)
    ∙ other_word c (option id) b bs h plain

taken : (c : CommandName) (o : OptionName) (rows : List Row) (word : Text)
    → arg_by_id (rules_for c) (option_name o) ≡ Some (built_rule o)
    → plain_word (rules_for c) (option (option_name o)) word (awaits o rows).held
    ≡ (held rows (Some (option_name o, word ∷ [])), next idle)
taken c o rows word rule =
    ap (λ (a : Option Rule). (
      (option_word a (option_name o) word (awaits o rows).held).0,
      next (option_word a (option_name o) word (awaits o rows).held).1,
    )) rule
    ∙ ap (λ (same : Bool). (
      held rows (Some (option_name o, word ∷ [])),
      next (if nat_lt (if same then 1 else 0) 1 then option (option_name o) else idle),
    )) (same_name (option_name o))

pub value_met : (c : CommandName) (o : OptionName) (rows : List Row) (b : ℕ) (bs : Text)
    → arg_by_id (rules_for c) (option_name o) ≡ Some (built_rule o) → (b == 45) ≡ false
    → walked (rules_for c) [] (awaits o rows) (b ∷ bs) ≡ walk_from (held rows (Some (option_name o, (b ∷ bs) ∷ [])))
unfolding walked
value_met c o rows b bs rule plain =
    ap (λ (met : Held × Step). after_step (rules_for c) (b ∷ bs) (awaits o rows) met.0 met.1)
    (value_word (rules_for c) (option_name o) b bs (awaits o rows).held plain ∙ taken c o rows (b ∷ bs) rule)

no_flag : (c : List Rule) (again : Bool) (b : ℕ) (bs : Text) (h : Held) → (b == 45) ≡ false
    → flag_word_passes c again (long_of (b ∷ bs)) (b ∷ bs) h ≡ true
no_flag c again b bs h plain =
    ap (λ (l : Option (Text × Option Text)). flag_word_passes c again l (b ∷ bs) h) (no_long b bs plain)
    ∙ ap (λ (s : Option Text). option_map_or (λ (flags : Text). bundle_passes c again flags h) s true)
    (no_short b bs plain)

pub value_passes : (c : CommandName) (o : OptionName) (rows : List Row) (b : ℕ) (bs : Text)
    → arg_by_id (rules_for c) (option_name o) ≡ Some (built_rule o) → (b == 45) ≡ false
    → turn_passes (shape_for c) [] (awaits o rows) (b ∷ bs) ≡ true
value_passes c o rows b bs rule plain =
    ap₂ (λ (word step : Bool). (bytes_eq (b ∷ bs) (45 ∷ 45 ∷ []) || word) && step)
    (no_flag (rules_for c) (shape_for c).args_override_self b bs (awaits o rows).held plain)
    (ap (λ (met : Held × Step). step_passes (shape_for c) 1 met.0 met.1)
    (value_word (rules_for c) (option_name o) b bs (awaits o rows).held plain ∙ taken c o rows (b ∷ bs) rule))
    ∙ ap (λ (is : Bool). (is || true) && true) (no_dashes b bs plain)
