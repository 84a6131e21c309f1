-- What every configuration keeps.
use Rattle.std.proofs.Common.{◌≡◌, ◌≢◌, ◌≤◌, ℕ, Bool, true, false, List, [], ◌∷◌, ◌++◌, ◌∙◌, ap, sym, refl, subst}
use Rattle.std.proofs.Common.{arith, lit≤}
use Rattle.std.specs.Prelude.{Option, Some, None, IfSome, ⊤, not, ◌&&◌, ◌||◌, nat_le, if◌then◌else◌}
use Rattle.std.specs.List.{All, AllPairs, list_any}
use Rattle.std.specs.Str.{bytes_eq}
use Rattle.std.specs.Str.Parse.{digits_value}
use Rattle.std.proofs.lemmas.Bool.{and_parts, or_parts, not-true, true≢false, leb-true}
use Rattle.std.proofs.lemmas.List.Folds.{list_any-append}
use Rattle.std.proofs.lemmas.List.Kept.{AllPairs-cons}
use Rattle.std.proofs.lemmas.List.Elements.{All-nil, All-cons}
use Rattle.std.proofs.lemmas.Slice.Eq.{bytes_eq-Decides}
use Rattle.bp_faults.specs.Targets.{target_name}
use Rattle.bp_faults.specs.declared.target.Target.{Target}
use Rattle.bp_faults.specs.declared.limits.TheConstants.{MOST_SYNTHETIC_MODULES, MOST_WORKERS}
use Rattle.command_words.specs.declared.command.CommandName.{CommandName}
use Rattle.command_words.specs.declared.command.CommandName.TheVariants.{Build, Replay, Graph, Synth, Format, Edit}
use Rattle.command_words.specs.declared.option.OptionName.TheVariants as option
use Rattle.command_words.specs.Once.{has_none_twice}
use Rattle.command_words.specs.Options.{command_named}
use Rattle.command_words.specs.Plain.{plain_words}
use Rattle.command_words.specs.Words.{AreWorkers, AreDistinctTargets, IsIdentifier, IsSoundConfiguration}
use Rattle.command_words.specs.Values.{is_first_byte, is_further_byte, is_identifier, is_numeral, number_in}
use Rattle.command_words.specs.Values.{targets_once, targets_named, names_in, mutator_number, is_same_target}
use Rattle.command_words.specs.Words.{Given, and_then, workers_of, default_targets, targets_or_default, items_or_none}
use Rattle.command_words.specs.Words.{is_other, build_of, replay_of, graph_of, synth_of, format_of, edit_of}
use Rattle.command_words.specs.Words.{configuration_by, configuration_of_plain, configuration_of, option_pairs}
use Rattle.command_words.specs.Words.{are_plain_pairs, option_value}

-- ---- what holds of a value that is there

pub and_then-holds : {X Y : Type 0} (P : X → Type 0) (Q : Y → Type 0) (x : Option X) (next : X → Option Y) → IfSome x P
    → ((a : X) → P a → IfSome (next a) Q) → IfSome (and_then x next) Q
and_then-holds P Q None next here there = tt
and_then-holds P Q (Some a) next here there = there a here

anything : {X : Type 0} (x : Option X) → IfSome x (λ a. ⊤)
anything None = tt
anything (Some a) = tt

-- what is made of a value about which nothing is asked
with_any : {X Y : Type 0} (Q : Y → Type 0) (x : Option X) (next : X → Option Y) → ((a : X) → IfSome (next a) Q)
    → IfSome (and_then x next) Q
with_any Q x next there = and_then-holds (λ a. ⊤) Q x next (anything x) (λ a h. there a)

where_true : {X : Type 0} (P : X → Type 0) (b : Bool) (x : X) → (b ≡ true → P x) → IfSome (if b then Some x else None) P
where_true P true x holds = holds refl
where_true P false x holds = tt

-- ---- numbers

number_within : (low high : ℕ) (text : List ℕ) → IfSome (number_in low high text) (λ n. (low ≤ n) × (n ≤ high))
number_within low high text =
    where_true (λ n. (low ≤ n) × (n ≤ high))
    (is_numeral text
    && (nat_le low (digits_value 10 text) && nat_le (digits_value 10 text) high)) (digits_value 10 text)
    (λ is. let within = and_parts (is_numeral text) _ is in
    let bounds = and_parts (nat_le low (digits_value 10 text)) _ within.1 in
    (leb-true low _ bounds.0, leb-true _ high bounds.1))

workers_sound : (given : Option (List ℕ)) → IfSome (workers_of given) AreWorkers
workers_sound None = (lit≤ tt, lit≤ tt)
workers_sound (Some text) = number_within 1 MOST_WORKERS text

-- ---- targets

-- Where nothing stands twice, nothing is as what stood before, and each two are related that aren't the same.
pub record StandsOnce {X : Type 0} (same : X → X → Bool) (R : X → X → Type 0) (before xs : List X) : Type 0 where
  pub new : All (λ x. list_any (λ y. same y x) before ≡ false) xs
  pub pairs : AllPairs R xs

stands_once : {X : Type 0} (same : X → X → Bool) (R : X → X → Type 0) → ((a b : X) → same a b ≡ false → R a b)
    → (before xs : List X) → has_none_twice same before xs ≡ true → StandsOnce same R before xs
stands_once same R apart before [] none =
    record { new = All-nil _; pairs = λ i j d before_it within. absurd (omega (arith, within)) }
stands_once {X = X} same R apart before (x ∷ xs) none =
    let parts = and_parts (not (list_any (λ y. same y x) before)) _ none in
    let rest = stands_once same R apart (before ++ x ∷ []) xs parts.1 in
    let cut = λ (t : X) (h : list_any (λ y. same y t) (before ++ x ∷ []) ≡ false).
    or_parts (list_any (λ y. same y t) before) (same x t || false)
    (sym (list_any-append (λ y. same y t) before (x ∷ [])) ∙ h) in
    record {
      new = All-cons (λ t. list_any (λ y. same y t) before ≡ false) x xs (not-true _ parts.0)
          (λ k d within. (cut _ (rest.new k d within)).0);
      pairs = AllPairs-cons R x xs
          (λ k d within. apart x _ (or_parts (same x _) false (cut _ (rest.new k d within)).1).0) rest.pairs;
    }

different : (a b : Target) → is_same_target a b ≡ false → a ≢ b
different a b apart same =
    true≢false (sym ((bytes_eq-Decides (target_name a) (target_name b)).1 (ap target_name same)) ∙ apart)

all_differ : (targets : List Target) → has_none_twice is_same_target [] targets ≡ true → AreDistinctTargets targets
all_differ targets none = (stands_once is_same_target (λ a b. a ≢ b) different [] targets none).pairs

targets_sound : (given : Option (List ℕ)) → IfSome (targets_or_default given) AreDistinctTargets
targets_sound None = all_differ default_targets refl
targets_sound (Some text) =
    with_any AreDistinctTargets (targets_named (names_in text)) targets_once
    (λ targets. where_true AreDistinctTargets (has_none_twice is_same_target [] targets) targets (all_differ targets))

-- ---- mutators

one_number : (b : Bool) (n k : ℕ) (rest : Option ℕ) → n ≤ 11 → (rest ≡ Some k → k ≤ 11)
    → (if b then Some n else rest) ≡ Some k → k ≤ 11
one_number true n k rest small next is = let same : n ≡ k = cc in subst (λ (m : ℕ). m ≤ 11) same small
one_number false n k rest small next is = next is

most_number : (name : List ℕ) (k : ℕ) → mutator_number name ≡ Some k → k ≤ 11
most_number name k =
    one_number _ 1 k _ (lit≤ tt)
    (one_number _ 2 k _ (lit≤ tt) (one_number _ 3 k _ (lit≤ tt) (one_number _ 4 k _ (lit≤ tt)
    (one_number _ 5 k _ (lit≤ tt)
    (one_number _ 6 k _ (lit≤ tt) (one_number _ 7 k _ (lit≤ tt) (one_number _ 8 k _ (lit≤ tt)
    (one_number _ 9 k _ (lit≤ tt) (one_number _ 10 k _ (lit≤ tt)
    (one_number _ 11 k None (lit≤ tt) (λ none. absurd (cc))))))))))))

where_some : {X : Type 0} (P : X → Type 0) (x : Option X) → ((a : X) → x ≡ Some a → P a) → IfSome x P
where_some P None holds = tt
where_some P (Some a) holds = holds a refl

mutator_sound : (name : List ℕ) → IfSome (mutator_number name) (λ k. k ≤ 11)
mutator_sound name = where_some (λ k. k ≤ 11) (mutator_number name) (most_number name)

-- ---- paths

other_path : (out path : List ℕ) → not (bytes_eq out path) ≡ true → out ≢ path
other_path out path other same =
    true≢false (sym ((bytes_eq-Decides out path).1 same) ∙ not-true (bytes_eq out path) other)

other_paths : (out : List ℕ) (path : Option (List ℕ)) → is_other out path ≡ true → IfSome path (λ p. out ≢ p)
other_paths out None other = tt
other_paths out (Some path) other = other_path out path other

-- ---- commands

build_sound : (given : Given) → IfSome (build_of given) IsSoundConfiguration
build_sound given =
    with_any IsSoundConfiguration (given option.List) _
    (λ list. with_any IsSoundConfiguration (given option.Out) _ (λ out.
    and_then-holds AreWorkers IsSoundConfiguration (workers_of (given option.Jobs)) _
    (workers_sound (given option.Jobs)) (λ workers few.
    and_then-holds AreDistinctTargets IsSoundConfiguration (targets_or_default (given option.Targets)) _
    (targets_sound (given option.Targets))
    (λ targets differ.
    where_true IsSoundConfiguration (is_other out (Some list) && is_other out (given option.Journal)) _ (λ is.
    let parts = and_parts (is_other out (Some list)) _ is in record {
      workers = few;
      targets = differ;
      list = other_path out list parts.0;
      journal = other_paths out (given option.Journal) parts.1;
    })))))

replay_sound : (given : Given) → IfSome (replay_of given) IsSoundConfiguration
replay_sound given =
    with_any IsSoundConfiguration (given option.List) _
    (λ list. with_any IsSoundConfiguration (given option.Out) _ (λ out.
    with_any IsSoundConfiguration (given option.Order) _ (λ order.
    and_then-holds AreDistinctTargets IsSoundConfiguration (targets_or_default (given option.Targets)) _
    (targets_sound (given option.Targets))
    (λ targets differ.
    where_true IsSoundConfiguration (is_other out (Some list) && is_other out (Some order)) _ (λ is.
    let parts = and_parts (is_other out (Some list)) _ is in record {
      targets = differ;
      list = other_path out list parts.0;
      order = other_path out order parts.1;
    })))))

graph_sound : (given : Given) → IfSome (graph_of given) IsSoundConfiguration
graph_sound given =
    with_any IsSoundConfiguration (given option.List) _ (λ list.
    and_then-holds (λ k. k ≤ 11) IsSoundConfiguration (and_then (given option.After) mutator_number) _
    (with_any (λ k. k ≤ 11) (given option.After) mutator_number mutator_sound) (λ after most.
    and_then-holds AreWorkers IsSoundConfiguration (workers_of (given option.Jobs)) _
    (workers_sound (given option.Jobs)) (λ workers few.
    and_then-holds AreDistinctTargets IsSoundConfiguration (targets_or_default (given option.Targets)) _
    (targets_sound (given option.Targets))
    (λ targets differ. record { after = most; workers = few; targets = differ }))))

synth_sound : (given : Given) → IfSome (synth_of given) IsSoundConfiguration
synth_sound given =
    with_any IsSoundConfiguration (and_then (given option.Seed) (number_in 0 4294967295)) _ (λ seed.
    and_then-holds (λ n. (1 ≤ n) × (n ≤ MOST_SYNTHETIC_MODULES)) IsSoundConfiguration
    (and_then (given option.Modules) (number_in 1 MOST_SYNTHETIC_MODULES)) _
    (with_any (λ n. (1 ≤ n) × (n ≤ MOST_SYNTHETIC_MODULES)) (given option.Modules)
    (number_in 1 MOST_SYNTHETIC_MODULES) (number_within 1 MOST_SYNTHETIC_MODULES))
    (λ modules within.
    and_then-holds AreWorkers IsSoundConfiguration (workers_of (given option.Jobs)) _
    (workers_sound (given option.Jobs))
    (λ workers few. record { some = within.0; few = within.1; workers = few })))

format_sound : (given : Given) → IfSome (format_of given) IsSoundConfiguration
format_sound given =
    with_any IsSoundConfiguration (given option.In) _
    (λ file. with_any IsSoundConfiguration (given option.Out) _ (λ out. tt))

identifier : (word : List ℕ) → is_identifier word ≡ true → IsIdentifier word
identifier [] is = absurd (cc)
identifier (first ∷ more) is =
    let parts = and_parts (is_first_byte first) _ is in
    (first, more, refl, parts.0, (and_parts (is_further_byte first) _ parts.1).1)

edit_sound : (given : Given) → IfSome (edit_of given) IsSoundConfiguration
edit_sound given =
    with_any IsSoundConfiguration (given option.In) _
    (λ file. with_any IsSoundConfiguration (given option.Out) _ (λ out.
    with_any IsSoundConfiguration (given option.Module) _
    (λ name. with_any IsSoundConfiguration (given option.Property) _ (λ property.
    with_any IsSoundConfiguration (items_or_none (given option.Items)) _ (λ items.
    where_true IsSoundConfiguration (is_identifier property) _ (λ is. record { property = identifier property is }))))))

by_command : (c : CommandName) (given : Given) → IfSome (configuration_by c given) IsSoundConfiguration
by_command Build = build_sound
by_command Replay = replay_sound
by_command Graph = graph_sound
by_command Synth = synth_sound
by_command Format = format_sound
by_command Edit = edit_sound

where_plain : {X : Type 0} (P : X → Type 0) (b : Bool) (x : Option X) → IfSome x P → IfSome (if b then x else None) P
where_plain P true x holds = holds
where_plain P false x holds = tt

pub sound_plain : (words : List (List ℕ)) → IfSome (configuration_of_plain words) IsSoundConfiguration
sound_plain [] = tt
sound_plain (word ∷ words) =
    with_any IsSoundConfiguration (command_named word) _
    (λ c. with_any IsSoundConfiguration (option_pairs c words) _ (λ ps.
    where_plain IsSoundConfiguration (are_plain_pairs c ps) _ (by_command c (option_value ps))))

pub sound : (words : List (List ℕ)) → IfSome (configuration_of words) IsSoundConfiguration
sound words = sound_plain (plain_words words)
