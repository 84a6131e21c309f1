-- Words give a configuration exactly where no cause is in them.
use Rattle.std.proofs.Common.{◌≡◌, ◌∙◌, ℕ, Bool, true, false, List, [], ◌∷◌, ◌++◌, ap, ap₂, refl, sym, subst}
use Rattle.std.proofs.Common.{append_assoc}
use Rattle.std.proofs.Math.Path.{fun_ext}
use Rattle.std.specs.Prelude.{Option, Some, None, IfSome, not, ◌&&◌, ◌||◌, is_some, find, filter_map}
use Rattle.std.specs.Prelude.{option_to_list, if◌then◌else◌, IsSome, ◌↔◌}
use Rattle.std.specs.List.{list_all, list_any, cons_option}
use Rattle.std.specs.Str.{bytes_eq}
use Rattle.std.proofs.lemmas.Bool.{and_parts, or_parts}
use Rattle.std.proofs.lemmas.List.{map-append}
use Rattle.std.proofs.lemmas.Slice.Eq.{bytes_eq-Decides}
use Rattle.bp_faults.specs.declared.limits.TheConstants.{MOST_SYNTHETIC_MODULES}
use Rattle.command_words.specs.declared.cause.Cause.{Cause}
use Rattle.command_words.specs.declared.command.CommandName.{CommandName}
use Rattle.command_words.specs.declared.command.CommandName.TheVariants.{Build, Replay, Graph, Synth, Format, Edit}
use Rattle.command_words.specs.declared.configuration.Configuration.{Configuration}
use Rattle.command_words.specs.declared.configuration.Configuration.TheVariants as configuration
use Rattle.command_words.specs.declared.option.OptionName.{OptionName}
use Rattle.command_words.specs.declared.option.OptionName.TheVariants as option
use Rattle.command_words.specs.declared.pairs.Pair.{Pair}
use Rattle.command_words.specs.Causes.{causes_among, causes_at, causes_behind, causes_of_plain, causes_of, equal_cause}
use Rattle.command_words.specs.Causes.{equal_causes, first_cause, is_equal_path, missing_cause, missing_causes}
use Rattle.command_words.specs.Causes.{path_causes}
use Rattle.command_words.specs.Causes.{place_causes, value_cause, word_cause}
use Rattle.command_words.specs.Forms.{value_form, has_form, is_value_of}
use Rattle.command_words.specs.Once.{has_none_twice}
use Rattle.command_words.specs.Options.{apart_of, command_named, is_required, is_same, is_spelling, option_name}
use Rattle.command_words.specs.Options.{options_of}
use Rattle.command_words.specs.Places.{Place, is_given, is_option, place_of, places_of, given_value}
use Rattle.command_words.specs.Plain.{plain_words}
use Rattle.command_words.specs.Values.{is_identifier, is_option_value, mutator_number, number_in, with_first}
use Rattle.command_words.specs.Words.{Given, and_then, are_plain_pairs, build_of, configuration_behind}
use Rattle.command_words.specs.Words.{configuration_by, configuration_of, configuration_of_pairs}
use Rattle.command_words.specs.Words.{configuration_of_plain}
use Rattle.command_words.specs.Words.{edit_of, format_of, graph_of, has_option, has_required, is_other}
use Rattle.command_words.specs.Words.{is_same_option, items_or_none, option_of, option_pairs, option_value, pair_with}
use Rattle.command_words.specs.Words.{replay_of, synth_of, targets_or_default, workers_of}
use Rattle.command_words.proofs.Finding.{first-none, had, options_in}
use Rattle.command_words.proofs.Reading.{first_pair}

-- ---- tests

both : (a b : Bool) → a ≡ true → b ≡ true → (a && b) ≡ true
both true true x y = refl
both true false x y = absurd (cc)
both false b x y = absurd (cc)

is_not : (b : Bool) → not b ≡ true → b ≡ false
is_not true e = absurd (cc)
is_not false e = refl

no_cause : (b : Bool) (cause : Cause) → (if b then Some cause else None) ≡ None → b ≡ false
no_cause true cause none = absurd (cc)
no_cause false cause none = refl

some_if : {X : Type 0} (b : Bool) (x : X) → is_some (if b then Some x else None) ≡ b
some_if true x = refl
some_if false x = refl

some_where : {X : Type 0} (b : Bool) (x : Option X) → is_some (if b then x else None) ≡ (b && is_some x)
some_where true x = refl
some_where false x = refl

-- what there is, where there is something
it_is : {X : Type 0} (x : Option X) → is_some x ≡ true → (a : X) × (x ≡ Some a)
it_is None some = absurd (cc)
it_is (Some a) some = (a, refl)

-- ---- lists without an element

nothing_before : {X : Type 0} (xs ys : List X) → xs ++ ys ≡ [] → (xs ≡ []) × (ys ≡ [])
nothing_before [] ys none = (refl, none)
nothing_before (x ∷ xs) ys none = absurd (cc)

nothing_at : {X : Type 0} (x : Option X) → option_to_list x ≡ [] → x ≡ None
nothing_at None none = refl
nothing_at (Some a) none = absurd (cc)

nothing_first : {X : Type 0} (x : Option X) (xs : List X) → cons_option x xs ≡ [] → (x ≡ None) × (xs ≡ [])
nothing_first None xs none = (refl, none)
nothing_first (Some a) xs none = absurd (cc)

nothing_of : {X Y : Type 0} (h : X → Option Y) (P : X → Bool) (xs : List X)
    → ((x : X) → h x ≡ None → P x ≡ true) → filter_map h xs ≡ [] → list_all P xs ≡ true
nothing_of h P [] each none = refl
nothing_of h P (x ∷ xs) each none =
    let parts = nothing_first (h x) (filter_map h xs) none in
    both (P x) (list_all P xs) (each x parts.0) (nothing_of h P xs each parts.1)

of_nothing : {X Y : Type 0} (h : X → Option Y) (P : X → Bool) (xs : List X)
    → ((x : X) → P x ≡ true → h x ≡ None) → list_all P xs ≡ true → filter_map h xs ≡ []
of_nothing h P [] each all = refl
of_nothing h P (x ∷ xs) each all =
    let parts = and_parts (P x) (list_all P xs) all in
    ap₂ cons_option (each x parts.0) (of_nothing h P xs each parts.1)

-- ---- options by their names

-- the option of a name
named_by : List ℕ → Option OptionName
named_by word =
    find (λ o. bytes_eq (option_name o) word)
    (option.List ∷ option.Out ∷ option.Jobs ∷ option.Targets ∷ option.Journal ∷ option.Order ∷ option.After
    ∷ option.Seed ∷ option.Modules ∷ option.In ∷ option.Module ∷ option.Property ∷ option.Items ∷ [])

named_back : (o : OptionName) → named_by (option_name o) ≡ Some o
unfolding named_by
named_back option.List = refl
named_back option.Out = refl
named_back option.Jobs = refl
named_back option.Targets = refl
named_back option.Journal = refl
named_back option.Order = refl
named_back option.After = refl
named_back option.Seed = refl
named_back option.Modules = refl
named_back option.In = refl
named_back option.Module = refl
named_back option.Property = refl
named_back option.Items = refl

same_option : (a b : OptionName) → is_same a b ≡ true → a ≡ b
same_option a b same =
    let names = (bytes_eq-Decides (option_name a) (option_name b)).0 same in
    let both_are : ◌≡◌ {A = Option OptionName} (Some a) (Some b) =
    sym (named_back a) ∙ ap named_by names ∙ named_back b in
    cc

same_itself : (o : OptionName) → is_same o o ≡ true
same_itself o = (bytes_eq-Decides (option_name o) (option_name o)).1 refl

-- ---- values that are given

-- What is given to an option has its form, and is there where it must be.
abbrev fits : OptionName → Option (List ℕ) → Bool
fits o None = not (is_required o)
fits o (Some value) = has_form (value_form o) value

abbrev all_fit : CommandName → Given → Bool
all_fit c given = list_all (λ o. fits o (given o)) (options_of c)

-- OUT is none of the paths from which it differs.
abbrev is_apart : List OptionName → Given → Option (List ℕ) → Bool
is_apart os given None = true
is_apart os given (Some out) = list_all (λ o. not (is_equal_path out (given o))) os

abbrev keeps_apart : CommandName → Given → Bool
keeps_apart c given = is_apart (apart_of c) given (given option.Out)

-- A value that is read, and then the others; `k` is what holds beside them.
chain : {X Y : Type 0} (x : Option X) (next : X → Option Y) (a z k : Bool) → is_some x ≡ a
    → ((y : X) → x ≡ Some y → is_some (next y) ≡ (z && k)) → is_some (and_then x next) ≡ ((a && z) && k)
chain None next a z k is rest = subst (λ (b : Bool). false ≡ ((b && z) && k)) is refl
chain (Some y) next a z k is rest = subst (λ (b : Bool). is_some (next y) ≡ ((b && z) && k)) is (rest y refl)

path_fits : (x : Option (List ℕ)) → is_some x ≡ fits option.Out x
path_fits None = refl
path_fits (Some value) = refl

journal_fits : (x : Option (List ℕ)) → fits option.Journal x ≡ true
journal_fits None = refl
journal_fits (Some value) = refl

workers_fit : (x : Option (List ℕ)) → is_some (workers_of x) ≡ fits option.Jobs x
workers_fit None = refl
workers_fit (Some value) = refl

targets_fit : (x : Option (List ℕ)) → is_some (targets_or_default x) ≡ fits option.Targets x
targets_fit None = refl
targets_fit (Some value) = refl

items_fit : (x : Option (List ℕ)) → is_some (items_or_none x) ≡ fits option.Items x
items_fit None = refl
items_fit (Some value) = refl

mutator_fits : (x : Option (List ℕ)) → is_some (and_then x mutator_number) ≡ fits option.After x
mutator_fits None = refl
mutator_fits (Some value) = refl

seed_fits : (x : Option (List ℕ)) → is_some (and_then x (number_in 0 4294967295)) ≡ fits option.Seed x
seed_fits None = refl
seed_fits (Some value) = refl

modules_fit : (x : Option (List ℕ))
    → is_some (and_then x (number_in 1 MOST_SYNTHETIC_MODULES)) ≡ fits option.Modules x
modules_fit None = refl
modules_fit (Some value) = refl

other_is : (out : List ℕ) (x : Option (List ℕ)) → is_other out x ≡ not (is_equal_path out x)
other_is out None = refl
other_is out (Some path) = refl

none_apart : (given : Given) (x : Option (List ℕ)) → is_apart [] given x ≡ true
none_apart given None = refl
none_apart given (Some out) = refl

and_true : (a : Bool) → (a && true) ≡ a
and_true true = refl
and_true false = refl

two_apart : (out list : List ℕ) (given : Given) (a b : OptionName) → given a ≡ Some list → given option.Out ≡ Some out
    → (is_other out (Some list) && is_other out (given b)) ≡ is_apart (a ∷ b ∷ []) given (given option.Out)
two_apart out list given a b first is =
    ap₂ (λ (x y : Bool). x && y) (ap (is_other out) (sym first) ∙ other_is out (given a))
    (other_is out (given b) ∙ sym (and_true (not (is_equal_path out (given b)))))
    ∙ ap (is_apart (a ∷ b ∷ []) given) (sym is)

with_true : (n k : Bool) → n ≡ true → k ≡ ((n && true) && k)
with_true n k is = subst (λ (b : Bool). k ≡ ((b && true) && k)) (sym is) refl

-- ---- what each command is given

build_is : (given : Given) → is_some (build_of given) ≡ (all_fit Build given && keeps_apart Build given)
build_is given =
    chain (given option.List) _ _ _ (keeps_apart Build given) (path_fits (given option.List))
    (λ list first. chain (given option.Out) _ _ _ (keeps_apart Build given) (path_fits (given option.Out))
    (λ out is. chain (workers_of (given option.Jobs)) _ _ _ (keeps_apart Build given) (workers_fit (given option.Jobs))
    (λ workers w. chain (targets_or_default (given option.Targets)) _ _ _ (keeps_apart Build given)
    (targets_fit (given option.Targets))
    (λ targets t. some_if (is_other out (Some list) && is_other out (given option.Journal)) _
    ∙ two_apart out list given option.List option.Journal first is
    ∙ with_true (fits option.Journal (given option.Journal)) _ (journal_fits (given option.Journal))))))

replay_is : (given : Given) → is_some (replay_of given) ≡ (all_fit Replay given && keeps_apart Replay given)
replay_is given =
    chain (given option.List) _ _ _ (keeps_apart Replay given) (path_fits (given option.List))
    (λ list first. chain (given option.Out) _ _ _ (keeps_apart Replay given) (path_fits (given option.Out))
    (λ out is. chain (given option.Order) _ _ _ (keeps_apart Replay given) (path_fits (given option.Order))
    (λ order second. chain (targets_or_default (given option.Targets)) _ _ _ (keeps_apart Replay given)
    (targets_fit (given option.Targets))
    (λ targets t. some_if (is_other out (Some list) && is_other out (Some order)) _
    ∙ ap (λ (x : Option (List ℕ)). is_other out (Some list) && is_other out x) (sym second)
    ∙ two_apart out list given option.List option.Order first is))))

graph_is : (given : Given) → is_some (graph_of given) ≡ (all_fit Graph given && keeps_apart Graph given)
graph_is given =
    chain (given option.List) _ _ _ (keeps_apart Graph given) (path_fits (given option.List))
    (λ list first. chain (and_then (given option.After) mutator_number) _ _ _ (keeps_apart Graph given)
    (mutator_fits (given option.After))
    (λ after a. chain (workers_of (given option.Jobs)) _ _ _ (keeps_apart Graph given) (workers_fit (given option.Jobs))
    (λ workers w. chain (targets_or_default (given option.Targets)) _ _ _ (keeps_apart Graph given)
    (targets_fit (given option.Targets)) (λ targets t. sym (none_apart given (given option.Out))))))

synth_is : (given : Given) → is_some (synth_of given) ≡ (all_fit Synth given && keeps_apart Synth given)
synth_is given =
    chain (and_then (given option.Seed) (number_in 0 4294967295)) _ _ _ (keeps_apart Synth given)
    (seed_fits (given option.Seed))
    (λ seed s. chain (and_then (given option.Modules) (number_in 1 MOST_SYNTHETIC_MODULES)) _ _ _
    (keeps_apart Synth given) (modules_fit (given option.Modules))
    (λ modules m. chain (workers_of (given option.Jobs)) _ _ _ (keeps_apart Synth given)
    (workers_fit (given option.Jobs)) (λ workers w. sym (none_apart given (given option.Out)))))

format_is : (given : Given) → is_some (format_of given) ≡ (all_fit Format given && keeps_apart Format given)
format_is given =
    chain (given option.In) _ _ _ (keeps_apart Format given) (path_fits (given option.In))
    (λ file f. chain (given option.Out) _ _ _ (keeps_apart Format given) (path_fits (given option.Out))
    (λ out o. sym (none_apart given (given option.Out))))

-- The last two values of `edit`: the property is looked at behind the items.
items_read : {X Y : Type 0} (x : Option X) (make : X → Y) (b i : Bool) → is_some x ≡ i
    → is_some (and_then x (λ y. if b then Some (make y) else None)) ≡ (i && b)
items_read None make b i is = subst (λ (j : Bool). false ≡ (j && b)) is refl
items_read (Some y) make b i is = some_if b (make y) ∙ subst (λ (j : Bool). b ≡ (j && b)) is refl

in_order : (b i k : Bool) → k ≡ true → (i && b) ≡ ((b && (i && true)) && k)
in_order true true k is = sym is
in_order true false k is = refl
in_order false true k is = refl
in_order false false k is = refl

property_fits : {X Y : Type 0} (p : Option (List ℕ)) (x : Option X) (make : List ℕ → X → Y) (i k : Bool)
    → is_some x ≡ i → k ≡ true
    → is_some (and_then p (λ v. and_then x (λ y. if is_identifier v then Some (make v y) else None)))
    ≡ ((fits option.Property p && (i && true)) && k)
property_fits None x make i k is holds = refl
property_fits (Some v) x make i k is holds =
    items_read x (make v) (is_identifier v) i is ∙ in_order (is_identifier v) i k holds

edit_is : (given : Given) → is_some (edit_of given) ≡ (all_fit Edit given && keeps_apart Edit given)
edit_is given =
    chain (given option.In) _ _ _ (keeps_apart Edit given) (path_fits (given option.In))
    (λ file f. chain (given option.Out) _ _ _ (keeps_apart Edit given) (path_fits (given option.Out))
    (λ out o. chain (given option.Module) _ _ _ (keeps_apart Edit given) (path_fits (given option.Module))
    (λ name m. property_fits (given option.Property) (items_or_none (given option.Items))
    (λ property items. configuration.Edit (record {
      file = file;
      out = out;
      name = name;
      property = property;
      items = items;
    }))
    (fits option.Items (given option.Items)) (keeps_apart Edit given) (items_fit (given option.Items))
    (none_apart given (given option.Out)))))

by_command : (c : CommandName) (given : Given)
    → is_some (configuration_by c given) ≡ (all_fit c given && keeps_apart c given)
by_command Build = build_is
by_command Replay = replay_is
by_command Graph = graph_is
by_command Synth = synth_is
by_command Format = format_is
by_command Edit = edit_is

-- ---- what pairs give

-- The values of the pairs are those of their options.
abbrev all_values : List Pair → Bool
all_values = list_all (λ p. is_value_of p.option p.value)

abbrev all_texts : List Pair → Bool
all_texts = list_all (λ p. is_option_value p.value)

has_first : (p : Pair) (ps : List Pair) (o : OptionName) (b : Bool) → is_same p.option o ≡ b
    → has_option o ps ≡ is_some (option_value ps o) → has_option o (p ∷ ps) ≡ is_some (option_value (p ∷ ps) o)
has_first p ps o true is rest = rw is refl
has_first p ps o false is rest = rw is rest

has_is : (ps : List Pair) (o : OptionName) → has_option o ps ≡ is_some (option_value ps o)
has_is [] o = refl
has_is (p ∷ ps) o = has_first p ps o (is_same p.option o) refl (has_is ps o)

texts_are : (ps : List Pair) → all_values ps ≡ true → all_texts ps ≡ true
texts_are [] values = refl
texts_are (p ∷ ps) values =
    let parts = and_parts (is_value_of p.option p.value) (all_values ps) values in
    let here = and_parts (is_option_value p.value) (has_form (value_form p.option) p.value) parts.0 in
    both (is_option_value p.value) (all_texts ps) here.0 (texts_are ps parts.1)

value_first : (p : Pair) (ps : List Pair) (o : OptionName) (b : Bool) → is_same p.option o ≡ b
    → (b ≡ true → is_value_of o p.value ≡ true) → IfSome (option_value ps o) (λ v. is_value_of o v ≡ true)
    → IfSome (option_value (p ∷ ps) o) (λ v. is_value_of o v ≡ true)
value_first p ps o true is here rest = rw is (here refl)
value_first p ps o false is here rest = rw is rest

-- the value that pairs give to an option is one of the option's
value_is : (ps : List Pair) (o : OptionName) → all_values ps ≡ true
    → IfSome (option_value ps o) (λ v. is_value_of o v ≡ true)
value_is [] o values = tt
value_is (p ∷ ps) o values =
    let parts = and_parts (is_value_of p.option p.value) (all_values ps) values in
    value_first p ps o (is_same p.option o) refl
    (λ same. subst (λ (x : OptionName). is_value_of x p.value ≡ true) (same_option p.option o same) parts.0)
    (value_is ps o parts.1)

or_false : (a : Bool) → (a || false) ≡ a
or_false true = refl
or_false false = refl

fit_at : (o : OptionName) (x : Option (List ℕ)) (given : Bool) → given ≡ is_some x
    → (not (is_required o) || given) ≡ true
    → IfSome x (λ v. is_value_of o v ≡ true) → fits o x ≡ true
fit_at o None given is required value =
    sym (or_false (not (is_required o)))
    ∙ ap (λ (b : Bool). not (is_required o) || b) (sym is)
    ∙ required
fit_at o (Some v) given is required value = (and_parts (is_option_value v) (has_form (value_form o) v) value).1

all_fit_here : (ps : List Pair) (os : List OptionName) → all_values ps ≡ true
    → list_all (λ o. not (is_required o) || has_option o ps) os ≡ true
    → list_all (λ o. fits o (option_value ps o)) os ≡ true
all_fit_here ps [] values required = refl
all_fit_here ps (o ∷ os) values required =
    let parts = and_parts (not (is_required o) || has_option o ps)
    (list_all (λ o. not (is_required o) || has_option o ps) os) required in
    both (fits o (option_value ps o)) (list_all (λ o. fits o (option_value ps o)) os)
    (fit_at o (option_value ps o) (has_option o ps) (has_is ps o) parts.0 (value_is ps o values))
    (all_fit_here ps os values parts.1)

-- ---- the pairs of words

found_first : (P test : OptionName → Bool) (x : OptionName) (os : List OptionName) (o : OptionName) (b : Bool)
    → test x ≡ b → P x ≡ true → (find test os ≡ Some o → P o ≡ true) → find test (x ∷ os) ≡ Some o → P o ≡ true
found_first P test x os o true here holds rest is =
    let some : ◌≡◌ {A = Option OptionName} (Some x) (Some o) = rw here at is in
    let same : x ≡ o = cc in
    subst (λ (y : OptionName). P y ≡ true) same holds
found_first P test x os o false here holds rest is = rest (rw here at is)

found_holds : (P test : OptionName → Bool) (os : List OptionName) (o : OptionName) → list_all P os ≡ true
    → find test os ≡ Some o → P o ≡ true
found_holds P test [] o all is = absurd (cc)
found_holds P test (x ∷ os) o all is =
    let parts = and_parts (P x) (list_all P os) all in
    found_first P test x os o (test x) refl parts.0 (found_holds P test os o parts.1) is

-- what holds of a command's options holds of those of its pairs
pairs_hold : (c : CommandName) (P : OptionName → Bool) (words : List (List ℕ)) (ps : List Pair)
    → list_all P (options_of c) ≡ true → option_pairs c words ≡ Some ps → list_all (λ p. P p.option) ps ≡ true
pairs_hold c P [] ps all are =
    let none : [] ≡ ps = cc in subst (λ (qs : List Pair). list_all (λ p. P p.option) qs ≡ true) none refl
pairs_hold c P (word ∷ []) ps all are = absurd (cc)
pairs_hold c P (word ∷ value ∷ rest) ps all are =
    let first = first_pair c word value rest ps are in
    subst (λ (qs : List Pair). list_all (λ p. P p.option) qs ≡ true) (sym first.are)
    (both (P first.option) (list_all (λ p. P p.option) first.more)
    (found_holds P (λ o. is_spelling o word) (options_of c) first.option all first.named)
    (pairs_hold c P rest first.more all first.behind))

value_behind : (before : List Pair) (p : Pair) (ps : List Pair)
    → list_any (λ q. is_same_option q p) before ≡ false → option_value (before ++ p ∷ ps) p.option ≡ Some p.value
value_behind [] p ps new = rw (same_itself p.option) refl
value_behind (q ∷ before) p ps new =
    let parts = or_parts (is_same_option q p) (list_any (λ q. is_same_option q p) before) new in
    rw parts.0 (value_behind before p ps parts.1)

-- pairs of which each option stands once have its value
values_back : (all before ps : List Pair) → all ≡ before ++ ps → has_none_twice is_same_option before ps ≡ true
    → all_texts ps ≡ true → list_all (λ p. fits p.option (option_value all p.option)) ps ≡ true → all_values ps ≡ true
values_back all before [] are once texts fit = refl
values_back all before (p ∷ ps) are once texts fit =
    let new = and_parts (not (list_any (λ q. is_same_option q p) before)) _ once in
    let text = and_parts (is_option_value p.value) (all_texts ps) texts in
    let here = and_parts (fits p.option (option_value all p.option)) _ fit in
    let value : option_value all p.option ≡ Some p.value =
    ap (λ (qs : List Pair). option_value qs p.option) are ∙ value_behind before p ps (is_not _ new.0) in
    both (is_value_of p.option p.value) (all_values ps)
    (both (is_option_value p.value) (has_form (value_form p.option) p.value) text.0
    (ap (fits p.option) (sym value) ∙ here.0))
    (values_back all (before ++ p ∷ []) ps (are ∙ sym (append_assoc before (p ∷ []) ps)) new.1 text.1 here.1)

-- ---- places and pairs

given_is : (c : CommandName) (words : List (List ℕ)) (ps : List Pair) (o : OptionName) → option_pairs c words ≡ Some ps
    → is_given (places_of c words) o ≡ has_option o ps
given_is c [] ps o are = let none : [] ≡ ps = cc in ap (has_option o) none
given_is c (word ∷ []) ps o are = absurd (cc)
given_is c (word ∷ value ∷ rest) ps o are =
    let first = first_pair c word value rest ps are in
    ap₂ (λ (x y : Bool). x || y) (ap (is_option o) first.named) (given_is c rest first.more o first.behind)
    ∙ ap (has_option o) (sym first.are)

value_at_first : (c : CommandName) (word value : List ℕ) (places : List Place) (ps : List Pair)
    (x : Option OptionName) (other o : OptionName) (b : Bool) → x ≡ Some other → is_same other o ≡ b
    → given_value places o ≡ option_value ps o
    → given_value ((record { word = word; option = x; value = Some value }) ∷ places) o
    ≡ option_value ((record { option = other; value = value }) ∷ ps) o
value_at_first c word value places ps x other o true is same rest = rw (is, same) refl
value_at_first c word value places ps x other o false is same rest = rw (is, same) rest

value_at_is : (c : CommandName) (words : List (List ℕ)) (ps : List Pair) (o : OptionName)
    → option_pairs c words ≡ Some ps → given_value (places_of c words) o ≡ option_value ps o
value_at_is c [] ps o are =
    let none : [] ≡ ps = cc in ap (λ (qs : List Pair). option_value qs o) none
value_at_is c (word ∷ []) ps o are = absurd (cc)
value_at_is c (word ∷ value ∷ rest) ps o are =
    let first = first_pair c word value rest ps are in
    value_at_first c word value (places_of c rest) first.more (option_of c word) first.option o
    (is_same first.option o) first.named refl (value_at_is c rest first.more o first.behind)
    ∙ ap (λ (qs : List Pair). option_value qs o) (sym first.are)

-- ---- the causes at places

kept : (b : Bool) (cause : Cause) → (if b then None else Some cause) ≡ None → b ≡ true
kept true cause none = refl
kept false cause none = absurd (cc)

-- A place without a cause is a pair.
record Plain (c : CommandName) (before : List OptionName) (value : List ℕ) (x : Option OptionName) : Type 0 where
  pub option : OptionName
  pub named : x ≡ Some option
  pub new : list_any (λ b. is_same b option) before ≡ false
  pub fits : is_value_of option value ≡ true

place_plain : (c : CommandName) (before : List OptionName) (word value : List ℕ) (x : Option OptionName)
    → place_causes c before (record { word = word; option = x; value = Some value }) ≡ [] → Plain c before value x
place_plain c before word value None none = absurd (cc)
place_plain c before word value (Some o) none =
    let parts = nothing_before (option_to_list (word_cause c before word (Some o)))
    (option_to_list (value_cause word (Some o) (Some value))) none in
    record {
      option = o;
      named = refl;
      new = no_cause _ _ (nothing_at _ parts.0);
      fits = kept _ _ (nothing_at _ parts.1);
    }

place_alone : (c : CommandName) (before : List OptionName) (word : List ℕ) (x : Option OptionName)
    → place_causes c before (record { word = word; option = x; value = None }) ≡ [] → ⊥
place_alone c before word None none = absurd (cc)
place_alone c before word (Some o) none =
    let parts = nothing_before (option_to_list (word_cause c before word (Some o)))
    (option_to_list (value_cause word (Some o) None)) none in
    absurd (cc (parts.1))

place_passes : (c : CommandName) (before : List OptionName) (word value : List ℕ) (x : Option OptionName)
    (o : OptionName) → x ≡ Some o → list_any (λ b. is_same b o) before ≡ false → is_value_of o value ≡ true
    → place_causes c before (record { word = word; option = x; value = Some value }) ≡ []
place_passes c before word value x o named new fits = rw (named, new, fits) refl

-- Words without a cause at their places are these pairs.
record Passed (c : CommandName) (words : List (List ℕ)) (before : List Pair) : Type 0 where
  pub pairs : List Pair
  pub are : option_pairs c words ≡ Some pairs
  pub values : all_values pairs ≡ true
  pub once : has_none_twice is_same_option before pairs ≡ true

options_more : (before : List Pair) (p : Pair) → options_in before ++ p.option ∷ [] ≡ options_in (before ++ p ∷ [])
options_more before p = sym (map-append (λ (q : Pair). q.option) before (p ∷ []))

twice_is : (before : List Pair) (p : Pair)
    → list_any (λ q. is_same_option q p) before ≡ list_any (λ b. is_same b p.option) (options_in before)
twice_is before p = sym (had before p.option)

passed : (c : CommandName) (words : List (List ℕ)) (before : List Pair)
    → causes_at c (options_in before) (places_of c words) ≡ [] → Passed c words before
passed c [] before none = record { pairs = []; are = refl; values = refl; once = refl }
passed c (word ∷ []) before none =
    absurd (place_alone c (options_in before) word (option_of c word)
    (nothing_before (place_causes c (options_in before) (place_of c word None)) [] none).0)
passed c (word ∷ value ∷ rest) before none =
    let parts = nothing_before (place_causes c (options_in before) (place_of c word (Some value)))
    (causes_at c (options_in before ++ option_to_list (option_of c word)) (places_of c rest)) none in
    let here = place_plain c (options_in before) word value (option_of c word) parts.0 in
    let p : Pair = record { option = here.option; value = value } in
    let more = passed c rest (before ++ p ∷ [])
    (ap (λ (os : List OptionName). causes_at c os (places_of c rest)) (sym (options_more before p))
    ∙ ap (λ (x : Option OptionName). causes_at c (options_in before ++ option_to_list x) (places_of c rest))
    (sym here.named) ∙ parts.1) in
    record {
      pairs = p ∷ more.pairs;
      are =
          ap₂ (λ (x : Option OptionName) (xs : Option (List Pair)). with_first (pair_with value x) xs) here.named
          more.are;
      values = both (is_value_of here.option value) (all_values more.pairs) here.fits more.values;
      once =
          both (not (list_any (λ q. is_same_option q p) before))
          (has_none_twice is_same_option (before ++ p ∷ []) more.pairs) (ap not (twice_is before p ∙ here.new))
          more.once;
    }

passes : (c : CommandName) (words : List (List ℕ)) (before ps : List Pair) → option_pairs c words ≡ Some ps
    → all_values ps ≡ true → has_none_twice is_same_option before ps ≡ true
    → causes_at c (options_in before) (places_of c words) ≡ []
passes c [] before ps are values once = refl
passes c (word ∷ []) before ps are values once = absurd (cc)
passes c (word ∷ value ∷ rest) before ps are values once =
    let first = first_pair c word value rest ps are in
    let p : Pair = record { option = first.option; value = value } in
    let values_here = and_parts (is_value_of first.option value) (all_values first.more)
    (subst (λ (qs : List Pair). all_values qs ≡ true) first.are values) in
    let once_here = and_parts (not (list_any (λ q. is_same_option q p) before))
    (has_none_twice is_same_option (before ++ p ∷ []) first.more)
    (subst (λ (qs : List Pair). has_none_twice is_same_option before qs ≡ true) first.are once) in
    ap₂ (λ (xs ys : List Cause). xs ++ ys)
    (place_passes c (options_in before) word value (option_of c word) first.option first.named
    (sym (twice_is before p) ∙ is_not _ once_here.0) values_here.0)
    (ap (λ (x : Option OptionName). causes_at c (options_in before ++ option_to_list x) (places_of c rest)) first.named
    ∙ ap (λ (os : List OptionName). causes_at c os (places_of c rest)) (options_more before p)
    ∙ passes c rest (before ++ p ∷ []) first.more first.behind values_here.1 once_here.1)

-- ---- options that are missing, and paths

is_there : (r g : Bool) → (r && not g) ≡ false → (not r || g) ≡ true
is_there true true none = refl
is_there true false none = absurd (cc)
is_there false g none = refl

is_not_missing : (r g : Bool) (cause : Cause) → (not r || g) ≡ true → (if r && not g then Some cause else None) ≡ None
is_not_missing true true cause there = refl
is_not_missing true false cause there = absurd (cc)
is_not_missing false g cause there = refl

all_there : (c : CommandName) (given : OptionName → Bool) → missing_causes c given ≡ []
    → list_all (λ o. not (is_required o) || given o) (options_of c) ≡ true
all_there c given =
    nothing_of (missing_cause given) (λ o. not (is_required o) || given o) (options_of c)
    (λ o none. is_there (is_required o) (given o) (no_cause _ _ none))

none_missing : (c : CommandName) (given : OptionName → Bool)
    → list_all (λ o. not (is_required o) || given o) (options_of c) ≡ true → missing_causes c given ≡ []
none_missing c given =
    of_nothing (missing_cause given) (λ o. not (is_required o) || given o) (options_of c)
    (λ o there. is_not_missing (is_required o) (given o) _ there)

if_not : (b : Bool) (cause : Cause) → not b ≡ true → (if b then Some cause else None) ≡ None
if_not true cause is = absurd (cc)
if_not false cause is = refl

apart_from : (os : List OptionName) (given : Given) (x : Option (List ℕ)) → equal_causes os given x ≡ []
    → is_apart os given x ≡ true
apart_from os given None none = refl
apart_from os given (Some out) none =
    nothing_of (λ o. equal_cause out o (given o)) (λ o. not (is_equal_path out (given o))) os
    (λ o is. ap not (no_cause (is_equal_path out (given o)) _ is)) none

none_equal : (os : List OptionName) (given : Given) (x : Option (List ℕ)) → is_apart os given x ≡ true
    → equal_causes os given x ≡ []
none_equal os given None apart = refl
none_equal os given (Some out) apart =
    of_nothing (λ o. equal_cause out o (given o)) (λ o. not (is_equal_path out (given o))) os
    (λ o is. if_not (is_equal_path out (given o)) _ is) apart

-- ---- words behind a command

behind_is : (c : CommandName) (words : List (List ℕ)) (ps : List Pair) → option_pairs c words ≡ Some ps
    → is_some (configuration_behind words c)
    ≡ (are_plain_pairs c ps && is_some (configuration_by c (option_value ps)))
behind_is c words ps are =
    ap (λ (x : Option (List Pair)). is_some (and_then x (configuration_of_pairs c))) are
    ∙ some_where (are_plain_pairs c ps) (configuration_by c (option_value ps))

-- the causes among the places of words that are pairs
among : (c : CommandName) (words : List (List ℕ)) (ps : List Pair) → option_pairs c words ≡ Some ps
    → causes_among c (places_of c words)
    ≡ causes_at c [] (places_of c words)
    ++ (missing_causes c (λ o. has_option o ps) ++ path_causes c (option_value ps))
among c words ps are =
    ap₂ (λ (given : OptionName → Bool) (values : Given). causes_at c [] (places_of c words)
    ++ (missing_causes c given ++ path_causes c values)) (fun_ext (λ o. given_is c words ps o are))
    (fun_ext (λ o. value_at_is c words ps o are))

-- behind words that are pairs the first cause is in these
pub among_first : (c : CommandName) (words : List (List ℕ)) (ps qs : List Pair) → option_pairs c words ≡ Some ps
    → causes_at c [] (places_of c words) ≡ [] → qs ≡ ps
    → first_cause (missing_causes c (λ o. has_option o qs) ++ path_causes c (option_value qs))
    ≡ first_cause (causes_among c (places_of c words))
among_first c words ps qs are none same =
    ap (λ (rs : List Pair). first_cause (missing_causes c (λ o. has_option o rs) ++ path_causes c (option_value rs)))
    same
    ∙ sym (ap first_cause (among c words ps are)
    ∙ first-none (causes_at c [] (places_of c words)) (missing_causes c (λ o. has_option o ps)
    ++ path_causes c (option_value ps)) none)

accepted : (c : CommandName) (words : List (List ℕ)) → causes_among c (places_of c words) ≡ []
    → is_some (configuration_behind words c) ≡ true
accepted c words none =
    let first = nothing_before (causes_at c [] (places_of c words)) _ none in
    let here = passed c words [] first.0 in
    let ps = here.pairs in
    let all = nothing_before (causes_at c [] (places_of c words)) _ (sym (among c words ps here.are) ∙ none) in
    let last = nothing_before (missing_causes c (λ o. has_option o ps)) _ all.1 in
    let required = all_there c (λ o. has_option o ps) last.0 in
    behind_is c words ps here.are
    ∙ both (are_plain_pairs c ps) (is_some (configuration_by c (option_value ps)))
    (both (all_texts ps) (has_none_twice is_same_option [] ps && has_required c ps) (texts_are ps here.values)
    (both (has_none_twice is_same_option [] ps) (has_required c ps) here.once required))
    (by_command c (option_value ps)
    ∙ both (all_fit c (option_value ps)) (keeps_apart c (option_value ps))
    (all_fit_here ps (options_of c) here.values required)
    (apart_from (apart_of c) (option_value ps) (option_value ps option.Out) last.1))

pairs_there : (c : CommandName) (words : List (List ℕ)) (x : Option (List Pair)) → option_pairs c words ≡ x
    → is_some (and_then x (configuration_of_pairs c)) ≡ true → (ps : List Pair) × (option_pairs c words ≡ Some ps)
pairs_there c words None are some = absurd (cc)
pairs_there c words (Some ps) are some = (ps, are)

without_cause : (c : CommandName) (words : List (List ℕ)) → is_some (configuration_behind words c) ≡ true
    → causes_among c (places_of c words) ≡ []
without_cause c words some =
    let there = pairs_there c words (option_pairs c words) refl some in
    let ps = there.0 in
    let parts = and_parts (are_plain_pairs c ps) (is_some (configuration_by c (option_value ps)))
    (sym (behind_is c words ps there.1) ∙ some) in
    let plain = and_parts (all_texts ps) (has_none_twice is_same_option [] ps && has_required c ps) parts.0 in
    let kept_so = and_parts (has_none_twice is_same_option [] ps) (has_required c ps) plain.1 in
    let well = and_parts (all_fit c (option_value ps)) (keeps_apart c (option_value ps))
    (sym (by_command c (option_value ps)) ∙ parts.1) in
    let values = values_back ps [] ps refl kept_so.0 plain.0
    (pairs_hold c (λ o. fits o (option_value ps o)) words ps well.0 there.1) in
    among c words ps there.1
    ∙ ap₂ (λ (xs ys : List Cause). xs ++ ys) (passes c words [] ps there.1 values kept_so.0)
    (ap₂ (λ (xs ys : List Cause). xs ++ ys) (none_missing c (λ o. has_option o ps) kept_so.1)
    (none_equal (apart_of c) (option_value ps) (option_value ps option.Out) well.1))

-- ---- all words

accepted_plain : (word : List ℕ) (words : List (List ℕ)) (x : Option CommandName)
    → causes_behind word words x ≡ [] → is_some (and_then x (configuration_behind words)) ≡ true
accepted_plain word words None none = absurd (cc)
accepted_plain word words (Some c) none = accepted c words none

without_plain : (word : List ℕ) (words : List (List ℕ)) (x : Option CommandName)
    → is_some (and_then x (configuration_behind words)) ≡ true → causes_behind word words x ≡ []
without_plain word words None some = absurd (cc)
without_plain word words (Some c) some = without_cause c words some

all_accepted : (plain : List (List ℕ)) → causes_of_plain plain ≡ [] → is_some (configuration_of_plain plain) ≡ true
all_accepted [] none = absurd (cc)
all_accepted (word ∷ words) none = accepted_plain word words (command_named word) none

all_without : (plain : List (List ℕ)) → is_some (configuration_of_plain plain) ≡ true → causes_of_plain plain ≡ []
all_without [] some = absurd (cc)
all_without (word ∷ words) some = without_plain word words (command_named word) some

no_configuration : (causes : List Cause) (x : Option Configuration) → (is_some x ≡ true → causes ≡ [])
    → is_some (first_cause causes) ≡ true → x ≡ None
no_configuration causes None without some = refl
no_configuration causes (Some k) without some =
    let none = without refl in absurd (cc)

some_cause : (causes : List Cause) (x : Option Configuration) → (causes ≡ [] → is_some x ≡ true) → x ≡ None
    → is_some (first_cause causes) ≡ true
some_cause [] x accepted none = let some = accepted refl in absurd (cc)
some_cause (cause ∷ causes) x accepted none = refl

-- there is a cause exactly where there is no configuration
pub refused : (words : List (List ℕ)) → IsSome (first_cause (causes_of words)) ↔ (configuration_of words ≡ None)
refused words = (
  no_configuration (causes_of words) (configuration_of words) (all_without (plain_words words)),
  some_cause (causes_of words) (configuration_of words) (all_accepted (plain_words words)),
)
