-- Each cause holds of the words.
use Rattle.std.proofs.Common.{◌≡◌, ◌∙◌, ℕ, Bool, true, false, List, [], ◌∷◌, ◌++◌, ap, refl, sym, subst, append_assoc}
use Rattle.std.specs.Prelude.{Option, Some, None, IfSome, IsSomeAnd, not, ◌&&◌, ◌||◌, is_some, filter_map}
use Rattle.std.specs.Prelude.{option_to_list}
use Rattle.std.specs.Prelude.{if◌then◌else◌}
use Rattle.std.specs.List.{All, list_all, list_any, cons_option}
use Rattle.std.specs.Str.{bytes_eq}
use Rattle.std.proofs.lemmas.Bool.{and_parts}
use Rattle.std.proofs.lemmas.List.Elements.{All-append, All-cons, All-head, All-nil}
use Rattle.std.proofs.lemmas.Slice.Eq.{bytes_eq-Decides}
use Rattle.command_words.specs.declared.cause.Cause.{Cause}
use Rattle.command_words.specs.declared.cause.Cause.TheVariants.{NoCommand, UnknownCommand, UnknownOption, OptionTwice}
use Rattle.command_words.specs.declared.cause.Cause.TheVariants.{ValueMissing, ValueOutOfForm, OptionMissing}
use Rattle.command_words.specs.declared.cause.Cause.TheVariants.{EqualPaths}
use Rattle.command_words.specs.declared.command.CommandName.{CommandName}
use Rattle.command_words.specs.declared.command.CommandName.TheVariants.{Build, Replay, Graph, Synth, Format, Edit}
use Rattle.command_words.specs.declared.option.OptionName.{OptionName}
use Rattle.command_words.specs.declared.option.OptionName.TheVariants as option
use Rattle.command_words.specs.Causes.{causes_among, causes_at, causes_behind, causes_of, causes_of_plain, equal_cause}
use Rattle.command_words.specs.Causes.{equal_causes, first_cause, missing_cause, missing_causes, option_value_cause}
use Rattle.command_words.specs.Causes.{path_causes, place_causes, value_cause, word_cause}
use Rattle.command_words.specs.Forms.{is_value_of}
use Rattle.command_words.specs.Holds.{HoldsAmong, HoldsOf, HoldsOfPlain, is_among}
use Rattle.command_words.specs.Options.{apart_of, command_named, is_required, is_same, options_of}
use Rattle.command_words.specs.Places.{Place, is_given, is_option, places_of, given_value}
use Rattle.command_words.specs.Plain.{plain_words}

-- ---- the options of places

-- the options that places spell
abbrev spelled : List Place → List OptionName
spelled = filter_map (λ p. p.option)

spelled_first : (x : Option OptionName) (o : OptionName) (os : List OptionName) (given : Bool)
    → list_any (λ b. is_same b o) os ≡ given
    → list_any (λ b. is_same b o) (cons_option x os) ≡ (is_option o x || given)
spelled_first None o os given rest = rest
spelled_first (Some other) o os given rest = ap (λ (b : Bool). is_same other o || b) rest

spelled_is : (places : List Place) (o : OptionName)
    → list_any (λ b. is_same b o) (spelled places) ≡ is_given places o
spelled_is [] o = refl
spelled_is (p ∷ ps) o = spelled_first p.option o (spelled ps) (is_given ps o) (spelled_is ps o)

cons_append : {X : Type 0} (x : Option X) (xs ys zs : List X) → xs ++ ys ≡ zs
    → cons_option x xs ++ ys ≡ cons_option x zs
cons_append None xs ys zs is = is
cons_append {X} (Some y) xs ys zs is = ap (λ (ws : List X). y ∷ ws) is

cons_nothing : {X : Type 0} (x : Option X) → option_to_list x ≡ cons_option x []
cons_nothing None = refl
cons_nothing (Some y) = refl

spelled_more : (done : List Place) (p : Place) → spelled done ++ option_to_list p.option ≡ spelled (done ++ p ∷ [])
spelled_more [] p = cons_nothing p.option
spelled_more (q ∷ done) p =
    cons_append q.option (spelled done) (option_to_list p.option) (spelled (done ++ p ∷ [])) (spelled_more done p)

-- ---- lists of causes that may be there

one_or_none : (P : Cause → Type 0) (x : Option Cause) → IfSome x P → All P (option_to_list x)
one_or_none P None holds = All-nil P
one_or_none P (Some cause) holds = All-cons P cause [] holds (All-nil P)

one_before : (P : Cause → Type 0) (x : Option Cause) (causes : List Cause) → IfSome x P → All P causes
    → All P (cons_option x causes)
one_before P None causes holds rest = rest
one_before P (Some cause) causes holds rest = All-cons P cause causes holds rest

all_of : (P : Cause → Type 0) (h : OptionName → Option Cause) (test : OptionName → Bool) (os : List OptionName)
    → list_all test os ≡ true → ((o : OptionName) → test o ≡ true → IfSome (h o) P) → All P (filter_map h os)
all_of P h test [] all each = All-nil P
all_of P h test (o ∷ os) all each =
    let parts = and_parts (test o) (list_all test os) all in
    one_before P (h o) (filter_map h os) (each o parts.0) (all_of P h test os parts.1 each)

where_so : (P : Cause → Type 0) (b : Bool) (cause : Cause) → (b ≡ true → P cause)
    → IfSome (if b then Some cause else None) P
where_so P true cause holds = holds refl
where_so P false cause holds = tt

where_not : (P : Cause → Type 0) (b : Bool) (cause : Cause) → (b ≡ false → P cause)
    → IfSome (if b then None else Some cause) P
where_not P true cause holds = tt
where_not P false cause holds = holds refl

-- ---- a place

module _ (c : CommandName) (done : List Place) (p : Place) (rest : List Place) where
  word_holds : (all : List Place) → all ≡ done ++ p ∷ rest → (x : Option OptionName) → p.option ≡ x
      → IfSome (word_cause c (spelled done) p.word x) (HoldsAmong c all)
  word_holds all are None is = (refl, (done, p, rest, are, (refl, is)))
  word_holds all are (Some o) is =
      where_so (HoldsAmong c all) (list_any (λ b. is_same b o) (spelled done)) (OptionTwice p.word)
      (λ before. (
        done,
        p,
        rest,
        are,
        (
          refl,
          subst (λ (y : Option OptionName). IsSomeAnd y (λ z. is_given done z ≡ true)) (sym is)
              (sym (spelled_is done o) ∙ before),
        ),
      ))

  option_value_holds : (all : List Place) → all ≡ done ++ p ∷ rest → (o : OptionName) → p.option ≡ Some o
      → (v : Option (List ℕ)) → p.value ≡ v → IfSome (option_value_cause p.word o v) (HoldsAmong c all)
  option_value_holds all are o is None none = (done, p, rest, are, (refl, ap is_some is, none))
  option_value_holds all are o is (Some value) some =
      where_not (HoldsAmong c all) (is_value_of o value) (ValueOutOfForm o value)
      (λ wrong. (done, p, rest, are, (is, some, wrong)))

  value_holds : (all : List Place) → all ≡ done ++ p ∷ rest → (x : Option OptionName) → p.option ≡ x
      → IfSome (value_cause p.word x p.value) (HoldsAmong c all)
  value_holds all are None is = tt
  value_holds all are (Some o) is = option_value_holds all are o is p.value refl

  place_holds : (all : List Place) → all ≡ done ++ p ∷ rest → All (HoldsAmong c all) (place_causes c (spelled done) p)
  place_holds all are =
      All-append (HoldsAmong c all) (option_to_list (word_cause c (spelled done) p.word p.option))
      (option_to_list (value_cause p.word p.option p.value))
      (one_or_none (HoldsAmong c all) (word_cause c (spelled done) p.word p.option) (word_holds all are p.option refl))
      (one_or_none (HoldsAmong c all) (value_cause p.word p.option p.value) (value_holds all are p.option refl))

places_hold : (c : CommandName) (all done places : List Place) → all ≡ done ++ places
    → All (HoldsAmong c all) (causes_at c (spelled done) places)
places_hold c all done [] are = All-nil (HoldsAmong c all)
places_hold c all done (p ∷ ps) are =
    All-append (HoldsAmong c all) (place_causes c (spelled done) p)
    (causes_at c (spelled done ++ option_to_list p.option) ps) (place_holds c done p ps all are)
    (subst (λ (os : List OptionName). All (HoldsAmong c all) (causes_at c os ps)) (sym (spelled_more done p))
    (places_hold c all (done ++ p ∷ []) ps (are ∙ sym (append_assoc done (p ∷ []) ps))))

-- ---- options and paths

own_options : (c : CommandName) → list_all (λ o. is_among o (options_of c)) (options_of c) ≡ true
own_options Build = refl
own_options Replay = refl
own_options Graph = refl
own_options Synth = refl
own_options Format = refl
own_options Edit = refl

own_apart : (c : CommandName) → list_all (λ o. is_among o (apart_of c)) (apart_of c) ≡ true
own_apart Build = refl
own_apart Replay = refl
own_apart Graph = refl
own_apart Synth = refl
own_apart Format = refl
own_apart Edit = refl

is_not_given : (b : Bool) → not b ≡ true → b ≡ false
is_not_given true none = absurd (cc)
is_not_given false none = refl

missing_hold : (c : CommandName) (all : List Place) → All (HoldsAmong c all) (missing_causes c (is_given all))
missing_hold c all =
    all_of (HoldsAmong c all) (missing_cause (is_given all)) (λ o. is_among o (options_of c)) (options_of c)
    (own_options c) (λ o own. where_so (HoldsAmong c all) (is_required o && not (is_given all o)) (OptionMissing o)
    (λ both. let parts = and_parts (is_required o) (not (is_given all o)) both in
    (own, parts.0, is_not_given (is_given all o) parts.1)))

equal_holds : (c : CommandName) (all : List Place) (out : List ℕ) (o : OptionName) (x : Option (List ℕ))
    → is_among o (apart_of c) ≡ true → given_value all option.Out ≡ Some out → given_value all o ≡ x
    → IfSome (equal_cause out o x) (HoldsAmong c all)
equal_holds c all out o None own is none = tt
equal_holds c all out o (Some path) own is some =
    where_so (HoldsAmong c all) (bytes_eq out path) (EqualPaths o out)
    (λ same. (own, is, some ∙ ap Some (sym ((bytes_eq-Decides out path).0 same))))

paths_hold : (c : CommandName) (all : List Place) (x : Option (List ℕ)) → given_value all option.Out ≡ x
    → All (HoldsAmong c all) (equal_causes (apart_of c) (given_value all) x)
paths_hold c all None is = All-nil (HoldsAmong c all)
paths_hold c all (Some out) is =
    all_of (HoldsAmong c all) (λ o. equal_cause out o (given_value all o)) (λ o. is_among o (apart_of c)) (apart_of c)
    (own_apart c) (λ o own. equal_holds c all out o (given_value all o) own is refl)

among_hold : (c : CommandName) (all : List Place) → All (HoldsAmong c all) (causes_among c all)
among_hold c all =
    All-append (HoldsAmong c all) (causes_at c [] all)
    (missing_causes c (is_given all) ++ path_causes c (given_value all)) (places_hold c all [] all refl)
    (All-append (HoldsAmong c all) (missing_causes c (is_given all)) (path_causes c (given_value all))
    (missing_hold c all)
    (paths_hold c all (given_value all option.Out) refl))

-- ---- all words

behind_one : (first : List ℕ) (behind : List (List ℕ)) (c : CommandName) (cause : Cause) → command_named first ≡ Some c
    → HoldsAmong c (places_of c behind) cause → HoldsOfPlain (first ∷ behind) cause
behind_one first behind c NoCommand named holds = absurd holds
behind_one first behind c (UnknownCommand word) named holds = absurd holds
behind_one first behind c (UnknownOption d word) named holds = (first, behind, c, refl, named, holds)
behind_one first behind c (OptionTwice word) named holds = (first, behind, c, refl, named, holds)
behind_one first behind c (ValueMissing word) named holds = (first, behind, c, refl, named, holds)
behind_one first behind c (ValueOutOfForm o value) named holds = (first, behind, c, refl, named, holds)
behind_one first behind c (OptionMissing o) named holds = (first, behind, c, refl, named, holds)
behind_one first behind c (EqualPaths o path) named holds = (first, behind, c, refl, named, holds)

command_holds : (first : List ℕ) (behind : List (List ℕ)) (x : Option CommandName) → command_named first ≡ x
    → All (HoldsOfPlain (first ∷ behind)) (causes_behind first behind x)
command_holds first behind None named =
    All-cons (HoldsOfPlain (first ∷ behind)) (UnknownCommand first) [] (behind, refl, named)
    (All-nil (HoldsOfPlain (first ∷ behind)))
command_holds first behind (Some c) named =
    λ k d within. behind_one first behind c _ named (among_hold c (places_of c behind) k d within)

plain_hold : (plain : List (List ℕ)) → All (HoldsOfPlain plain) (causes_of_plain plain)
plain_hold [] = All-cons (HoldsOfPlain []) NoCommand [] refl (All-nil (HoldsOfPlain []))
plain_hold (first ∷ behind) = command_holds first behind (command_named first) refl

pub all_hold : (words : List (List ℕ)) → All (HoldsOf words) (causes_of words)
all_hold words = plain_hold (plain_words words)

first_holds : (P : Cause → Type 0) (causes : List Cause) → All P causes → IfSome (first_cause causes) P
first_holds P [] all = tt
first_holds P (cause ∷ causes) all = All-head P cause causes all

pub holds_first : (words : List (List ℕ)) → IfSome (first_cause (causes_of words)) (HoldsOf words)
holds_first words = first_holds (HoldsOf words) (causes_of words) (all_hold words)
