-- The first cause, as it is found.
use Rattle.std.proofs.Common.{◌≡◌, ◌∙◌, ◌≤◌, ◌-◌, ℕ, Bool, true, false, List, [], ◌∷◌, ◌++◌, map, take, drop, length}
use Rattle.std.proofs.Common.{get_or, ap, ap₂, refl, sym, arith}
use Rattle.std.specs.Prelude.{Option, Some, None, ◌||◌, option_map, option_to_list, find, filter_map, if◌then◌else◌}
use Rattle.std.specs.List.{list_any, cons_option}
use Rattle.std.specs.Borrow.{Bor}
use Rattle.std.proofs.lemmas.List.{take_all, map-append}
use Rattle.command_words.specs.declared.cause.Cause.{Cause}
use Rattle.command_words.specs.declared.cause.Cause.TheVariants.{OptionTwice, EqualPaths}
use Rattle.command_words.specs.declared.command.CommandName.{CommandName}
use Rattle.command_words.specs.declared.option.OptionName.{OptionName}
use Rattle.command_words.specs.declared.option.OptionName.TheVariants.{Out}
use Rattle.command_words.specs.declared.pairs.Pair.{Pair}
use Rattle.command_words.specs.Causes.{causes_at, equal_causes, first_cause, is_equal_path, path_causes, place_causes}
use Rattle.command_words.specs.Causes.{word_cause}
use Rattle.command_words.specs.Options.{apart_of, is_same}
use Rattle.command_words.specs.Places.{place_of, places_of}
use Rattle.command_words.specs.Words.{Given, has_option, option_of, option_pairs}
use Rattle.command_words.proofs.Joining.{behind, one_pair, said}

-- the options of some pairs
abbrev pub options_in : List Pair → List OptionName
options_in = map (λ p. p.option)

pub had : (ps : List Pair) (o : OptionName) → list_any (λ b. is_same b o) (options_in ps) ≡ has_option o ps
had [] o = refl
had (p ∷ ps) o = ap (λ (b : Bool). is_same p.option o || b) (had ps o)

-- ---- the cause in a word

pub twice : (c : CommandName) (ps : List Pair) (o : OptionName) (word text : List ℕ) → option_of c word ≡ Some o
    → has_option o ps ≡ true → text ≡ word
    → word_cause c (options_in ps) word (option_of c word) ≡ Some (OptionTwice text)
twice c ps o word text named is same =
    ap (word_cause c (options_in ps) word) named
    ∙ ap (λ (b : Bool). if b then Some (OptionTwice word) else None) (had ps o ∙ is)
    ∙ ap (λ (t : List ℕ). Some (OptionTwice t)) (sym same)

pub once : (c : CommandName) (ps : List Pair) (o : OptionName) (word : List ℕ) → has_option o ps ≡ false
    → word_cause c (options_in ps) word (Some o) ≡ None
once c ps o word is = ap (λ (b : Bool). if b then Some (OptionTwice word) else None) (had ps o ∙ is)

-- ---- the first of two lists

pub first-none : (xs ys : List Cause) → xs ≡ [] → first_cause (xs ++ ys) ≡ first_cause ys
first-none xs ys none = ap (λ (zs : List Cause). first_cause (zs ++ ys)) none

pub first-some : (xs ys : List Cause) (x : Cause) → first_cause xs ≡ Some x → first_cause (xs ++ ys) ≡ Some x
first-some [] ys x is = absurd (cc)
first-some (y ∷ xs) ys x is = is

pub no_first : (xs : List Cause) → first_cause xs ≡ None → xs ≡ []
no_first [] none = refl
no_first (x ∷ xs) none = absurd (cc)

-- ---- the first of those that options have

one_tested : (b : Bool) (cause : Cause) (o : OptionName) (rest : List Cause) (put : OptionName → Cause)
    (found : Option OptionName) → cause ≡ put o → first_cause rest ≡ option_map put found
    → first_cause (cons_option (if b then Some cause else None) rest) ≡ option_map put (if b then Some o else found)
one_tested true cause o rest put found is others = ap Some is
one_tested false cause o rest put found is others = others

pub first_filtered : (test : OptionName → Bool) (put : OptionName → Cause) (os : List OptionName)
    → first_cause (filter_map (λ o. if test o then Some (put o) else None) os) ≡ option_map put (find test os)
first_filtered test put [] = refl
first_filtered test put (o ∷ os) =
    one_tested (test o) (put o) o (filter_map (λ o. if test o then Some (put o) else None) os) put (find test os) refl
    (first_filtered test put os)

-- the first option whose path is OUT
pub equal_first : (c : CommandName) (given : Given) (out text : List ℕ) (o : OptionName) → given Out ≡ Some out
    → find (λ (x : OptionName). is_equal_path out (given x)) (apart_of c) ≡ Some o → text ≡ out
    → Some (EqualPaths o text) ≡ first_cause (path_causes c given)
equal_first c given out text o is found same =
    ap (λ (t : List ℕ). Some (EqualPaths o t)) same
    ∙ sym (ap (λ (x : Option (List ℕ)). first_cause (equal_causes (apart_of c) given x)) is
    ∙ first_filtered (λ (x : OptionName). is_equal_path out (given x)) (λ (x : OptionName). EqualPaths x out)
    (apart_of c)
    ∙ ap (option_map (λ (x : OptionName). EqualPaths x out)) found)

-- ---- one place more, as a loop takes it from the rest of the words

pub one_place : (c : CommandName) (before : List OptionName) (rest : List (Bor (List ℕ))) (d e : Bor (List ℕ))
    → 2 ≤ length rest
    → causes_at c before (places_of c (said rest))
    ≡ place_causes c before (place_of c (get_or rest 0 d).now (Some (get_or rest 1 e).now))
    ++ causes_at c (before ++ option_to_list (option_of c (get_or rest 0 d).now))
    (places_of c (said (take (length rest - 2) (drop 2 rest))))
one_place c before [] d e two = absurd (omega arith)
one_place c before (x ∷ []) d e two = absurd (omega arith)
one_place c before (x ∷ y ∷ rest) d e two =
    let rest_is : take (length (x ∷ y ∷ rest) - 2) rest ≡ rest =
    take_all (length (x ∷ y ∷ rest) - 2) rest (omega arith) in
    rw rest_is refl

-- the first cause at a place is the first of all
pub place_first : (c : CommandName) (ps qs : List Pair) (all : List Cause) (rest : List (Bor (List ℕ)))
    (d e : Bor (List ℕ)) (cause : Cause) → 2 ≤ length rest
    → all ≡ causes_at c (options_in ps) (places_of c (said rest)) → qs ≡ ps
    → first_cause (place_causes c (options_in qs) (place_of c (get_or rest 0 d).now (Some (get_or rest 1 e).now)))
    ≡ Some cause
    → first_cause all ≡ Some cause
place_first c ps qs all rest d e cause two is same first =
    ap first_cause (is ∙ one_place c (options_in ps) rest d e two)
    ∙ first-some (place_causes c (options_in ps) (place_of c (get_or rest 0 d).now (Some (get_or rest 1 e).now))) _
    cause
    (ap (λ (rs : List Pair). first_cause (place_causes c (options_in rs)
    (place_of c (get_or rest 0 d).now (Some (get_or rest 1 e).now)))) (sym same) ∙ first)

-- A place in which no cause is, behind some pairs: its pair stands behind them, and all causes are behind it.
pub place_passed : (c : CommandName) (ps qs new : List Pair) (p : Pair) (all : List Cause)
    (rest : List (Bor (List ℕ))) (d e : Bor (List ℕ)) → 2 ≤ length rest
    → all ≡ causes_at c (options_in ps) (places_of c (said rest)) → qs ≡ ps
    → option_of c (get_or rest 0 d).now ≡ Some p.option
    → place_causes c (options_in qs) (place_of c (get_or rest 0 d).now (Some (get_or rest 1 e).now)) ≡ []
    → new ≡ ps ++ p ∷ []
    → all ≡ causes_at c (options_in new) (places_of c (said (take (length rest - 2) (drop 2 rest))))
place_passed c ps qs new p all rest d e two is same named none put =
    let place = place_of c (get_or rest 0 d).now (Some (get_or rest 1 e).now) in
    let places = places_of c (said (take (length rest - 2) (drop 2 rest))) in
    is ∙ one_place c (options_in ps) rest d e two
    ∙ ap₂ (λ (xs : List Cause) (o : Option OptionName). xs ++ causes_at c (options_in ps ++ option_to_list o) places)
    (ap (λ (rs : List Pair). place_causes c (options_in rs) place) (sym same) ∙ none) named
    ∙ ap (λ (os : List OptionName). causes_at c os places)
    (sym (map-append (λ (q : Pair). q.option) ps (p ∷ [])) ∙ ap options_in (sym put))

-- so its pair is one pair more
pub pair_passed : (c : CommandName) (ps new : List Pair) (p : Pair) (all : Option (List Pair))
    (rest : List (Bor (List ℕ))) (d e : Bor (List ℕ)) → 2 ≤ length rest
    → all ≡ behind ps (option_pairs c (said rest)) → option_of c (get_or rest 0 d).now ≡ Some p.option
    → p.value ≡ (get_or rest 1 e).now → new ≡ ps ++ p ∷ []
    → all ≡ behind new (option_pairs c (said (take (length rest - 2) (drop 2 rest))))
pair_passed c ps new p all rest d e two is named value put =
    let others = option_pairs c (said (take (length rest - 2) (drop 2 rest))) in
    let same : (record { option = p.option; value = (get_or rest 1 e).now }) ≡ p =
    ap (λ (v : List ℕ). record { option = p.option; value = v }) (sym value) in
    is ∙ one_pair c ps p.option rest d e two named ∙ ap (λ (q : Pair). behind (ps ++ q ∷ []) others) same
    ∙ ap (λ (qs : List Pair). behind qs others) (sym put)

-- the last word stands alone
pub last_place : (c : CommandName) (before : List OptionName) (rest : List (Bor (List ℕ))) (d : Bor (List ℕ))
    → length rest ≡ 1
    → causes_at c before (places_of c (said rest)) ≡ place_causes c before (place_of c (get_or rest 0 d).now None) ++ []
last_place c before [] d one = absurd (omega arith)
last_place c before (x ∷ []) d one = refl
last_place c before (x ∷ y ∷ rest) d one = absurd (omega arith)

-- no word is left
pub no_place : (c : CommandName) (before : List OptionName) (rest : List (Bor (List ℕ))) → length rest ≡ 0
    → causes_at c before (places_of c (said rest)) ≡ []
no_place c before [] none = refl
no_place c before (x ∷ rest) none = absurd (omega arith)
