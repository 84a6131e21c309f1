-- Lists that are made piece by piece.
use Rattle.std.proofs.Common.{suc, ◌≡◌, ◌∙◌, ◌<◌, ◌≤◌, ◌+◌, ◌-◌, ℕ, List, [], ◌∷◌, ◌++◌, map, take, drop, length}
use Rattle.std.proofs.Common.{get_or, append_assoc, add-one, ap, refl, sym, arith}
use Rattle.std.specs.Prelude.{Option, Some, None}
use Rattle.std.specs.Borrow.{Bor}
use Rattle.std.proofs.lemmas.List.{take_more, take_all, drop_all, map-append}
use Rattle.std.proofs.Math.Seq.{drop-cons}
use Rattle.bp_faults.specs.declared.target.Target.{Target}
use Rattle.command_words.specs.declared.command.CommandName.{CommandName}
use Rattle.command_words.specs.declared.option.OptionName.{OptionName}
use Rattle.command_words.specs.declared.pairs.Pair.{Pair}
use Rattle.command_words.specs.Plain.{parts_of_word, plain_words}
use Rattle.command_words.specs.Values.{with_first, target_of, targets_named}
use Rattle.command_words.specs.Words.{option_of, option_pairs}

-- What is made of the rest stands behind what is there.
abbrev pub behind : {X : Type 0} → List X → Option (List X) → Option (List X)
behind xs None = None
behind xs (Some ys) = Some (xs ++ ys)

pub behind-first : {X : Type 0} (xs : List X) (x : X) (rest : Option (List X))
    → behind xs (with_first (Some x) rest) ≡ behind (xs ++ x ∷ []) rest
behind-first xs x None = refl
behind-first xs x (Some ys) = ap Some (sym (append_assoc xs (x ∷ []) ys))

plain_words-append : (xs ys : List (List ℕ)) → plain_words (xs ++ ys) ≡ plain_words xs ++ plain_words ys
plain_words-append [] ys = refl
plain_words-append (x ∷ xs) ys =
    ap (λ ws. parts_of_word x ++ ws) (plain_words-append xs ys)
    ∙ sym (append_assoc (parts_of_word x) (plain_words xs) (plain_words ys))

nothing_after : {X : Type 0} (xs : List X) → xs ++ [] ≡ xs
nothing_after [] = refl
nothing_after (x ∷ xs) = ap (λ ws. x ∷ ws) (nothing_after xs)

pub plain_words-more : (words : List (List ℕ)) (i : ℕ) (word : List ℕ) → i < length words
    → plain_words (take (i + 1) words) ≡ plain_words (take i words) ++ parts_of_word (get_or words i word)
plain_words-more words i word below =
    rw (take_more words i word below) (plain_words-append (take i words) (get_or words i word ∷ [])
    ∙ ap (λ ws. plain_words (take i words) ++ ws) (nothing_after (parts_of_word (get_or words i word))))

pub odd_words : (c : CommandName) (words : List (Bor (List ℕ))) → length words < 2 → (length words ≡ 0 → ⊥)
    → option_pairs c (map (λ word. word.now) words) ≡ None
odd_words c [] few some = absurd (some refl)
odd_words c (word ∷ []) few some = refl
odd_words c (word ∷ value ∷ rest) few some = absurd (omega arith)

-- One pair more, as a loop takes it from the rest of the words.
pub one_pair : (c : CommandName) (before : List Pair) (o : OptionName) (rest : List (Bor (List ℕ))) (d e : Bor (List ℕ))
    → 2 ≤ length rest
    → option_of c (get_or rest 0 d).now ≡ Some o
    → behind before (option_pairs c (map (λ w. w.now) rest))
    ≡ behind (before ++ (record { option = o; value = (get_or rest 1 e).now }) ∷ [])
    (option_pairs c (map (λ w. w.now) (take (length rest - 2) (drop 2 rest))))
one_pair c before o [] d e two named = absurd (omega arith)
one_pair c before o (x ∷ []) d e two named = absurd (omega arith)
one_pair c before o (x ∷ y ∷ rest) d e two named =
    let rest_is : take (length (x ∷ y ∷ rest) - 2) rest ≡ rest =
    take_all (length (x ∷ y ∷ rest) - 2) rest (omega arith) in
    rw (rest_is, named)
    (behind-first before (record { option = o; value = y.now }) (option_pairs c (map (λ w. w.now) rest)))

-- what the words of a list say
abbrev pub said : List (Bor (List ℕ)) → List (List ℕ)
said = map (λ w. w.now)

pub one_target : (before : List Target) (target : Target) (names : List (Bor (List ℕ))) (i : ℕ) (d : Bor (List ℕ))
    → i < length names → target_of (get_or names i d).now ≡ Some target
    → behind before (targets_named (said (drop i names)))
    ≡ behind (before ++ target ∷ []) (targets_named (said (drop (i + 1) names)))
one_target before target names i d below named =
    rw (drop-cons names i d below, named, add-one)
    (behind-first before target (targets_named (said (drop (suc i) names))))

pub no_target : (before : List Target) (names : List (Bor (List ℕ))) (i : ℕ) (d : Bor (List ℕ)) → i < length names
    → target_of (get_or names i d).now ≡ None
    → behind before (targets_named (said (drop i names))) ≡ None
no_target before names i d below named = rw (drop-cons names i d below, named) refl

pub all_targets : (before : List Target) (names : List (Bor (List ℕ))) (i : ℕ) → length names ≤ i
    → behind before (targets_named (said (drop i names))) ≡ Some before
all_targets before names i past = rw (drop_all i names past) (ap Some (nothing_after before))

pub one_put : (xs : List (Bor (List ℕ))) (a : Bor (List ℕ))
    → map (λ w. w.now) (xs ++ a ∷ []) ≡ map (λ w. w.now) xs ++ a.now ∷ []
one_put xs a = map-append (λ (w : Bor (List ℕ)). w.now) xs (a ∷ [])

pub two_put : (xs : List (Bor (List ℕ))) (a b : Bor (List ℕ))
    → map (λ w. w.now) (xs ++ a ∷ [] ++ b ∷ []) ≡ map (λ w. w.now) xs ++ (a.now ∷ b.now ∷ [])
two_put xs a b =
    one_put (xs ++ a ∷ []) b
    ∙ ap (λ ws. ws ++ b.now ∷ []) (one_put xs a)
    ∙ append_assoc (map (λ w. w.now) xs) (a.now ∷ []) (b.now ∷ [])
