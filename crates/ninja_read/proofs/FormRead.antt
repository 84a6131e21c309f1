-- What stands behind a word.
use Rattle.std.proofs.Common.{◌≡◌, ℕ, suc, ◌<◌, ◌≤◌, take, Bool, true, false, cond, List, [], ◌∷◌, ◌++◌, eqb, eqb-true}
use Rattle.std.proofs.Common.{eq-eqb, length, drop, get_or, Option, Some, None, MatchOption, option_map, ap, sym, ◌∙◌}
use Rattle.std.proofs.Common.{refl, arith}
use Rattle.std.specs.Borrow.{Bor}
use Rattle.std.specs.Str.{bytes_eq}
use Rattle.ninja_lines.specs.Cuts.{parts_between, words}
use Rattle.ninja_lines.specs.Meaning.{drop_spaces}
use Rattle.ninja_lines.specs.Shown.{texts}
use Rattle.ninja_read.specs.Heads.{behind_word, before_mark, behind_mark, value_behind, binding_behind, binding_of}
use Rattle.ninja_read.specs.Heads.{defaults_of_parts, defaults_of, statement_of_parts, statement_of_words, some_paths}
use Rattle.ninja_read.specs.Heads.{build_statement}
use Rattle.ninja_read.specs.Values.{name_length}

pub behind_some : (word rest : List ℕ) → behind_word word (word ++ rest) ≡ Some rest
behind_some [] rest = refl
behind_some (w ∷ word) rest = rw (eq-eqb w w refl) (behind_some word rest)

behind_none_by : (w b : ℕ) (word text : List ℕ) (e : Bool) → eqb b w ≡ e
    → ((rest : List ℕ) → b ∷ text ≡ w ∷ (word ++ rest) → ⊥)
    → (((rest : List ℕ) → text ≡ word ++ rest → ⊥) → behind_word word text ≡ None)
    → cond e (behind_word word text) None ≡ None
behind_none_by w b word text true is h more = more (λ rest k. h rest (let at : b ≡ w = eqb-true b w is in cc))
behind_none_by w b word text false is h more = refl

pub behind_none : (word text : List ℕ) → ((rest : List ℕ) → text ≡ word ++ rest → ⊥) → behind_word word text ≡ None
behind_none [] text h = absurd (h text refl)
behind_none (w ∷ word) [] h = refl
behind_none (w ∷ word) (b ∷ text) h = behind_none_by w b word text (eqb b w) refl h (λ k. behind_none word text k)

pub behind_is : (word text : List ℕ) (r : Option (Bor (List ℕ)))
    → MatchOption r ((rest : List ℕ) → text ≡ word ++ rest → ⊥) (λ x. text ≡ word ++ x.now)
    → option_map (λ rest. rest.now) r ≡ behind_word word text
behind_is word text None h = sym (behind_none word text h)
behind_is word text (Some x) h = sym (ap (behind_word word) h ∙ behind_some word x.now)

-- up to a mark, and behind it
before_mark_by : (word : Bor (List ℕ)) (mark : List ℕ) (more : List (Bor (List ℕ))) (e : Bool)
    → texts (take (length (before_mark mark (texts more))) more) ≡ before_mark mark (texts more)
    → texts (take (length (cond e [] (word.now ∷ before_mark mark (texts more)))) (word ∷ more))
    ≡ cond e [] (word.now ∷ before_mark mark (texts more))
before_mark_by word mark more true h = refl
before_mark_by word mark more false h = ap (λ x. word.now ∷ x) h

pub before_mark_is : (mark : List ℕ) (words : List (Bor (List ℕ)))
    → texts (take (length (before_mark mark (texts words))) words) ≡ before_mark mark (texts words)
before_mark_is mark [] = refl
before_mark_is mark (word ∷ more) = before_mark_by word mark more (bytes_eq word.now mark) (before_mark_is mark more)

behind_mark_by : (word : Bor (List ℕ)) (mark : List ℕ) (more : List (Bor (List ℕ))) (e : Bool)
    → (length (before_mark mark (texts more)) < length more
    → Some (texts (drop (suc (length (before_mark mark (texts more)))) more)) ≡ behind_mark mark (texts more))
    → length (cond e [] (word.now ∷ before_mark mark (texts more))) < suc (length more)
    → Some (texts (drop (suc (length (cond e [] (word.now ∷ before_mark mark (texts more))))) (word ∷ more)))
    ≡ cond e (Some (texts more)) (behind_mark mark (texts more))
behind_mark_by word mark more true found h = refl
behind_mark_by word mark more false found h = found (omega arith)

pub behind_mark_is : (mark : List ℕ) (words : List (Bor (List ℕ)))
    → length (before_mark mark (texts words)) < length words
    → Some (texts (drop (suc (length (before_mark mark (texts words)))) words)) ≡ behind_mark mark (texts words)
behind_mark_is mark [] h = absurd (omega arith)
behind_mark_is mark (word ∷ more) h =
    behind_mark_by word mark more (bytes_eq word.now mark) (λ k. behind_mark_is mark more k) h

no_mark_by : (word : Bor (List ℕ)) (mark : List ℕ) (more : List (Bor (List ℕ))) (e : Bool)
    → (length more ≤ length (before_mark mark (texts more)) → None ≡ behind_mark mark (texts more))
    → suc (length more) ≤ length (cond e [] (word.now ∷ before_mark mark (texts more)))
    → None ≡ cond e (Some (texts more)) (behind_mark mark (texts more))
no_mark_by word mark more true found h = absurd (omega arith)
no_mark_by word mark more false found h = found (omega arith)

pub no_mark : (mark : List ℕ) (words : List (Bor (List ℕ))) → length words ≤ length (before_mark mark (texts words))
    → None ≡ behind_mark mark (texts words)
no_mark mark [] h = refl
no_mark mark (word ∷ more) h = no_mark_by word mark more (bytes_eq word.now mark) (λ k. no_mark mark more k) h

-- no `=` behind the key
no_value_by : (b : ℕ) (key text : List ℕ) (e : Bool) → eqb b 61 ≡ e → (b ≡ 61 → ⊥)
    → cond {A = Option (List ℕ × List ℕ)} e (Some (key, drop_spaces text)) None ≡ None
no_value_by b key text true is h = absurd (h (eqb-true b 61 is))
no_value_by b key text false is h = refl

no_value : (key behind : List ℕ) → ((rest : List ℕ) → behind ≡ 61 ∷ rest → ⊥) → value_behind key behind ≡ None
no_value key [] h = refl
no_value key (b ∷ text) h = no_value_by b key text (eqb b 61) refl (λ is. h text (ap (λ x. x ∷ text) is))

either_none : (e : Bool) (o : Option (List ℕ × List ℕ)) → o ≡ None → cond e None o ≡ None
either_none true o h = refl
either_none false o h = h

pub no_binding : (text spaced key behind rest : List ℕ) → spaced ≡ drop_spaces text
    → behind ≡ drop (name_length spaced) spaced → rest ≡ drop_spaces behind → ((more : List ℕ) → rest ≡ 61 ∷ more → ⊥)
    → None ≡ binding_of text
no_binding text spaced key behind rest is k r h = sym (
    ap binding_behind (sym is)
    ∙ either_none (eqb (name_length spaced) 0) (value_behind (take (name_length spaced) spaced)
    (drop_spaces (drop (name_length spaced) spaced))) (ap (value_behind (take (name_length spaced) spaced))
    (ap drop_spaces (sym k) ∙ sym r) ∙ no_value (take (name_length spaced) spaced) rest h))

one_part : (parts : List (Bor (List ℕ))) (p : Bor (List ℕ)) → length parts ≡ 1 → p ≡ get_or parts 0 p → parts ≡ p ∷ []
one_part [] p n is = absurd (cc)
one_part (x ∷ []) p n is = ap (λ y. y ∷ []) (sym is)
one_part (x ∷ y ∷ more) p n is = absurd (omega arith)

two_parts : (parts : List (Bor (List ℕ))) (p q : Bor (List ℕ)) → length parts ≡ 2 → p ≡ get_or parts 0 p
    → q ≡ get_or parts 1 q → parts ≡ p ∷ q ∷ []
two_parts [] p q n is js = absurd (cc)
two_parts (x ∷ []) p q n is js = absurd (omega arith)
two_parts (x ∷ y ∷ []) p q n is js = cc
two_parts (x ∷ y ∷ z ∷ more) p q n is js = absurd (omega arith)

pub defaults_cut : (text : List ℕ) (parts : List (Bor (List ℕ))) (p : Bor (List ℕ)) (found : List (List ℕ))
    → texts parts ≡ parts_between 58 false text → length parts ≡ 1 → p ≡ get_or parts 0 p → found ≡ words p.now
    → some_paths found ≡ defaults_of text
defaults_cut text parts p found is n at ws =
    ap some_paths ws ∙ ap defaults_of_parts (ap texts (sym (one_part parts p n at)) ∙ is)

pub build_cut : (text : List ℕ) (parts : List (Bor (List ℕ))) (p q : Bor (List ℕ)) (makes takes : List (List ℕ))
    → texts parts ≡ parts_between 58 false text → length parts ≡ 2 → p ≡ get_or parts 0 p → q ≡ get_or parts 1 q
    → makes ≡ words p.now → takes ≡ words q.now → statement_of_words makes takes ≡ build_statement text
build_cut text parts p q makes takes is n at behind ms ts =
    ap (λ m. statement_of_words m takes) ms
    ∙ ap (statement_of_words (words p.now)) ts
    ∙ ap statement_of_parts (ap texts (sym (two_parts parts p q n at behind)) ∙ is)
