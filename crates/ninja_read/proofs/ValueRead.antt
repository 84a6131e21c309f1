-- Reading the written form of a value, a part at a time.
use Rattle.std.proofs.Common.{◌≡◌, ℕ, suc, ◌<◌, ◌≤◌, Bool, true, false, cond, List, [], ◌∷◌, ◌++◌, eqb, eqb-true}
use Rattle.std.proofs.Common.{length, take, drop, IsUtf8, IsCharBoundary, Option, Some, None, option_map, append_assoc}
use Rattle.std.proofs.Common.{append-nil, ap, sym, ◌∙◌, refl, arith}
use Rattle.std.proofs.lemmas.Bool.Decides.{nat_tests}
use Rattle.std.proofs.lemmas.Str.{IsUtf8-past_char, encode_ascii, IsCharBoundary-from_drop}
use Rattle.ninja_read.specs.Inside.{with_text, dollar_at}
use Rattle.ninja_file.specs.declared.file.Piece.{Piece}
use Rattle.ninja_file.specs.declared.file.Piece.TheVariants.{Lit, Var}
use Rattle.ninja_read.specs.Values.{name_length, in_text, behind_dollar, in_name, with_byte, with_variable, text_byte}
use Rattle.ninja_read.specs.Values.{pieces_from}
use Rattle.ninja_file.specs.Names.{is_name_byte}
use Rattle.bp_faults.specs.Characters.{dollar}

pub option_map_twice : {A B C : Type 0} (f : B → C) (g : A → B) (o : Option A)
    → option_map f (option_map g o) ≡ option_map (λ x. f (g x)) o
option_map_twice f g None = refl
option_map_twice f g (Some x) = refl

pub option_map_id : {A : Type 0} (o : Option A) → option_map (λ x. x) o ≡ o
option_map_id None = refl
option_map_id (Some x) = refl

pub option_map_same : {A B : Type 0} (f g : A → B) (o : Option A) → ((x : A) → f x ≡ g x)
    → option_map f o ≡ option_map g o
option_map_same f g None h = refl
option_map_same f g (Some x) h = ap Some (h x)

-- texts before pieces
pub with_text-append : (a b : List ℕ) (pieces : List Piece)
    → with_text (a ++ b) pieces ≡ with_text a (with_text b pieces)
with_text-append [] b pieces = refl
with_text-append (x ∷ a) b pieces = ap (with_byte x) (with_text-append a b pieces)

pub with_text-nil : (b : ℕ) (text : List ℕ) → with_text (b ∷ text) [] ≡ Lit (b ∷ text) ∷ []
with_text-nil b [] = refl
with_text-nil b (c ∷ text) = ap (with_byte b) (with_text-nil c text)

pub with_text-variable : (b : ℕ) (text name : List ℕ) (pieces : List Piece)
    → with_text (b ∷ text) (Var name ∷ pieces) ≡ Lit (b ∷ text) ∷ Var name ∷ pieces
with_text-variable b [] name pieces = refl
with_text-variable b (c ∷ text) name pieces = ap (with_byte b) (with_text-variable c text name pieces)

-- text before a variable ends there
pub ends_at_variable : (text name : List ℕ) (pieces : List Piece)
    → with_text text (Var name ∷ pieces) ≡ with_text text [] ++ Var name ∷ pieces
ends_at_variable [] name pieces = refl
ends_at_variable (b ∷ text) name pieces =
    with_text-variable b text name pieces ∙ sym (ap (λ x. x ++ Var name ∷ pieces) (with_text-nil b text))

-- what text up to a dollar stands for
run_by : (b : ℕ) (bytes : List ℕ) (e : Bool) → eqb b dollar ≡ e
    → (dollar_at bytes < length bytes → pieces_from in_text bytes ≡ option_map
    (with_text (take (dollar_at bytes) bytes)) (pieces_from behind_dollar (drop (suc (dollar_at bytes)) bytes)))
    → cond e 0 (suc (dollar_at bytes)) < suc (length bytes)
    → cond e (pieces_from behind_dollar bytes) (option_map (with_byte b) (pieces_from in_text bytes))
    ≡ option_map (with_text (take (cond e 0 (suc (dollar_at bytes))) (b ∷ bytes)))
    (pieces_from behind_dollar (drop (suc (cond e 0 (suc (dollar_at bytes)))) (b ∷ bytes)))
run_by b bytes true is more h = sym (option_map_id (pieces_from behind_dollar bytes))
run_by b bytes false is more h =
    ap (option_map (with_byte b)) (more (omega arith))
    ∙ option_map_twice (with_byte b) (with_text (take (dollar_at bytes) bytes))
    (pieces_from behind_dollar (drop (suc (dollar_at bytes)) bytes))

pub run : (bytes : List ℕ) → dollar_at bytes < length bytes
    → pieces_from in_text bytes ≡ option_map (with_text (take (dollar_at bytes) bytes))
    (pieces_from behind_dollar (drop (suc (dollar_at bytes)) bytes))
run [] h = absurd (omega arith)
run (b ∷ bytes) h = run_by b bytes (eqb b dollar) refl (λ k. run bytes k) h

last_run_by : (b : ℕ) (bytes : List ℕ) (e : Bool)
    → (dollar_at bytes ≡ length bytes → pieces_from in_text bytes ≡ Some (with_text bytes []))
    → cond e 0 (suc (dollar_at bytes)) ≡ suc (length bytes) → cond e (pieces_from behind_dollar bytes)
    (option_map (with_byte b) (pieces_from in_text bytes)) ≡ Some (with_text (b ∷ bytes) [])
last_run_by b bytes true more h = absurd (omega arith)
last_run_by b bytes false more h = ap (option_map (with_byte b)) (more (omega arith))

pub last_run : (bytes : List ℕ) → dollar_at bytes ≡ length bytes → pieces_from in_text bytes ≡ Some (with_text bytes [])
last_run [] h = refl
last_run (b ∷ bytes) h = last_run_by b bytes (eqb b dollar) (λ k. last_run bytes k) h

dollar_within_by : (e : Bool) (m n : ℕ) → m ≤ n → cond e 0 (suc m) ≤ suc n
dollar_within_by true m n h = omega arith
dollar_within_by false m n h = omega arith

pub dollar_within : (bytes : List ℕ) → dollar_at bytes ≤ length bytes
dollar_within [] = omega arith
dollar_within (b ∷ bytes) = dollar_within_by (eqb b dollar) (dollar_at bytes) (length bytes) (dollar_within bytes)

-- names, from left to right
in_name_by : (b : ℕ) (name bytes : List ℕ) (e : Bool) → is_name_byte b ≡ e
    → ((more : List ℕ) → pieces_from (in_name more) bytes
    ≡ with_variable (more ++ take (name_length bytes) bytes) (pieces_from in_text (drop (name_length bytes) bytes)))
    → cond e (pieces_from (in_name (name ++ b ∷ [])) bytes) (with_variable name (text_byte b (pieces_from behind_dollar
    bytes) (pieces_from in_text bytes))) ≡ with_variable (name ++ take (cond e (suc (name_length bytes)) 0) (b ∷ bytes))
    (pieces_from in_text (drop (cond e (suc (name_length bytes)) 0) (b ∷ bytes)))
in_name_by b name bytes true is more =
    more (name ++ b ∷ [])
    ∙ ap (λ n. with_variable n (pieces_from in_text (drop (name_length bytes) bytes)))
    (append_assoc name (b ∷ []) (take (name_length bytes) bytes))
in_name_by b name bytes false is more =
    ap (λ n. with_variable n (text_byte b (pieces_from behind_dollar bytes) (pieces_from in_text bytes)))
    (sym (append-nil name))

pub in_name_reads : (bytes name : List ℕ) → pieces_from (in_name name) bytes
    ≡ with_variable (name ++ take (name_length bytes) bytes) (pieces_from in_text (drop (name_length bytes) bytes))
in_name_reads [] name = ap (λ n. with_variable n (Some [])) (sym (append-nil name))
in_name_reads (b ∷ bytes) name = in_name_by b name bytes (is_name_byte b) refl (λ more. in_name_reads bytes more)

-- text that is put behind the last piece
pub text_put : (done : List Piece) (text more : List ℕ) (pieces : List Piece)
    → done ++ with_text (text ++ more) pieces ≡ done ++ with_text text (with_text more pieces)
text_put done text more pieces = ap (λ x. done ++ x) (with_text-append text more pieces)

pub variable_put : (done : List Piece) (text name : List ℕ) (pieces : List Piece)
    → ((done ++ with_text text []) ++ Var name ∷ []) ++ pieces ≡ done ++ with_text text (Var name ∷ pieces)
variable_put done text name pieces =
    append_assoc (done ++ with_text text []) (Var name ∷ []) pieces
    ∙ append_assoc done (with_text text []) (Var name ∷ pieces)
    ∙ ap (λ x. done ++ x) (sym (ends_at_variable text name pieces))

pub one_literal : (text : List ℕ) → 0 < length text → with_text text [] ≡ Lit text ∷ []
one_literal [] h = absurd (omega arith)
one_literal (b ∷ text) h = with_text-nil b text

-- a name is ASCII
pub name_byte_ascii : (b : ℕ) → is_name_byte b ≡ true → b < 128
name_byte_ascii b h = grind (arith, nat_tests)

behind_name_by : (b : ℕ) (bytes : List ℕ) (e : Bool) → is_name_byte b ≡ e → IsUtf8 (b ∷ bytes)
    → (IsUtf8 bytes → IsUtf8 (drop (name_length bytes) bytes))
    → IsUtf8 (drop (cond e (suc (name_length bytes)) 0) (b ∷ bytes))
behind_name_by b bytes true is utf8 more =
    more (IsUtf8-past_char (b ∷ bytes) bytes b utf8 (rw (encode_ascii b (name_byte_ascii b is)) refl))
behind_name_by b bytes false is utf8 more = utf8

behind_name : (text : List ℕ) → IsUtf8 text → IsUtf8 (drop (name_length text) text)
behind_name [] utf8 = utf8
behind_name (b ∷ bytes) utf8 = behind_name_by b bytes (is_name_byte b) refl utf8 (λ u. behind_name bytes u)

name_within_by : (e : Bool) (m n : ℕ) → m ≤ n → cond e (suc m) 0 ≤ suc n
name_within_by true m n h = omega arith
name_within_by false m n h = omega arith

pub name_within : (text : List ℕ) → name_length text ≤ length text
name_within [] = omega arith
name_within (b ∷ bytes) = name_within_by (is_name_byte b) (name_length bytes) (length bytes) (name_within bytes)

pub name_boundary : (text : List ℕ) → IsUtf8 text → IsCharBoundary text (name_length text)
name_boundary text utf8 = IsCharBoundary-from_drop text (name_length text) (name_within text) (behind_name text utf8)

pub nothing_put : (done : List Piece) (text : List ℕ) → eqb (length text) 0 ≡ true
    → (text ≡ []) × (done ≡ done ++ with_text text [])
nothing_put done [] h = (refl, sym (append-nil done))
nothing_put done (b ∷ text) h = absurd (omega (arith, eqb-true (suc (length text)) 0 h))

pub literal_put : (done put : List Piece) (text : List ℕ) → eqb (length text) 0 ≡ false → put ≡ done ++ Lit text ∷ []
    → put ≡ done ++ with_text text []
literal_put done put text h is =
    is ∙ ap (λ x. done ++ x) (sym (one_literal text (let e = h in grind (arith, nat_tests))))
