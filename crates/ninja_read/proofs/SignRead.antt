-- What stands behind a dollar.
use Rattle.std.proofs.Common.{◌≡◌, ℕ, suc, ◌+◌, ◌<◌, ◌≤◌, Bool, true, false, cond, List, [], ◌∷◌, ◌++◌, eqb, eqb-true}
use Rattle.std.proofs.Common.{length, take, drop, get_or, add-one, Option, Some, None, IsUtf8, IsCharBoundary}
use Rattle.std.proofs.Common.{option_map, append_assoc, append-nil, ap, sym, subst, ◌∙◌, refl, arith}
use Rattle.std.proofs.lemmas.Bool.{eqb-false}
use Rattle.std.proofs.lemmas.Bool.Decides.{nat_tests}
use Rattle.std.proofs.lemmas.Str.{IsCharBoundary-after_ascii}
use Rattle.ninja_read.specs.Inside.{with_text, with_sign, built_pieces, dollar_at}
use Rattle.ninja_read.specs.declared.value.Sign.{Sign}
use Rattle.ninja_read.specs.declared.value.Pieces.{Pieces}
use Rattle.ninja_file.specs.declared.file.Piece.{Piece}
use Rattle.ninja_file.specs.declared.file.Piece.TheVariants.{Var}
use Rattle.ninja_file.specs.declared.escape.Escape.TheVariants.{Path}
use Rattle.ninja_file.specs.Escapes.{is_escaped}
use Rattle.ninja_read.specs.Values.{in_text, behind_dollar, in_name, in_braces, name_length, with_variable, pieces_from}
use Rattle.ninja_read.specs.Values.{pieces_of}
use Rattle.ninja_file.specs.Names.{is_name_byte, is_nil}
use Rattle.ninja_read.proofs.ValueRead.{in_name_reads, run, last_run, option_map_twice, option_map_same, dollar_within}
use Rattle.bp_faults.specs.Characters.{dollar}

-- a name between braces ends at a brace
abbrev closes : List ℕ → List ℕ → Option (List Piece)
closes name [] = None
closes name (b ∷ bytes) =
    cond (eqb b 125) (cond (is_nil name) None (with_variable name (pieces_from in_text bytes))) None

in_braces_by : (b : ℕ) (name bytes : List ℕ) (e f : Bool) → eqb b 125 ≡ e → is_name_byte b ≡ f
    → ((more : List ℕ) → pieces_from (in_braces more) bytes
    ≡ closes (more ++ take (name_length bytes) bytes) (drop (name_length bytes) bytes))
    → cond e (cond (is_nil name) None (with_variable name (pieces_from in_text bytes)))
    (cond f (pieces_from (in_braces (name ++ b ∷ [])) bytes) None) ≡ closes (name
    ++ take (cond f (suc (name_length bytes)) 0) (b ∷ bytes)) (drop (cond f (suc (name_length bytes)) 0) (b ∷ bytes))
in_braces_by b name bytes true true is named more =
    absurd (let at : b ≡ 125 = eqb-true b 125 is in
    let bad : is_name_byte 125 ≡ true = subst (λ x. is_name_byte x ≡ true) at named in cc)
in_braces_by b name bytes true false is named more = rw (is, append-nil) refl
in_braces_by b name bytes false true is named more =
    more (name ++ b ∷ [])
    ∙ ap (λ n. closes n (drop (name_length bytes) bytes)) (append_assoc name (b ∷ []) (take (name_length bytes) bytes))
in_braces_by b name bytes false false is named more = rw is refl

pub in_braces_reads : (bytes name : List ℕ) → pieces_from (in_braces name) bytes
    ≡ closes (name ++ take (name_length bytes) bytes) (drop (name_length bytes) bytes)
in_braces_reads [] name = refl
in_braces_reads (b ∷ bytes) name =
    in_braces_by b name bytes (eqb b 125) (is_name_byte b) refl refl (λ more. in_braces_reads bytes more)

none_either : (e : Bool) → ◌≡◌ {A = Option (List Piece)} (cond e None None) None
none_either true = refl
none_either false = refl

no_name : (behind : List ℕ) → closes [] behind ≡ None
no_name [] = refl
no_name (b ∷ behind) = none_either (eqb b 125)

-- an empty name
pub braces_empty : (text name behind : List ℕ) → name ≡ take (name_length text) text
    → behind ≡ drop (name_length text) text → eqb (length name) 0 ≡ true → pieces_from (in_braces []) text ≡ None
braces_empty text [] behind is rest h =
    in_braces_reads text []
    ∙ ap (λ n. closes n (drop (name_length text) text)) (sym is)
    ∙ no_name (drop (name_length text) text)
braces_empty text (b ∷ name) behind is rest h = absurd (omega (arith, eqb-true (suc (length name)) 0 h))

other_close_by : (b : ℕ) (name behind : List ℕ) (e : Bool) → eqb b 125 ≡ e → (b ≡ 125 → ⊥)
    → cond e (cond (is_nil name) None (with_variable name (pieces_from in_text behind))) None ≡ None
other_close_by b name behind true is h = absurd (h (eqb-true b 125 is))
other_close_by b name behind false is h = refl

other_close : (name behind : List ℕ) → ((rest : List ℕ) → behind ≡ 125 ∷ rest → ⊥) → closes name behind ≡ None
other_close name [] h = refl
other_close name (b ∷ behind) h =
    other_close_by b name behind (eqb b 125) refl (λ is. h behind (ap (λ x. x ∷ behind) is))

-- no brace behind the name
pub braces_open : (text behind : List ℕ) → behind ≡ drop (name_length text) text
    → ((rest : List ℕ) → behind ≡ 125 ∷ rest → ⊥) → pieces_from (in_braces []) text ≡ None
braces_open text behind is h =
    in_braces_reads text []
    ∙ ap (closes (take (name_length text) text)) (sym is)
    ∙ other_close (take (name_length text) text) behind h

pub braces_closed : (text name behind rest : List ℕ) → name ≡ take (name_length text) text
    → behind ≡ drop (name_length text) text → eqb (length name) 0 ≡ false → behind ≡ 125 ∷ rest
    → pieces_from (in_braces []) text ≡ option_map (λ more. Var name ∷ more) (pieces_from in_text rest)
braces_closed text name behind rest is back some brace =
    let named : is_nil name ≡ false = some in
    in_braces_reads text []
    ∙ ap (λ n. closes n (drop (name_length text) text)) (sym is)
    ∙ ap (closes name) (sym back ∙ brace)
    ∙ rw named refl

-- a byte that is written behind a dollar
pub sign_escaped : (text : List ℕ) (b : ℕ) (rest front back : List ℕ) → text ≡ b ∷ rest → is_escaped Path b ≡ true
    → front ≡ take 1 text → back ≡ drop 1 text
    → pieces_from behind_dollar text ≡ option_map (with_text front) (pieces_from in_text back)
sign_escaped text b rest front back is escaped f k = rw (f, k, is, escaped) refl

bare_by : (b : ℕ) (rest : List ℕ) (e : Bool) → is_name_byte b ≡ e
    → cond e (pieces_from (in_name (b ∷ [])) rest) None ≡ cond e (with_variable (take (cond e (suc (name_length rest))
    0) (b ∷ rest)) (pieces_from in_text (drop (cond e (suc (name_length rest)) 0) (b ∷ rest)))) None
bare_by b rest true is = in_name_reads rest (b ∷ [])
bare_by b rest false is = refl

sign_bare : (b : ℕ) (rest : List ℕ) → is_escaped Path b ≡ false → (b ≡ 123 → ⊥)
    → pieces_from behind_dollar (b ∷ rest) ≡ cond (is_name_byte b) (with_variable (take (name_length (b ∷ rest))
    (b ∷ rest)) (pieces_from in_text (drop (name_length (b ∷ rest)) (b ∷ rest)))) None
sign_bare b rest plain other =
    let e : eqb b 123 ≡ false = grind (arith, nat_tests) in rw (plain, e) (bare_by b rest (is_name_byte b) refl)

named_by : (b : ℕ) (rest name : List ℕ) (e : Bool) → name ≡ take (cond e (suc (name_length rest)) 0) (b ∷ rest)
    → eqb (length name) 0 ≡ false → e ≡ true
named_by b rest name true is some = refl
named_by b rest name false is some = absurd (omega (arith, eqb-false (length name) 0 some, ap length is))

pub sign_named : (text : List ℕ) (b : ℕ) (rest name back : List ℕ) → text ≡ b ∷ rest → is_escaped Path b ≡ false
    → (b ≡ 123 → ⊥) → name ≡ take (name_length text) text → back ≡ drop (name_length text) text
    → eqb (length name) 0 ≡ false
    → pieces_from behind_dollar text ≡ option_map (λ more. Var name ∷ more) (pieces_from in_text back)
sign_named text b rest name back is plain other n k some =
    let n_ : name ≡ take (name_length (b ∷ rest)) (b ∷ rest) = n ∙ ap (λ t. take (name_length t) t) is in
    let k_ : back ≡ drop (name_length (b ∷ rest)) (b ∷ rest) = k ∙ ap (λ t. drop (name_length t) t) is in
    let e : is_name_byte b ≡ true = named_by b rest name (is_name_byte b) n_ some in
    ap (pieces_from behind_dollar) is
    ∙ sign_bare b rest plain other
    ∙ ap (λ t. cond t (with_variable (take (name_length (b ∷ rest)) (b ∷ rest))
    (pieces_from in_text (drop (name_length (b ∷ rest)) (b ∷ rest)))) None) e
    ∙ ap (λ m. with_variable m (pieces_from in_text (drop (name_length (b ∷ rest)) (b ∷ rest)))) (sym n_)
    ∙ ap (λ r. with_variable name (pieces_from in_text r)) (sym k_)

unnamed_by : (b : ℕ) (rest name : List ℕ) (e : Bool) → name ≡ take (cond e (suc (name_length rest)) 0) (b ∷ rest)
    → eqb (length name) 0 ≡ true → e ≡ false
unnamed_by b rest name true is some = absurd (omega (arith, eqb-true (length name) 0 some, ap length is))
unnamed_by b rest name false is some = refl

dollar_is_by : (b : ℕ) (bytes : List ℕ) (e : Bool) → eqb b dollar ≡ e
    → (dollar_at bytes < length bytes → get_or bytes (dollar_at bytes) 0 ≡ dollar)
    → cond e 0 (suc (dollar_at bytes)) < suc (length bytes)
    → get_or (b ∷ bytes) (cond e 0 (suc (dollar_at bytes))) 0 ≡ dollar
dollar_is_by b bytes true is more h = eqb-true b dollar is
dollar_is_by b bytes false is more h = more (omega arith)

dollar_is : (bytes : List ℕ) → dollar_at bytes < length bytes → get_or bytes (dollar_at bytes) 0 ≡ dollar
dollar_is [] h = absurd (omega arith)
dollar_is (b ∷ bytes) h = dollar_is_by b bytes (eqb b dollar) refl (λ k. dollar_is bytes k) h

pub dollar_ascii : (bytes : List ℕ) (at : ℕ) → at ≡ dollar_at bytes → at < length bytes → get_or bytes at 0 < 128
dollar_ascii bytes at is h = let e : get_or bytes at 0 ≡ dollar = rw is (dollar_is bytes (rw (← is) h)) in omega arith

-- one run and what stands behind its dollar
run_at : (bytes : List ℕ) (at : ℕ) → at ≡ dollar_at bytes → at < length bytes → pieces_from in_text bytes
    ≡ option_map (with_text (take at bytes)) (pieces_from behind_dollar (drop (at + 1) bytes))
run_at bytes at is h = rw (add-one, is) (run bytes (rw (← is) h))

pub run_refused : (bytes back : List ℕ) (at : ℕ) → at ≡ dollar_at bytes → at < length bytes → back ≡ drop (at + 1) bytes
    → pieces_from behind_dollar back ≡ None → pieces_from in_text bytes ≡ None
run_refused bytes back at is h k none =
    run_at bytes at is h ∙ ap (option_map (with_text (take at bytes))) (ap (pieces_from behind_dollar) (sym k) ∙ none)

pub run_put : (old mid new : Pieces) (bytes front back rest written : List ℕ) (sign : Sign) (at : ℕ)
    → at ≡ dollar_at bytes → at < length bytes → front ≡ take at bytes → back ≡ drop (at + 1) bytes
    → pieces_from behind_dollar back ≡ option_map (with_sign sign) (pieces_from in_text rest)
    → ((more : List Piece) → built_pieces mid more ≡ built_pieces old (with_text front more))
    → ((more : List Piece) → built_pieces new more ≡ built_pieces mid (with_sign sign more))
    → option_map (built_pieces old) (pieces_from in_text bytes) ≡ pieces_of written
    → option_map (built_pieces new) (pieces_from in_text rest) ≡ pieces_of written
run_put old mid new bytes front back rest written sign at is h f k found put_front put_sign whole =
    let r = run_at bytes at is h in
    let s : pieces_from behind_dollar (drop (at + 1) bytes) ≡ option_map (with_sign sign) (pieces_from in_text rest) =
    ap (pieces_from behind_dollar) (sym k) ∙ found in
    let o = pieces_from in_text rest in
    option_map_same (built_pieces new) (λ more. built_pieces old (with_text (take at bytes) (with_sign sign more))) o
    (λ more. put_sign more ∙ put_front (with_sign sign more)
    ∙ ap (λ t. built_pieces old (with_text t (with_sign sign more))) f)
    ∙ sym (option_map_twice (built_pieces old) (λ more. with_text (take at bytes) (with_sign sign more)) o)
    ∙ ap (option_map (built_pieces old)) (sym (option_map_twice (with_text (take at bytes)) (with_sign sign) o))
    ∙ ap (λ x. option_map (built_pieces old) (option_map (with_text (take at bytes)) x)) (sym s)
    ∙ ap (option_map (built_pieces old)) (sym r) ∙ whole

pub last_run_put : (old new : Pieces) (bytes written : List ℕ) (at : ℕ) → at ≡ dollar_at bytes → length bytes ≤ at
    → ((more : List Piece) → built_pieces new more ≡ built_pieces old (with_text bytes more))
    → option_map (built_pieces old) (pieces_from in_text bytes) ≡ pieces_of written
    → Some (built_pieces new []) ≡ pieces_of written
last_run_put old new bytes written at is h put whole =
    let end : dollar_at bytes ≡ length bytes = omega (arith, dollar_within bytes) in
    ap Some (put []) ∙ ap (option_map (built_pieces old)) (sym (last_run bytes end)) ∙ whole

pub escaped_ascii : (b : ℕ) → is_escaped Path b ≡ true → b < 128
escaped_ascii b h = grind (arith, nat_tests)

-- behind a first character that is ASCII
pub first_boundary : (text : List ℕ) (b : ℕ) (rest : List ℕ) → IsUtf8 text → text ≡ b ∷ rest → b < 128
    → IsCharBoundary text 1
first_boundary text b rest utf8 is ascii = IsCharBoundary-after_ascii text 0 utf8 (rw is (omega arith)) (rw is ascii)
