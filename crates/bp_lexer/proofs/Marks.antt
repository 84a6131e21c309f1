-- The longest punctuation mark, and the bytes that begin no token.
use Rattle.std.proofs.Common.{◌≡◌, ℕ, ◌<◌, ◌≤◌, false, List, [], ◌∷◌, ◌++◌, length, get_or, sym, refl, ap, ◌∙◌, arith}
use Rattle.std.proofs.Common.{⊎_elim, subst}
use Rattle.std.specs.Prelude.{◌==◌}
use Rattle.std.proofs.lemmas.Bool.{cases_Bool, cond-true, cond-false, false≢true, ne_eqb}
use Rattle.bp_lexer.specs.declared.token.Punct.{Punct}
use Rattle.bp_lexer.specs.declared.token.Punct.TheVariants.{OpenBrace, CloseBrace, OpenBracket, CloseBracket, OpenParen}
use Rattle.bp_lexer.specs.declared.token.Punct.TheVariants.{CloseParen, Colon, Comma, Equal, PlusEqual, Plus}
use Rattle.bp_lexer.specs.declared.token.TokenKind.{TokenKind}
use Rattle.bp_lexer.specs.declared.token.TokenKind.TheVariants.{Ident, Int, Quoted, Raw, Punct as Mark, LineComment}
use Rattle.bp_lexer.specs.declared.token.TokenKind.TheVariants.{BlockComment}
use Rattle.bp_lexer.specs.Classes.{is_letter, is_digit}
use Rattle.bp_lexer.specs.Faults.{Opens}
use Rattle.bp_lexer.specs.Forms.{IsForm, IsLongest, HasNoForm, punct_text}
use Rattle.bp_lexer.proofs.Comments.{not_open}
use Rattle.bp_lexer.proofs.Rivals.{rival, form_as}
use Rattle.bp_lexer.proofs.TokenKinds.{int_parts, kind_of}

-- a mark of one byte begins no other token, where it is no `+` before `=`
pub mark_alone : (p : Punct) (w : List ℕ) (b : ℕ) → punct_text p ≡ b ∷ [] → (b ≡ 43 → get_or w 0 0 ≡ 61 → ⊥)
    → kind_of (b ∷ w) ≡ Mark p
mark_alone OpenBrace w b is apart = let e : b ≡ 123 = sym (ap (λ l. get_or l 0 0) is) in rw e refl
mark_alone CloseBrace w b is apart = let e : b ≡ 125 = sym (ap (λ l. get_or l 0 0) is) in rw e refl
mark_alone OpenBracket w b is apart = let e : b ≡ 91 = sym (ap (λ l. get_or l 0 0) is) in rw e refl
mark_alone CloseBracket w b is apart = let e : b ≡ 93 = sym (ap (λ l. get_or l 0 0) is) in rw e refl
mark_alone OpenParen w b is apart = let e : b ≡ 40 = sym (ap (λ l. get_or l 0 0) is) in rw e refl
mark_alone CloseParen w b is apart = let e : b ≡ 41 = sym (ap (λ l. get_or l 0 0) is) in rw e refl
mark_alone Colon w b is apart = let e : b ≡ 58 = sym (ap (λ l. get_or l 0 0) is) in rw e refl
mark_alone Comma w b is apart = let e : b ≡ 44 = sym (ap (λ l. get_or l 0 0) is) in rw e refl
mark_alone Equal w b is apart = let e : b ≡ 61 = sym (ap (λ l. get_or l 0 0) is) in rw e refl
mark_alone PlusEqual w b is apart = absurd (omega (arith, ap length is))
mark_alone Plus w b is apart =
    let e : b ≡ 43 = sym (ap (λ l. get_or l 0 0) is) in
    rw e (cond-false (get_or w 0 0 == 61) _ _ (ne_eqb (get_or w 0 0) 61 (apart e)))

-- what stands second in a word stands second in the text
second_same : (bs w after : List ℕ) (c : ℕ) → bs ≡ w ++ after → (get_or bs 0 0 ≡ c → ⊥) → 0 < c → get_or w 0 0 ≡ c → ⊥
second_same bs [] after c rest other some here = omega arith
second_same bs (x ∷ w) after c rest other some here = other (ap (λ l. get_or l 0 0) rest ∙ here)

pub mark_longest : (text : List ℕ) (p : Punct) → 0 < length text → punct_text p ≡ get_or text 0 0 ∷ []
    → (get_or text 0 0 ≡ 43 → get_or text 1 0 ≡ 61 → ⊥) → IsLongest text (Mark p) 1
mark_longest [] p some is apart = absurd (omega arith)
mark_longest (b ∷ bs) p some is apart = record {
  within = omega arith;
  form = sym is;
  longest = λ k word after split form.
      let r = rival b bs k word after split form in
      let f = form_as (Mark p) k word (r.1.kind
      ∙ mark_alone p r.0 b is (λ plus. second_same bs r.0 after 61 r.1.rest (apart plus) (omega arith))) form in
      omega (arith, ap length f, ap length is);
}

plus_only : (k : TokenKind) (word w : List ℕ) → k ≡ kind_of (43 ∷ w) → IsForm k word → length word ≤ 2
plus_only k word w kind form =
    ⊎_elim
    (λ equals. let f = form_as (Mark PlusEqual) k word (kind ∙ cond-true (get_or w 0 0 == 61) _ _ equals) form in
    omega (arith, ap length f))
    (λ other. let f = form_as (Mark Plus) k word (kind ∙ cond-false (get_or w 0 0 == 61) _ _ other) form in
    omega (arith, ap length f))
    (cases_Bool (get_or w 0 0 == 61))

pub plus_equals_longest : (text : List ℕ) → get_or text 0 0 ≡ 43 → get_or text 1 0 ≡ 61
    → IsLongest text (Mark PlusEqual) 2
plus_equals_longest [] first second = absurd (omega arith)
plus_equals_longest (a ∷ []) first second = absurd (omega arith)
plus_equals_longest (a ∷ b ∷ bs) first second = record {
  within = omega arith;
  form = rw (first, second) refl;
  longest = λ k word after split form.
      let r = rival 43 (b ∷ bs) k word after (rw first at split) form in
      plus_only k word r.0 r.1.kind form;
}

-- the byte begins no token
pub record BeginsNone (b : ℕ) : Type 0 where
  pub letter : is_letter b ≡ false
  pub digit : is_digit b ≡ false
  pub minus : b ≡ 45 → ⊥
  pub quote : b ≡ 34 → ⊥
  pub backquote : b ≡ 96 → ⊥
  pub slash : b ≡ 47 → ⊥
  pub mark : (p : Punct) → punct_text p ≡ b ∷ [] → ⊥

no_begin : (k : TokenKind) (b : ℕ) (w : List ℕ) → IsForm k (b ∷ w) → BeginsNone b → ⊥
no_begin Ident b w form none =
    let e : form.0 ≡ b = cc in
    false≢true (sym none.letter ∙ ap is_letter (sym e) ∙ form.3)
no_begin Int b w form none =
    let int = int_parts (b ∷ w) form in
    let e : int.0 ≡ b = cc (int.2.begins) in
    ⊎_elim (λ minus. none.minus (sym e ∙ minus.0))
    (λ digit. false≢true (sym none.digit ∙ ap is_digit (sym e) ∙ digit)) int.2.first
no_begin Quoted b w form none = none.quote cc
no_begin Raw b w form none = none.backquote cc
no_begin (Mark OpenBrace) b w form none = none.mark OpenBrace (let e : b ≡ 123 = cc in rw e refl)
no_begin (Mark CloseBrace) b w form none = none.mark CloseBrace (let e : b ≡ 125 = cc in rw e refl)
no_begin (Mark OpenBracket) b w form none = none.mark OpenBracket (let e : b ≡ 91 = cc in rw e refl)
no_begin (Mark CloseBracket) b w form none = none.mark CloseBracket (let e : b ≡ 93 = cc in rw e refl)
no_begin (Mark OpenParen) b w form none = none.mark OpenParen (let e : b ≡ 40 = cc in rw e refl)
no_begin (Mark CloseParen) b w form none = none.mark CloseParen (let e : b ≡ 41 = cc in rw e refl)
no_begin (Mark Colon) b w form none = none.mark Colon (let e : b ≡ 58 = cc in rw e refl)
no_begin (Mark Comma) b w form none = none.mark Comma (let e : b ≡ 44 = cc in rw e refl)
no_begin (Mark Equal) b w form none = none.mark Equal (let e : b ≡ 61 = cc in rw e refl)
no_begin (Mark PlusEqual) b w form none = none.mark Plus (let e : b ≡ 43 = cc in rw e refl)
no_begin (Mark Plus) b w form none = none.mark Plus (let e : b ≡ 43 = cc in rw e refl)
no_begin LineComment b w form none = none.slash cc
no_begin BlockComment b w form none = none.slash cc

pub none_begins : (text : List ℕ) → 0 < length text → BeginsNone (get_or text 0 0) → HasNoForm text
none_begins [] some none k word after split form = absurd (omega arith)
none_begins (b ∷ bs) some none k word after split form =
    let r = rival b bs k word after split form in
    no_begin k b r.0 (subst (λ v. IsForm k v) r.1.begins form) none

pub none_opens : (text : List ℕ) → BeginsNone (get_or text 0 0) → Opens text → ⊥
none_opens text none = not_open text none.quote none.backquote (λ slash star. none.slash slash)
