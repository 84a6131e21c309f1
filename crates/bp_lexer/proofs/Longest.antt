-- A token is the longest form where the byte behind it doesn't go on with it.
use Rattle.std.proofs.Common.{◌≡◌, ℕ, suc, ◌+◌, ◌<◌, ◌≤◌, Bool, true, false, List, [], ◌∷◌, ◌++◌, length, get_or, sym}
use Rattle.std.proofs.Common.{refl, ap, ◌∙◌, arith, ⊎_elim, subst, inl, inr, append_assoc, append-nil, length-append}
use Rattle.std.specs.Prelude.{◌==◌, ◌⊎◌}
use Rattle.std.specs.List.{prefix_len, list_all}
use Rattle.std.proofs.Math.ListN.{get_or-append}
use Rattle.std.proofs.Math.Seq.{take-append_seam}
use Rattle.std.proofs.lemmas.List.{get_or_past}
use Rattle.std.proofs.lemmas.List.Sums.{prefix_len-le-length}
use Rattle.std.proofs.lemmas.Bool.{cases_Bool, cases_lt, cond-true, cond-false, and_parts, false≢true, ne_eqb}
use Rattle.bp_lexer.specs.declared.token.Punct.{Punct}
use Rattle.bp_lexer.specs.declared.token.Punct.TheVariants.{OpenBrace, CloseBrace, OpenBracket, CloseBracket, OpenParen}
use Rattle.bp_lexer.specs.declared.token.Punct.TheVariants.{CloseParen, Colon, Comma, Equal, PlusEqual, Plus}
use Rattle.bp_lexer.specs.declared.token.TokenKind.{TokenKind}
use Rattle.bp_lexer.specs.declared.token.TokenKind.TheVariants.{Ident, Int, Quoted, Raw, Punct as Mark, LineComment}
use Rattle.bp_lexer.specs.declared.token.TokenKind.TheVariants.{BlockComment}
use Rattle.bp_lexer.specs.Classes.{is_letter, is_word, is_digit, in_line, in_raw}
use Rattle.bp_lexer.specs.Strings.{is_body, is_escape, is_string_byte}
use Rattle.bp_lexer.specs.Forms.{IsForm, IsLongest, IsEnd, IsFirstEnd, punct_text}
use Rattle.bp_lexer.specs.Apart.{goes_on, StopsAt}
use Rattle.bp_lexer.proofs.Runs.{all_le_prefix, run_stops}
use Rattle.bp_lexer.proofs.Rivals.{rival, form_as, second_of}
use Rattle.bp_lexer.proofs.TokenKinds.{kind_of, int_parts, int_kind}

-- no rival is longer than the word
abbrev NoLonger : TokenKind → List ℕ → List ℕ → Type 0
NoLonger kind w after =
    (k : TokenKind) (word tail : List ℕ) → w ++ after ≡ word ++ tail → IsForm k word → length word ≤ length w

run_is : (p : ℕ → Bool) (word after : List ℕ) → list_all p word ≡ true → StopsAt p after
    → prefix_len p (word ++ after) ≤ length word
run_is p word [] all stops = omega (arith, prefix_len-le-length p (word ++ []), ap length (append-nil word))
run_is p word (b ∷ bs) all (inl none) = absurd (omega (arith, ap length none))
run_is p word (b ∷ bs) all (inr other) = omega (arith, run_stops p word bs b all other)

-- a run of bytes that pass, within a text that begins with the word's
within_run : (p : ℕ → Bool) (more after w tail : List ℕ) → more ++ after ≡ w ++ tail → list_all p more ≡ true
    → StopsAt p after → list_all p w ≡ true → length w ≤ length more
within_run p more after w tail same all stops other =
    omega (arith, all_le_prefix p w tail other, run_is p more after all stops, ap (prefix_len p) same)

int_begins : (b : ℕ) (w more : List ℕ) → ((b ≡ 45) × (0 < length more)) ⊎ (is_digit b ≡ true) → kind_of (b ∷ w) ≡ Int
int_begins b w more (inl minus) = rw minus.0 refl
int_begins b w more (inr digit) = int_kind b w (inr digit)

ident_only : (first : ℕ) (more after : List ℕ) → is_letter first ≡ true → list_all is_word more ≡ true
    → StopsAt is_word after → NoLonger Ident (first ∷ more) after
ident_only first more after letter all stops k word tail split form =
    let r = rival first (more ++ after) k word tail split form in
    let f = form_as Ident k word (r.1.kind ∙ cond-true (is_letter first) _ _ letter) form in
    let same : f.0 ∷ f.1 ≡ first ∷ r.0 = sym f.2 ∙ r.1.begins in
    let rest : f.1 ≡ r.0 = cc in
    omega (
      arith,
      ap length r.1.begins,
      within_run is_word more after r.0 tail r.1.rest all stops (subst (λ l. list_all is_word l ≡ true) rest f.4),
    )

int_only : (b : ℕ) (more after : List ℕ) → ((b ≡ 45) × (0 < length more)) ⊎ (is_digit b ≡ true)
    → list_all is_digit more ≡ true → StopsAt is_digit after → NoLonger Int (b ∷ more) after
int_only b more after first all stops k word tail split form =
    let r = rival b (more ++ after) k word tail split form in
    let f = form_as Int k word (r.1.kind ∙ int_begins b r.0 more first) form in
    let i = int_parts word f in
    let same : i.0 ∷ i.1 ≡ b ∷ r.0 = sym i.2.begins ∙ r.1.begins in
    let rest : i.1 ≡ r.0 = cc in
    omega (
      arith,
      ap length r.1.begins,
      within_run is_digit more after r.0 tail r.1.rest all stops
          (subst (λ l. list_all is_digit l ≡ true) rest i.2.digits),
    )

-- of two bodies in one text that a quote closes, neither is longer
body_only : (slash : Bool) (a b after tail : List ℕ) → is_body is_escape slash a ≡ true
    → is_body is_escape slash b ≡ true → a ++ 34 ∷ after ≡ b ++ 34 ∷ tail → length b ≤ length a
body_only true [] b after tail ha hb same = absurd (false≢true ha)
body_only false [] [] after tail ha hb same = omega arith
body_only false [] (y ∷ b) after tail ha hb same =
    let e : y ≡ 34 = sym (ap (λ l. get_or l 0 0) same) in
    absurd (false≢true (sym (ap (λ x. is_body is_escape false (x ∷ b)) e) ∙ hb))
body_only slash (x ∷ a) [] after tail ha hb same = omega arith
body_only true (x ∷ a) (y ∷ b) after tail ha hb same =
    let rest : a ++ 34 ∷ after ≡ b ++ 34 ∷ tail = cc in
    let step = body_only false a b after tail (and_parts (is_escape x) _ ha).1 (and_parts (is_escape y) _ hb).1 rest in
    omega arith
body_only false (x ∷ a) (y ∷ b) after tail ha hb same =
    let e : y ≡ x = sym (ap (λ l. get_or l 0 0) same) in
    let rest : a ++ 34 ∷ after ≡ b ++ 34 ∷ tail = cc in
    let other : is_body is_escape false (x ∷ b) ≡ true = subst (λ z. is_body is_escape false (z ∷ b) ≡ true) e hb in
    ⊎_elim
    (λ yes. omega (
      arith,
      body_only true a b after tail (sym (cond-true (x == 92) _ _ yes) ∙ ha)
          (sym (cond-true (x == 92) _ _ yes) ∙ other) rest,
    ))
    (λ plain. omega (
      arith,
      body_only false a b after tail
          (and_parts (is_string_byte x) _ (sym (cond-false (x == 92) _ _ plain) ∙ ha)).1
          (and_parts (is_string_byte x) _ (sym (cond-false (x == 92) _ _ plain) ∙ other)).1 rest,
    ))
    (cases_Bool (x == 92))

quoted_only : (inner after : List ℕ) → is_body is_escape false inner ≡ true
    → NoLonger Quoted (34 ∷ (inner ++ 34 ∷ [])) after
quoted_only inner after body k word tail split form =
    let r = rival 34 ((inner ++ 34 ∷ []) ++ after) k word tail split form in
    let f = form_as Quoted k word r.1.kind form in
    let w : r.0 ≡ f.0 ++ 34 ∷ [] = cc (f.1, r.1.begins) in
    let same : inner ++ 34 ∷ after ≡ f.0 ++ 34 ∷ tail =
    sym (append_assoc inner (34 ∷ []) after) ∙ r.1.rest ∙ ap (λ l. l ++ tail) w ∙ append_assoc f.0 (34 ∷ []) tail in
    omega (
      arith,
      ap length f.1,
      length-append f.0 (34 ∷ []),
      length-append inner (34 ∷ []),
      body_only false inner f.0 after tail body f.2 same,
    )

raw_only : (inner after : List ℕ) → list_all in_raw inner ≡ true → NoLonger Raw (96 ∷ (inner ++ 96 ∷ [])) after
raw_only inner after all k word tail split form =
    let r = rival 96 ((inner ++ 96 ∷ []) ++ after) k word tail split form in
    let f = form_as Raw k word r.1.kind form in
    let w : r.0 ≡ f.0 ++ 96 ∷ [] = cc (f.1, r.1.begins) in
    let same : inner ++ 96 ∷ after ≡ f.0 ++ 96 ∷ tail =
    sym (append_assoc inner (96 ∷ []) after) ∙ r.1.rest ∙ ap (λ l. l ++ tail) w ∙ append_assoc f.0 (96 ∷ []) tail in
    omega (
      arith,
      ap length f.1,
      length-append f.0 (96 ∷ []),
      length-append inner (96 ∷ []),
      within_run in_raw inner (96 ∷ after) f.0 (96 ∷ tail) same all (inr refl) f.2,
    )

-- a mark of one byte begins no other token, where it is no `+` before `=`
mark_alone : (p : Punct) (w : List ℕ) (b : ℕ) → punct_text p ≡ b ∷ [] → (b ≡ 43 → get_or w 0 0 ≡ 61 → ⊥)
    → kind_of (b ∷ w) ≡ Mark p
mark_alone OpenBrace w b is apart = let e : b ≡ 123 = sym (ap (λ l. get_or l 0 0) is) in rw e refl
mark_alone CloseBrace w b is apart = let e : b ≡ 125 = sym (ap (λ l. get_or l 0 0) is) in rw e refl
mark_alone OpenBracket w b is apart = let e : b ≡ 91 = sym (ap (λ l. get_or l 0 0) is) in rw e refl
mark_alone CloseBracket w b is apart = let e : b ≡ 93 = sym (ap (λ l. get_or l 0 0) is) in rw e refl
mark_alone OpenParen w b is apart = let e : b ≡ 40 = sym (ap (λ l. get_or l 0 0) is) in rw e refl
mark_alone CloseParen w b is apart = let e : b ≡ 41 = sym (ap (λ l. get_or l 0 0) is) in rw e refl
mark_alone Colon w b is apart = let e : b ≡ 58 = sym (ap (λ l. get_or l 0 0) is) in rw e refl
mark_alone Comma w b is apart = let e : b ≡ 44 = sym (ap (λ l. get_or l 0 0) is) in rw e refl
mark_alone Equal w b is apart = let e : b ≡ 61 = sym (ap (λ l. get_or l 0 0) is) in rw e refl
mark_alone PlusEqual w b is apart = absurd (omega (arith, ap length is))
mark_alone Plus w b is apart =
    let e : b ≡ 43 = sym (ap (λ l. get_or l 0 0) is) in
    rw e (cond-false (get_or w 0 0 == 61) _ _ (ne_eqb (get_or w 0 0) 61 (apart e)))

-- what stands second in a word stands second in the text
second_same : (bs w after : List ℕ) (c : ℕ) → bs ≡ w ++ after → 0 < c → get_or w 0 0 ≡ c → get_or bs 0 0 ≡ c
second_same bs [] after c rest some here = absurd (omega arith)
second_same bs (x ∷ w) after c rest some here = ap (λ l. get_or l 0 0) rest ∙ here

mark_only : (p : Punct) (b : ℕ) (after : List ℕ) → punct_text p ≡ b ∷ [] → (b ≡ 43 → get_or after 0 0 ≡ 61 → ⊥)
    → NoLonger (Mark p) (b ∷ []) after
mark_only p b after is apart k word tail split form =
    let r = rival b after k word tail split form in
    let f = form_as (Mark p) k word (r.1.kind ∙ mark_alone p r.0 b is
    (λ plus equals. apart plus (second_same after r.0 tail 61 r.1.rest (omega arith) equals))) form in
    omega (arith, ap length f, ap length is)

plus_equals_only : (after : List ℕ) → NoLonger (Mark PlusEqual) (43 ∷ 61 ∷ []) after
plus_equals_only after k word tail split form =
    let r = rival 43 (61 ∷ after) k word tail split form in
    ⊎_elim
    (λ equals. let f = form_as (Mark PlusEqual) k word (r.1.kind ∙ cond-true (get_or r.0 0 0 == 61) _ _ equals) form in
    omega (arith, ap length f))
    (λ other. let f = form_as (Mark Plus) k word (r.1.kind ∙ cond-false (get_or r.0 0 0 == 61) _ _ other) form in
    omega (arith, ap length f))
    (cases_Bool (get_or r.0 0 0 == 61))

line_kind : (w : List ℕ) → (w ≡ []) ⊎ (get_or w 0 0 ≡ 47) → kind_of (47 ∷ w) ≡ LineComment
line_kind w (inl none) = rw none refl
line_kind w (inr slash) = rw slash refl

line_only : (inner after : List ℕ) → list_all in_line inner ≡ true → StopsAt in_line after
    → NoLonger LineComment (47 ∷ 47 ∷ inner) after
line_only inner after all stops k word tail split form =
    let r = rival 47 (47 ∷ (inner ++ after)) k word tail split form in
    let f =
    form_as LineComment k word (r.1.kind ∙ line_kind r.0 (second_of 47 (inner ++ after) r.0 tail r.1.rest)) form in
    let whole : 47 ∷ 47 ∷ (inner ++ after) ≡ 47 ∷ (47 ∷ (f.0 ++ tail)) = split ∙ ap (λ w. w ++ tail) f.1 in
    let rest : inner ++ after ≡ f.0 ++ tail = cc in
    omega (arith, ap length f.1, within_run in_line inner after f.0 tail rest all stops f.2)

-- a byte that is not 0 is within the list
inside : (bs : List ℕ) (i v : ℕ) → get_or bs i 0 ≡ suc v → i < length bs
inside bs i v byte =
    ⊎_elim (λ below. below) (λ past. absurd (omega (arith, get_or_past bs i 0 past))) (cases_lt i (length bs))

-- where `*/` stands in a front it stands in the whole, and the other way round
end_of_front : (behind after : List ℕ) (n : ℕ) → IsEnd behind n → IsEnd (behind ++ after) n
end_of_front behind after n end =
    let two : n + 1 < length behind = inside behind (n + 1) 46 end.1 in
    (get_or-append behind after 0 n (omega arith) ∙ end.0, get_or-append behind after 0 (n + 1) two ∙ end.1)

end_in_front : (behind after : List ℕ) (n : ℕ) → n + 1 < length behind → IsEnd (behind ++ after) n → IsEnd behind n
end_in_front behind after n two end =
    (sym (get_or-append behind after 0 n (omega arith)) ∙ end.0, sym (get_or-append behind after 0 (n + 1) two) ∙ end.1)

block_kind : (w : List ℕ) → get_or w 0 0 ≡ 42 → kind_of (47 ∷ w) ≡ BlockComment
block_kind w star = rw star refl

no_single : (word : List ℕ) → word ≡ 47 ∷ [] → IsForm LineComment word → ⊥
no_single word one form = omega (arith, ap length one, ap length form.1)

block_only : (behind : List ℕ) (n : ℕ) (after : List ℕ) → length behind ≡ n + 2 → IsFirstEnd behind n
    → NoLonger BlockComment (47 ∷ 42 ∷ behind) after
block_only behind n after len end k word tail split form =
    let r = rival 47 (42 ∷ (behind ++ after)) k word tail split form in
    let star : get_or r.0 0 0 ≡ 42 = ⊎_elim
    (λ none. absurd (no_single word (r.1.begins ∙ ap (λ l. 47 ∷ l) none)
    (form_as LineComment k word (r.1.kind ∙ line_kind r.0 (inl none)) form)))
    (λ star. star)
    (second_of 42 (behind ++ after) r.0 tail r.1.rest) in
    let f = form_as BlockComment k word (r.1.kind ∙ block_kind r.0 star) form in
    let whole : 47 ∷ 42 ∷ (behind ++ after) ≡ 47 ∷ (42 ∷ (f.0 ++ tail)) = split ∙ ap (λ w. w ++ tail) f.2 in
    let rest : behind ++ after ≡ f.0 ++ tail = cc in
    ⊎_elim
    (λ below. absurd (f.4.1 n below
    (end_in_front f.0 tail n (omega (arith, f.3)) (subst (λ l. IsEnd l n) rest (end_of_front behind after n end.0)))))
    (λ past. omega (arith, ap length f.2, f.3))
    (cases_lt n f.1)

no_longer : (kind : TokenKind) (w after : List ℕ) → IsForm kind w → StopsAt (goes_on kind) after → NoLonger kind w after
no_longer Ident w after form stops = rw form.2 (ident_only form.0 form.1 after form.3 form.4 stops)
no_longer Int w after form stops =
    let i = int_parts w form in
    rw i.2.begins (int_only i.0 i.1 after i.2.first i.2.digits stops)
no_longer Quoted w after form stops = rw form.1 (quoted_only form.0 after form.2)
no_longer Raw w after form stops = rw form.1 (raw_only form.0 after form.2)
no_longer (Mark OpenBrace) w after form stops = rw form (mark_only OpenBrace 123 after refl (λ e. absurd (omega arith)))
no_longer (Mark CloseBrace) w after form stops =
    rw form (mark_only CloseBrace 125 after refl (λ e. absurd (omega arith)))
no_longer (Mark OpenBracket) w after form stops =
    rw form (mark_only OpenBracket 91 after refl (λ e. absurd (omega arith)))
no_longer (Mark CloseBracket) w after form stops =
    rw form (mark_only CloseBracket 93 after refl (λ e. absurd (omega arith)))
no_longer (Mark OpenParen) w after form stops = rw form (mark_only OpenParen 40 after refl (λ e. absurd (omega arith)))
no_longer (Mark CloseParen) w after form stops =
    rw form (mark_only CloseParen 41 after refl (λ e. absurd (omega arith)))
no_longer (Mark Colon) w after form stops = rw form (mark_only Colon 58 after refl (λ e. absurd (omega arith)))
no_longer (Mark Comma) w after form stops = rw form (mark_only Comma 44 after refl (λ e. absurd (omega arith)))
no_longer (Mark Equal) w after form stops = rw form (mark_only Equal 61 after refl (λ e. absurd (omega arith)))
no_longer (Mark PlusEqual) w after form stops = rw form (plus_equals_only after)
no_longer (Mark Plus) w after form stops =
    rw form
    (mark_only Plus 43 after refl (λ plus equals. ⊎_elim (λ none. absurd (omega (arith, ap (λ l. get_or l 0 0) none)))
    (λ other. false≢true (sym other ∙ ap (λ b. b == 61) equals)) stops))
no_longer LineComment w after form stops = rw form.1 (line_only form.0 after form.2 stops)
no_longer BlockComment w after form stops = rw form.2 (block_only form.0 form.1 after form.3 form.4)

pub longest_before : (kind : TokenKind) (w after : List ℕ) → IsForm kind w → StopsAt (goes_on kind) after
    → IsLongest (w ++ after) kind (length w)
longest_before kind w after form stops = record {
  within = omega (arith, length-append w after);
  form = subst (IsForm kind) (sym (take-append_seam w after)) form;
  longest = no_longer kind w after form stops;
}
