-- The longest comment.
use Rattle.std.proofs.Common.{◌≡◌, ℕ, suc, ◌+◌, ◌<◌, ◌≤◌, List, [], ◌∷◌, ◌++◌, length, get_or, take, drop, sym, refl}
use Rattle.std.proofs.Common.{ap, ◌∙◌, arith, ⊎_elim, length-take-le, get_or-take, subst, inl, inr}
use Rattle.std.specs.Prelude.{◌==◌, ◌⊎◌}
use Rattle.std.specs.List.{prefix_len}
use Rattle.std.proofs.Math.ListN.{get_or-append}
use Rattle.std.proofs.lemmas.List.{get_or_past}
use Rattle.std.proofs.lemmas.List.Sums.{prefix_len-le-length}
use Rattle.std.proofs.lemmas.Bool.{cases_Bool, cases_lt, cond-true, cond-false}
use Rattle.bp_lexer.specs.declared.token.TokenKind.{TokenKind}
use Rattle.bp_lexer.specs.declared.token.TokenKind.TheVariants.{LineComment, BlockComment}
use Rattle.bp_lexer.specs.Classes.{in_line}
use Rattle.bp_lexer.specs.Faults.{Opens}
use Rattle.bp_lexer.specs.Forms.{IsForm, IsLongest, HasNoForm, IsEnd, IsFirstEnd}
use Rattle.bp_lexer.proofs.Runs.{all_le_prefix, prefix_all}
use Rattle.bp_lexer.proofs.Rivals.{rival, form_as, second_of}
use Rattle.bp_lexer.proofs.TokenKinds.{kind_of}

line_kind : (w : List ℕ) → (w ≡ []) ⊎ (get_or w 0 0 ≡ 47) → kind_of (47 ∷ w) ≡ LineComment
line_kind w (inl none) = rw none refl
line_kind w (inr slash) = rw slash refl

-- behind two slashes there is a line's comment
line_only : (bs : List ℕ) (k : TokenKind) (word after : List ℕ) → 47 ∷ 47 ∷ bs ≡ word ++ after → IsForm k word
    → length word ≤ suc (suc (prefix_len in_line bs))
line_only bs k word after split form =
    let r = rival 47 (47 ∷ bs) k word after split form in
    let f = form_as LineComment k word (r.1.kind ∙ line_kind r.0 (second_of 47 bs r.0 after r.1.rest)) form in
    let whole : 47 ∷ 47 ∷ bs ≡ 47 ∷ (47 ∷ (f.0 ++ after)) = split ∙ ap (λ w. w ++ after) f.1 in
    let rest : bs ≡ f.0 ++ after = cc in
    let le : length f.0 ≤ prefix_len in_line (f.0 ++ after) = all_le_prefix in_line f.0 after f.2 in
    omega (arith, ap length f.1, ap (prefix_len in_line) rest)

pub line_longest : (text : List ℕ) (n : ℕ) → get_or text 0 0 ≡ 47 → get_or text 1 0 ≡ 47
    → n ≡ prefix_len in_line (drop 2 text) → IsLongest text LineComment (2 + n)
line_longest [] n first second len = absurd (omega arith)
line_longest (a ∷ []) n first second len = absurd (omega arith)
line_longest (a ∷ b ∷ bs) n first second len =
    let next : 2 + n ≡ suc (suc n) = omega arith in
    record {
      within = omega (arith, prefix_len-le-length in_line bs);
      form = rw (next, first, second, len) (take (prefix_len in_line bs) bs, refl, prefix_all in_line bs);
      longest = λ k word after split form. omega (arith, line_only bs k word after (rw (first, second) at split) form);
    }

-- a byte that is not 0 is within the list
pub inside : (bs : List ℕ) (i v : ℕ) → get_or bs i 0 ≡ suc v → i < length bs
inside bs i v byte =
    ⊎_elim (λ below. below) (λ past. absurd (omega (arith, get_or_past bs i 0 past))) (cases_lt i (length bs))

-- where `*/` stands in a front it stands in the whole, and the other way round
end_of_front : (behind after : List ℕ) (n : ℕ) → IsEnd behind n → IsEnd (behind ++ after) n
end_of_front behind after n end =
    let two : n + 1 < length behind = inside behind (n + 1) 46 end.1 in
    (get_or-append behind after 0 n (omega arith) ∙ end.0, get_or-append behind after 0 (n + 1) two ∙ end.1)

end_in_front : (behind after : List ℕ) (n : ℕ) → n + 1 < length behind → IsEnd (behind ++ after) n → IsEnd behind n
end_in_front behind after n two end =
    (sym (get_or-append behind after 0 n (omega arith)) ∙ end.0, sym (get_or-append behind after 0 (n + 1) two) ∙ end.1)

block_kind : (w : List ℕ) → get_or w 0 0 ≡ 42 → kind_of (47 ∷ w) ≡ BlockComment
block_kind w star = rw star refl

no_single : (word : List ℕ) → word ≡ 47 ∷ [] → IsForm LineComment word → ⊥
no_single word one form = omega (arith, ap length one, ap length form.1)

-- behind `/*` there is a comment up to an end
block_only : (bs : List ℕ) (k : TokenKind) (word after : List ℕ) → 47 ∷ 42 ∷ bs ≡ word ++ after → IsForm k word
    → (behind : List ℕ) × (m : ℕ) × (length word ≡ m + 4) × (length behind ≡ m + 2) × (bs ≡ behind ++ after)
    × IsFirstEnd behind m
block_only bs k word after split form =
    let r = rival 47 (42 ∷ bs) k word after split form in
    let star : get_or r.0 0 0 ≡ 42 = ⊎_elim
    (λ none. absurd (no_single word (r.1.begins ∙ ap (λ l. 47 ∷ l) none)
    (form_as LineComment k word (r.1.kind ∙ line_kind r.0 (inl none)) form)))
    (λ star. star)
    (second_of 42 bs r.0 after r.1.rest) in
    let f = form_as BlockComment k word (r.1.kind ∙ block_kind r.0 star) form in
    let whole : 47 ∷ 42 ∷ bs ≡ 47 ∷ (42 ∷ (f.0 ++ after)) = split ∙ ap (λ w. w ++ after) f.2 in
    let rest : bs ≡ f.0 ++ after = cc in
    (f.0, f.1, omega (arith, ap length f.2, f.3), f.3, rest, f.4)

pub block_longest : (text : List ℕ) (n : ℕ) → get_or text 0 0 ≡ 47 → get_or text 1 0 ≡ 42 → IsFirstEnd (drop 2 text) n
    → IsLongest text BlockComment (n + 4)
block_longest [] n first second end = absurd (omega arith)
block_longest (a ∷ []) n first second end = absurd (omega arith)
block_longest (a ∷ b ∷ bs) n first second end =
    let next : n + 4 ≡ suc (suc (n + 2)) = omega arith in
    let two : n + 1 < length bs = inside bs (n + 1) 46 end.0.1 in
    let cut : length (take (n + 2) bs) ≡ n + 2 = length-take-le (n + 2) bs (omega arith) in
    record {
      within = omega arith;
      form = rw (next, first, second) (
        take (n + 2) bs,
        n,
        refl,
        cut,
        (
          (
            get_or-take (n + 2) bs n 0 (omega arith) ∙ end.0.0,
            get_or-take (n + 2) bs (n + 1) 0 (omega arith) ∙ end.0.1,
          ),
          λ m below early. end.1 m below (
            sym (get_or-take (n + 2) bs m 0 (omega arith)) ∙ early.0,
            sym (get_or-take (n + 2) bs (m + 1) 0 (omega arith)) ∙ early.1,
          ),
        ),
      );
      longest = λ k word after split form.
          let q = block_only bs k word after (rw (first, second) at split) form in
          ⊎_elim
          (λ below.
          absurd (q.5.1 n below (end_in_front q.0 after n (omega (arith, q.3)) (subst (λ l. IsEnd l n) q.4 end.0))))
          (λ past. omega (arith, q.2))
          (cases_lt n q.1);
    }

pub block_open : (text : List ℕ) → get_or text 0 0 ≡ 47 → get_or text 1 0 ≡ 42 → ((n : ℕ) → IsEnd (drop 2 text) n → ⊥)
    → HasNoForm text
block_open [] first second unclosed k word after split form = absurd (omega arith)
block_open (a ∷ []) first second unclosed k word after split form = absurd (omega arith)
block_open (a ∷ b ∷ bs) first second unclosed k word after split form =
    let q = block_only bs k word after (rw (first, second) at split) form in
    unclosed q.1 (subst (λ l. IsEnd l q.1) (sym q.4) (end_of_front q.0 after q.1 q.5.0))

-- a slash alone
pub slash_alone : (text : List ℕ) → 0 < length text → get_or text 0 0 ≡ 47 → (get_or text 1 0 ≡ 47 → ⊥)
    → (get_or text 1 0 ≡ 42 → ⊥) → HasNoForm text
slash_alone [] some first line block k word after split form = absurd (omega arith)
slash_alone (b ∷ bs) some first line block k word after split form =
    let r = rival 47 bs k word after (rw first at split) form in
    ⊎_elim
    (λ star.
    let f =
    form_as BlockComment k word (r.1.kind ∙ cond-true (get_or r.0 0 0 == 42) BlockComment LineComment star) form in
    let whole : b ∷ bs ≡ 47 ∷ (42 ∷ (f.0 ++ after)) = split ∙ ap (λ w. w ++ after) f.2 in
    block (ap (λ l. get_or l 1 0) whole))
    (λ other.
    let f =
    form_as LineComment k word (r.1.kind ∙ cond-false (get_or r.0 0 0 == 42) BlockComment LineComment other) form in
    let whole : b ∷ bs ≡ 47 ∷ (47 ∷ (f.0 ++ after)) = split ∙ ap (λ w. w ++ after) f.1 in
    line (ap (λ l. get_or l 1 0) whole))
    (cases_Bool (get_or r.0 0 0 == 42))

pub block_begins : (text : List ℕ) → get_or text 0 0 ≡ 47 → get_or text 1 0 ≡ 42 → take 2 text ≡ 47 ∷ 42 ∷ []
block_begins [] first second = absurd (omega arith)
block_begins (a ∷ []) first second = absurd (omega arith)
block_begins (a ∷ b ∷ bs) first second = λ i. first i ∷ second i ∷ []

pub slash_first : (text : List ℕ) → take 2 text ≡ 47 ∷ 42 ∷ [] → get_or text 0 0 ≡ 47
slash_first [] is = absurd (omega (arith, ap length is))
slash_first (b ∷ bs) is = ap (λ l. get_or l 0 0) is

star_second : (text : List ℕ) → take 2 text ≡ 47 ∷ 42 ∷ [] → get_or text 1 0 ≡ 42
star_second [] is = absurd (omega (arith, ap length is))
star_second (b ∷ []) is = absurd (omega (arith, ap length is))
star_second (b ∷ c ∷ bs) is = ap (λ l. get_or l 1 0) is

-- a text whose first byte is none of the three opens nothing
pub not_open : (text : List ℕ) → (get_or text 0 0 ≡ 34 → ⊥) → (get_or text 0 0 ≡ 96 → ⊥)
    → (get_or text 0 0 ≡ 47 → get_or text 1 0 ≡ 42 → ⊥) → Opens text → ⊥
not_open text quote backquote block opens =
    ⊎_elim quote (λ other. ⊎_elim backquote (λ both. block (slash_first text both) (star_second text both)) other) opens
