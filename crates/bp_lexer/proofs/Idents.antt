-- The longest identifier.
use Rattle.std.proofs.Common.{◌≡◌, ℕ, suc, ◌+◌, ◌<◌, ◌≤◌, true, List, [], ◌∷◌, ◌++◌, length, get_or, take, drop, sym}
use Rattle.std.proofs.Common.{refl, ap, ◌∙◌, arith}
use Rattle.std.specs.List.{prefix_len}
use Rattle.std.proofs.lemmas.List.Sums.{prefix_len-le-length}
use Rattle.std.proofs.lemmas.Bool.{cond-true}
use Rattle.bp_lexer.specs.declared.token.TokenKind.{TokenKind}
use Rattle.bp_lexer.specs.declared.token.TokenKind.TheVariants.{Ident}
use Rattle.bp_lexer.specs.Classes.{is_letter, is_word}
use Rattle.bp_lexer.specs.Forms.{IsForm, IsLongest}
use Rattle.bp_lexer.proofs.Runs.{all_le_prefix, prefix_all}
use Rattle.bp_lexer.proofs.Rivals.{rival, form_as}

ident_only : (b : ℕ) (bs : List ℕ) (k : TokenKind) (word after : List ℕ) → is_letter b ≡ true → b ∷ bs ≡ word ++ after
    → IsForm k word → length word ≤ suc (prefix_len is_word bs)
ident_only b bs k word after letter split form =
    let r = rival b bs k word after split form in
    let f = form_as Ident k word (r.1.kind ∙ cond-true (is_letter b) _ _ letter) form in
    let more : f.1 ≡ r.0 = cc (f.2, r.1.begins) in
    let le : length f.1 ≤ prefix_len is_word (f.1 ++ after) = all_le_prefix is_word f.1 after f.4 in
    let same : bs ≡ f.1 ++ after = r.1.rest ∙ ap (λ l. l ++ after) (sym more) in
    omega (arith, ap length f.2, ap (prefix_len is_word) same)

pub ident_longest : (text : List ℕ) (n : ℕ) → 0 < length text → is_letter (get_or text 0 0) ≡ true
    → n ≡ 1 + prefix_len is_word (drop 1 text) → IsLongest text Ident n
ident_longest [] n some letter len = absurd (omega arith)
ident_longest (b ∷ bs) n some letter len =
    let long : n ≡ suc (prefix_len is_word bs) = omega arith in
    record {
      within = omega (arith, prefix_len-le-length is_word bs);
      form = rw long (b, take (prefix_len is_word bs) bs, refl, letter, prefix_all is_word bs);
      longest = λ k word after split form. rw long (ident_only b bs k word after letter split form);
    }
