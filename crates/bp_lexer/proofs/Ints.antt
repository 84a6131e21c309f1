-- The longest integer.
use Rattle.std.proofs.Common.{◌≡◌, ℕ, suc, ◌+◌, ◌<◌, ◌≤◌, true, List, [], ◌∷◌, ◌++◌, length, get_or, take, drop, sym}
use Rattle.std.proofs.Common.{refl, ap, ◌∙◌, arith, ⊎_elim, inl, inr, length-take-le, subst}
use Rattle.std.specs.Prelude.{◌⊎◌, ◌||◌, ◌==◌}
use Rattle.std.specs.List.{list_all, prefix_len}
use Rattle.std.proofs.lemmas.List.Sums.{prefix_len-le-length}
use Rattle.std.proofs.lemmas.Bool.{and_from, cond-true, cond-false, or_left, false≢true}
use Rattle.bp_lexer.specs.declared.token.TokenKind.{TokenKind}
use Rattle.bp_lexer.specs.declared.token.TokenKind.TheVariants.{Int}
use Rattle.bp_lexer.specs.Classes.{is_letter, is_digit}
use Rattle.bp_lexer.specs.Forms.{IsForm, IsLongest, HasNoForm}
use Rattle.bp_lexer.proofs.Runs.{all_le_prefix, prefix_all}
use Rattle.bp_lexer.proofs.Rivals.{rival, form_as}
use Rattle.bp_lexer.proofs.TokenKinds.{digit_not_letter, int_parts, kind_of}

int_kind : (b : ℕ) (w : List ℕ) → (b ≡ 45) ⊎ (is_digit b ≡ true) → kind_of (b ∷ w) ≡ Int
int_kind b w (inl minus) = rw minus refl
int_kind b w (inr digit) =
    cond-false (is_letter b) _ _ (digit_not_letter b digit)
    ∙ cond-true (is_digit b || (b == 45)) _ _ (or_left (is_digit b) (b == 45) digit)

-- An integer that the text begins with is its first byte and some of the digits behind it.
int_only : (b : ℕ) (bs : List ℕ) (k : TokenKind) (word after : List ℕ) → (b ≡ 45) ⊎ (is_digit b ≡ true)
    → b ∷ bs ≡ word ++ after → IsForm k word → (w : List ℕ) × (length word ≡ suc (length w))
    × (length w ≤ prefix_len is_digit bs) × (((b ≡ 45) × (0 < length w)) ⊎ (is_digit b ≡ true))
int_only b bs k word after first split form =
    let r = rival b bs k word after split form in
    let int = int_parts word (form_as Int k word (r.1.kind ∙ int_kind b r.0 first) form) in
    let same : int.0 ≡ b = cc (int.2.begins, r.1.begins) in
    let more : int.1 ≡ r.0 = cc (int.2.begins, r.1.begins) in
    let rest : bs ≡ int.1 ++ after = r.1.rest ∙ ap (λ l. l ++ after) (sym more) in
    let le : length int.1 ≤ prefix_len is_digit (int.1 ++ after) = all_le_prefix is_digit int.1 after int.2.digits in (
      int.1,
      ap length int.2.begins,
      omega (arith, ap (prefix_len is_digit) rest),
      subst (λ c. ((c ≡ 45) × (0 < length int.1)) ⊎ (is_digit c ≡ true)) same int.2.first,
    )

int_form : (b : ℕ) (ds : List ℕ) → (b ≡ 45) ⊎ (is_digit b ≡ true) → (b ≡ 45 → 0 < length ds)
    → list_all is_digit ds ≡ true → IsForm Int (b ∷ ds)
int_form b ds (inl minus) some all = (45 ∷ [], ds, ap (λ x. x ∷ ds) minus, inr refl, some minus, all)
int_form b ds (inr digit) some all = ([], b ∷ ds, refl, inl refl, omega arith, and_from _ _ digit all)

pub int_longest : (text : List ℕ) (n : ℕ) → 0 < length text
    → (get_or text 0 0 ≡ 45) ⊎ (is_digit (get_or text 0 0) ≡ true) → n ≡ prefix_len is_digit (drop 1 text)
    → (get_or text 0 0 ≡ 45 → 0 < n) → IsLongest text Int (1 + n)
int_longest [] n some first len more = absurd (omega arith)
int_longest (b ∷ bs) n some first len more =
    let next : 1 + n ≡ suc n = omega arith in
    let within = prefix_len-le-length is_digit bs in
    let digits : list_all is_digit (take n bs) ≡ true = rw len (prefix_all is_digit bs) in
    record {
      within = omega arith;
      form =
          rw next
          (int_form b (take n bs) first (λ minus. omega (arith, more minus, length-take-le n bs (omega arith))) digits);
      longest =
          λ k word after split form. let i = int_only b bs k word after first split form in omega (arith, i.1, i.2);
    }

-- a minus without a digit behind it
pub minus_alone : (text : List ℕ) → get_or text 0 0 ≡ 45 → prefix_len is_digit (drop 1 text) ≡ 0 → HasNoForm text
minus_alone [] minus none k word after split form = absurd (omega arith)
minus_alone (b ∷ bs) minus none k word after split form =
    let i = int_only b bs k word after (inl minus) split form in
    ⊎_elim (λ some. omega (arith, some.1, i.2)) (λ digit. false≢true (sym (ap is_digit minus) ∙ digit)) i.3
