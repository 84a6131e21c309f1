-- The rivals of a form: the other tokens that the text begins with.
use Rattle.std.proofs.Common.{◌≡◌, ℕ, List, [], ◌∷◌, ◌++◌, get_or, subst, arith, ap, sym, refl, inl, inr}
use Rattle.std.specs.Prelude.{◌⊎◌}
use Rattle.bp_lexer.specs.declared.token.TokenKind.{TokenKind}
use Rattle.bp_lexer.specs.Forms.{IsForm}
use Rattle.bp_lexer.proofs.TokenKinds.{form_first, form_kind, kind_of}

-- A rival is a token that the text b ∷ bs begins with. What it has behind b is w.
pub record IsRival (b : ℕ) (bs : List ℕ) (k : TokenKind) (word w after : List ℕ) : Type 0 where
  pub begins : word ≡ b ∷ w
  pub rest : bs ≡ w ++ after
  pub kind : k ≡ kind_of (b ∷ w)

pub rival : (b : ℕ) (bs : List ℕ) (k : TokenKind) (word after : List ℕ) → b ∷ bs ≡ word ++ after → IsForm k word
    → (w : List ℕ) × IsRival b bs k word w after
rival b bs k [] after split form = absurd (omega (arith, (form_first k [] form).0))
rival b bs k (x ∷ w) after split form =
    let same : x ≡ b = cc in (
      w,
      record {
        begins = cc;
        rest = cc;
        kind = rw (← same) (form_kind k (x ∷ w) form);
      },
    )

pub form_as : (j k : TokenKind) (word : List ℕ) → k ≡ j → IsForm k word → IsForm j word
form_as j k word e form = subst (λ i. IsForm i word) e form

-- what the rest of a word begins with, the rest of the text begins with
pub second_of : (c : ℕ) (bs w after : List ℕ) → c ∷ bs ≡ w ++ after → (w ≡ []) ⊎ (get_or w 0 0 ≡ c)
second_of c bs [] after rest = inl refl
second_of c bs (x ∷ w) after rest = inr (sym (ap (λ l. get_or l 0 0) rest))
