-- Texts behind an ASCII character.
use Rattle.std.proofs.Common.{◌≡◌, ℕ, ◌<◌, List, [], ◌∷◌, IsUtf8, sym, refl, ap, cond, eqb, eqb-true, Bool, true, false}
use Rattle.std.proofs.lemmas.Str.{IsUtf8-past_char, encode_ascii}
use Rattle.ninja_lines.specs.Meaning.{drop_spaces}
use Rattle.bp_faults.specs.Characters.{space}

pub utf8_behind : (text rest : List ℕ) (c : ℕ) → c < 128 → IsUtf8 text → text ≡ c ∷ rest → IsUtf8 rest
utf8_behind text rest c ascii utf8 is = IsUtf8-past_char text rest c utf8 (rw (encode_ascii c ascii) is)

no_space_by : (b : ℕ) (text : List ℕ) (e : Bool) → eqb b space ≡ e → (b ≡ space → ⊥)
    → b ∷ text ≡ cond e (drop_spaces text) (b ∷ text)
no_space_by b text true is h = absurd (h (eqb-true b space is))
no_space_by b text false is h = refl

-- no space stands first
pub no_space : (text : List ℕ) → ((rest : List ℕ) → text ≡ space ∷ rest → ⊥) → text ≡ drop_spaces text
no_space [] h = refl
no_space (b ∷ text) h = no_space_by b text (eqb b space) refl (λ is. h text (ap (λ x. x ∷ text) is))

pub one_space : (text rest : List ℕ) → text ≡ space ∷ rest → drop_spaces rest ≡ drop_spaces text
one_space text rest is = sym (ap drop_spaces is)
