-- Joining one line after another gives what joining from the end gives.
use Rattle.std.proofs.Common.{◌≡◌, ℕ, suc, ◌+◌, ◌-◌, ◌<◌, Bool, true, false, cond, not, ◌&&◌, List, [], ◌∷◌, ◌++◌, eqb}
use Rattle.std.proofs.Common.{eqb-true, length, take, drop, get_or, add-one, drop-cons, length-append, Option, Some}
use Rattle.std.proofs.Common.{None, ap, sym, ◌∙◌, refl, append_assoc, IsUtf8, subst, arith}
use Rattle.std.specs.Str.{is_utf8}
use Rattle.std.proofs.Math.Seq.{get_or-append_seam}
use Rattle.std.proofs.lemmas.Str.{IsUtf8-from_is_utf8}
use Rattle.ninja_lines.specs.Meaning.{JoinedLine, glue_text, glue, dangles, drop_spaces, without_last}
use Rattle.bp_faults.specs.Characters.{dollar, space}

pub not_utf8 : (bytes : List ℕ) (e : Bool) → is_utf8 bytes ≡ e → (IsUtf8 bytes → ⊥) → e ≡ false
not_utf8 bytes true is h = absurd (h (IsUtf8-from_is_utf8 bytes is))
not_utf8 bytes false is h = refl

pub dangles-drop : (behind : Bool) (bytes : List ℕ) (i : ℕ) → i < length bytes
    → dangles behind (drop i bytes) ≡ dangles (not behind && eqb (get_or bytes i 0) dollar) (drop (i + 1) bytes)
dangles-drop behind bytes i h =
    ap (dangles behind) (drop-cons bytes i 0 h)
    ∙ ap (λ j. dangles (not behind && eqb (get_or bytes i 0) dollar) (drop j bytes)) (sym (add-one i))

-- a text with a dollar at its end
pub record EndsInDollar (text : List ℕ) : Type 0 where
  pub front : List ℕ
  pub is : text ≡ front ++ dollar ∷ []

last_is_dollar : (behind : Bool) (b : ℕ) → (not behind && eqb b dollar) ≡ true → b ≡ dollar
last_is_dollar true b h = absurd (cc)
last_is_dollar false b h = eqb-true b dollar h

pub ends_in_dollar : (behind : Bool) (b : ℕ) (text : List ℕ) → dangles behind (b ∷ text) ≡ true
    → EndsInDollar (b ∷ text)
ends_in_dollar behind b [] h = record { front = []; is = ap (λ x. x ∷ []) (last_is_dollar behind b h) }
ends_in_dollar behind b (c ∷ text) h =
    let rest = ends_in_dollar (not behind && eqb b dollar) c text h in
    record { front = b ∷ rest.front; is = ap (λ x. b ∷ x) rest.is }

pub dangling : (text : List ℕ) → dangles false text ≡ true → EndsInDollar text
dangling [] h = absurd (cc)
dangling (b ∷ text) h = ends_in_dollar false b text h

pub without_last-dollar : (front : List ℕ) → without_last (front ++ dollar ∷ []) ≡ front
without_last-dollar [] = refl
without_last-dollar (b ∷ front) =
    let n : length (b ∷ (front ++ dollar ∷ [])) - 1 ≡ suc (length (front ++ dollar ∷ []) - 1) =
    omega (arith, length-append front (dollar ∷ [])) in
    ap (λ k. take k (b ∷ (front ++ dollar ∷ []))) n ∙ ap (λ x. b ∷ x) (without_last-dollar front)

pub front_and_dollar : (text : List ℕ) → dangles false text ≡ true → text ≡ without_last text ++ dollar ∷ []
front_and_dollar text h =
    let ends = dangling text h in
    ends.is ∙ ap (λ x. x ++ dollar ∷ []) (sym (ap without_last ends.is ∙ without_last-dollar ends.front))

drop_spaces_idem_by : (b : ℕ) (text : List ℕ) (e : Bool) → eqb b space ≡ e
    → drop_spaces (drop_spaces text) ≡ drop_spaces text
    → drop_spaces (cond e (drop_spaces text) (b ∷ text)) ≡ cond e (drop_spaces text) (b ∷ text)
drop_spaces_idem_by b text true is h = h
drop_spaces_idem_by b text false is h = rw is refl

pub drop_spaces_twice : (text : List ℕ) → drop_spaces (drop_spaces text) ≡ drop_spaces text
drop_spaces_twice [] = refl
drop_spaces_twice (b ∷ text) = drop_spaces_idem_by b text (eqb b space) refl (drop_spaces_twice text)

joined_spaces_by : (b : ℕ) (front rest : List ℕ) (e : Bool)
    → drop_spaces (front ++ drop_spaces rest) ≡ drop_spaces front ++ drop_spaces rest
    → cond e (drop_spaces (front ++ drop_spaces rest)) (b ∷ (front ++ drop_spaces rest))
    ≡ cond e (drop_spaces front) (b ∷ front) ++ drop_spaces rest
joined_spaces_by b front rest true h = h
joined_spaces_by b front rest false h = refl

pub joined_spaces : (front rest : List ℕ)
    → drop_spaces (front ++ drop_spaces rest) ≡ drop_spaces front ++ drop_spaces rest
joined_spaces [] rest = drop_spaces_twice rest
joined_spaces (b ∷ front) rest = joined_spaces_by b front rest (eqb b space) (joined_spaces front rest)

pub spaces_and_dollar : (front : List ℕ) → drop_spaces (front ++ dollar ∷ []) ≡ drop_spaces front ++ dollar ∷ []
spaces_and_dollar front = joined_spaces front (dollar ∷ [])

glue_twice_by : (n m k : ℕ) (text front : List ℕ) (rest : Option (List ℕ)) → glue_text n text
    (glue_text m front k rest).number (glue_text m front k rest).text ≡ glue_text n (text ++ drop_spaces front) k rest
glue_twice_by n m k text front None = refl
glue_twice_by n m k text front (Some rest) =
    ap (λ x. record { number = n; text = Some x })
    (ap (λ x. text ++ x) (joined_spaces front rest) ∙ sym (append_assoc text (drop_spaces front) (drop_spaces rest)))

pub glue_twice : (n m : ℕ) (text front : List ℕ) (more : List JoinedLine)
    → glue n text (glue m front more) ≡ glue n (text ++ drop_spaces front) more
glue_twice n m text front [] =
    ap (λ x. record { number = n; text = Some x } ∷ [])
    (ap (λ x. text ++ x) (spaces_and_dollar front) ∙ sym (append_assoc text (drop_spaces front) (dollar ∷ [])))
glue_twice n m text front (next ∷ more) = ap (λ x. x ∷ more) (glue_twice_by n m next.number text front next.text)

-- spaces that begin a text have nothing to do with the dollar at its end
dangles_spaces_by : (b : ℕ) (text : List ℕ) (e : Bool) → eqb b space ≡ e
    → dangles false (drop_spaces text) ≡ dangles false text
    → dangles false (cond e (drop_spaces text) (b ∷ text)) ≡ dangles false (b ∷ text)
dangles_spaces_by b text true is h = rw (eqb-true b space is) h
dangles_spaces_by b text false is h = refl

pub dangles_spaces : (text : List ℕ) → dangles false (drop_spaces text) ≡ dangles false text
dangles_spaces [] = refl
dangles_spaces (b ∷ text) = dangles_spaces_by b text (eqb b space) refl (dangles_spaces text)

last_of : (front : List ℕ) → (length (front ++ dollar ∷ []) - 1 < length (front ++ dollar ∷ []))
    × (get_or (front ++ dollar ∷ []) (length (front ++ dollar ∷ []) - 1) 0 < 128)
last_of front =
    let n : length (front ++ dollar ∷ []) - 1 ≡ length front = omega (arith, length-append front (dollar ∷ [])) in
    let is : get_or (front ++ dollar ∷ []) (length (front ++ dollar ∷ []) - 1) 0 ≡ dollar =
    rw n (get_or-append_seam front dollar [] 0) in
    (omega (arith, length-append front (dollar ∷ [])), omega arith)

-- the last character is ASCII
pub last_ascii : (text : List ℕ) → EndsInDollar text
    → (length text - 1 < length text) × (get_or text (length text - 1) 0 < 128)
last_ascii text ends =
    subst (λ t. (length t - 1 < length t) × (get_or t (length t - 1) 0 < 128)) (sym ends.is) (last_of ends.front)

pub without_last_spaces : (text : List ℕ) → dangles false text ≡ true
    → without_last (drop_spaces text) ≡ drop_spaces (without_last text)
without_last_spaces text h =
    let front = without_last text in
    ap without_last (ap drop_spaces (front_and_dollar text h) ∙ spaces_and_dollar front)
    ∙ without_last-dollar (drop_spaces front)
