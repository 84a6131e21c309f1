-- Written bytes: no dollar is left open, no delimiter is bare.
use Rattle.std.proofs.Common.{◌≡◌, ℕ, Bool, true, false, cond, not, ◌&&◌, ◌||◌, List, [], ◌∷◌, ◌++◌, eqb, append_assoc}
use Rattle.std.proofs.Common.{ap, sym, subst, ◌∙◌, refl, arith}
use Rattle.std.specs.List.{flat_map, list_all, onto_first}
use Rattle.ninja_lines.specs.Meaning.{dangles}
use Rattle.ninja_lines.specs.Cuts.{parts_between}
use Rattle.ninja_file.specs.declared.escape.Escape.{Escape}
use Rattle.ninja_file.specs.declared.escape.Escape.TheVariants.{Path, Value}
use Rattle.ninja_file.specs.Escapes.{is_escaped}
use Rattle.ninja_write.specs.Escaped.{escaped_byte, escaped_bytes, path_text}
use Rattle.std.proofs.lemmas.Bool.{and_parts}
use Rattle.std.proofs.lemmas.Bool.Decides.{nat_tests}
use Rattle.bp_faults.specs.Characters.{dollar}

apart : (p : ℕ → Bool) (b n : ℕ) (e : Bool) → eqb b n ≡ e → p b ≡ true → p n ≡ false → e ≡ false
apart p b n true e passes fails =
    let same : b ≡ n = grind (arith, nat_tests) in
    sym passes ∙ ap p same ∙ fails
apart p b n false e passes fails = refl

-- a byte that passes a test is no byte that fails it
pub apart_by : (p : ℕ → Bool) (b n : ℕ) → p b ≡ true → p n ≡ false → eqb b n ≡ false
apart_by p b n passes fails = apart p b n (eqb b n) refl passes fails

-- no dollar is left open
abbrev pub IsClosed : List ℕ → Type 0
IsClosed text = dangles false text ≡ false

dangles-append : (behind : Bool) (xs ys : List ℕ) → dangles behind (xs ++ ys) ≡ dangles (dangles behind xs) ys
dangles-append behind [] ys = refl
dangles-append behind (x ∷ xs) ys = dangles-append (not behind && eqb x dollar) xs ys

pub closed_beside : (xs ys : List ℕ) → IsClosed xs → IsClosed ys → IsClosed (xs ++ ys)
closed_beside xs ys h k = dangles-append false xs ys ∙ ap (λ b. dangles b ys) h ∙ k

pub closed_test : (test : ℕ → Bool) → test 36 ≡ false → (text : List ℕ) → list_all test text ≡ true → IsClosed text
closed_test test fails [] h = refl
closed_test test fails (b ∷ text) h =
    ap (λ e. dangles e text) (apart_by test b 36 ((and_parts (test b) (list_all test text) h).0) fails)
    ∙ closed_test test fails text ((and_parts (test b) (list_all test text) h).1)

neither : (x y z : Bool) → (x || y || z) ≡ false → (x ≡ false) × (y ≡ false) × (z ≡ false)
neither true y z h = absurd (cc)
neither false true z h = absurd (cc)
neither false false z h = (refl, refl, h)

pub no_dollar : (escape : Escape) (b : ℕ) → is_escaped escape b ≡ false → eqb b dollar ≡ false
no_dollar Path b h = (neither (eqb b dollar) (eqb b 32) (eqb b 58) h).0
no_dollar Value b h = h

closed_byte : (escape : Escape) (b : ℕ) (e : Bool) → is_escaped escape b ≡ e → IsClosed (escaped_byte escape b)
closed_byte escape b true e = rw e refl
closed_byte escape b false e = rw e (no_dollar escape b e)

pub closed_all : {X : Type 0} (text : X → List ℕ) → (xs : List X) → ((x : X) → IsClosed (text x))
    → IsClosed (flat_map text xs)
closed_all text [] each = refl
closed_all text (x ∷ xs) each = closed_beside (text x) (flat_map text xs) (each x) (closed_all text xs each)

pub closed_escaped : (escape : Escape) (text : List ℕ) → IsClosed (escaped_bytes escape text)
closed_escaped escape text =
    closed_all (escaped_byte escape) text (λ b. closed_byte escape b (is_escaped escape b) refl)

-- text before the first part
abbrev pub onto_text : List ℕ → List (List ℕ) → List (List ℕ)
onto_text [] parts = parts
onto_text (b ∷ text) parts = onto_first b (onto_text text parts)

pub onto_text-cons : (text part : List ℕ) (parts : List (List ℕ))
    → onto_text text (part ∷ parts) ≡ (text ++ part) ∷ parts
onto_text-cons [] part parts = refl
onto_text-cons (b ∷ text) part parts = ap (onto_first b) (onto_text-cons text part parts)

-- cutting passes over a text
abbrev pub Passes : ℕ → List ℕ → Type 0
Passes at text = (rest : List ℕ) → parts_between at false (text ++ rest) ≡ onto_text text (parts_between at false rest)

onto_append : (xs ys : List ℕ) (parts : List (List ℕ)) → onto_text (xs ++ ys) parts ≡ onto_text xs (onto_text ys parts)
onto_append [] ys parts = refl
onto_append (x ∷ xs) ys parts = ap (onto_first x) (onto_append xs ys parts)

pub passes_beside : (at : ℕ) (xs ys : List ℕ) → Passes at xs → Passes at ys → Passes at (xs ++ ys)
passes_beside at xs ys h k =
    λ rest. ap (parts_between at false) (append_assoc xs ys rest)
    ∙ h (ys ++ rest)
    ∙ ap (onto_text xs) (k rest)
    ∙ sym (onto_append xs ys (parts_between at false rest))

other_byte : (at b : ℕ) → is_escaped Path at ≡ true → is_escaped Path b ≡ false → eqb b at ≡ false
other_byte at b h k = apart_by (λ x. not (is_escaped Path x)) b at (ap not k) (ap not h)

-- a byte that is no dollar and no delimiter
pub plain_byte : (at b : ℕ) → eqb b 36 ≡ false → eqb b at ≡ false → Passes at (b ∷ [])
plain_byte at b d e = λ rest. rw (d, e) refl

byte_passes : (at b : ℕ) (e : Bool) → is_escaped Path at ≡ true → is_escaped Path b ≡ e
    → Passes at (escaped_byte Path b)
byte_passes at b true h k = subst (λ t. Passes at t) (sym (ap (λ e. cond e (36 ∷ b ∷ []) (b ∷ [])) k)) (λ rest. refl)
byte_passes at b false h k =
    subst (λ t. Passes at t) (sym (ap (λ e. cond e (36 ∷ b ∷ []) (b ∷ [])) k))
    (plain_byte at b (no_dollar Path b k) (other_byte at b h k))

-- a written path has no bare delimiter
pub path_passes : (at : ℕ) → is_escaped Path at ≡ true → (path : List ℕ) → Passes at (path_text path)
path_passes at h [] = λ rest. refl
path_passes at h (b ∷ path) =
    passes_beside at (escaped_byte Path b) (path_text path) (byte_passes at b (is_escaped Path b) h refl)
    (path_passes at h path)

pub passes_test : (at : ℕ) (test : ℕ → Bool) → test 36 ≡ false → test at ≡ false → (text : List ℕ)
    → list_all test text ≡ true → Passes at text
passes_test at test no_dollar_ no_at [] h = λ rest. refl
passes_test at test no_dollar_ no_at (b ∷ text) h =
    passes_beside at (b ∷ []) text (plain_byte at b (apart_by test b 36 ((and_parts (test b) (list_all test text) h).0)
    no_dollar_) (apart_by test b at ((and_parts (test b) (list_all test text) h).0) no_at))
    (passes_test at test no_dollar_ no_at text ((and_parts (test b) (list_all test text) h).1))
