-- A column counts the characters of its line.
use Rattle.std.proofs.Common.{◌≡◌, ℕ, ◌+◌, ◌<◌, Bool, List, [], ◌∷◌, ◌++◌, length, get_or, take, drop, sym, refl, ap}
use Rattle.std.proofs.Common.{◌∙◌, subst, ⊎_elim, inl, inr, arith, length-drop, length-append, get_or-drop, add-zero}
use Rattle.std.proofs.Common.{take-append-drop, append_assoc, IsUtf8, IsCharBoundary}
use Rattle.std.specs.Prelude.{◌⊎◌, ◌==◌, not, reverse, chars}
use Rattle.std.specs.List.{prefix_len}
use Rattle.std.proofs.Math.Seq.{drop-append_seam, get_or-append_seam}
use Rattle.std.proofs.lemmas.Bool.{cases_Bool, eqb-true, false≢true}
use Rattle.std.proofs.lemmas.List.{reverse-reverse, reverse-append}
use Rattle.std.proofs.lemmas.Str.{IsUtf8-take, IsUtf8-drop, IsCharBoundary-after_ascii}
use Rattle.bp_lexer.specs.Places.{last_line, place_at}
use Rattle.bp_lexer.proofs.Chars.{count_chars}
use Rattle.bp_lexer.proofs.Runs.{run_ends}

-- What stands before the last line: nothing, or lines that LF ends.
abbrev Before : List ℕ → List ℕ → Type 0
Before bytes front = (bytes ≡ front ++ last_line bytes) × ((front ≡ []) ⊎ ((f : List ℕ) × (front ≡ f ++ 10 ∷ [])))

ends_line : (rest : List ℕ) → (0 < length rest → get_or rest 0 0 ≡ 10)
    → (reverse rest ≡ []) ⊎ ((f : List ℕ) × (reverse rest ≡ f ++ 10 ∷ []))
ends_line [] first = inl refl
ends_line (b ∷ rest) first =
    inr (reverse rest, reverse-append (b ∷ []) rest ∙ ap (λ x. reverse rest ++ x ∷ []) (first (omega arith)))

before : (bytes : List ℕ) → (front : List ℕ) × Before bytes front
before bytes =
    let p : ℕ → Bool = λ b. not (b == 10) in
    let turned = reverse bytes in
    let n = prefix_len p turned in
    let rest = drop n turned in
    let whole : bytes ≡ reverse rest ++ last_line bytes =
    sym (reverse-reverse bytes) ∙ ap reverse (sym (take-append-drop n turned)) ∙ reverse-append (take n turned) rest in
    let first : 0 < length rest → get_or rest 0 0 ≡ 10 = λ some.
    let at : get_or rest 0 0 ≡ get_or turned n 0 =
    get_or-drop n turned 0 0 ∙ ap (λ i. get_or turned i 0) (add-zero n) in
    let stop = run_ends p turned (omega (arith, length-drop n turned)) in
    ⊎_elim
    (λ lf. at ∙ eqb-true (get_or turned n 0) 10 lf)
    (λ other. absurd (false≢true (sym stop ∙ ap not other)))
    (cases_Bool (get_or turned n 0 == 10)) in
    (reverse rest, (whole, ends_line rest first))

utf8_behind : (bytes front line : List ℕ) → IsUtf8 bytes → bytes ≡ front ++ line
    → (front ≡ []) ⊎ ((f : List ℕ) × (front ≡ f ++ 10 ∷ [])) → IsUtf8 line
utf8_behind bytes front line utf8 whole (inl none) = subst IsUtf8 (whole ∙ ap (λ l. l ++ line) none) utf8
utf8_behind bytes front line utf8 whole (inr ended) =
    let f = ended.0 in
    let parts : bytes ≡ f ++ 10 ∷ line = whole ∙ ap (λ l. l ++ line) ended.1 ∙ append_assoc f (10 ∷ []) line in
    let lf : get_or bytes (length f) 0 ≡ 10 = ap (λ l. get_or l (length f) 0) parts ∙ get_or-append_seam f 10 line 0 in
    let cut = IsCharBoundary-after_ascii bytes (length f) utf8
    (omega (arith, ap length parts, length-append f (10 ∷ line))) (omega arith) in
    let seam : length (f ++ 10 ∷ []) ≡ length f + 1 = length-append f (10 ∷ []) in
    let behind : drop (length f + 1) bytes ≡ line =
    ap (λ k. drop k bytes) (sym seam)
    ∙ ap (drop (length (f ++ 10 ∷ []))) (whole ∙ ap (λ l. l ++ line) ended.1)
    ∙ drop-append_seam (f ++ 10 ∷ []) line in
    subst IsUtf8 behind (IsUtf8-drop bytes (length f + 1) utf8 cut)

pub column : (file : ℕ) (text : List ℕ) (i : ℕ) → IsUtf8 text → IsCharBoundary text i
    → (place_at file text i).col ≡ 1 + length (chars (last_line (take i text)))
unfolding place_at
column file text i utf8 boundary =
    let front = before (take i text) in
    let line = utf8_behind (take i text) front.0 (last_line (take i text))
    (IsUtf8-take text i utf8 boundary) front.1.0 front.1.1 in
    ap (λ n. 1 + n) (count_chars (last_line (take i text)) line)
