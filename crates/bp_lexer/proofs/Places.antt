-- A step of a place over a byte.
use Rattle.std.proofs.Common.{◌≡◌, ℕ, ◌+◌, ◌<◌, ◌≤◌, Bool, true, false, cond, List, [], ◌∷◌, ◌++◌, length, get_or, take}
use Rattle.std.proofs.Common.{sym, refl, ap, ◌∙◌, inl, inr, arith, length-take}
use Rattle.std.specs.Prelude.{◌⊎◌, not, ◌==◌, reverse}
use Rattle.std.specs.List.{count_by, take_while, prefix_len}
use Rattle.std.proofs.lemmas.List.{reverse-append, take_more, length-reverse}
use Rattle.std.proofs.lemmas.List.Sums.{sum_by_push, take_while-cons, count_by-le-length}
use Rattle.std.proofs.lemmas.Bool.{cases_Bool, cond-true, cond-false}
use Rattle.bp_faults.specs.Faults.{file_start}
use Rattle.bp_faults.specs.declared.place.Place.{Place}
use Rattle.bp_lexer.specs.Places.{begins_char, last_line, place_at}
use Rattle.bp_lexer.specs.Search.{place_after}

turn_cond : (t : Bool) (b : ℕ) (xs : List ℕ) → reverse (cond (not t) (b ∷ xs) []) ≡ cond t [] (reverse xs ++ b ∷ [])
turn_cond true b xs = refl
turn_cond false b xs = reverse-append (b ∷ []) xs

-- a byte behind a text: it ends the line, or it is the line's last byte
last_line_push : (bs : List ℕ) (b : ℕ) → last_line (bs ++ b ∷ []) ≡ cond (b == 10) [] (last_line bs ++ b ∷ [])
last_line_push bs b =
    let keeps : ℕ → Bool = λ x. not (x == 10) in
    let turned : reverse (bs ++ b ∷ []) ≡ b ∷ reverse bs = reverse-append bs (b ∷ []) in
    let taken = take_while-cons keeps b (reverse bs) in
    ap (λ l. reverse (take_while keeps l)) turned
    ∙ ap reverse taken
    ∙ turn_cond (b == 10) b (take_while keeps (reverse bs))

pub same_place : (p q : Place) → p.file ≡ q.file → p.line ≡ q.line → p.col ≡ q.col → p ≡ q
same_place p q file line col = λ i. record { file = file i; line = line i; col = col i }

place_cases : (file : ℕ) (text : List ℕ) (i b : ℕ)
    → count_by (λ x. x == 10) (take (i + 1) text) ≡ count_by (λ x. x == 10) (take i text) + cond (b == 10) 1 0
    → last_line (take (i + 1) text) ≡ cond (b == 10) [] (last_line (take i text) ++ b ∷ [])
    → ((b == 10) ≡ true) ⊎ ((b == 10) ≡ false) → (begins_char b ≡ true) ⊎ (begins_char b ≡ false)
    → place_at file text (i + 1) ≡ place_after (place_at file text i) b
unfolding place_at
place_cases file text i b lines tail (inl lf) begins =
    same_place _ _ refl (ap (λ n. 1 + n)
    (lines ∙ ap (λ k. count_by (λ x. x == 10) (take i text) + k) (cond-true (b == 10) 1 0 lf)) ∙ omega arith)
    (ap (λ l. 1 + count_by begins_char l) (tail ∙ cond-true (b == 10) [] (last_line (take i text) ++ b ∷ []) lf))
    ∙ sym (cond-true (b == 10) _ _ lf)
place_cases file text i b lines tail (inr other) (inl begins) =
    let column : count_by begins_char (last_line (take i text) ++ b ∷ [])
    ≡ count_by begins_char (last_line (take i text)) + 1 =
    sum_by_push (λ x. cond (begins_char x) 1 0) (last_line (take i text)) b
    ∙ ap (λ k. count_by begins_char (last_line (take i text)) + k) (cond-true (begins_char b) 1 0 begins) in
    same_place _ _ refl (ap (λ n. 1 + n) (lines ∙ ap (λ k. count_by (λ x. x == 10) (take i text) + k)
    (cond-false (b == 10) 1 0 other)) ∙ omega arith) (ap (λ l. 1 + count_by begins_char l)
    (tail ∙ cond-false (b == 10) [] (last_line (take i text) ++ b ∷ []) other) ∙ omega (arith, column))
    ∙ sym (cond-true (begins_char b) _ _ begins)
    ∙ sym (cond-false (b == 10) _ _ other)
place_cases file text i b lines tail (inr other) (inr continues) =
    let column : count_by begins_char (last_line (take i text) ++ b ∷ [])
    ≡ count_by begins_char (last_line (take i text)) + 0 =
    sum_by_push (λ x. cond (begins_char x) 1 0) (last_line (take i text)) b
    ∙ ap (λ k. count_by begins_char (last_line (take i text)) + k) (cond-false (begins_char b) 1 0 continues) in
    same_place _ _ refl (ap (λ n. 1 + n) (lines ∙ ap (λ k. count_by (λ x. x == 10) (take i text) + k)
    (cond-false (b == 10) 1 0 other)) ∙ omega arith) (ap (λ l. 1 + count_by begins_char l)
    (tail ∙ cond-false (b == 10) [] (last_line (take i text) ++ b ∷ []) other) ∙ omega (arith, column))
    ∙ sym (cond-false (begins_char b) _ _ continues)
    ∙ sym (cond-false (b == 10) _ _ other)

pub place_push : (file : ℕ) (text : List ℕ) (i b : ℕ) → i < length text → b ≡ get_or text i 0
    → place_at file text (i + 1) ≡ place_after (place_at file text i) b
unfolding place_at
place_push file text i b within is =
    let front : take (i + 1) text ≡ take i text ++ b ∷ [] =
    take_more text i 0 within ∙ ap (λ x. take i text ++ x ∷ []) (sym is) in
    let lines : count_by (λ x. x == 10) (take (i + 1) text)
    ≡ count_by (λ x. x == 10) (take i text) + cond (b == 10) 1 0 =
    ap (count_by (λ x. x == 10)) front
    ∙ sum_by_push (λ x. cond (x == 10) 1 0) (take i text) b in
    let tail : last_line (take (i + 1) text) ≡ cond (b == 10) [] (last_line (take i text) ++ b ∷ []) =
    ap last_line front ∙ last_line_push (take i text) b in
    place_cases file text i b lines tail (cases_Bool (b == 10)) (cases_Bool (begins_char b))

pub place_small : (file : ℕ) (text : List ℕ) (i : ℕ)
    → ((place_at file text i).line ≤ 1 + length text) × ((place_at file text i).col ≤ 1 + length text)
unfolding place_at
place_small file text i =
    let turned = reverse (take i text) in
    let kept = prefix_len (λ b. not (b == 10)) turned in (
      omega (arith, count_by-le-length (λ b. b == 10) (take i text), length-take i text),
      omega (
        arith,
        count_by-le-length begins_char (last_line (take i text)),
        length-reverse (take kept turned),
        length-take kept turned,
        length-reverse (take i text),
        length-take i text,
      ),
    )

pub place_start : (file : ℕ) (text : List ℕ) (start : Place) → start ≡ file_start file → start ≡ place_at file text 0
unfolding place_at
place_start file text start is = is

-- a place at which a file goes on is in that file
pub place_file : (file : ℕ) (text : List ℕ) (i : ℕ) (p : Place) → p ≡ place_at file text i → p ≡ place_at p.file text i
unfolding place_at
place_file file text i p is = is ∙ ap (λ f. place_at f text i) (sym (ap (λ (q : Place). q.file) is))

-- nor does moving on change the file
pub place_moved : (file : ℕ) (text : List ℕ) (i j : ℕ) (p q : Place) → p ≡ place_at file text i
    → q ≡ place_at p.file text j → q ≡ place_at file text j
unfolding place_at
place_moved file text i j p q is moved = moved ∙ ap (λ f. place_at f text j) (ap (λ (r : Place). r.file) is)

pub file_of : (file : ℕ) (text : List ℕ) (i : ℕ) (p : Place) → p ≡ place_at file text i → p.file ≡ file
unfolding place_at
file_of file text i p is = ap (λ (q : Place). q.file) is
