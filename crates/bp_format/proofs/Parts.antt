-- Tokens in a text that has changed behind them or before them.
use Rattle.std.proofs.Common.{◌≡◌, ℕ, ◌+◌, ◌-◌, ◌<◌, ◌≤◌, Bool, true, List, [], ◌∷◌, ◌++◌, length, get_or, take, drop}
use Rattle.std.proofs.Common.{sym, refl, ap, ◌∙◌, subst, ⊎_elim, inl, inr, arith, append_assoc, length-append}
use Rattle.std.proofs.Common.{length-drop, length-take-le, get_or-drop, take-append-drop}
use Rattle.std.specs.Prelude.{◌==◌}
use Rattle.std.specs.List.{count_by}
use Rattle.std.proofs.Math.ListN.{get_or-append}
use Rattle.std.proofs.Math.Seq.{take-append_seam, drop-append_seam}
use Rattle.std.proofs.lemmas.Bool.{cases_Bool, cases_lt, and_from, eqb-true}
use Rattle.std.proofs.lemmas.List.{drop-drop, drop-append-le, take-append-le}
use Rattle.std.proofs.lemmas.List.Folds.{list_all-append}
use Rattle.bp_lexer.specs.declared.token.Punct.TheVariants.{Plus, PlusEqual}
use Rattle.bp_lexer.specs.declared.token.Token.{Token}
use Rattle.bp_lexer.specs.declared.token.TokenKind.{TokenKind}
use Rattle.bp_lexer.specs.declared.token.TokenKind.TheVariants.{Ident, Int, LineComment, Punct as Mark}
use Rattle.bp_lexer.specs.Apart.{goes_on, StopsAt}
use Rattle.bp_lexer.specs.Classes.{is_white, is_word, is_digit, in_line}
use Rattle.bp_lexer.specs.Faults.{IsInRange}
use Rattle.bp_lexer.specs.Forms.{IsForm, IsLongest}
use Rattle.bp_lexer.specs.Meaning.{IsBlank, IsToken, Covers, word_of}
use Rattle.bp_lexer.specs.Places.{place_at, begins_char, last_line}
use Rattle.bp_format.specs.WithoutPlaces.{token_contents}
use Rattle.bp_format.proofs.Lexing.{Lexing}

-- a form that a byte goes on with is the front of a longer one
abbrev Grows : TokenKind → List ℕ → ℕ → Type 0
Grows kind w b = goes_on kind b ≡ true → (k : TokenKind) × IsForm k (w ++ b ∷ [])

grows : (kind : TokenKind) (w : List ℕ) (b : ℕ) → IsForm kind w → Grows kind w b
grows Ident w b form more = (
  Ident,
  (
    form.0,
    form.1 ++ b ∷ [],
    ap (λ l. l ++ b ∷ []) form.2,
    form.3,
    list_all-append is_word form.1 (b ∷ []) ∙ and_from _ _ form.4 (and_from _ _ more refl),
  ),
)
grows Int w b form more = (
  Int,
  (
    form.0,
    form.1 ++ b ∷ [],
    ap (λ l. l ++ b ∷ []) form.2 ∙ append_assoc form.0 form.1 (b ∷ []),
    form.3,
    omega (arith, form.4, length-append form.1 (b ∷ [])),
    list_all-append is_digit form.1 (b ∷ []) ∙ and_from _ _ form.5 (and_from _ _ more refl),
  ),
)
grows (Mark Plus) w b form more = (Mark PlusEqual, (λ i. form i ++ eqb-true b 61 more i ∷ []))
grows LineComment w b form more = (
  LineComment,
  (
    form.0 ++ b ∷ [],
    ap (λ l. l ++ b ∷ []) form.1,
    list_all-append in_line form.0 (b ∷ []) ∙ and_from _ _ form.2 (and_from _ _ more refl),
  ),
)
grows _ w b form more = absurd cc

-- behind the longest form stands no byte that goes on with it
pub stops_behind : (kind : TokenKind) (text : List ℕ) (n : ℕ) → IsLongest text kind n
    → StopsAt (goes_on kind) (drop n text)
stops_behind kind text n longest = at (drop n text) refl where
  at : (rest : List ℕ) → drop n text ≡ rest → StopsAt (goes_on kind) rest
  at [] is = inl refl
  at (b ∷ rest) is = ⊎_elim
      (λ more.
      let w = take n text in
      let g = grows kind w b longest.form more in
      let split : text ≡ (w ++ b ∷ []) ++ rest =
      sym (take-append-drop n text) ∙ ap (λ l. w ++ l) is ∙ sym (append_assoc w (b ∷ []) rest) in
      absurd (omega (
        arith,
        longest.longest g.0 (w ++ b ∷ []) rest split g.1,
        length-append w (b ∷ []),
        length-take-le n text longest.within,
      )))
      (λ other. inr other)
      (cases_Bool (goes_on kind b))

-- what a text stops at is its first byte
same_stop : (p : ℕ → Bool) (x : List ℕ) (b : ℕ) (c d : List ℕ) → StopsAt p (x ++ b ∷ c) → StopsAt p (x ++ b ∷ d)
same_stop p [] b c d (inl none) = absurd (omega (arith, ap length none))
same_stop p [] b c d (inr other) = inr other
same_stop p (y ∷ x) b c d (inl none) = absurd (omega (arith, ap length none))
same_stop p (y ∷ x) b c d (inr other) = inr other

-- a place is told by what stands before it
place_front : (file : ℕ) (a b : List ℕ) (i : ℕ) → take i a ≡ take i b → place_at file a i ≡ place_at file b i
unfolding place_at
place_front file a b i same =
    λ j. record {
      file = file;
      line = 1 + count_by (λ x. x == 10) (same j);
      col = 1 + count_by begins_char (last_line (same j));
    }

-- a form where it stops is a token
pub token_where : Lexing → (file : ℕ) (text : List ℕ) (kind : TokenKind) (start end : ℕ) (w tail : List ℕ)
    → IsForm kind w → StopsAt (goes_on kind) tail → (kind ≡ Int → IsInRange w) → start ≤ length text
    → start + length w ≡ end → drop start text ≡ w ++ tail
    → IsToken file text (record { kind = kind; start = start; end = end; place = place_at file text start })
token_where lex file text kind start end w tail form stops number inside span is =
    let len : end - start ≡ length w = omega arith in
    let word : take (end - start) (drop start text) ≡ w = rw (len, is) (take-append_seam w tail) in
    record {
      inside = inside;
      longest = rw (len, is) (lex.apart kind w tail form stops);
      number = λ int. subst IsInRange (sym word) (number int);
      place = refl;
    }

-- two blanks
both_blank : (text : List ℕ) (i j k : ℕ) → IsBlank text i j → IsBlank text j k → IsBlank text i k
both_blank text i j k a b = (
  omega (arith, a.0, b.0),
  λ n low high. ⊎_elim (λ below. a.1 n low below) (λ past. b.1 n past high) (cases_lt n j),
)

-- a blank in a front
blank_front : (a c d : List ℕ) (i j : ℕ) → j ≤ length a → IsBlank (a ++ c) i j → IsBlank (a ++ d) i j
blank_front a c d i j within blank = (
  blank.0,
  λ k low high.
      let inside : k < length a = omega arith in
      ap is_white (get_or-append a d 0 k inside ∙ sym (get_or-append a c 0 k inside)) ∙ blank.1 k low high,
)

-- a blank behind a place
blank_tail : (a b : List ℕ) (i j n : ℕ) → drop i a ≡ drop j b → IsBlank a i (i + n) → IsBlank b j (j + n)
blank_tail a b i j n same blank = (
  omega arith,
  λ k low high.
      let m = k - j in
      let at : j + m ≡ k = omega arith in
      ap is_white (ap (λ x. get_or b x 0) (sym at) ∙ sym (get_or-drop j b m 0) ∙ ap (λ l. get_or l m 0) (sym same)
      ∙ get_or-drop i a m 0)
      ∙ blank.1 (i + m) (omega arith) (omega arith),
)

-- a token in a front
token_front : Lexing → (file : ℕ) (a : List ℕ) (b : ℕ) (c d : List ℕ) (t : Token) → t.start < t.end → t.end ≤ length a
    → IsToken file (a ++ b ∷ c) t → IsToken file (a ++ b ∷ d) t
token_front lex file a b c d t some within token =
    let n = t.end - t.start in
    let x = drop t.start a in
    let rest = drop t.end a in
    let to : t.start + n ≡ t.end = omega arith in
    let long : n ≤ length x = omega (arith, length-drop t.start a) in
    let w = take n x in
    let wide : length w ≡ n = length-take-le n x long in
    let cut : x ≡ w ++ rest =
    sym (take-append-drop n x) ∙ ap (λ l. w ++ l) (drop-drop n t.start a ∙ ap (λ k. drop k a) to) in
    let here : (e : List ℕ) → drop t.start (a ++ b ∷ e) ≡ w ++ (rest ++ b ∷ e) =
    λ e. drop-append-le t.start a (b ∷ e) (omega arith) ∙ ap (λ l. l ++ b ∷ e) cut ∙ append_assoc w rest (b ∷ e) in
    let word : (e : List ℕ) → take n (drop t.start (a ++ b ∷ e)) ≡ w =
    λ e. ap (take n) (here e)
    ∙ ap (λ k. take k (w ++ (rest ++ b ∷ e))) (sym wide)
    ∙ take-append_seam w (rest ++ b ∷ e) in
    let behind : (e : List ℕ) → drop n (drop t.start (a ++ b ∷ e)) ≡ rest ++ b ∷ e =
    λ e. ap (drop n) (here e)
    ∙ ap (λ k. drop k (w ++ (rest ++ b ∷ e))) (sym wide)
    ∙ drop-append_seam w (rest ++ b ∷ e) in
    let form : IsForm t.kind w = subst (IsForm t.kind) (word c) token.longest.form in
    let stops : StopsAt (goes_on t.kind) (rest ++ b ∷ d) = same_stop (goes_on t.kind) rest b c d
    (subst (StopsAt (goes_on t.kind)) (behind c) (stops_behind t.kind (drop t.start (a ++ b ∷ c)) n token.longest)) in
    record {
      inside = omega (arith, length-append a (b ∷ d));
      longest =
          subst (λ k. IsLongest (drop t.start (a ++ b ∷ d)) t.kind k) wide
          (subst (λ l. IsLongest l t.kind (length w)) (sym (here d)) (lex.apart t.kind w (rest ++ b ∷ d) form stops));
      number = λ int. subst IsInRange (word c ∙ sym (word d)) (token.number int);
      place =
          token.place
          ∙ place_front file (a ++ b ∷ c) (a ++ b ∷ d) t.start
          (take-append-le t.start a (b ∷ c) (omega arith) ∙ sym (take-append-le t.start a (b ∷ d) (omega arith)));
    }

pub covers_le : Lexing → (file : ℕ) (text : List ℕ) (i j : ℕ) (ts : List Token) → Covers file text i j ts → i ≤ j
covers_le lex file text i j [] covers = covers.0
covers_le lex file text i j (t ∷ ts) covers =
    omega (arith, covers_le lex file text t.end j ts covers.2, covers.0.0, (lex.within file text t covers.1).nonempty)

-- a front of a text has the same words
pub bare_front : Lexing → (file : ℕ) (a : List ℕ) (c d : List ℕ) (i : ℕ) (ts : List Token)
    → Covers file (a ++ c) i (length a) ts → token_contents (a ++ d) ts ≡ token_contents (a ++ c) ts
bare_front lex file a c d i [] covers = refl
bare_front lex file a c d i (t ∷ ts) covers =
    let s = lex.within file (a ++ c) t covers.1 in
    let n = t.end - t.start in
    let before = covers_le lex file (a ++ c) t.end (length a) ts covers.2 in
    let word : (e : List ℕ) → take n (drop t.start (a ++ e)) ≡ take n (drop t.start a) =
    λ e. ap (take n) (drop-append-le t.start a e (omega (arith, s.nonempty)))
    ∙ take-append-le n (drop t.start a) e (omega (arith, length-drop t.start a)) in
    λ k. (t.kind, (word d ∙ sym (word c)) k) ∷ bare_front lex file a c d t.end ts covers.2 k

-- tokens, and then others
pub covers_append : (file : ℕ) (text : List ℕ) (i j k : ℕ) (ts us : List Token) → Covers file text i j ts
    → Covers file text j k us → Covers file text i k (ts ++ us)
covers_append file text i j k (t ∷ ts) us a b = (a.0, a.1, covers_append file text t.end j k ts us a.2 b)
covers_append file text i j k [] [] a b = both_blank text i j k a b
covers_append file text i j k [] (u ∷ us) a b = (both_blank text i j u.start a b.0, b.1, b.2)

-- the tokens of a list, in two parts
pub covers_split : (file : ℕ) (text : List ℕ) (i k : ℕ) (ts : List Token) (u : Token) (us : List Token)
    → Covers file text i k (ts ++ u ∷ us)
    → Covers file text i u.start ts × IsToken file text u × Covers file text u.end k us
covers_split file text i k [] u us covers = (covers.0, covers.1, covers.2)
covers_split file text i k (t ∷ ts) u us covers =
    let r = covers_split file text t.end k ts u us covers.2 in
    ((covers.0, covers.1, r.0), r.1, r.2)

-- Tokens stay where what follows them begins with the same byte.
pub covers_front : Lexing → (file : ℕ) (a : List ℕ) (b : ℕ) (c d : List ℕ) (i : ℕ) (ts : List Token)
    → Covers file (a ++ b ∷ c) i (length a) ts → Covers file (a ++ b ∷ d) i (length a) ts
covers_front lex file a b c d i [] covers = blank_front a (b ∷ c) (b ∷ d) i (length a) (omega arith) covers
covers_front lex file a b c d i (t ∷ ts) covers =
    let s = lex.within file (a ++ b ∷ c) t covers.1 in
    let before = covers_le lex file (a ++ b ∷ c) t.end (length a) ts covers.2 in (
      blank_front a (b ∷ c) (b ∷ d) i t.start (omega (arith, s.nonempty)) covers.0,
      token_front lex file a b c d t s.nonempty before covers.1,
      covers_front lex file a b c d t.end ts covers.2,
    )

-- The tokens behind a place are those behind another, where the same text follows.
pub covers_tail : Lexing → (file : ℕ) (a b : List ℕ) (i j : ℕ) (ts : List Token) → i ≤ length a → j ≤ length b
    → drop i a ≡ drop j b → Covers file a i (length a) ts
    → (us : List Token) × Covers file b j (length b) us × (token_contents b us ≡ token_contents a ts)
covers_tail lex file a b i j [] within_a within_b same covers =
    let len : length a - i ≡ length b - j = sym (length-drop i a) ∙ ap length same ∙ length-drop j b in (
      [],
      subst (IsBlank b j) (omega (arith, len))
          (blank_tail a b i j (length a - i) same (subst (IsBlank a i) (omega arith) covers)),
      refl,
    )
covers_tail lex file a b i j (t ∷ ts) within_a within_b same covers =
    let s = lex.within file a t covers.1 in
    let n = t.start - i in
    let start = j + n in
    let m = t.end - t.start in
    let from : i + n ≡ t.start = omega (arith, covers.0.0) in
    let here : drop t.start a ≡ drop start b =
    ap (λ k. drop k a) (sym from) ∙ sym (drop-drop n i a) ∙ ap (drop n) same ∙ drop-drop n j b in
    let len : length a - t.start ≡ length b - start =
    sym (length-drop t.start a) ∙ ap length here ∙ length-drop start b in
    let to : t.start + m ≡ t.end = omega (arith, s.nonempty) in
    let behind : drop t.end a ≡ drop (start + m) b =
    ap (λ k. drop k a) (sym to) ∙ sym (drop-drop m t.start a) ∙ ap (drop m) here ∙ drop-drop m start b in
    let len_behind : length a - t.end ≡ length b - (start + m) =
    sym (length-drop t.end a) ∙ ap length behind ∙ length-drop (start + m) b in
    let some : start + m ≤ length b =
    omega (arith, len, s.nonempty, s.within, within_b, length-drop i a, length-drop j b, ap length same) in
    let span : start + m - start ≡ m = omega arith in
    let u : Token = record { kind = t.kind; start = start; end = start + m; place = place_at file b start } in
    let word : word_of b u ≡ word_of a t = (λ k. take (span k) (sym here k)) in
    let r = covers_tail lex file a b t.end (start + m) ts s.within some behind covers.2 in (
      u ∷ r.0,
      (
        blank_tail a b i j n same (subst (IsBlank a i) (sym from) covers.0),
        record {
          inside = omega (arith, some);
          longest = rw span (subst (λ l. IsLongest l t.kind m) here covers.1.longest);
          number = λ int. subst IsInRange (sym word) (covers.1.number int);
          place = refl;
        },
        r.1,
      ),
      (λ k. (t.kind, word k) ∷ r.2 k),
    )
