-- There is a span at each spot.
use Rattle.std.proofs.Common.{◌≡◌, ℕ, ◌+◌, ◌-◌, ◌<◌, ◌≤◌, true, false, List, [], ◌∷◌, ◌++◌, length, take, Some, Ok, sym}
use Rattle.std.proofs.Common.{refl, ap, ◌∙◌, subst, ⊎_elim, arith, length-append, length-take-le}
use Rattle.std.specs.Prelude.{◌==◌}
use Rattle.std.proofs.lemmas.Bool.{cases_Bool, cond-true, cond-false, ne_eqb, eq-eqb}
use Rattle.bp_faults.specs.declared.place.Place.{Place}
use Rattle.bp_lexer.specs.declared.token.Punct.TheVariants.{OpenBracket, CloseBracket}
use Rattle.bp_lexer.specs.declared.token.Token.{Token}
use Rattle.bp_lexer.specs.declared.token.TokenKind.{TokenKind}
use Rattle.bp_lexer.specs.declared.token.TokenKind.TheVariants.{LineComment, BlockComment, Punct as Mark}
use Rattle.bp_lexer.specs.Laws.{PlacesRise, TokensStandWithin}
use Rattle.bp_lexer.specs.Meaning.{Covers, IsTokenList}
use Rattle.bp_parser.specs.Trees.{Tree, Leaf, Items, Body, Sum, Truth, Number, Str, Name, Trees, Definition}
use Rattle.bp_parser.specs.Words.{Word, words_of, as_word, is_comment}
use Rattle.bp_parser.specs.Grammar.{Spells, SpellsFile}
use Rattle.bp_format.specs.declared.spot.Spot.{Spot}
use Rattle.bp_format.specs.declared.spot.Spot.TheVariants.{Instead, Behind}
use Rattle.bp_format.specs.Layout.{opens_any, closes_any, nest_behind}
use Rattle.bp_format.specs.Spots.{spot}
use Rattle.bp_format.specs.Spans.{from_place, closing, up_to, list_span, end_span, span}
use Rattle.bp_format.proofs.Depth.{nest_of, IsWithin, items_within, turned_open, turned_plain}
use Rattle.bp_format.proofs.Cuts.{word_alone, comment_left}
use Rattle.bp_format.proofs.Places.{found_at}
use Rattle.bp_format.proofs.Located.{IsTreeAt, IsSpelledIn, spot_spelled}

-- a token that is a word, with the words before it and behind it
record IsTokenOf (text : List ℕ) (ts : List Token) (pre : List Word) (w : Word) (rest : List Word) : Type 0 where
  pub before : List Token
  pub token : Token
  pub after : List Token
  pub split : ts ≡ before ++ token ∷ after
  pub front : words_of text before ≡ pre
  pub word : as_word text token ≡ w
  pub behind : words_of text after ≡ rest

one_behind : (text : List ℕ) (t : Token) (ts : List Token) (pre all : List Word) (w : Word) (rest : List Word)
    → (f : IsTokenOf text ts pre w rest) → words_of text (t ∷ f.before) ≡ all → IsTokenOf text (t ∷ ts) all w rest
one_behind text t ts pre all w rest f front = record {
  before = t ∷ f.before;
  token = f.token;
  after = f.after;
  split = ap (λ l. t ∷ l) f.split;
  front = front;
  word = f.word;
  behind = f.behind;
}

token_of_word : (text : List ℕ) (ts : List Token) (pre : List Word) (w : Word) (rest : List Word)
    → words_of text ts ≡ pre ++ w ∷ rest → IsTokenOf text ts pre w rest
token_of_word text [] pre w rest is = absurd (omega (arith, ap length is, length-append pre (w ∷ rest)))
token_of_word text (t ∷ ts) pre w rest is =
    ⊎_elim
    (λ comment. let f = token_of_word text ts pre w rest (sym (comment_left text t ts comment) ∙ is) in
    one_behind text t ts pre pre w rest f (comment_left text t f.before comment ∙ f.front))
    (λ other. here pre (sym (word_alone text t ts other) ∙ is) (λ us. word_alone text t us other)
    (λ p e. token_of_word text ts p w rest e))
    (cases_Bool (is_comment t.kind))
  where
    here : (p : List Word) → as_word text t ∷ words_of text ts ≡ p ++ w ∷ rest
        → ((us : List Token) → words_of text (t ∷ us) ≡ as_word text t ∷ words_of text us)
        → ((q : List Word) → words_of text ts ≡ q ++ w ∷ rest → IsTokenOf text ts q w rest)
        → IsTokenOf text (t ∷ ts) p w rest
    here [] e alone again =
        let first : as_word text t ≡ w = cc in
        let behind : words_of text ts ≡ rest = cc in
        record { before = []; token = t; after = ts; split = refl; front = refl; word = first; behind = behind }
    here (x ∷ p) e alone again =
        let first : as_word text t ≡ x = cc in
        let behind : words_of text ts ≡ p ++ w ∷ rest = cc in
        let f = again p behind in
        one_behind text t ts p (x ∷ p) w rest f (alone f.before ∙ (λ i. first i ∷ f.front i))

comment_plain : (k : TokenKind) → is_comment k ≡ true → (opens_any k ≡ false) × (closes_any k ≡ false)
comment_plain LineComment is = (refl, refl)
comment_plain BlockComment is = (refl, refl)
comment_plain _ is = absurd cc

-- the bracket that closes, and the words behind it
record Closes (text : List ℕ) (d : ℕ) (ts : List Token) (rest : List Word) : Type 0 where
  pub token : Token
  pub inside : List Token
  pub more : List Token
  pub is : closing d ts ≡ Some token
  pub split : ts ≡ inside ++ token ∷ more
  pub behind : words_of text more ≡ rest

one_before : (text : List ℕ) (d e : ℕ) (t : Token) (ts : List Token) (rest : List Word)
    → closing d (t ∷ ts) ≡ closing e ts → Closes text e ts rest → Closes text d (t ∷ ts) rest
one_before text d e t ts rest step r = record {
  token = r.token;
  inside = t ∷ r.inside;
  more = r.more;
  is = step ∙ r.is;
  split = ap (λ l. t ∷ l) r.split;
  behind = r.behind;
}

closes_open : (text : List ℕ) (d : ℕ) (t : Token) (ts : List Token) (rest : List Word) → opens_any t.kind ≡ true
    → Closes text (d + 1) ts rest → Closes text d (t ∷ ts) rest
closes_open text d t ts rest o r = one_before text d (d + 1) t ts rest (cond-true (opens_any t.kind) _ _ o) r

closes_plain : (text : List ℕ) (d : ℕ) (t : Token) (ts : List Token) (rest : List Word) → opens_any t.kind ≡ false
    → closes_any t.kind ≡ false → Closes text d ts rest → Closes text d (t ∷ ts) rest
closes_plain text d t ts rest o c r =
    one_before text d d t ts rest (cond-false (opens_any t.kind) _ _ o ∙ cond-false (closes_any t.kind) _ _ c) r

closes_deep : (text : List ℕ) (d : ℕ) (t : Token) (ts : List Token) (rest : List Word) → opens_any t.kind ≡ false
    → closes_any t.kind ≡ true → (d ≡ 0 → ⊥) → Closes text (d - 1) ts rest → Closes text d (t ∷ ts) rest
closes_deep text d t ts rest o c some r =
    one_before text d (d - 1) t ts rest (cond-false (opens_any t.kind) _ _ o ∙ cond-true (closes_any t.kind) _ _ c
    ∙ cond-false (d == 0) _ _ (ne_eqb d 0 some)) r

closes_here : (text : List ℕ) (d : ℕ) (t : Token) (ts : List Token) (rest : List Word) → opens_any t.kind ≡ false
    → closes_any t.kind ≡ true → d ≡ 0 → words_of text ts ≡ rest → Closes text d (t ∷ ts) rest
closes_here text d t ts rest o c none behind = record {
  token = t;
  inside = [];
  more = ts;
  is =
      cond-false (opens_any t.kind) _ _ o
      ∙ cond-true (closes_any t.kind) _ _ c
      ∙ cond-true (d == 0) _ _ (eq-eqb d 0 none);
  split = refl;
  behind = behind;
}

-- words that never go below a stack, up to a bracket that closes
record IsInside (base n : List TokenKind) (b : List Word) (d : ℕ) : Type 0 where
  pub some : 0 < length base
  pub above : (b1 b2 : List Word) → b ≡ b1 ++ b2 → length base ≤ length (nest_of n b1)
  pub end : length (nest_of n b) ≡ length base
  pub depth : length n ≡ length base + d

next_inside : (base n : List TokenKind) (w : Word) (b : List Word) (d e : ℕ) → IsInside base n (w ∷ b) d
    → length (nest_behind n w.kind) ≡ length base + e → IsInside base (nest_behind n w.kind) b e
next_inside base n w b d e is deep = record {
  some = is.some;
  above = λ b1 b2 split. is.above (w ∷ b1) b2 (ap (λ l. w ∷ l) split);
  end = is.end;
  depth = deep;
}

closed : (text : List ℕ) (base n : List TokenKind) (d : ℕ) (ts : List Token) (b : List Word) (e : Word)
    (rest : List Word) → words_of text ts ≡ b ++ e ∷ rest → opens_any e.kind ≡ false → closes_any e.kind ≡ true
    → IsInside base n b d → Closes text d ts rest
closed text base n d [] b e rest is shut closing_one inside =
    absurd (omega (arith, ap length is, length-append b (e ∷ rest)))
closed text base n d (t ∷ ts) b e rest is shut closing_one inside =
    ⊎_elim
    (λ comment. let p = comment_plain t.kind comment in
    closes_plain text d t ts rest p.0 p.1
    (closed text base n d ts b e rest (sym (comment_left text t ts comment) ∙ is) shut closing_one inside))
    (λ other. here b (sym (word_alone text t ts other) ∙ is) inside
    (λ m k c s i. closed text base m k ts c e rest s shut closing_one i))
    (cases_Bool (is_comment t.kind))
  where
    here : (c : List Word) → as_word text t ∷ words_of text ts ≡ c ++ e ∷ rest → IsInside base n c d
        → ((m : List TokenKind) (k : ℕ) (c : List Word) → words_of text ts ≡ c ++ e ∷ rest → IsInside base m c k
        → Closes text k ts rest) → Closes text d (t ∷ ts) rest
    here [] s i again =
        let kind : t.kind ≡ e.kind = let first : as_word text t ≡ e = cc in ap (λ (w : Word). w.kind) first in
        let behind : words_of text ts ≡ rest = cc in
        closes_here text d t ts rest (ap opens_any kind ∙ shut) (ap closes_any kind ∙ closing_one)
        (omega (arith, i.end, i.depth)) behind
    here (w ∷ c) s i again =
        let first : as_word text t ≡ w = cc in
        let behind : words_of text ts ≡ c ++ e ∷ rest = cc in
        let kind : t.kind ≡ w.kind = ap (λ (v : Word). v.kind) first in
        ⊎_elim
        (λ o. closes_open text d t ts rest o
        (again (nest_behind n w.kind) (d + 1) c behind (next_inside base n w c d (d + 1) i (omega (
          arith,
          i.depth,
          ap length (turned_open n w.kind (sym (ap opens_any kind) ∙ o)),
          length-append n (w.kind ∷ []),
        )))))
        (λ o. ⊎_elim
        (λ cl.
        let cut : nest_behind n w.kind ≡ take (length n - 1) n =
        cond-false (opens_any w.kind) _ _ (sym (ap opens_any kind) ∙ o)
        ∙ cond-true (closes_any w.kind) _ _ (sym (ap closes_any kind) ∙ cl) in
        let less : length (nest_behind n w.kind) ≡ length n - 1 =
        ap length cut ∙ length-take-le (length n - 1) n (omega arith) in
        let low : length base ≤ length (nest_behind n w.kind) = i.above (w ∷ []) c refl in
        closes_deep text d t ts rest o cl (λ none. omega (arith, low, less, i.depth, i.some)) (again (nest_behind n
        w.kind) (d - 1) c behind (next_inside base n w c d (d - 1) i (omega (arith, low, less, i.depth, i.some)))))
        (λ cl. closes_plain text d t ts rest o cl
        (again (nest_behind n w.kind) d c behind (next_inside base n w c d d i (omega (
          arith,
          i.depth,
          ap length (turned_plain n w.kind (sym (ap opens_any kind) ∙ o) (sym (ap closes_any kind) ∙ cl)),
        )))))
        (cases_Bool (closes_any t.kind)))
        (cases_Bool (opens_any t.kind))

-- the bracket that closes, behind a list's
list_closes : (text : List ℕ) (ts : List Token) (inner rest : List Word) → words_of text ts ≡ inner
    → IsWithin CloseBracket inner rest → Closes text 0 ts rest
list_closes text ts inner rest is w =
    let base : List TokenKind = Mark OpenBracket ∷ [] in
    closed text base base 0 ts w.inner w.end rest (is ∙ w.split) (ap opens_any w.kind) (ap closes_any w.kind) (record {
      some = omega arith;
      above = λ b1 b2 split. w.keeps.within base b1 b2 split;
      end = ap length (w.keeps.whole base);
      depth = omega arith;
    })

start_of : TokensStandWithin → PlacesRise
    → (file : ℕ) (text : List ℕ) (ts : List Token) (pre : List Word) (w : Word) (rest : List Word)
    → IsTokenList file text ts → (f : IsTokenOf text ts pre w rest) → from_place w.at ts ≡ f.token ∷ f.after
start_of law rise file text ts pre w rest listed f =
    let place : f.token.place ≡ w.at = ap (λ (v : Word). v.at) f.word in
    ap (λ p. from_place p ts) (sym place)
    ∙ ap (from_place f.token.place) f.split
    ∙ found_at law rise file text 0 (length text) f.before f.token f.after
    (subst (Covers file text 0 (length text)) f.split listed)

-- The tokens fall into those before a list, those of the list, and those behind it.
pub record IsListCut (text : List ℕ) (ts : List Token) (before after : List Word) (at : Place) : Type 0 where
  pub front : List Token
  pub first : Token
  pub inside : List Token
  pub last : Token
  pub behind : List Token
  pub split : ts ≡ front ++ first ∷ (inside ++ last ∷ behind)
  pub front_words : words_of text front ≡ before
  pub behind_words : words_of text behind ≡ after
  pub kind : first.kind ≡ Mark OpenBracket
  pub spanned : span (Instead at) ts ≡ Some (first.start, last.end)

pub list_cut : TokensStandWithin → PlacesRise
    → (file : ℕ) (text : List ℕ) (ts : List Token) (at : Place) (xs : Trees) (before here after : List Word)
    → IsTokenList file text ts → words_of text ts ≡ before ++ here → Spells (Items at xs) here after
    → IsListCut text ts before after at
list_cut law rise file text ts at xs before here after listed is s =
    let w : Word = record { kind = Mark OpenBracket; at = at; text = s.1.0 } in
    let f = token_of_word text ts before w s.0 (is ∙ ap (λ l. before ++ l) s.1.1) in
    let u = list_closes text f.after s.0 after f.behind (items_within xs s.0 after s.2) in
    record {
      front = f.before;
      first = f.token;
      inside = u.inside;
      last = u.token;
      behind = u.more;
      split = f.split ∙ ap (λ l. f.before ++ f.token ∷ l) u.split;
      front_words = f.front;
      behind_words = u.behind;
      kind = ap (λ (v : Word). v.kind) f.word;
      spanned = ap list_span (start_of law rise file text ts before w s.0 listed f) ∙ ap (up_to f.token) u.is;
    }

-- The tokens fall into those before a word, the word's, and those behind it.
pub record IsWordCut (text : List ℕ) (ts : List Token) (before : List Word) (w : Word)
    (after : List Word) : Type 0 where
  pub front : List Token
  pub token : Token
  pub behind : List Token
  pub split : ts ≡ front ++ token ∷ behind
  pub front_words : words_of text front ≡ before
  pub word : as_word text token ≡ w
  pub behind_words : words_of text behind ≡ after
  pub spanned : span (Behind w.at) ts ≡ Some (token.end, token.end)

pub word_cut : TokensStandWithin → PlacesRise
    → (file : ℕ) (text : List ℕ) (ts : List Token) (w : Word) (before here after : List Word) → IsTokenList file text ts
    → words_of text ts ≡ before ++ here → here ≡ w ∷ after → IsWordCut text ts before w after
word_cut law rise file text ts w before here after listed is at =
    let f = token_of_word text ts before w after (is ∙ ap (λ l. before ++ l) at) in
    record {
      front = f.before;
      token = f.token;
      behind = f.after;
      split = f.split;
      front_words = f.front;
      word = f.word;
      behind_words = f.behind;
      spanned = ap end_span (start_of law rise file text ts before w after listed f);
    }

span_at : TokensStandWithin → PlacesRise → (file : ℕ) (text : List ℕ) (ts : List Token) (place : Spot) (x : Tree)
    → IsTokenList file text ts → IsTreeAt place x → IsSpelledIn (words_of text ts) x
    → (b : ℕ × ℕ) × (span place ts ≡ Some b)
span_at law rise file text ts (Instead at) (Items p xs) listed same s =
    let c = list_cut law rise file text ts p xs s.before s.here s.rest listed s.split s.spelled in
    ((c.first.start, c.last.end), ap (λ q. list_span (from_place q ts)) same ∙ c.spanned)
span_at law rise file text ts (Behind at) (Leaf p (Str t)) listed same s =
    let w : Word = record { kind = s.spelled.0; at = p; text = s.spelled.1 } in
    let c = word_cut law rise file text ts w s.before s.here s.rest listed s.split s.spelled.2 in
    ((c.token.end, c.token.end), ap (λ q. end_span (from_place q ts)) same ∙ c.spanned)
span_at law rise file text ts (Instead at) (Leaf p a) listed same s = absurd same
span_at law rise file text ts (Instead at) (Body p es) listed same s = absurd same
span_at law rise file text ts (Instead at) (Sum x terms) listed same s = absurd same
span_at law rise file text ts (Behind at) (Leaf p (Truth b)) listed same s = absurd same
span_at law rise file text ts (Behind at) (Leaf p (Number n)) listed same s = absurd same
span_at law rise file text ts (Behind at) (Leaf p (Name n)) listed same s = absurd same
span_at law rise file text ts (Behind at) (Items p xs) listed same s = absurd same
span_at law rise file text ts (Behind at) (Body p es) listed same s = absurd same
span_at law rise file text ts (Behind at) (Sum x terms) listed same s = absurd same

-- Where the tree has a spot, the text has a span.
pub has_span : TokensStandWithin → PlacesRise
    → (file : ℕ) (text wanted property : List ℕ) (ts : List Token) (ds : List Definition) (place : Spot)
    → IsTokenList file text ts → SpellsFile ds (words_of text ts) → spot file wanted property ds ≡ Ok place
    → (b : ℕ × ℕ) × (span place ts ≡ Some b)
has_span law rise file text wanted property ts ds place listed s found =
    let r = spot_spelled file wanted property ds (words_of text ts) place s found in
    span_at law rise file text ts place r.0 listed r.1 r.2
