-- The token at a place, as the word that stands there.
use Rattle.std.proofs.Common.{◌≡◌, ℕ, suc, ◌+◌, ◌<◌, ◌≤◌, length, drop, get_or, arith, List, [], ◌∷◌, map, sym, ap, ◌∙◌}
use Rattle.std.proofs.Common.{subst}
use Rattle.std.proofs.Math.Seq.{drop-cons}
use Rattle.std.proofs.lemmas.List.{drop-map, drop_all}
use Rattle.bp_lexer.specs.declared.token.Punct.{Punct}
use Rattle.bp_lexer.specs.declared.token.Token.{Token}
use Rattle.bp_lexer.specs.declared.token.TokenKind.TheVariants.{Punct as Mark}
use Rattle.bp_lexer.specs.Meaning.{IsToken, word_of}
use Rattle.bp_parser.specs.Words.{Word, as_word, all_words}
use Rattle.bp_parser.specs.Grammar.{IsMarkAt}
use Rattle.bp_parser.specs.Reading.{AreTokens, IsTokenAt, HasMark, LacksMark}
use Rattle.bp_parser.proofs.Firsts.{same_head}

word_here : (text : List ℕ) (ts : List Token) (at : ℕ) (d : Token) → at < length ts
    → drop at (all_words text ts) ≡ as_word text (get_or ts at d) ∷ drop (at + 1) (all_words text ts)
word_here text ts at d within =
    let f = as_word text in
    let next : at + 1 ≡ suc at = omega arith in
    drop-map f at ts
    ∙ ap (map f) (drop-cons ts at d within)
    ∙ ap (λ l. f (get_or ts at d) ∷ l) (sym (drop-map f (suc at) ts) ∙ ap (λ i. drop i (all_words text ts)) (sym next))

pub past_end : (text : List ℕ) (ts : List Token) (at : ℕ) → length ts ≤ at → drop at (all_words text ts) ≡ []
past_end text ts at past = drop-map (as_word text) at ts ∙ ap (map (as_word text)) (drop_all at ts past)

-- the token is the one at a place
abbrev pub StandsAt : List Token → ℕ → Token → Type 0
StandsAt ts at t = (at < length ts) × ((d : Token) → t ≡ get_or ts at d)

pub token_found : (text : List ℕ) (ts : List Token) (at : ℕ) (t : Token) → AreTokens text ts → StandsAt ts at t
    → IsTokenAt text ts at t
token_found text ts at t tokens found =
    let same : get_or ts at t ≡ t = sym (found.1 t) in
    record {
      within = found.0;
      token = subst (λ (x : Token). IsToken x.place.file text x) same (tokens at t found.0);
      here = word_here text ts at t found.0 ∙ ap (λ x. as_word text x ∷ drop (at + 1) (all_words text ts)) same;
    }

mark_place : (mark : Punct) (text : List ℕ) (ts : List Token) (at : ℕ) (d : Token) → at < length ts
    → (get_or ts at d).kind ≡ Mark mark
    → IsMarkAt mark (get_or ts at d).place (drop at (all_words text ts)) (drop (at + 1) (all_words text ts))
mark_place mark text ts at d within kind =
    let x = get_or ts at d in (
      word_of text x,
      word_here text ts at d within
          ∙ ap (λ k. record { kind = k; at = x.place; text = word_of text x } ∷ drop (at + 1) (all_words text ts)) kind,
    )

pub mark_found : (mark : Punct) (ts : List Token) (at : ℕ) (t : Token) → StandsAt ts at t → t.kind ≡ Mark mark
    → HasMark mark ts at
mark_found mark ts at t found kind =
    let same = λ (d : Token). ap (λ (x : Token). x.kind) (sym (found.1 d)) ∙ kind in
    record {
      within = found.0;
      place = λ text d. mark_place mark text ts at d found.0 (same d);
      here = λ text. ((get_or ts at t).place, mark_place mark text ts at t found.0 (same t));
    }

pub mark_other : (mark : Punct) (ts : List Token) (at : ℕ) (t : Token) → StandsAt ts at t → (t.kind ≡ Mark mark → ⊥)
    → LacksMark mark ts at
mark_other mark ts at t found other text w rest is kind =
    let e = same_head (as_word text (get_or ts at t)) w _ rest (sym (word_here text ts at t found.0) ∙ is) in
    other (ap (λ (x : Token). x.kind) (found.1 t) ∙ ap (λ (v : Word). v.kind) e.0 ∙ kind)
