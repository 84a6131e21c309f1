-- The tokens of a text in which other tokens have been put.
use Rattle.std.proofs.Common.{◌≡◌, ℕ, ◌+◌, ◌≤◌, List, [], ◌∷◌, ◌++◌, length, take, drop, sym, ap, ◌∙◌, subst, arith}
use Rattle.std.proofs.Common.{length-append, length-drop, length-take-le, take-append-drop}
use Rattle.std.proofs.Math.Seq.{drop-append_seam}
use Rattle.std.proofs.lemmas.List.{drop-drop, map-append}
use Rattle.bp_lexer.specs.declared.token.Token.{Token}
use Rattle.bp_lexer.specs.Meaning.{Covers, IsTokenList}
use Rattle.bp_parser.specs.Words.{Word, words_of}
use Rattle.bp_format.specs.WithoutPlaces.{token_contents, word_content, word_contents}
use Rattle.bp_format.proofs.Bits.{Bit, bits_text, bit_words, AreBits, told}
use Rattle.bp_format.proofs.Cuts.{words_append}
use Rattle.bp_format.proofs.Frames.{Alike}
use Rattle.bp_format.proofs.Lexing.{Lexing}
use Rattle.bp_format.proofs.Parts.{covers_front, covers_tail, covers_append, bare_front}
use Rattle.bp_format.proofs.Theorem.{words_alike}

pub alike_both : (a b c d : List Word) → Alike a c → Alike b d → Alike (a ++ b) (c ++ d)
alike_both a b c d x y = map-append word_content a b ∙ (λ i. x i ++ y i) ∙ sym (map-append word_content c d)

-- The tokens before the place `start` and those from `to` on stay, with the bits between them.
pub splice : Lexing
    → (file : ℕ) (text out : List ℕ) (start to b : ℕ) (c d : List ℕ) (front behind : List Token) (bits : List Bit)
    → drop start text ≡ b ∷ c → to ≤ length text → bits_text bits ≡ b ∷ d → AreBits bits (drop to text)
    → Covers file text 0 start front → Covers file text to (length text) behind
    → out ≡ take start text ++ (bits_text bits ++ drop to text)
    → (us : List Token) × IsTokenList file out us
    × Alike (words_of text front ++ (bit_words bits ++ words_of text behind)) (words_of out us)
splice lex file text out start to b c d front behind bits at within first are covered_front covered_behind is =
    let a = take start text in
    let rest = drop to text in
    let put = bits_text bits in
    let inside : start ≤ length text = omega (arith, ap length at, length-drop start text) in
    let long : length a ≡ start = length-take-le start text inside in
    let old : text ≡ a ++ b ∷ c = sym (take-append-drop start text) ∙ ap (λ l. a ++ l) at in
    let new : out ≡ a ++ b ∷ (d ++ rest) = is ∙ ap (λ l. a ++ (l ++ rest)) first in
    let before : Covers file (a ++ b ∷ c) 0 (length a) front = subst (λ l. Covers file l 0 (length a) front) old
    (subst (λ n. Covers file text 0 n front) (sym long) covered_front) in
    let moved : Covers file out 0 (length a) front =
    subst (λ l. Covers file l 0 (length a) front) (sym new) (covers_front lex file a b c (d ++ rest) 0 front before) in
    let middle : drop (length a) out ≡ put ++ rest = ap (drop (length a)) is ∙ drop-append_seam a (put ++ rest) in
    let all : length out ≡ length a + (length put + length rest) =
    ap length is ∙ length-append a (put ++ rest) ∙ ap (λ n. length a + n) (length-append put rest) in
    let m =
    told lex file out (length a) [] bits rest (λ i none. absurd (omega arith)) are (omega (arith, all)) middle in
    let next = length a + (0 + length put) in
    let later : drop next out ≡ rest =
    ap (λ n. drop n out) (omega arith)
    ∙ sym (drop-drop (length put) (length a) out)
    ∙ ap (drop (length put)) middle
    ∙ drop-append_seam put rest in
    let t = covers_tail lex file text out to next behind within (omega (arith, all)) (sym later) covered_behind in
    let us = front ++ (m.tokens ++ t.0) in (
      us,
      covers_append file out 0 (length a) (length out) front (m.tokens ++ t.0) moved
          (covers_append file out (length a) next (length out) m.tokens t.0 m.covered t.1),
      alike_both (words_of text front) (bit_words bits ++ words_of text behind) (words_of out front)
          (words_of out m.tokens ++ words_of out t.0)
          (words_alike text out front front (front_words a (b ∷ c) (b ∷ (d ++ rest)) old new before))
          (alike_both (bit_words bits) (words_of text behind) (words_of out m.tokens) (words_of out t.0) m.alike
          (words_alike text out behind t.0 (sym t.2)))
          ∙ ap word_contents (sym (words_append out front (m.tokens ++ t.0)
          ∙ ap (λ l. words_of out front ++ l) (words_append out m.tokens t.0))),
    )
  where
    front_words : (a x y : List ℕ) → text ≡ a ++ x → out ≡ a ++ y → Covers file (a ++ x) 0 (length a) front
        → token_contents text front ≡ token_contents out front
    front_words a x y old new covers =
        ap (λ l. token_contents l front) old
        ∙ sym (bare_front lex file a x y 0 front covers)
        ∙ ap (λ l. token_contents l front) (sym new)
