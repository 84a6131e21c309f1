-- The tokens of what is put into a text.
use Rattle.std.proofs.Common.{◌≡◌, ℕ, zero, suc, ◌+◌, ◌-◌, ◌≤◌, false, List, [], ◌∷◌, ◌++◌, length, take, drop, map}
use Rattle.std.proofs.Common.{Some, sym, refl, ap, ◌∙◌, subst, inl, inr, arith, append_assoc, length-append}
use Rattle.std.proofs.Common.{length-drop, IsUtf8}
use Rattle.std.specs.Prelude.{⊤, All, codes}
use Rattle.std.proofs.Math.Seq.{take-append_seam, drop-append_seam}
use Rattle.std.proofs.lemmas.List.{drop-drop}
use Rattle.bp_lexer.specs.declared.token.Punct.{Punct}
use Rattle.bp_lexer.specs.declared.token.Punct.TheVariants.{OpenBracket, CloseBracket, Colon, Comma}
use Rattle.bp_lexer.specs.declared.token.Token.{Token}
use Rattle.bp_lexer.specs.declared.token.TokenKind.{TokenKind}
use Rattle.bp_lexer.specs.declared.token.TokenKind.TheVariants.{Ident, Int, Quoted, Punct as Mark}
use Rattle.bp_lexer.specs.Apart.{goes_on, StopsAt}
use Rattle.bp_lexer.specs.Forms.{IsForm, punct_text}
use Rattle.bp_lexer.specs.Meaning.{IsBlank, Covers}
use Rattle.bp_lexer.specs.Places.{place_at}
use Rattle.bp_parser.specs.Trees.{Leaf, Str}
use Rattle.bp_parser.specs.Words.{Word, words_of, is_comment}
use Rattle.bp_parser.specs.Grammar.{Spells, SpellsItems, SpellsMoreItems}
use Rattle.bp_format.specs.WithoutPlaces.{origin, word_content}
use Rattle.bp_format.specs.Quotes.{quotation, items_text, more_items_text, list_text}
use Rattle.bp_format.specs.Setting.{list_expression, string_items}
use Rattle.bp_format.proofs.Cuts.{word_alone}
use Rattle.bp_format.proofs.Frames.{Alike}
use Rattle.bp_format.proofs.Holes.{plain_word}
use Rattle.bp_format.proofs.Lexing.{Lexing}
use Rattle.bp_format.proofs.Parts.{token_where}
use Rattle.bp_format.proofs.Relex.{White, blank_gap}
use Rattle.bp_format.proofs.Strings.{quoted_form, quoted_string}

-- a token that is put in, and the white space behind it
pub record Bit : Type 0 where
  pub kind : TokenKind
  pub text : List ℕ
  pub gap : List ℕ

abbrev pub bits_text : List Bit → List ℕ
bits_text [] = []
bits_text (b ∷ bs) = b.text ++ (b.gap ++ bits_text bs)

abbrev pub bit_words : List Bit → List Word
bit_words [] = []
bit_words (b ∷ bs) = plain_word b.kind b.text ∷ bit_words bs

-- it ends where its text does, and is no comment
pub record IsBit (b : Bit) (tail : List ℕ) : Type 0 where
  pub form : IsForm b.kind b.text
  pub stops : StopsAt (goes_on b.kind) tail
  pub white : White b.gap
  pub no_number : b.kind ≡ Int → ⊥
  pub word : is_comment b.kind ≡ false

abbrev pub AreBits : List Bit → List ℕ → Type 0
AreBits [] tail = ⊤
AreBits (b ∷ bs) tail = IsBit b (b.gap ++ (bits_text bs ++ tail)) × AreBits bs tail

-- where bits stand in a text
pub record AreTold (file : ℕ) (text : List ℕ) (from to : ℕ) (bits : List Bit) : Type 0 where
  pub tokens : List Token
  pub covered : Covers file text from to tokens
  pub alike : Alike (bit_words bits) (words_of text tokens)

pub told : Lexing → (file : ℕ) (text : List ℕ) (j : ℕ) (g : List ℕ) (bits : List Bit) (tail : List ℕ) → White g
    → AreBits bits tail → j ≤ length text → drop j text ≡ g ++ (bits_text bits ++ tail)
    → AreTold file text j (j + (length g + length (bits_text bits))) bits
told lex file text j g [] tail white are inside is = record {
  tokens = [];
  covered =
      let same : j + length g ≡ j + (length g + 0) = omega arith in
      subst (IsBlank text j) same (blank_gap text j g tail is white);
  alike = refl;
}
told lex file text j g (b ∷ bs) tail white are inside is =
    let at = j + length g in
    let end = at + length b.text in
    let rest = b.gap ++ (bits_text bs ++ tail) in
    let whole : (b.text ++ (b.gap ++ bits_text bs)) ++ tail ≡ b.text ++ rest =
    append_assoc b.text (b.gap ++ bits_text bs) tail ∙ ap (λ l. b.text ++ l) (append_assoc b.gap (bits_text bs) tail) in
    let here : drop at text ≡ b.text ++ rest =
    sym (drop-drop (length g) j text) ∙ ap (drop (length g)) is ∙ drop-append_seam g _ ∙ whole in
    let later : drop end text ≡ rest =
    sym (drop-drop (length b.text) at text) ∙ ap (drop (length b.text)) here ∙ drop-append_seam b.text rest in
    let wide = length-append g ((b.text ++ (b.gap ++ bits_text bs)) ++ tail) in
    let deep = length-append b.text rest in
    let bound : at ≤ length text = omega (arith, length-drop j text, ap length is, wide) in
    let past : end ≤ length text = omega (arith, length-drop at text, ap length here, deep, bound) in
    let t : Token = record { kind = b.kind; start = at; end = end; place = place_at file text at } in
    let r = told lex file text end b.gap bs tail are.0.white are.1 past later in
    let span : end - at ≡ length b.text = omega arith in
    let word : take (end - at) (drop at text) ≡ b.text = (λ i. take (span i) (here i)) ∙ take-append_seam b.text rest in
    let to : end + (length b.gap + length (bits_text bs))
    ≡ j + (length g + length (b.text ++ (b.gap ++ bits_text bs))) =
    omega (arith, length-append b.text (b.gap ++ bits_text bs), length-append b.gap (bits_text bs)) in
    record {
      tokens = t ∷ r.tokens;
      covered = (
        blank_gap text j g _ is white,
        token_where lex file text b.kind at end b.text rest are.0.form are.0.stops
            (λ int. absurd (are.0.no_number int)) bound refl here,
        subst (λ n. Covers file text end n r.tokens) to r.covered,
      );
      alike =
          (λ i. (b.kind, sym word i) ∷ r.alike i) ∙ sym (ap (map word_content) (word_alone text t r.tokens are.0.word));
    }

-- a form that ends by itself
pub ends_itself : (k : TokenKind) (tail : List ℕ) → ((b : ℕ) → goes_on k b ≡ false) → StopsAt (goes_on k) tail
ends_itself k [] never = inl refl
ends_itself k (b ∷ tail) never = inr (never b)

pub no_gap : White []
no_gap i within = absurd (omega arith)

one_space : White (codes " ")
one_space zero within = refl
one_space (suc i) within = absurd (omega arith)

abbrev mark : Punct → List ℕ → Bit
mark m gap = record { kind = Mark m; text = punct_text m; gap = gap }

abbrev string : List ℕ → Bit
string x = record { kind = Quoted; text = quotation x; gap = [] }

abbrev pub more_bits : List (List ℕ) → List Bit
more_bits [] = mark CloseBracket [] ∷ []
more_bits (x ∷ xs) = mark Comma (codes " ") ∷ string x ∷ more_bits xs

abbrev pub inner_bits : List (List ℕ) → List Bit
inner_bits [] = mark CloseBracket [] ∷ []
inner_bits (x ∷ xs) = string x ∷ more_bits xs

-- a list
abbrev pub list_bits : List (List ℕ) → List Bit
list_bits items = mark OpenBracket [] ∷ inner_bits items

-- what is put behind a name
abbrev pub lead_bits : List ℕ → List Bit → List Bit
lead_bits property more =
    mark Comma (codes " ") ∷ record { kind = Ident; text = property; gap = [] } ∷ mark Colon (codes " ") ∷ more

-- a word that was there
abbrev pub kept_bit : Token → List ℕ → Bit
kept_bit t text = record { kind = t.kind; text = text; gap = [] }

more_text : (xs : List (List ℕ)) → bits_text (more_bits xs) ≡ more_items_text xs ++ codes "]"
more_text [] = refl
more_text (x ∷ xs) =
    ap (λ l. codes ", " ++ (quotation x ++ l)) (more_text xs)
    ∙ ap (λ l. codes ", " ++ l) (sym (append_assoc (quotation x) (more_items_text xs) (codes "]")))

inner_text : (xs : List (List ℕ)) → bits_text (inner_bits xs) ≡ items_text xs ++ codes "]"
inner_text [] = refl
inner_text (x ∷ xs) =
    ap (λ l. quotation x ++ l) (more_text xs) ∙ sym (append_assoc (quotation x) (more_items_text xs) (codes "]"))

pub text_of_list : (xs : List (List ℕ)) → bits_text (list_bits xs) ≡ list_text xs
text_of_list xs = ap (λ l. codes "[" ++ l) (inner_text xs)

is_mark : (m : Punct) (gap tail : List ℕ) → ((b : ℕ) → goes_on (Mark m) b ≡ false) → White gap → IsBit (mark m gap) tail
is_mark m gap tail never white = record {
  form = refl;
  stops = ends_itself (Mark m) tail never;
  white = white;
  no_number = λ e. cc;
  word = refl;
}

is_string : (x tail : List ℕ) → IsBit (string x) tail
is_string x tail = record {
  form = quoted_form x;
  stops = ends_itself Quoted tail (λ b. refl);
  white = no_gap;
  no_number = λ e. cc;
  word = refl;
}

more_are : (xs : List (List ℕ)) (tail : List ℕ) → AreBits (more_bits xs) tail
more_are [] tail = (is_mark CloseBracket [] _ (λ b. refl) no_gap, tt)
more_are (x ∷ xs) tail = (is_mark Comma (codes " ") _ (λ b. refl) one_space, (is_string x _, more_are xs tail))

inner_are : (xs : List (List ℕ)) (tail : List ℕ) → AreBits (inner_bits xs) tail
inner_are [] tail = (is_mark CloseBracket [] _ (λ b. refl) no_gap, tt)
inner_are (x ∷ xs) tail = (is_string x _, more_are xs tail)

pub list_are : (xs : List (List ℕ)) (tail : List ℕ) → AreBits (list_bits xs) tail
list_are xs tail = (is_mark OpenBracket [] _ (λ b. refl) no_gap, inner_are xs tail)

pub lead_are : (property : List ℕ) (more : List Bit) (tail : List ℕ) → IsForm Ident property → AreBits more tail
    → AreBits (lead_bits property more) tail
lead_are property more tail form are = (
  is_mark Comma (codes " ") _ (λ b. refl) one_space,
  (
    record { form = form; stops = inr refl; white = no_gap; no_number = λ e. cc; word = refl },
    (is_mark Colon (codes " ") _ (λ b. refl) one_space, are),
  ),
)

-- the words of a list spell it
leaf : (x : List ℕ) (rest : List Word) → IsUtf8 x
    → Spells (Leaf origin (Str x)) (plain_word Quoted (quotation x) ∷ rest) rest
leaf x rest utf8 = (Quoted, quotation x, refl, ap (λ s. Some (Str s)) (quoted_string x utf8))

more_spelled : (xs : List (List ℕ)) (rest : List Word) → All IsUtf8 xs
    → SpellsMoreItems (string_items xs) (bit_words (more_bits xs) ++ rest) rest
more_spelled [] rest utf8 = inl (origin, (codes "]", refl))
more_spelled (x ∷ xs) rest utf8 =
    let behind = bit_words (more_bits xs) ++ rest in (
      plain_word Quoted (quotation x) ∷ behind,
      behind,
      (origin, (codes ",", refl)),
      leaf x behind (utf8 0 x (omega arith)),
      more_spelled xs rest (λ i d within. utf8 (suc i) d (omega arith)),
    )

inner_spelled : (xs : List (List ℕ)) (rest : List Word) → All IsUtf8 xs
    → SpellsItems (string_items xs) (bit_words (inner_bits xs) ++ rest) rest
inner_spelled [] rest utf8 = (origin, (codes "]", refl))
inner_spelled (x ∷ xs) rest utf8 =
    let behind = bit_words (more_bits xs) ++ rest in
    (behind, leaf x behind (utf8 0 x (omega arith)), more_spelled xs rest (λ i d within. utf8 (suc i) d (omega arith)))

pub list_spelled : (xs : List (List ℕ)) (rest : List Word) → All IsUtf8 xs
    → Spells (list_expression xs) (bit_words (list_bits xs) ++ rest) rest
list_spelled xs rest utf8 = (bit_words (inner_bits xs) ++ rest, (codes "[", refl), inner_spelled xs rest utf8)
