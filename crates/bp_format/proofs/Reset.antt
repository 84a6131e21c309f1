-- The tokens of an edited text spell the tree with the list set.
use Rattle.std.proofs.Common.{◌≡◌, ℕ, ◌+◌, ◌-◌, ◌<◌, false, List, [], ◌∷◌, ◌++◌, length, take, drop, Option, Some, sym}
use Rattle.std.proofs.Common.{refl, ap, ◌∙◌, subst, arith, append_assoc, take-append-drop}
use Rattle.std.specs.Prelude.{codes}
use Rattle.std.specs.Str.{bytes_eq}
use Rattle.std.proofs.Math.Seq.{take-add}
use Rattle.std.proofs.lemmas.Bool.{cond_both}
use Rattle.bp_lexer.specs.declared.token.Token.{Token}
use Rattle.bp_lexer.specs.declared.token.TokenKind.{TokenKind}
use Rattle.bp_lexer.specs.declared.token.TokenKind.TheVariants.{Ident, Int, Quoted, Raw}
use Rattle.bp_lexer.specs.Apart.{goes_on}
use Rattle.bp_lexer.specs.Forms.{IsForm}
use Rattle.bp_lexer.specs.Meaning.{Covers, IsTokenList, word_of}
use Rattle.bp_parser.specs.Trees.{Atom, Tree, Leaf, Items, Body, Sum, Truth, Number, Str, Name, Definition}
use Rattle.bp_parser.specs.Words.{Word, as_word, words_of, is_comment, atom_of}
use Rattle.bp_format.specs.declared.spot.Spot.{Spot}
use Rattle.bp_format.specs.declared.spot.Spot.TheVariants.{Instead, Behind}
use Rattle.bp_format.specs.Editing.{Wanted, IsFile, IsEdited, put_in}
use Rattle.bp_format.specs.Quotes.{list_text}
use Rattle.bp_format.specs.Setting.{set_in}
use Rattle.bp_format.specs.Spans.{span}
use Rattle.bp_format.proofs.Bits.{IsBit, bits_text, bit_words, list_bits, lead_bits, kept_bit, list_are, lead_are}
use Rattle.bp_format.proofs.Bits.{text_of_list, ends_itself, no_gap}
use Rattle.bp_format.proofs.Cuts.{same_front}
use Rattle.bp_format.proofs.Frames.{Alike}
use Rattle.bp_format.proofs.HasSpan.{list_cut, word_cut}
use Rattle.bp_format.proofs.Holes.{IsHole, IsSet, Files, SameDefs, lead_of, file_set}
use Rattle.bp_format.proofs.Lexing.{Lexing}
use Rattle.bp_format.proofs.Located.{IsTreeAt}
use Rattle.bp_format.proofs.Parts.{covers_split}
use Rattle.bp_format.proofs.SpanFacts.{pair_one}
use Rattle.bp_format.proofs.Splice.{splice, alike_both}

-- the new words, with the list in the hole
abbrev pub new_words : (w : Wanted) (place : Spot) (before kept after : List Word) → List Word
new_words w place before kept after =
    before ++ (kept ++ (lead_of w.property place ++ (bit_words (list_bits w.items) ++ after)))

-- the new text has tokens, which are these words but for places
abbrev HasWords : ℕ → List ℕ → List Word → Type 0
HasWords file out ws = (us : List Token) × IsTokenList file out us × Alike ws (words_of out us)

-- a word that is a string ends by itself
abbrev IsString : TokenKind → Type 0
IsString k = ((b : ℕ) → goes_on k b ≡ false) × (is_comment k ≡ false) × (k ≡ Int → ⊥)

no_name : (text s : List ℕ) → atom_of Ident text ≡ Some (Str s) → ⊥
no_name text s is =
    cond_both (bytes_eq text (codes "true")) _ _ (λ a. option_of a ≡ Some (Str s) → ⊥) (λ e f. absurd cc)
    (λ e. cond_both (bytes_eq text (codes "false")) _ _ (λ a. option_of a ≡ Some (Str s) → ⊥) (λ e f. absurd cc)
    (λ e f. absurd cc)) is
  where
    option_of : Atom → Option Atom
    option_of a = Some a

string_kind : (k : TokenKind) (text s : List ℕ) → atom_of k text ≡ Some (Str s) → IsString k
string_kind Quoted text s is = ((λ b. refl), refl, (λ e. cc))
string_kind Raw text s is = ((λ b. refl), refl, (λ e. cc))
string_kind Ident text s is = absurd (no_name text s is)
string_kind Int text s is = absurd cc
string_kind _ text s is = absurd cc

-- a list that isn't empty has a first element
first_of : (l : List ℕ) → 0 < length l → (b : ℕ) × (d : List ℕ) × (l ≡ b ∷ d)
first_of [] some = absurd (omega arith)
first_of (b ∷ d) some = (b, d, refl)

by_place : Lexing → (file : ℕ) (text out : List ℕ) (w : Wanted) (read : IsFile file text) (place : Spot) (x : Tree)
    (new : Tree → List Definition) (from to : ℕ) → IsForm Ident w.property → IsTreeAt place x
    → (h : IsHole Files SameDefs new x (lead_of w.property place) 1 (words_of text read.tokens) [])
    → span place read.tokens ≡ Some (from, to)
    → out ≡ take from text ++ (put_in w.property w.items place ++ drop to text)
    → HasWords file out (new_words w place h.before h.kept h.after)
by_place lex file text out w read (Instead at) (Items p xs) new from to name same h spanned edited =
    let ts = read.tokens in
    let c = list_cut lex.within lex.rise file text ts p xs h.before h.here h.after read.listed h.split h.old in
    let bounds : ℕ × ℕ = (c.first.start, c.last.end) in
    let span_is : bounds ≡ (from, to) =
    pair_one (c.first.start, c.last.end) (from, to) (sym (ap (λ q. span (Instead q) ts) same ∙ c.spanned) ∙ spanned) in
    let all = subst (Covers file text 0 (length text)) c.split read.listed in
    let r = covers_split file text 0 (length text) c.front c.first (c.inside ++ c.last ∷ c.behind) all in
    let s = covers_split file text c.first.end (length text) c.inside c.last c.behind r.2 in
    let n = c.first.end - c.first.start in
    let form : take n (drop c.first.start text) ≡ codes "[" =
    subst (λ k. IsForm k (take n (drop c.first.start text))) c.kind r.1.longest.form in
    let here : drop c.first.start text ≡ 91 ∷ drop n (drop c.first.start text) =
    sym (take-append-drop n (drop c.first.start text)) ∙ ap (λ l. l ++ drop n (drop c.first.start text)) form in
    let bits = list_bits w.items in
    let is : out ≡ take c.first.start text ++ (bits_text bits ++ drop c.last.end text) =
    edited ∙ (λ i. take (sym span_is i).0 text ++ (sym (text_of_list w.items) i ++ drop (sym span_is i).1 text)) in
    let t = splice lex file text out c.first.start c.last.end 91 (drop n (drop c.first.start text)) _ c.front c.behind
    bits here (lex.within file text c.last s.1).within refl (list_are w.items (drop c.last.end text)) r.0 s.2 is in (
      t.0,
      t.1,
      subst (λ l. Alike l (words_of out t.0))
          (λ i. c.front_words i ++ (sym h.keeps i ++ (bit_words bits ++ c.behind_words i))) t.2,
    )
by_place lex file text out w read (Behind at) (Leaf p (Str x)) new from to name same h spanned edited =
    let ts = read.tokens in
    let word : Word = record { kind = h.old.0; at = p; text = h.old.1 } in
    let c = word_cut lex.within lex.rise file text ts word h.before h.here h.after read.listed h.split h.old.2 in
    let t = c.token in
    let bounds : ℕ × ℕ = (t.end, t.end) in
    let span_is : bounds ≡ (from, to) =
    pair_one (t.end, t.end) (from, to) (sym (ap (λ q. span (Behind q) ts) same ∙ c.spanned) ∙ spanned) in
    let r = covers_split file text 0 (length text) c.front t c.behind
    (subst (Covers file text 0 (length text)) c.split read.listed) in
    let stands = lex.within file text t r.1 in
    let n = t.end - t.start in
    let bytes = word_of text t in
    let some = first_of bytes (lex.bytes t.kind bytes r.1.longest.form).0 in
    let rest = drop n (drop t.start text) in
    let here : drop t.start text ≡ some.0 ∷ (some.1 ++ rest) =
    sym (take-append-drop n (drop t.start text)) ∙ ap (λ l. l ++ rest) some.2 in
    let kind : t.kind ≡ h.old.0 = ap (λ (v : Word). v.kind) c.word in
    let string : IsString t.kind = subst IsString (sym kind) (string_kind h.old.0 h.old.1 x h.old.3) in
    let list = list_bits w.items in
    let lead = lead_bits w.property list in
    let bits = kept_bit t bytes ∷ lead in
    let tail = drop t.end text in
    let kept_is : IsBit (kept_bit t bytes) (bits_text lead ++ tail) = record {
      form = r.1.longest.form;
      stops = ends_itself t.kind (bits_text lead ++ tail) string.0;
      white = no_gap;
      no_number = string.2;
      word = string.1;
    } in
    let sum : t.start + n ≡ t.end = omega (arith, stands.nonempty) in
    let front : take t.end text ≡ take t.start text ++ bytes =
    ap (λ k. take k text) (sym sum) ∙ take-add t.start n text in
    let put = codes ", " ++ (w.property ++ (codes ": " ++ list_text w.items)) in
    let put_is : put ≡ bits_text lead =
    ap (λ l. codes ", " ++ (w.property ++ (codes ": " ++ l))) (sym (text_of_list w.items)) in
    let is : out ≡ take t.start text ++ (bits_text bits ++ tail) =
    edited
    ∙ (λ i. take (sym span_is i).0 text ++ (put ++ drop (sym span_is i).1 text))
    ∙ (λ i. front i ++ (put_is i ++ tail))
    ∙ append_assoc (take t.start text) bytes (bits_text lead ++ tail)
    ∙ ap (λ l. take t.start text ++ l) (sym (append_assoc bytes (bits_text lead) tail)) in
    let s = splice lex file text out t.start t.end some.0 (some.1 ++ rest)
    (some.1 ++ bits_text lead) c.front c.behind bits here stands.within (ap (λ l. l ++ bits_text lead) some.2)
    (kept_is, lead_are w.property list tail name (list_are w.items tail)) r.0 r.2 is in
    let words = lead_of w.property (Behind at) ++ (bit_words list ++ words_of text c.behind) in
    let swapped : Alike (words_of text c.front ++ (as_word text t ∷ words)) (words_of out s.0) =
    alike_both (words_of text c.front) (as_word text t ∷ words) (words_of text c.front)
    (bit_words bits ++ words_of text c.behind) refl refl
    ∙ s.2 in
    let kept : word ∷ [] ≡ h.kept = same_front (word ∷ []) h.kept h.after (sym h.old.2 ∙ h.keeps) in (
      s.0,
      s.1,
      subst (λ l. Alike l (words_of out s.0))
          ((λ i. c.front_words i
          ++ (c.word i ∷ (lead_of w.property (Behind at) ++ (bit_words list ++ c.behind_words i))))
          ∙ (λ i. h.before ++ (kept i ++ (lead_of w.property (Behind at) ++ (bit_words list ++ h.after))))) swapped,
    )
by_place lex file text out w read (Instead at) (Leaf p a) new from to name same h spanned edited = absurd same
by_place lex file text out w read (Instead at) (Body p es) new from to name same h spanned edited = absurd same
by_place lex file text out w read (Instead at) (Sum x terms) new from to name same h spanned edited = absurd same
by_place lex file text out w read (Behind at) (Leaf p (Truth b)) new from to name same h spanned edited = absurd same
by_place lex file text out w read (Behind at) (Leaf p (Number n)) new from to name same h spanned edited = absurd same
by_place lex file text out w read (Behind at) (Leaf p (Name n)) new from to name same h spanned edited = absurd same
by_place lex file text out w read (Behind at) (Items p xs) new from to name same h spanned edited = absurd same
by_place lex file text out w read (Behind at) (Body p es) new from to name same h spanned edited = absurd same
by_place lex file text out w read (Behind at) (Sum x terms) new from to name same h spanned edited = absurd same

-- what is known of an edited text
pub record IsReset (file : ℕ) (text out : List ℕ) (w : Wanted) (read : IsFile file text) : Type 0 where
  pub place : Spot
  pub set : IsSet Files SameDefs w (set_in w read.tree.defs) place 1 (words_of text read.tokens) []
  pub tokens : List Token
  pub listed : IsTokenList file out tokens
  pub alike : Alike (new_words w place set.hole.before set.hole.kept set.hole.after) (words_of out tokens)

pub reset : Lexing → (file : ℕ) (text out : List ℕ) (w : Wanted) → IsForm Ident w.property
    → (e : IsEdited file text w out) → IsReset file text out w e.read
reset lex file text out w name e =
    let s = file_set file w e.read.tree.defs (words_of text e.read.tokens) e.place e.read.parsed.spelled e.found in
    let h = by_place lex file text out w e.read e.place s.value s.new e.from e.to name s.at s.hole e.spanned e.edited in
    record { place = e.place; set = s; tokens = h.0; listed = h.1; alike = h.2 }
