-- The span of an edit is that of the value's tokens.
use Rattle.std.proofs.Common.{◌≡◌, ℕ, List, [], ◌∷◌, ◌++◌, length, drop, Some, sym, refl, ap, ◌∙◌, subst, append_assoc}
use Rattle.std.proofs.Math.Seq.{drop-append_seam}
use Rattle.bp_faults.specs.declared.place.Place.{Place}
use Rattle.bp_lexer.specs.Laws.{PlacesRise, TokensStandWithin}
use Rattle.bp_lexer.specs.declared.token.Token.{Token}
use Rattle.bp_parser.specs.Grammar.{Spells}
use Rattle.bp_parser.specs.Trees.{Tree, Leaf, Items, Body, Sum, Truth, Number, Str, Name, Trees}
use Rattle.bp_parser.specs.Words.{Word, words_of}
use Rattle.bp_format.specs.declared.spot.Spot.TheVariants.{Instead, Behind}
use Rattle.bp_format.specs.Editing.{Wanted, IsFile, IsEdited}
use Rattle.bp_format.specs.Laws.{IsWritten}
use Rattle.bp_format.specs.Spans.{span}
use Rattle.bp_format.proofs.Cuts.{words_append}
use Rattle.bp_format.proofs.HasSpan.{list_cut, word_cut}
use Rattle.bp_format.proofs.Located.{IsTreeAt, IsSpelledIn, spot_spelled}
use Rattle.bp_format.proofs.SpanFacts.{pair_one}

-- the words behind a front
words_behind : (text : List ℕ) (front behind : List Token) (before here : List Word) → words_of text front ≡ before
    → words_of text (front ++ behind) ≡ before ++ here → words_of text behind ≡ here
words_behind text front behind before here same is =
    sym (drop-append_seam (words_of text front) (words_of text behind))
    ∙ ap (drop (length (words_of text front)))
    (sym (words_append text front behind) ∙ is ∙ ap (λ l. l ++ here) (sym same))
    ∙ drop-append_seam (words_of text front) here

pub list_written : TokensStandWithin → PlacesRise
    → (file : ℕ) (text : List ℕ) (read : IsFile file text) (at : Place) (x : Tree) (from to : ℕ)
    → IsTreeAt (Instead at) x → IsSpelledIn (words_of text read.tokens) x
    → span (Instead at) read.tokens ≡ Some (from, to) → (xs : Trees) × IsWritten text read.tokens (Items at xs) from to
list_written law rise file text read at (Items p xs) from to same s spanned =
    let ts = read.tokens in
    let c = list_cut law rise file text ts p xs s.before s.here s.rest read.listed s.split s.spelled in
    let bounds : ℕ × ℕ = (c.first.start, c.last.end) in
    let is : bounds ≡ (from, to) =
    pair_one bounds (from, to) (sym (ap (λ q. span (Instead q) ts) same ∙ c.spanned) ∙ spanned) in
    let own = c.first ∷ (c.inside ++ c.last ∷ []) in
    let whole : c.first ∷ (c.inside ++ c.last ∷ c.behind) ≡ own ++ c.behind =
    ap (λ l. c.first ∷ l) (sym (append_assoc c.inside (c.last ∷ []) c.behind)) in
    let split : ts ≡ c.front ++ (own ++ c.behind) = c.split ∙ ap (λ l. c.front ++ l) whole in
    let here : words_of text (own ++ c.behind) ≡ s.here = words_behind text c.front
    (own ++ c.behind) s.before s.here c.front_words (ap (words_of text) (sym split) ∙ s.split) in
    let spelled : Spells (Items p xs) (words_of text (own ++ c.behind)) (words_of text c.behind) =
    subst (λ l. Spells (Items p xs) l (words_of text c.behind)) (sym here)
    (subst (Spells (Items p xs) s.here) (sym c.behind_words) s.spelled) in (
      xs,
      record {
        before = c.front;
        own = own;
        behind = c.behind;
        split = split;
        spelled =
            subst (λ q. Spells (Items q xs) (words_of text (own ++ c.behind)) (words_of text c.behind))
            (sym same) spelled;
        first = c.first;
        more = c.inside ++ c.last ∷ [];
        begins = refl;
        less = c.first ∷ c.inside;
        last = c.last;
        ends = refl;
        from_first = ap (λ (b : ℕ × ℕ). b.0) (sym is);
        to_last = ap (λ (b : ℕ × ℕ). b.1) (sym is);
      },
    )
list_written law rise file text read at (Leaf p a) from to same s spanned = absurd same
list_written law rise file text read at (Body p es) from to same s spanned = absurd same
list_written law rise file text read at (Sum x terms) from to same s spanned = absurd same

pub name_written : TokensStandWithin → PlacesRise
    → (file : ℕ) (text : List ℕ) (read : IsFile file text) (at : Place) (x : Tree) (from to : ℕ)
    → IsTreeAt (Behind at) x → IsSpelledIn (words_of text read.tokens) x
    → span (Behind at) read.tokens ≡ Some (from, to)
    → (from ≡ to) × (name : List ℕ) × (start : ℕ) × IsWritten text read.tokens (Leaf at (Str name)) start to
name_written law rise file text read at (Leaf p (Str t)) from to same s spanned =
    let ts = read.tokens in
    let w : Word = record { kind = s.spelled.0; at = p; text = s.spelled.1 } in
    let c = word_cut law rise file text ts w s.before s.here s.rest read.listed s.split s.spelled.2 in
    let bounds : ℕ × ℕ = (c.token.end, c.token.end) in
    let is : bounds ≡ (from, to) =
    pair_one bounds (from, to) (sym (ap (λ q. span (Behind q) ts) same ∙ c.spanned) ∙ spanned) in
    let here : words_of text (c.token ∷ c.behind) ≡ s.here = words_behind text c.front
    (c.token ∷ c.behind) s.before s.here c.front_words (ap (words_of text) (sym c.split) ∙ s.split) in
    let spelled : Spells (Leaf p (Str t)) (words_of text (c.token ∷ c.behind)) (words_of text c.behind) =
    subst (λ l. Spells (Leaf p (Str t)) l (words_of text c.behind)) (sym here)
    (subst (Spells (Leaf p (Str t)) s.here) (sym c.behind_words) s.spelled) in (
      ap (λ (b : ℕ × ℕ). b.0) (sym is) ∙ ap (λ (b : ℕ × ℕ). b.1) is,
      t,
      c.token.start,
      record {
        before = c.front;
        own = c.token ∷ [];
        behind = c.behind;
        split = c.split;
        spelled =
            subst (λ q. Spells (Leaf q (Str t)) (words_of text (c.token ∷ c.behind)) (words_of text c.behind))
            (sym same) spelled;
        first = c.token;
        more = [];
        begins = refl;
        less = [];
        last = c.token;
        ends = refl;
        from_first = refl;
        to_last = ap (λ (b : ℕ × ℕ). b.1) (sym is);
      },
    )
name_written law rise file text read at (Leaf p (Truth b)) from to same s spanned = absurd same
name_written law rise file text read at (Leaf p (Number n)) from to same s spanned = absurd same
name_written law rise file text read at (Leaf p (Name n)) from to same s spanned = absurd same
name_written law rise file text read at (Items p xs) from to same s spanned = absurd same
name_written law rise file text read at (Body p es) from to same s spanned = absurd same
name_written law rise file text read at (Sum x terms) from to same s spanned = absurd same

pub lists_give_way : TokensStandWithin → PlacesRise
    → (file : ℕ) (text out : List ℕ) (w : Wanted) (e : IsEdited file text w out) (at : Place) → e.place ≡ Instead at
    → (xs : Trees) × IsWritten text e.read.tokens (Items at xs) e.from e.to
lists_give_way law rise file text out w e at is =
    let r = spot_spelled file w.name w.property e.read.tree.defs
    (words_of text e.read.tokens) e.place e.read.parsed.spelled e.found in
    list_written law rise file text e.read at r.0 e.from e.to (subst (λ s. IsTreeAt s r.0) is r.1) r.2
    (ap (λ s. span s e.read.tokens) (sym is) ∙ e.spanned)

pub entries_behind : TokensStandWithin → PlacesRise
    → (file : ℕ) (text out : List ℕ) (w : Wanted) (e : IsEdited file text w out) (at : Place) → e.place ≡ Behind at
    → (e.from ≡ e.to) × (name : List ℕ) × (start : ℕ) × IsWritten text e.read.tokens (Leaf at (Str name)) start e.to
entries_behind law rise file text out w e at is =
    let r = spot_spelled file w.name w.property e.read.tree.defs
    (words_of text e.read.tokens) e.place e.read.parsed.spelled e.found in
    name_written law rise file text e.read at r.0 e.from e.to (subst (λ s. IsTreeAt s r.0) is r.1) r.2
    (ap (λ s. span s e.read.tokens) (sym is) ∙ e.spanned)
