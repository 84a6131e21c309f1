-- The layout of a layout is the same.
use Rattle.std.proofs.Common.{◌≡◌, ℕ, ◌+◌, ◌-◌, Bool, false, List, [], ◌∷◌, ◌++◌, length, take, drop, map, Option, Some}
use Rattle.std.proofs.Common.{sym, refl, ap, ◌∙◌, arith}
use Rattle.std.proofs.Math.Seq.{take-append_seam, drop-append_seam}
use Rattle.std.proofs.lemmas.List.{drop-drop}
use Rattle.std.specs.Prelude.{◌&&◌, ◌||◌, not, if◌then◌else◌}
use Rattle.bp_lexer.specs.declared.token.Token.{Token}
use Rattle.bp_lexer.specs.declared.token.TokenKind.{TokenKind}
use Rattle.bp_lexer.specs.Meaning.{word_of}
use Rattle.bp_lexer.specs.Places.{place_at}
use Rattle.bp_parser.specs.Words.{is_comment}
use Rattle.bp_format.specs.declared.gap.Seam.{Seam}
use Rattle.bp_format.specs.Kinds.{wants_value}
use Rattle.bp_format.specs.Gaps.{gap, gap_text}
use Rattle.bp_format.specs.Layout.{Piece, gap_behind, laid, nest_behind, first_kind, nest_depth, in_call}
use Rattle.bp_format.specs.Ends.{piece, pieces, is_end, is_none_open, next_word, begins_definition}
use Rattle.bp_format.specs.Pieces.{text_between, has_line_end}
use Rattle.bp_format.proofs.GapLaws.{gap_again}
use Rattle.bp_format.proofs.Relex.{retold}

abbrev pub kinds : List Token → List TokenKind
kinds ts = map (λ (t : Token). t.kind) ts

-- what a piece has of a text's line ends is what its gap has
abbrev gap_breaks : List TokenKind → Option TokenKind → Piece → List Piece → Bool
gap_breaks nest before a [] = false
gap_breaks nest before a (b ∷ more) = has_line_end (gap_text (gap_behind nest before a (b ∷ more)))

abbrev pub again : List TokenKind → Option TokenKind → List Piece → List Piece
again nest before [] = []
again nest before (a ∷ more) =
    record a { broken = gap_breaks (nest_behind nest a.kind) before a more }
    ∷ again (nest_behind nest a.kind) (Some a.kind) more

first_again : (nest : List TokenKind) (before : Option TokenKind) (ps : List Piece)
    → first_kind (again nest before ps) ≡ first_kind ps
first_again nest before [] = refl
first_again nest before (a ∷ more) = refl

-- the gap behind a piece is the same again
behind_again : (nest : List TokenKind) (before : Option TokenKind) (a : Piece) (more : List Piece)
    → gap_behind nest before (record a { broken = gap_breaks nest before a more }) (again nest (Some a.kind) more)
    ≡ gap_behind nest before a more
behind_again nest before a [] = refl
behind_again nest before a (b ∷ more) =
    let s : Seam = record {
      before = before;
      left = a.kind;
      broken = a.broken;
      ends = a.ends;
      right = b.kind;
      after = first_kind more;
      depth = nest_depth nest;
      in_call = in_call nest;
    } in
    ap (λ k. gap (record s { broken = has_line_end (gap_text (gap s)); after = k }))
    (first_again (nest_behind nest b.kind) (Some b.kind) more)
    ∙ gap_again s

pub laid_again : (nest : List TokenKind) (before : Option TokenKind) (ps : List Piece)
    → laid nest before (again nest before ps) ≡ laid nest before ps
laid_again nest before [] = refl
laid_again nest before (a ∷ more) =
    let now = nest_behind nest a.kind in
    (λ i. a.text ++ (gap_text (behind_again now before a more i) ++ laid_again now (Some a.kind) more i))

-- the kinds of the layout's tokens are those of the pieces
pub kinds_again : (file : ℕ) (out : List ℕ) (at : ℕ) (nest : List TokenKind) (before : Option TokenKind) (text : List ℕ)
    (ts : List Token) → kinds (retold file out at nest before (pieces nest text ts)) ≡ kinds ts
kinds_again file out at nest before text [] = refl
kinds_again file out at nest before text (t ∷ ts) =
    let now = nest_behind nest t.kind in
    (λ i. t.kind ∷ kinds_again file out (at + length (word_of text t)
    + length (gap_text (gap_behind now before (piece now text t ts) (pieces now text ts)))) now (Some t.kind) text ts i)

next_by_kinds : (ts us : List Token) → kinds ts ≡ kinds us → next_word ts ≡ next_word us
next_by_kinds [] [] same = refl
next_by_kinds [] (u ∷ us) same = absurd cc
next_by_kinds (t ∷ ts) [] same = absurd cc
next_by_kinds (t ∷ ts) (u ∷ us) same =
    let head : t.kind ≡ u.kind = cc in
    let rest : kinds ts ≡ kinds us = cc in
    (λ i. if is_comment (head i) then next_by_kinds ts us rest i else Some (head i))

end_by_kinds : (nest : List TokenKind) (k : TokenKind) (ts us : List Token) → kinds ts ≡ kinds us
    → is_end nest k ts ≡ is_end nest k us
end_by_kinds nest k ts us same =
    ap (λ w. is_none_open nest && not (is_comment k || wants_value k) && begins_definition w) (next_by_kinds ts us same)

-- what lies behind a token of the layout is the gap
lines_again : (file : ℕ) (out : List ℕ) (nest : List TokenKind) (before : Option TokenKind) (a : Piece)
    (ps : List Piece) (t : Token) (tail : List ℕ) → drop t.end out ≡ gap_text (gap_behind nest before a ps) ++ tail
    → has_line_end (text_between out t (retold file out (t.end + length (gap_text (gap_behind nest before a ps))) nest
    (Some a.kind) ps)) ≡ gap_breaks nest before a ps
lines_again file out nest before a [] t tail is = refl
lines_again file out nest before a (b ∷ more) t tail is =
    let next = gap_text (gap_behind nest before a (b ∷ more)) in
    let span : t.end + length next - t.end ≡ length next = omega arith in
    ap has_line_end ((λ i. take (span i) (is i)) ∙ take-append_seam next tail)

-- the pieces of the layout's tokens are those of the text, but for line ends
pub pieces_again : (file : ℕ) (out : List ℕ) (at : ℕ) (nest : List TokenKind) (before : Option TokenKind)
    (text : List ℕ) (ts : List Token) → drop at out ≡ laid nest before (pieces nest text ts)
    → pieces nest out (retold file out at nest before (pieces nest text ts)) ≡ again nest before (pieces nest text ts)
pieces_again file out at nest before text [] is = refl
pieces_again file out at nest before text (t ∷ ts) is =
    let now = nest_behind nest t.kind in
    let ps = pieces now text ts in
    let a = piece now text t ts in
    let next = gap_text (gap_behind now before a ps) in
    let behind = laid now (Some t.kind) ps in
    let word = word_of text t in
    let end = at + length word in
    let us = retold file out (end + length next) now (Some t.kind) ps in
    let later : drop end out ≡ next ++ behind =
    sym (drop-drop (length word) at out) ∙ ap (drop (length word)) is ∙ drop-append_seam word (next ++ behind) in
    let rest : drop (end + length next) out ≡ behind =
    sym (drop-drop (length next) end out) ∙ ap (drop (length next)) later ∙ drop-append_seam next behind in
    let span : end - at ≡ length word = omega arith in
    let text_same : take (end - at) (drop at out) ≡ word = rw (span, is) (take-append_seam word (next ++ behind)) in
    let ends_same : is_end now t.kind us ≡ is_end now t.kind ts =
    end_by_kinds now t.kind us ts (kinds_again file out (end + length next) now (Some t.kind) text ts) in
    let lines_same = lines_again file out now before a ps
    (record { kind = t.kind; start = at; end = end; place = place_at file out at }) behind later in
    (λ i. record { kind = t.kind; text = text_same i; broken = lines_same i; ends = ends_same i }
    ∷ pieces_again file out (end + length next) now (Some t.kind) text ts rest i)
