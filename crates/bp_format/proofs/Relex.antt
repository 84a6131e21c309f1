-- The layout has the same tokens again.
use Rattle.std.proofs.Common.{◌≡◌, ℕ, zero, suc, ◌+◌, ◌-◌, ◌<◌, ◌≤◌, true, List, [], ◌∷◌, ◌++◌, length, get_or, take}
use Rattle.std.proofs.Common.{drop, Option, Some, None, sym, refl, ap, ◌∙◌, subst, ⊎_elim, inr, arith, append_assoc}
use Rattle.std.proofs.Common.{length-append, length-drop, length-take-le, get_or-drop, take-append-drop}
use Rattle.std.specs.Prelude.{⊤, ◌==◌, replicate, ◌*◌}
use Rattle.std.proofs.Math.ListN.{get_or-append}
use Rattle.std.proofs.Math.Seq.{take-append_seam, drop-append_seam, drop-cons}
use Rattle.std.proofs.lemmas.List.{drop-drop, length-replicate, get_or-replicate}
use Rattle.std.proofs.lemmas.Bool.{cases_order, false≢true, cases_Bool, eqb-true, and_from, not-false, or_left}
use Rattle.std.proofs.lemmas.List.Folds.{list_all-append}
use Rattle.bp_lexer.specs.declared.token.Token.{Token}
use Rattle.bp_lexer.specs.declared.token.TokenKind.{TokenKind}
use Rattle.bp_lexer.specs.declared.token.TokenKind.TheVariants.{Int, LineComment}
use Rattle.bp_lexer.specs.Apart.{goes_on, StopsAt}
use Rattle.bp_lexer.specs.Classes.{is_white, in_line}
use Rattle.bp_lexer.specs.Faults.{IsInRange}
use Rattle.bp_lexer.specs.Forms.{IsForm, IsLongest}
use Rattle.bp_lexer.specs.Meaning.{IsBlank, IsToken, Covers, IsTokenList}
use Rattle.bp_lexer.specs.Places.{place_at}
use Rattle.bp_format.specs.declared.gap.Gap.{Gap}
use Rattle.bp_format.specs.declared.gap.Gap.TheVariants.{Nothing, Space, EmptyLine, Line}
use Rattle.bp_format.specs.declared.gap.Seam.{Seam}
use Rattle.bp_format.specs.Kinds.{is_line_comment}
use Rattle.bp_format.specs.Gaps.{gap, gap_text}
use Rattle.bp_format.specs.Layout.{Piece, gap_behind, laid, nest_behind, first_kind, nest_depth, in_call}
use Rattle.bp_format.specs.Ends.{piece, pieces}
use Rattle.bp_format.specs.Pieces.{has_line_end}
use Rattle.bp_format.proofs.Lexing.{Lexing}
use Rattle.bp_format.proofs.GapLaws.{Parts, parts, line_end_stops}

-- a piece that is a token
pub record IsSound (a : Piece) : Type 0 where
  pub form : IsForm a.kind a.text
  pub number : a.kind ≡ Int → IsInRange a.text

-- behind a line's comment stands nothing, or an LF lay there
abbrev pub BreaksLine : Piece → List Piece → Type 0
BreaksLine a [] = ⊤
BreaksLine a (b ∷ more) = is_line_comment a.kind ≡ true → a.broken ≡ true

abbrev pub AreSound : List Piece → Type 0
AreSound [] = ⊤
AreSound (a ∷ more) = IsSound a × BreaksLine a more × AreSound more

-- white bytes
abbrev pub White : List ℕ → Type 0
White g = (i : ℕ) → i < length g → is_white (get_or g i 0) ≡ true

white_run : (n b i : ℕ) → is_white b ≡ true → i < length (replicate n b) → is_white (get_or (replicate n b) i 0) ≡ true
white_run n b i white within = rw (get_or-replicate n i b 0 (omega (arith, length-replicate n b))) white

white_gap : (g : Gap) → White (gap_text g)
white_gap Nothing i within = absurd (omega arith)
white_gap Space zero within = refl
white_gap Space (suc i) within = absurd (omega arith)
white_gap EmptyLine zero within = refl
white_gap EmptyLine (suc zero) within = refl
white_gap EmptyLine (suc (suc i)) within = absurd (omega arith)
white_gap (Line d) zero within = refl
white_gap (Line d) (suc i) within = white_run (4 * d) 32 i refl (omega arith)

pub blank_gap : (text : List ℕ) (j : ℕ) (g rest : List ℕ) → drop j text ≡ g ++ rest → White g
    → IsBlank text j (j + length g)
blank_gap text j g rest is white = (
  omega arith,
  λ k low high.
      let i = k - j in
      let same : j + i ≡ k = omega arith in
      let inside : i < length g = omega arith in
      ap is_white (ap (λ n. get_or text n 0) (sym same) ∙ sym (get_or-drop j text i 0) ∙ ap (λ l. get_or l i 0) is
      ∙ get_or-append g rest 0 i inside)
      ∙ white i inside,
)

apart : (k : TokenKind) (word tail : List ℕ) (g : Gap) → Parts k (get_or word 0 0) g → 0 < length word
    → StopsAt (goes_on k) (gap_text g ++ (word ++ tail))
apart k word tail Nothing stops some = inr (ap (goes_on k) (get_or-append word tail 0 0 some) ∙ stops)
apart k word tail Space stops some = inr stops
apart k word tail EmptyLine stops some = inr (line_end_stops k)
apart k word tail (Line d) stops some = inr (line_end_stops k)

-- what stands behind a piece doesn't go on with it
stops_behind : Lexing → (nest : List TokenKind) (before : Option TokenKind) (a : Piece) (more : List Piece)
    → BreaksLine a more → AreSound more
    → StopsAt (goes_on a.kind) (gap_text (gap_behind nest before a more) ++ laid nest (Some a.kind) more)
stops_behind lex nest before a [] line sound = inr (line_end_stops a.kind)
stops_behind lex nest before a (b ∷ more) line sound =
    let s : Seam = record {
      before = before;
      left = a.kind;
      broken = a.broken;
      ends = a.ends;
      right = b.kind;
      after = first_kind more;
      depth = nest_depth nest;
      in_call = in_call nest;
    } in
    apart a.kind b.text (gap_text (gap_behind (nest_behind nest b.kind) (Some a.kind) b more) ++ laid (nest_behind nest
    b.kind) (Some b.kind) more) (gap s) (parts s b.text line sound.0.form) (lex.bytes b.kind b.text sound.0.form).0

-- the tokens of the layout, from a place on
abbrev pub retold : ℕ → List ℕ → ℕ → List TokenKind → Option TokenKind → List Piece → List Token
retold file out at nest before [] = []
retold file out at nest before (a ∷ more) =
    record { kind = a.kind; start = at; end = at + length a.text; place = place_at file out at }
    ∷ retold file out (at + length a.text + length (gap_text (gap_behind (nest_behind nest a.kind) before a more)))
    (nest_behind nest a.kind) (Some a.kind) more

-- the token that a piece is again, with what stands behind it
retold_token : Lexing → (file : ℕ) (out : List ℕ) (at : ℕ) (a : Piece) (tail : List ℕ) → IsSound a
    → StopsAt (goes_on a.kind) tail → at ≤ length out → drop at out ≡ a.text ++ tail
    → IsToken file out (record { kind = a.kind; start = at; end = at + length a.text; place = place_at file out at })
retold_token lex file out at a tail sound stops inside is =
    let span : at + length a.text - at ≡ length a.text = omega arith in
    record {
      inside = inside;
      longest = rw (span, is) (lex.apart a.kind a.text tail sound.form stops);
      number = λ int. rw (span, is) (subst IsInRange (sym (take-append_seam a.text tail)) (sound.number int));
      place = refl;
    }

pub covers_laid : Lexing → (file : ℕ) (out : List ℕ) (j : ℕ) (g : List ℕ) (nest : List TokenKind)
    (before : Option TokenKind) (ps : List Piece) → White g → AreSound ps → j ≤ length out
    → drop j out ≡ g ++ laid nest before ps
    → Covers file out j (length out) (retold file out (j + length g) nest before ps)
covers_laid lex file out j g nest before [] white sound inside is =
    let len : length out ≡ j + length g = omega (arith, length-drop j out, ap length is, length-append g []) in
    rw len (blank_gap out j g [] is white)
covers_laid lex file out j g nest before (a ∷ more) white sound inside is =
    let now = nest_behind nest a.kind in
    let next = gap_text (gap_behind now before a more) in
    let behind = laid now (Some a.kind) more in
    let at = j + length g in
    let here : drop at out ≡ a.text ++ (next ++ behind) =
    sym (drop-drop (length g) j out) ∙ ap (drop (length g)) is ∙ drop-append_seam g _ in
    let len : length out ≡ at + (length a.text + (length next + length behind)) = omega (
      arith,
      length-drop j out,
      ap length is,
      length-append g (a.text ++ (next ++ behind)),
      length-append a.text (next ++ behind),
      length-append next behind,
    ) in
    let later : drop (at + length a.text) out ≡ next ++ behind =
    sym (drop-drop (length a.text) at out) ∙ ap (drop (length a.text)) here ∙ drop-append_seam a.text _ in (
      blank_gap out j g (a.text ++ (next ++ behind)) is white,
      retold_token lex file out at a (next ++ behind) sound.0 (stops_behind lex now before a more sound.1 sound.2)
          (omega arith) here,
      covers_laid lex file out (at + length a.text) next now (Some a.kind) more
          (white_gap (gap_behind now before a more)) sound.2 (omega arith) later,
    )

pub layout_listed : Lexing → (file : ℕ) (ps : List Piece) → AreSound ps
    → IsTokenList file (laid [] None ps) (retold file (laid [] None ps) 0 [] None ps)
layout_listed lex file ps sound =
    covers_laid lex file (laid [] None ps) 0 [] [] None ps (λ i within. absurd (omega arith)) sound (omega arith) refl

-- a line's comment that goes on
line_goes_on : (w : List ℕ) (b : ℕ) → IsForm LineComment w → in_line b ≡ true → IsForm LineComment (w ++ b ∷ [])
line_goes_on w b form line = (
  form.0 ++ b ∷ [],
  ap (λ l. l ++ b ∷ []) form.1,
  list_all-append in_line form.0 (b ∷ []) ∙ and_from _ _ form.2 (and_from _ _ line refl),
)

-- where a line's comment ends and the text goes on, an LF stands
line_ends : (text : List ℕ) (n b : ℕ) (more : List ℕ) → IsLongest text LineComment n → drop n text ≡ b ∷ more → b ≡ 10
line_ends text n b more longest is =
    let w = take n text in
    let split : text ≡ (w ++ b ∷ []) ++ more =
    sym (take-append-drop n text) ∙ ap (λ l. w ++ l) is ∙ sym (append_assoc w (b ∷ []) more) in
    ⊎_elim
    (λ line. absurd (omega (
      arith,
      longest.longest LineComment (w ++ b ∷ []) more split (line_goes_on w b longest.form line),
      length-append w (b ∷ []),
      length-take-le n text longest.within,
    )))
    (λ e. eqb-true b 10 (not-false (b == 10) e))
    (cases_Bool (in_line b))

lf_first : (b m : ℕ) (more : List ℕ) → b ≡ 10 → 0 < m → has_line_end (take m (b ∷ more)) ≡ true
lf_first b zero more is some = absurd (omega arith)
lf_first b (suc m) more is some = or_left (b == 10) (has_line_end (take m more)) (rw is refl)

-- An LF lies between a line's comment and the next token.
lf_behind : Lexing → (file : ℕ) (text : List ℕ) (t u : Token) → IsToken file text t → IsToken file text u
    → IsBlank text t.end u.start → t.kind ≡ LineComment → has_line_end (take (u.start - t.end) (drop t.end text)) ≡ true
lf_behind lex file text t u token_t token_u blank line =
    let first_t = lex.within file text t token_t in
    let first_u = lex.within file text u token_u in
    let n = t.end - t.start in
    let at : t.start + n ≡ t.end = omega (arith, first_t.nonempty) in
    let b = get_or text t.end 0 in
    let more = drop (suc t.end) text in
    let rest : drop t.end text ≡ b ∷ more =
    drop-cons text t.end 0 (omega (arith, blank.0, first_u.nonempty, first_u.within)) in
    let lf : b ≡ 10 = line_ends (drop t.start text) n b more (subst (λ k. IsLongest (drop t.start text) k n) line
    token_t.longest) (drop-drop n t.start text ∙ ap (λ i. drop i text) at ∙ rest) in
    let apart : t.end < u.start = ⊎_elim
    (λ same. absurd (false≢true (sym first_u.not_white ∙ ap is_white (ap (λ i. get_or text i 0) (sym same) ∙ lf))))
    (λ other. ⊎_elim (λ below. below) (λ above. absurd (omega (arith, blank.0))) other)
    (cases_order t.end u.start) in
    ap (λ l. has_line_end (take (u.start - t.end) l)) rest ∙ lf_first b (u.start - t.end) more lf (omega (arith, apart))

is_line : (k : TokenKind) → is_line_comment k ≡ true → k ≡ LineComment
is_line LineComment is = refl
is_line _ is = absurd cc

breaks_line : Lexing → (file : ℕ) (text : List ℕ) (j : ℕ) (nest : List TokenKind) (t : Token) (ts : List Token)
    → IsToken file text t → Covers file text t.end j ts → BreaksLine (piece nest text t ts) (pieces nest text ts)
breaks_line lex file text j nest t [] token covers = tt
breaks_line lex file text j nest t (u ∷ us) token covers =
    λ line. lf_behind lex file text t u token covers.1 covers.0 (is_line t.kind line)

pub sound_pieces : Lexing → (file : ℕ) (text : List ℕ) (i j : ℕ) (nest : List TokenKind) (ts : List Token)
    → Covers file text i j ts → AreSound (pieces nest text ts)
sound_pieces lex file text i j nest [] covers = tt
sound_pieces lex file text i j nest (t ∷ ts) covers =
    let now = nest_behind nest t.kind in (
      record { form = covers.1.longest.form; number = covers.1.number },
      breaks_line lex file text j now t ts covers.1 covers.2,
      sound_pieces lex file text t.end j now ts covers.2,
    )
