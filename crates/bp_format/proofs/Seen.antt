-- What the code sees of a piece and of those behind it.
use Rattle.std.proofs.Common.{◌≡◌, ℕ, suc, ◌-◌, ◌+◌, ◌<◌, ◌∙◌, List, [], ◌∷◌, length, get_or, take, drop, refl, sym, ap}
use Rattle.std.proofs.Common.{Option, None, arith}
use Rattle.bp_faults.specs.declared.place.Place.{Place}
use Rattle.bp_format.specs.Spans.{from_place, closing, list_span, up_to}
use Rattle.std.proofs.Math.Seq.{drop-cons}
use Rattle.bp_lexer.specs.declared.token.Token.{Token}
use Rattle.bp_lexer.specs.declared.token.TokenKind.{TokenKind}
use Rattle.bp_lexer.specs.declared.token.TokenKind.TheVariants.{Ident}
use Rattle.bp_format.specs.declared.gap.Seam.{Seam}
use Rattle.bp_format.specs.Gaps.{gap}
use Rattle.bp_format.specs.Layout.{gap_behind, nest_depth, in_call, first_kind, nest_behind}
use Rattle.bp_format.specs.Ends.{piece, pieces, kind_at, is_end}
use Rattle.bp_format.specs.Pieces.{has_line_end}

pub kinds_kept : (nest : List TokenKind) (text : List ℕ) (ts : List Token)
    → first_kind (pieces nest text ts) ≡ kind_at ts
kinds_kept nest text [] = refl
kinds_kept nest text (t ∷ ts) = refl

-- the seam between a token and the next one
abbrev pub seam : List TokenKind → Option TokenKind → List ℕ → Token → Token → List Token → Seam
seam nest before text t u more = record {
  before = before;
  left = t.kind;
  broken = has_line_end (take (u.start - t.end) (drop t.end text));
  ends = is_end nest t.kind (u ∷ more);
  right = u.kind;
  after = kind_at more;
  depth = nest_depth nest;
  in_call = in_call nest;
}

gap_seen : (nest : List TokenKind) (before : Option TokenKind) (text : List ℕ) (t u : Token) (more : List Token)
    → gap_behind nest before (piece nest text t (u ∷ more)) (pieces nest text (u ∷ more))
    ≡ gap (seam nest before text t u more)
gap_seen nest before text t u more =
    ap (λ a. gap (record (seam nest before text t u more) { after = a }))
    (kinds_kept (nest_behind nest u.kind) text more)

-- no bracket closes, no span
pub no_span : (place : Place) (ts : List Token) (at : ℕ) → drop at ts ≡ from_place place ts → at < length ts
    → closing 0 (drop (at + 1) ts) ≡ None → None ≡ list_span (from_place place ts)
no_span place ts at here within none =
    let d : Token = record { kind = Ident; start = 0; end = 0; place = place } in
    let next : suc at ≡ at + 1 = omega arith in
    let step : drop at ts ≡ get_or ts at d ∷ drop (at + 1) ts =
    drop-cons ts at d within ∙ ap (λ k. get_or ts at d ∷ drop k ts) next in
    ap (up_to (get_or ts at d)) (sym none) ∙ ap list_span (sym step ∙ here)
