-- How an order file is read, line after line.
use Rattle.std.proofs.Common.{◌≡◌, ◌<◌, ◌≤◌, ◌⊎◌, inl, inr, ℕ, List, [], ◌∷◌, ◌++◌, length, arith, sym, ap, ◌∙◌, subst}
use Rattle.std.proofs.Common.{append_assoc, append-nil}
use Rattle.std.specs.List.{AllZip}
use Rattle.pass_ways.specs.declared.way.OrderLine.{OrderLine}
use Rattle.order_text.specs.Inside.{IsFirstLine}
use Rattle.order_text.specs.Lines.{AreLines, IsLine}
use Rattle.order_text.proofs.Pieces.{pieces, pieces_ended, pieces_open, pieces_are_cut, pieces_few, cut_is_pieces}
use Rattle.order_text.proofs.Pieces.{plain}
use Rattle.bp_faults.specs.Characters.{ended_line}

-- the lines so far, and what is left of the bytes
pub record IsRead (bytes : List ℕ) (lines : List OrderLine) (rest : List ℕ) : Type 0 where
  pub cut : List (List ℕ)
  pub cut_is : pieces bytes ≡ cut ++ pieces rest
  pub each : AllZip IsLine cut lines

pub zip_pushed : (cut : List (List ℕ)) (lines : List OrderLine) (line : List ℕ) (l : OrderLine)
    → AllZip IsLine cut lines → IsLine line l → AllZip IsLine (cut ++ line ∷ []) (lines ++ l ∷ [])
zip_pushed [] [] line l h is = (is, tt)
zip_pushed [] (m ∷ lines) line l h is = absurd h
zip_pushed (piece ∷ cut) [] line l h is = absurd h
zip_pushed (piece ∷ cut) (m ∷ lines) line l h is = (h.0, zip_pushed cut lines line l h.1 is)

first_piece : (rest line behind : List ℕ) → 0 < length rest → IsFirstLine rest line behind
    → pieces rest ≡ line ∷ pieces behind
first_piece rest line behind some f = by f.whole
  where
    by : (rest ≡ ended_line line ++ behind) ⊎ ((rest ≡ line) × (behind ≡ [])) → pieces rest ≡ line ∷ pieces behind
    by (inl e) = ap pieces e ∙ pieces_ended line behind (plain line f.apart)
    by (inr e) =
        ap pieces e.0 ∙ pieces_open line (omega (arith, ap length e.0)) (plain line f.apart)
        ∙ ap (λ bs. line ∷ pieces bs) (sym e.1)

pub read_more : (bytes : List ℕ) (lines : List OrderLine) (rest line behind : List ℕ) (l : OrderLine)
    → IsRead bytes lines rest
    → 0 < length rest → IsFirstLine rest line behind → IsLine line l → IsRead bytes (lines ++ l ∷ []) behind
read_more bytes lines rest line behind l r some f is = record {
  cut = r.cut ++ line ∷ [];
  cut_is =
      r.cut_is ∙ ap (λ ls. r.cut ++ ls) (first_piece rest line behind some f)
      ∙ sym (append_assoc r.cut (line ∷ []) (pieces behind));
  each = zip_pushed r.cut lines line l r.each is;
}

pub read_all : (bytes : List ℕ) (lines : List OrderLine) (rest : List ℕ) → IsRead bytes lines rest → length rest ≡ 0
    → AreLines bytes lines
read_all bytes lines [] r none = record {
  cut = pieces bytes;
  cut_is = pieces_are_cut bytes;
  each = subst (λ cut. AllZip IsLine cut lines) (sym (r.cut_is ∙ append-nil r.cut)) r.each;
}
read_all bytes lines (b ∷ rest) r none = absurd (omega arith)

zip_length : (cut : List (List ℕ)) (lines : List OrderLine) → AllZip IsLine cut lines → length cut ≡ length lines
zip_length [] [] h = λ i. 0
zip_length [] (l ∷ lines) h = absurd h
zip_length (piece ∷ cut) [] h = absurd h
zip_length (piece ∷ cut) (l ∷ lines) h = omega (arith, zip_length cut lines h.1)

pub lines_few : (bytes : List ℕ) (lines : List OrderLine) → AreLines bytes lines → length lines ≤ length bytes
lines_few bytes lines a =
    omega (arith, zip_length a.cut lines a.each, ap length (cut_is_pieces bytes a.cut a.cut_is), pieces_few bytes)
