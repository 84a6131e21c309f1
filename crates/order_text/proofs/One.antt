-- Bytes are one list of lines alone.
use Rattle.std.proofs.Common.{◌≡◌, inl, inr, ℕ, List, [], ◌∷◌, Option, Some, None, sym, ap, ◌∙◌, subst}
use Rattle.std.specs.List.{AllZip}
use Rattle.bp_faults.specs.declared.ids.NodeId.{NodeId}
use Rattle.pass_ways.specs.declared.way.OrderLine.{OrderLine}
use Rattle.order_text.specs.Laws.{OneLines}
use Rattle.order_text.specs.Lines.{IsEntry, IsLine}
use Rattle.order_text.proofs.Entries.{visit_text_injective}
use Rattle.order_text.proofs.Pieces.{cut_is_pieces}

pub one_entry : (line : List ℕ) (d e : Option (ℕ × NodeId)) → IsEntry line d → IsEntry line e → d ≡ e
one_entry line (Some v) (Some w) h k = ap Some (visit_text_injective v w h.0 k.0 (sym h.1 ∙ k.1))
one_entry line (Some v) None h k = absurd (k v h.0 h.1)
one_entry line None (Some w) h k = absurd (h w k.0 k.1)
one_entry line None None h k = λ i. None

same_line : (l m : OrderLine) → l.entry ≡ m.entry → l.text ≡ m.text → l ≡ m
same_line l m p q = λ i. record { entry = p i; text = q i }

one_line : (line : List ℕ) (l m : OrderLine) → IsLine line l → IsLine line m → l ≡ m
one_line line l m (inl a) (inl b) = same_line l m (one_entry line l.entry m.entry a.2 b.2) (a.1 ∙ sym b.1)
one_line line l m (inl a) (inr b) = absurd (b.0 a.0)
one_line line l m (inr a) (inl b) = absurd (a.0 b.0)
one_line line l m (inr a) (inr b) = same_line l m (a.2 ∙ sym b.2) (a.1 ∙ sym b.1)

each_one : (cut : List (List ℕ)) (lines other : List OrderLine) → AllZip IsLine cut lines → AllZip IsLine cut other
    → lines ≡ other
each_one [] [] [] h k = λ i. []
each_one [] [] (m ∷ other) h k = absurd k
each_one [] (l ∷ lines) other h k = absurd h
each_one (piece ∷ cut) [] other h k = absurd h
each_one (piece ∷ cut) (l ∷ lines) [] h k = absurd k
each_one (piece ∷ cut) (l ∷ lines) (m ∷ other) h k =
    let head = one_line piece l m h.0 k.0 in
    let rest = each_one cut lines other h.1 k.1 in
    λ i. head i ∷ rest i

pub one_lines : OneLines
one_lines bytes lines other a b =
    each_one a.cut lines other a.each
    (subst (λ cut. AllZip IsLine cut other)
    (cut_is_pieces bytes b.cut b.cut_is ∙ sym (cut_is_pieces bytes a.cut a.cut_is)) b.each)
