-- A journal's text is read back.
use Rattle.std.proofs.Common.{◌≡◌, ◌≢◌, ◌<◌, ◌≤◌, inl, inr, ℕ, List, [], ◌∷◌, ◌++◌, length, map, arith, lit<, ap, ◌∙◌}
use Rattle.std.proofs.Common.{subst, Some, IsUtf8}
use Rattle.std.specs.Fmt.{decimal}
use Rattle.std.specs.List.{AllByRecursion, AllZip}
use Rattle.std.proofs.lemmas.Fmt.{IsAscii-decimal}
use Rattle.std.proofs.lemmas.List.Elements.{recursion_from_All}
use Rattle.std.proofs.lemmas.Str.{IsUtf8-from_ascii, IsAscii-append}
use Rattle.std.proofs.lemmas.Str.Ascii.{IsAscii-cons}
use Rattle.bp_faults.specs.declared.ids.NodeId.{NodeId}
use Rattle.bp_faults.proofs.Lists.{all_map}
use Rattle.pass_ways.specs.declared.way.OrderLine.{OrderLine}
use Rattle.pass_ways.specs.OrderFiles.{Say}
use Rattle.order_text.specs.Laws.{JournalsAreReadBack}
use Rattle.order_text.specs.Lines.{IsLine, IsVisit}
use Rattle.order_text.specs.Texts.{journal_text, visit_text}
use Rattle.order_text.proofs.Digits.{decimal_by_digits}
use Rattle.order_text.proofs.One.{one_entry}
use Rattle.order_text.proofs.Pieces.{Plain, pieces, pieces_ended, cut_is_pieces}

all_joined : (xs ys : List ℕ) → Plain xs → Plain ys → Plain (xs ++ ys)
all_joined [] ys h k = k
all_joined (x ∷ xs) ys h k = (h.0, all_joined xs ys h.1 k)

decimal_is_plain : (n : ℕ) → n < 4294967296 → Plain (decimal n)
decimal_is_plain n lt =
    all_map (λ b. 48 ≤ b) (λ b. b ≢ 10) (λ b h e. absurd (omega arith)) (decimal n) (decimal_by_digits n lt)

visit_text_is_plain : (v : ℕ × NodeId) → IsVisit v → Plain (visit_text v)
visit_text_is_plain v f =
    all_joined (decimal v.0) (32 ∷ decimal v.1.0) (decimal_is_plain v.0 f.0)
    ((λ e. absurd (omega arith)), decimal_is_plain v.1.0 f.1)

visit_text_is_utf8 : (v : ℕ × NodeId) → IsVisit v → IsUtf8 (visit_text v)
visit_text_is_utf8 v f =
    IsUtf8-from_ascii (visit_text v)
    (IsAscii-append (decimal v.0) (32 ∷ decimal v.1.0) (IsAscii-decimal v.0 (omega (arith, f.0)))
    (IsAscii-cons 32 (decimal v.1.0) (lit< tt) (IsAscii-decimal v.1.0 (omega (arith, f.1)))))

journal_pieces : (journal : List (ℕ × NodeId)) → AllByRecursion IsVisit journal
    → pieces (journal_text journal) ≡ map visit_text journal
journal_pieces [] h = λ i. []
journal_pieces (v ∷ journal) h =
    pieces_ended (visit_text v) (journal_text journal) (visit_text_is_plain v h.0)
    ∙ ap (λ (ls : List (List ℕ)). visit_text v ∷ ls) (journal_pieces journal h.1)

line_says : (v : ℕ × NodeId) (l : OrderLine) → IsVisit v → IsLine (visit_text v) l → l.entry ≡ Some v
line_says v l f (inl a) = one_entry (visit_text v) l.entry (Some v) a.2 (f, (λ i. visit_text v))
line_says v l f (inr a) = absurd (a.0 (visit_text_is_utf8 v f))

said : (journal : List (ℕ × NodeId)) (lines : List OrderLine) → AllByRecursion IsVisit journal
    → AllZip IsLine (map visit_text journal) lines
    → Say lines journal × (length lines ≡ length journal)
said [] [] h z = (tt, (λ i. 0))
said [] (l ∷ lines) h z = absurd z
said (v ∷ journal) [] h z = absurd z
said (v ∷ journal) (l ∷ lines) h z =
    let rest = said journal lines h.1 z.1 in
    ((line_says v l h.0 z.0, rest.0), omega (arith, rest.1))

pub journals_are_read_back : JournalsAreReadBack
journals_are_read_back journal lines h a =
    let fit = recursion_from_All IsVisit journal h in
    said journal lines fit
    (subst (λ cut. AllZip IsLine cut lines)
    (cut_is_pieces (journal_text journal) a.cut a.cut_is ∙ journal_pieces journal fit) a.each)
