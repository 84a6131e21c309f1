-- The one way to cut bytes into lines.
use Rattle.std.proofs.Common.{◌≡◌, ◌≢◌, ◌<◌, ◌≤◌, ◌==◌, ◌⊎◌, inl, inr, ℕ, Bool, true, false, cond, List, [], ◌∷◌, ◌++◌}
use Rattle.std.proofs.Common.{◌+◌, length, arith, sym, ap, ◌∙◌, subst, append_assoc, append-nil, length-append}
use Rattle.std.specs.List.{AllByRecursion, flat_map}
use Rattle.std.proofs.lemmas.Bool.{eqb-true, eqb-false, ne_eqb, cond-false}
use Rattle.std.proofs.lemmas.List.Elements.{All-nil, All-cons, All-head, All-tail, recursion_from_All}
use Rattle.order_text.specs.Lines.{AreCut, HasNoLineEnd, LacksLastEnd}
use Rattle.bp_faults.specs.Characters.{ended_line}

-- a byte before the first of some lines
abbrev pub with_first : ℕ → List (List ℕ) → List (List ℕ)
with_first b [] = (b ∷ []) ∷ []
with_first b (p ∷ ps) = (b ∷ p) ∷ ps

-- the lines of some bytes
abbrev pub pieces : List ℕ → List (List ℕ)
pieces [] = []
pieces (b ∷ bs) = cond (b == 10) ([] ∷ pieces bs) (with_first b (pieces bs))

-- no byte is LF, by recursion
abbrev pub Plain : List ℕ → Type 0
Plain line = AllByRecursion (λ b. b ≢ 10) line

pub plain : (line : List ℕ) → HasNoLineEnd line → Plain line
plain line h = recursion_from_All (λ b. b ≢ 10) line h

pub pieces_line : (line rest : List ℕ) → Plain line → pieces (line ++ (10 ∷ rest)) ≡ line ∷ pieces rest
pieces_line [] rest h = λ i. [] ∷ pieces rest
pieces_line (b ∷ line) rest h =
    cond-false (b == 10) ([] ∷ pieces (line ++ (10 ∷ rest))) (with_first b (pieces (line ++ (10 ∷ rest))))
    (ne_eqb b 10 h.0)
    ∙ ap (with_first b) (pieces_line line rest h.1)

-- a line with LF behind it comes first
pub pieces_ended : (line rest : List ℕ) → Plain line → pieces (ended_line line ++ rest) ≡ line ∷ pieces rest
pieces_ended line rest h = ap pieces (append_assoc line (10 ∷ []) rest) ∙ pieces_line line rest h

-- the last line may lack LF
pub pieces_open : (line : List ℕ) → 0 < length line → Plain line → pieces line ≡ line ∷ []
pieces_open [] some h = absurd (omega arith)
pieces_open (b ∷ []) some h = cond-false (b == 10) ([] ∷ []) ((b ∷ []) ∷ []) (ne_eqb b 10 h.0)
pieces_open (b ∷ c ∷ line) some h =
    cond-false (b == 10) ([] ∷ pieces (c ∷ line)) (with_first b (pieces (c ∷ line))) (ne_eqb b 10 h.0)
    ∙ ap (with_first b) (pieces_open (c ∷ line) (omega arith) h.1)

pub pieces_lines : (lines : List (List ℕ)) (rest : List ℕ) → AllByRecursion HasNoLineEnd lines
    → pieces (flat_map ended_line lines ++ rest) ≡ lines ++ pieces rest
pieces_lines [] rest h = λ i. pieces rest
pieces_lines (line ∷ lines) rest h =
    ap pieces (append_assoc (ended_line line) (flat_map ended_line lines) rest)
    ∙ pieces_ended line (flat_map ended_line lines ++ rest) (plain line h.0)
    ∙ ap (λ (ls : List (List ℕ)). line ∷ ls) (pieces_lines lines rest h.1)

all_before : (lines : List (List ℕ)) (last : List ℕ) → AllByRecursion HasNoLineEnd (lines ++ last ∷ [])
    → AllByRecursion HasNoLineEnd lines × HasNoLineEnd last
all_before [] last h = (tt, h.0)
all_before (line ∷ lines) last h = let r = all_before lines last h.1 in ((h.0, r.0), r.1)

whole_is : (bytes : List ℕ) (cut : List (List ℕ)) → AllByRecursion HasNoLineEnd cut
    → (bytes ≡ flat_map ended_line cut) ⊎ LacksLastEnd bytes cut → cut ≡ pieces bytes
whole_is bytes cut h (inl e) =
    sym (ap pieces e ∙ ap pieces (sym (append-nil (flat_map ended_line cut))) ∙ pieces_lines cut [] h ∙ append-nil cut)
whole_is bytes cut h (inr o) =
    let parts = all_before o.before o.last (subst (λ ls. AllByRecursion HasNoLineEnd ls) o.lines_are h) in
    let open_last = pieces_open o.last o.some (plain o.last parts.1) in
    o.lines_are ∙ ap (λ ls. o.before ++ ls) (sym open_last) ∙ sym (pieces_lines o.before o.last parts.0)
    ∙ ap pieces (sym o.whole)

-- bytes are cut in no other way
pub cut_is_pieces : (bytes : List ℕ) (cut : List (List ℕ)) → AreCut bytes cut → cut ≡ pieces bytes
cut_is_pieces bytes cut c = whole_is bytes cut (recursion_from_All HasNoLineEnd cut c.apart) c.whole

-- a byte that is no LF before bytes whose last line lacks it
open_more : (b : ℕ) (bs p : List ℕ) (ps : List (List ℕ)) (before : List (List ℕ)) (last : List ℕ) → 0 < length last
    → p ∷ ps ≡ before ++ last ∷ [] → bs ≡ flat_map ended_line before ++ last → LacksLastEnd (b ∷ bs) ((b ∷ p) ∷ ps)
open_more b bs p ps [] last some lines_are whole =
    let same : p ∷ ps ≡ last ∷ [] = lines_are in
    let head : p ≡ last = cc in
    let none : ps ≡ [] = cc in
    record {
      before = [];
      last = b ∷ last;
      some = omega arith;
      lines_are = λ i. (b ∷ head i) ∷ none i;
      whole = λ i. b ∷ whole i;
    }
open_more b bs p ps (q ∷ before) last some lines_are whole =
    let same : p ∷ ps ≡ q ∷ (before ++ last ∷ []) = lines_are in
    let head : p ≡ q = cc in
    let rest : ps ≡ before ++ last ∷ [] = cc in
    record {
      before = (b ∷ q) ∷ before;
      last = last;
      some = some;
      lines_are = λ i. (b ∷ head i) ∷ rest i;
      whole = λ i. b ∷ whole i;
    }

nothing_left : (bs : List ℕ) → (bs ≡ []) ⊎ LacksLastEnd bs [] → bs ≡ []
nothing_left bs (inl e) = e
nothing_left bs (inr o) = absurd (omega (arith, ap length o.lines_are, length-append o.before (o.last ∷ [])))

whole_more : (b : ℕ) (bs p : List ℕ) (ps : List (List ℕ))
    → (bs ≡ flat_map ended_line (p ∷ ps)) ⊎ LacksLastEnd bs (p ∷ ps)
    → (b ∷ bs ≡ flat_map ended_line ((b ∷ p) ∷ ps)) ⊎ LacksLastEnd (b ∷ bs) ((b ∷ p) ∷ ps)
whole_more b bs p ps (inl e) = inl (λ i. b ∷ e i)
whole_more b bs p ps (inr o) = inr (open_more b bs p ps o.before o.last o.some o.lines_are o.whole)

whole_ended : (b : ℕ) (bs : List ℕ) (ps : List (List ℕ)) → b ≡ 10 → (bs ≡ flat_map ended_line ps) ⊎ LacksLastEnd bs ps
    → (b ∷ bs ≡ flat_map ended_line ([] ∷ ps)) ⊎ LacksLastEnd (b ∷ bs) ([] ∷ ps)
whole_ended b bs ps is (inl e) = inl (λ i. is i ∷ e i)
whole_ended b bs ps is (inr o) =
    inr (record {
      before = [] ∷ o.before;
      last = o.last;
      some = o.some;
      lines_are = λ i. [] ∷ o.lines_are i;
      whole = λ i. is i ∷ o.whole i;
    })

cut_first : (b : ℕ) (bs : List ℕ) (ps : List (List ℕ)) → b ≢ 10 → AreCut bs ps → AreCut (b ∷ bs) (with_first b ps)
cut_first b bs [] ne c =
    let none = nothing_left bs c.whole in
    record {
      apart =
          All-cons HasNoLineEnd (b ∷ []) [] (All-cons (λ x. x ≢ 10) b [] ne (All-nil (λ x. x ≢ 10)))
          (All-nil HasNoLineEnd);
      whole = inr (record {
        before = [];
        last = b ∷ [];
        some = omega arith;
        lines_are = λ i. (b ∷ []) ∷ [];
        whole = λ i. b ∷ none i;
      });
    }
cut_first b bs (p ∷ ps) ne c = record {
  apart =
      All-cons HasNoLineEnd (b ∷ p) ps (All-cons (λ x. x ≢ 10) b p ne (All-head HasNoLineEnd p ps c.apart))
      (All-tail HasNoLineEnd p ps c.apart);
  whole = whole_more b bs p ps c.whole;
}

cut_more : (b : ℕ) (bs : List ℕ) (ps : List (List ℕ)) (t : Bool) → (b == 10) ≡ t → AreCut bs ps
    → AreCut (b ∷ bs) (cond t ([] ∷ ps) (with_first b ps))
cut_more b bs ps true is c = record {
  apart = All-cons HasNoLineEnd [] ps (All-nil (λ x. x ≢ 10)) c.apart;
  whole = whole_ended b bs ps (eqb-true b 10 is) c.whole;
}
cut_more b bs ps false is c = cut_first b bs ps (eqb-false b 10 is) c

-- and they are cut in this way
pub pieces_are_cut : (bytes : List ℕ) → AreCut bytes (pieces bytes)
pieces_are_cut [] = record { apart = All-nil HasNoLineEnd; whole = inl (λ i. []) }
pieces_are_cut (b ∷ bs) = cut_more b bs (pieces bs) (b == 10) (λ i. b == 10) (pieces_are_cut bs)

with_first_few : (b m : ℕ) (ps : List (List ℕ)) → length ps ≤ m → length (with_first b ps) ≤ m + 1
with_first_few b m [] few = omega arith
with_first_few b m (p ∷ ps) few = omega arith

cond_few : (t : Bool) (b m : ℕ) (ps : List (List ℕ)) → length ps ≤ m
    → length (cond t ([] ∷ ps) (with_first b ps)) ≤ m + 1
cond_few true b m ps few = omega arith
cond_few false b m ps few = with_first_few b m ps few

-- there are at most as many lines as bytes
pub pieces_few : (bytes : List ℕ) → length (pieces bytes) ≤ length bytes
pieces_few [] = omega arith
pieces_few (b ∷ bs) = omega (arith, cond_few (b == 10) b (length bs) (pieces bs) (pieces_few bs))
