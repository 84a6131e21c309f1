-- A text is the text of one graph alone.
use Rattle.std.proofs.Common.{◌≡◌, ◌≢◌, ◌+◌, ◌==◌, ◌<◌, ◌≤◌, ◌^◌, ◌%◌, ◌++◌, ◌∙◌, ℕ, suc}
use Rattle.std.proofs.Common.{cond, List, [], ◌∷◌, length, map, get_or, ap, sym, refl, arith, lit<}
use Rattle.std.proofs.Common.{append_assoc, length-append}
use Rattle.std.specs.Fmt.{decimal}
use Rattle.std.specs.List.{AllByRecursion, flat_map}
use Rattle.std.proofs.lemmas.Fmt.{decimal_by_steps, decimal_injective}
use Rattle.std.proofs.lemmas.List.{append_cancel_left}
use Rattle.std.proofs.lemmas.List.Elements.{All-from_recursion}
use Rattle.bp_faults.proofs.Lists.{all_map, all_pushed}
use Rattle.graph_nodes.specs.declared.graph.EdgeKind.{EdgeKind}
use Rattle.graph_nodes.specs.declared.graph.EdgeKind.TheVariants.{Defaults, Whole, Static, Shared, Header, DataBin}
use Rattle.graph_nodes.specs.declared.graph.EdgeKind.TheVariants.{Sources}
use Rattle.graph_nodes.specs.GraphText.{kind_word}
use Rattle.graph_nodes.specs.Numbered.{by_number}
use Rattle.graph_picture.specs.declared.variant.Arrow.{Arrow}
use Rattle.graph_picture.specs.declared.variant.Variant.{Variant}
use Rattle.graph_picture.specs.Laws.{OneReading}
use Rattle.graph_picture.specs.Lines.{HasNo, IsVariant, arrow_line, all_variant_lines}
use Rattle.graph_picture.specs.Lines.{variant_line, variant_lines}
use Rattle.graph_picture.proofs.Parts.{cut_once}
use Rattle.graph_picture.proofs.Puts.{starts}
use Rattle.bp_faults.specs.Characters.{ended_line}

-- no byte of these is b
abbrev Lacks : ℕ → List ℕ → Type 0
Lacks b = AllByRecursion (λ c. c ≢ b)

has_no : (b : ℕ) (bs : List ℕ) → Lacks b bs → HasNo b bs
has_no b bs all = All-from_recursion (λ c. c ≢ b) bs all

lacks : (b : ℕ) (bs : List ℕ) → HasNo b bs → Lacks b bs
lacks b [] h = tt
lacks b (c ∷ bs) h = (h 0 0 (omega arith), lacks b bs (λ i d lt. h (suc i) d (omega arith)))

joined : (b : ℕ) (xs ys : List ℕ) → Lacks b xs → Lacks b ys → Lacks b (xs ++ ys)
joined b [] ys h k = k
joined b (x ∷ xs) ys h k = (h.0, joined b xs ys h.1 k)

digits_lack : (b n : ℕ) → b < 48 → n < 2 ^ 32 → Lacks b (decimal n)
digits_lack b n low lt =
    all_map (λ c. 48 ≤ c) (λ c. c ≢ b) (λ c h e. absurd (omega (arith, h, e, low))) (decimal n)
    (decimal_by_steps (λ n ds. AllByRecursion (λ c. 48 ≤ c) ds) (λ n few. (omega arith, tt))
    (λ n ds many h. all_pushed (λ c. 48 ≤ c) ds (48 + n % 10) h (omega arith)) n (omega (arith, lt)))

-- the words of the kinds are letters, and differ in their second letter or their length
abbrev IsLetter : ℕ → Type 0
IsLetter c = 97 ≤ c

word_letters : (kind : EdgeKind) → AllByRecursion IsLetter (kind_word kind)
word_letters Defaults = (
  omega arith,
  (omega arith, (omega arith, (omega arith, (omega arith, (omega arith, (omega arith, (omega arith, tt))))))),
)
word_letters Whole = (omega arith, (omega arith, (omega arith, (omega arith, (omega arith, tt)))))
word_letters Static = (omega arith, (omega arith, (omega arith, (omega arith, (omega arith, (omega arith, tt))))))
word_letters Shared = (omega arith, (omega arith, (omega arith, (omega arith, (omega arith, (omega arith, tt))))))
word_letters Header = (omega arith, (omega arith, (omega arith, (omega arith, (omega arith, (omega arith, tt))))))
word_letters DataBin = (omega arith, (omega arith, (omega arith, (omega arith, tt))))
word_letters Sources =
    (omega arith, (omega arith, (omega arith, (omega arith, (omega arith, (omega arith, (omega arith, tt)))))))

word_lacks : (b : ℕ) (kind : EdgeKind) → b < 97 → Lacks b (kind_word kind)
word_lacks b kind low =
    all_map IsLetter (λ c. c ≢ b) (λ c h e. absurd (omega (arith, h, e, low))) (kind_word kind) (word_letters kind)

-- the kind by the length of its word and its second letter
abbrev kind_at : ℕ → ℕ → EdgeKind
kind_at size letter =
    cond (size == 8) Defaults
    (cond (size == 5) Whole
    (cond (size == 4) DataBin
    (cond (size == 7) Sources
    (cond (letter == 116) Static
    (cond (letter == 104) Shared Header)))))

kind_back : (kind : EdgeKind) → kind_at (length (kind_word kind)) (get_or (kind_word kind) 1 0) ≡ kind
kind_back Defaults = refl
kind_back Whole = refl
kind_back Static = refl
kind_back Shared = refl
kind_back Header = refl
kind_back DataBin = refl
kind_back Sources = refl

one_kind : (kind other : EdgeKind) → kind_word kind ≡ kind_word other → kind ≡ other
one_kind kind other e =
    sym (kind_back kind) ∙ ap (λ (l : List ℕ). kind_at (length l) (get_or l 1 0)) e ∙ kind_back other

-- the line of one edge alone
one_arrow : (a b : Arrow) → a.to < 2 ^ 32 → b.to < 2 ^ 32 → arrow_line a ≡ arrow_line b → a ≡ b
one_arrow a b low high e =
    let r = cut_once 32 (kind_word a.kind) (decimal a.to) (kind_word b.kind) (decimal b.to)
    (has_no 32 (kind_word a.kind) (word_lacks 32 a.kind (lit< tt)))
    (has_no 32 (kind_word b.kind) (word_lacks 32 b.kind (lit< tt)))
    (append_cancel_left (32 ∷ 32 ∷ []) (kind_word a.kind ++ (32 ∷ decimal a.to))
    (kind_word b.kind ++ (32 ∷ decimal b.to)) e) in
    let kind = one_kind a.kind b.kind r.0 in
    let to = decimal_injective a.to b.to (omega (arith, low)) (omega (arith, high)) r.1 in
    λ i. record { kind = kind i; to = to i }

arrow_lacks : (a : Arrow) → a.to < 2 ^ 32 → Lacks 10 (arrow_line a)
arrow_lacks a lt =
    let word : Lacks 10 (kind_word a.kind ++ (32 ∷ decimal a.to)) =
    joined 10 (kind_word a.kind) (32 ∷ decimal a.to) (word_lacks 10 a.kind (lit< tt))
    ((λ e. absurd (omega (arith, e))), digits_lack 10 a.to (lit< tt) lt) in
    ((λ e. absurd (omega (arith, e))), ((λ e. absurd (omega (arith, e))), word))

-- the line of one variant alone
one_names : (k : ℕ) (v w : Variant) → IsVariant v → IsVariant w → variant_line k v ≡ variant_line k w
    → (v.module ≡ w.module) × (v.variation ≡ w.variation)
one_names k v w is has e =
    cut_once 32 v.module v.variation w.module w.variation is.owner.no_space has.owner.no_space
    (append_cancel_left (32 ∷ []) (v.module ++ (32 ∷ v.variation)) (w.module ++ (32 ∷ w.variation))
    (append_cancel_left (decimal k) (32 ∷ (v.module ++ (32 ∷ v.variation))) (32 ∷ (w.module ++ (32 ∷ w.variation))) e))

variant_lacks : (k : ℕ) (v : Variant) → k < 2 ^ 32 → IsVariant v → Lacks 10 (variant_line k v)
variant_lacks k v lt is =
    joined 10 (decimal k) (32 ∷ (v.module ++ (32 ∷ v.variation))) (digits_lack 10 k (lit< tt) lt) (
      (λ e. absurd (omega (arith, e))),
      joined 10 v.module (32 ∷ v.variation) (lacks 10 v.module is.owner.no_end)
          ((λ e. absurd (omega (arith, e))), lacks 10 v.variation is.variation.no_end),
    )

-- no line is both
not_both : (k : ℕ) (v : Variant) (a : Arrow) → k < 2 ^ 32 → variant_line k v ≡ arrow_line a → ⊥
not_both k v a lt e =
    let first : get_or (variant_line k v) 0 0 ≡ 32 = ap (λ (l : List ℕ). get_or l 0 0) e in
    absurd (omega (arith, starts k (32 ∷ (v.module ++ (32 ∷ v.variation))) (omega (arith, lt)), first))

-- the lines of a text
one_lines : (ls ms : List (List ℕ)) → AllByRecursion (Lacks 10) ls → AllByRecursion (Lacks 10) ms
    → flat_map ended_line ls ≡ flat_map ended_line ms → ls ≡ ms
one_lines [] [] h k e = refl
one_lines [] (m ∷ ms) h k e =
    absurd (omega (
      arith,
      ap length (e ∙ append_assoc m (10 ∷ []) (flat_map ended_line ms)),
      length-append m (10 ∷ flat_map ended_line ms),
    ))
one_lines (l ∷ ls) [] h k e =
    absurd (omega (
      arith,
      ap length (sym e ∙ append_assoc l (10 ∷ []) (flat_map ended_line ls)),
      length-append l (10 ∷ flat_map ended_line ls),
    ))
one_lines (l ∷ ls) (m ∷ ms) h k e =
    let r = cut_once 10 l (flat_map ended_line ls) m (flat_map ended_line ms) (has_no 10 l h.0) (has_no 10 m k.0)
    (sym (append_assoc l (10 ∷ []) (flat_map ended_line ls)) ∙ e ∙ append_assoc m (10 ∷ []) (flat_map ended_line ms)) in
    let rest = one_lines ls ms h.1 k.1 r.1 in
    λ i. r.0 i ∷ rest i

abbrev from : ℕ → List Variant → List (List ℕ)
from = by_number variant_lines

all_joined : (xs ys : List (List ℕ)) → AllByRecursion (Lacks 10) xs → AllByRecursion (Lacks 10) ys
    → AllByRecursion (Lacks 10) (xs ++ ys)
all_joined [] ys h k = k
all_joined (x ∷ xs) ys h k = (h.0, all_joined xs ys h.1 k)

arrows_lack : (edges : List Arrow) → AllByRecursion (λ (a : Arrow). a.to < 2 ^ 32) edges
    → AllByRecursion (Lacks 10) (map arrow_line edges)
arrows_lack [] all = tt
arrows_lack (a ∷ edges) all = (arrow_lacks a all.0, arrows_lack edges all.1)

lines_lack : (k : ℕ) (vs : List Variant) → k + length vs ≤ 2 ^ 32 → AllByRecursion IsVariant vs
    → AllByRecursion (Lacks 10) (from k vs)
lines_lack k [] le all = tt
lines_lack k (v ∷ vs) le all = (
  variant_lacks k v (omega (arith, le)) all.0,
  all_joined (map arrow_line v.edges) (from (k + 1) vs) (arrows_lack v.edges all.0.targets)
      (lines_lack (k + 1) vs (omega (arith, le)) all.1),
)

-- the edges of a variant and what is behind them
one_edges : (k : ℕ) (xs ys : List Arrow) (vs ws : List Variant) → k + length vs ≤ 2 ^ 32 → k + length ws ≤ 2 ^ 32
    → AllByRecursion (λ (a : Arrow). a.to < 2 ^ 32) xs → AllByRecursion (λ (a : Arrow). a.to < 2 ^ 32) ys
    → map arrow_line xs ++ from k vs ≡ map arrow_line ys ++ from k ws → (xs ≡ ys) × (from k vs ≡ from k ws)
one_edges k [] [] vs ws le ge h j e = (refl, e)
one_edges k [] (y ∷ ys) [] ws le ge h j e =
    absurd (let f : [] ≡ arrow_line y ∷ (map arrow_line ys ++ from k ws) = e in cc)
one_edges k [] (y ∷ ys) (v ∷ vs) ws le ge h j e =
    let f : variant_line k v ∷ (map arrow_line v.edges ++ from (k + 1) vs)
    ≡ arrow_line y ∷ (map arrow_line ys ++ from k ws) = e in
    absurd (not_both k v y (omega (arith, le)) cc)
one_edges k (x ∷ xs) [] vs [] le ge h j e =
    absurd (let f : arrow_line x ∷ (map arrow_line xs ++ from k vs) ≡ [] = e in cc)
one_edges k (x ∷ xs) [] vs (w ∷ ws) le ge h j e =
    let f : arrow_line x ∷ (map arrow_line xs ++ from k vs)
    ≡ variant_line k w ∷ (map arrow_line w.edges ++ from (k + 1) ws) = e in
    absurd (not_both k w x (omega (arith, ge)) cc)
one_edges k (x ∷ xs) (y ∷ ys) vs ws le ge h j e =
    let f : arrow_line x ∷ (map arrow_line xs ++ from k vs) ≡ arrow_line y ∷ (map arrow_line ys ++ from k ws) = e in
    let line : arrow_line x ≡ arrow_line y = cc in
    let behind : map arrow_line xs ++ from k vs ≡ map arrow_line ys ++ from k ws = cc in
    let here = one_arrow x y h.0 j.0 line in
    let rest = one_edges k xs ys vs ws le ge h.1 j.1 behind in
    (λ i. here i ∷ rest.0 i, rest.1)

one_variants : (k : ℕ) (vs ws : List Variant) → k + length vs ≤ 2 ^ 32 → k + length ws ≤ 2 ^ 32
    → AllByRecursion IsVariant vs → AllByRecursion IsVariant ws → from k vs ≡ from k ws → vs ≡ ws
one_variants k [] [] le ge h j e = refl
one_variants k [] (w ∷ ws) le ge h j e =
    absurd (let f : [] ≡ variant_line k w ∷ (map arrow_line w.edges ++ from (k + 1) ws) = e in cc)
one_variants k (v ∷ vs) [] le ge h j e =
    absurd (let f : variant_line k v ∷ (map arrow_line v.edges ++ from (k + 1) vs) ≡ [] = e in cc)
one_variants k (v ∷ vs) (w ∷ ws) le ge h j e =
    let f : variant_line k v ∷ (map arrow_line v.edges ++ from (k + 1) vs)
    ≡ variant_line k w ∷ (map arrow_line w.edges ++ from (k + 1) ws) = e in
    let line : variant_line k v ≡ variant_line k w = cc in
    let behind : map arrow_line v.edges ++ from (k + 1) vs ≡ map arrow_line w.edges ++ from (k + 1) ws = cc in
    let names = one_names k v w h.0 j.0 line in
    let edges =
    one_edges (k + 1) v.edges w.edges vs ws (omega (arith, le)) (omega (arith, ge)) h.0.targets j.0.targets behind in
    let rest = one_variants (k + 1) vs ws (omega (arith, le)) (omega (arith, ge)) h.1 j.1 edges.1 in
    λ i. record { «module» = names.0 i; variation = names.1 i; edges = edges.0 i } ∷ rest i

pub one_reading : OneReading
one_reading vs ws g h e =
    one_variants 0 vs ws (omega (arith, g.few)) (omega (arith, h.few)) g.each h.each
    (one_lines (all_variant_lines vs) (all_variant_lines ws) (lines_lack 0 vs (omega (arith, g.few)) g.each)
    (lines_lack 0 ws (omega (arith, h.few)) h.each) e)
