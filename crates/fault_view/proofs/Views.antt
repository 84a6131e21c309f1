-- What is printed of the lines that were read, while others are left.
use Rattle.std.proofs.Common.{◌≡◌, ◌<◌, ◌≤◌, ◌==◌, ℕ, Bool, true, false, cond, List, [], ◌∷◌, ◌++◌, length, Option}
use Rattle.std.proofs.Common.{Some, None, refl, arith, sym, ap, subst, ◌∙◌, append_assoc, append-nil, ◌+◌, suc, take}
use Rattle.std.proofs.Common.{inl, inr}
use Rattle.std.proofs.Common.{◌⊎◌}
use Rattle.std.specs.Prelude.{IfSome}
use Rattle.std.specs.Io.BufRead.{take_through, drop_through}
use Rattle.std.proofs.lemmas.Bool.{eqb-true}
use Rattle.bp_ports.specs.Files.{Files, WhereTold, AppendsPart}
use Rattle.fault_view.specs.View.{Softly, IsPrintedView, Shows, IsViewPart, ShowsPart, IsBehind, Anything, ended_lines}
use Rattle.fault_view.specs.View.{with_first_byte}
use Rattle.fault_view.specs.Inside.{PutsLine, PutsPart, PutsAtMost}
use Rattle.fault_view.proofs.Soft.{softly_both, softly_map, softly_later, softly_always}

first_at : (bs : List ℕ) (b : ℕ) (t : Bool) → (b == 10) ≡ t
    → cond t ((10 ∷ []) ∷ ended_lines bs) (with_first_byte b (ended_lines bs))
    ≡ cond t (b ∷ []) (b ∷ take_through 10 bs) ∷ ended_lines (cond t bs (drop_through 10 bs))
first_at bs b true is = let e = eqb-true b 10 is in λ i. (sym e i ∷ []) ∷ ended_lines bs
first_at [] b false is = refl
first_at (c ∷ cs) b false is = ap (with_first_byte b) (first_at cs c (c == 10) refl)

-- the first line is all through the first LF
first_line : (b : ℕ) (bs : List ℕ)
    → ended_lines (b ∷ bs) ≡ take_through 10 (b ∷ bs) ∷ ended_lines (drop_through 10 (b ∷ bs))
first_line b bs = first_at bs b (b == 10) refl

-- without its first line the text has one line fewer
one_fewer : (rest line : List ℕ) → take_through 10 rest ≡ line → 0 < length line
    → length (ended_lines rest) ≡ suc (length (ended_lines (drop_through 10 rest)))
one_fewer [] line is some = absurd (omega (arith, ap length is))
one_fewer (b ∷ bs) line is some = ap length (first_line b bs)

nothing_yet : (Behind : List ℕ → List ℕ → Type 0) (lines : List (List ℕ)) → IsViewPart Behind lines []
nothing_yet Behind [] = refl
nothing_yet Behind (line ∷ lines) = inl refl

module _ (Behind : List ℕ → List ℕ → Type 0) (all : List ℕ) where
  -- so far this was printed, and what is printed of the rest, or a part of that, follows it
  abbrev pub Printed : List ℕ → List ℕ → List ℕ → Type 0
  Printed rest before now =
      (seen : List ℕ) × (now ≡ before ++ seen)
      × ((more : List ℕ) → IsPrintedView Behind (ended_lines rest) more
      → IsPrintedView Behind (ended_lines all) (seen ++ more))
      × ((more : List ℕ) → IsViewPart Behind (ended_lines rest) more
      → IsViewPart Behind (ended_lines all) (seen ++ more))

  pub all_printed : (before now : List ℕ) → Printed [] before now → Shows Behind all before now
  all_printed before now (seen, is, view, part) =
      (seen, is, subst (λ xs. IsPrintedView Behind (ended_lines all) xs) (append-nil seen) (view [] refl))

  pub line_printed : (rest line note before now new : List ℕ) → take_through 10 rest ≡ line → 0 < length line
      → new ≡ now ++ (line ++ note) → Behind line note → Printed rest before now
      → Printed (drop_through 10 rest) before new
  line_printed [] line note before now new is some put behind printed = absurd (omega (arith, ap length is))
  line_printed (b ∷ bs) line note before now new is some put behind (seen, so_far, view, part) = (
    seen ++ (line ++ note),
    put ∙ ap (λ xs. xs ++ (line ++ note)) so_far ∙ append_assoc before seen (line ++ note),
    λ more rest.
        let here : IsPrintedView Behind (take_through 10 (b ∷ bs) ∷ ended_lines (drop_through 10 (b ∷ bs)))
        (line ++ (note ++ more)) =
        (note, more, ap (λ xs. xs ++ (note ++ more)) (sym is), subst (λ xs. Behind xs note) (sym is) behind, rest) in
        subst (λ xs. IsPrintedView Behind (ended_lines all) xs)
        (ap (λ xs. seen ++ xs) (sym (append_assoc line note more)) ∙ sym (append_assoc seen (line ++ note) more))
        (view (line ++ (note ++ more))
        (subst (λ ls. IsPrintedView Behind ls (line ++ (note ++ more))) (sym (first_line b bs)) here)),
    λ more rest.
        let here : IsViewPart Behind (take_through 10 (b ∷ bs) ∷ ended_lines (drop_through 10 (b ∷ bs)))
        (line ++ (note ++ more)) =
        inr (inr (
          note,
          more,
          ap (λ xs. xs ++ (note ++ more)) (sym is),
          subst (λ xs. Behind xs note) (sym is) behind,
          rest,
        )) in
        subst (λ xs. IsViewPart Behind (ended_lines all) xs)
        (ap (λ xs. seen ++ xs) (sym (append_assoc line note more)) ∙ sym (append_assoc seen (line ++ note) more))
        (part (line ++ (note ++ more))
        (subst (λ ls. IsViewPart Behind ls (line ++ (note ++ more))) (sym (first_line b bs)) here)),
  )

  -- what was printed so far is a part
  part_printed : (rest before now : List ℕ) → Printed rest before now → ShowsPart Behind all before now
  part_printed rest before now (seen, is, view, part) = (
    seen,
    is,
    subst (λ xs. IsViewPart Behind (ended_lines all) xs) (append-nil seen)
        (part [] (nothing_yet Behind (ended_lines rest))),
  )

  -- and so it is with a part of the next line and of what stands behind it
  part_line_printed : (rest line note before now new : List ℕ) → take_through 10 rest ≡ line → 0 < length line
      → AppendsPart (line ++ note) now new → Behind line note → Printed rest before now
      → ShowsPart Behind all before new
  part_line_printed [] line note before now new is some put behind printed = absurd (omega (arith, ap length is))
  part_line_printed (b ∷ bs) line note before now new is some (k, put) behind (seen, so_far, view, part) =
      let shown : List ℕ = take k (line ++ note) in
      let here : IsViewPart Behind (take_through 10 (b ∷ bs) ∷ ended_lines (drop_through 10 (b ∷ bs))) shown =
      inr (inl (
        note,
        subst (λ xs. Behind xs note) (sym is) behind,
        (k, ap (λ xs. take k (xs ++ note)) (sym is)),
      )) in (
        seen ++ shown,
        put ∙ ap (λ xs. xs ++ shown) so_far ∙ append_assoc before seen shown,
        part shown (subst (λ ls. IsViewPart Behind ls shown) (sym (first_line b bs)) here),
      )

  pub told_all : (before now : Option (List ℕ)) → WhereTold (Printed []) before now
      → WhereTold (Shows Behind all) before now
  told_all None None h = tt
  told_all None (Some now) h = h
  told_all (Some before) None h = tt
  told_all (Some before) (Some now) h = all_printed before now h

  pub told_line : (rest line note : List ℕ) (before now new : Option (List ℕ)) → take_through 10 rest ≡ line
      → 0 < length line → WhereTold (λ a b. b ≡ a ++ (line ++ note)) now new → Behind line note
      → WhereTold (Printed rest) before now → WhereTold (Printed (drop_through 10 rest)) before new
  told_line rest line note None None None is some put behind h = tt
  told_line rest line note None None (Some new) is some put behind h = put
  told_line rest line note None (Some now) new is some put behind h = absurd h
  told_line rest line note (Some before) None None is some put behind h = tt
  told_line rest line note (Some before) None (Some new) is some put behind h = absurd put
  told_line rest line note (Some before) (Some now) None is some put behind h = tt
  told_line rest line note (Some before) (Some now) (Some new) is some put behind h =
      line_printed rest line note before now new is some put behind h

  told_here : (rest : List ℕ) (before now : Option (List ℕ)) → WhereTold (Printed rest) before now
      → WhereTold (ShowsPart Behind all) before now
  told_here rest None None h = tt
  told_here rest None (Some now) h = h
  told_here rest (Some before) None h = tt
  told_here rest (Some before) (Some now) h = part_printed rest before now h

  pub told_part : (rest : List ℕ) (before now new : Option (List ℕ)) → new ≡ now
      → WhereTold (Printed rest) before now → WhereTold (ShowsPart Behind all) before new
  told_part rest before now new same h =
      subst (λ o. WhereTold (ShowsPart Behind all) before o) (sym same) (told_here rest before now h)

  pub told_part_line : (rest line note : List ℕ) (before now new : Option (List ℕ)) → take_through 10 rest ≡ line
      → 0 < length line → WhereTold (AppendsPart (line ++ note)) now new → Behind line note
      → WhereTold (Printed rest) before now → WhereTold (ShowsPart Behind all) before new
  told_part_line rest line note None None None is some put behind h = tt
  told_part_line rest line note None None (Some new) is some put behind h = put
  told_part_line rest line note None (Some now) new is some put behind h = absurd h
  told_part_line rest line note (Some before) None None is some put behind h = tt
  told_part_line rest line note (Some before) None (Some new) is some put behind h = absurd put
  told_part_line rest line note (Some before) (Some now) None is some put behind h = tt
  told_part_line rest line note (Some before) (Some now) (Some new) is some put behind h =
      part_line_printed rest line note before now new is some put behind h

has_byte : (t : Bool) (b : ℕ) (bs : List ℕ) → 0 < length (cond t (b ∷ []) (b ∷ bs))
has_byte true b bs = omega arith
has_byte false b bs = omega arith

-- where there is no line there is no byte
no_line : (text : List ℕ) → length (take_through 10 text) ≡ 0 → text ≡ []
no_line [] is = refl
no_line (b ∷ bs) is = absurd (omega (arith, is, has_byte (b == 10) b (take_through 10 bs)))

-- where the view stands: what is left of the input, and what was printed of the lines before
pub record Stands (list : Option (List ℕ)) (told : Option Files) (reads_before reads_now : ℕ) (all : List ℕ)
    (turn : ℕ) (left : Option (List ℕ)) (before now : Option (List ℕ)) : Type 0 where
  pub rest : List ℕ
  pub lines : turn + length (ended_lines rest) ≤ length (ended_lines all)
  pub is_left : left ≡ Some rest
  pub kept : WhereTold (Printed Anything all rest) before now
  pub exact : Softly told reads_before reads_now
      (λ files. WhereTold (Printed (IsBehind list files) all rest) before now)

module _ (list : Option (List ℕ)) (told : Option Files) (all : List ℕ) where
  pub stands_next : (a b c turn : ℕ) (left new_left : Option (List ℕ)) (before now new : Option (List ℕ))
      (line : List ℕ) → a ≤ b → b ≤ c → 0 < length line
      → ((text : List ℕ) → left ≡ Some text → (line ≡ take_through 10 text) × (new_left ≡ Some (drop_through 10 text)))
      → PutsLine list told b c line now new → Stands list told a b all turn left before now
      → Stands list told a c all (turn + 1) new_left before new
  stands_next a b c turn left new_left before now new line ab bc some read put s =
      let step = read s.rest s.is_left in
      record {
        rest = drop_through 10 s.rest;
        lines = omega (arith, s.lines, one_fewer s.rest line (sym step.0) some);
        is_left = step.1;
        kept = told_line Anything all s.rest line put.note before now new (sym step.0) some put.put tt s.kept;
        exact = softly_both told a b c _ _ _ ab bc
            (λ files here behind.
            told_line (IsBehind list files) all s.rest line put.note before now new (sym step.0) some
            put.put behind here)
            s.exact put.exact;
      }

  -- what is shown where all lines were printed
  abbrev pub Whole : ℕ → ℕ → Option (List ℕ) → Option (List ℕ) → Type 0
  Whole a b before now =
      WhereTold (Shows Anything all) before now
      × Softly told a b (λ files. WhereTold (Shows (IsBehind list files) all) before now)

  -- and where some were
  abbrev pub Partly : ℕ → ℕ → Option (List ℕ) → Option (List ℕ) → Type 0
  Partly a b before now =
      WhereTold (ShowsPart Anything all) before now
      × Softly told a b (λ files. WhereTold (ShowsPart (IsBehind list files) all) before now)

  pub stands_last : (a b turn : ℕ) (left before now : Option (List ℕ))
      → ((text : List ℕ) → left ≡ Some text → length (take_through 10 text) ≡ 0)
      → Stands list told a b all turn left before now → Whole a b before now
  stands_last a b turn left before now last s =
      let none = no_line s.rest (last s.rest s.is_left) in (
        told_all Anything all before now (subst (λ rest. WhereTold (Printed Anything all rest) before now) none s.kept),
        softly_map told a b _ _
            (λ files h. told_all (IsBehind list files) all before now
            (subst (λ rest. WhereTold (Printed (IsBehind list files) all rest) before now) none h))
            s.exact,
      )

  pub stands_here : (a b c turn : ℕ) (left before now new : Option (List ℕ)) → b ≤ c → new ≡ now
      → Stands list told a b all turn left before now → Partly a c before new
  stands_here a b c turn left before now new bc same s = (
    told_part Anything all s.rest before now new same s.kept,
    softly_later told a b c _ bc
        (softly_map told a b _ _ (λ files h. told_part (IsBehind list files) all s.rest before now new same h) s.exact),
  )

  pub stands_inside : (a b c turn : ℕ) (left before now new : Option (List ℕ)) (line : List ℕ) → a ≤ b → b ≤ c
      → 0 < length line → ((text : List ℕ) → left ≡ Some text → line ≡ take_through 10 text)
      → PutsAtMost list told b c line now new → Stands list told a b all turn left before now → Partly a c before new
  stands_inside a b c turn left before now new line ab bc some read (inl same) s =
      stands_here a b c turn left before now new bc same s
  stands_inside a b c turn left before now new line ab bc some read (inr put) s =
      let is = sym (read s.rest s.is_left) in (
        told_part_line Anything all s.rest line put.note before now new is some put.put tt s.kept,
        softly_both told a b c _ _ _ ab bc
            (λ files here behind.
            told_part_line (IsBehind list files) all s.rest line put.note before now new is some put.put behind here)
            s.exact put.exact,
      )

at_some : (o : Option (List ℕ)) (P : List ℕ → Type 0) (text : List ℕ) → o ≡ Some text → IfSome o P → P text
at_some o P text is h = subst (λ o. IfSome o P) is h

-- the view stands so, where the input is known
abbrev pub Goes : Option (List ℕ) → Option (List ℕ) → Option Files → ℕ → ℕ → ℕ → Option (List ℕ) → Option (List ℕ)
    → Option (List ℕ) → Type 0
Goes input list told a b turn left before now = IfSome input (λ all. Stands list told a b all turn left before now)

-- where the input is known, a part of what is shown was printed
abbrev pub GoesPartly : Option (List ℕ) → Option (List ℕ) → Option Files → ℕ → ℕ → Option (List ℕ) → Option (List ℕ)
    → Type 0
GoesPartly input list told a b before now =
    IfSome input (λ all. WhereTold (ShowsPart Anything all) before now)
    × Softly told a b (λ files. IfSome input (λ all. WhereTold (ShowsPart (IsBehind list files) all) before now))

pub goes_next : (input list : Option (List ℕ)) (told : Option Files) (a b c turn : ℕ)
    (left new_left before now new : Option (List ℕ)) (line : List ℕ) → a ≤ b → b ≤ c → 0 < length line
    → IfSome left (λ text. line ≡ take_through 10 text) → IfSome left (λ text. new_left ≡ Some (drop_through 10 text))
    → PutsLine list told b c line now new → Goes input list told a b turn left before now
    → Goes input list told a c (turn + 1) new_left before new
goes_next None list told a b c turn left new_left before now new line ab bc some is rest put s = tt
goes_next (Some all) list told a b c turn left new_left before now new line ab bc some is rest put s =
    stands_next list told all a b c turn left new_left before now new line ab bc some
    (λ text e. (
      at_some left (λ text. line ≡ take_through 10 text) text e is,
      at_some left (λ text. new_left ≡ Some (drop_through 10 text)) text e rest,
    ))
    put s

pub goes_last : (input list : Option (List ℕ)) (told : Option Files) (a b turn : ℕ)
    (left before now : Option (List ℕ)) (line : List ℕ) → length line ≡ 0
    → IfSome left (λ text. line ≡ take_through 10 text) → Goes input list told a b turn left before now
    → IfSome input (λ all. WhereTold (Shows Anything all) before now)
    × Softly told a b (λ files. IfSome input (λ all. WhereTold (Shows (IsBehind list files) all) before now))
goes_last None list told a b turn left before now line none is s = (tt, softly_always told a b _ (λ files. tt))
goes_last (Some all) list told a b turn left before now line none is s =
    stands_last list told all a b turn left before now
    (λ text e. ap length (sym (at_some left (λ text. line ≡ take_through 10 text) text e is)) ∙ none) s

pub goes_here : (input list : Option (List ℕ)) (told : Option Files) (a b c turn : ℕ)
    (left before now new : Option (List ℕ)) → b ≤ c → new ≡ now → Goes input list told a b turn left before now
    → GoesPartly input list told a c before new
goes_here None list told a b c turn left before now new bc same s = (tt, softly_always told a c _ (λ files. tt))
goes_here (Some all) list told a b c turn left before now new bc same s =
    stands_here list told all a b c turn left before now new bc same s

pub goes_inside : (input list : Option (List ℕ)) (told : Option Files) (a b c turn : ℕ)
    (left before now new : Option (List ℕ)) (line : List ℕ) → a ≤ b → b ≤ c → 0 < length line
    → IfSome left (λ text. line ≡ take_through 10 text) → PutsAtMost list told b c line now new
    → Goes input list told a b turn left before now → GoesPartly input list told a c before new
goes_inside None list told a b c turn left before now new line ab bc some is put s =
    (tt, softly_always told a c _ (λ files. tt))
goes_inside (Some all) list told a b c turn left before now new line ab bc some is put s =
    stands_inside list told all a b c turn left before now new line ab bc some
    (λ text e. at_some left (λ text. line ≡ take_through 10 text) text e is) put s

-- there were as many lines as turns
pub goes_on : (input list : Option (List ℕ)) (told : Option Files) (a b turn : ℕ) (left before now : Option (List ℕ))
    → Goes input list told a b turn left before now → IfSome input (λ all. turn ≤ length (ended_lines all))
goes_on None list told a b turn left before now s = tt
goes_on (Some all) list told a b turn left before now s = omega (arith, s.lines)
