-- The parts of a fault line, one after another.
use Rattle.std.proofs.Common.{◌≡◌, ◌≢◌, ◌<◌, ◌^◌, ℕ, List, [], ◌∷◌, ◌++◌, length, get_or, drop, arith, lit<, sym}
use Rattle.std.proofs.Common.{ap, ◌∙◌, Some, None, codes, IsUtf8}
use Rattle.std.specs.Fmt.{decimal}
use Rattle.std.specs.Str.Parse.{AllDigits, digits_value}
use Rattle.std.proofs.lemmas.Fmt.{digits_decimal, decimal_injective}
use Rattle.std.proofs.lemmas.Str.Parse.{IsNumeralModel, numerals_by_value, tells_digits, not_in_digits}
use Rattle.std.proofs.lemmas.Str.Pattern.{IsSplitOnceResult, split_after, split_parts}
use Rattle.std.proofs.lemmas.List.{append_cancel_right}
use denote.Ref.{Bor}
use Rattle.fault_view.specs.declared.fault_line.FaultLine.{FaultLine}
use Rattle.fault_view.specs.Inside.{IsNumber, BeginsWithNumber, HasNoNumber, IsFirstNumber}
use Rattle.fault_view.specs.Lines.{IsLineOf, IsNoFaultLine, IsReadAs}

-- std's own words for texts of digits
own : IsNumeralModel (AllDigits 10) (digits_value 10)
own = numerals_by_value (AllDigits 10) tells_digits

-- no digit is a colon
no_colon : (n : ℕ) → n < 2 ^ 32 → (i : ℕ) → i < length (decimal n) → get_or (decimal n) i 0 ≢ 58
no_colon n lt =
    not_in_digits own (decimal n) 58 (digits_decimal own n (omega arith)) (λ within. absurd (omega arith))

pub uncut_is_none : (text : List ℕ) → IsSplitOnceResult 58 text None → HasNoNumber text
uncut_is_none text cut n rest h = split_after 58 text (decimal n) rest None cut (lit< tt) h.1 (no_colon n h.0)

module _ (text : List ℕ) (digits rest : Bor (List ℕ)) (cut : IsSplitOnceResult 58 text (Some (digits, rest))) where
  -- a number that begins the text stands before its first colon
  sides : (n : ℕ) (more : List ℕ) → BeginsWithNumber text n more → (digits.now ≡ decimal n) × (rest.now ≡ more)
  sides n more h = split_after 58 text (decimal n) more (Some (digits, rest)) cut (lit< tt) h.1 (no_colon n h.0)

  pub unnumbered_is_none : IsNumber digits.now None → HasNoNumber text
  unnumbered_is_none none n more h = none n h.0 (sides n more h).0

  pub number_is_first : (n : ℕ) → IsNumber digits.now (Some n) → IsFirstNumber text n rest.now
  number_is_first n is = record {
    here = (
      is.0,
      (split_parts 58 text (Some (digits, rest)) cut (lit< tt)).0 ∙ ap (λ ds. ds ++ (58 ∷ rest.now)) is.1,
    );
    only = λ m more h.
        let two = sides m more h in
        (decimal_injective m n (omega (arith, h.0)) (omega (arith, is.0)) (sym two.0 ∙ is.1), sym two.1);
  }

-- what stands behind each part of a line
abbrev after_number : FaultLine → List ℕ
after_number f = 32 ∷ (f.what ++ (10 ∷ []))

abbrev after_error : FaultLine → List ℕ
after_error f = decimal f.number ++ (58 ∷ after_number f)

abbrev after_col : FaultLine → List ℕ
after_col f = codes " error " ++ after_error f

abbrev after_line : FaultLine → List ℕ
after_line f = decimal f.col ++ (58 ∷ after_col f)

abbrev after_path : FaultLine → List ℕ
after_path f = decimal f.line ++ (58 ∷ after_line f)

pub no_path : (text : List ℕ) → IsSplitOnceResult 58 text None → IsNoFaultLine text
no_path text cut f e = split_after 58 text f.path (after_path f) None cut (lit< tt) e.whole e.path

module _ (text : List ℕ) (path behind_path : Bor (List ℕ))
    (cut : IsSplitOnceResult 58 text (Some (path, behind_path))) where
  two_sides : (f : FaultLine) → IsLineOf text f → (path.now ≡ f.path) × (behind_path.now ≡ after_path f)
  two_sides f e = split_after 58 text f.path (after_path f) (Some (path, behind_path)) cut (lit< tt) e.whole e.path

  at_path : (f : FaultLine) → IsLineOf text f → behind_path.now ≡ after_path f
  at_path f e = (two_sides f e).1

  pub no_line : HasNoNumber behind_path.now → IsNoFaultLine text
  no_line none f e = none f.line (after_line f) (e.line, at_path f e)

  module _ (line : ℕ) (behind_line : List ℕ) (l : IsFirstNumber behind_path.now line behind_line) where
    at_line : (f : FaultLine) → IsLineOf text f → behind_line ≡ after_line f
    at_line f e = sym (l.only f.line (after_line f) (e.line, at_path f e)).1

    pub no_col : HasNoNumber behind_line → IsNoFaultLine text
    no_col none f e = none f.col (after_col f) (e.col, at_line f e)

    module _ (col : ℕ) (behind_col : List ℕ) (k : IsFirstNumber behind_line col behind_col) where
      at_col : (f : FaultLine) → IsLineOf text f → behind_col ≡ after_col f
      at_col f e = sym (k.only f.col (after_col f) (e.col, at_line f e)).1

      pub no_error : ((rest : List ℕ) → behind_col ≢ codes " error " ++ rest) → IsNoFaultLine text
      no_error none f e = none (after_error f) (at_col f e)

      module _ (behind_error : List ℕ) (p : behind_col ≡ codes " error " ++ behind_error) where
        at_error : (f : FaultLine) → IsLineOf text f → behind_error ≡ after_error f
        at_error f e = ap (λ xs. drop 7 xs) (sym p ∙ at_col f e)

        pub no_number : HasNoNumber behind_error → IsNoFaultLine text
        no_number none f e = none f.number (after_number f) (e.number, at_error f e)

        module _ (number : ℕ) (behind_number : List ℕ) (n : IsFirstNumber behind_error number behind_number) where
          at_number : (f : FaultLine) → IsLineOf text f → behind_number ≡ after_number f
          at_number f e = sym (n.only f.number (after_number f) (e.number, at_error f e)).1

          pub no_space : ((rest : List ℕ) → behind_number ≢ 32 ∷ rest) → IsNoFaultLine text
          no_space none f e = none (f.what ++ (10 ∷ [])) (at_number f e)

          module _ (ended : List ℕ) (s : behind_number ≡ 32 ∷ ended) where
            pub no_end : ((front : List ℕ) → ended ≢ front ++ (10 ∷ [])) → IsNoFaultLine text
            no_end none f e = none f.what (ap (λ xs. drop 1 xs) (sym s ∙ at_number f e))

            module _ (what : List ℕ) (w : ended ≡ what ++ (10 ∷ [])) where
              abbrev said : FaultLine
              said = record { path = path.now; line = line; col = col; number = number; what = what }

              said_here : IsUtf8 text → IsLineOf text said
              said_here utf8 =
                  let parts = split_parts 58 text (Some (path, behind_path)) cut (lit< tt) in
                  record {
                    whole =
                        parts.0 ∙ ap (λ xs. path.now ++ (58 ∷ xs)) (l.here.1
                        ∙ ap (λ xs. decimal line ++ (58 ∷ xs)) (k.here.1 ∙ ap (λ xs. decimal col ++ (58 ∷ xs)) (p
                        ∙ ap (λ xs. codes " error " ++ xs) (n.here.1 ∙ ap (λ xs. decimal number ++ (58 ∷ xs)) (s
                        ∙ ap (λ (xs : List ℕ). 32 ∷ xs) w)))));
                    utf8 = utf8;
                    path = parts.1;
                    line = l.here.0;
                    col = k.here.0;
                    number = n.here.0;
                  }

              said_only : (f : FaultLine) → IsLineOf text f → f ≡ said
              said_only f e =
                  let one = sym (two_sides f e).0 in
                  let two = (l.only f.line (after_line f) (e.line, at_path f e)).0 in
                  let three = (k.only f.col (after_col f) (e.col, at_line f e)).0 in
                  let four = (n.only f.number (after_number f) (e.number, at_error f e)).0 in
                  let five = append_cancel_right f.what what (10 ∷ [])
                  (sym (ap (λ xs. drop 1 xs) (sym s ∙ at_number f e)) ∙ w) in
                  λ i. record { path = one i; line = two i; col = three i; number = four i; what = five i }

              pub line_is : IsUtf8 text
                  → IsReadAs text (record { path = path.now; line = line; col = col; number = number; what = what })
              line_is utf8 = record { here = said_here utf8; only = said_only }
