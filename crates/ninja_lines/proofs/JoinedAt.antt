-- What the line at an index begins.
use Rattle.std.proofs.Common.{◌≡◌, ℕ, ◌+◌, ◌<◌, true, false, List, [], ◌∷◌, ◌++◌, length, drop, get_or, add-one}
use Rattle.std.proofs.Common.{drop-cons, Some, None, ap, sym, ◌∙◌, refl, arith}
use Rattle.std.specs.Borrow.{Bor}
use Rattle.std.specs.Str.{is_utf8}
use Rattle.std.proofs.lemmas.List.{get_or-map, length-map}
use Rattle.ninja_lines.specs.declared.line.Line.{Line}
use Rattle.ninja_lines.specs.Meaning.{JoinedLine, glue, joined_from, dangles, without_last, drop_spaces}
use Rattle.ninja_lines.specs.Shown.{texts, shown_line}
use Rattle.ninja_lines.specs.Inside.{IsNextLine}
use Rattle.ninja_lines.proofs.Glue.{glue_twice, dangles_spaces, without_last_spaces}

-- the text of the line at an index
pub text_at : (lines : List (Bor (List ℕ))) (i : ℕ) (d : Bor (List ℕ)) → i < length lines
    → get_or (texts lines) i [] ≡ (get_or lines i d).now
text_at lines i d h = get_or-map (λ l. l.now) lines i d [] h

at : (lines : List (Bor (List ℕ))) (i : ℕ) (d : Bor (List ℕ)) → i < length lines → joined_from (i + 1)
    (drop i (texts lines)) ≡ joined_from (i + 1) ((get_or lines i d).now ∷ drop (i + 1) (texts lines))
at lines i d h =
    let within : i < length (texts lines) = simp length-map h in
    ap (joined_from (i + 1)) (drop-cons (texts lines) i [] within ∙ ap (λ j. get_or (texts lines) i []
    ∷ drop j (texts lines)) (sym (add-one i)) ∙ ap (λ x. x ∷ drop (i + 1) (texts lines)) (text_at lines i d h))

-- the joined lines behind an index
abbrev behind : List (Bor (List ℕ)) → ℕ → List JoinedLine
behind lines i = joined_from (i + 1 + 1) (drop (i + 1) (texts lines))

abbrev Begins : List (Bor (List ℕ)) → ℕ → List JoinedLine → Type 0
Begins lines i found = joined_from (i + 1) (drop i (texts lines)) ≡ found

not_text_at : (lines : List (Bor (List ℕ))) (i : ℕ) (d : Bor (List ℕ)) → i < length lines
    → is_utf8 (get_or lines i d).now ≡ false → Begins lines i (record { number = i + 1; text = None } ∷ behind lines i)
not_text_at lines i d h bad = at lines i d h ∙ rw bad refl

whole_at : (lines : List (Bor (List ℕ))) (i : ℕ) (d : Bor (List ℕ)) → i < length lines
    → is_utf8 (get_or lines i d).now ≡ true → dangles false (get_or lines i d).now ≡ false
    → Begins lines i (record { number = i + 1; text = Some (get_or lines i d).now } ∷ behind lines i)
whole_at lines i d h good whole = at lines i d h ∙ rw (good, whole) refl

glued_at : (lines : List (Bor (List ℕ))) (i : ℕ) (d : Bor (List ℕ)) → i < length lines
    → is_utf8 (get_or lines i d).now ≡ true → dangles false (get_or lines i d).now ≡ true
    → Begins lines i (glue (i + 1) (without_last (get_or lines i d).now) (behind lines i))
glued_at lines i d h good joins = at lines i d h ∙ rw (good, joins) refl

-- one line is a joined line
pub one_not_text : (lines : List (Bor (List ℕ))) (i : ℕ) (d : Bor (List ℕ)) (line : Line) → i < length lines
    → is_utf8 (get_or lines i d).now ≡ false → shown_line line ≡ record { number = i + 1; text = None }
    → IsNextLine lines i line (i + 1)
one_not_text lines i d line h bad is = record {
  more = omega arith;
  within = omega arith;
  same = not_text_at lines i d h bad ∙ ap (λ x. x ∷ behind lines i) (sym is);
}

pub one_whole : (lines : List (Bor (List ℕ))) (i : ℕ) (d : Bor (List ℕ)) (line : Line) (text : List ℕ)
    → i < length lines → is_utf8 (get_or lines i d).now ≡ true → text ≡ (get_or lines i d).now
    → dangles false text ≡ false → shown_line line ≡ record { number = i + 1; text = Some text }
    → IsNextLine lines i line (i + 1)
one_whole lines i d line text h good same whole is =
    let shown : shown_line line ≡ record { number = i + 1; text = Some (get_or lines i d).now } =
    is ∙ ap (λ t. record { number = i + 1; text = Some t }) same in
    record {
      more = omega arith;
      within = omega arith;
      same =
          whole_at lines i d h good (ap (dangles false) (sym same) ∙ whole) ∙ ap (λ x. x ∷ behind lines i) (sym shown);
    }

-- what was joined so far, before the joined line that begins at an index
abbrev pub IsOpen : List (Bor (List ℕ)) → ℕ → List ℕ → ℕ → Type 0
IsOpen lines first text i =
    joined_from (first + 1) (drop first (texts lines))
    ≡ glue (first + 1) text (joined_from (i + 1) (drop i (texts lines)))

pub closed_by_not_text : (lines : List (Bor (List ℕ))) (first i : ℕ) (text : List ℕ) (d : Bor (List ℕ)) (line : Line)
    → first < i → i < length lines → IsOpen lines first text i → is_utf8 (get_or lines i d).now ≡ false
    → shown_line line ≡ record { number = i + 1; text = None } → IsNextLine lines first line (i + 1)
closed_by_not_text lines first i text d line less h open_ bad is = record {
  more = omega arith;
  within = omega arith;
  same = open_ ∙ ap (glue (first + 1) text) (not_text_at lines i d h bad) ∙ ap (λ x. x ∷ behind lines i) (sym is);
}

pub closed_by_line : (lines : List (Bor (List ℕ))) (first i : ℕ) (text rest whole : List ℕ) (d : Bor (List ℕ))
    (line : Line) → first < i → i < length lines → IsOpen lines first text i → is_utf8 (get_or lines i d).now ≡ true
    → rest ≡ drop_spaces (get_or lines i d).now → dangles false rest ≡ false → whole ≡ text ++ rest
    → shown_line line ≡ record { number = first + 1; text = Some whole } → IsNextLine lines first line (i + 1)
closed_by_line lines first i text rest whole d line less h open_ good same ends put is =
    let plain : dangles false (get_or lines i d).now ≡ false =
    sym (dangles_spaces (get_or lines i d).now) ∙ ap (dangles false) (sym same) ∙ ends in
    let shown : shown_line line
    ≡ record { number = first + 1; text = Some (text ++ drop_spaces (get_or lines i d).now) } =
    is
    ∙ ap (λ t. record { number = first + 1; text = Some t }) (put ∙ ap (λ t. text ++ t) same) in
    record {
      more = omega arith;
      within = omega arith;
      same =
          open_
          ∙ ap (glue (first + 1) text) (whole_at lines i d h good plain)
          ∙ ap (λ x. x ∷ behind lines i) (sym shown);
    }

pub stays_open : (lines : List (Bor (List ℕ))) (first i : ℕ) (text rest front whole : List ℕ) (d : Bor (List ℕ))
    → i < length lines → IsOpen lines first text i → is_utf8 (get_or lines i d).now ≡ true
    → rest ≡ drop_spaces (get_or lines i d).now → dangles false rest ≡ true → front ≡ without_last rest
    → whole ≡ text ++ front → IsOpen lines first whole (i + 1)
stays_open lines first i text rest front whole d h open_ good same joins is put =
    let line : List ℕ = (get_or lines i d).now in
    let more : dangles false line ≡ true = sym (dangles_spaces line) ∙ ap (dangles false) (sym same) ∙ joins in
    let part : whole ≡ text ++ drop_spaces (without_last line) =
    put ∙ ap (λ t. text ++ t) (is ∙ ap without_last same ∙ without_last_spaces line more) in
    open_
    ∙ ap (glue (first + 1) text) (glued_at lines i d h good more)
    ∙ glue_twice (first + 1) (i + 1) text (without_last line) (behind lines i)
    ∙ ap (λ t. glue (first + 1) t (behind lines i)) (sym part)
