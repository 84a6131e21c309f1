-- A list file means something: line after line is taken, up to the first that is wrong.
use Rattle.std.proofs.Common.{◌≡◌, ℕ, zero, suc, ◌+◌, ◌<◌, ◌≤◌, ◌⊎◌, inl, inr, List, [], ◌∷◌, ◌++◌, length, get_or}
use Rattle.std.proofs.Common.{take, refl, ap, sym, ◌∙◌, subst, arith}
use Rattle.std.specs.Prelude.{Result, Ok, Err}
use Rattle.std.specs.Str.Lines.{lines}
use Rattle.std.proofs.lemmas.List.{take_all, take_more, get_or_default}
use Rattle.bp_faults.specs.declared.fault.Fault.{Fault}
use Rattle.bp_load.specs.ListFile.{IsFirstListFault, LinesMean}
use Rattle.bp_load.specs.Listing.{Entries, with_line}
use Rattle.bp_load.specs.Laws.{SomeList}
use Rattle.bp_load.proofs.Listing.{Holds, holds_none, holds_more, files_held, first_fault}
use Rattle.bp_faults.specs.Phases.{HasOutcome}
use Rattle.bp_load.proofs.AsTexts.{some_text}
use Rattle.std.specs.Map.{values_of}

abbrev Taken : List (List ℕ) → ℕ → Type 0
Taken lines k = ((entries : Entries) × Holds (take k lines) entries) ⊎ ((fault : Fault) × IsFirstListFault lines fault)

taken : (lines : List (List ℕ)) (k : ℕ) → k ≤ length lines → Taken lines k
taken lines zero within = inl ([], holds_none)
taken lines (suc k) within = after (taken lines k (omega arith))
  where
    below : k < length lines
    below = omega arith

    line : List ℕ
    line = get_or lines k []

    here : line ≡ get_or lines k line
    here = sym (get_or_default lines k line [] below)

    front : take k lines ++ line ∷ [] ≡ take (suc k) lines
    front = let next : k + 1 ≡ suc k = omega arith in sym (take_more lines k [] below) ∙ ap (λ n. take n lines) next

    step : (entries : Entries) → Holds (take k lines) entries → (r : Result Entries Fault)
        → with_line k entries line ≡ r → Taken lines (suc k)
    step entries holds (Ok new) is =
        inl (new, subst (λ ls. Holds ls new) front (holds_more (take k lines) k entries new line holds is))
    step entries holds (Err fault) is = inr (fault, first_fault lines k entries line fault below here holds is)

    after : Taken lines k → Taken lines (suc k)
    after (inl held) = step held.0 held.1 (with_line k held.0 line) refl
    after (inr found) = inr found

some_lines : (lines : List (List ℕ)) → HasOutcome (LinesMean lines)
some_lines lines = by (taken lines (length lines) (omega arith))
  where
    by : Taken lines (length lines) → HasOutcome (LinesMean lines)
    by (inl held) = (
      Ok (values_of held.0),
      files_held lines held.0 (subst (λ ls. Holds ls held.0) (take_all (length lines) lines (omega arith)) held.1),
    )
    by (inr found) = (Err found.0, found.1)

pub some_list : SomeList
some_list bytes = some_text 0 bytes (LinesMean (lines bytes)) (some_lines (lines bytes))
