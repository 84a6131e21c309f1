-- A list file means one thing alone.
use Rattle.std.proofs.Common.{◌≡◌, ℕ, ◌+◌, ◌<◌, ◌≤◌, ◌⊎◌, inl, inr, ⊎_elim, false, true≢false, List, [], length, get_or}
use Rattle.std.proofs.Common.{take, drop, ap, sym, ◌∙◌, subst, arith}
use Rattle.std.specs.Prelude.{Result, Ok, Err, codes}
use Rattle.std.specs.List.{Contains, filter_map}
use Rattle.std.proofs.lemmas.Bool.{cases_order}
use Rattle.std.proofs.lemmas.List.{take-take, get_or-take, take-append-drop, length-take}
use Rattle.std.proofs.lemmas.List.Elements.{filter_map-append, Contains-append_left}
use Rattle.bp_faults.specs.declared.fault.Fault.{Fault}
use Rattle.bp_faults.specs.Faults.{fault_on}
use Rattle.bp_faults.specs.declared.kind.FaultKind.TheVariants.{BadList, TooMany}
use Rattle.bp_faults.specs.declared.limits.TheConstants.{MOST_FILES}
use Rattle.bp_load.specs.Directories.{directories, directory_cmp}
use Rattle.std.specs.Str.Lines.{lines}
use Rattle.bp_load.proofs.AsTexts.{as_text_once}
use Rattle.bp_load.specs.ListFile.{is_sound, listed_path, line_place, AreListed, AreFiles, IsWrongAt, IsFirstListFault}
use Rattle.bp_load.specs.ListFile.{LinesMean}
use Rattle.bp_load.proofs.Orders.{directories_total}
use Rattle.bp_load.proofs.Members.{Has, has_contained, contained_had}
use Rattle.bp_load.proofs.OneOrder.{same_ascending, no_more}
use Rattle.bp_load.specs.Laws.{OneList}

-- no line is wrong where all lines list files

named_in_front : (lines : List (List ℕ)) (n : ℕ) (q : List ℕ) → Contains (filter_map listed_path (take n lines)) q
    → Contains (filter_map listed_path lines) q
named_in_front lines n q has =
    subst (λ ps. Contains ps q) (sym (filter_map-append listed_path (take n lines) (drop n lines))
    ∙ ap (filter_map listed_path) (take-append-drop n lines))
    (Contains-append_left (filter_map listed_path (take n lines)) (filter_map listed_path (drop n lines)) q has)

no_wrong : (lines paths : List (List ℕ)) (at : ℕ) (fault : Fault) → AreFiles lines paths → at < length lines
    → IsWrongAt lines at fault → ⊥
no_wrong lines paths at fault files below (inl bad) = true≢false (sym (files.listed.sound at [] below) ∙ bad.0)
no_wrong lines paths at fault files below (inr many) =
    let within : length many.0 ≤ length paths =
    no_more directory_cmp directories_total directories paths many.0 many.1.order files.listed.order
    (λ q has. has_contained paths q ((files.listed.members q).1 (named_in_front lines (at + 1) q
    ((many.1.members q).0 (contained_had many.0 q has))))) in
    omega (arith, within, files.few, many.2)

-- what is wrong at a line is so in the lines up to it, and is one thing

abbrev Wrong : List ℕ → List (List ℕ) → ℕ → Fault → Type 0
Wrong line front at fault =
    ((is_sound line ≡ false) × (fault ≡ fault_on BadList (line_place at) line))
    ⊎ ((paths : List (List ℕ)) × AreListed front paths × (MOST_FILES < length paths)
    × (fault ≡ fault_on TooMany (line_place at) (codes "files")))

wrong_in_front : (lines : List (List ℕ)) (at n : ℕ) (fault : Fault) → at < n → IsWrongAt lines at fault
    → IsWrongAt (take n lines) at fault
wrong_in_front lines at n fault before wrong =
    subst (λ line. Wrong line (take (at + 1) (take n lines)) at fault) (sym (get_or-take n lines at [] before))
    (subst (λ front. Wrong (get_or lines at []) front at fault) (sym (take-take (at + 1) n lines (omega arith))) wrong)

not_listed : (lines paths : List (List ℕ)) (at : ℕ) → at < length lines → AreListed (take (at + 1) lines) paths
    → is_sound (get_or lines at []) ≡ false → ⊥
not_listed lines paths at below listed bad =
    true≢false (sym (listed.sound at [] (omega (arith, length-take (at + 1) lines)))
    ∙ ap is_sound (get_or-take (at + 1) lines at [] (omega arith)) ∙ bad)

one_wrong : (lines : List (List ℕ)) (at : ℕ) (a b : Fault) → at < length lines → IsWrongAt lines at a
    → IsWrongAt lines at b → a ≡ b
one_wrong lines at a b below (inl x) (inl y) = x.1 ∙ sym y.1
one_wrong lines at a b below (inl x) (inr y) = absurd (not_listed lines y.0 at below y.1 x.0)
one_wrong lines at a b below (inr x) (inl y) = absurd (not_listed lines x.0 at below x.1 y.0)
one_wrong lines at a b below (inr x) (inr y) = x.3 ∙ sym y.3

not_behind : (lines : List (List ℕ)) (a b : Fault) (first : IsFirstListFault lines a)
    (second : IsFirstListFault lines b) → first.at < second.at → ⊥
not_behind lines a b first second before =
    no_wrong (take second.at lines) second.before first.at a second.files
    (omega (arith, second.inside, length-take second.at lines))
    (wrong_in_front lines first.at second.at a before first.wrong)

one_fault : (lines : List (List ℕ)) (a b : Fault) → IsFirstListFault lines a → IsFirstListFault lines b → a ≡ b
one_fault lines a b first second =
    ⊎_elim
    (λ same.
    one_wrong lines second.at a b second.inside (subst (λ k. IsWrongAt lines k a) same first.wrong) second.wrong)
    (λ apart. ⊎_elim
    (λ before. absurd (not_behind lines a b first second before))
    (λ behind. absurd (not_behind lines b a second first behind))
    apart)
    (cases_order first.at second.at)

one_files : (lines a b : List (List ℕ)) → AreListed lines a → AreListed lines b → a ≡ b
one_files lines a b first second =
    same_ascending directory_cmp directories_total directories a b first.order second.order (kept a b first second)
    (kept b a second first)
  where
    kept : (xs ys : List (List ℕ)) → AreListed lines xs → AreListed lines ys → (q : List ℕ) → Has xs q → Has ys q
    kept xs ys mine other q has = has_contained ys q ((other.members q).1 ((mine.members q).0 (contained_had xs q has)))

lines_once : (lines : List (List ℕ)) (a b : Result (List (List ℕ)) Fault) → LinesMean lines a → LinesMean lines b
    → a ≡ b
lines_once lines (Ok x) (Ok y) first second = ap Ok (one_files lines x y first.listed second.listed)
lines_once lines (Ok x) (Err f) first second = absurd (no_wrong lines x second.at f first second.inside second.wrong)
lines_once lines (Err e) (Ok y) first second = absurd (no_wrong lines y first.at e second first.inside first.wrong)
lines_once lines (Err e) (Err f) first second = ap Err (one_fault lines e f first second)

pub one_list : OneList
one_list bytes a b = as_text_once 0 bytes (LinesMean (lines bytes)) (lines_once (lines bytes)) a b
