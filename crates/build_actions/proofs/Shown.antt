-- Texts that a file for Ninja can hold.
use Rattle.std.proofs.Common.{◌≡◌, ◌++◌, ◌==◌, not, cond, suc, length, ℕ, Bool, true, false, List, [], ◌∷◌, map, refl}
use Rattle.std.proofs.Common.{arith, subst}
use Rattle.std.specs.Prelude.{codes}
use Rattle.std.specs.List.{AllByRecursion, flat_map, list_all}
use Rattle.std.specs.Fmt.{decimal}
use Rattle.std.proofs.lemmas.Bool.Decides.{nat_tests}
use Rattle.std.proofs.lemmas.Bool.{and_parts, and_from}
use Rattle.std.proofs.lemmas.List.{append-nil}
use Rattle.bp_faults.specs.declared.target.Target.TheVariants as T
use Rattle.bp_faults.proofs.Lists.{all_append}
use Rattle.graph_nodes.specs.declared.variation.Variation.{Variation}
use Rattle.graph_nodes.specs.declared.variation.Variation.TheVariants.{Empty, Target as For, Common, Vendor, Recovery}
use Rattle.graph_nodes.specs.declared.variation.Variation.TheVariants.{Static, Shared, PerSource, Asan}
use Rattle.graph_nodes.specs.Names.{is_label_byte}
use Rattle.graph_nodes.specs.Laws.{VariantNamesArePlain}
use Rattle.ninja_file.specs.Names.{is_shown, is_value, is_path}
use Rattle.build_parts.specs.Variables.{word_line, target_word, target_by, level_words, include_word}
use Rattle.build_actions.specs.Writable.{has_shown_bytes}

-- a byte of no control character
abbrev pub IsShown : ℕ → Type 0
IsShown b = is_shown b ≡ true

-- a byte that may stand in a path
abbrev pub IsClear : ℕ → Type 0
IsClear b = IsShown b × (not (b == 124) ≡ true)

abbrev pub Shown : List ℕ → Type 0
Shown text = AllByRecursion IsShown text

abbrev pub Clear : List ℕ → Type 0
Clear text = AllByRecursion IsClear text

abbrev pub IsPath : List ℕ → Type 0
IsPath path = is_path path ≡ true

pub shown_of : (text : List ℕ) → has_shown_bytes text ≡ true → Shown text
shown_of [] h = tt
shown_of (b ∷ text) h = let s = and_parts (is_shown b) (list_all is_shown text) h in (s.0, shown_of text s.1)

bytes_shown : (text : List ℕ) → Shown text → list_all is_shown text ≡ true
bytes_shown [] h = refl
bytes_shown (b ∷ text) h = and_from (is_shown b) (list_all is_shown text) h.0 (bytes_shown text h.1)

not_zero : (n : ℕ) → not (suc n == 0) ≡ true
not_zero n = grind (arith, nat_tests)

-- a value: a text without control characters that isn't empty
pub value_of : (b : ℕ) (text : List ℕ) → Shown (b ∷ text) → is_value (b ∷ text) ≡ true
value_of b text h =
    and_from (not (suc (length text) == 0)) (list_all is_shown (b ∷ text)) (not_zero (length text))
    (bytes_shown (b ∷ text) h)

no_bars : (text : List ℕ) → Clear text → list_all (λ b. not (b == 124)) text ≡ true
no_bars [] h = refl
no_bars (b ∷ text) h = and_from (not (b == 124)) (list_all (λ b. not (b == 124)) text) h.0.1 (no_bars text h.1)

pub clear_shown : (text : List ℕ) → Clear text → Shown text
clear_shown [] h = tt
clear_shown (b ∷ text) h = (h.0.0, clear_shown text h.1)

pub path_of : (b : ℕ) (text : List ℕ) → Clear (b ∷ text) → IsPath (b ∷ text)
path_of b text h =
    and_from (is_value (b ∷ text)) (list_all (λ b. not (b == 124)) (b ∷ text))
    (value_of b text (clear_shown (b ∷ text) h)) (no_bars (b ∷ text) h)

clear_both : (text : List ℕ) → list_all is_shown text ≡ true → list_all (λ b. not (b == 124)) text ≡ true → Clear text
clear_both [] h k = tt
clear_both (b ∷ text) h k =
    let s = and_parts (is_shown b) (list_all is_shown text) h in
    let t = and_parts (not (b == 124)) (list_all (λ b. not (b == 124)) text) k in
    ((s.0, t.0), clear_both text s.1 t.1)

pub path_clear : (text : List ℕ) → IsPath text → Clear text
path_clear [] h = tt
path_clear (b ∷ text) h =
    let s = and_parts (is_value (b ∷ text)) (list_all (λ b. not (b == 124)) (b ∷ text)) h in
    let v = and_parts (not (suc (length text) == 0)) (list_all is_shown (b ∷ text)) s.0 in
    clear_both (b ∷ text) v.1 s.1

-- a text that is written out
pub clear_if : (text : List ℕ) → list_all is_shown text ≡ true → list_all (λ b. not (b == 124)) text ≡ true → Clear text
clear_if = clear_both

pub clear_append : (a b : List ℕ) → Clear a → Clear b → Clear (a ++ b)
clear_append a b h k = all_append IsClear a b h k

pub shown_append : (a b : List ℕ) → Shown a → Shown b → Shown (a ++ b)
shown_append a b h k = all_append IsShown a b h k

plain_clear_byte : (c : ℕ) → is_label_byte c ≡ true → IsClear c
plain_clear_byte c h = (grind (arith, nat_tests), grind (arith, nat_tests))

pub plain_clear : (text : List ℕ) → AllByRecursion (λ c. is_label_byte c ≡ true) text → Clear text
plain_clear [] h = tt
plain_clear (c ∷ text) h = (plain_clear_byte c h.0, plain_clear text h.1)

-- words in a row
behind_shown : (words : List (List ℕ)) → AllByRecursion Shown words → Shown (flat_map (λ w. codes " " ++ w) words)
behind_shown [] h = tt
behind_shown (w ∷ words) h = (refl, shown_append w (flat_map (λ w. codes " " ++ w) words) h.0 (behind_shown words h.1))

pub joined_shown : (words : List (List ℕ)) → AllByRecursion Shown words → Shown (word_line words)
joined_shown [] h = tt
joined_shown (w ∷ words) h = shown_append w (flat_map (λ w. codes " " ++ w) words) h.0 (behind_shown words h.1)

pub target_shown : (v : Variation) → Shown (target_by v)
target_shown Empty = tt
target_shown (For T.AndroidArm64) = shown_of (target_word T.AndroidArm64) refl
target_shown (For T.AndroidArm) = shown_of (target_word T.AndroidArm) refl
target_shown (For T.AndroidX86_64) = shown_of (target_word T.AndroidX86_64) refl
target_shown (For T.AndroidX86) = shown_of (target_word T.AndroidX86) refl
target_shown (For T.LinuxGlibcX86_64) = shown_of (target_word T.LinuxGlibcX86_64) refl
target_shown (For T.LinuxGlibcX86) = shown_of (target_word T.LinuxGlibcX86) refl
target_shown Common = tt
target_shown Vendor = tt
target_shown Recovery = tt
target_shown Static = tt
target_shown Shared = tt
target_shown (PerSource n) = tt
target_shown Asan = tt

-- a number, which is part of some variant's name
decimal_shown : VariantNamesArePlain → (n : ℕ) → Shown (decimal n)
decimal_shown plain n =
    (clear_shown (codes "t" ++ decimal n)
    (plain_clear (codes "t" ++ decimal n) (subst (λ l. AllByRecursion (λ c. is_label_byte c ≡ true) l)
    (append-nil (codes "t" ++ decimal n)) (plain (PerSource n ∷ []))))).1

pub level_shown : VariantNamesArePlain → (level : ℕ) → AllByRecursion Shown (level_words level)
level_shown plain level = by (level == 10000)
  where
    word : Shown (codes "-DMIN_SDK=" ++ decimal level)
    word =
        shown_append (codes "-DMIN_SDK=") (decimal level) (shown_of (codes "-DMIN_SDK=") refl)
        (decimal_shown plain level)

    by : (b : Bool) → AllByRecursion Shown (cond b [] ((codes "-DMIN_SDK=" ++ decimal level) ∷ []))
    by true = tt
    by false = (word, tt)

include_shown : (path : List ℕ) → Shown path → Shown (include_word path)
include_shown [] h = shown_of (codes "-I.") refl
include_shown (b ∷ path) h = shown_append (codes "-I") (b ∷ path) (shown_of (codes "-I") refl) h

pub includes_shown : (paths : List (List ℕ)) → AllByRecursion Shown paths
    → AllByRecursion Shown (map include_word paths)
includes_shown [] h = tt
includes_shown (path ∷ paths) h = (include_shown path h.0, includes_shown paths h.1)
