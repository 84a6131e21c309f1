-- Each path that a list means may be listed.
use Rattle.std.proofs.Common.{◌≡◌, inl, inr, ℕ, suc, Bool, true, false, List, [], ◌∷◌, get_or, subst, arith}
use Rattle.std.specs.Prelude.{IsTrue, Some, None, Ok, Err, ◌||◌, if◌then◌else◌}
use Rattle.std.proofs.lemmas.List.{get_or_default}
use Rattle.std.specs.List.{All, filter_map, cons_option}
use Rattle.bp_load.specs.ListFile.{is_blank, is_listed, is_sound, without_dots, listed_path, AreListed}
use Rattle.std.specs.Str.Lines.{lines}
use Rattle.bp_load.specs.Texts.{not_utf8}
use Rattle.bp_load.specs.Laws.{ListsWhatMayBe}
use Rattle.bp_load.proofs.Members.{Has, has_contained}

abbrev IsSound : List ℕ → Type 0
IsSound line = IsTrue (is_sound line)

listed_named : (ls : List (List ℕ)) (path : List ℕ) → All IsSound ls → Has (filter_map listed_path ls) path
    → IsTrue (is_listed path)
listed_named [] path sound has = absurd has
listed_named (line ∷ ls) path sound has =
    by (is_blank line) (sound 0 line (omega arith)) has
    (listed_named ls path (λ k d below. sound (suc k) d (omega arith)))
  where
    by : (blank : Bool) → IsTrue (blank || is_listed (without_dots line))
        → Has (cons_option (if blank then None else Some (without_dots line)) (filter_map listed_path ls)) path
        → (Has (filter_map listed_path ls) path → IsTrue (is_listed path)) → IsTrue (is_listed path)
    by true fine has more = more has
    by false fine (inl is) more = subst (λ p. IsTrue (is_listed p)) is fine
    by false fine (inr has) more = more has

listed_all : (ls paths : List (List ℕ)) → AreListed ls paths → All (λ path. IsTrue (is_listed path)) paths
listed_all ls paths listed k d below =
    let path : List ℕ = get_or paths k d in
    listed_named ls path listed.sound (has_contained (filter_map listed_path ls) path
    ((listed.members path).0 (k, below, get_or_default paths k path d below)))

pub lists_what_may_be : ListsWhatMayBe
lists_what_may_be bytes paths (inl text) = listed_all (lines bytes) paths text.1.listed
lists_what_may_be bytes paths (inr none) = let is : Ok paths ≡ Err (not_utf8 0 bytes) = none.1 in cc
