-- Words in a row, each after a space.
use Rattle.std.proofs.Common.{◌≡◌, ◌++◌, ℕ, List, [], ◌∷◌, Bor, refl, map, sym, ap}
use Rattle.std.specs.Prelude.{codes}
use Rattle.std.specs.List.{flat_map}
use Rattle.std.proofs.lemmas.List.Folds.{flat_map-map}
use Rattle.build_parts.specs.Variables.{include_word}

-- words behind a line, seen through references to them
pub spaced_words : (words : List (Bor (List ℕ)))
    → flat_map (λ (word : Bor (List ℕ)). codes " " ++ word.now) words
    ≡ flat_map (λ word. codes " " ++ word) (map (λ (word : Bor (List ℕ)). word.now) words)
spaced_words [] = refl
spaced_words (word ∷ words) = ap (λ line. (codes " " ++ word.now) ++ line) (spaced_words words)

-- the words of include directories, each after a space
pub spaced_includes : (paths : List (List ℕ))
    → flat_map (λ path. codes " " ++ include_word path) paths
    ≡ flat_map (λ word. codes " " ++ word) (map include_word paths)
spaced_includes paths = sym (flat_map-map (λ word. codes " " ++ word) include_word paths)
