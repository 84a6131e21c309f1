-- One more item of a list that a loop goes through.
use Rattle.std.proofs.Common.{◌≡◌, ℕ, ◌+◌, ◌<◌, List, [], ◌∷◌, ◌++◌, length, get_or, map, take, drop, ap, ◌∙◌, add-one}
use Rattle.std.proofs.lemmas.List.{take_more, map-append}
use Rattle.std.proofs.Math.Seq.{drop-cons}

pub map_take_more : {X Y : Type 0} (f : X → Y) (xs : List X) (i : ℕ) (d : X) → i < length xs
    → map f (take (i + 1) xs) ≡ map f (take i xs) ++ f (get_or xs i d) ∷ []
map_take_more f xs i d h = ap (map f) (take_more xs i d h) ∙ map-append f (take i xs) (get_or xs i d ∷ [])

pub map_drop_cons : {X Y : Type 0} (f : X → Y) (xs : List X) (i : ℕ) (d : X) → i < length xs
    → map f (drop i xs) ≡ f (get_or xs i d) ∷ map f (drop (i + 1) xs)
map_drop_cons f xs i d h = rw add-one (ap (map f) (drop-cons xs i d h))
