-- Lists in which nothing stands twice.
use Rattle.std.specs.Prelude.{List, [], ◌∷◌, ◌++◌, Bool, true, not, ◌&&◌}
use Rattle.std.specs.List.{list_any}

-- No element is the same as one before it, behind others that stood before.
abbrev pub has_none_twice : {X : Type 0} → (X → X → Bool) → List X → List X → Bool
has_none_twice same before [] = true
has_none_twice same before (x ∷ xs) =
    not (list_any (λ y. same y x) before) && has_none_twice same (before ++ x ∷ []) xs
