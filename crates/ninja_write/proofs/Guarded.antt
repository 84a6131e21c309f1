-- Paths are written with each delimiter behind a dollar.
use Rattle.std.proofs.Common.{◌≡◌, ℕ, Bool, true, false, List, [], ◌∷◌, ◌++◌, refl}
use Rattle.ninja_file.specs.declared.escape.Escape.TheVariants.{Path}
use Rattle.ninja_file.specs.Escapes.{is_escaped}
use Rattle.ninja_write.specs.Escaped.{escaped_byte, path_text}
use Rattle.ninja_write.specs.Laws.{IsGuarded, nothing, plain, pair}

guarded-byte : (b : ℕ) (rest : List ℕ) (e : Bool) → is_escaped Path b ≡ e → IsGuarded rest
    → IsGuarded (escaped_byte Path b ++ rest)
guarded-byte b rest true e h = rw e (pair b rest e h)
guarded-byte b rest false e h = rw e (plain b rest e h)

pub guarded : (path : List ℕ) → IsGuarded (path_text path)
guarded [] = nothing
guarded (b ∷ path) = guarded-byte b (path_text path) (is_escaped Path b) refl (guarded path)
