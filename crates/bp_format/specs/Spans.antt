-- The span of a text that a new list takes.
use Rattle.std.specs.Prelude.{ℕ, ◌+◌, ◌-◌, Bool, ◌&&◌, ◌==◌, if◌then◌else◌, List, [], ◌∷◌, Option, Some, None}
use Rattle.bp_faults.specs.declared.place.Place.{Place}
use Rattle.bp_lexer.specs.declared.token.Token.{Token}
use Rattle.bp_format.specs.declared.spot.Spot.{Spot}
use Rattle.bp_format.specs.declared.spot.Spot.TheVariants.{Instead, Behind}
use Rattle.bp_format.specs.Layout.{opens_any, closes_any}

-- The token stands at a place. All tokens of a text are in one file.
abbrev pub is_at : Place → Token → Bool
is_at place t = (t.place.line == place.line) && (t.place.col == place.col)

-- The first token at a place, and those behind it.
abbrev pub from_place : Place → List Token → List Token
from_place place [] = []
from_place place (t ∷ ts) = if is_at place t then t ∷ ts else from_place place ts

-- The bracket that closes, where so many further ones are open.
abbrev pub closing : ℕ → List Token → Option Token
closing depth [] = None
closing depth (t ∷ ts) =
    if opens_any t.kind then closing (depth + 1) ts
    else if closes_any t.kind then (if depth == 0 then Some t else closing (depth - 1) ts)
    else closing depth ts

-- From a token up to the end of another.
abbrev pub up_to : Token → Option Token → Option (ℕ × ℕ)
up_to t None = None
up_to t (Some u) = Some (t.start, u.end)

-- The list that begins with the first token.
abbrev pub list_span : List Token → Option (ℕ × ℕ)
list_span [] = None
list_span (t ∷ ts) = up_to t (closing 0 ts)

-- Nothing, behind the first token.
abbrev pub end_span : List Token → Option (ℕ × ℕ)
end_span [] = None
end_span (t ∷ ts) = Some (t.end, t.end)

-- From the list's bracket to the one that closes it; or nothing, behind the string.
abbrev pub span : Spot → List Token → Option (ℕ × ℕ)
span (Instead place) ts = list_span (from_place place ts)
span (Behind place) ts = end_span (from_place place ts)
