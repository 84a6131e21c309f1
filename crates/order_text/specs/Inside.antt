-- What the steps of reading a line come to. No public contract speaks of it.
use Rattle.std.specs.Prelude.{◌≡◌, ◌<◌, ◌^◌, ◌⊎◌, ℕ, List, [], ◌++◌, Option, Some, None}
use Rattle.std.specs.Fmt.{decimal}
use Rattle.order_text.specs.Lines.{HasNoLineEnd}
use Rattle.bp_faults.specs.Characters.{ended_line}

-- The number below 2^32 of which a text is the decimal, or none.
abbrev pub IsNumber : List ℕ → Option ℕ → Type 0
IsNumber text (Some n) = (n < 2 ^ 32) × (text ≡ decimal n)
IsNumber text None = (n : ℕ) → n < 2 ^ 32 → text ≡ decimal n → ⊥

-- The first line of some bytes, and what is behind it.
pub record IsFirstLine (bytes line rest : List ℕ) : Type 0 where
  pub apart : HasNoLineEnd line
  pub whole : (bytes ≡ ended_line line ++ rest) ⊎ ((bytes ≡ line) × (rest ≡ []))
