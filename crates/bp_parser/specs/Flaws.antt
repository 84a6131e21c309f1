-- What is wrong where the words of a file have no tree.
use Rattle.std.specs.Prelude.{◌≡◌, ℕ, ◌+◌, ◌<◌, ◌≤◌, Bool, true, false, List, ◌∷◌, ◌++◌, length, take, drop}
use Rattle.std.specs.List.{count_by, Contains}
use Rattle.bp_faults.specs.declared.limits.TheConstants.{DEEPEST_NESTING}
use Rattle.bp_faults.specs.declared.place.Place.{Place}
use Rattle.bp_lexer.specs.declared.token.Punct.TheVariants.{OpenBrace, CloseBrace, OpenBracket, CloseBracket, Colon}
use Rattle.bp_lexer.specs.declared.token.Punct.TheVariants.{Comma}
use Rattle.bp_lexer.specs.declared.token.TokenKind.{TokenKind}
use Rattle.bp_lexer.specs.declared.token.TokenKind.TheVariants.{Ident, Punct as Mark}
use Rattle.bp_parser.specs.declared.flaw.Flaw.{Flaw}
use Rattle.bp_parser.specs.declared.flaw.Flaw.TheVariants.{Unexpected, TooNested, Duplicate}
use Rattle.bp_parser.specs.Trees.{Entries, no_entry, entry_and, Definition}
use Rattle.bp_parser.specs.Names.{entry_names}
use Rattle.bp_parser.specs.Words.{Word}
use Rattle.bp_parser.specs.Grammar.{IsWord, IsMark, Spells, SpellsFile}

-- Some file's words begin so.
abbrev pub BeginsAFile : List Word → Type 0
BeginsAFile front = (rest : List Word) × (ds : List Definition) × SpellsFile ds (front ++ rest)

-- The first word such that the words up to it, itself included, begin no file's words; or the end, where
-- the words begin a file's but are none.
pub record IsUnexpected (ws : List Word) (k : ℕ) : Type 0 where
  pub within : k ≤ length ws
  pub before : BeginsAFile (take k ws)
  pub word : k < length ws → BeginsAFile (take (k + 1) ws) → ⊥
  pub end : k ≡ length ws → (ds : List Definition) → SpellsFile ds ws → ⊥

-- A bracket that opens, and one that closes.
abbrev pub is_opening : TokenKind → Bool
is_opening (Mark OpenBrace) = true
is_opening (Mark OpenBracket) = true
is_opening _ = false

-- A bracket that closes.
abbrev pub closes : TokenKind → Bool
closes (Mark CloseBrace) = true
closes (Mark CloseBracket) = true
closes _ = false

-- A bracket before which as many are open as may be. The words up to it, itself included, begin a file's.
pub record IsTooNested (ws : List Word) (k : ℕ) : Type 0 where
  pub bracket : Word
  pub at : drop k ws ≡ bracket ∷ drop (k + 1) ws
  pub opening : is_opening bracket.kind ≡ true
  pub open_before : count_by (λ w. is_opening w.kind) (take k ws)
      ≡ count_by (λ w. closes w.kind) (take k ws) + DEEPEST_NESTING
  pub expected : BeginsAFile (take (k + 1) ws)

-- Entries, each with a comma behind it, and then rest.
abbrev pub SpellsFirst : Entries → List Word → List Word → Type 0
SpellsFirst no_entry ts rest = ts ≡ rest
SpellsFirst (entry_and name at x es) ts rest =
    (colon next comma mid : List Word) × IsWord Ident at name ts colon × IsMark Colon colon next
    × Spells x next comma × IsMark Comma comma mid × SpellsFirst es mid rest

-- A name that its map already has: behind the map's brace stand entries, each with a comma behind it, one of
-- them with the name, and then the name.
pub record IsRepeated (ws : List Word) (k : ℕ) : Type 0 where
  pub brace : ℕ
  pub inner : List Word
  pub opened : IsMark OpenBrace (drop brace ws) inner
  pub before : Entries
  pub spelled : SpellsFirst before inner (drop k ws)
  pub name : List ℕ
  pub place : Place
  pub at : IsWord Ident place name (drop k ws) (drop (k + 1) ws)
  pub again : Contains (entry_names before) name

-- Such a name. The words up to it, itself included, begin a file's.
pub record IsDuplicate (ws : List Word) (k : ℕ) : Type 0 where
  pub repeated : IsRepeated ws k
  pub expected : BeginsAFile (take (k + 1) ws)

-- There is such a flaw.
abbrev pub IsFlaw : List Word → Flaw → Type 0
IsFlaw ws (Unexpected k) = IsUnexpected ws k
IsFlaw ws (TooNested k) = IsTooNested ws k
IsFlaw ws (Duplicate k) = IsDuplicate ws k

-- At which word a flaw is.
abbrev pub index_of : Flaw → ℕ
index_of (Unexpected k) = k
index_of (TooNested k) = k
index_of (Duplicate k) = k

-- There is such a flaw, and none before it.
abbrev pub IsFirstFlaw : List Word → Flaw → Type 0
IsFirstFlaw ws flaw = IsFlaw ws flaw × ((other : Flaw) → index_of other < index_of flaw → IsFlaw ws other → ⊥)
