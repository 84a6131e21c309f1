-- What a value's written form stands for. Ninja manual, "Ninja file reference", "Lexical syntax": `$$`, `$ ` and `$:`
-- are the byte behind the dollar, `$name` and `${name}` a variable.
use Rattle.std.specs.Prelude.{ℕ, suc, List, [], ◌∷◌, ◌++◌, ◌==◌, Option, Some, None, option_map}
use Rattle.std.specs.Prelude.{option_and_then, if◌then◌else◌}
use Rattle.ninja_file.specs.Escapes.{is_escaped}
use Rattle.ninja_file.specs.Names.{is_name_byte, is_nil}
use Rattle.ninja_file.specs.declared.escape.Escape.TheVariants.{Path}
use Rattle.ninja_file.specs.declared.file.Piece.{Piece}
use Rattle.ninja_file.specs.declared.file.Piece.TheVariants.{Lit, Var}
use Rattle.bp_faults.specs.Characters.{dollar}

-- How many bytes of a name a text begins with.
abbrev pub name_length : List ℕ → ℕ
name_length [] = 0
name_length (b ∷ bytes) = if is_name_byte b then suc (name_length bytes) else 0

-- Where reading is: in text, behind a dollar, in a name of which so much is read, or in one between braces.
pub data Mode : Type 0 where
  in_text : Mode
  behind_dollar : Mode
  in_name : List ℕ → Mode
  in_braces : List ℕ → Mode

-- A byte before pieces. The text between two variables is one literal.
abbrev pub with_byte : ℕ → List Piece → List Piece
with_byte b [] = Lit (b ∷ []) ∷ []
with_byte b (Lit text ∷ pieces) = Lit (b ∷ text) ∷ pieces
with_byte b (Var name ∷ pieces) = Lit (b ∷ []) ∷ Var name ∷ pieces

-- A variable before pieces.
abbrev pub with_variable : List ℕ → Option (List Piece) → Option (List Piece)
with_variable name pieces = option_map (λ more. Var name ∷ more) pieces

-- A byte of text, with what is read behind it.
abbrev pub text_byte : ℕ → Option (List Piece) → Option (List Piece) → Option (List Piece)
text_byte b if_dollar if_text = if b == dollar then if_dollar else option_map (with_byte b) if_text

-- A byte behind a dollar that is no escape: a brace, or the first of a name.
abbrev pub name_start : ℕ → Option (List Piece) → Option (List Piece) → Option (List Piece)
name_start b if_brace if_name = if b == 123 then if_brace else (if is_name_byte b then if_name else None)

-- A byte behind a dollar: one that is written so, or the start of a variable.
abbrev pub dollar_byte : ℕ → Option (List Piece) → Option (List Piece) → Option (List Piece) → Option (List Piece)
dollar_byte b if_escaped if_brace if_name =
    if is_escaped Path b then option_map (with_byte b) if_escaped else name_start b if_brace if_name

-- The brace behind a name, which isn't empty.
abbrev pub closed_name : List ℕ → Option (List Piece) → Option (List Piece)
closed_name name if_closed = if is_nil name then None else with_variable name if_closed

-- A byte behind a brace: the other brace, or one more of the name.
abbrev pub brace_byte : ℕ → List ℕ → Option (List Piece) → Option (List Piece) → Option (List Piece)
brace_byte b name if_closed if_name =
    if b == 125 then closed_name name if_closed else (if is_name_byte b then if_name else None)

-- The pieces of a text, from a mode on. There are none where a dollar stands before anything else.
abbrev pub pieces_from : Mode → List ℕ → Option (List Piece)
pieces_from in_text [] = Some []
pieces_from behind_dollar [] = None
pieces_from (in_name name) [] = with_variable name (Some [])
pieces_from (in_braces name) [] = None
pieces_from in_text (b ∷ bytes) = text_byte b (pieces_from behind_dollar bytes) (pieces_from in_text bytes)
pieces_from behind_dollar (b ∷ bytes) =
    dollar_byte b (pieces_from in_text bytes) (pieces_from (in_braces []) bytes) (pieces_from (in_name (b ∷ [])) bytes)
pieces_from (in_name name) (b ∷ bytes) =
    if is_name_byte b then pieces_from (in_name (name ++ b ∷ [])) bytes
    else with_variable name (text_byte b (pieces_from behind_dollar bytes) (pieces_from in_text bytes))
pieces_from (in_braces name) (b ∷ bytes) =
    brace_byte b name (pieces_from in_text bytes) (pieces_from (in_braces (name ++ b ∷ [])) bytes)

-- The value of a rule's key.
abbrev pub pieces_of : List ℕ → Option (List Piece)
pieces_of written = pieces_from in_text written

-- Outside a rule there are no variables.
abbrev pub literal : List Piece → Option (List ℕ)
literal [] = Some []
literal (Lit text ∷ []) = Some text
literal (Lit text ∷ piece ∷ pieces) = None
literal (Var name ∷ pieces) = None

-- The value of a statement's variable.
abbrev pub value_of : List ℕ → Option (List ℕ)
value_of written = option_and_then literal (pieces_of written)
