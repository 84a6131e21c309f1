-- What may come next, word by word. No public contract speaks of it: the functions that read say by it how far they
-- came.
use Rattle.std.specs.Prelude.{◌≡◌, ℕ, suc, ◌+◌, ◌==◌, Bool, true, false, List, [], ◌∷◌, ◌++◌, Option, Some, None, ⊤}
use Rattle.std.specs.Prelude.{drop, if◌then◌else◌}
use Rattle.std.specs.List.{list_any}
use Rattle.std.specs.Str.{bytes_eq}
use Rattle.bp_faults.specs.declared.limits.TheConstants.{DEEPEST_NESTING}
use Rattle.bp_lexer.specs.declared.token.Punct.TheVariants.{OpenBrace, CloseBrace, OpenBracket, CloseBracket, Colon}
use Rattle.bp_lexer.specs.declared.token.Punct.TheVariants.{Comma, Equal, PlusEqual, Plus}
use Rattle.bp_lexer.specs.declared.token.TokenKind.{TokenKind}
use Rattle.bp_lexer.specs.declared.token.TokenKind.TheVariants.{Ident, Int, Quoted, Raw, Punct as Mark}
use Rattle.bp_parser.specs.declared.flaw.Flaw.{Flaw}
use Rattle.bp_parser.specs.declared.flaw.Flaw.TheVariants.{Unexpected, TooNested, Duplicate}
use Rattle.bp_parser.specs.declared.stop.Stop.{Stop}
use Rattle.bp_parser.specs.declared.stop.Stop.TheVariants.{Bad, OutOfMemory}
use Rattle.bp_parser.specs.Words.{Word, is_truth}
use Rattle.bp_parser.specs.Flaws.{IsRepeated}

-- What is expected; a map knows the names that it has.
pub data Part : Type 0 where
  an_expr : Part
  more_terms : Part
  items : Part
  more_items : Part
  a_colon : Part
  entries : List (List ℕ) → Part
  more_entries : List (List ℕ) → Part
  a_value : Part

-- What is expected, and these parts behind it.
abbrev pub with_rest : Option (List Part) → List Part → Option (List Part)
with_rest None parts = None
with_rest (Some new) parts = Some (new ++ parts)

-- What is expected behind a word that begins an expression, or none if none begins with it.
abbrev pub behind_first : TokenKind → List ℕ → Option (List Part)
behind_first Ident n = Some (more_terms ∷ [])
behind_first Int n = Some (more_terms ∷ [])
behind_first Quoted n = Some (more_terms ∷ [])
behind_first Raw n = Some (more_terms ∷ [])
behind_first (Mark OpenBracket) n = Some (items ∷ more_terms ∷ [])
behind_first (Mark OpenBrace) n = Some (entries [] ∷ more_terms ∷ [])
behind_first _ n = None

-- What is expected behind a word, or none if the word is unexpected. The items of a list go on behind an expression.
abbrev pub expected_behind : Part → TokenKind → List ℕ → Option (List Part)
expected_behind an_expr k n = behind_first k n
expected_behind more_terms _ n = None
expected_behind items (Mark CloseBracket) n = Some []
expected_behind items k n = with_rest (behind_first k n) (more_items ∷ [])
expected_behind more_items (Mark CloseBracket) n = Some []
expected_behind more_items (Mark Comma) n = Some (items ∷ [])
expected_behind more_items _ n = None
expected_behind a_colon (Mark Colon) n = Some []
expected_behind a_colon _ n = None
expected_behind (entries names) (Mark CloseBrace) n = Some []
expected_behind (entries names) Ident n = Some (a_colon ∷ an_expr ∷ more_entries (names ++ n ∷ []) ∷ [])
expected_behind (entries names) _ n = None
expected_behind (more_entries names) (Mark CloseBrace) n = Some []
expected_behind (more_entries names) (Mark Comma) n = Some (entries names ∷ [])
expected_behind (more_entries names) _ n = None
expected_behind a_value (Mark Equal) n = Some (an_expr ∷ [])
expected_behind a_value (Mark PlusEqual) n = Some (an_expr ∷ [])
expected_behind a_value (Mark OpenBrace) n = Some (entries [] ∷ [])
expected_behind a_value _ n = None

-- The word is a plus.
abbrev pub is_plus : TokenKind → Bool
is_plus (Mark Plus) = true
is_plus _ = false

-- What is expected behind the word that begins a definition.
abbrev pub begin_def : TokenKind → List ℕ → Option (List Part)
begin_def Ident n = if is_truth n then None else Some (a_value ∷ [])
begin_def _ n = None

-- What is expected behind a word of all that is expected, in order, and of definitions behind it. Without a plus a sum
-- ends, and what stands behind it is expected.
abbrev pub behind_all : List Part → TokenKind → List ℕ → Option (List Part)
behind_all [] k n = begin_def k n
behind_all (more_terms ∷ parts) k n = if is_plus k then Some (an_expr ∷ parts) else behind_all parts k n
behind_all (p ∷ parts) k n = with_rest (expected_behind p k n) parts

-- How many brackets are open.
abbrev pub open_brackets : Part → ℕ → ℕ
open_brackets items n = suc n
open_brackets more_items n = suc n
open_brackets (entries names) n = suc n
open_brackets (more_entries names) n = suc n
open_brackets _ n = n

-- How many brackets are open in all that is expected.
abbrev pub depth_of : List Part → ℕ
depth_of [] = 0
depth_of (p ∷ parts) = open_brackets p (depth_of parts)

-- What is wrong with a word that is expected.
abbrev pub is_among : List ℕ → List (List ℕ) → Bool
is_among n names = list_any (bytes_eq n) names

-- A name that its map has is a duplicate.
abbrev pub name_flaw : List Part → List ℕ → ℕ → Option Flaw
name_flaw (more_terms ∷ parts) n at = name_flaw parts n at
name_flaw (entries names ∷ parts) n at = if is_among n names then Some (Duplicate at) else None
name_flaw _ n at = None

-- A bracket is nested too deeply where as many are open as may be.
abbrev pub bracket_flaw : List Part → ℕ → Option Flaw
bracket_flaw parts at = if depth_of parts == DEEPEST_NESTING then Some (TooNested at) else None

-- What is wrong with a word that is expected, by its kind.
abbrev pub flaw_at : List Part → TokenKind → List ℕ → ℕ → Option Flaw
flaw_at parts Ident n at = name_flaw parts n at
flaw_at parts (Mark OpenBrace) n at = bracket_flaw parts at
flaw_at parts (Mark OpenBracket) n at = bracket_flaw parts at
flaw_at parts _ n at = None

-- Whether the words may end here.
abbrev pub at_end : List Part → ℕ → Option Flaw
at_end [] at = None
at_end (more_terms ∷ parts) at = at_end parts at
at_end (p ∷ parts) at = Some (Unexpected at)

-- Goes on with what is expected behind a word, and stops at it if it is unexpected or has a flaw.
abbrev pub go_behind : Option (List Part) → Option Flaw → ℕ → (List Part → Option Flaw) → Option Flaw
go_behind None wrong at go = Some (Unexpected at)
go_behind (Some new) (Some e) at go = Some e
go_behind (Some new) None at go = go new

-- Where the words, the first of which is number `at`, leave what is expected, if they do.
abbrev pub stuck : List Word → ℕ → List Part → Option Flaw
stuck [] at parts = at_end parts at
stuck (w ∷ ws) at parts =
    go_behind (behind_all parts w.kind w.text) (flaw_at parts w.kind w.text at) at (λ new. stuck ws (at + 1) new)

-- The words do not begin with one of the kind.
abbrev pub StartsNot : TokenKind → List Word → Type 0
StartsNot kind ws = (w : Word) (rest : List Word) → ws ≡ w ∷ rest → w.kind ≡ kind → ⊥

-- The words from `at` to `next` are what is expected, where depth brackets are open around; behind them `qs` is
-- expected.
abbrev pub ReadsOn : List Part → List Part → List Word → ℕ → ℕ → ℕ → Type 0
ReadsOn ps qs ws depth at next = (parts : List Part) → depth_of parts ≡ depth
    → stuck (drop at ws) at (ps ++ parts) ≡ stuck (drop next ws) next (qs ++ parts)

-- From `at` on, there is this flaw.
abbrev pub FailsAt : List Part → List Word → ℕ → ℕ → Flaw → Type 0
FailsAt ps ws at depth flaw =
    (parts : List Part) → depth_of parts ≡ depth → stuck (drop at ws) at (ps ++ parts) ≡ Some flaw

-- What is known of a flaw beside where it is.
abbrev pub IsKnown : List Word → Flaw → Type 0
IsKnown ws (Duplicate k) = IsRepeated ws k
IsKnown ws _ = ⊤

-- Why the reading of words stops, which from `at` on are to be these parts.
abbrev pub StopsWith : List Part → List Word → ℕ → ℕ → Stop → Type 0
StopsWith ps ws at depth (Bad flaw) = FailsAt ps ws at depth flaw × IsKnown ws flaw
StopsWith ps ws at depth OutOfMemory = ⊤

-- The same where definitions are expected, and nothing else.
abbrev pub DefsGoOn : List Word → ℕ → ℕ → Type 0
DefsGoOn ws at next = stuck (drop at ws) at [] ≡ stuck (drop next ws) next []

-- Why the reading of definitions stops.
abbrev pub DefsStopWith : List Word → ℕ → Stop → Type 0
DefsStopWith ws at (Bad flaw) = (stuck (drop at ws) at [] ≡ Some flaw) × IsKnown ws flaw
DefsStopWith ws at OutOfMemory = ⊤
