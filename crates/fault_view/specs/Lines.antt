-- What is a fault line, and what it says.
use Rattle.std.specs.Prelude.{◌≡◌, ◌≢◌, ◌<◌, ◌^◌, ℕ, List, ◌++◌, EachIndex, slice_index, IsUtf8, codes}
use Rattle.std.specs.Fmt.{decimal}
use Rattle.fault_view.specs.declared.fault_line.FaultLine.{FaultLine}

-- The line that says so: `path:line:col: error number: what`, and LF.
abbrev pub line_text : FaultLine → List ℕ
line_text f =
    f.path ++ (codes ":" ++ (decimal f.line ++ (codes ":" ++ (decimal f.col ++ (codes ": error "
    ++ (decimal f.number ++ (codes ": " ++ (f.what ++ codes "\n"))))))))

-- The text is UTF-8, it is the line that says so, and its path has no colon.
pub record IsLineOf (text : List ℕ) (f : FaultLine) : Type 0 where
  pub whole : text ≡ line_text f
  pub utf8 : IsUtf8 text
  pub path : EachIndex f.path (λ k. slice_index f.path k ≢ 58)
  pub line : f.line < 2 ^ 32
  pub col : f.col < 2 ^ 32
  pub number : f.number < 2 ^ 32

-- The text says this, and nothing else.
pub record IsReadAs (text : List ℕ) (f : FaultLine) : Type 0 where
  pub here : IsLineOf text f
  pub only : (g : FaultLine) → IsLineOf text g → g ≡ f

-- The text is no fault line.
abbrev pub IsNoFaultLine : List ℕ → Type 0
IsNoFaultLine text = (f : FaultLine) → IsLineOf text f → ⊥
