-- What bp_faults prints of a fault is the line that says it.
use Rattle.std.proofs.Common.{◌≡◌, ◌<◌, ◌^◌, ℕ, List, ◌++◌, lit<, sym, ap, ◌∙◌, append_assoc, codes}
use Rattle.bp_faults.specs.declared.kind.FaultKind.{FaultKind}
use Rattle.bp_faults.specs.declared.kind.FaultKind.TheVariants as K
use Rattle.bp_faults.specs.Kinds.{fault_number}

pub number_small : (kind : FaultKind) → fault_number kind < 2 ^ 32
number_small K.NotUtf8 = lit< tt
number_small K.BadChar = lit< tt
number_small K.OpenString = lit< tt
number_small K.OpenComment = lit< tt
number_small K.BadEscape = lit< tt
number_small K.BadNumber = lit< tt
number_small K.Expected = lit< tt
number_small K.TooNested = lit< tt
number_small K.DuplicateProperty = lit< tt
number_small K.UnknownVariable = lit< tt
number_small K.VariableSet = lit< tt
number_small K.NotLocal = lit< tt
number_small K.AfterUse = lit< tt
number_small K.BadSum = lit< tt
number_small K.UnknownType = lit< tt
number_small K.UnknownProperty = lit< tt
number_small K.WrongType = lit< tt
number_small K.MissingName = lit< tt
number_small K.BadName = lit< tt
number_small K.DuplicateName = lit< tt
number_small K.MissingModule = lit< tt
number_small K.NotDefaults = lit< tt
number_small K.Cycle = lit< tt
number_small K.MissingVariant = lit< tt
number_small K.BadSource = lit< tt
number_small K.BadValue = lit< tt
number_small K.BadPath = lit< tt
number_small K.DuplicateSource = lit< tt
number_small K.LinkTooLong = lit< tt
number_small K.TooMany = lit< tt
number_small K.NoFile = lit< tt
number_small K.FileTooLarge = lit< tt
number_small K.BadList = lit< tt
number_small K.OutputTooLarge = lit< tt
number_small K.NotReady = lit< tt
number_small K.OrderEnds = lit< tt
number_small K.TextTooLong = lit< tt
number_small K.NoModule = lit< tt
number_small K.NotList = lit< tt

-- the tail of a printed line is part of what it says
pub regrouped : (path line col number text tail : List ℕ)
    → (path ++ (codes ":" ++ (line ++ (codes ":" ++ (col ++ (codes ": error " ++ (number ++ (codes ": " ++ text))))))))
    ++ (tail ++ codes "\n")
    ≡ path ++ (codes ":" ++ (line ++ (codes ":" ++ (col ++ (codes ": error " ++ (number ++ (codes ": "
    ++ ((text ++ tail) ++ codes "\n"))))))))
regrouped path line col number text tail =
    let end = tail ++ codes "\n" in
    let last = sym (append_assoc text tail (codes "\n")) in
    append_assoc path
    (codes ":" ++ (line ++ (codes ":" ++ (col ++ (codes ": error " ++ (number ++ (codes ": " ++ text))))))) end
    ∙ ap (λ xs. path ++ (codes ":" ++ xs))
    (append_assoc line (codes ":" ++ (col ++ (codes ": error " ++ (number ++ (codes ": " ++ text))))) end
    ∙ ap (λ xs. line ++ (codes ":" ++ xs)) (append_assoc col (codes ": error " ++ (number ++ (codes ": " ++ text))) end
    ∙ ap (λ xs. col ++ (codes ": error " ++ xs)) (append_assoc number (codes ": " ++ text) end
    ∙ ap (λ xs. number ++ (codes ": " ++ xs)) last)))
