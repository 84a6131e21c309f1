-- What holds of all files and of all inherited scopes.
use Rattle.std.specs.Prelude.{◌≡◌, ℕ, List, Result, Ok, Err}
use Rattle.std.specs.List.{All}
use Rattle.bp_faults.specs.declared.fault.Fault.{Fault}
use Rattle.bp_parser.specs.Names.{DefinitionHasDistinctNames}
use Rattle.bp_parser.specs.Trees.{Definition}
use Rattle.bp_values.specs.Scopes.{Pairs, value_in, Keeps}
use Rattle.bp_values.specs.Meaning.{Raw, file_evaluation}
use Rattle.bp_values.specs.Names.{ModuleHasDistinctNames, ScopeHasDistinctNames}

-- A file changes no variable that it inherits.
abbrev pub InheritedStay : Type 0
InheritedStay = (inherited : Pairs) (ds : List Definition) (values : List Raw × Pairs)
    → file_evaluation inherited ds ≡ Ok values → Keeps inherited values.1

-- Each name has the same value in both, or none in both.
abbrev pub HasSameValues : Pairs → Pairs → Type 0
HasSameValues a b = (name : List ℕ) → value_in a name ≡ value_in b name

-- The modules are the same, and each name has the same value; or the fault is the same.
abbrev pub SameOutcomeMeans : Result (List Raw × Pairs) Fault → Result (List Raw × Pairs) Fault → Type 0
SameOutcomeMeans (Ok v) (Ok w) = (v.0 ≡ w.0) × HasSameValues v.1 w.1
SameOutcomeMeans (Err f) (Err g) = f ≡ g
SameOutcomeMeans _ _ = ⊥

-- What a file means depends on the values that the names have above it, and not on their order.
abbrev pub ValuesDecide : Type 0
ValuesDecide = (a b : Pairs) (ds : List Definition)
    → HasSameValues a b → SameOutcomeMeans (file_evaluation a ds) (file_evaluation b ds)

-- Where the names of each map differ in a file and in what it inherits, they differ in its modules and its scope.
abbrev pub MapsStayDistinct : Type 0
MapsStayDistinct = (inherited : Pairs) (ds : List Definition) (values : List Raw × Pairs)
    → All DefinitionHasDistinctNames ds → ScopeHasDistinctNames inherited → file_evaluation inherited ds ≡ Ok values
    → All ModuleHasDistinctNames values.0 × ScopeHasDistinctNames values.1
