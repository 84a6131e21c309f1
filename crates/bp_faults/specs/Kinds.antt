-- The fault table: each kind of fault by its number and its text.
use Rattle.std.specs.Prelude.{ℕ, List, codes}
use Rattle.bp_faults.specs.declared.kind.FaultKind.{FaultKind}
use Rattle.bp_faults.specs.declared.kind.FaultKind.TheVariants.{NotUtf8, BadChar, OpenString, OpenComment, BadEscape}
use Rattle.bp_faults.specs.declared.kind.FaultKind.TheVariants.{BadNumber, Expected, TooNested, DuplicateProperty}
use Rattle.bp_faults.specs.declared.kind.FaultKind.TheVariants.{UnknownVariable, VariableSet, NotLocal, AfterUse}
use Rattle.bp_faults.specs.declared.kind.FaultKind.TheVariants.{BadSum, UnknownType, UnknownProperty, WrongType}
use Rattle.bp_faults.specs.declared.kind.FaultKind.TheVariants.{MissingName, BadName, DuplicateName, MissingModule}
use Rattle.bp_faults.specs.declared.kind.FaultKind.TheVariants.{NotDefaults, Cycle, MissingVariant, BadSource, BadValue}
use Rattle.bp_faults.specs.declared.kind.FaultKind.TheVariants.{BadPath, DuplicateSource, LinkTooLong, TooMany, NoFile}
use Rattle.bp_faults.specs.declared.kind.FaultKind.TheVariants.{FileTooLarge, BadList, OutputTooLarge, NotReady}
use Rattle.bp_faults.specs.declared.kind.FaultKind.TheVariants.{OrderEnds, TextTooLong, NoModule, NotList}

-- Each kind has a number. 37 stays unused.
abbrev pub fault_number : FaultKind → ℕ
fault_number NotUtf8 = 1
fault_number BadChar = 2
fault_number OpenString = 3
fault_number OpenComment = 4
fault_number BadEscape = 5
fault_number BadNumber = 6
fault_number Expected = 7
fault_number TooNested = 8
fault_number DuplicateProperty = 9
fault_number UnknownVariable = 10
fault_number VariableSet = 11
fault_number NotLocal = 12
fault_number AfterUse = 13
fault_number BadSum = 14
fault_number UnknownType = 15
fault_number UnknownProperty = 16
fault_number WrongType = 17
fault_number MissingName = 18
fault_number BadName = 19
fault_number DuplicateName = 20
fault_number MissingModule = 21
fault_number NotDefaults = 22
fault_number Cycle = 23
fault_number MissingVariant = 24
fault_number BadSource = 25
fault_number BadValue = 26
fault_number BadPath = 27
fault_number DuplicateSource = 28
fault_number LinkTooLong = 29
fault_number TooMany = 30
fault_number NoFile = 31
fault_number FileTooLarge = 32
fault_number BadList = 33
fault_number OutputTooLarge = 34
fault_number NotReady = 35
fault_number OrderEnds = 36
fault_number TextTooLong = 40
fault_number NoModule = 41
fault_number NotList = 42

-- Each kind has a text.
abbrev pub fault_text : FaultKind → List ℕ
fault_text NotUtf8 = codes "not UTF-8"
fault_text BadChar = codes "unexpected character"
fault_text OpenString = codes "unterminated string"
fault_text OpenComment = codes "unterminated comment"
fault_text BadEscape = codes "bad escape"
fault_text BadNumber = codes "number out of range"
fault_text Expected = codes "unexpected token"
fault_text TooNested = codes "nested too deeply"
fault_text DuplicateProperty = codes "duplicate property"
fault_text UnknownVariable = codes "unknown variable"
fault_text VariableSet = codes "variable is already set"
fault_text NotLocal = codes "variable is inherited"
fault_text AfterUse = codes "variable was already used"
fault_text BadSum = codes "cannot add"
fault_text UnknownType = codes "unknown module type"
fault_text UnknownProperty = codes "unknown property"
fault_text WrongType = codes "wrong type"
fault_text MissingName = codes "module without a name"
fault_text BadName = codes "bad module name"
fault_text DuplicateName = codes "duplicate module name"
fault_text MissingModule = codes "missing module"
fault_text NotDefaults = codes "not a defaults module"
fault_text Cycle = codes "dependency cycle"
fault_text MissingVariant = codes "missing variant"
fault_text BadSource = codes "bad source"
fault_text BadValue = codes "bad value"
fault_text BadPath = codes "bad path"
fault_text DuplicateSource = codes "duplicate source"
fault_text LinkTooLong = codes "link line is too long"
fault_text TooMany = codes "too many"
fault_text NoFile = codes "no such file"
fault_text FileTooLarge = codes "file is too large"
fault_text BadList = codes "bad path in list"
fault_text OutputTooLarge = codes "output is too large"
fault_text NotReady = codes "not ready"
fault_text OrderEnds = codes "order ends early"
fault_text TextTooLong = codes "text is too long"
fault_text NoModule = codes "no such module"
fault_text NotList = codes "not a list"
