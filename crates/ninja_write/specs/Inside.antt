-- No public contract speaks of it: text that is put behind other text up to a limit, and text that is printed in parts.
use Rattle.std.specs.Prelude.{◌≡◌, ℕ, ◌+◌, ◌<◌, List, ◌++◌, length, Result, OnOk, IfOk, IsErrOf}
use Rattle.std.specs.List.{flat_map}
use Rattle.ninja_file.specs.declared.file.NinjaFile.{NinjaFile}
use Rattle.ninja_file.specs.declared.file.Statement.{Statement}
use Rattle.ninja_write.specs.declared.output.WriteError.{WriteError}
use Rattle.ninja_write.specs.declared.output.WriteError.TheVariants.{TooLarge}
use Rattle.ninja_write.specs.Meaning.{rule_lines, statement_lines, head_line, joined_text}
use Rattle.bp_faults.specs.Characters.{ended_line}
use Rattle.bp_faults.specs.declared.limits.TheConstants.{LARGEST_OUTPUT}

-- The text is put behind what was there, or it would pass the limit, or memory ran out.
pub record Puts (text old new : List ℕ) (result : Result Unit WriteError) : Type 0 where
  pub ok : OnOk result (new ≡ old ++ text)
  pub too_large : IsErrOf result TooLarge → LARGEST_OUTPUT < length old + length text

-- The lines of statements, one statement after another.
abbrev pub statements_text : List Statement → List ℕ
statements_text statements = flat_map (λ statement. joined_text (statement_lines statement)) statements

-- What stands before the statements: the first line and the rules.
abbrev pub front_text : NinjaFile → List ℕ
front_text f = ended_line head_line ++ flat_map (λ rule. joined_text (rule_lines rule)) f.rules

-- The text of statements stands behind what was there, or it would pass the limit, or memory ran out.
pub record Prints (all : List Statement) (old : List ℕ) (result : Result (List ℕ) WriteError) : Type 0 where
  pub ok : IfOk result (λ new. new ≡ old ++ statements_text all)
  pub too_large : IsErrOf result TooLarge → LARGEST_OUTPUT < length old + length (statements_text all)
