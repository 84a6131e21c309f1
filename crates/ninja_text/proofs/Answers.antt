-- What a reader answers of a text that was written.
use Rattle.std.proofs.Common.{◌≡◌, ℕ, IsUtf8, Result, Ok, Err, ap, sym, subst, ◌∙◌}
use Rattle.ninja_file.specs.declared.file.NinjaFile.{NinjaFile}
use Rattle.ninja_read.specs.declared.reader.NinjaError.{NinjaError}
use Rattle.ninja_read.specs.declared.reader.NinjaError.TheVariants.{BadLine, OutOfMemory}
use Rattle.ninja_read.specs.Meaning.{reading, Reads}
use Rattle.ninja_write.specs.Laws.{LinesAreLines}
use Rattle.ninja_text.specs.Meaning.{ReadBackMeans, WrittenIsReadBack}
use Rattle.ninja_text.proofs.Files.{read_back}

same_Ok : (a b : NinjaFile) → ◌≡◌ {A = Result NinjaFile ℕ} (Ok a) (Ok b) → b ≡ a
same_Ok a b h = cc

answered : (f : NinjaFile) (answer : Result NinjaFile NinjaError) (meant : Result NinjaFile ℕ) → meant ≡ Ok f
    → Reads answer meant → ReadBackMeans f answer
answered f (Ok back) meant is reads = same_Ok f back (sym is ∙ reads)
answered f (Err (BadLine line)) meant is reads = absurd (cc)
answered f (Err OutOfMemory) meant is reads = tt

pub written_answer : LinesAreLines → WrittenIsReadBack
written_answer are_lines f text answer good written reads =
    answered f answer (reading text)
    (ap reading written.same ∙ read_back are_lines f good (subst IsUtf8 written.same written.utf8)) reads
