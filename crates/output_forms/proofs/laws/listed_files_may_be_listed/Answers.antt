use Rattle.std.proofs.Common.{sym, subst}
use Rattle.std.specs.Prelude.{IsTrue}
use Rattle.std.specs.List.{AllByRecursion}
use Rattle.std.proofs.lemmas.List.Elements.{recursion_from_All}
use Rattle.bp_faults.proofs.Lists.{all_before}
use Rattle.bp_load.specs.ListFile.{is_listed}
use Rattle.bp_load.specs.Trees.{Source}
use Rattle.output_forms.proofs.laws.listed_files_may_be_listed.Goals as goal

pub returns : goal.returns
returns c = λ bytes paths files means are.
    all_before (λ (f : Source). f.0) (λ path. IsTrue (is_listed path)) files
    (subst (AllByRecursion (λ path. IsTrue (is_listed path))) (sym are)
    (recursion_from_All (λ path. IsTrue (is_listed path)) paths (c.lists_what_may_be.ensures bytes paths means)))
