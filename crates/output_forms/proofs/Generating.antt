-- The file that is generated, by what it is made of, and its text.
use Rattle.std.proofs.Common.{◌≡◌, ℕ, Bool, true, false, cond, List, Ok, Err, length, subst}
use Rattle.std.specs.Prelude.{IsUtf8, nat_le}
use Rattle.bp_faults.specs.declared.fault.Fault.{Fault}
use Rattle.bp_faults.specs.declared.limits.TheConstants.{LARGEST_OUTPUT}
use Rattle.bp_pipeline.specs.Course.{GraphAfter}
use Rattle.bp_pipeline.specs.Mutators.{mutator_count}
use Rattle.bp_props.specs.declared.props.Props.{Props}
use Rattle.build_actions.specs.declared.actions.Actions.{Actions}
use Rattle.build_actions.specs.Acts.{acts_at}
use Rattle.build_actions.specs.File.{file_of_actions}
use Rattle.graph_nodes.specs.declared.graph.Node.{Node}
use Rattle.module_graph.specs.declared.direction.Direction.TheVariants.{BottomUp}
use Rattle.module_graph.specs.Planned.{plan_of}
use Rattle.ninja_file.specs.Meaning.{IsWellFormed}
use Rattle.ninja_read.specs.Meaning.{reading, Reads}
use Rattle.ninja_text.specs.Meaning.{WrittenIsReadBack}
use Rattle.ninja_write.specs.Meaning.{text_of}
use Rattle.serial_pass.specs.Outcomes.{PassMeans}
use Rattle.bp_pipeline.specs.Generated.{text_within_limit, ActionsMean, FileMeans}
use Rattle.output_forms.specs.Laws.{FilesOfGraphsAreWellFormed, GeneratedFilesAreWellFormed, ReadsGenerated}
use Rattle.output_forms.specs.Laws.{GeneratedTextsAreReadBack}
use Rattle.output_forms.proofs.Ways.{then_came}

pub files_formed : FilesOfGraphsAreWellFormed → GeneratedFilesAreWellFormed
files_formed formed mods c file forms targets means =
    then_came (ActionsMean mods c) (λ made outcome. Ok (file_of_actions made) ≡ outcome) IsWellFormed
    (λ made acts f is. let same : file_of_actions made ≡ f = cc in
    subst IsWellFormed same
    (then_came (GraphAfter mods c mutator_count)
    (λ (nodes : List (Node Props)). PassMeans (acts_at mods nodes) (plan_of BottomUp nodes))
    (λ (made : List Actions). IsWellFormed (file_of_actions made))
    (λ nodes after made outs. formed mods c mutator_count nodes made forms targets after outs)
    made acts))
    file means

-- a text that is no larger than its limit is that of the file
text_is : (b : Bool) (x y : List ℕ) (fault : Fault) → cond b (Ok x) (Err fault) ≡ Ok y → y ≡ x
text_is true x y fault is = cc
text_is false x y fault is = absurd (cc)

pub texts_read : GeneratedFilesAreWellFormed → WrittenIsReadBack → GeneratedTextsAreReadBack
texts_read formed back mods c text answer forms targets means =
    then_came (FileMeans mods c) (λ file outcome. text_within_limit file ≡ outcome)
    (λ (text : List ℕ). IsUtf8 text → Reads answer (reading text) → ReadsGenerated mods c answer)
    (λ file made t is utf8 reads.
    let whole = formed mods c file forms targets made in
    let same = text_is (nat_le (length (text_of file)) LARGEST_OUTPUT) (text_of file) t _ is in
    (file, made, whole, back file t answer whole (record { same = same; utf8 = utf8 }) reads))
    text means
