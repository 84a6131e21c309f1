use Rattle.bp_pipeline.specs.Mutators.{passes_of}
use Rattle.output_forms.proofs.Followed.{LowerLaws, course_good}
use Rattle.output_forms.proofs.laws.graphs_are_valid.Goals as goal

pub returns : goal.returns
returns c = λ mods config k nodes few targets after.
    let laws : LowerLaws = record {
      splits_valid = c.splits_stay_valid.ensures;
      splits_numbered = c.splits_keep_modules.ensures;
      splits_free = c.other_axes_stay_free.ensures;
      wants_valid = c.splits_stay_valid-2.ensures;
      wants_numbered = c.splits_keep_modules-2.ensures;
      wants_free = c.other_axes_stay_free-2.ensures;
      wants_split = c.wants_split.ensures;
      own_differ = c.own_variations_differ.ensures;
      renewed_valid = c.new_payloads_stay_valid.ensures;
      renewed_numbered = c.new_payloads_keep_modules.ensures;
      renewed_free = c.new_payloads_leave_axes_free.ensures;
      many = c.outs_are_many.ensures;
      targets = c.target_variants_differ.ensures;
      images = c.image_variants_differ.ensures;
      links = c.link_variants_differ.ensures;
      sources = c.source_variants_differ.ensures;
    } in
    let good = course_good laws mods config targets few (passes_of k) nodes after in
    (good.valid, good.numbered)
