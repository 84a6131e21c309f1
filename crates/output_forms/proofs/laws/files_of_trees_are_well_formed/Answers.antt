use Rattle.output_forms.proofs.laws.files_of_trees_are_well_formed.Goals as goal

pub returns : goal.returns
returns c = λ files mods config file listed loaded targets made.
    c.generated_files_are_well_formed.ensures mods config file
    (c.loaded_modules_are_formed.ensures files mods listed loaded) targets made
