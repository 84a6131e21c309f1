use Rattle.output_forms.proofs.laws.texts_of_trees_are_read_back.Goals as goal

pub returns : goal.returns
returns c = λ files mods config text answer listed loaded targets made utf8 reads.
    c.generated_texts_are_read_back.ensures mods config text answer
    (c.loaded_modules_are_formed.ensures files mods listed loaded) targets made utf8 reads
