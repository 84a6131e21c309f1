use Rattle.std.proofs.Common.{refl}
use Rattle.property_values.proofs.fields.set_props_field.Goals as goal

pub returns-in-Truth : goal.returns-in-Truth
returns-in-Truth c = rw c.in-Truth.is c.set_props_truth.ensures

pub returns-in-Word : goal.returns-in-Word
returns-in-Word c = rw c.in-Word.is c.set_props_word.ensures

pub returns-in-Names : goal.returns-in-Names
returns-in-Names c = rw c.in-Names.is c.set_props_names.ensures

pub returns-in-Multi : goal.returns-in-Multi
returns-in-Multi c = rw c.in-Multi.is c.set_props_multi.ensures

pub returns-in-Level : goal.returns-in-Level
returns-in-Level c = rw c.in-Level.is c.set_props_level.ensures

pub returns-in-Flags : goal.returns-in-Flags
returns-in-Flags c = rw (c.in-Flags.is, c.set_flags.ensures) refl

pub returns-in-Dirs : goal.returns-in-Dirs
returns-in-Dirs c = rw (c.in-Dirs.is, c.set_dirs.ensures) refl

pub returns-in-Sources : goal.returns-in-Sources
returns-in-Sources c = rw (c.in-Sources.is, c.set_sources.ensures) refl

pub returns-in-Unset : goal.returns-in-Unset
returns-in-Unset c = rw c.in-Unset.is refl
