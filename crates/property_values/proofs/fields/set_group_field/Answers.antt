use Rattle.std.proofs.Common.{refl}
use Rattle.property_values.proofs.fields.set_group_field.Goals as goal

pub returns-in-Truth : goal.returns-in-Truth
returns-in-Truth c = rw c.in-Truth.is c.set_truth.ensures

pub returns-in-Flags : goal.returns-in-Flags
returns-in-Flags c = rw c.in-Flags.is c.set_flags.ensures

pub returns-in-Names : goal.returns-in-Names
returns-in-Names c = rw c.in-Names.is c.set_names.ensures

pub returns-in-Sources : goal.returns-in-Sources
returns-in-Sources c = rw c.in-Sources.is c.set_sources.ensures

pub returns-in-Dirs : goal.returns-in-Dirs
returns-in-Dirs c = rw c.in-Dirs.is c.set_dirs.ensures

pub returns-in-Word : goal.returns-in-Word
returns-in-Word c = rw c.in-Word.is refl

pub returns-in-Multi : goal.returns-in-Multi
returns-in-Multi c = rw c.in-Multi.is refl

pub returns-in-Level : goal.returns-in-Level
returns-in-Level c = rw c.in-Level.is refl

pub returns : goal.returns
returns c = rw c.in-Unset.is refl
