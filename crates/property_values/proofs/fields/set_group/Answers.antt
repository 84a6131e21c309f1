use Rattle.property_values.proofs.fields.set_group.Goals as goal

pub returns-in-Some : goal.returns-in-Some
returns-in-Some c = rw c.in-Some.is c.set_group_field.ensures
