use Rattle.property_values.proofs.fields.set_props.Goals as goal

pub returns-in-Some : goal.returns-in-Some
returns-in-Some c = rw c.in-Some.is c.set_props_field.ensures
