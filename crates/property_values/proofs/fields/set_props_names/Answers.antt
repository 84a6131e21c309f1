use Rattle.std.proofs.Common.{refl, sym}
use Rattle.property_values.proofs.Elsewhere.{module_names_elsewhere}
use Rattle.property_values.proofs.fields.set_props_names.Goals as goal

pub returns-in-Defaults : goal.returns-in-Defaults
returns-in-Defaults c = rw c.in-Defaults.is refl

pub returns-in-PluginOf : goal.returns-in-PluginOf
returns-in-PluginOf c = rw c.in-PluginOf.is refl

pub returns-in-DataBins : goal.returns-in-DataBins
returns-in-DataBins c = rw c.in-DataBins.is refl

pub returns-in_default-field : goal.returns-in_default-field
returns-in_default-field c =
    rw c.set_names.ensures (sym (module_names_elsewhere c.args.field c.args.names c.args.props.now
    c.in_default.not-Defaults c.in_default-field.not-PluginOf c.in_default-field.not-DataBins))
