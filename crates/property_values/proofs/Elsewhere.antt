-- What a field sets in a record that is no field of it.
use Rattle.std.proofs.Common.{◌≡◌, refl, Bool, Some}
use Rattle.bp_faults.specs.declared.place.Item.{Item}
use Rattle.bp_props.specs.declared.fields.Field.TheVariants as F
use Rattle.bp_props.specs.declared.fields.Field.{Field}
use Rattle.bp_props.specs.declared.fields.GroupProps.{GroupProps}
use Rattle.bp_props.specs.declared.given.Given.{Given}
use Rattle.bp_props.specs.declared.listed.Listed.{Listed}
use Rattle.bp_props.specs.declared.props.Props.{Props}
use Rattle.property_values.specs.Fits.{group_set, props_set}
use Rattle.property_values.specs.declared.fit.Fit.TheVariants as fit

-- no list of names of a group
pub names_elsewhere : (field : Field) (names : Listed Item) (g : GroupProps)
    → (field ≡ F.WholeStaticLibs → ⊥)
    → (field ≡ F.StaticLibs → ⊥)
    → (field ≡ F.SharedLibs → ⊥)
    → (field ≡ F.HeaderLibs → ⊥)
    → (field ≡ F.ExportStaticLibHeaders → ⊥)
    → (field ≡ F.ExportSharedLibHeaders → ⊥)
    → (field ≡ F.ExportHeaderLibHeaders → ⊥)
    → group_set (Some field) (fit.Names names) g ≡ g
names_elsewhere F.WholeStaticLibs names g a b c d e f h = absurd (a refl)
names_elsewhere F.StaticLibs names g a b c d e f h = absurd (b refl)
names_elsewhere F.SharedLibs names g a b c d e f h = absurd (c refl)
names_elsewhere F.HeaderLibs names g a b c d e f h = absurd (d refl)
names_elsewhere F.ExportStaticLibHeaders names g a b c d e f h = absurd (e refl)
names_elsewhere F.ExportSharedLibHeaders names g a b c d e f h = absurd (f refl)
names_elsewhere F.ExportHeaderLibHeaders names g a b c d e f h = absurd (h refl)
names_elsewhere field names g a b c d e f h = refl

-- no truth that a record alone has
pub truth_elsewhere : (field : Field) (truth : Given Bool) (p : Props)
    → (field ≡ F.HostSupported → ⊥)
    → (field ≡ F.DeviceSupported → ⊥)
    → (field ≡ F.Vendor → ⊥)
    → (field ≡ F.VendorAvailable → ⊥)
    → (field ≡ F.Recovery → ⊥)
    → (field ≡ F.RecoveryAvailable → ⊥)
    → (field ≡ F.Address → ⊥)
    → (field ≡ F.Never → ⊥)
    → (field ≡ F.TestPerSrc → ⊥)
    → props_set (Some field) (fit.Truth truth) p
    ≡ record p { base = group_set (Some field) (fit.Truth truth) p.base }
truth_elsewhere F.HostSupported truth p a b c d e f h i j = absurd (a refl)
truth_elsewhere F.DeviceSupported truth p a b c d e f h i j = absurd (b refl)
truth_elsewhere F.Vendor truth p a b c d e f h i j = absurd (c refl)
truth_elsewhere F.VendorAvailable truth p a b c d e f h i j = absurd (d refl)
truth_elsewhere F.Recovery truth p a b c d e f h i j = absurd (e refl)
truth_elsewhere F.RecoveryAvailable truth p a b c d e f h i j = absurd (f refl)
truth_elsewhere F.Address truth p a b c d e f h i j = absurd (h refl)
truth_elsewhere F.Never truth p a b c d e f h i j = absurd (i refl)
truth_elsewhere F.TestPerSrc truth p a b c d e f h i j = absurd (j refl)
truth_elsewhere field truth p a b c d e f h i j = refl

-- no list of names that a record alone has
pub module_names_elsewhere : (field : Field) (names : Listed Item) (p : Props)
    → (field ≡ F.Defaults → ⊥)
    → (field ≡ F.PluginOf → ⊥)
    → (field ≡ F.DataBins → ⊥)
    → props_set (Some field) (fit.Names names) p
    ≡ record p { base = group_set (Some field) (fit.Names names) p.base }
module_names_elsewhere F.Defaults names p a b c = absurd (a refl)
module_names_elsewhere F.PluginOf names p a b c = absurd (b refl)
module_names_elsewhere F.DataBins names p a b c = absurd (c refl)
module_names_elsewhere field names p a b c = refl
