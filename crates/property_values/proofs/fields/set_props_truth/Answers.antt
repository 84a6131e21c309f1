use Rattle.std.proofs.Common.{refl, sym}
use Rattle.property_values.proofs.Elsewhere.{truth_elsewhere}
use Rattle.property_values.proofs.fields.set_props_truth.Goals as goal

pub returns-in-HostSupported : goal.returns-in-HostSupported
returns-in-HostSupported c = rw c.in-HostSupported.is refl

pub returns-in-DeviceSupported : goal.returns-in-DeviceSupported
returns-in-DeviceSupported c = rw c.in-DeviceSupported.is refl

pub returns-in-Vendor : goal.returns-in-Vendor
returns-in-Vendor c = rw c.in-Vendor.is refl

pub returns-in-VendorAvailable : goal.returns-in-VendorAvailable
returns-in-VendorAvailable c = rw c.in-VendorAvailable.is refl

pub returns-in-Recovery : goal.returns-in-Recovery
returns-in-Recovery c = rw c.in-Recovery.is refl

pub returns-in-RecoveryAvailable : goal.returns-in-RecoveryAvailable
returns-in-RecoveryAvailable c = rw c.in-RecoveryAvailable.is refl

pub returns-in-Address : goal.returns-in-Address
returns-in-Address c = rw c.in-Address.is refl

pub returns-in-Never : goal.returns-in-Never
returns-in-Never c = rw c.in-Never.is refl

pub returns-in-TestPerSrc : goal.returns-in-TestPerSrc
returns-in-TestPerSrc c = rw c.in-TestPerSrc.is refl

pub returns-in_default : goal.returns-in_default
returns-in_default c =
    rw c.set_truth.ensures (sym (truth_elsewhere c.args.field c.args.truth c.args.props.now
    c.in_default.not-HostSupported c.in_default.not-DeviceSupported c.in_default.not-Vendor
    c.in_default.not-VendorAvailable c.in_default.not-Recovery c.in_default.not-RecoveryAvailable
    c.in_default.not-Address c.in_default.not-Never c.in_default.not-TestPerSrc))
