use Rattle.std.proofs.Common.{refl, sym}
use Rattle.property_values.proofs.Elsewhere.{names_elsewhere}
use Rattle.property_values.proofs.fields.set_names.Goals as goal

pub returns-in-WholeStaticLibs : goal.returns-in-WholeStaticLibs
returns-in-WholeStaticLibs c = rw c.in-WholeStaticLibs.is refl

pub returns-in-StaticLibs : goal.returns-in-StaticLibs
returns-in-StaticLibs c = rw c.in-StaticLibs.is refl

pub returns-in-SharedLibs : goal.returns-in-SharedLibs
returns-in-SharedLibs c = rw c.in-SharedLibs.is refl

pub returns-in-HeaderLibs : goal.returns-in-HeaderLibs
returns-in-HeaderLibs c = rw c.in-HeaderLibs.is refl

pub returns-in-ExportStaticLibHeaders : goal.returns-in-ExportStaticLibHeaders
returns-in-ExportStaticLibHeaders c = rw c.in-ExportStaticLibHeaders.is refl

pub returns-in-ExportSharedLibHeaders : goal.returns-in-ExportSharedLibHeaders
returns-in-ExportSharedLibHeaders c = rw c.in-ExportSharedLibHeaders.is refl

pub returns-in-ExportHeaderLibHeaders : goal.returns-in-ExportHeaderLibHeaders
returns-in-ExportHeaderLibHeaders c = rw c.in-ExportHeaderLibHeaders.is refl

pub returns-in_default : goal.returns-in_default
returns-in_default c =
    sym (names_elsewhere c.args.field c.args.names c.args.group.now c.in_default.not-WholeStaticLibs
    c.in_default.not-StaticLibs c.in_default.not-SharedLibs
    c.in_default.not-HeaderLibs c.in_default.not-ExportStaticLibHeaders
    c.in_default.not-ExportSharedLibHeaders c.in_default.not-ExportHeaderLibHeaders)
