-- The fields of a group. What goes over all of them is said once for a scalar and once for a list.
use Rattle.std.specs.Prelude.{ℕ, Bool, List, Option}
use Rattle.bp_faults.specs.declared.place.Item.{Item}
use Rattle.bp_props.specs.declared.fields.Field.TheVariants as F
use Rattle.bp_props.specs.declared.fields.Field.{Field}
use Rattle.bp_props.specs.declared.fields.GroupProps.{GroupProps}
use Rattle.bp_props.specs.declared.given.Given.{Given}
use Rattle.bp_props.specs.declared.listed.Listed.{Listed}
use Rattle.bp_props.specs.declared.multi.Multi.{Multi as Choice}
use Rattle.bp_props.specs.declared.source.Source.{Source}

-- What a field keeps of the values of its property.
pub data Shape : Type 0 where
  Truth Word Multi Level Flags Dirs Names Sources : Shape

-- A scalar of a shape, or an item of a list of it.
abbrev pub Held : Shape → Type 0
Held Truth = Bool
Held Word = List ℕ
Held Multi = Choice
Held Level = ℕ
Held Flags = List ℕ
Held Dirs = List ℕ
Held Names = Item
Held Sources = Source

-- A scalar that may be set.
abbrev pub Scalar : Shape → Type 0
Scalar shape = Option (Given (Held shape))

-- A list that may be set.
abbrev pub Items : Shape → Type 0
Items shape = Listed (Held shape)

-- A group is made field by field, each of its shape, its name, and what a group has there.
abbrev pub group_by : ((shape : Shape) → Field → (GroupProps → Scalar shape) → Scalar shape)
    → ((shape : Shape) → Field → (GroupProps → Items shape) → Items shape) → GroupProps
group_by scalar list = record {
  enabled = scalar Truth F.Enabled (λ g. g.enabled);
  srcs = list Sources F.Srcs (λ g. g.srcs);
  cflags = list Flags F.Cflags (λ g. g.cflags);
  conlyflags = list Flags F.Conlyflags (λ g. g.conlyflags);
  cppflags = list Flags F.Cppflags (λ g. g.cppflags);
  asflags = list Flags F.Asflags (λ g. g.asflags);
  ldflags = list Flags F.Ldflags (λ g. g.ldflags);
  local_include_dirs = list Dirs F.LocalIncludeDirs (λ g. g.local_include_dirs);
  include_dirs = list Dirs F.IncludeDirs (λ g. g.include_dirs);
  export_include_dirs = list Dirs F.ExportIncludeDirs (λ g. g.export_include_dirs);
  whole_static_libs = list Names F.WholeStaticLibs (λ g. g.whole_static_libs);
  static_libs = list Names F.StaticLibs (λ g. g.static_libs);
  shared_libs = list Names F.SharedLibs (λ g. g.shared_libs);
  header_libs = list Names F.HeaderLibs (λ g. g.header_libs);
  export_static_lib_headers = list Names F.ExportStaticLibHeaders (λ g. g.export_static_lib_headers);
  export_shared_lib_headers = list Names F.ExportSharedLibHeaders (λ g. g.export_shared_lib_headers);
  export_header_lib_headers = list Names F.ExportHeaderLibHeaders (λ g. g.export_header_lib_headers);
}
