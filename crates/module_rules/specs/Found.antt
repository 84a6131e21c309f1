-- What rules find out of a record. The rest of it is given, and nodes share it.
use Rattle.std.specs.Prelude.{◌++◌, ℕ, Bool, true, false, List, [], ◌∷◌, codes}
use Rattle.bp_props.specs.declared.props.Props.{Props}
use Rattle.bp_props.specs.Meaning.{list_empty}
use Rattle.module_rules.specs.declared.found.Lists.{Lists}

-- The flag for code that may be loaded at any address stands behind the other `cflags`.
abbrev pub with_pic : Props → Props
with_pic p = record p {
  base = record p.base { cflags = record p.base.cflags { items = p.base.cflags.items ++ codes "-fPIC" ∷ [] } };
}

-- The flag, where it is set.
abbrev pub pic_if : Bool → List (List ℕ)
pic_if true = codes "-fPIC" ∷ []
pic_if false = []

-- A record of which the flag, the level and the lists are found.
abbrev pub found_over : Props → Bool → ℕ → Lists → Props
found_over p pic level lists = record p {
  base = record p.base { cflags = record p.base.cflags { items = p.base.cflags.items ++ pic_if pic } };
  level = level;
  exports = lists.exports;
  includes = lists.includes;
  line = lists.line;
  slibs = lists.slibs;
}

-- Before they are found the lists are empty.
abbrev pub no_lists : Lists
no_lists = record { exports = []; includes = []; line = []; slibs = [] }

-- What is given of a record: all but `cflags`, the level and the four lists.
abbrev pub given_of : Props → Props
given_of p = record p {
  base = record p.base { cflags = list_empty };
  level = 10000;
  exports = [];
  includes = [];
  line = [];
  slibs = [];
}

-- The lists of a record.
abbrev pub lists_of : Props → Lists
lists_of p = record { exports = p.exports; includes = p.includes; line = p.line; slibs = p.slibs }

-- A record with other lists.
abbrev pub with_found_lists : Props → Lists → Props
with_found_lists p lists = record p {
  exports = lists.exports;
  includes = lists.includes;
  line = lists.line;
  slibs = lists.slibs;
}
