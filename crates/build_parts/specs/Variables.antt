-- The variables of build statements (Ninja manual: a binding below a build line). One whose value is empty is left out.
use Rattle.std.specs.Prelude.{ℕ, List, [], ◌∷◌, ◌++◌, ◌==◌, map, if◌then◌else◌, codes, slice_index_or}
use Rattle.std.specs.List.{join_by}
use Rattle.std.specs.Fmt.{decimal}
use Rattle.bp_faults.specs.declared.target.Target.{Target}
use Rattle.bp_faults.specs.declared.target.Target.TheVariants as T
use Rattle.graph_nodes.specs.Axes.{axis_index}
use Rattle.graph_nodes.specs.declared.variations.Axis.TheVariants as A
use Rattle.graph_nodes.specs.declared.graph.Node.{Node}
use Rattle.graph_nodes.specs.declared.variation.Variation.{Variation}
use Rattle.graph_nodes.specs.declared.variation.Variation.TheVariants.{Empty, Target as For}
use Rattle.bp_props.specs.declared.props.Props.{Props}
use Rattle.build_parts.specs.declared.sources.Language.{Language}
use Rattle.build_parts.specs.declared.sources.Language.TheVariants.{C, Cxx, Assembler}

-- Variables with their values, in order.
abbrev pub Variables : Type 0
Variables = List (List ℕ × List ℕ)

-- Words in a row, one space between each two.
abbrev pub word_line : List (List ℕ) → List ℕ
word_line words = join_by (λ word. word) (codes " ") words

-- A variable, unless its value is empty.
abbrev pub variable : List ℕ → List ℕ → Variables
variable key [] = []
variable key (b ∷ value) = (key, b ∷ value) ∷ []

-- The compiler's word for a target.
abbrev pub target_word : Target → List ℕ
target_word T.AndroidArm64 = codes "--target=aarch64-linux-android"
target_word T.AndroidArm = codes "--target=armv7a-linux-androideabi"
target_word T.AndroidX86_64 = codes "--target=x86_64-linux-android"
target_word T.AndroidX86 = codes "--target=i686-linux-android"
target_word T.LinuxGlibcX86_64 = codes "--target=x86_64-linux-gnu"
target_word T.LinuxGlibcX86 = codes "--target=i686-linux-gnu"

-- The word of a variation that is a target.
abbrev pub target_by : Variation → List ℕ
target_by (For target) = target_word target
target_by variation = []

-- The word for a node's target.
abbrev pub node_target : Node Props → List ℕ
node_target x = target_by (slice_index_or x.vars (axis_index A.Target) Empty)

-- The least version of the system that the code runs on, where one is asked for.
abbrev pub level_words : ℕ → List (List ℕ)
level_words level = if level == 10000 then [] else (codes "-DMIN_SDK=" ++ decimal level) ∷ []

-- The flags of a language.
abbrev pub flags_of : Props → Language → List (List ℕ)
flags_of p C = p.base.cflags.items ++ p.base.conlyflags.items
flags_of p Cxx = p.base.cflags.items ++ p.base.cppflags.items
flags_of p Assembler = p.base.asflags.items

-- The flags of a link step.
abbrev pub link_flags : Props → List (List ℕ)
link_flags p = p.base.ldflags.items

-- The flags of a language and the level, in a row.
abbrev pub cflags_of : Props → Language → List ℕ
cflags_of p language = word_line (flags_of p language ++ level_words p.level)

-- The root directory is the empty path.
abbrev pub include_word : List ℕ → List ℕ
include_word [] = codes "-I."
include_word (b ∷ path) = codes "-I" ++ b ∷ path

-- The directories that are searched for headers, in a row.
abbrev pub include_line : Props → List ℕ
include_line p = word_line (map include_word p.includes)

-- The variables of a compile step.
abbrev pub compile_variables : Node Props → Language → Variables
compile_variables x language =
    variable (codes "target") (node_target x)
    ++ (variable (codes "cflags") (cflags_of x.payload language)
    ++ variable (codes "includes") (include_line x.payload))

-- The variables of a link step.
abbrev pub link_variables : Node Props → Variables
link_variables x =
    variable (codes "target") (node_target x) ++ variable (codes "ldflags") (word_line (link_flags x.payload))
