-- `sanitize`: which variants of a module are built with the address sanitizer.
use Rattle.std.specs.Prelude.{ℕ, Bool, true, false, not, ◌&&◌, ◌||◌, List, [], ◌∷◌, ◌++◌, codes, if◌then◌else◌, Ok}
use Rattle.std.specs.List.{list_any, zip}
use Rattle.bp_props.specs.declared.listed.Listed.{Listed}
use Rattle.bp_props.specs.declared.props.Props.{Props}
use Rattle.graph_nodes.specs.declared.graph.Edge.{Edge}
use Rattle.graph_nodes.specs.declared.graph.EdgeKind.{EdgeKind}
use Rattle.graph_nodes.specs.declared.graph.Node.{Node}
use Rattle.graph_nodes.specs.declared.variation.Variation.{Variation}
use Rattle.graph_nodes.specs.declared.variation.Variation.TheVariants.{Empty, Asan}
use Rattle.graph_nodes.specs.declared.variations.Axis.TheVariants.{Sanitize as SanitizeAxis}
use Rattle.module_rules.specs.Asking.{variation_on}
use Rattle.module_rules.specs.Flags.{is_true_or}
use Rattle.module_rules.specs.Seen.{node_at}
use Rattle.mutator_rules.specs.Meaning.{TransitionMeaning}
use Rattle.info_mutators.specs.Dependencies.{is_archived}

-- A module refuses the sanitizer where it says so.
abbrev pub is_never : Props → Bool
is_never p = is_true_or false p.never

-- A module is on where it asks for the sanitizer and doesn't refuse it.
abbrev pub is_on : Props → Bool
is_on p = is_true_or false p.address && not (is_never p)

-- There is one variation of the sanitizer.
abbrev pub is_asan : Variation → Bool
is_asan Asan = true
is_asan variation = false

-- The variation of a module that is on, and else the other.
abbrev pub asan_or : Variation → Props → Variation
asan_or other p = if is_on p then Asan else other

-- A library that is put into another is built as that one is.
abbrev pub outgoing_of : EdgeKind → Variation → Variation
outgoing_of kind v = if is_archived kind then v else Empty

-- A module that refuses the sanitizer is built without it, one that is on with it, and another as it is wanted.
abbrev pub incoming_of : Props → Variation → Variation
incoming_of p w = if is_never p then Empty else asan_or w p

-- The compiler and the linker are told alike.
abbrev pub sanitizer_flag : List ℕ
sanitizer_flag = codes "-fsanitize=address"

-- The flag stands behind a list's own, where it is needed. The list's place stays.
abbrev pub with_flag_if : Bool → Listed (List ℕ) → Listed (List ℕ)
with_flag_if needed list = record list { items = list.items ++ (if needed then sanitizer_flag ∷ [] else []) }

-- Some Whole or Static dependency has code of the sanitizer in it.
abbrev pub has_sanitized : List Edge → List Props → Bool
has_sanitized edges ins = list_any (λ (d : Edge × Props). is_archived d.0.kind && d.1.asan) (zip edges ins)

-- The record of a variant: the flag for what it compiles, whether code of the sanitizer is in it, and then the flag
-- for linking.
abbrev pub with_sanitizer : (compiles : Bool) (has : Bool) → Props → Props
with_sanitizer compiles has p = record p {
  base = record p.base { cflags = with_flag_if compiles p.base.cflags; ldflags = with_flag_if has p.base.ldflags };
  asan = has;
}

-- Code of the sanitizer is in a node that is compiled with it, and in one that such code is put into.
abbrev pub sanitized_record : Node Props → List Props → Props
sanitized_record x ins =
    let compiles = is_asan (variation_on SanitizeAxis x.vars) in
    with_sanitizer compiles (x.payload.asan || (compiles || has_sanitized x.edges ins)) x.payload

-- What the calls of the rule answer.
abbrev pub sanitize_meant : TransitionMeaning Props
sanitize_meant = record {
  axis = SanitizeAxis;
  split = λ nodes n. Ok (asan_or Empty (node_at nodes n).payload ∷ []);
  outgoing = λ nodes n kind v. outgoing_of kind v;
  incoming = λ nodes n w. incoming_of (node_at nodes n).payload w;
  mutate = λ nodes n ins. Ok (sanitized_record (node_at nodes n) ins);
}
