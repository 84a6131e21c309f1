-- Nodes that the rule `per_src` leaves as they are.
use Rattle.std.proofs.Common.{◌≡◌, ap, refl, Bool, true, false, not, List, [], ◌∷◌, Option, Result, Ok}
use Rattle.std.specs.List.{AllByRecursion, list_all}
use Rattle.std.proofs.lemmas.Bool.{and_parts}
use Rattle.bp_faults.specs.declared.fault.Fault.{Fault}
use Rattle.bp_props.specs.declared.given.Given.{Given}
use Rattle.bp_props.specs.declared.kind.ModuleKind.{ModuleKind}
use Rattle.bp_props.specs.declared.kind.ModuleKind.TheVariants.{Binary, Library, LibraryStatic, LibraryShared}
use Rattle.bp_props.specs.declared.kind.ModuleKind.TheVariants.{LibraryHeaders, Test, Defaults, Filegroup}
use Rattle.bp_props.specs.declared.props.Props.{Props}
use Rattle.graph_nodes.specs.declared.graph.Node.{Node}
use Rattle.graph_nodes.specs.declared.variation.Variation.{Variation}
use Rattle.mutator_rules.specs.declared.split.Split.{Split}
use Rattle.module_rules.specs.Flags.{is_true_or}
use Rattle.module_rules.specs.Idle.{LeavesNode}
use Rattle.linkage_mutator.specs.Idle.{is_built_once}
use Rattle.linkage_mutator.specs.Sources.{each_source, is_split, source_variants}

abbrev answered : List (Variation × Props) → Result (Split Props) Fault
answered variants = Ok (record { variants = variants; requests = [] })

not_true : (b : Bool) → not b ≡ true → b ≡ false
not_true false is = refl
not_true true is = cc

-- no module is split without the flag
is_unsplit : (kind : ModuleKind) (flag : Option (Given Bool)) → is_true_or false flag ≡ false
    → is_split kind flag ≡ false
is_unsplit Test flag is = is
is_unsplit Binary flag is = refl
is_unsplit Library flag is = refl
is_unsplit LibraryStatic flag is = refl
is_unsplit LibraryShared flag is = refl
is_unsplit LibraryHeaders flag is = refl
is_unsplit Defaults flag is = refl
is_unsplit Filegroup flag is = refl

pub leave_sources : (nodes : List (Node Props)) → list_all is_built_once nodes ≡ true
    → AllByRecursion (LeavesNode (λ m x ins. Ok (record { variants = source_variants m x; requests = [] }))) nodes
leave_sources [] is = tt
leave_sources (x ∷ nodes) is =
    let parts = and_parts (is_built_once x) (list_all is_built_once nodes) is in
    let p = x.payload in
    let unset = not_true (is_true_or false p.test_per_src) parts.0 in (
      λ m ins. ap (λ (split : Bool). answered (each_source split p p.base.srcs.items))
          (is_unsplit m.kind p.test_per_src unset),
      leave_sources nodes parts.1,
    )
