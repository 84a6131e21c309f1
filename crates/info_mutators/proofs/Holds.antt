-- The lists of nodes hold nodes of the graph, and what is exported is included.
use Rattle.std.proofs.Common.{◌≡◌, ◌<◌, ◌++◌, ◌||◌, ℕ, zero, suc, List, [], ◌∷◌, Bool, true, false, cond, length}
use Rattle.std.proofs.Common.{reverse, Option, Some, None, Result, Ok, Err, refl, sym, ap, subst, ◌∙◌}
use Rattle.std.specs.List.{AllByRecursion, list_any, flat_map}
use Rattle.std.specs.Str.{bytes_eq}
use Rattle.std.proofs.lemmas.List.Folds.{list_any-append}
use Rattle.bp_faults.specs.declared.ids.NodeId.{NodeId}
use Rattle.bp_props.specs.declared.module.Module.{Module}
use Rattle.bp_props.specs.declared.props.Props.{Props}
use Rattle.graph_nodes.specs.declared.graph.Edge.{Edge}
use Rattle.graph_nodes.specs.declared.graph.EdgeKind.{EdgeKind}
use Rattle.graph_nodes.specs.declared.graph.EdgeKind.TheVariants.{Whole, Static, Shared, Header, Defaults, DataBin}
use Rattle.graph_nodes.specs.declared.graph.EdgeKind.TheVariants.{Sources}
use Rattle.graph_nodes.specs.declared.graph.Node.{Node}
use Rattle.mutator_rules.specs.declared.split.Split.{Split}
use Rattle.info_mutators.specs.Kept.{last_of_each, first_of_each}
use Rattle.info_mutators.specs.Dependencies.{record_made}
use Rattle.module_rules.specs.Seen.{at_module, empty_result}
use Rattle.module_rules.specs.Shaped.{of_option}
use Rattle.bp_faults.specs.declared.fault.Fault.{Fault}
use Rattle.std.specs.Option.{option_map_or}
use Rattle.std.specs.Prelude.{⊤, slice_get}
use Rattle.info_mutators.specs.Dependencies.{Dependency, dependencies_of, is_archived, is_linked_against}
use Rattle.info_mutators.specs.Info.{is_same_node, line_part, shared_part, needed_part, with_lists, info_over}
use Rattle.info_mutators.specs.Info.{has_short_lists, too_long, own_includes, export_part, is_handed_on, include_part}
use Rattle.module_rules.specs.Results.{one_variant}
use Rattle.info_mutators.specs.Laws.{HoldsNodes, InfoHoldsNodes, ExportsAreIncluded}
use Rattle.info_mutators.proofs.Noted.{any_kept, any_reverse}
use Rattle.bp_faults.proofs.Lists.{same_bytes, all_append, all_flat, all_reversed}

module _ {A : Type 0} (P : A → Type 0) where
  all_last : (same : A → A → Bool) (xs : List A) → AllByRecursion P xs → AllByRecursion P (last_of_each same xs)
  all_last same [] h = tt
  all_last same (x ∷ xs) h = by (list_any (same x) xs) (all_last same xs h.1)
    where
      by : (b : Bool) → AllByRecursion P (last_of_each same xs)
          → AllByRecursion P (cond b (last_of_each same xs) (x ∷ last_of_each same xs))
      by true rest = rest
      by false rest = (h.0, rest)

  all_first : (same : A → A → Bool) (xs : List A) → AllByRecursion P xs → AllByRecursion P (first_of_each same xs)
  all_first same xs h =
      all_reversed P (last_of_each same (reverse xs)) (all_last same (reverse xs) (all_reversed P xs h))

IsIn : ℕ → Dependency → Type 0
IsIn count d = (d.node.0 < count) × HoldsNodes count d.props

all_dependencies : (mods : List Module) (nodes : List (Node Props)) (count : ℕ) (edges : List Edge)
    (ins : List (Split Props)) → AllByRecursion (λ (e : Edge). e.to.0 < count) edges
    → AllByRecursion (λ (one : Split Props). HoldsNodes count (record_made one)) ins
    → AllByRecursion (IsIn count) (dependencies_of mods nodes edges ins)
unfolding IsIn
all_dependencies mods nodes count [] ins h k = tt
all_dependencies mods nodes count (e ∷ edges) [] h k = tt
all_dependencies mods nodes count (e ∷ edges) (one ∷ ins) h k =
    ((h.0, k.0), all_dependencies mods nodes count edges ins h.1 k.1)

-- the edges of a node that is read lead inside
ends_at : (count : ℕ) (nodes : List (Node Props)) (n : ℕ) (x : Node Props)
    → AllByRecursion (λ (x : Node Props). AllByRecursion (λ (e : Edge). e.to.0 < count) x.edges) nodes
    → slice_get nodes n ≡ Some x → AllByRecursion (λ (e : Edge). e.to.0 < count) x.edges
ends_at count [] n x h is = cc
ends_at count (y ∷ ys) zero x h is =
    let same : y ≡ x = cc in subst (λ (z : Node Props). AllByRecursion (λ (e : Edge). e.to.0 < count) z.edges) same h.0
ends_at count (y ∷ ys) (suc n) x h is = ends_at count ys n x h.1 is

abbrev below : ℕ → NodeId → Type 0
below count n = n.0 < count

linked_in : (count : ℕ) (node : NodeId) (props : Props) (kind : EdgeKind) → node.0 < count → HoldsNodes count props
    → AllByRecursion (below count) (line_part node props kind)
linked_in count node props Whole a h = h.line
linked_in count node props Static a h = (a, h.line)
linked_in count node props Shared a h = tt
linked_in count node props Header a h = tt
linked_in count node props Defaults a h = tt
linked_in count node props DataBin a h = tt
linked_in count node props Sources a h = tt

shared_in : (count : ℕ) (node : NodeId) (kind : EdgeKind) → node.0 < count
    → AllByRecursion (below count) (shared_part node kind)
shared_in count node Whole a = tt
shared_in count node Static a = tt
shared_in count node Shared a = (a, tt)
shared_in count node Header a = tt
shared_in count node Defaults a = tt
shared_in count node DataBin a = tt
shared_in count node Sources a = tt

needed_in : (count : ℕ) (d : Dependency) → HoldsNodes count d.props → AllByRecursion (below count) (needed_part d)
needed_in count d h = by (is_archived d.kind)
  where
    by : (b : Bool) → AllByRecursion (below count) (cond b d.props.slibs [])
    by true = h.slibs
    by false = tt

lists_in : (count : ℕ) (own : Props) (ds : List Dependency) → AllByRecursion (IsIn count) ds
    → HoldsNodes count (with_lists own ds)
unfolding IsIn
lists_in count own ds h =
    let lines = all_flat (IsIn count) (below count) (λ (d : Dependency). line_part d.node d.props d.kind)
    (λ d i. linked_in count d.node d.props d.kind i.0 i.1) ds h in
    let own_ones = all_flat (IsIn count) (below count) (λ (d : Dependency). shared_part d.node d.kind)
    (λ d i. shared_in count d.node d.kind i.0) ds h in
    let more = all_flat (IsIn count) (below count) needed_part (λ d i. needed_in count d i.1) ds h in
    record {
      line =
          all_last (below count) is_same_node (flat_map (λ (d : Dependency). line_part d.node d.props d.kind) ds) lines;
      slibs =
          all_first (below count) is_same_node (flat_map (λ (d : Dependency). shared_part d.node d.kind) ds
          ++ flat_map needed_part ds) (all_append (below count)
          (flat_map (λ (d : Dependency). shared_part d.node d.kind) ds) (flat_map needed_part ds) own_ones more);
    }

AnswerHolds : ℕ → Result (Split Props) Fault → Type 0
AnswerHolds count (Ok made) = HoldsNodes count (record_made made)
AnswerHolds count (Err fault) = ⊤

over_holds : (count : ℕ) (m : Module) (x : Node Props) (ds : List Dependency)
    → HoldsNodes count (with_lists x.payload ds) → AnswerHolds count (info_over m x ds)
unfolding AnswerHolds
over_holds count m x ds h = by (has_short_lists x.payload ds)
  where
    by : (b : Bool)
        → AnswerHolds count (cond b (Ok (one_variant (with_lists x.payload ds) [])) (Err (too_long m x.vars)))
    by true = h
    by false = tt

pub info_holds : InfoHoldsNodes
unfolding AnswerHolds
info_holds mods nodes n ins made ends are is = subst (AnswerHolds (length nodes)) is (at_some (slice_get nodes n) refl)
  where
    none_holds : AnswerHolds (length nodes) (Ok empty_result)
    none_holds = record { line = tt; slibs = tt }

    at_some : (o : Option (Node Props)) → slice_get nodes n ≡ o
        → AnswerHolds (length nodes) (option_map_or (λ (x : Node Props).
        at_module (λ m. info_over m x (dependencies_of mods nodes x.edges ins)) mods x.«module».0) o (Ok empty_result))
    at_some None e = none_holds
    at_some (Some x) e =
        let ds = dependencies_of mods nodes x.edges ins in
        let inside = lists_in (length nodes) x.payload ds
        (all_dependencies mods nodes (length nodes) x.edges ins (ends_at (length nodes) nodes n x ends e) are) in
        of_option {X = Module} (AnswerHolds (length nodes)) (λ m. info_over m x ds) (Ok empty_result)
        (slice_get mods x.«module».0) (λ m. over_holds (length nodes) m x ds inside) none_holds

any_first : (path : List ℕ) (xs : List (List ℕ))
    → list_any (bytes_eq path) (first_of_each bytes_eq xs) ≡ list_any (bytes_eq path) xs
any_first path xs =
    any_reverse (bytes_eq path) (last_of_each bytes_eq (reverse xs))
    ∙ any_kept bytes_eq same_bytes path (reverse xs)
    ∙ any_reverse (bytes_eq path) xs

-- where the first implies the second, one more makes no difference
more_or : (a b c d : Bool) → (a ≡ true → c ≡ true) → (b ≡ true → d ≡ true) → (a || b) ≡ true → (c || d) ≡ true
more_or true b c d f g e = ap (λ x. x || d) (f refl)
more_or false b true d f g e = refl
more_or false b false d f g e = g e

or_left : (a b c : Bool) → b ≡ true → (a || (b || c)) ≡ true
or_left true b c e = refl
or_left false b c e = ap (λ x. x || c) e

handed_libraries : (own : Props) (kind : EdgeKind) (name : List ℕ) → is_handed_on own kind name ≡ true
    → is_linked_against kind ≡ true
handed_libraries own Whole name e = refl
handed_libraries own Static name e = refl
handed_libraries own Shared name e = refl
handed_libraries own Header name e = refl
handed_libraries own Defaults name e = e
handed_libraries own DataBin name e = e
handed_libraries own Sources name e = e

handed_exported : (p : List ℕ → Bool) (own : Props) (d : Dependency) → list_any p (export_part own d) ≡ true
    → list_any p (include_part d) ≡ true
handed_exported p own d =
    by (is_handed_on own d.kind d.name) (is_linked_against d.kind) (handed_libraries own d.kind d.name)
  where
    by : (b c : Bool) → (b ≡ true → c ≡ true) → list_any p (cond b d.props.exports []) ≡ true
        → list_any p (cond c d.props.exports []) ≡ true
    by true c f e = ap (λ x. list_any p (cond x d.props.exports [])) (f refl) ∙ e
    by false c f e = cc

all_handed : (p : List ℕ → Bool) (own : Props) (ds : List Dependency)
    → list_any p (flat_map (export_part own) ds) ≡ true → list_any p (flat_map include_part ds) ≡ true
all_handed p own [] e = e
all_handed p own (d ∷ ds) e =
    list_any-append p (include_part d) (flat_map include_part ds)
    ∙ more_or (list_any p (export_part own d)) (list_any p (flat_map (export_part own) ds)) (list_any p
    (include_part d)) (list_any p (flat_map include_part ds)) (handed_exported p own d) (all_handed p own ds)
    (sym (list_any-append p (export_part own d) (flat_map (export_part own) ds)) ∙ e)

pub exports_included : ExportsAreIncluded
exports_included own ds path e =
    let p = bytes_eq path in
    let base = own.base in
    let local = base.local_include_dirs.items in
    let exported = base.export_include_dirs.items in
    let rest = base.include_dirs.items in
    any_first path (own_includes own ++ flat_map include_part ds)
    ∙ list_any-append p (own_includes own) (flat_map include_part ds)
    ∙ more_or (list_any p exported) (list_any p (flat_map (export_part own) ds)) (list_any p (own_includes own))
    (list_any p (flat_map include_part ds))
    (λ h. list_any-append p local (exported ++ rest)
    ∙ ap (λ b. list_any p local || b) (list_any-append p exported rest)
    ∙ or_left (list_any p local) (list_any p exported) (list_any p rest) h)
    (all_handed p own ds)
    (sym (any_first path (exported ++ flat_map (export_part own) ds)
    ∙ list_any-append p exported (flat_map (export_part own) ds))
    ∙ e)
