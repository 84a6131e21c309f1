-- What the code reads of a graph is what the definitions read.
use Rattle.std.proofs.Common.{◌≡◌, ◌<◌, ◌+◌, ◌++◌, ℕ, zero, suc, List, [], ◌∷◌, Bool, true, false, cond, length, map}
use Rattle.std.proofs.Common.{get_or, take, Some, None, Result, Ok, Err, refl, sym, ap, subst, ◌∙◌, arith}
use Rattle.std.specs.List.{zip, AllByRecursion}
use Rattle.std.proofs.lemmas.List.Elements.{All-from_recursion}
use Rattle.std.proofs.lemmas.List.{get_or_read, map-append}
use Rattle.bp_faults.specs.declared.fault.Fault.{Fault}
use Rattle.bp_props.specs.declared.module.Module.{Module}
use Rattle.bp_props.specs.declared.props.Props.{Props}
use Rattle.graph_nodes.specs.declared.graph.Edge.{Edge}
use Rattle.graph_nodes.specs.declared.graph.EdgeKind.TheVariants.{Defaults}
use Rattle.graph_nodes.specs.declared.graph.Node.{Node}
use Rattle.std.specs.Option.{option_map_or}
use Rattle.mutator_rules.specs.declared.split.Split.{Split}
use Rattle.info_mutators.proofs.Zipped.{zip_more}
use Rattle.info_mutators.specs.Dependencies.{record_made}
use Rattle.module_rules.specs.Seen.{node_empty, module_empty, node_at, module_at, at_module, empty_result, IsSeen}
use Rattle.info_mutators.specs.Dependencies.{Dependency, dependency_along, dependencies_of}
use Rattle.info_mutators.specs.Info.{info_over, info_meant, with_lists, has_short_lists, too_long}
use Rattle.module_rules.specs.Results.{one_variant}

pub read_node : (nodes : List (Node Props)) (n : ℕ) (node : Node Props) → n < length nodes → node ≡ get_or nodes n node
    → node_at nodes n ≡ node
read_node nodes n node within is = sym (get_or_read nodes n node within is node_empty)

pub read_module : (mods : List Module) (m : ℕ) (item : Module) → m < length mods → item ≡ get_or mods m item
    → module_at mods m ≡ item
read_module mods m item within is = sym (get_or_read mods m item within is module_empty)

-- one dependency more
pub depends_more : (mods : List Module) (nodes : List (Node Props)) (edges : List Edge) (made : List (Split Props))
    (i : ℕ) (e : Edge) (m : Split Props)
    → i < length edges → length made ≡ length edges
    → dependencies_of mods nodes (take (i + 1) edges) made ≡ dependencies_of mods nodes (take i edges) made
    ++ dependency_along mods nodes (get_or edges i e, get_or made i m) ∷ []
depends_more mods nodes edges made i e m within many =
    ap (map (dependency_along mods nodes)) (zip_more edges made i e m within (omega (arith, within, many)))
    ∙ map-append (dependency_along mods nodes) (zip (take i edges) made) ((get_or edges i e, get_or made i m) ∷ [])

pub get_mapped : {A B : Type 0} (f : A → B) (xs : List A) (i : ℕ) (x : A)
    → get_or (map f xs) i (f x) ≡ f (get_or xs i x)
get_mapped f [] i x = refl
get_mapped f (y ∷ ys) zero x = refl
get_mapped f (y ∷ ys) (suc i) x = get_mapped f ys i x

-- where a loop over edges reads one past the last
abbrev pub no_edge : Edge
no_edge = record { kind = Defaults; to = record { 0 = 0 }; at = record { file = 0; line = 0; col = 0 } }

abbrev pub named : Edge → Split Props → List ℕ → Dependency
named e m name = record { kind = e.kind; node = e.to; name = name; props = record_made m }

-- a dependency by what was read of it
pub depends_is : (mods : List Module) (nodes : List (Node Props)) (e : Edge) (m : Split Props) (node : Node Props)
    (item : Module)
    → AllByRecursion (λ (x : Node Props). x.module.0 < length mods) nodes → e.to.0 < length nodes
    → node ≡ get_or nodes e.to.0 node → item ≡ get_or mods node.module.0 item
    → named e m (get_or mods node.module.0 item).name ≡ dependency_along mods nodes (e, m)
depends_is mods nodes e m node item accepted inside is_node is_item =
    let found = read_node nodes e.to.0 node inside is_node in
    let within = subst (λ (x : Node Props). x.module.0 < length mods) (sym is_node)
    (All-from_recursion (λ (x : Node Props). x.module.0 < length mods) nodes accepted e.to.0 node inside) in
    ap (named e m)
    (ap (λ (i : Module). i.name) (sym is_item ∙ sym (read_module mods node.module.0 item within is_item))
    ∙ ap (λ (x : Node Props). (module_at mods x.«module».0).name) (sym found))

-- what a visit answers, by what it read
module _ (mods : List Module) (nodes : List (Node Props)) (n : ℕ) (ins : List (Split Props)) (item : Module)
    (node : Node Props) (seen : IsSeen mods nodes n item node)
    (ds : List Dependency) (are : ds ≡ dependencies_of mods nodes node.edges ins) where
  meant_over : info_meant mods nodes n ins ≡ info_over item node ds
  meant_over =
      ap (λ o. option_map_or {U = Result (Split Props) Fault} (λ (x : Node Props). at_module (λ m.
      info_over m x (dependencies_of mods nodes x.edges ins)) mods x.«module».0) o (Ok empty_result)) seen.node_is
      ∙ ap (λ o. option_map_or {U = Result (Split Props) Fault}
      (λ m. info_over m node (dependencies_of mods nodes node.edges ins)) o (Ok empty_result)) seen.module_is
      ∙ ap (info_over item node) (sym are)

  pub meant_made : (props : Props) (made : Split Props)
      → Some props ≡ cond (has_short_lists node.payload ds) (Some (with_lists node.payload ds)) None
      → made ≡ one_variant props [] → info_meant mods nodes n ins ≡ Ok made
  meant_made props made short is_one = meant_over ∙ by (has_short_lists node.payload ds) short
    where
      by : (b : Bool) → Some props ≡ cond b (Some (with_lists node.payload ds)) None
          → cond b (Ok (one_variant (with_lists node.payload ds) [])) (Err (too_long item node.vars)) ≡ Ok made
      by true e =
          let same : props ≡ with_lists node.payload ds = cc in
          ap Ok (sym (is_one ∙ ap (λ (p : Props). one_variant p []) same))
      by false e = cc
