-- Nodes that the rule `plugins` leaves as they are.
use Rattle.std.proofs.Common.{◌≡◌, ◌∙◌, ap, refl, length, map, true, false, Bool, List, [], ◌∷◌, Result, Ok}
use Rattle.std.specs.Prelude.{cond}
use Rattle.std.specs.List.{AllByRecursion, list_all}
use Rattle.std.proofs.lemmas.Bool.{and_parts, eqb-true}
use Rattle.std.proofs.lemmas.List.{nil_from_length}
use Rattle.bp_faults.specs.declared.fault.Fault.{Fault}
use Rattle.bp_faults.specs.declared.place.Item.{Item}
use Rattle.bp_props.specs.declared.module.Module.{Module}
use Rattle.bp_props.specs.declared.props.Props.{Props}
use Rattle.graph_nodes.specs.declared.graph.Node.{Node}
use Rattle.graph_nodes.specs.declared.variations.Axis.TheVariants.{Link}
use Rattle.mutator_rules.specs.declared.request.Request.{Request}
use Rattle.mutator_rules.specs.declared.split.Split.{Split}
use Rattle.module_rules.specs.Asking.{variation_on}
use Rattle.module_rules.specs.Idle.{LeavesNode}
use Rattle.module_rules.specs.Results.{one_variant}
use Rattle.linkage_mutator.specs.Idle.{is_no_plugin}
use Rattle.linkage_mutator.specs.Plugins.{is_shared, plugin_request, plugins_asked}

abbrev no_requests : List Request
no_requests = []

none_either : (b : Bool) → cond b no_requests no_requests ≡ no_requests
none_either true = refl
none_either false = refl

abbrev answered : Split Props → Result (Split Props) Fault
answered made = Ok made

module _ (mods : List Module) where
  pub leave_plugins : (nodes : List (Node Props)) → list_all is_no_plugin nodes ≡ true
      → AllByRecursion (LeavesNode (λ m x ins. Ok (one_variant x.payload (plugins_asked mods m x)))) nodes
  leave_plugins [] is = tt
  leave_plugins (x ∷ nodes) is =
      let parts = and_parts (is_no_plugin x) (list_all is_no_plugin nodes) is in
      let none = nil_from_length x.payload.plugin_of.items (eqb-true (length x.payload.plugin_of.items) 0 parts.0) in
      let shared = is_shared (variation_on Link x.vars) in (
        λ m ins. ap (λ (items : List Item). answered (one_variant x.payload
            (cond shared (map (plugin_request mods x.vars) items) []))) none
            ∙ ap (λ (asked : List Request). answered (one_variant x.payload asked)) (none_either shared),
        leave_plugins nodes parts.1,
      )
