use Rattle.std.proofs.Common.{◌<◌, List, arith, length, subst, sym}
use Rattle.std.specs.Prelude.{⊤}
use Rattle.bp_faults.specs.declared.ids.NodeId.{NodeId}
use Rattle.graph_nodes.specs.declared.graph.Node.{Node}
use Rattle.graph_nodes.specs.declared.variations.Axis.TheVariants.{Image}
use Rattle.module_graph.specs.Graphs.{edges_of, IsNumbered, IsValid}
use Rattle.module_graph.specs.Walks.{NoneReturns}
use Rattle.mutator_rules.specs.Conditions.{MayRun}
use Rattle.variant_graphs.specs.Splitting.{HasFreeAxis}
use Rattle.mutator_tests.specs.Transitions.{HasNodes}
use Rattle.mutator_tests.proofs.BareNodes.{are_bare, are_numbered, are_valid, may_be_run}
use Rattle.mutator_tests.proofs.transitions.graph_of.Goals as goal

pub check_cycle-requires : goal.check_cycle-requires
check_cycle-requires c =
    let nodes = c.in_ok-nodes_of.field-0.items in
    let many = c.in_ok-nodes_of.ensures.many in
    let most = c.requires in
    let few : length c.in_ok-nodes_of.field-0.items < 100 = omega arith in
    let each = subst (λ k. HasNodes k 0 nodes) (sym many) c.in_ok-nodes_of.ensures.each in
    subst (λ (l : List (Node NodeId)). IsNumbered l) (sym c.new.ensures) (are_numbered nodes few each)

pub returns-clause-valid : goal.returns-clause-valid
returns-clause-valid c =
    let nodes = c.in_ok-nodes_of.field-0.items in
    let many = c.in_ok-nodes_of.ensures.many in
    let most = c.requires in
    let few : length c.in_ok-nodes_of.field-0.items < 100 = omega arith in
    let each = subst (λ k. HasNodes k 0 nodes) (sym many) c.in_ok-nodes_of.ensures.each in
    subst (λ (l : List (Node NodeId)). IsValid l) (sym c.new.ensures)
    (are_valid nodes few each
    (subst (λ (l : List (Node NodeId)). NoneReturns (edges_of l)) c.new.ensures c.in_ok-check_cycle.ensures))

pub returns-clause-may : goal.returns-clause-may
returns-clause-may c =
    let nodes = c.in_ok-nodes_of.field-0.items in
    let many = c.in_ok-nodes_of.ensures.many in
    let most = c.requires in
    let few : length c.in_ok-nodes_of.field-0.items < 100 = omega arith in
    let each = subst (λ k. HasNodes k 0 nodes) (sym many) c.in_ok-nodes_of.ensures.each in
    subst (λ (l : List (Node NodeId)). MayRun (λ m. ⊤) l) (sym c.new.ensures) (may_be_run nodes few each)

pub returns-clause-free : goal.returns-clause-free
returns-clause-free c =
    let nodes = c.in_ok-nodes_of.field-0.items in
    let many = c.in_ok-nodes_of.ensures.many in
    let most = c.requires in
    let few : length c.in_ok-nodes_of.field-0.items < 100 = omega arith in
    let each = subst (λ k. HasNodes k 0 nodes) (sym many) c.in_ok-nodes_of.ensures.each in
    subst (λ (l : List (Node NodeId)). HasFreeAxis Image l) (sym c.new.ensures) (are_bare nodes few each)
