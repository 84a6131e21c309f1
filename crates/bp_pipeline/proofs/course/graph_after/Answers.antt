use Rattle.std.proofs.Common.{Ok, subst, sym}
use Rattle.bp_faults.specs.Answers.{Tells}
use Rattle.graph_nodes.specs.declared.graph.Graph.{Graph}
use Rattle.module_rules.specs.declared.record.Record.{Record}
use Rattle.bp_pipeline.specs.Course.{GraphAfter}
use Rattle.bp_pipeline.proofs.course.graph_after.Goals as goal

pub returns-in_ok-with_own_records-in-Ok-clause-means : goal.returns-in_ok-with_own_records-in-Ok-clause-means
returns-in_ok-with_own_records-in-Ok-clause-means g c =
    let mods = c.args.mods.now in
    let config = c.args.c.now in
    let last =
    subst (Tells {T = Graph Record} (λ g. g.nodes) (GraphAfter mods config c.args.k)) c.in-Ok.is
    c.shared_graph_after.ensures.means in
    subst (λ nodes. GraphAfter mods config c.args.k (Ok nodes)) (sym c.in_ok-with_own_records-in-Ok.ensures) last

pub returns-in-Err-clause-means : goal.returns-in-Err-clause-means
returns-in-Err-clause-means g c =
    subst (Tells {T = Graph Record} (λ g. g.nodes) (GraphAfter c.args.mods.now c.args.c.now c.args.k)) c.in-Err.is
    c.shared_graph_after.ensures.means
