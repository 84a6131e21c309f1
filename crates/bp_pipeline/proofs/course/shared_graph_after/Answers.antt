use Rattle.std.proofs.Common.{subst}
use Rattle.bp_faults.specs.Answers.{Tells}
use Rattle.graph_nodes.specs.declared.graph.Graph.{Graph}
use Rattle.module_rules.specs.declared.record.Record.{Record}
use Rattle.pass_ways.specs.declared.way.Way.TheVariants.{Workers}
use Rattle.bp_pipeline.specs.Course.{CourseMeans}
use Rattle.bp_pipeline.proofs.Stepping.{course_tells}
use Rattle.bp_pipeline.proofs.course.shared_graph_after.Goals as goal

pub returns-clause-means : goal.returns-clause-means
returns-clause-means g c =
    let mods = c.args.mods.now in
    let config = c.args.c.now in
    subst (λ p. Tells {T = Graph Record} (λ g. g.nodes) (CourseMeans mods config p) c.run_passes.result)
    c.passes_of.ensures.count
    (course_tells mods config (Workers c.args.workers c.args.gate) (λ earlier pass plan fault refuses. refuses)
    c.passes_of.result c.passes_of.ensures.built c.run_passes.new.journal.items c.run_passes.result
    c.run_passes.ensures.course)
