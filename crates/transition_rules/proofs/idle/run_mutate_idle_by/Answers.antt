use Rattle.transition_rules.proofs.LeftAlone.{payloads_kept}
use Rattle.transition_rules.proofs.idle.run_mutate_idle_by.Goals as goal

pub returns-clause-means : goal.returns-clause-means
returns-clause-means g c =
    payloads_kept (g.M.Transition.meaning c.args.rule.now) c.args.g.nodes c.idle_passes_make.ensures
    c.requires.may.numbered c.requires.valid c.requires.keeps
