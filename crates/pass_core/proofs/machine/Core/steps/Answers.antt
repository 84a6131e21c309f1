use Rattle.pass_core.proofs.machine.Core.steps.Goals as goal

pub returns-clause-plan : goal.returns-clause-plan
returns-clause-plan g c = rw (← c.self.view_is) c.self.invariant.is_plan

pub returns-clause-free : goal.returns-clause-free
returns-clause-free g c = rw (← c.self.view_is) c.self.invariant.free

pub returns-clause-reached : goal.returns-clause-reached
returns-clause-reached g c = rw (← c.self.view_is) c.self.invariant.reached
