use Rattle.std.proofs.Common.{◌∙◌, ◌<◌, length, subst, arith, Vec, Global}
use Rattle.std.specs.Prelude.{IfSome, Ok, Err}
use Rattle.std.proofs.lemmas.List.{length-set}
use Rattle.std.proofs.lemmas.Result.{err_from_is_err_and}
use Rattle.bp_props.specs.declared.module.Module.{Module}
use Rattle.source_patterns.specs.Answers.{ExpandGives}
use Rattle.source_patterns.specs.Expansion.{ModuleMeans}
use Rattle.source_patterns.specs.Walked.{ModuleWalks}
use Rattle.source_patterns.proofs.Gives.{if_both}
use Rattle.source_patterns.proofs.InPlace.{done_more, done_stops}
use Rattle.source_patterns.proofs.modules.expand_all.Goals as goal

pub returns-in_err-expand_module-clause-gives : goal.returns-in_err-expand_module-clause-gives
returns-in_err-expand_module-clause-gives g c =
    let i = c.loop-index.index in
    let m = c.index_mut.result.now in
    let within : i < length c.args.mods.items = omega (arith, c.loop-index.invariant.1) in
    let refused = err_from_is_err_and c.from_residual.result c.from_residual.ensures.1 in
    rw (refused.1, refused.2)
    (if_both (g.D.Directories.held c.args.dirs.now) _ _ _ (λ held done given.
    done_stops (ModuleMeans held) (ModuleWalks held) c.args.mods.items i c.loop-index.mods.items within done
    (λ (done : Unit {0}). c.expand_module.new.typed) (λ (mods : Vec Module Global). mods.items) m
    c.index_mut.ensures.value c.in_err-expand_module.field-0.0 given)
    c.loop-index.invariant.0
    (subst (λ o. IfSome o (λ held. ExpandGives (λ (done : Unit {0}). c.expand_module.new.typed)
    (ModuleMeans held m) (ModuleWalks held m) (Err c.in_err-expand_module.field-0.0))) c.loop-index.invariant.2
    c.in_err-expand_module.ensures.gives))

pub loop-index-preserved : goal.loop-index-preserved
loop-index-preserved g c =
    let i = c.loop-index.index in
    let m = c.index_mut.result.now in
    let now = c.loop-index.mods.items in
    let within : i < length c.args.mods.items = omega (arith, c.loop-index.invariant.1) in (
      if_both (g.D.Directories.held c.args.dirs.now) _ _ _ (λ held done given.
          done_more (ModuleMeans held) (ModuleWalks held) c.args.mods.items i now within done m
          c.expand_module.new.typed c.index_mut.ensures.value given)
          c.loop-index.invariant.0
          (subst (λ o. IfSome o (λ held. ExpandGives (λ (done : Unit {0}). c.expand_module.new.typed)
          (ModuleMeans held m) (ModuleWalks held m) (Ok c.in_ok-expand_module.field-0))) c.loop-index.invariant.2
          c.in_ok-expand_module.ensures.gives),
      length-set now i c.expand_module.new.typed ∙ c.loop-index.invariant.1,
      c.expand_module.ensures.held ∙ c.loop-index.invariant.2,
      omega (arith, c.loop-index.invariant.3, c.expand_module.ensures.cause.later),
      c.expand_module.ensures.kept ∙ c.loop-index.invariant.4,
      c.expand_module.ensures.ready,
    )
