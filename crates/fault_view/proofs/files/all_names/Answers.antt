use Rattle.std.proofs.Common.{subst, ◌∙◌}
use Rattle.fault_view.specs.View.{Softly, AreFileNames}
use Rattle.fault_view.proofs.Soft.{reads_next, reads_last, path_and_rest, none_left}
use Rattle.fault_view.proofs.files.all_names.Goals as goal

pub loop-path-preserved : goal.loop-path-preserved
loop-path-preserved g c =
    let at = c.loop-path.path-index in (
      c.file_names.ensures.files ∙ c.loop-path.invariant.0,
      reads_next _ _ _ _ _ _ _ c.in_ok-path.path _ _ _
          (path_and_rest c.args.paths.now at _ c.in_ok-path.path c.loop-path-test.true c.in_ok-path.ensures)
          c.file_names.ensures.reads c.in_ok-append.ensures.items
          (subst (λ told. Softly told (g.S.Store.read_faults c.loop-path.store)
          (g.S.Store.read_faults c.file_names.new.store)
          (λ files. AreFileNames files c.in_ok-path.path c.in_ok-more.more.items)) c.loop-path.invariant.0
          c.in_ok-more.ensures.exact)
          c.loop-path.invariant.1,
    )

pub returns-clause-exact : goal.returns-clause-exact
returns-clause-exact g c =
    reads_last _ _ _ _ _ _ (none_left c.args.paths.now c.loop-path.path-index c.loop-path-test.false)
    c.loop-path.invariant.1
