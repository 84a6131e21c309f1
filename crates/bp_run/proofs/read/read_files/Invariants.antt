use Rattle.bp_run.proofs.Progress.{Reads}
use Rattle.bp_run.proofs.read.read_files.Given as goal

abbrev pub invariant-paths : goal.invariant-paths
invariant-paths g l =
    Reads (record {
      files = g.S.Store.files l.fn.store;
      reads = g.S.Store.read_faults l.fn.store;
      writes = g.S.Store.write_faults l.fn.store;
    })
    (record {
      files = g.S.Store.files l.store;
      reads = g.S.Store.read_faults l.store;
      writes = g.S.Store.write_faults l.store;
    })
    l.paths l.path-index l.number l.size l.read.items
