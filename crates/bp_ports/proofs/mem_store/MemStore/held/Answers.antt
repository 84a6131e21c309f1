use Rattle.bp_ports.proofs.WrittenLemmas.{get-held}
use Rattle.bp_ports.specs.MemStore.{entries_of}
use Rattle.bp_ports.proofs.mem_store.MemStore.held.Goals as goal

pub returns : goal.returns
returns c =
    let h = get-held c.args.self.now.writes.spans.items c.args.self.now.writes.run.items
    (entries_of c.args.self.now.files.items) c.args.path.now in
    cc
