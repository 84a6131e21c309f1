use Rattle.std.proofs.Common.{map, ap, ◌∙◌}
use Rattle.bp_ports.proofs.Held.{paths_held}
use Rattle.bp_ports.proofs.mem_store.MemStore.paths.Goals as goal

pub returns : goal.returns
returns c =
    let store = c.args.self.now in
    paths_held store.writes.spans.items store.writes.run.items store.files.items c.in_ok-given_paths.field-0.items
    c.after_paths.result (c.in_ok-given_paths.ensures ∙ ap (map (λ file. file.0)) c.deref.ensures.value)
    c.after_paths.ensures
