use Rattle.std.proofs.Common.{List, ℕ, Bor, map, sym, subst}
use Rattle.bp_ports.specs.Lists.{ListGives, ArePaths}
use Rattle.bp_ports.specs.MemStore.{held_files}
use Rattle.bp_ports.proofs.mem_store.MemStoreStore.list.Goals as goal

pub returns-clause-gives : goal.returns-clause-gives
returns-clause-gives c =
    let files = held_files c.args.self.now in
    subst (λ dir. ListGives files dir c.args.limit c.listed.result) c.as_str.ensures
    (c.listed.ensures.gives files
    (subst (λ paths. ArePaths (map (λ (path : Bor (List ℕ)). path.now) paths) files) (sym c.deref.ensures.value)
    c.in_ok-paths.ensures))
