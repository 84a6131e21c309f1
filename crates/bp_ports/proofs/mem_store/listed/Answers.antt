use Rattle.std.proofs.Common.{arith}
use Rattle.std.specs.FinMap.{keys}
use Rattle.bp_ports.proofs.Listed.{entries_of_files, absent_of_none, present_of_some, zero_of, not_zero_of, empty_of}
use Rattle.bp_ports.proofs.Listed.{filled_of}
use Rattle.bp_ports.proofs.mem_store.listed.Goals.{else-is_empty-via-then-is_empty+else-not-is_empty}
use Rattle.bp_ports.proofs.mem_store.listed.Goals.{else-is_empty-via-else-is_empty}
use Rattle.bp_ports.proofs.mem_store.listed.Goals as goal

pub returns-then-not-is_empty-clause-gives : goal.returns-then-not-is_empty-clause-gives
returns-then-not-is_empty-clause-gives c = λ files are.
    let es = c.in_ok-entries.entries.items in
    absent_of_none c.paths_give_entries.ensures (keys files) c.args.dir.now es
    (entries_of_files _ files c.args.dir.now es are c.in_ok-entries.ensures)
    (omega (arith, zero_of _ c.if-is_empty.ensures, c.in_ok-entries.entries.ok.0))
    (filled_of c.args.dir.now c.if-not-is_empty.ensures)

pub returns-then-len-limit-clause-gives : goal.returns-then-len-limit-clause-gives
returns-then-len-limit-clause-gives c = λ files are.
    let es = c.in_ok-entries.entries.items in (
      es,
      entries_of_files _ files c.args.dir.now es are c.in_ok-entries.ensures,
      omega (arith, c.if-len-limit.true, c.len.ensures, c.in_ok-entries.entries.ok.0),
    )

pub returns-clause-gives : goal.returns-clause-gives
returns-clause-gives c = λ files are.
    let es = c.in_ok-entries.entries.items in
    let all = entries_of_files _ files c.args.dir.now es are c.in_ok-entries.ensures in (
      all,
      elim c.else-is_empty.branch [
        | else-is_empty-via-then-is_empty+else-not-is_empty w ↦
            λ absent. absent.inner (empty_of c.args.dir.now w.if-not-is_empty.ensures)
        | else-is_empty-via-else-is_empty w ↦ present_of_some (keys files) c.args.dir.now es all
            (λ none. not_zero_of _ w.if-is_empty.ensures (omega (arith, none, c.in_ok-entries.entries.ok.0)))
      ],
    )
