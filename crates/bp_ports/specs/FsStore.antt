-- The files of the system: they tell nothing but how often a call failed.
use Rattle.std.specs.Prelude.{ℕ}
use Rattle.bp_ports.specs.declared.fs_store.FsStore.{FsStore}

-- How many reads failed.
abbrev pub failed_reads : {R : Type 0} → FsStore R → ℕ
failed_reads s = s.read_faults

-- How many writes failed.
abbrev pub failed_writes : {R : Type 0} → FsStore R → ℕ
failed_writes s = s.write_faults
