use Rattle.std.proofs.Common.{◌&&◌, ap, sym, ◌∙◌, map, drop, ◌+◌}
use Rattle.std.specs.Prelude.{nat_le}
use Rattle.bp_values.specs.Values.{map_entry_of, map_entries_then, no_map_entry}
use Rattle.bp_values.specs.Depths.{depth_of_entries}
use Rattle.bp_values.proofs.Depths.{within_step}
use Rattle.bp_values.proofs.depth.+depths.Goals as goal

pub are_within-returns-then-not-is_within : goal.are_within-returns-then-not-is_within
are_within-returns-then-not-is_within t c =
    let s = within_step c.args.entries.now c.entries.entry-index c.entry-item.result c.args.limit c.entries-test.true
    c.entry-item.is in
    let n = c.if-not-is_within.ensures in
    sym (c.entries.invariant ∙ s ∙ ap (λ b. b && nat_le (depth_of_entries
    (map_entries_then (map map_entry_of (drop (c.entries.entry-index + 1) c.args.entries.now)) no_map_entry))
    c.args.limit) (sym n))

pub are_within-entries-preserved : goal.are_within-entries-preserved
are_within-entries-preserved t c =
    let s = within_step c.args.entries.now c.entries.entry-index c.entry-item.result c.args.limit c.entries-test.true
    c.entry-item.is in
    let n = c.if-not-is_within.ensures in
    c.entries.invariant
    ∙ s
    ∙ ap (λ b. b && nat_le (depth_of_entries
    (map_entries_then (map map_entry_of (drop (c.entries.entry-index + 1) c.args.entries.now)) no_map_entry))
    c.args.limit) (sym n)
