use Rattle.std.proofs.Common.{◌∙◌, ap, sym, subst, cond, Some}
use Rattle.std.specs.BTreeMap.{is_at}
use Rattle.std.specs.Map.{lookup}
use Rattle.std.specs.Ordering.{nat_cmp}
use Rattle.std.specs.Cmp.Lexicographic.{slice_cmp}
use Rattle.source_patterns.specs.Listed.{AreKept}
use Rattle.source_patterns.proofs.Listed.{kept_more}
use Rattle.source_patterns.proofs.listings.keep.Goals as goal

pub returns-in_err-insert-clause-kept : goal.returns-in_err-insert-clause-kept
returns-in_err-insert-clause-kept c held few kept = subst (AreKept held) (sym c.in_err-insert.ensures.err) kept

pub returns-clause-kept : goal.returns-clause-kept
returns-clause-kept c held few kept =
    kept_more held c.args.known.now.entries c.insert.new.self.entries c.args.dir.now c.args.entries few kept
    (λ q. c.in_ok-insert.ensures.updates.0 q
    ∙ ap (λ dir. cond (is_at (slice_cmp nat_cmp dir) q) (Some c.args.entries)
    (lookup (is_at (slice_cmp nat_cmp q)) c.args.known.now.entries)) c.in_ok-copy.ensures)
