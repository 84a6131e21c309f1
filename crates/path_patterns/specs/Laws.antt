-- The limits of patterns, each as a number.
use Rattle.std.specs.Prelude.{◌≡◌}
use Rattle.path_patterns.specs.declared.limits.TheConstants.{MOST_ENTRIES, MOST_SKIPPED}

-- Each limit is this number, of entries and of names.
pub record LimitsAreThese : Type 0 where
  pub entries : MOST_ENTRIES ≡ 131072
  pub skipped : MOST_SKIPPED ≡ 64
