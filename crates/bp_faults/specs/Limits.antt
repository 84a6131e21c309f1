-- The limits of a tree and of what is made of it, each as a number.
use Rattle.std.specs.Prelude.{◌≡◌}
use Rattle.bp_faults.specs.declared.limits.TheConstants.{LARGEST_LIST_FILE, LARGEST_FILE, LARGEST_ORDER_FILE}
use Rattle.bp_faults.specs.declared.limits.TheConstants.{LARGEST_TREE, MOST_FILES, DEEPEST_NESTING, LONGEST_STRING}
use Rattle.bp_faults.specs.declared.limits.TheConstants.{MOST_LIST_ITEMS, MOST_MODULES, LONGEST_MODULE_NAME}
use Rattle.bp_faults.specs.declared.limits.TheConstants.{MOST_NODES, MOST_EDGES, LONGEST_LINE, LARGEST_OUTPUT}
use Rattle.bp_faults.specs.declared.limits.TheConstants.{MOST_WORKERS, MOST_SYNTHETIC_MODULES}

-- Each limit is this number: of bytes, of files, of open brackets, of items and so on.
pub record LimitsAreThese : Type 0 where
  pub list_file : LARGEST_LIST_FILE ≡ 4194304
  pub file : LARGEST_FILE ≡ 1048576
  pub order_file : LARGEST_ORDER_FILE ≡ 67108864
  pub tree : LARGEST_TREE ≡ 67108864
  pub files : MOST_FILES ≡ 16384
  pub nesting : DEEPEST_NESTING ≡ 64
  pub string : LONGEST_STRING ≡ 1048576
  pub list_items : MOST_LIST_ITEMS ≡ 65536
  pub modules : MOST_MODULES ≡ 131072
  pub module_name : LONGEST_MODULE_NAME ≡ 255
  pub nodes : MOST_NODES ≡ 262144
  pub edges : MOST_EDGES ≡ 4194304
  pub line : LONGEST_LINE ≡ 1024
  pub output : LARGEST_OUTPUT ≡ 536870912
  pub workers : MOST_WORKERS ≡ 64
  pub synthetic_modules : MOST_SYNTHETIC_MODULES ≡ 100000
