-- No public contract speaks of it: what the test of a well-formed file knows on its way.
use Rattle.std.specs.Prelude.{◌≢◌, ℕ, List, ◌||◌, not, IsTrue, codes}
use Rattle.std.specs.Borrow.{Bor}
use Rattle.std.specs.List.{list_all}
use Rattle.std.specs.Str.{bytes_eq}
use Rattle.bp_names.specs.Meaning.{knows}
use Rattle.ninja_file.specs.declared.file.NinjaRule.{NinjaRule}
use Rattle.ninja_file.specs.declared.file.Statement.{Statement}
use Rattle.ninja_file.specs.Names.{is_nil, is_name, is_path, is_value, is_rule_key}
use Rattle.ninja_file.specs.Meaning.{is_rule_value}

-- A rule by its keys, which stand in a set too.
pub record HasRuleParts (rule : NinjaRule) (keys : List (Bor (List ℕ))) (key_set : List (List ℕ)) : Type 0 where
  pub name : IsTrue (is_name rule.name)
  pub not_phony : rule.name ≢ codes "phony"
  pub known : IsTrue (list_all (λ key. is_rule_key key.now) keys)
  pub command : IsTrue (knows key_set (codes "command"))
  pub values : IsTrue (list_all (λ binding. is_rule_value binding.1) rule.bindings)

-- A statement by its keys, where the names of the rules stand in a set.
pub record HasStatementParts (s : Statement) (names : List (List ℕ)) (keys : List (Bor (List ℕ))) : Type 0 where
  pub makes : IsTrue (not (is_nil s.outs))
  pub outs : IsTrue (list_all is_path s.outs)
  pub ins : IsTrue (list_all is_path s.ins)
  pub implicit : IsTrue (list_all is_path s.implicit)
  pub order_only : IsTrue (list_all is_path s.order_only)
  pub rule : IsTrue (bytes_eq s.rule (codes "phony") || knows names s.rule)
  pub named : IsTrue (list_all (λ key. is_name key.now) keys)
  pub values : IsTrue (list_all (λ variable. is_value variable.1) s.vars)
