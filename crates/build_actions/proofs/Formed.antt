-- The file of a graph: its rules, its statements and its default.
use Rattle.std.proofs.Common.{◌≡◌, ◌++◌, ℕ, List, [], ◌∷◌, map, length, get_or, Some, None, Option, refl, sym, arith}
use Rattle.std.proofs.Common.{subst, length-append}
use Rattle.std.specs.Prelude.{codes, Contains}
use Rattle.std.specs.List.{AllByRecursion, All, flat_map, cons_option}
use Rattle.std.proofs.lemmas.List.Elements.{All-from_recursion}
use Rattle.std.proofs.lemmas.Grind.{flat_map-append}
use Rattle.ninja_file.specs.declared.file.NinjaRule.{NinjaRule}
use Rattle.ninja_file.specs.declared.file.Statement.{Statement}
use Rattle.ninja_file.specs.Meaning.{AllDiffer, IsRule, IsStatement, outs_of, IsWellFormed}
use Rattle.build_parts.specs.Head.{head_rules, compile_command, dependency_bindings, compile_rule, assemble_rule}
use Rattle.build_parts.specs.Head.{archive_rule, link_rule}
use Rattle.build_actions.specs.declared.actions.Actions.{Actions}
use Rattle.build_actions.specs.File.{all_path, outputs_of, all_step, all_statements, file_of_actions}
use Rattle.build_actions.proofs.Differing.{all_flat}
use Rattle.build_actions.proofs.Outputs.{Differ}
use Rattle.bp_faults.proofs.Lists.{all_map, Apart, pairs_apart, all_append}
use Rattle.build_actions.proofs.Shown.{IsPath}
use Rattle.build_actions.proofs.Fitting.{six, apart_texts, fits, rule_at, no_variables}
use Rattle.build_actions.proofs.Written.{IsGood}

four_keys : Apart Differ (codes "command" ∷ codes "description" ∷ codes "depfile" ∷ codes "deps" ∷ [])
four_keys = (
  (
    apart_texts (codes "command") (codes "description") refl,
    (apart_texts (codes "command") (codes "depfile") refl, (apart_texts (codes "command") (codes "deps") refl, tt)),
  ),
  (
    (
      apart_texts (codes "description") (codes "depfile") refl,
      (apart_texts (codes "description") (codes "deps") refl, tt),
    ),
    ((apart_texts (codes "depfile") (codes "deps") refl, tt), (tt, tt)),
  ),
)

two_keys : Apart Differ (codes "command" ∷ codes "description" ∷ [])
two_keys = ((apart_texts (codes "command") (codes "description") refl, tt), (tt, tt))

compiles_c : IsRule (compile_rule (codes "cc") (codes "clang ") (codes "CC "))
unfolding compile_command dependency_bindings
compiles_c = record {
  name = refl;
  not_phony = apart_texts (codes "cc") (codes "phony") refl;
  keys = refl;
  keys_differ =
      pairs_apart Differ (codes "command" ∷ codes "description" ∷ codes "depfile" ∷ codes "deps" ∷ []) four_keys;
  command = (0, omega arith, refl);
  values = refl;
}

compiles_cxx : IsRule (compile_rule (codes "cxx") (codes "clang++ ") (codes "CXX "))
unfolding compile_command dependency_bindings
compiles_cxx = record {
  name = refl;
  not_phony = apart_texts (codes "cxx") (codes "phony") refl;
  keys = refl;
  keys_differ =
      pairs_apart Differ (codes "command" ∷ codes "description" ∷ codes "depfile" ∷ codes "deps" ∷ []) four_keys;
  command = (0, omega arith, refl);
  values = refl;
}

assembles : IsRule assemble_rule
unfolding assemble_rule
assembles = record {
  name = refl;
  not_phony = apart_texts (codes "as") (codes "phony") refl;
  keys = refl;
  keys_differ = pairs_apart Differ (codes "command" ∷ codes "description" ∷ []) two_keys;
  command = (0, omega arith, refl);
  values = refl;
}

archives : IsRule archive_rule
unfolding archive_rule
archives = record {
  name = refl;
  not_phony = apart_texts (codes "ar") (codes "phony") refl;
  keys = refl;
  keys_differ = pairs_apart Differ (codes "command" ∷ codes "description" ∷ []) two_keys;
  command = (0, omega arith, refl);
  values = refl;
}

links : IsRule (link_rule (codes "link") (codes "clang++ ") (codes "LINK "))
unfolding link_rule
links = record {
  name = refl;
  not_phony = apart_texts (codes "link") (codes "phony") refl;
  keys = refl;
  keys_differ = pairs_apart Differ (codes "command" ∷ codes "description" ∷ []) two_keys;
  command = (0, omega arith, refl);
  values = refl;
}

links_shared : IsRule (link_rule (codes "solink") (codes "clang++ -shared ") (codes "SOLINK "))
unfolding link_rule
links_shared = record {
  name = refl;
  not_phony = apart_texts (codes "solink") (codes "phony") refl;
  keys = refl;
  keys_differ = pairs_apart Differ (codes "command" ∷ codes "description" ∷ []) two_keys;
  command = (0, omega arith, refl);
  values = refl;
}

rules_good : AllByRecursion IsRule head_rules
rules_good = (compiles_c, (compiles_cxx, (assembles, (archives, (links, (links_shared, tt))))))

names_six : map (λ (rule : NinjaRule). rule.name) head_rules ≡ six
unfolding assemble_rule archive_rule link_rule
names_six = refl

six_differ : Apart Differ six
six_differ = (
  (
    apart_texts (codes "cc") (codes "cxx") refl,
    (
      apart_texts (codes "cc") (codes "as") refl,
      (
        apart_texts (codes "cc") (codes "ar") refl,
        (apart_texts (codes "cc") (codes "link") refl, (apart_texts (codes "cc") (codes "solink") refl, tt)),
      ),
    ),
  ),
  (
    (
      apart_texts (codes "cxx") (codes "as") refl,
      (
        apart_texts (codes "cxx") (codes "ar") refl,
        (apart_texts (codes "cxx") (codes "link") refl, (apart_texts (codes "cxx") (codes "solink") refl, tt)),
      ),
    ),
    (
      (
        apart_texts (codes "as") (codes "ar") refl,
        (apart_texts (codes "as") (codes "link") refl, (apart_texts (codes "as") (codes "solink") refl, tt)),
      ),
      (
        (apart_texts (codes "ar") (codes "link") refl, (apart_texts (codes "ar") (codes "solink") refl, tt)),
        ((apart_texts (codes "link") (codes "solink") refl, tt), (tt, tt)),
      ),
    ),
  ),
)

outputs_good : (made : List Actions) → AllByRecursion IsGood made → AllByRecursion IsPath (outputs_of made)
outputs_good [] h = tt
outputs_good (a ∷ made) h = by a.output h.0.output (outputs_good made h.1)
  where
    by : (o : Option (List ℕ)) → AllByRecursion IsPath (cons_option o []) → AllByRecursion IsPath (outputs_of made)
        → AllByRecursion IsPath (cons_option o (outputs_of made))
    by None k rest = rest
    by (Some path) k rest = (k.0, rest)

last_contained : (xs : List (List ℕ)) (x : List ℕ) → Contains (xs ++ x ∷ []) x
last_contained xs x = (length xs, simp length-append (omega arith), at xs)
  where
    at : (ys : List (List ℕ)) → get_or (ys ++ x ∷ []) (length ys) x ≡ x
    at [] = refl
    at (y ∷ ys) = at ys

module _ (made : List Actions) (good : AllByRecursion IsGood made) where
  statements_good : AllByRecursion (IsStatement six) (all_statements made)
  statements_good =
      all_append (IsStatement six) (flat_map (λ (node : Actions). node.statements) made) (all_step made ∷ [])
      (all_flat (λ (node : Actions). node.statements) (IsStatement six) made
      (all_map IsGood (λ (a : Actions). AllByRecursion (IsStatement six) a.statements)
      (λ a g. g.statements) made good)) (
        fits (all_step made) all_path refl refl (outputs_good made good) tt tt
            (rule_at 0 (codes "phony") (omega arith) refl) no_variables,
        tt,
      )

  pub well_formed : AllDiffer (outs_of (file_of_actions made)) → IsWellFormed (file_of_actions made)
  well_formed differ = record {
    rules = All-from_recursion IsRule head_rules rules_good;
    rules_differ = subst (λ l. AllDiffer l) (sym names_six) (pairs_apart Differ six six_differ);
    statements =
        subst (λ names. All (IsStatement names) (all_statements made)) (sym names_six)
        (All-from_recursion (IsStatement six) (all_statements made) statements_good);
    outs_differ = differ;
    defaults = All-from_recursion (Contains (outs_of (file_of_actions made))) (all_path ∷ []) (
      subst (λ l. Contains l all_path)
          (sym (flat_map-append (λ (s : Statement). s.outs) (flat_map (λ (node : Actions). node.statements) made)
          (all_step made ∷ [])))
          (last_contained (flat_map (λ (s : Statement). s.outs) (flat_map (λ (node : Actions). node.statements) made))
          all_path),
      tt,
    );
  }
