-- A rule, a statement and a file by their parts.
use Rattle.std.proofs.Common.{◌≡◌, ◌≢◌, ℕ, List, [], ◌∷◌, ◌++◌, ◌||◌, ◌↔◌, not, codes, map, get_or, Bor, arith, ap}
use Rattle.std.proofs.Common.{refl, sym, ◌∙◌}
use Rattle.std.proofs.lemmas.Bool.Decides.{nat_tests}
use Rattle.std.proofs.lemmas.Cmp.{nat_list_eq_equiv}
use Rattle.std.proofs.lemmas.List.Folds.{list_all-map, list_all-append}
use Rattle.std.proofs.lemmas.List.Sums.{AllPass-from_list_all, list_all-from_AllPass}
use Rattle.std.proofs.lemmas.Map.Views.{Contains-from_any, list_any-from_Contains}
use Rattle.std.proofs.lemmas.Slice.Eq.{bytes_eq-Decides}
use Rattle.std.specs.Bool.{IsTrue}
use Rattle.std.specs.List.{All, list_all, Contains}
use Rattle.std.specs.Map.{keys_of}
use Rattle.std.specs.Str.{bytes_eq}
use Rattle.ninja_file.specs.declared.file.NinjaRule.{NinjaRule}
use Rattle.ninja_file.specs.declared.file.Statement.{Statement}
use Rattle.bp_names.specs.Meaning.{knows, IsSetOf}
use Rattle.ninja_file.specs.Inside.{HasRuleParts, HasStatementParts}
use Rattle.std.proofs.lemmas.Bool.{and_parts, and_from}
use Rattle.ninja_file.specs.Names.{is_nil, is_name, is_path, is_value, is_rule_key}
use Rattle.ninja_file.specs.Meaning.{is_rule_value, AllDiffer, IsRule, IsStatement}

-- what a set says of a text
pub contained : (texts set : List (List ℕ)) (q : List ℕ) → IsSetOf texts set → IsTrue (knows set q) ↔ Contains texts q
contained texts set q is = (
  λ h. Contains-from_any (λ x y. (bytes_eq-Decides x y).0) q texts (sym (is q) ∙ h),
  λ h. is q ∙ list_any-from_Contains nat_list_eq_equiv q texts h,
)

pub rule_by_parts : (rule : NinjaRule) (keys : List (Bor (List ℕ))) (set : List (List ℕ))
    → map (λ k. k.now) keys ≡ keys_of rule.bindings → AllDiffer (map (λ k. k.now) keys)
    → IsSetOf (map (λ k. k.now) keys) set → HasRuleParts rule keys set ↔ IsRule rule
rule_by_parts rule keys set e differ is =
    let command = contained (map (λ k. k.now) keys) set (codes "command") is in (
      λ p. record {
        name = p.name;
        not_phony = p.not_phony;
        keys = ap (list_all is_rule_key) (sym e) ∙ list_all-map is_rule_key (λ k. k.now) keys ∙ p.known;
        keys_differ = rw (← e) differ;
        command = rw (← e) (command.0 p.command);
        values = list_all-map is_rule_value (λ b. b.1) rule.bindings ∙ p.values;
      },
      λ r. record {
        name = r.name;
        not_phony = r.not_phony;
        known = sym (list_all-map is_rule_key (λ k. k.now) keys) ∙ ap (list_all is_rule_key) e ∙ r.keys;
        command = command.1 (rw e r.command);
        values = sym (list_all-map is_rule_value (λ b. b.1) rule.bindings) ∙ r.values;
      },
    )

some : (xs : List (List ℕ)) → IsTrue (not (is_nil xs)) ↔ (xs ≢ [])
some [] = (λ h. cc, λ h. absurd (h refl))
some (x ∷ xs) = (λ h e. cc, λ h. grind (arith, nat_tests))

all_joined : (xs ys : List (List ℕ)) → IsTrue (list_all is_path xs) → IsTrue (list_all is_path ys)
    → IsTrue (list_all is_path (xs ++ ys))
all_joined xs ys h k = list_all-append is_path xs ys ∙ and_from (list_all is_path xs) (list_all is_path ys) h k

all_first : (xs ys : List (List ℕ)) → IsTrue (list_all is_path (xs ++ ys)) → IsTrue (list_all is_path xs)
all_first xs ys h = (and_parts (list_all is_path xs) (list_all is_path ys) (sym (list_all-append is_path xs ys) ∙ h)).0

all_second : (xs ys : List (List ℕ)) → IsTrue (list_all is_path (xs ++ ys)) → IsTrue (list_all is_path ys)
all_second xs ys h = (and_parts (list_all is_path xs) (list_all is_path ys) (sym (list_all-append is_path xs ys) ∙ h)).1

pub statement_by_parts : (s : Statement) (texts names : List (List ℕ)) (keys : List (Bor (List ℕ)))
    → IsSetOf texts names → map (λ k. k.now) keys ≡ keys_of s.vars → AllDiffer (map (λ k. k.now) keys)
    → HasStatementParts s names keys ↔ IsStatement texts s
statement_by_parts s texts names keys is e differ = (
  λ p. record {
    makes = (some s.outs).0 p.makes;
    paths =
        all_joined s.outs (s.ins ++ (s.implicit ++ s.order_only)) p.outs (all_joined s.ins
        (s.implicit ++ s.order_only) p.ins (all_joined s.implicit s.order_only p.implicit p.order_only));
    rule =
        Contains-from_any (λ x y. (bytes_eq-Decides x y).0) s.rule (codes "phony" ∷ texts)
        (ap (λ b. bytes_eq s.rule (codes "phony") || b) (sym (is s.rule)) ∙ p.rule);
    keys = ap (list_all is_name) (sym e) ∙ list_all-map is_name (λ k. k.now) keys ∙ p.named;
    keys_differ = rw (← e) differ;
    values = list_all-map is_value (λ b. b.1) s.vars ∙ p.values;
  },
  λ r. record {
    makes = (some s.outs).1 r.makes;
    outs = all_first s.outs (s.ins ++ (s.implicit ++ s.order_only)) r.paths;
    ins =
        all_first s.ins (s.implicit ++ s.order_only)
        (all_second s.outs (s.ins ++ (s.implicit ++ s.order_only)) r.paths);
    implicit =
        all_first s.implicit s.order_only (all_second s.ins (s.implicit ++ s.order_only)
        (all_second s.outs (s.ins ++ (s.implicit ++ s.order_only)) r.paths));
    order_only =
        all_second s.implicit s.order_only (all_second s.ins (s.implicit ++ s.order_only)
        (all_second s.outs (s.ins ++ (s.implicit ++ s.order_only)) r.paths));
    rule =
        ap (λ b. bytes_eq s.rule (codes "phony") || b) (is s.rule)
        ∙ list_any-from_Contains nat_list_eq_equiv s.rule (codes "phony" ∷ texts) r.rule;
    named = sym (list_all-map is_name (λ k. k.now) keys) ∙ ap (list_all is_name) e ∙ r.keys;
    values = sym (list_all-map is_value (λ b. b.1) s.vars) ∙ r.values;
  },
)

pub defaults_listed : (outs set defaults : List (List ℕ)) → IsSetOf outs set
    → IsTrue (list_all (λ text. knows set text) defaults) ↔ All (Contains outs) defaults
defaults_listed outs set defaults is = (
  λ h k d inside. (contained outs set (get_or defaults k d) is).0
      (AllPass-from_list_all (λ text. knows set text) defaults h k d inside),
  λ all. list_all-from_AllPass (λ text. knows set text) defaults
      (λ k d inside. (contained outs set (get_or defaults k d) is).1 (all k d inside)),
)
