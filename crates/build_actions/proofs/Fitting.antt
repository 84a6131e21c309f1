-- Statements that are well formed.
use Rattle.std.proofs.Common.{◌≡◌, ◌≢◌, ◌<◌, ◌++◌, ◌&&◌, ℕ, Bool, true, false, cond, List, [], ◌∷◌, get_or, Option}
use Rattle.std.proofs.Common.{Some, None, refl, sym, ap, ◌∙◌, arith, subst}
use Rattle.std.specs.Prelude.{codes, Contains}
use Rattle.std.specs.Option.{option_map}
use Rattle.std.specs.List.{AllByRecursion, list_all, cons_option}
use Rattle.std.specs.Map.{keys_of, values_of}
use Rattle.std.specs.Str.{bytes_eq}
use Rattle.std.proofs.lemmas.Slice.Eq.{bytes_eq-Decides}
use Rattle.bp_faults.specs.declared.place.Item.{Item}
use Rattle.bp_faults.proofs.Lists.{all_append, pairs_apart}
use Rattle.ninja_file.specs.declared.file.Statement.{Statement}
use Rattle.ninja_file.specs.Names.{is_name, is_value, is_path}
use Rattle.ninja_file.specs.Meaning.{AllDiffer, IsStatement}
use Rattle.build_parts.specs.declared.sources.Language.{Language}
use Rattle.build_parts.specs.declared.sources.Language.TheVariants.{C, Cxx, Assembler}
use Rattle.build_parts.specs.Kept.{new_one, new_ones}
use Rattle.build_parts.specs.Variables.{Variables, variable}
use Rattle.build_parts.specs.Paths.{object_path}
use Rattle.build_actions.specs.declared.compile.Compiler.{Compiler}
use Rattle.build_actions.specs.Compiles.{language_of, rule_of, variables_in, compile_step, compile_steps, objects_in}
use Rattle.bp_names.specs.Meaning.{knows}
use Rattle.build_actions.proofs.Outputs.{Differ}
use Rattle.build_actions.proofs.Shown.{IsPath, Shown, value_of}

-- the names of the rules
abbrev pub six : List (List ℕ)
six = codes "cc" ∷ codes "cxx" ∷ codes "as" ∷ codes "ar" ∷ codes "link" ∷ codes "solink" ∷ []

pub apart_texts : (a b : List ℕ) → bytes_eq a b ≡ false → Differ a b
apart_texts a b h same = no ((bytes_eq-Decides a b).1 same)
  where
    no : bytes_eq a b ≡ true → ⊥
    no on = cc

-- variables that a statement may have
pub record AreVariables (vars : Variables) : Type 0 where
  pub keys : list_all is_name (keys_of vars) ≡ true
  pub differ : AllDiffer (keys_of vars)
  pub values : list_all is_value (values_of vars) ≡ true

pub no_variables : AreVariables []
no_variables = record { keys = refl; differ = pairs_apart Differ [] tt; values = refl }

one_value : (a : Bool) → a ≡ true → (a && true) ≡ true
one_value a h = ap (λ b. b && true) h

two_values : (a b : Bool) → a ≡ true → b ≡ true → (a && (b && true)) ≡ true
two_values a b ha hb = λ i. ha i && (hb i && true)

three_values : (a b c : Bool) → a ≡ true → b ≡ true → c ≡ true → (a && (b && (c && true))) ≡ true
three_values a b c ha hb hc = λ i. ha i && (hb i && (hc i && true))

pub one_variable : (key value : List ℕ) → is_name key ≡ true → Shown value → AreVariables (variable key value)
one_variable key [] name h = no_variables
one_variable key (b ∷ value) name h = record {
  keys = one_value (is_name key) name;
  differ = pairs_apart Differ (key ∷ []) (tt, tt);
  values = one_value (is_value (b ∷ value)) (value_of b value h);
}

pub two_variables : (k l v w : List ℕ) → is_name k ≡ true → is_name l ≡ true → Differ k l → Shown v → Shown w
    → AreVariables (variable k v ++ variable l w)
two_variables k l [] w nk nl kl hv hw = one_variable l w nl hw
two_variables k l (b ∷ v) [] nk nl kl hv hw = one_variable k (b ∷ v) nk hv
two_variables k l (b ∷ v) (c ∷ w) nk nl kl hv hw = record {
  keys = two_values (is_name k) (is_name l) nk nl;
  differ = pairs_apart Differ (k ∷ l ∷ []) ((kl, tt), (tt, tt));
  values = two_values (is_value (b ∷ v)) (is_value (c ∷ w)) (value_of b v hv) (value_of c w hw);
}

pub three_variables : (k l m v w x : List ℕ) → is_name k ≡ true → is_name l ≡ true → is_name m ≡ true → Differ k l
    → Differ k m → Differ l m → Shown v → Shown w → Shown x
    → AreVariables (variable k v ++ (variable l w ++ variable m x))
three_variables k l m [] w x nk nl nm kl km lm hv hw hx = two_variables l m w x nl nm lm hw hx
three_variables k l m (b ∷ v) [] x nk nl nm kl km lm hv hw hx = two_variables k m (b ∷ v) x nk nm km hv hx
three_variables k l m (b ∷ v) (c ∷ w) [] nk nl nm kl km lm hv hw hx = two_variables k l (b ∷ v) (c ∷ w) nk nl kl hv hw
three_variables k l m (b ∷ v) (c ∷ w) (d ∷ x) nk nl nm kl km lm hv hw hx = record {
  keys = three_values (is_name k) (is_name l) (is_name m) nk nl nm;
  differ = pairs_apart Differ (k ∷ l ∷ m ∷ []) ((kl, (km, tt)), ((lm, tt), (tt, tt)));
  values =
      three_values (is_value (b ∷ v)) (is_value (c ∷ w)) (is_value (d ∷ x)) (value_of b v hv) (value_of c w hw)
      (value_of d x hx);
}

-- paths, as a test
pub are_paths : (paths : List (List ℕ)) → AllByRecursion IsPath paths → list_all is_path paths ≡ true
are_paths [] h = refl
are_paths (p ∷ paths) h = (λ i. h.0 i && are_paths paths h.1 i)

some : {A : Type 0} (x : A) (xs : List A) → (x ∷ xs) ≢ []
some x xs same = cc

-- a statement of one out
pub fits : (s : Statement) (out : List ℕ) → s.outs ≡ out ∷ [] → IsPath out → AllByRecursion IsPath s.ins
    → AllByRecursion IsPath s.implicit → AllByRecursion IsPath s.order_only
    → Contains (codes "phony" ∷ six) s.rule → AreVariables s.vars → IsStatement six s
fits s out outs path ins implicit order_only rule vars = record {
  makes = λ none. some out [] (sym outs ∙ none);
  paths = are_paths (s.outs ++ (s.ins ++ (s.implicit ++ s.order_only)))
      (all_append IsPath s.outs (s.ins ++ (s.implicit ++ s.order_only))
      (subst (λ l. AllByRecursion IsPath l) (sym outs) (path, tt))
      (all_append IsPath s.ins (s.implicit ++ s.order_only) ins
      (all_append IsPath s.implicit s.order_only implicit order_only)));
  rule = rule;
  keys = vars.keys;
  keys_differ = vars.differ;
  values = vars.values;
}

-- the rule at an index
pub rule_at : (k : ℕ) (rule : List ℕ) → k < 7 → get_or (codes "phony" ∷ six) k rule ≡ rule
    → Contains (codes "phony" ∷ six) rule
rule_at k rule lt is = (k, lt, is)

pub language_rule : (language : Language) → Contains (codes "phony" ∷ six) (rule_of language)
language_rule C = rule_at 1 (codes "cc") (omega arith) refl
language_rule Cxx = rule_at 2 (codes "cxx") (omega arith) refl
language_rule Assembler = rule_at 3 (codes "as") (omega arith) refl

-- what is kept of some texts
pub kept_all : (P : List ℕ → Type 0) (earlier texts : List (List ℕ)) → AllByRecursion P texts
    → AllByRecursion P (new_ones earlier texts)
kept_all P earlier [] h = tt
kept_all P earlier (t ∷ texts) h =
    all_append P (new_one earlier t) (new_ones (earlier ++ t ∷ []) texts) (by (knows earlier t))
    (kept_all P (earlier ++ t ∷ []) texts h.1)
  where
    by : (b : Bool) → AllByRecursion P (cond b [] (t ∷ []))
    by true = tt
    by false = (h.0, tt)

-- Compile steps fit.
pub record Fits (compiler : Compiler) : Type 0 where
  pub objects : (source : List ℕ) → IsPath source → IsPath (object_path compiler.directory source)
  pub headers : AllByRecursion IsPath compiler.headers
  pub variables : (language : Language) → AreVariables (variables_in compiler language)

pub step_fits : (compiler : Compiler) → Fits compiler → (source : List ℕ) (language : Language) → IsPath source
    → IsStatement six (compile_step compiler source language)
step_fits compiler fit source language path =
    fits (compile_step compiler source language) (object_path compiler.directory source) refl (fit.objects source path)
    (path, tt) fit.headers tt (language_rule language) (fit.variables language)

pub steps_fit : (compiler : Compiler) → Fits compiler → (files : List Item)
    → AllByRecursion (λ (f : Item). IsPath f.text) files
    → AllByRecursion (IsStatement six) (compile_steps compiler files)
steps_fit compiler fit [] h = tt
steps_fit compiler fit (f ∷ files) h = by (language_of f) (steps_fit compiler fit files h.1)
  where
    by : (o : Option Language) → AllByRecursion (IsStatement six) (compile_steps compiler files)
        → AllByRecursion (IsStatement six)
        (cons_option (option_map (compile_step compiler f.text) o) (compile_steps compiler files))
    by None rest = rest
    by (Some language) rest = (step_fits compiler fit f.text language h.0, rest)

pub objects_fit : (directory : List ℕ) → ((source : List ℕ) → IsPath source → IsPath (object_path directory source))
    → (files : List Item) → AllByRecursion (λ (f : Item). IsPath f.text) files
    → AllByRecursion IsPath (objects_in directory files)
objects_fit directory fit [] h = tt
objects_fit directory fit (f ∷ files) h = by (language_of f) (objects_fit directory fit files h.1)
  where
    by : (o : Option Language) → AllByRecursion IsPath (objects_in directory files)
        → AllByRecursion IsPath
        (cons_option (option_map (λ language. object_path directory f.text) o) (objects_in directory files))
    by None rest = rest
    by (Some language) rest = (fit f.text h.0, rest)
