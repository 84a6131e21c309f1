-- The outputs of nodes.
use Rattle.std.proofs.Common.{◌≡◌, ◌≢◌, ◌++◌, ◌||◌, not, ℕ, List, [], ◌∷◌, Bool, true, false, cond, map, Option, Some}
use Rattle.std.proofs.Common.{None, Result, Ok, Err, refl, sym, ap, subst, ◌∙◌}
use Rattle.std.specs.Prelude.{codes}
use Rattle.std.specs.Option.{option_map}
use Rattle.std.specs.List.{AllByRecursion, flat_map, filter_map, cons_option, list_any}
use Rattle.std.specs.Str.{bytes_eq}
use Rattle.std.proofs.lemmas.Slice.Eq.{bytes_eq-Decides}
use Rattle.std.proofs.lemmas.List.{append_cancel_left, append_cancel_right}
use Rattle.std.proofs.lemmas.List.Folds.{list_any-append}
use Rattle.bp_faults.specs.declared.fault.Fault.{Fault}
use Rattle.bp_faults.specs.declared.place.Item.{Item}
use Rattle.bp_faults.specs.declared.kind.FaultKind.TheVariants.{DuplicateSource}
use Rattle.bp_faults.specs.Answers.{then_do}
use Rattle.bp_faults.proofs.Lists.{Apart, all_map, apart_image}
use Rattle.bp_names.specs.Meaning.{knows}
use Rattle.ninja_file.specs.declared.file.Statement.{Statement}
use Rattle.build_parts.specs.declared.sources.SourceKind.{SourceKind}
use Rattle.build_parts.specs.declared.sources.SourceKind.TheVariants.{Compiled, Header}
use Rattle.build_parts.specs.declared.sources.Language.{Language}
use Rattle.build_parts.specs.Sources.{source_fault, source_kind, checked_by, sources_checked}
use Rattle.build_parts.specs.Paths.{object_path}
use Rattle.build_actions.specs.declared.compile.Compiler.{Compiler}
use Rattle.build_actions.specs.Compiles.{language_by, language_of, compile_step, compile_steps, objects_in}

-- the paths of the files that are compiled
abbrev pub source_of : Item → Option (List ℕ)
source_of file = option_map (λ language. file.text) (language_of file)

abbrev pub sources_in : List Item → List (List ℕ)
sources_in files = filter_map source_of files

abbrev pub Others : List (List ℕ) → List ℕ → Type 0
Others earlier path = knows earlier path ≡ false

or_both : (a b : Bool) → (a || b) ≡ false → (a ≡ false) × (b ≡ false)
or_both true b h = cc
or_both false b h = (refl, h)

-- a path that isn't among some others and one more
others_split : (earlier : List (List ℕ)) (one path : List ℕ) → Others (earlier ++ one ∷ []) path
    → Others earlier path × (one ≢ path)
others_split earlier one path h =
    let both = or_both (list_any (bytes_eq path) earlier) (list_any (bytes_eq path) (one ∷ []))
    (sym (list_any-append (bytes_eq path) earlier (one ∷ [])) ∙ h) in (
      both.0,
      λ same.
          no (bytes_eq path one) ((bytes_eq-Decides path one).1 (sym same))
          (or_both (bytes_eq path one) false both.1).0,
    )
  where
    no : (b : Bool) → b ≡ true → b ≡ false → ⊥
    no b on off = cc

pub then_ok : {A B : Type 0} (r : Result A Fault) (next : A → Result B Fault) (value : B) → then_do r next ≡ Ok value
    → (a : A) × (r ≡ Ok a) × (next a ≡ Ok value)
then_ok (Ok a) next value h = (a, refl, h)
then_ok (Err fault) next value h = cc

abbrev passed : Result Unit Fault
passed = Ok tt

-- Checked sources differ from each other, and from the earlier ones.
pub checked_differ : (earlier : List (List ℕ)) (files : List Item) → sources_checked earlier files ≡ Ok tt
    → Apart (λ p q. p ≢ q) (sources_in files) × AllByRecursion (Others earlier) (sources_in files)
checked_differ earlier [] h = (tt, tt)
checked_differ earlier (file ∷ files) h =
    by (source_kind file.text) refl h (checked_differ (earlier ++ file.text ∷ []) files)
  where
    Rest : List (List ℕ) → Type 0
    Rest paths = Apart (λ p q. p ≢ q) paths × AllByRecursion (Others earlier) paths

    On : Type 0
    On =
        sources_checked (earlier ++ file.text ∷ []) files ≡ Ok tt → Apart (λ p q. p ≢ q) (sources_in files)
        × AllByRecursion (Others (earlier ++ file.text ∷ [])) (sources_in files)

    fewer : AllByRecursion (Others (earlier ++ file.text ∷ [])) (sources_in files)
        → AllByRecursion (Others earlier) (sources_in files)
    fewer rest =
        all_map (Others (earlier ++ file.text ∷ [])) (Others earlier)
        (λ path o. (others_split earlier file.text path o).0) (sources_in files) rest

    compile : (b : Bool) → knows earlier file.text ≡ b
        → then_do (cond (not b) passed (Err (source_fault DuplicateSource file)))
        (λ done. sources_checked (earlier ++ file.text ∷ []) files) ≡ Ok tt → On → Rest (file.text ∷ sources_in files)
    compile true e k on = cc
    compile false e k on =
        let rest = on k in (
          (
            all_map (Others (earlier ++ file.text ∷ [])) (λ q. file.text ≢ q)
                (λ path o. (others_split earlier file.text path o).1) (sources_in files) rest.1,
            rest.0,
          ),
          (e, fewer rest.1),
        )

    by : (kind : Option SourceKind) → source_kind file.text ≡ kind → then_do (checked_by kind
        (not (knows earlier file.text)) file) (λ done. sources_checked (earlier ++ file.text ∷ []) files) ≡ Ok tt → On
        → Rest (cons_option (option_map (λ language. file.text) (language_by kind)) (sources_in files))
    by None e k on = cc
    by (Some Header) e k on = let rest = on k in (rest.0, fewer rest.1)
    by (Some (Compiled language)) e k on = compile (knows earlier file.text) refl k on

abbrev pub Differ : List ℕ → List ℕ → Type 0
Differ p q = p ≢ q

objects_map : (directory : List ℕ) (files : List Item)
    → objects_in directory files ≡ map (object_path directory) (sources_in files)
objects_map directory [] = refl
objects_map directory (file ∷ files) = by (language_of file) (objects_map directory files)
  where
    by : (language : Option Language) → objects_in directory files ≡ map (object_path directory) (sources_in files)
        → cons_option (option_map (λ language. object_path directory file.text) language) (objects_in directory files)
        ≡ map (object_path directory) (cons_option (option_map (λ language. file.text) language) (sources_in files))
    by None rest = rest
    by (Some language) rest = ap (λ l. object_path directory file.text ∷ l) rest

-- Objects of different sources differ.
object_differs : (directory p q : List ℕ) → Differ p q → Differ (object_path directory p) (object_path directory q)
object_differs directory p q differ same =
    differ (append_cancel_right p q (codes ".o") (append_cancel_left (codes "/obj/") (p ++ codes ".o") (q ++ codes ".o")
    (append_cancel_left directory (codes "/obj/" ++ (p ++ codes ".o")) (codes "/obj/" ++ (q ++ codes ".o")) same)))

pub objects_differ : (directory : List ℕ) (files : List Item) → sources_checked [] files ≡ Ok tt
    → Apart Differ (objects_in directory files)
objects_differ directory files h =
    subst (λ l. Apart Differ l) (sym (objects_map directory files)) (apart_image Differ Differ (object_path directory)
    (object_differs directory) (sources_in files) (checked_differ [] files h).0)

-- every object is an object of some path
pub objects_all : (P : List ℕ → Type 0) (directory : List ℕ) → ((p : List ℕ) → P (object_path directory p))
    → (files : List Item) → AllByRecursion P (objects_in directory files)
objects_all P directory h files =
    subst (λ l. AllByRecursion P l) (sym (objects_map directory files)) (every (sources_in files))
  where
    every : (ps : List (List ℕ)) → AllByRecursion P (map (object_path directory) ps)
    every [] = tt
    every (p ∷ ps) = (h p, every ps)

-- what compile steps put out
pub compiles_outs : (compiler : Compiler) (files : List Item)
    → flat_map (λ (s : Statement). s.outs) (compile_steps compiler files) ≡ objects_in compiler.directory files
compiles_outs compiler [] = refl
compiles_outs compiler (file ∷ files) = by (language_of file) (compiles_outs compiler files)
  where
    by : (language : Option Language)
        → flat_map (λ (s : Statement). s.outs) (compile_steps compiler files) ≡ objects_in compiler.directory files
        → flat_map (λ (s : Statement). s.outs) (cons_option (option_map (compile_step compiler file.text) language)
        (compile_steps compiler files)) ≡ cons_option (option_map (λ language. object_path compiler.directory file.text)
        language) (objects_in compiler.directory files)
    by None rest = rest
    by (Some language) rest = ap (λ l. object_path compiler.directory file.text ∷ l) rest
