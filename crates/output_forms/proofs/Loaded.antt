-- Files that may be listed give modules that can be written and are told by their names.
use Rattle.std.proofs.Common.{◌≡◌, ◌≢◌, ◌≤◌, ◌<◌, ◌+◌, ◌++◌, ◌||◌, ℕ, zero, suc, Bool, true, false, not, cond, List}
use Rattle.std.proofs.Common.{[], ◌∷◌, length, Option, Some, None, Result, Ok, Err, refl, sym, ap, ◌∙◌, arith, subst}
use Rattle.std.specs.Prelude.{IsTrue, codes, nat_le, slice_index_or, ⊤}
use Rattle.std.specs.List.{AllByRecursion, list_any}
use Rattle.std.specs.Option.{option_to_list}
use Rattle.std.specs.Str.{bytes_eq}
use Rattle.std.proofs.lemmas.Bool.{and_parts, or_parts, not-true, leb-false, both_ways}
use Rattle.std.proofs.lemmas.List.{length-append}
use Rattle.std.proofs.lemmas.Slice.Eq.{bytes_eq-Decides}
use Rattle.bp_faults.specs.declared.fault.Fault.{Fault}
use Rattle.bp_faults.specs.declared.limits.TheConstants.{MOST_MODULES}
use Rattle.bp_faults.specs.Answers.{then_do}
use Rattle.bp_faults.specs.Characters.{is_barred_in_paths}
use Rattle.bp_faults.specs.Paths.{is_normal}
use Rattle.bp_faults.specs.Phases.{Each}
use Rattle.bp_faults.proofs.Lists.{all_append}
use Rattle.bp_load.specs.Inherited.{Finished, inherited_scope, in_directory, all_evaluated, RawMean}
use Rattle.bp_load.specs.ListFile.{file_name, is_listed}
use Rattle.bp_load.specs.Loaded.{all_typed, has_module_named, name_tested, names_tested, all_named, LoadMeans}
use Rattle.bp_load.specs.Texts.{AsText}
use Rattle.bp_load.specs.Trees.{Source, Placed, placed_file, SourceTextMeans, SourceFileMeans, TreesMean}
use Rattle.bp_props.specs.declared.module.Module.{Module}
use Rattle.bp_values.specs.Meaning.{Raw, file_evaluation}
use Rattle.build_actions.specs.Laws.{has_slash}
use Rattle.ninja_file.specs.Names.{is_path}
use Rattle.property_tables.specs.Meaning.{typed_module}
use Rattle.output_forms.specs.Forms.{HasSoundTexts}
use Rattle.output_forms.specs.Forms.{MayBeListed, AreFormed}
use Rattle.output_forms.proofs.Bytes.{IsClear, none_of, directory_clear, name_fits}
use Rattle.output_forms.proofs.Each.{IfThere, all_made}
use Rattle.output_forms.proofs.Outs.{IfResult}
use Rattle.output_forms.proofs.Typed.{then_if, then_any, IsTyped, typed_kept}
use Rattle.output_forms.proofs.Ways.{then_came}

-- Directories

listed_clear : (path : List ℕ) → is_listed path ≡ true → IsClear path
listed_clear path h =
    let s = and_parts (is_normal path) _ h in
    let t = and_parts (not (list_any is_barred_in_paths path)) (bytes_eq (file_name path) (codes "Android.bp")) s.1 in
    none_of is_barred_in_paths path (not-true (list_any is_barred_in_paths path) t.0)

-- The directory of a file may stand in a path.
abbrev InClear : Placed → Type 0
InClear p = IsClear p.dir

-- So may that of a raw module.
abbrev FromClear : List ℕ × Raw → Type 0
FromClear r = IsClear r.0

file_clear : (n : ℕ) (file : Source) (p : Placed) → IsTrue (is_listed file.0) → SourceFileMeans n file (Ok p)
    → InClear p
file_clear n file p h means =
    then_came (AsText n file.1 (SourceTextMeans n file.1)) (λ tree o. Ok (placed_file file.0 tree) ≡ o) InClear
    (λ tree text q is. let same : placed_file file.0 tree ≡ q = cc in
    subst InClear same (directory_clear file.0 (listed_clear file.0 h)))
    p means

trees_clear : (n : ℕ) (files : List Source) (ps : List Placed) → MayBeListed files → Each SourceFileMeans n files ps
    → AllByRecursion InClear ps
trees_clear n [] [] h each = tt
trees_clear n [] (p ∷ ps) h each = absurd each
trees_clear n (file ∷ files) [] h each = tt
trees_clear n (file ∷ files) (p ∷ ps) h each =
    (file_clear n file p h.0 each.0, trees_clear (n + 1) files ps h.1 each.1)

raw_clear : (finished : List Finished) (files : List Placed) → AllByRecursion InClear files
    → IfResult (AllByRecursion FromClear) (all_evaluated finished files)
raw_clear finished [] h = tt
raw_clear finished (file ∷ files) h =
    then_any (AllByRecursion FromClear) (file_evaluation (inherited_scope file.directory finished) file.defs) _
    (λ values. then_if (AllByRecursion FromClear) (AllByRecursion FromClear)
    (all_evaluated (finished ++ (file.directory, values.1) ∷ []) files)
    (λ modules. Ok (in_directory file.dir values.0 ++ modules))
    (raw_clear (finished ++ (file.directory, values.1) ∷ []) files h.1)
    (λ modules clear. all_append FromClear (in_directory file.dir values.0) modules
    (all_made FromClear (λ m. (file.dir, m)) (λ m. h.0) values.0) clear))

-- Typing

one_typed : (o : Option Module) (more : List Module) → IfThere IsTyped o → AllByRecursion IsTyped more
    → AllByRecursion IsTyped (option_to_list o ++ more)
one_typed None more h k = k
one_typed (Some m) more h k = (h, k)

all_kept : (raws : List (List ℕ × Raw)) → AllByRecursion FromClear raws
    → IfResult (AllByRecursion IsTyped) (all_typed raws)
all_kept [] h = tt
all_kept (m ∷ ms) h =
    then_if (IfThere IsTyped) (AllByRecursion IsTyped) (typed_module m.1 m.0)
    (λ made. then_do (all_typed ms) (λ more. Ok (option_to_list made ++ more))) (typed_kept m.1 m.0 h.0)
    (λ made one. then_if (AllByRecursion IsTyped) (AllByRecursion IsTyped) (all_typed ms)
    (λ more. Ok (option_to_list made ++ more)) (all_kept ms h.1)
    (λ more rest. one_typed made more one rest))

-- Names

then_done : {A B : Type 0} (r : Result A Fault) (next : A → Result B Fault) (b : B) → then_do r next ≡ Ok b
    → (a : A) × (r ≡ Ok a) × (next a ≡ Ok b)
then_done (Ok a) next b h = (a, refl, h)
then_done (Err fault) next b h = absurd (cc)

both_tests : {A : Type 0} (b c : Bool) (e f : Fault) (x y : A) → cond b (Err e) (cond c (Err f) (Ok x)) ≡ Ok y
    → (b ≡ false) × (c ≡ false)
both_tests true c e f x y h = absurd (cc)
both_tests false true e f x y h = absurd (cc)
both_tests false false e f x y h = (refl, refl)

-- A name differs from each of some modules.
abbrev Differs : Module → Module → Type 0
Differs a b = a.name ≢ b.name

-- Each name differs from the later ones.
abbrev Apart : List Module → Type 0
Apart [] = ⊤
Apart (m ∷ ms) = AllByRecursion (Differs m) ms × Apart ms

split_name : (name : List ℕ) (before : List Module) (m : Module) → has_module_named name (before ++ m ∷ []) ≡ false
    → (has_module_named name before ≡ false) × (bytes_eq name m.name ≡ false)
split_name name [] m h = (refl, (or_parts (bytes_eq name m.name) false h).0)
split_name name (b ∷ before) m h =
    let s = or_parts (bytes_eq name b.name) (has_module_named name (before ++ m ∷ [])) h in
    let t = split_name name before m s.1 in
    (ap (λ c. c || has_module_named name before) s.0 ∙ t.0, t.1)

named_less : (before : List Module) (m : Module) (ms : List Module)
    → AllByRecursion (λ (x : Module). has_module_named x.name (before ++ m ∷ []) ≡ false) ms
    → AllByRecursion (λ (x : Module). has_module_named x.name before ≡ false) ms × AllByRecursion (Differs m) ms
named_less before m [] h = (tt, tt)
named_less before m (x ∷ xs) h =
    let s = split_name x.name before m h.0 in
    let rest = named_less before m xs h.1 in
    let differs : Differs m x =
    λ same. both_ways (bytes_eq x.name m.name) s.1 ((bytes_eq-Decides x.name m.name).1 (sym same)) in
    ((s.0, rest.0), (differs, rest.1))

-- What the phase of names says of modules behind some others.
pub record AreTold (before ms : List Module) : Type 0 where
  pub few : length before + length ms ≤ MOST_MODULES
  pub new : AllByRecursion (λ (x : Module). has_module_named x.name before ≡ false) ms
  pub apart : Apart ms

told : (before ms : List Module) (done : Unit {0}) → names_tested before ms ≡ Ok done → length before ≤ MOST_MODULES
    → AreTold before ms
told before [] done h few = record { few = omega (arith, few); new = tt; apart = tt }
told before (m ∷ ms) done h few =
    let s = then_done (name_tested before m) (λ fine. names_tested (before ++ m ∷ []) ms) done h in
    let t = both_tests (nat_le MOST_MODULES (length before)) (has_module_named m.name before) _ _ _ _ s.1 in
    let below = leb-false MOST_MODULES (length before) t.0 in
    let longer = length-append before (m ∷ []) in
    let rest = told (before ++ m ∷ []) ms done s.2 (omega (arith, below, longer)) in
    let less = named_less before m ms rest.new in
    let most = rest.few in
    record { few = omega (arith, longer, most); new = (t.1, less.0); apart = (less.1, rest.apart) }

at_index : (P : Module → Type 0) (ms : List Module) (j : ℕ) (d : Module) → AllByRecursion P ms → j < length ms
    → P (slice_index_or ms j d)
at_index P [] j d h lt = absurd (omega (arith, lt))
at_index P (m ∷ ms) zero d h lt = h.0
at_index P (m ∷ ms) (suc j) d h lt = at_index P ms j d h.1 (omega (arith, lt))

pairs : (ms : List Module) → Apart ms → (i j : ℕ) (d : Module) → i < j → j < length ms
    → Differs (slice_index_or ms i d) (slice_index_or ms j d)
pairs [] h i j d ij jl = absurd (omega (arith, jl))
pairs (m ∷ ms) h zero zero d ij jl = absurd (omega (arith, ij))
pairs (m ∷ ms) h zero (suc j) d ij jl = at_index (Differs m) ms j d h.0 (omega (arith, jl))
pairs (m ∷ ms) h (suc i) zero d ij jl = absurd (omega (arith, ij))
pairs (m ∷ ms) h (suc i) (suc j) d ij jl = pairs ms h.1 i j d (omega (arith, ij)) (omega (arith, jl))

-- All phases

typed_sound : (ms : List Module) → AllByRecursion IsTyped ms → AllByRecursion (λ (m : Module). HasSoundTexts m.props) ms
typed_sound [] h = tt
typed_sound (m ∷ ms) h = (h.0.0, typed_sound ms h.1)

typed_paths : (ms : List Module) → AllByRecursion IsTyped ms
    → AllByRecursion (λ (m : Module). IsTrue (is_path m.name)) ms
typed_paths [] h = tt
typed_paths (m ∷ ms) h = ((name_fits m.name h.0.1).0, typed_paths ms h.1)

typed_plain : (ms : List Module) → AllByRecursion IsTyped ms
    → AllByRecursion (λ (m : Module). has_slash m.name ≡ false) ms
typed_plain [] h = tt
typed_plain (m ∷ ms) h = ((name_fits m.name h.0.1).1, typed_plain ms h.1)

named_formed : (raws : List (List ℕ × Raw)) → AllByRecursion FromClear raws → IfResult AreFormed (all_named raws)
named_formed raws clear =
    then_if (AllByRecursion IsTyped) AreFormed (all_typed raws)
    (λ modules. then_do (names_tested [] modules) (λ fine. Ok modules)) (all_kept raws clear)
    (λ modules typed_module. by modules typed_module (names_tested [] modules) refl)
  where
    by : (modules : List Module) → AllByRecursion IsTyped modules → (r : Result (Unit {0}) Fault)
        → names_tested [] modules ≡ r → IfResult AreFormed (then_do r (λ fine. Ok modules))
    by modules typed_module (Err fault) is = tt
    by modules typed_module (Ok done) is =
        let known = told [] modules done is (omega arith) in
        let few = known.few in
        record {
          sound = typed_sound modules typed_module;
          paths = typed_paths modules typed_module;
          plain = typed_plain modules typed_module;
          differ = pairs modules known.apart;
          few = omega (arith, few);
        }

raws_clear : (files : List Source) (raws : List (List ℕ × Raw)) → MayBeListed files → RawMean files (Ok raws)
    → AllByRecursion FromClear raws
raws_clear files raws listed means =
    then_came (TreesMean files) (λ parsed o. all_evaluated [] parsed ≡ o) (AllByRecursion FromClear)
    (λ parsed trees made is. subst (IfResult (AllByRecursion FromClear)) is
    (raw_clear [] parsed (trees_clear 1 files parsed listed trees)))
    raws means

-- what files load as
pub loaded_formed : (files : List Source) (mods : List Module) → MayBeListed files → LoadMeans files (Ok mods)
    → AreFormed mods
loaded_formed files mods listed means =
    then_came (RawMean files) (λ raws o. all_named raws ≡ o) AreFormed
    (λ raws raw made is. subst (IfResult AreFormed) is (named_formed raws (raws_clear files raws listed raw)))
    mods means
