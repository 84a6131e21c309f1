-- The compile steps of some files are the same where what no step of them needs is left out.
use Rattle.std.proofs.Common.{◌≡◌, ◌||◌, ℕ, List, [], ◌∷◌, Option, Some, None, Bool, true, false, refl, ap}
use Rattle.std.specs.List.{list_any, cons_option}
use Rattle.std.specs.Option.{option_map, option_map_or}
use Rattle.bp_faults.specs.declared.place.Item.{Item}
use Rattle.graph_nodes.specs.declared.graph.Node.{Node}
use Rattle.bp_props.specs.declared.module.Module.{Module}
use Rattle.bp_props.specs.declared.props.Props.{Props}
use Rattle.build_parts.specs.declared.sources.Language.{Language}
use Rattle.build_parts.specs.declared.sources.Language.TheVariants.{C, Cxx, Assembler}
use Rattle.build_actions.specs.Compiles.{language_of, compiler_of, variables_in, compile_step, compile_steps}
use Rattle.build_actions.specs.Inside.{is_language, is_written_in, needed_compiler}

same_language : (language : Language) → is_language language language ≡ true
same_language C = refl
same_language Cxx = refl
same_language Assembler = refl

-- the variables of a language in which a file is written
same_variables : (m : Module) (x : Node Props) (all : List Item) (language : Language)
    → list_any (is_written_in language) all ≡ true
    → variables_in (needed_compiler m x all) language ≡ variables_in (compiler_of m x all) language
same_variables m x all C written = rw written refl
same_variables m x all Cxx written = rw written refl
same_variables m x all Assembler written = rw written refl

-- the step of a file whose language is known
same_step_in : (m : Module) (x : Node Props) (all : List Item) (source : List ℕ) (found : Option Language)
    → ((language : Language) → option_map_or (is_language language) found false ≡ true
    → list_any (is_written_in language) all ≡ true)
    → option_map (compile_step (needed_compiler m x all) source) found
    ≡ option_map (compile_step (compiler_of m x all) source) found
same_step_in m x all source None known = refl
same_step_in m x all source (Some language) known =
    ap
    (λ vars. Some (record {
      outs = (compile_step (compiler_of m x all) source language).outs;
      rule = (compile_step (compiler_of m x all) source language).rule;
      ins = (compile_step (compiler_of m x all) source language).ins;
      implicit = (compile_step (compiler_of m x all) source language).implicit;
      order_only = [];
      vars = vars;
    }))
    (same_variables m x all language (known language (same_language language)))

or_left : (a b : Bool) → a ≡ true → (a || b) ≡ true
or_left a b h = rw h refl

or_right : (a b : Bool) → b ≡ true → (a || b) ≡ true
or_right true b h = refl
or_right false b h = h

-- the steps of some of the files
same_steps : (m : Module) (x : Node Props) (all files : List Item)
    → ((language : Language) → list_any (is_written_in language) files ≡ true
    → list_any (is_written_in language) all ≡ true)
    → compile_steps (needed_compiler m x all) files ≡ compile_steps (compiler_of m x all) files
same_steps m x all [] known = refl
same_steps m x all (file ∷ files) known =
    let first = same_step_in m x all file.text (language_of file)
    (λ language h. known language (or_left _ (list_any (is_written_in language) files) h)) in
    let rest = same_steps m x all files (λ language h. known language (or_right (is_written_in language file) _ h)) in
    λ k. cons_option (first k) (rest k)

pub needed_steps : (m : Module) (x : Node Props) (files : List Item)
    → compile_steps (needed_compiler m x files) files ≡ compile_steps (compiler_of m x files) files
needed_steps m x files = same_steps m x files files (λ language h. h)
