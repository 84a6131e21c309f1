-- No public contract speaks of it: what the steps of a node need, of what they could have in common, and steps by their
-- parts.
use Rattle.std.specs.Prelude.{ℕ, List, [], ◌∷◌, Bool, true, false, if◌then◌else◌, codes}
use Rattle.std.specs.List.{list_any}
use Rattle.std.specs.Option.{option_map_or}
use Rattle.bp_faults.specs.declared.place.Item.{Item}
use Rattle.graph_nodes.specs.declared.graph.Node.{Node}
use Rattle.bp_props.specs.declared.module.Module.{Module}
use Rattle.bp_props.specs.declared.props.Props.{Props}
use Rattle.ninja_file.specs.declared.file.Statement.{Statement}
use Rattle.build_parts.specs.declared.sources.Language.{Language}
use Rattle.build_parts.specs.declared.sources.Language.TheVariants.{C, Cxx, Assembler}
use Rattle.build_parts.specs.Paths.{output_directory, object_path}
use Rattle.build_parts.specs.Variables.{Variables, compile_variables}
use Rattle.build_actions.specs.declared.compile.Compiler.{Compiler}
use Rattle.build_actions.specs.Compiles.{language_of, headers_of, rule_of}
use Rattle.build_actions.specs.File.{all_path}

-- Two languages are one.
abbrev pub is_language : Language → Language → Bool
is_language C C = true
is_language Cxx Cxx = true
is_language Assembler Assembler = true
is_language language other = false

-- A file is compiled as that language.
abbrev pub is_written_in : Language → Item → Bool
is_written_in language file = option_map_or (is_language language) (language_of file) false

-- The variables of the steps of a language, where some file is written in it, and else none.
abbrev pub needed_variables : Node Props → List Item → Language → Variables
needed_variables x files language = if list_any (is_written_in language) files then compile_variables x language else []

-- What the compile steps of some files of a node have in common, without what no step of them needs.
abbrev pub needed_compiler : Module → Node Props → List Item → Compiler
needed_compiler m x files = record {
  directory = output_directory m x;
  headers = headers_of files;
  c = needed_variables x files C;
  cxx = needed_variables x files Cxx;
  assembler = needed_variables x files Assembler;
}

-- A step that compiles a source, with these headers and variables.
abbrev pub step_with : List ℕ → List ℕ → Language → List (List ℕ) → Variables → Statement
step_with directory source language headers vars = record {
  outs = object_path directory source ∷ [];
  rule = rule_of language;
  ins = source ∷ [];
  implicit = headers;
  order_only = [];
  vars = vars;
}

-- Outputs have one name.
abbrev pub step_of_all : List (List ℕ) → Statement
step_of_all outputs =
    record { outs = all_path ∷ []; rule = codes "phony"; ins = outputs; implicit = []; order_only = []; vars = [] }
