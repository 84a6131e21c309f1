-- How the sources of a node are compiled.
use Rattle.std.specs.Prelude.{ℕ, List, [], ◌∷◌, map, Option, Some, None, Bool, true, false, filter, codes}
use Rattle.std.specs.List.{flat_map, filter_map}
use Rattle.std.specs.Option.{option_map}
use Rattle.bp_faults.specs.declared.place.Item.{Item}
use Rattle.graph_nodes.specs.declared.graph.Node.{Node}
use Rattle.bp_props.specs.declared.module.Module.{Module}
use Rattle.bp_props.specs.declared.props.Props.{Props}
use Rattle.ninja_file.specs.declared.file.Statement.{Statement}
use Rattle.build_parts.specs.declared.sources.SourceKind.{SourceKind}
use Rattle.build_parts.specs.declared.sources.SourceKind.TheVariants.{Compiled, Header}
use Rattle.build_parts.specs.declared.sources.Language.{Language}
use Rattle.build_parts.specs.declared.sources.Language.TheVariants.{C, Cxx, Assembler}
use Rattle.build_parts.specs.Kept.{kept_first}
use Rattle.build_parts.specs.Sources.{source_kind}
use Rattle.build_parts.specs.Paths.{output_directory, object_path}
use Rattle.build_parts.specs.Variables.{Variables, compile_variables}
use Rattle.build_actions.specs.declared.compile.Compiler.{Compiler}

-- The language of a kind of source, where it is compiled.
abbrev pub language_by : Option SourceKind → Option Language
language_by (Some (Compiled language)) = Some language
language_by kind = None

-- The language of a source that is compiled.
abbrev pub language_of : Item → Option Language
language_of file = language_by (source_kind file.text)

-- The kind is that of headers.
abbrev pub is_header_kind : Option SourceKind → Bool
is_header_kind (Some Header) = true
is_header_kind kind = false

-- A file is a header.
abbrev pub is_header : Item → Bool
is_header file = is_header_kind (source_kind file.text)

-- The headers among some files, in order, each once.
abbrev pub headers_of : List Item → List (List ℕ)
headers_of files = kept_first (map (λ (file : Item). file.text) (filter is_header files))

-- The rule that compiles a language.
abbrev pub rule_of : Language → List ℕ
rule_of C = codes "cc"
rule_of Cxx = codes "cxx"
rule_of Assembler = codes "as"

-- What the compile steps of a node have in common.
abbrev pub compiler_of : Module → Node Props → List Item → Compiler
compiler_of m x files = record {
  directory = output_directory m x;
  headers = headers_of files;
  c = compile_variables x C;
  cxx = compile_variables x Cxx;
  assembler = compile_variables x Assembler;
}

-- The variables of the steps of a language.
abbrev pub variables_in : Compiler → Language → Variables
variables_in compiler C = compiler.c
variables_in compiler Cxx = compiler.cxx
variables_in compiler Assembler = compiler.assembler

-- A source is compiled to its object, and again where a header changes.
abbrev pub compile_step : Compiler → List ℕ → Language → Statement
compile_step compiler source language = record {
  outs = object_path compiler.directory source ∷ [];
  rule = rule_of language;
  ins = source ∷ [];
  implicit = compiler.headers;
  order_only = [];
  vars = variables_in compiler language;
}

-- The compile step of a file, where it isn't a header.
abbrev pub step_of_file : Compiler → Item → Option Statement
step_of_file compiler file = option_map (compile_step compiler file.text) (language_of file)

-- The compile steps of some files, in order: one for each that isn't a header.
abbrev pub compile_steps : Compiler → List Item → List Statement
compile_steps compiler files = filter_map (step_of_file compiler) files

-- The object of a file, where it isn't a header.
abbrev pub object_of : List ℕ → Item → Option (List ℕ)
object_of directory file = option_map (λ language. object_path directory file.text) (language_of file)

-- The objects of some files, in order.
abbrev pub objects_in : List ℕ → List Item → List (List ℕ)
objects_in directory files = filter_map (object_of directory) files

-- What some steps make, in order.
abbrev pub outs_of_steps : List Statement → List (List ℕ)
outs_of_steps steps = flat_map (λ (step : Statement). step.outs) steps
