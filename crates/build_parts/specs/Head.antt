-- The rules that every written file begins with.
use Rattle.std.specs.Prelude.{ℕ, List, [], ◌∷◌, ◌++◌, codes}
use Rattle.std.specs.List.{flat_map}
use Rattle.ninja_file.specs.declared.file.Piece.{Piece}
use Rattle.ninja_file.specs.declared.file.Piece.TheVariants.{Lit, Var}
use Rattle.ninja_file.specs.declared.file.NinjaRule.{NinjaRule}

-- A literal piece, where the text isn't empty.
abbrev pub literal_pieces : List ℕ → List Piece
literal_pieces [] = []
literal_pieces (b ∷ bs) = Lit (b ∷ bs) ∷ []

-- A variable, and the text behind it.
abbrev pub reference : List ℕ × List ℕ → List Piece
reference r = Var r.0 ∷ literal_pieces r.1

-- A text, and then variables with the text behind each.
abbrev pub template : List ℕ → List (List ℕ × List ℕ) → List Piece
template text references = literal_pieces text ++ flat_map reference references

-- The description of a rule: `WORD ${out}`.
abbrev pub description : List ℕ → List Piece
description word = template word ((codes "out", []) ∷ [])

-- A rule's command and its description.
abbrev pub command_bindings : List Piece → List ℕ → List (List ℕ × List Piece)
command_bindings command word = (codes "command", command) ∷ (codes "description", description word) ∷ []

-- What all commands that compile begin with: `PROGRAM ${target} ${cflags} ${includes}`, and the text behind.
abbrev pub compiler : List ℕ → List ℕ → List Piece
compiler program behind =
    template program ((codes "target", codes " ") ∷ (codes "cflags", codes " ") ∷ (codes "includes", behind) ∷ [])

-- A compile command: `PROGRAM ${target} ${cflags} ${includes} -MD -MF ${out}.d -c ${in} -o ${out}`.
unfoldable pub compile_command : List ℕ → List Piece
compile_command program =
    compiler program (codes " -MD -MF ")
    ++ template [] ((codes "out", codes ".d -c ") ∷ (codes "in", codes " -o ") ∷ (codes "out", []) ∷ [])

-- The compiler writes what a source includes beside the object, in gcc's form.
unfoldable pub dependency_bindings : List (List ℕ × List Piece)
dependency_bindings =
    (codes "depfile", template [] ((codes "out", codes ".d") ∷ [])) ∷ (codes "deps", literal_pieces (codes "gcc")) ∷ []

-- A rule that compiles.
abbrev pub compile_rule : List ℕ → List ℕ → List ℕ → NinjaRule
compile_rule name program word =
    record { name = name; bindings = command_bindings (compile_command program) word ++ dependency_bindings }

-- The rule that assembles: `clang ${target} ${cflags} ${includes} -c ${in} -o ${out}`.
unfoldable pub assemble_rule : NinjaRule
assemble_rule = record {
  name = codes "as";
  bindings =
      command_bindings
      (compiler (codes "clang ") (codes " -c ") ++ template [] ((codes "in", codes " -o ") ∷ (codes "out", []) ∷ []))
      (codes "AS ");
}

-- The rule that makes an archive: `rm -f ${out} && llvm-ar rcs ${out} ${in}`.
unfoldable pub archive_rule : NinjaRule
archive_rule = record {
  name = codes "ar";
  bindings =
      command_bindings
      (template (codes "rm -f ")
      ((codes "out", codes " && llvm-ar rcs ") ∷ (codes "out", codes " ") ∷ (codes "in", []) ∷ []))
      (codes "AR ");
}

-- A rule that links: `PROGRAM ${target} ${in} ${ldflags} -o ${out}`.
unfoldable pub link_rule : List ℕ → List ℕ → List ℕ → NinjaRule
link_rule name program word = record {
  name = name;
  bindings =
      command_bindings
      (template program
      ((codes "target", codes " ") ∷ (codes "in", codes " ") ∷ (codes "ldflags", codes " -o ")
      ∷ (codes "out", []) ∷ []))
      word;
}

-- The six rules.
abbrev pub head_rules : List NinjaRule
head_rules =
    compile_rule (codes "cc") (codes "clang ") (codes "CC ")
    ∷ compile_rule (codes "cxx") (codes "clang++ ") (codes "CXX ")
    ∷ assemble_rule
    ∷ archive_rule
    ∷ link_rule (codes "link") (codes "clang++ ") (codes "LINK ")
    ∷ link_rule (codes "solink") (codes "clang++ -shared ") (codes "SOLINK ")
    ∷ []

-- The first lines of every written file, as they are written: a comment, and the six rules.
abbrev pub head_lines : List (List ℕ)
head_lines =
    codes "# build.ninja written by bpgen"
    ∷ codes "rule cc"
    ∷ codes "  command = clang ${target} ${cflags} ${includes} -MD -MF ${out}.d -c ${in} -o ${out}"
    ∷ codes "  description = CC ${out}"
    ∷ codes "  depfile = ${out}.d"
    ∷ codes "  deps = gcc"
    ∷ codes "rule cxx"
    ∷ codes "  command = clang++ ${target} ${cflags} ${includes} -MD -MF ${out}.d -c ${in} -o ${out}"
    ∷ codes "  description = CXX ${out}"
    ∷ codes "  depfile = ${out}.d"
    ∷ codes "  deps = gcc"
    ∷ codes "rule as"
    ∷ codes "  command = clang ${target} ${cflags} ${includes} -c ${in} -o ${out}"
    ∷ codes "  description = AS ${out}"
    ∷ codes "rule ar"
    ∷ codes "  command = rm -f ${out} && llvm-ar rcs ${out} ${in}"
    ∷ codes "  description = AR ${out}"
    ∷ codes "rule link"
    ∷ codes "  command = clang++ ${target} ${in} ${ldflags} -o ${out}"
    ∷ codes "  description = LINK ${out}"
    ∷ codes "rule solink"
    ∷ codes "  command = clang++ -shared ${target} ${in} ${ldflags} -o ${out}"
    ∷ codes "  description = SOLINK ${out}"
    ∷ []
