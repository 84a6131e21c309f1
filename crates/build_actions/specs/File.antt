-- The file of all nodes.
use Rattle.std.specs.Prelude.{ℕ, List, [], ◌∷◌, ◌++◌, codes}
use Rattle.std.specs.List.{flat_map, filter_map}
use Rattle.ninja_file.specs.declared.file.NinjaFile.{NinjaFile}
use Rattle.ninja_file.specs.declared.file.Statement.{Statement}
use Rattle.build_parts.specs.Head.{head_rules}
use Rattle.build_actions.specs.declared.actions.Actions.{Actions}

-- The name of all outputs together.
abbrev pub all_path : List ℕ
all_path = codes "out/all"

-- What the nodes make, in node order.
abbrev pub outputs_of : List Actions → List (List ℕ)
outputs_of made = filter_map (λ (node : Actions). node.output) made

-- All outputs have one name.
abbrev pub all_step : List Actions → Statement
all_step made =
    record {
      outs = all_path ∷ [];
      rule = codes "phony";
      ins = outputs_of made;
      implicit = [];
      order_only = [];
      vars = [];
    }

-- The statements of all nodes in node order, and behind them the name of all outputs.
abbrev pub all_statements : List Actions → List Statement
all_statements made = flat_map (λ (node : Actions). node.statements) made ++ all_step made ∷ []

-- The file: the six rules, the statements, and what is built where nothing is named.
abbrev pub file_of_actions : List Actions → NinjaFile
file_of_actions made = record { rules = head_rules; statements = all_statements made; defaults = all_path ∷ [] }
