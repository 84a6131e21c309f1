-- The text that every written file begins with.
use Rattle.std.proofs.Common.{◌≡◌, ◌∙◌, ℕ, List, [], ◌∷◌, ◌++◌, append_assoc, refl, sym, ap}
use Rattle.std.specs.List.{flat_map}
use Rattle.ninja_write.specs.Meaning.{joined_text, head_line, rule_lines, statement_lines, default_lines}
use Rattle.build_parts.specs.Head.{head_rules, head_lines, compile_command, dependency_bindings, assemble_rule}
use Rattle.build_parts.specs.Head.{archive_rule}
use Rattle.build_parts.specs.Head.{link_rule}
use Rattle.build_actions.specs.File.{all_path, all_statements}
use Rattle.bp_run.specs.Laws.{HeadIsText}
use Rattle.bp_faults.specs.Characters.{ended_line}

joined-append : (xs ys : List (List ℕ)) → joined_text (xs ++ ys) ≡ joined_text xs ++ joined_text ys
joined-append [] ys = refl
joined-append (x ∷ xs) ys =
    ap (λ rest. ended_line x ++ rest) (joined-append xs ys)
    ∙ sym (append_assoc (ended_line x) (joined_text xs) (joined_text ys))

-- the lines of the comment and of the rules
first_lines : head_line ∷ flat_map rule_lines head_rules ≡ head_lines
unfolding head_line compile_command dependency_bindings assemble_rule archive_rule link_rule
first_lines = refl

pub head_is_text : HeadIsText
head_is_text made =
    let behind = flat_map statement_lines (all_statements made) ++ default_lines (all_path ∷ []) in (
      joined_text behind,
      joined-append (head_line ∷ flat_map rule_lines head_rules) behind
          ∙ ap (λ lines. joined_text lines ++ joined_text behind) first_lines,
    )
