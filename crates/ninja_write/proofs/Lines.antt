-- Lines that are written one after another.
use Rattle.std.proofs.Common.{◌≡◌, ℕ, List, [], ◌∷◌, ◌++◌, map, refl, ap, ◌∙◌}
use Rattle.std.specs.List.{flat_map}
use Rattle.std.proofs.lemmas.Grind.{flat_map-append}
use Rattle.std.proofs.lemmas.List.Folds.{flat_map-map}
use Rattle.ninja_write.specs.Meaning.{rule_lines, statement_lines, default_lines, head_line, joined_text, text_of}
use Rattle.ninja_file.specs.declared.file.NinjaFile.{NinjaFile}
use Rattle.bp_faults.specs.Characters.{ended_line}

-- a line for each
pub joined-map : {A : Type 0} (line : A → List ℕ) (xs : List A)
    → joined_text (map line xs) ≡ flat_map (λ x. ended_line (line x)) xs
joined-map line xs = flat_map-map ended_line line xs

pub joined-append : (xs ys : List (List ℕ)) → joined_text (xs ++ ys) ≡ joined_text xs ++ joined_text ys
joined-append xs ys = flat_map-append ended_line xs ys

append_both : {a b c d : List ℕ} → a ≡ b → c ≡ d → a ++ c ≡ b ++ d
append_both e h = cc

-- lines of each
pub joined-flat_map : {A : Type 0} (lines : A → List (List ℕ)) (xs : List A)
    → joined_text (flat_map lines xs) ≡ flat_map (λ x. joined_text (lines x)) xs
joined-flat_map lines [] = refl
joined-flat_map lines (x ∷ xs) =
    joined-append (lines x) (flat_map lines xs) ∙ ap (λ more. joined_text (lines x) ++ more) (joined-flat_map lines xs)

-- the text of a file by its rules, its statements and its defaults
pub text-parts : (f : NinjaFile) → text_of f ≡ ended_line head_line ++ (flat_map (λ r. joined_text (rule_lines r))
    f.rules ++ (flat_map (λ s. joined_text (statement_lines s)) f.statements ++ joined_text (default_lines f.defaults)))
text-parts f =
    ap (λ x. ended_line head_line ++ x) (joined-append (flat_map rule_lines f.rules) _
    ∙ append_both (joined-flat_map rule_lines f.rules) (joined-append (flat_map statement_lines f.statements) _
    ∙ ap (λ x. x ++ joined_text (default_lines f.defaults)) (joined-flat_map statement_lines f.statements)))
