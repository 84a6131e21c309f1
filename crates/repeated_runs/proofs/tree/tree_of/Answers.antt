use Rattle.std.proofs.Common.{◌≡◌, ◌≤◌, ◌∷◌, [], ◌++◌, List, ℕ, Vec, Global, length, map, ap, sym, subst, ◌∙◌}
use Rattle.std.specs.List.{All}
use Rattle.std.proofs.lemmas.List.{map-append}
use Rattle.std.proofs.lemmas.List.Elements.{All-push}
use Rattle.bp_faults.specs.declared.limits.TheConstants.{LARGEST_FILE}
use Rattle.bp_load.specs.Trees.{Source, sources_given}
use Rattle.repeated_runs.proofs.tree.tree_of.Goals as goal

sources_push : (files : List (List ℕ × Vec ℕ Global)) (path : List ℕ) (bytes : Vec ℕ Global)
    → sources_given (files ++ (path, bytes) ∷ []) ≡ sources_given files ++ (path, bytes.items) ∷ []
sources_push files path bytes = map-append {B = Source} (λ f. (f.0, f.1.items)) files ((path, bytes) ∷ [])

pub paths_push : (files : List (List ℕ × Vec ℕ Global)) (path : List ℕ) (bytes : Vec ℕ Global)
    → map (λ (f : Source). f.0) (sources_given (files ++ (path, bytes) ∷ []))
    ≡ map (λ (f : Source). f.0) (sources_given files) ++ path ∷ []
paths_push files path bytes =
    ap (map (λ (f : Source). f.0)) (sources_push files path bytes)
    ∙ map-append (λ (f : Source). f.0) (sources_given files) ((path, bytes.items) ∷ [])

pub loop-path-preserved : goal.loop-path-preserved
loop-path-preserved c =
    let files = c.loop-path.files.items in
    let path = c.in-Some.path in
    let bytes = c.in_ok-with_variables.field-0 in
    let more : sources_given c.push.new.self.items ≡ sources_given files ++ (path, bytes.items) ∷ [] =
    ap sources_given c.in_ok-push.ensures.items ∙ sources_push files path bytes in (
      ap (map (λ (f : Source). f.0)) more
          ∙ map-append (λ (f : Source). f.0) (sources_given files) ((path, bytes.items) ∷ [])
          ∙ ap (λ (ps : List (List ℕ)). ps ++ path ∷ []) c.loop-path.invariant.0
          ∙ sym (paths_push c.loop-path.yielded path c.in-Some.bytes),
      subst (All (λ (f : Source). length f.1 ≤ LARGEST_FILE)) (sym more)
          (All-push (λ (f : Source). length f.1 ≤ LARGEST_FILE) (sources_given files) (path, bytes.items)
          c.loop-path.invariant.1 c.in_ok-with_variables.ensures),
    )
