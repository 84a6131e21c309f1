-- A set of texts as the paths of items.
use Rattle.std.proofs.Common.{◌≡◌, ◌∙◌, ℕ, Bool, true, false, cond, List, [], ◌∷◌, ◌++◌, refl, ap, sym}
use Rattle.std.specs.Prelude.{◌||◌, ◌&&◌, not}
use Rattle.std.specs.List.{list_any}
use Rattle.std.specs.BTreeMap.{is_at}
use Rattle.std.specs.Str.{bytes_eq}
use Rattle.std.specs.Ordering.{nat_cmp}
use Rattle.std.specs.Cmp.Lexicographic.{slice_cmp}
use Rattle.std.proofs.lemmas.Cmp.{nat_list_eq_equiv}
use Rattle.std.proofs.lemmas.Map.Text.{is_eq-slice_cmp}
use Rattle.bp_props.specs.declared.source.Source.{Source}
use Rattle.bp_props.specs.Meaning.{names_module}
use Rattle.source_patterns.specs.Items.{is_path_of, has_path}
use Rattle.source_patterns.specs.Known.{KnowsPaths}

one_more : (a b c : Bool) → a || cond b true c ≡ cond b true (a || c)
one_more true true c = refl
one_more true false c = refl
one_more false b c = refl

alone : (b : Bool) → b || false ≡ cond b true false
alone true = refl
alone false = refl

-- One more item has its own path.
pub has_path-more : (items : List Source) (source : Source) (path : List ℕ)
    → has_path (items ++ source ∷ []) path ≡ cond (is_path_of path source) true (has_path items path)
has_path-more [] source path = alone (is_path_of path source)
has_path-more (s ∷ items) source path =
    ap (λ b. is_path_of path s || b) (has_path-more items source path)
    ∙ one_more (is_path_of path s) (is_path_of path source) (has_path items path)

-- The name of a module is no path.
pub knows_name : (paths : List (List ℕ)) (items : List Source) (source : Source) → names_module source ≡ true
    → KnowsPaths paths items → KnowsPaths paths (items ++ source ∷ [])
knows_name paths items source named knows path =
    knows path ∙ sym (has_path-more items source path
    ∙ ap (λ b. cond (not b && bytes_eq path source.item.text) true (has_path items path)) named)

-- A path becomes known.
pub knows_path : (paths more : List (List ℕ)) (items : List Source) (source : Source) → names_module source ≡ false
    → KnowsPaths paths items
    → ((path : List ℕ) → list_any (is_at (slice_cmp nat_cmp path)) more
    ≡ cond (is_at (slice_cmp nat_cmp source.item.text) path) true (list_any (is_at (slice_cmp nat_cmp path)) paths))
    → KnowsPaths more (items ++ source ∷ [])
knows_path paths more items source unnamed knows grown path =
    grown path
    ∙ (λ i. cond ((is_eq-slice_cmp source.item.text path ∙ nat_list_eq_equiv.symm source.item.text path) i) true
    (knows path i))
    ∙ sym (has_path-more items source path
    ∙ ap (λ b. cond (not b && bytes_eq path source.item.text) true (has_path items path)) unnamed)
