-- Files as contracts see them: one of them, and those in front of a place and behind it.
use Rattle.std.proofs.Common.{◌≡◌, ◌∙◌, ℕ, ◌+◌, ◌<◌, ◌≤◌, List, [], ◌∷◌, ◌++◌, Vec, Global, length, take, get_or, ap}
use Rattle.std.proofs.Common.{sym, subst, arith}
use Rattle.std.specs.List.{All}
use Rattle.std.proofs.lemmas.List.{get_or-map, length-map, map-append, get_or_append_left, get_or-append-add}
use Rattle.std.proofs.lemmas.List.{length-append, take_more}
use Rattle.bp_faults.specs.declared.limits.TheConstants.{LARGEST_FILE}
use Rattle.bp_load.specs.Halves.{CanParse}
use Rattle.bp_load.specs.Trees.{Source, sources_given}

abbrev Files : Type 0
Files = List (List ℕ × Vec ℕ Global)

pub length_sources : (files : Files) → length (sources_given files) ≡ length files
length_sources files = length-map {B = Source} files (λ f. (f.0, f.1.items))

-- the file at an index
pub source_at : (files : Files) (i : ℕ) (file : List ℕ × Vec ℕ Global) (d : Source) → i < length files
    → file ≡ get_or files i file → get_or (sources_given files) i d ≡ (file.0, file.1.items)
source_at files i file d within is =
    get_or-map (λ f. (f.0, f.1.items)) files i file d within ∙ ap (λ f. (f.0, f.1.items)) (sym is)

-- one file more
pub take_source : (files : Files) (i : ℕ) (file : List ℕ × Vec ℕ Global) → i < length files → file ≡ get_or files i file
    → take (i + 1) (sources_given files) ≡ take i (sources_given files) ++ (file.0, file.1.items) ∷ []
take_source files i file within is =
    let source : Source = (file.0, file.1.items) in
    take_more (sources_given files) i source (omega (arith, length_sources files))
    ∙ ap (λ f. take i (sources_given files) ++ f ∷ []) (source_at files i file source within is)

abbrev AreShort : Files → Type 0
AreShort files = All (λ f. length f.1 ≤ LARGEST_FILE) (sources_given files)

pub short_at : (files : Files) (i : ℕ) (file : List ℕ × Vec ℕ Global) → AreShort files → i < length files
    → file ≡ get_or files i file → length file.1.items ≤ LARGEST_FILE
short_at files i file short within is =
    subst (λ f. length f.1 ≤ LARGEST_FILE) (source_at files i file (file.0, file.1.items) within is)
    (short i (file.0, file.1.items) (omega (arith, length_sources files)))

pub sources_append : (front back : Files) → sources_given (front ++ back) ≡ sources_given front ++ sources_given back
sources_append front back = map-append {B = Source} (λ f. (f.0, f.1.items)) front back

short_front : (front back : Files) → AreShort (front ++ back) → AreShort front
short_front front back short k d below =
    subst (λ f. length f.1 ≤ LARGEST_FILE)
    (ap (λ fs. get_or fs k d) (sources_append front back)
    ∙ get_or_append_left (sources_given front) (sources_given back) d k below)
    (short k d (omega (arith, below, length_sources front, length_sources (front ++ back), length-append front back)))

short_back : (front back : Files) → AreShort (front ++ back) → AreShort back
short_back front back short k d below =
    subst (λ f. length f.1 ≤ LARGEST_FILE)
    (ap (λ fs. get_or fs (length (sources_given front) + k) d) (sources_append front back)
    ∙ get_or-append-add (sources_given front) (sources_given back) k d)
    (short (length (sources_given front) + k) d (omega (
      arith,
      below,
      length_sources front,
      length_sources back,
      length_sources (front ++ back),
      length-append front back,
    )))

-- files in front of a cut, and behind it

pub can_front : (number : ℕ) (front back : Files) → CanParse number (front ++ back) → CanParse number front
can_front number front back can = (omega (arith, can.0, length-append front back), short_front front back can.1)

pub can_back : (number : ℕ) (front back : Files) → CanParse number (front ++ back)
    → CanParse (number + length front) back
can_back number front back can = (omega (arith, can.0, length-append front back), short_back front back can.1)
