-- What the entries of a directory answer.
use Rattle.std.proofs.Common.{◌≡◌, ◌≢◌, ◌==◌, ℕ, true, false, List, [], ◌∷◌, length, refl, sym, ap, ◌∙◌, arith}
use Rattle.std.proofs.Math.Bool.{true≢false}
use Rattle.std.proofs.lemmas.Bool.Decides.{Decides-eqb}
use Rattle.std.specs.List.{Contains}
use Rattle.std.specs.FinMap.{keys}
use Rattle.dir_entries.specs.declared.entry.DirEntry.{DirEntry}
use Rattle.dir_entries.specs.Entries.{IsDirEntry, AreEntries}
use Rattle.dir_entries.specs.Laws.{PathsGiveEntries}
use Rattle.bp_ports.specs.Files.{Files}
use Rattle.bp_ports.specs.Lists.{IsAbsent, ArePaths}

entry_of_paths : (xs ys : List (List ℕ)) (dir : List ℕ) (e : DirEntry)
    → ((path : List ℕ) → Contains xs path → Contains ys path) → IsDirEntry xs dir e → IsDirEntry ys dir e
entry_of_paths xs ys dir e to h = record {
  path = h.path;
  holds = to h.path h.holds;
  rest = h.rest;
  below = h.below;
  whole = h.whole;
  begins = h.begins;
}

-- The same held paths give the same entries.
pub entries_of_files : (paths : List (List ℕ)) (files : Files) (dir : List ℕ) (es : List DirEntry)
    → ArePaths paths files → AreEntries paths dir es → AreEntries (keys files) dir es
entries_of_files paths files dir es are h = record {
  order = h.order;
  exact = λ e. (
    λ in_es. entry_of_paths paths (keys files) dir e (λ path. (are path).0) ((h.exact e).0 in_es),
    λ is. (h.exact e).1 (entry_of_paths (keys files) paths dir e (λ path. (are path).1) is),
  );
}

pub zero_of : (n : ℕ) → true ≡ (n == 0) → n ≡ 0
zero_of n h = (Decides-eqb n 0).0 (sym h)

pub not_zero_of : (n : ℕ) → false ≡ (n == 0) → n ≢ 0
not_zero_of n h is = true≢false (sym ((Decides-eqb n 0).1 is) ∙ sym h)

pub empty_of : (text : List ℕ) → true ≡ (length text == 0) → text ≡ []
empty_of [] h = refl
empty_of (c ∷ cs) h = let none : length (c ∷ cs) ≡ 0 = zero_of (length (c ∷ cs)) h in absurd (omega arith)

pub filled_of : (text : List ℕ) → false ≡ (length text == 0) → text ≢ []
filled_of text h is = not_zero_of (length text) h (ap length is)

-- Where a directory other than the root has no entries, it is absent.
pub absent_of_none : PathsGiveEntries → (held : List (List ℕ)) (dir : List ℕ) (es : List DirEntry)
    → AreEntries held dir es → length es ≡ 0 → dir ≢ [] → IsAbsent held dir
absent_of_none gives held dir es h none inner = record {
  inner = inner;
  bare = λ path rest holds below.
      let first = gives held dir path rest holds below in
      let in_es = (h.exact first.0).1 first.1 in
      absurd (omega (arith, in_es.1));
}

-- Where there are entries, it isn't.
pub present_of_some : (held : List (List ℕ)) (dir : List ℕ) (es : List DirEntry) → AreEntries held dir es
    → length es ≢ 0 → IsAbsent held dir → ⊥
present_of_some held dir [] h some absent = some refl
present_of_some held dir (e ∷ es) h some absent =
    let is = (h.exact e).0 (0, omega arith, refl) in
    absent.bare is.path is.rest is.holds is.below
