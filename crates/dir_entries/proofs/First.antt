-- What a path has behind a directory, and the first name of that, are one each.
use Rattle.std.proofs.Common.{◌≡◌, ◌≢◌, ◌++◌, ◌==◌, ℕ, suc, ◌<◌, Bool, true, false, List, [], ◌∷◌, length, get_or, refl}
use Rattle.std.proofs.Common.{Option, Some, None, MatchOption, Bor, sym, ap, ◌∙◌, arith}
use Rattle.std.specs.Prelude.{◌||◌}
use Rattle.std.proofs.Math.Bool.{true≢false}
use Rattle.std.proofs.lemmas.Bool.Decides.{Decides-eqb}
use Rattle.std.proofs.lemmas.List.{append_cancel_left}
use Rattle.dir_entries.specs.declared.entry.DirEntry.{DirEntry}
use Rattle.dir_entries.specs.Below.{is_slash, has_slash, LiesBelow}
use Rattle.dir_entries.specs.Entries.{Begins, EntryMeans}

-- Behind a directory that isn't the root, and a slash.
pub inner_below : (dir path rest : List ℕ) → dir ≢ [] → path ≡ dir ++ 47 ∷ rest → LiesBelow dir path rest
inner_below [] path rest inner is = absurd (inner refl)
inner_below (c ∷ cs) path rest inner is = is

pub below_inner : (dir path rest : List ℕ) → dir ≢ [] → LiesBelow dir path rest → path ≡ dir ++ 47 ∷ rest
below_inner [] path rest inner below = absurd (inner refl)
below_inner (c ∷ cs) path rest inner below = below

-- Behind a text and a slash is what is behind the slash in what is behind the text.
pub behind_both : (dir path rest more : List ℕ) → path ≡ dir ++ rest → path ≡ dir ++ 47 ∷ more → rest ≡ 47 ∷ more
behind_both dir path rest more is slashed = append_cancel_left dir rest (47 ∷ more) (sym is ∙ slashed)

-- What is found behind a text and a slash.
pub behind_found : (dir path rest : List ℕ) (found : Option (Bor (List ℕ))) → path ≡ dir ++ rest
    → MatchOption found ((more : List ℕ) → rest ≢ 47 ∷ more) (λ more. rest ≡ 47 ∷ more.now)
    → MatchOption found ((more : List ℕ) → path ≢ dir ++ 47 ∷ more) (λ more. path ≡ dir ++ 47 ∷ more.now)
behind_found dir path rest None is h = λ more e. h more (behind_both dir path rest more is e)
behind_found dir path rest (Some more) is h = is ∙ ap (λ r. dir ++ r) h

-- What is found below a directory that isn't the root.
pub below_found : (dir path : List ℕ) (found : Option (Bor (List ℕ))) → dir ≢ []
    → MatchOption found ((rest : List ℕ) → path ≢ dir ++ 47 ∷ rest) (λ rest. path ≡ dir ++ 47 ∷ rest.now)
    → MatchOption found ((rest : List ℕ) → LiesBelow dir path rest → ⊥) (λ rest. LiesBelow dir path rest.now)
below_found dir path None inner h = λ rest below. h rest (below_inner dir path rest inner below)
below_found dir path (Some rest) inner h = inner_below dir path rest.now inner h

-- A path has one rest behind a directory.
pub below_once : (dir path one other : List ℕ) → LiesBelow dir path one → LiesBelow dir path other → one ≡ other
below_once [] path one other a b = sym a.0 ∙ b.0
below_once (c ∷ cs) path one other a b =
    let same = append_cancel_left (c ∷ cs) (47 ∷ one) (47 ∷ other) (sym a ∙ b) in
    cc

-- A text with a slash in it has one.
slashed : (name more : List ℕ) → has_slash (name ++ 47 ∷ more) ≡ true
slashed [] more = refl
slashed (c ∷ cs) more = by (is_slash c) (slashed cs more) where
  by : (b : Bool) → has_slash (cs ++ 47 ∷ more) ≡ true → (b || has_slash (cs ++ 47 ∷ more)) ≡ true
  by true rest = refl
  by false rest = rest

first_plain : (c : ℕ) (cs : List ℕ) → has_slash (c ∷ cs) ≡ false → c ≢ 47
first_plain c cs whole is = by (is_slash c) ((Decides-eqb c 47).1 is) whole where
  by : (b : Bool) → b ≡ true → (b || has_slash cs) ≡ false → ⊥
  by true h w = true≢false w
  by false h w = true≢false (sym h)

others_plain : (c : ℕ) (cs : List ℕ) → has_slash (c ∷ cs) ≡ false → has_slash cs ≡ false
others_plain c cs whole = by (is_slash c) whole where
  by : (b : Bool) → (b || has_slash cs) ≡ false → has_slash cs ≡ false
  by true w = absurd (true≢false w)
  by false w = w

-- What stands before the first slash is one text.
cut_once : (one a other b : List ℕ) → has_slash one ≡ false → has_slash other ≡ false
    → one ++ 47 ∷ a ≡ other ++ 47 ∷ b → one ≡ other
cut_once [] a [] b h k e = refl
cut_once [] a (d ∷ ds) b h k e =
    let same : 47 ∷ a ≡ d ∷ (ds ++ 47 ∷ b) = e in
    absurd (first_plain d ds k (cc))
cut_once (c ∷ cs) a [] b h k e =
    let same : c ∷ (cs ++ 47 ∷ a) ≡ 47 ∷ b = e in
    absurd (first_plain c cs h (cc))
cut_once (c ∷ cs) a (d ∷ ds) b h k e =
    let same : c ∷ (cs ++ 47 ∷ a) ≡ d ∷ (ds ++ 47 ∷ b) = e in
    let head : c ≡ d = cc in
    let tail : cs ++ 47 ∷ a ≡ ds ++ 47 ∷ b = cc in
    let rest = cut_once cs a ds b (others_plain c cs h) (others_plain d ds k) tail in
    λ i. head i ∷ rest i

both : (rest one other : List ℕ) (a b : Bool) → has_slash one ≡ false → has_slash other ≡ false
    → Begins rest one a → Begins rest other b → (one ≡ other) × (a ≡ b)
both rest one other false false h k p q = (sym p ∙ q, refl)
both rest one other false true h k p q =
    absurd (true≢false (sym (slashed other q.0) ∙ ap has_slash (sym q.1 ∙ p) ∙ h))
both rest one other true false h k p q =
    absurd (true≢false (sym (slashed one p.0) ∙ ap has_slash (sym p.1 ∙ q) ∙ k))
both rest one other true true h k p q = (cut_once one p.0 other q.0 h k (sym p.1 ∙ q.1), refl)

-- A rest gives one entry.
pub entry_once : (rest : List ℕ) (one other : DirEntry) → EntryMeans rest one → EntryMeans rest other → one ≡ other
entry_once rest one other a b =
    let e = both rest one.name other.name one.dir other.dir a.whole b.whole a.begins b.begins in
    λ i. record { name = e.0 i; dir = e.1 i }

-- A text lacks slashes where none of its bytes is one.
pub lacks_slash : (text : List ℕ) → ((i : ℕ) → i < length text → get_or text i 0 ≢ 47) → has_slash text ≡ false
lacks_slash [] lacks = refl
lacks_slash (c ∷ cs) lacks =
    by (is_slash c) (λ h. lacks 0 (omega arith) ((Decides-eqb c 47).0 h))
    (lacks_slash cs (λ i l. lacks (suc i) (omega arith)))
  where
    by : (b : Bool) → (b ≡ true → ⊥) → has_slash cs ≡ false → (b || has_slash cs) ≡ false
    by true h rest = absurd (h refl)
    by false h rest = rest

pub filled : (text : List ℕ) → false ≡ (length text == 0) → text ≢ []
filled [] h e = true≢false (sym h)
filled (c ∷ cs) h e = let same : c ∷ cs ≡ [] = e in cc

-- A text begins with a name.
pub begins : (text : List ℕ) → (e : DirEntry) × EntryMeans text e
begins [] = (record { name = []; dir = false }, record { whole = refl; begins = refl })
begins (c ∷ cs) = by (is_slash c) refl (begins cs) where
  longer : is_slash c ≡ false → (name : List ℕ) → has_slash name ≡ false → has_slash (c ∷ name) ≡ false
  longer plain name whole = ap (λ b. b || has_slash name) plain ∙ whole

  more : (name : List ℕ) (dir : Bool) → Begins cs name dir → Begins (c ∷ cs) (c ∷ name) dir
  more name false is = ap (λ t. c ∷ t) is
  more name true is = (is.0, ap (λ t. c ∷ t) is.1)

  by : (b : Bool) → is_slash c ≡ b → (e : DirEntry) × EntryMeans cs e → (e : DirEntry) × EntryMeans (c ∷ cs) e
  by true slash first = (
    record { name = []; dir = true },
    record { whole = refl; begins = (cs, ap (λ d. d ∷ cs) ((Decides-eqb c 47).0 slash)) },
  )
  by false plain first = (
    record { name = c ∷ first.0.name; dir = first.0.dir },
    record {
      whole = longer plain first.0.name first.1.whole;
      begins = more first.0.name first.0.dir first.1.begins;
    },
  )
