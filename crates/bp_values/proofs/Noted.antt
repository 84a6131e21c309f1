-- What is noted of an expression are the names in it.
use Rattle.std.specs.Prelude.{OnOk}
use Rattle.std.proofs.Common.{◌≡◌, ℕ, Bool, true, false, ◌||◌, List, Result, Ok, Err, refl, ap, sym, ◌∙◌}
use Rattle.std.proofs.lemmas.Bool.{false≢true}
use Rattle.bp_parser.specs.Trees as tree
use Rattle.bp_parser.specs.Trees.{Tree, Trees, no_tree, tree_and, Terms, no_term, term_and, Entries, no_entry}
use Rattle.bp_parser.specs.Trees.{entry_and}
use Rattle.bp_values.specs.References.{is_in, is_in_items, is_in_terms, is_in_entries}
use Rattle.bp_values.specs.Inside.{has_noted, noted_items, noted_terms, noted_entries}

or_none : (b : Bool) → b ≡ (b || false)
or_none true = refl
or_none false = refl

or_more : (a b c : Bool) → ((a || b) || c) ≡ (a || (b || c))
or_more true b c = refl
or_more false b c = refl

mutual
  pub noted_is : (t : Tree) (b : Bool) (name : List ℕ) → has_noted b name t ≡ (b || is_in name t)
  noted_is (tree.Leaf at atom) b name = refl
  noted_is (tree.Items at items) b name = items_noted items b name
  noted_is (tree.Body at entries) b name = entries_noted entries b name
  noted_is (tree.Sum first terms) b name =
      ap (λ x. noted_terms x name terms) (noted_is first b name)
      ∙ terms_noted terms (b || is_in name first) name
      ∙ or_more b (is_in name first) (is_in_terms name terms)

  items_noted : (ts : Trees) (b : Bool) (name : List ℕ) → noted_items b name ts ≡ (b || is_in_items name ts)
  items_noted no_tree b name = or_none b
  items_noted (tree_and item more) b name =
      ap (λ x. noted_items x name more) (noted_is item b name)
      ∙ items_noted more (b || is_in name item) name
      ∙ or_more b (is_in name item) (is_in_items name more)

  terms_noted : (ts : Terms) (b : Bool) (name : List ℕ) → noted_terms b name ts ≡ (b || is_in_terms name ts)
  terms_noted no_term b name = or_none b
  terms_noted (term_and at term more) b name =
      ap (λ x. noted_terms x name more) (noted_is term b name)
      ∙ terms_noted more (b || is_in name term) name
      ∙ or_more b (is_in name term) (is_in_terms name more)

  pub entries_noted : (es : Entries) (b : Bool) (name : List ℕ) → noted_entries b name es ≡ (b || is_in_entries name es)
  entries_noted no_entry b name = or_none b
  entries_noted (entry_and key at value more) b name =
      ap (λ x. noted_entries x name more) (noted_is value b name)
      ∙ entries_noted more (b || is_in name value) name
      ∙ or_more b (is_in name value) (is_in_entries name more)

-- the names of the first term are noted, and then those of the others
pub noted_sum : {T E : Type 0} (r : Result T E) (old mid now : List ℕ → Bool) (first : Tree) (terms : Terms)
    → ((q : List ℕ) → mid q ≡ has_noted (old q) q first)
    → OnOk r ((q : List ℕ) → now q ≡ noted_terms (mid q) q terms)
    → OnOk r ((q : List ℕ) → now q ≡ noted_terms (has_noted (old q) q first) q terms)
noted_sum (Ok x) old mid now first terms begun done = λ q. done q ∙ ap (λ b. noted_terms b q terms) (begun q)
noted_sum (Err e) old mid now first terms begun done = tt

-- where a name was noted before, nothing that an expression refers to changes that
pub all_noted : (t : Tree) (b : Bool) (name : List ℕ) → b ≡ true → b ≡ has_noted b name t
all_noted t b name is = by b is ∙ sym (noted_is t b name)
  where
    by : (c : Bool) → c ≡ true → c ≡ (c || is_in name t)
    by true is = refl
    by false is = absurd (false≢true is)

pub all_entries_noted : (es : Entries) (b : Bool) (name : List ℕ) → b ≡ true → b ≡ noted_entries b name es
all_entries_noted es b name is = by b is ∙ sym (entries_noted es b name)
  where
    by : (c : Bool) → c ≡ true → c ≡ (c || is_in_entries name es)
    by true is = refl
    by false is = absurd (false≢true is)
