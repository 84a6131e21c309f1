-- Facts about names and paths, for the proofs of every crate.
use Rattle.std.proofs.Common.{◌≡◌, ◌≢◌, ◌++◌, ◌==◌, ◌⊎◌, inl, inr, ℕ, Bool, true, false, cond, List, [], ◌∷◌, refl, sym}
use Rattle.std.proofs.Common.{ap, ◌∙◌, append_assoc}
use Rattle.std.specs.Prelude.{◌&&◌, ◌||◌}
use Rattle.std.specs.List.{list_all, onto_first, AllByRecursion}
use Rattle.std.proofs.Math.Bool.{true≢false}
use Rattle.std.proofs.lemmas.Bool.Decides.{Decides-eqb}
use Rattle.bp_faults.specs.Paths.{is_component, is_normal}
use Rattle.dir_entries.specs.Below.{is_slash, has_slash, names_of, LiesBelow, child}

-- A text has no slash, or it has a first one.
pub record Cut (text : List ℕ) : Type 0 where
  pub name : List ℕ
  pub more : List ℕ
  pub whole : has_slash name ≡ false
  pub is : text ≡ name ++ 47 ∷ more

pub cut : (text : List ℕ) → (has_slash text ≡ false) ⊎ Cut text
cut [] = inl refl
cut (c ∷ cs) = by (c == 47) refl (cut cs) where
  longer : (c == 47) ≡ false → (has_slash cs ≡ false) ⊎ Cut cs → (has_slash (c ∷ cs) ≡ false) ⊎ Cut (c ∷ cs)
  longer e (inl none) = inl (ap (λ b. b || has_slash cs) e ∙ none)
  longer e (inr at) = inr (record {
    name = c ∷ at.name;
    more = at.more;
    whole = ap (λ b. b || has_slash at.name) e ∙ at.whole;
    is = ap (λ t. c ∷ t) at.is;
  })

  by : (b : Bool) → (c == 47) ≡ b → (has_slash cs ≡ false) ⊎ Cut cs → (has_slash (c ∷ cs) ≡ false) ⊎ Cut (c ∷ cs)
  by true e rest =
      inr (record { name = []; more = cs; whole = refl; is = ap (λ d. d ∷ cs) ((Decides-eqb c 47).0 e) })
  by false e rest = longer e rest

-- There is always a first name.
pub names_begin : (text : List ℕ) → (first : List ℕ) × (others : List (List ℕ)) × (names_of text ≡ first ∷ others)
names_begin [] = ([], [], refl)
names_begin (c ∷ cs) = by (is_slash c) (names_begin cs) where
  by : (b : Bool) → ((first : List ℕ) × (others : List (List ℕ)) × (names_of cs ≡ first ∷ others))
      → (first : List ℕ) × (others : List (List ℕ))
      × (cond b ([] ∷ names_of cs) (onto_first c (names_of cs)) ≡ first ∷ others)
  by true rest = ([], names_of cs, refl)
  by false rest = (c ∷ rest.0, rest.1, ap (onto_first c) rest.2)

front : (c : ℕ) (xs ys : List (List ℕ)) → ((first : List ℕ) × (others : List (List ℕ)) × (xs ≡ first ∷ others))
    → onto_first c (xs ++ ys) ≡ onto_first c xs ++ ys
front c xs ys first =
    ap (λ zs. onto_first c (zs ++ ys)) first.2 ∙ ap (λ zs. onto_first c zs ++ ys) (sym first.2)

-- Names stand on both sides of a slash.
pub names_append : (text more : List ℕ) → names_of (text ++ 47 ∷ more) ≡ names_of text ++ names_of more
names_append [] more = refl
names_append (c ∷ cs) more = by (is_slash c) (names_append cs more) where
  by : (b : Bool) → names_of (cs ++ 47 ∷ more) ≡ names_of cs ++ names_of more
      → cond b ([] ∷ names_of (cs ++ 47 ∷ more)) (onto_first c (names_of (cs ++ 47 ∷ more)))
      ≡ cond b ([] ∷ names_of cs) (onto_first c (names_of cs)) ++ names_of more
  by true rest = ap (λ ns. [] ∷ ns) rest
  by false rest = ap (onto_first c) rest ∙ front c (names_of cs) (names_of more) (names_begin cs)

-- A text without a slash is one name.
pub names_one : (name : List ℕ) → has_slash name ≡ false → names_of name ≡ name ∷ []
names_one [] whole = refl
names_one (c ∷ cs) whole = by (λ h. names_one cs h) (is_slash c) whole where
  by : (has_slash cs ≡ false → names_of cs ≡ cs ∷ []) → (b : Bool) → (b || has_slash cs) ≡ false
      → cond b ([] ∷ names_of cs) (onto_first c (names_of cs)) ≡ (c ∷ cs) ∷ []
  by rest true h = absurd (true≢false h)
  by rest false h = ap (onto_first c) (rest h)

-- And it is the first where a slash follows.
pub names_more : (name more : List ℕ) → has_slash name ≡ false → names_of (name ++ 47 ∷ more) ≡ name ∷ names_of more
names_more name more whole =
    names_append name more ∙ ap (λ ns. ns ++ names_of more) (names_one name whole)

-- No name has a slash.
pub names_whole : (text : List ℕ) → AllByRecursion (λ name. has_slash name ≡ false) (names_of text)
names_whole [] = (refl, tt)
names_whole (c ∷ cs) = by (is_slash c) refl (names_whole cs) where
  onto : (ns : List (List ℕ)) → is_slash c ≡ false → AllByRecursion (λ name. has_slash name ≡ false) ns
      → AllByRecursion (λ name. has_slash name ≡ false) (onto_first c ns)
  onto [] e h = (ap (λ b. b || false) e, tt)
  onto (n ∷ ns) e h = (ap (λ b. b || has_slash n) e ∙ h.0, h.1)

  by : (b : Bool) → is_slash c ≡ b → AllByRecursion (λ name. has_slash name ≡ false) (names_of cs)
      → AllByRecursion (λ name. has_slash name ≡ false) (cond b ([] ∷ names_of cs) (onto_first c (names_of cs)))
  by true e h = (refl, h)
  by false e h = onto (names_of cs) e h

pub list_all-append : (test : List ℕ → Bool) (xs ys : List (List ℕ))
    → list_all test (xs ++ ys) ≡ (list_all test xs && list_all test ys)
list_all-append test [] ys = refl
list_all-append test (x ∷ xs) ys = by (test x) (list_all-append test xs ys) where
  by : (b : Bool) → list_all test (xs ++ ys) ≡ (list_all test xs && list_all test ys)
      → (b && list_all test (xs ++ ys)) ≡ ((b && list_all test xs) && list_all test ys)
  by true h = h
  by false h = refl

-- A path below a directory in normal form is so where its names there are components.
pub normal_below : (dir path rest : List ℕ) → is_normal dir ≡ true → LiesBelow dir path rest
    → is_normal path ≡ list_all is_component (names_of rest)
normal_below [] path [] normal below = absurd (below.1 refl)
normal_below [] path (c ∷ cs) normal below = ap is_normal below.0
normal_below (d ∷ ds) path rest normal below =
    ap is_normal below ∙ ap (list_all is_component) (names_append (d ∷ ds) rest)
    ∙ list_all-append is_component (names_of (d ∷ ds)) (names_of rest)
    ∙ ap (λ b. b && list_all is_component (names_of rest)) normal

-- A component has some bytes.
pub component_some : (name : List ℕ) → is_component name ≡ true → name ≢ []
component_some [] h = absurd (true≢false (sym h))
component_some (c ∷ cs) h = λ e. cc

-- What lies below a directory by a name and more lies below the name's directory by the more.
pub below_child : (dir path name more : List ℕ) → name ≢ [] → LiesBelow dir path (name ++ 47 ∷ more)
    → LiesBelow (child dir name) path more
below_child [] path [] more some below = absurd (some refl)
below_child [] path (c ∷ cs) more some below = below.0
below_child (d ∷ ds) path name more some below =
    below ∙ sym (append_assoc (d ∷ ds) (47 ∷ name) (47 ∷ more))

pub below_parent : (dir path name more : List ℕ) → name ≢ [] → LiesBelow (child dir name) path more
    → LiesBelow dir path (name ++ 47 ∷ more)
below_parent [] path [] more some below = absurd (some refl)
below_parent [] path (c ∷ cs) more some below = (below, λ e. cc)
below_parent (d ∷ ds) path name more some below = below ∙ append_assoc (d ∷ ds) (47 ∷ name) (47 ∷ more)

-- What lies below a directory by one name is the child of that name.
pub child_below : (dir name : List ℕ) → name ≢ [] → LiesBelow dir (child dir name) name
child_below [] name some = (refl, some)
child_below (d ∷ ds) name some = refl

pub child_only : (dir path name : List ℕ) → LiesBelow dir path name → path ≡ child dir name
child_only [] path name below = below.0
child_only (d ∷ ds) path name below = below

-- A path lies below a directory by one rest alone.
pub rest_once : (dir path one other : List ℕ) → LiesBelow dir path one → LiesBelow dir path other → one ≡ other
rest_once [] path one other a b = sym a.0 ∙ b.0
rest_once (d ∷ ds) path one other a b = behind (d ∷ ds) one other (sym a ∙ b) where
  behind : (xs one other : List ℕ) → xs ++ 47 ∷ one ≡ xs ++ 47 ∷ other → one ≡ other
  behind [] one other e = cc
  behind (x ∷ xs) one other e = behind xs one other (cc)
