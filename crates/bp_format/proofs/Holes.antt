-- Where a value stands among words, and the words with other words in its place or behind it.
use Rattle.std.proofs.Common.{◌≡◌, ℕ, ◌+◌, arith, List, [], ◌∷◌, ◌++◌, Option, Some, None, Result, Ok, Err, sym, refl}
use Rattle.std.proofs.Common.{ap, ◌∙◌, subst, ⊎_elim, inl, inr, append_assoc}
use Rattle.std.specs.Prelude.{codes, is_some, ◌⊎◌, if◌then◌else◌, true, false}
use Rattle.std.specs.Str.{bytes_eq}
use Rattle.std.proofs.lemmas.Bool.{cases_Bool, cond-true, cond-false}
use Rattle.bp_faults.specs.Answers.{then_do}
use Rattle.bp_faults.specs.declared.fault.Fault.{Fault}
use Rattle.bp_faults.specs.declared.place.Place.{Place}
use Rattle.bp_lexer.specs.declared.token.Punct.TheVariants.{OpenBrace, Colon, Comma}
use Rattle.bp_lexer.specs.declared.token.TokenKind.{TokenKind}
use Rattle.bp_lexer.specs.declared.token.TokenKind.TheVariants.{Ident, Punct as Mark}
use Rattle.bp_parser.specs.Trees.{Tree, Leaf, Items, Body, Sum, Truth, Number, Str, Name, Trees, Entries, no_entry}
use Rattle.bp_parser.specs.Trees.{entry_and, Definition, Assigns, Extends, Declares}
use Rattle.bp_parser.specs.Words.{Word}
use Rattle.bp_parser.specs.Grammar.{Spells, SpellsEntries, SpellsMoreEntries, SpellsDef, SpellsFile}
use Rattle.bp_format.specs.declared.spot.Spot.{Spot}
use Rattle.bp_format.specs.declared.spot.Spot.TheVariants.{Instead, Behind}
use Rattle.bp_format.specs.WithoutPlaces.{definitions_without_places, origin}
use Rattle.bp_format.specs.Editing.{Wanted}
use Rattle.bp_format.specs.Setting.{list_expression, entry_with, changed_at, set_by, set_entry, set_in_definition}
use Rattle.bp_format.specs.Setting.{first_definition, set_in}
use Rattle.bp_format.specs.Spots.{lookup, string_place, value_spot, spot_in, named_spot, first_spot, spot}
use Rattle.bp_format.proofs.Cuts.{same_front}
use Rattle.bp_format.proofs.Depth.{opened, shut, opened_append, shut_append, framed, framed_def}
use Rattle.bp_format.proofs.Frames.{moves, moves_def, SameTree, SameEntries, SameDef}
use Rattle.bp_format.proofs.Located.{IsTreeAt, string_found, then_some, same_ok}

-- What stays of a value, and what is put behind it before the new one: nothing of a list, and of a string all of it.
abbrev pub Keeps : Tree → List Word → List Word → List Word → Type 0
Keeps (Leaf at atom) kept here after = here ≡ kept ++ after
Keeps x kept here after = kept ≡ []

-- A value x stands among words that spell something. With a further value behind lead, in its place or behind it, they
-- spell something new.
pub record IsHole {A : Type 0} (R : A → List Word → List Word → Type 0) (Same : A → A → Type 0) (new : Tree → A)
    (x : Tree) (lead : List Word) (depth : ℕ) (ts rest : List Word) : Type 0 where
  pub before : List Word
  pub here : List Word
  pub after : List Word
  pub kept : List Word
  pub open_before : opened before ≡ shut before + depth
  pub split : ts ≡ before ++ here
  pub old : Spells x here after
  pub keeps : Keeps x kept here after
  pub put : (y : Tree) (v : List Word) → Spells y (v ++ after) after
      → (z : A) × Same (new y) z × R z (before ++ (kept ++ (lead ++ (v ++ after)))) rest

-- a value, and the entries behind it
abbrev Values : Tree × Entries → List Word → List Word → Type 0
Values p ts rest = (mid : List Word) × Spells p.0 ts mid × SpellsMoreEntries p.1 mid rest

abbrev SameValues : Tree × Entries → Tree × Entries → Type 0
SameValues p q = SameTree p.0 q.0 × SameEntries p.1 q.1

-- a hole in what stands behind other words
hole_behind : {A B : Type 0} (R : A → List Word → List Word → Type 0) (S : A → A → Type 0)
    (Q : B → List Word → List Word → Type 0) (T : B → B → Type 0) (new : Tree → A) (other : Tree → B) (x : Tree)
    (lead front ts mid rest end : List Word) (depth more : ℕ) → ts ≡ front ++ mid → opened front ≡ shut front + more
    → IsHole R S new x lead depth mid rest
    → ((y : Tree) (z : A) → S (new y) z → (us : List Word) → R z us rest
    → (w : B) × T (other y) w × Q w (front ++ us) end) → IsHole Q T other x lead (depth + more) ts end
hole_behind R S Q T new other x lead front ts mid rest end depth more is counts h go = record {
  before = front ++ h.before;
  here = h.here;
  after = h.after;
  kept = h.kept;
  open_before = omega (arith, opened_append front h.before, shut_append front h.before, counts, h.open_before);
  split = is ∙ ap (λ l. front ++ l) h.split ∙ sym (append_assoc front h.before h.here);
  old = h.old;
  keeps = h.keeps;
  put = λ y v s.
      let tail = h.kept ++ (lead ++ (v ++ h.after)) in
      let r = h.put y v s in
      let g = go y r.0 r.1 (h.before ++ tail) r.2 in
      (g.0, g.1, subst (λ l. Q g.0 l end) (sym (append_assoc front h.before tail)) g.2);
}

-- how a hole begins, at the value itself
abbrev Begins : Tree → List Word → (Tree → Tree → Entries → Tree × Entries) → Type 0
Begins x lead change =
    (es : Entries) (ts mid rest : List Word) → Spells x ts mid → SpellsMoreEntries es mid rest
    → IsHole Values SameValues (λ y. change y x es) x lead 0 ts rest

-- what is spelled closes what it opens
counted : (x : Tree) (ts rest : List Word) (s : Spells x ts rest)
    → opened (moves x ts rest s).front ≡ shut (moves x ts rest s).front + 0
counted x ts rest s =
    let f = framed x ts rest s in
    let m = moves x ts rest s in
    let same : f.front ≡ m.front = same_front f.front m.front rest (sym f.split ∙ m.split) in
    subst (λ l. opened l ≡ shut l + 0) same (omega (arith, f.keeps.counts))

counted_def : (d : Definition) (ts rest : List Word) (s : SpellsDef d ts rest)
    → opened (moves_def d ts rest s).front ≡ shut (moves_def d ts rest s).front + 0
counted_def d ts rest s =
    let f = framed_def d ts rest s in
    let m = moves_def d ts rest s in
    let same : f.front ≡ m.front = same_front f.front m.front rest (sym f.split ∙ m.split) in
    subst (λ l. opened l ≡ shut l + 0) same (omega (arith, f.keeps.counts))

same_some : {A : Type 0} (x y : A) → Some x ≡ Some y → x ≡ y
same_some x y e = cc

values_hole : (name : List ℕ) (x : Tree) (lead : List Word) (change : Tree → Tree → Entries → Tree × Entries)
    → Begins x lead change → (other : List ℕ) (v : Tree) (es : Entries) (ts mid rest : List Word) → Spells v ts mid
    → SpellsMoreEntries es mid rest
    → lookup name (entry_and other origin v es) ≡ Some x → (lookup name es ≡ Some x
    → IsHole SpellsMoreEntries SameEntries (λ y. changed_at name (change y) es) x lead 0 mid rest)
    → IsHole Values SameValues
    (λ y. if bytes_eq other name then change y v es else (v, changed_at name (change y) es)) x lead 0 ts rest
values_hole name x lead change begins other v es ts mid rest s more found later =
    ⊎_elim
    (λ yes.
    let same : v ≡ x = same_some v x (sym (cond-true (bytes_eq other name) _ _ yes) ∙ found) in
    let h = begins es ts mid rest (subst (λ t. Spells t ts mid) same s) more in
    hole_behind Values SameValues Values SameValues (λ y. change y x es) (λ y. if bytes_eq other name then change y v es
    else (v, changed_at name (change y) es)) x lead [] ts ts rest rest 0 0 refl refl h
    (λ y z eq us r. (
      z,
      subst (λ p. SameValues p z)
          (ap (λ t. change y t es) (sym same) ∙ sym (cond-true (bytes_eq other name) _ _ yes)) eq,
      r,
    )))
    (λ no'.
    let f = moves v ts mid s in
    let a = f.again f.front refl in
    let h = later (sym (cond-false (bytes_eq other name) _ _ no') ∙ found) in
    hole_behind SpellsMoreEntries SameEntries Values SameValues (λ y. changed_at name (change y) es)
    (λ y. if bytes_eq other name then change y v es else (v, changed_at name (change y) es)) x lead f.front ts mid rest
    rest 0 0 f.split (counted v ts mid s) h
    (λ y z eq us r.
    let p : SameValues (v, changed_at name (change y) es) (a.0, z) = (a.1, eq) in
    ((a.0, z), subst (λ q. SameValues q (a.0, z)) (sym (cond-false (bytes_eq other name) _ _ no')) p, (us, a.2 us, r))))
    (cases_Bool (bytes_eq other name))

pub more_hole : (name : List ℕ) (x : Tree) (lead : List Word) (change : Tree → Tree → Entries → Tree × Entries)
    → Begins x lead change → (es : Entries) (ts rest : List Word) → SpellsMoreEntries es ts rest
    → lookup name es ≡ Some x
    → IsHole SpellsMoreEntries SameEntries (λ y. changed_at name (change y) es) x lead 0 ts rest
more_hole name x lead change begins no_entry ts rest s found = absurd cc
more_hole name x lead change begins (entry_and other at v es) ts rest s found =
    let c : Word = record { kind = Mark Comma; at = s.4.0; text = s.4.1.0 } in
    let n : Word = record { kind = Ident; at = at; text = other } in
    let k : Word = record { kind = Mark Colon; at = s.6.0; text = s.6.1.0 } in
    let h = values_hole name x lead change begins other v es s.2 s.3 rest s.7 s.8 found
    (λ e. more_hole name x lead change begins es s.3 rest s.8 e) in
    hole_behind Values SameValues SpellsMoreEntries SameEntries
    (λ y. if bytes_eq other name then change y v es else (v, changed_at name (change y) es))
    (λ y. changed_at name (change y) (entry_and other at v es)) x lead (c ∷ n ∷ k ∷ []) ts s.2 rest rest 0 0
    (s.4.1.1 ∙ ap (λ l. c ∷ l) (s.5 ∙ ap (λ l. n ∷ l) s.6.1.1)) refl h
    (λ y z eq us r. (
      entry_with other at z,
      (λ i. entry_and other origin (eq.0 i) (eq.1 i)),
      (n ∷ k ∷ us, k ∷ us, us, r.0, (s.4.0, (s.4.1.0, refl)), refl, (s.6.0, (s.6.1.0, refl)), r.1, r.2),
    ))

pub entry_hole : (name : List ℕ) (x : Tree) (lead : List Word) (change : Tree → Tree → Entries → Tree × Entries)
    → Begins x lead change → (es : Entries) (ts rest : List Word) → SpellsEntries es ts rest → lookup name es ≡ Some x
    → IsHole SpellsEntries SameEntries (λ y. changed_at name (change y) es) x lead 0 ts rest
entry_hole name x lead change begins no_entry ts rest s found = absurd cc
entry_hole name x lead change begins (entry_and other at v es) ts rest s found =
    let n : Word = record { kind = Ident; at = at; text = other } in
    let k : Word = record { kind = Mark Colon; at = s.4.0; text = s.4.1.0 } in
    let h = values_hole name x lead change begins other v es s.1 s.2 rest s.5 s.6 found
    (λ e. more_hole name x lead change begins es s.2 rest s.6 e) in
    hole_behind Values SameValues SpellsEntries SameEntries
    (λ y. if bytes_eq other name then change y v es else (v, changed_at name (change y) es))
    (λ y. changed_at name (change y) (entry_and other at v es)) x lead (n ∷ k ∷ []) ts s.1 rest rest 0 0
    (s.3 ∙ ap (λ l. n ∷ l) s.4.1.1) refl h
    (λ y z eq us r. (
      entry_with other at z,
      (λ i. entry_and other origin (eq.0 i) (eq.1 i)),
      (k ∷ us, us, r.0, refl, (s.4.0, (s.4.1.0, refl)), r.1, r.2),
    ))

-- a word at no place
abbrev pub plain_word : TokenKind → List ℕ → Word
plain_word kind text = record { kind = kind; at = origin; text = text }

-- what stands before the new list, where it is put behind a name
abbrev pub lead_words : List ℕ → List Word
lead_words property =
    plain_word (Mark Comma) (codes ",") ∷ plain_word Ident property ∷ plain_word (Mark Colon) (codes ":") ∷ []

abbrev pub lead_of : List ℕ → Spot → List Word
lead_of property (Instead at) = []
lead_of property (Behind at) = lead_words property

-- a list gives way
replaced : (at : Place) (xs : Trees) → Begins (Items at xs) [] (λ y old more. (y, more))
replaced at xs es ts mid rest s more = record {
  before = [];
  here = ts;
  after = mid;
  kept = [];
  open_before = refl;
  split = refl;
  old = s;
  keeps = refl;
  put = λ y v new. ((y, es), (refl, refl), (mid, new, more));
}

-- an entry is put behind a string
added : (property : List ℕ) (at : Place) (text : List ℕ)
    → Begins (Leaf at (Str text)) (lead_words property) (λ y value more. (value, entry_and property origin y more))
added property at text es ts mid rest s more =
    let w : Word = record { kind = s.0; at = at; text = s.1 } in
    record {
      before = [];
      here = ts;
      after = mid;
      kept = w ∷ [];
      open_before = refl;
      split = refl;
      old = s;
      keeps = s.2;
      put = λ y v new.
          let behind = v ++ mid in
          let colon = plain_word (Mark Colon) (codes ":") ∷ behind in
          let name = plain_word Ident property ∷ colon in
          let all = plain_word (Mark Comma) (codes ",") ∷ name in (
            (Leaf at (Str text), entry_and property origin y es),
            (refl, refl),
            (
              all,
              (s.0, s.1, refl, s.3),
              (name, colon, behind, mid, (origin, (codes ",", refl)), refl, (origin, (codes ":", refl)), new, more),
            ),
          );
    }

-- The words have a hole at a spot, and with the list they spell the target.
pub record IsSet {A : Type 0} (R : A → List Word → List Word → Type 0) (Same : A → A → Type 0) (w : Wanted) (target : A)
    (place : Spot) (depth : ℕ) (ts rest : List Word) : Type 0 where
  pub new : Tree → A
  pub is : new (list_expression w.items) ≡ target
  pub value : Tree
  pub at : IsTreeAt place value
  pub hole : IsHole R Same new value (lead_of w.property place) depth ts rest

behind_name : (w : Wanted) (es : Entries) (ts rest : List Word) (p : Place) (x : Tree) → SpellsEntries es ts rest
    → IsTreeAt (Behind p) x → lookup (codes "name") es ≡ Some x → lookup w.property es ≡ None
    → IsSet SpellsEntries SameEntries w (set_entry w.property (list_expression w.items) es) (Behind p) 0 ts rest
behind_name w es ts rest p (Leaf q (Str t)) s here named none = record {
  new = λ y. set_by w.property y None es;
  is = ap (λ o. set_by w.property (list_expression w.items) o es) (sym none);
  value = Leaf q (Str t);
  at = here;
  hole =
      entry_hole (codes "name") (Leaf q (Str t)) (lead_words w.property)
      (λ y value more. (value, entry_and w.property origin y more)) (added w.property q t) es ts rest s named;
}
behind_name w es ts rest p (Leaf q (Truth b)) s here named none = absurd here
behind_name w es ts rest p (Leaf q (Number n)) s here named none = absurd here
behind_name w es ts rest p (Leaf q (Name n)) s here named none = absurd here
behind_name w es ts rest p (Items q xs) s here named none = absurd here
behind_name w es ts rest p (Body q xs) s here named none = absurd here
behind_name w es ts rest p (Sum x terms) s here named none = absurd here

in_place : (w : Wanted) (es : Entries) (ts rest : List Word) (at : Place) (xs : Trees) → SpellsEntries es ts rest
    → lookup w.property es ≡ Some (Items at xs)
    → IsSet SpellsEntries SameEntries w (set_entry w.property (list_expression w.items) es) (Instead at) 0 ts rest
in_place w es ts rest at xs s found = record {
  new = λ y. set_by w.property y (Some (Items at xs)) es;
  is = ap (λ o. set_by w.property (list_expression w.items) o es) (sym found);
  value = Items at xs;
  at = refl;
  hole = entry_hole w.property (Items at xs) [] (λ y old more. (y, more)) (replaced at xs) es ts rest s found;
}

by_value : (w : Wanted) (es : Entries) (ts rest : List Word) (p : Place) (x : Tree) (place : Spot) (o : Option Tree)
    → SpellsEntries es ts rest → IsTreeAt (Behind p) x → lookup (codes "name") es ≡ Some x → lookup w.property es ≡ o
    → value_spot w.property p o ≡ Ok place
    → IsSet SpellsEntries SameEntries w (set_entry w.property (list_expression w.items) es) place 0 ts rest
by_value w es ts rest p x place None s here named is found =
    subst (λ q. IsSet SpellsEntries SameEntries w (set_entry w.property (list_expression w.items) es) q 0 ts rest)
    (same_ok (Behind p) place found) (behind_name w es ts rest p x s here named is)
by_value w es ts rest p x place (Some (Items at xs)) s here named is found =
    subst (λ q. IsSet SpellsEntries SameEntries w (set_entry w.property (list_expression w.items) es) q 0 ts rest)
    (same_ok (Instead at) place found) (in_place w es ts rest at xs s is)
by_value w es ts rest p x place (Some (Leaf at a)) s here named is found = absurd cc
by_value w es ts rest p x place (Some (Body at a)) s here named is found = absurd cc
by_value w es ts rest p x place (Some (Sum a terms)) s here named is found = absurd cc

by_name : (w : Wanted) (es : Entries) (ts rest : List Word) (place : Spot) (q : Option Place) → SpellsEntries es ts rest
    → q ≡ string_place w.name (lookup (codes "name") es) → spot_in w.property q es ≡ Ok (Some place)
    → (is_some q ≡ true)
    × IsSet SpellsEntries SameEntries w (set_entry w.property (list_expression w.items) es) place 0 ts rest
by_name w es ts rest place None s is found = absurd cc
by_name w es ts rest place (Some p) s is found =
    let x = string_found w.name (lookup (codes "name") es) p (sym is) in (
      refl,
      by_value w es ts rest p x.0 place (lookup w.property es) s x.2 x.1 refl
          (then_some (value_spot w.property p (lookup w.property es)) place found),
    )

unnamed : (property : List ℕ) (es : Entries) (q : Option Place) → spot_in property q es ≡ Ok None → is_some q ≡ false
unnamed property es None is = refl
unnamed property es (Some p) is = absurd (never (value_spot property p (lookup property es)) is) where
  never : (r : Result Spot Fault) → then_do r (λ s. Ok (Some s)) ≡ Ok None → ⊥
  never (Ok s) e = cc
  never (Err f) e = cc

-- a definition that is the module, or isn't
def_set : (w : Wanted) (d : Definition) (ts rest : List Word) (place : Spot) → SpellsDef d ts rest
    → named_spot w.name w.property d ≡ Ok (Some place)
    → (e : Definition) × (set_in_definition w d ≡ Some e) × IsSet SpellsDef SameDef w e place 1 ts rest
def_set w (Assigns name at x) ts rest place s found = absurd cc
def_set w (Extends name at x) ts rest place s found = absurd cc
def_set w (Declares kind at m) ts rest place s found =
    let k : Word = record { kind = Ident; at = at; text = kind } in
    let b : Word = record { kind = Mark OpenBrace; at = m.at; text = s.2.1.0 } in
    let r =
    by_name w m.entries s.2.0 rest place (string_place w.name (lookup (codes "name") m.entries)) s.2.2 refl found in
    let h = r.1 in (
      Declares kind at (record { at = m.at; entries = set_entry w.property (list_expression w.items) m.entries }),
      cond-true (is_some (string_place w.name (lookup (codes "name") m.entries))) _ _ r.0,
      record {
        new = λ y. Declares kind at (record { at = m.at; entries = h.new y });
        is = ap (λ es. Declares kind at (record { at = m.at; entries = es })) h.is;
        value = h.value;
        at = h.at;
        hole =
            hole_behind SpellsEntries SameEntries SpellsDef SameDef h.new
            (λ y. Declares kind at (record { at = m.at; entries = h.new y })) h.value (lead_of w.property place)
            (k ∷ b ∷ []) ts s.2.0 rest rest 0 1
            (s.1.0 ∙ ap (λ l. k ∷ l) s.2.1.1) refl h.hole
            (λ y z eq us t. (
              Declares kind at (record { at = m.at; entries = z }),
              ap (λ es. Declares kind origin (record { at = origin; entries = es })) eq,
              (b ∷ us, (refl, s.1.1), (us, (s.2.1.0, refl), t)),
            ));
      },
    )

def_other : (w : Wanted) (d : Definition) → named_spot w.name w.property d ≡ Ok None → set_in_definition w d ≡ None
def_other w (Assigns name at x) is = refl
def_other w (Extends name at x) is = refl
def_other w (Declares kind at m) is =
    cond-false (is_some (string_place w.name (lookup (codes "name") m.entries))) _ _
    (unnamed w.property m.entries (string_place w.name (lookup (codes "name") m.entries)) is)

here_or_later : (r : Result (Option Spot) Fault) (others : Result Spot Fault) (place : Spot)
    → then_do r (λ s. first_spot s others) ≡ Ok place → (r ≡ Ok (Some place)) ⊎ ((r ≡ Ok None) × (others ≡ Ok place))
here_or_later (Ok (Some s)) others place is = inl (ap (λ x. Ok (Some x)) (same_ok s place is))
here_or_later (Ok None) others place is = inr (refl, is)
here_or_later (Err f) others place is = absurd cc

-- the definitions of a whole file
abbrev pub Files : List Definition → List Word → List Word → Type 0
Files ds ts rest = SpellsFile ds ts

abbrev pub SameDefs : List Definition → List Definition → Type 0
SameDefs ds es = definitions_without_places ds ≡ definitions_without_places es

pub file_set : (file : ℕ) (w : Wanted) (ds : List Definition) (ws : List Word) (place : Spot) → SpellsFile ds ws
    → spot file w.name w.property ds ≡ Ok place → IsSet Files SameDefs w (set_in w ds) place 1 ws []
file_set file w [] ws place s found = absurd cc
file_set file w (d ∷ ds) ws place s found =
    ⊎_elim
    (λ here.
    let r = def_set w d ws s.0 place s.1 here in
    let h = r.2 in
    record {
      new = λ y. h.new y ∷ ds;
      is = ap (λ e. e ∷ ds) h.is ∙ ap (λ o. first_definition o d ds (set_in w ds)) (sym r.1);
      value = h.value;
      at = h.at;
      hole =
          hole_behind SpellsDef SameDef Files SameDefs h.new (λ y. h.new y ∷ ds) h.value
          (lead_of w.property place) [] ws ws s.0 [] 1 0 refl refl h.hole
          (λ y z eq us t. (z ∷ ds, (λ i. eq i ∷ definitions_without_places ds), (s.0, t, s.2)));
    })
    (λ later.
    let h = file_set file w ds s.0 place s.2 later.1 in
    let f = moves_def d ws s.0 s.1 in
    let a = f.again f.front refl in
    record {
      new = λ y. d ∷ h.new y;
      is = ap (λ es. d ∷ es) h.is ∙ ap (λ o. first_definition o d ds (set_in w ds)) (sym (def_other w d later.0));
      value = h.value;
      at = h.at;
      hole =
          hole_behind Files SameDefs Files SameDefs h.new (λ y. d ∷ h.new y) h.value
          (lead_of w.property place) f.front ws s.0 [] [] 1 0 f.split (counted_def d ws s.0 s.1) h.hole
          (λ y z eq us t. (a.0 ∷ z, (λ i. a.1 i ∷ eq i), (us, a.2 us, t)));
    })
    (here_or_later (named_spot w.name w.property d) (spot file w.name w.property ds) place found)
