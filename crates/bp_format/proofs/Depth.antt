-- What is spelled opens and closes its own brackets, and no definition begins inside of another.
use Rattle.std.proofs.Common.{◌≡◌, ℕ, ◌+◌, ◌-◌, ◌<◌, ◌≤◌, Bool, true, false, List, [], ◌∷◌, ◌++◌, length, take, Some}
use Rattle.std.proofs.Common.{sym, refl, ap, ◌∙◌, subst, ⊎_elim, inl, inr, append_assoc, append-nil, arith}
use Rattle.std.proofs.Common.{length-append}
use Rattle.std.specs.Prelude.{◌⊎◌, ⊤, cond}
use Rattle.std.specs.List.{count_by}
use Rattle.std.proofs.Math.Seq.{take-append_seam}
use Rattle.std.proofs.lemmas.List.Sums.{sum_by-append, sum_by-cons}
use Rattle.std.proofs.lemmas.Bool.{cond-true, cond-false, false≢true}
use Rattle.bp_faults.specs.declared.place.Place.{Place}
use Rattle.bp_lexer.specs.declared.token.Punct.{Punct}
use Rattle.bp_lexer.specs.declared.token.Punct.TheVariants.{OpenBrace, CloseBrace, OpenBracket, CloseBracket, Colon}
use Rattle.bp_lexer.specs.declared.token.Punct.TheVariants.{Comma, Equal, PlusEqual, Plus}
use Rattle.bp_lexer.specs.declared.token.TokenKind.{TokenKind}
use Rattle.bp_lexer.specs.declared.token.TokenKind.TheVariants.{Ident, Int, Quoted, Raw, Punct as Mark}
use Rattle.bp_parser.specs.Trees.{Atom, Tree, Leaf, Items, Body, Sum, Trees, no_tree, tree_and, Terms, no_term}
use Rattle.bp_parser.specs.Trees.{term_and, Entries, no_entry, entry_and, Definition, Assigns, Extends, Declares}
use Rattle.bp_parser.specs.Words.{Word, atom_of}
use Rattle.bp_parser.specs.Flaws.{is_opening as opens_bracket, closes as closes_bracket}
use Rattle.bp_parser.specs.Grammar.{IsWord, IsMark, Spells, SpellsTerms, SpellsItems, SpellsMoreItems, SpellsEntries}
use Rattle.bp_parser.specs.Grammar.{SpellsMoreEntries, SpellsDef}
use Rattle.bp_format.specs.Kinds.{is_ident, wants_value}
use Rattle.bp_format.specs.Layout.{opens_any, closes_any, nest_behind}

-- the brackets that are open behind words
abbrev pub nest_of : List TokenKind → List Word → List TokenKind
nest_of n [] = n
nest_of n (w ∷ ws) = nest_of (nest_behind n w.kind) ws

pub nest_append : (n : List TokenKind) (a b : List Word) → nest_of n (a ++ b) ≡ nest_of (nest_of n a) b
nest_append n [] b = refl
nest_append n (w ∷ a) b = nest_append (nest_behind n w.kind) a b

-- how many brackets open and close, as the limit on nesting counts them
abbrev pub opens_word : Word → ℕ
opens_word w = cond (opens_bracket w.kind) 1 0

abbrev pub closes_word : Word → ℕ
closes_word w = cond (closes_bracket w.kind) 1 0

abbrev pub opened : List Word → ℕ
opened ws = count_by (λ w. opens_bracket w.kind) ws

abbrev pub shut : List Word → ℕ
shut ws = count_by (λ w. closes_bracket w.kind) ws

pub opened_append : (a b : List Word) → opened (a ++ b) ≡ opened a + opened b
opened_append a b = sum_by-append opens_word a b

pub shut_append : (a b : List Word) → shut (a ++ b) ≡ shut a + shut b
shut_append a b = sum_by-append closes_word a b

pub opened_cons : (w : Word) (ws : List Word) → opened (w ∷ ws) ≡ opens_word w + opened ws
opened_cons w ws = sum_by-cons opens_word w ws

pub shut_cons : (w : Word) (ws : List Word) → shut (w ∷ ws) ≡ closes_word w + shut ws
shut_cons w ws = sum_by-cons closes_word w ws

-- what is no bracket isn't counted
plain_opens : (k : TokenKind) → opens_any k ≡ false → opens_bracket k ≡ false
plain_opens (Mark OpenBrace) is = absurd cc
plain_opens (Mark OpenBracket) is = absurd cc
plain_opens _ is = refl

plain_closes : (k : TokenKind) → closes_any k ≡ false → closes_bracket k ≡ false
plain_closes (Mark CloseBrace) is = absurd cc
plain_closes (Mark CloseBracket) is = absurd cc
plain_closes _ is = refl

pub plain_counts : (w : Word) → opens_any w.kind ≡ false → closes_any w.kind ≡ false
    → (opens_word w ≡ 0) × (closes_word w ≡ 0)
plain_counts w o c = (
  cond-false (opens_bracket w.kind) 1 0 (plain_opens w.kind o),
  cond-false (closes_bracket w.kind) 1 0 (plain_closes w.kind c),
)

-- a bracket that opens and one that closes are counted
abbrev IsPair : TokenKind → TokenKind → Type 0
IsPair j k =
    (opens_bracket j ≡ true) × (closes_bracket j ≡ false) × (opens_bracket k ≡ false) × (closes_bracket k ≡ true)

-- words that close what they open, and nothing else
pub record Keeps (front : List Word) : Type 0 where
  pub counts : opened front ≡ shut front
  pub whole : (n : List TokenKind) → nest_of n front ≡ n
  pub within : (n : List TokenKind) (b c : List Word) → front ≡ b ++ c → length n ≤ length (nest_of n b)

keeps_nil : Keeps []
keeps_nil = record {
  counts = refl;
  whole = λ n. refl;
  within = λ n b c is. within_nil n b c is;
} where
  within_nil : (n : List TokenKind) (b c : List Word) → [] ≡ b ++ c → length n ≤ length (nest_of n b)
  within_nil n [] c is = omega arith
  within_nil n (w ∷ b) c is = absurd cc

-- two ways to cut one list
pub two_cuts : (f g b c : List Word) → f ++ g ≡ b ++ c
    → ((d : List Word) × (f ≡ b ++ d) × (c ≡ d ++ g)) ⊎ ((d : List Word) × (b ≡ f ++ d) × (g ≡ d ++ c))
two_cuts [] g b c is = inr (b, refl, is)
two_cuts (x ∷ f) g [] c is = inl (x ∷ f, refl, sym is)
two_cuts (x ∷ f) g (y ∷ b) c is =
    let head : x ≡ y = cc in
    let rest : f ++ g ≡ b ++ c = cc in
    ⊎_elim
    (λ p. inl (p.0, (λ i. head i ∷ p.1 i), p.2))
    (λ p. inr (p.0, (λ i. sym head i ∷ p.1 i), p.2))
    (two_cuts f g b c rest)

keeps_append : (f g : List Word) → Keeps f → Keeps g → Keeps (f ++ g)
keeps_append f g k l = record {
  counts = opened_append f g ∙ (λ i. k.counts i + l.counts i) ∙ sym (shut_append f g);
  whole = λ n. nest_append n f g ∙ ap (λ m. nest_of m g) (k.whole n) ∙ l.whole n;
  within = λ n b c is. ⊎_elim
      (λ p. k.within n b p.0 p.1)
      (λ p. omega (
        arith,
        l.within n p.0 c p.2,
        ap length (ap (nest_of n) p.1 ∙ nest_append n f p.0 ∙ ap (λ m. nest_of m p.0) (k.whole n)),
      ))
      (two_cuts f g b c is);
}

pub turned_plain : (n : List TokenKind) (k : TokenKind) → opens_any k ≡ false → closes_any k ≡ false
    → nest_behind n k ≡ n
turned_plain n k o c = cond-false (opens_any k) _ _ o ∙ cond-false (closes_any k) _ _ c

keeps_word : (w : Word) → opens_any w.kind ≡ false → closes_any w.kind ≡ false → Keeps (w ∷ [])
keeps_word w o c = record {
  counts = let p = plain_counts w o c in opened_cons w [] ∙ ap (λ n. n + 0) (p.0 ∙ sym p.1) ∙ sym (shut_cons w []);
  whole = λ n. turned_plain n w.kind o c;
  within = λ n b d is. at n b d is;
} where
  at : (n : List TokenKind) (b d : List Word) → w ∷ [] ≡ b ++ d → length n ≤ length (nest_of n b)
  at n [] d is = omega arith
  at n (x ∷ []) d is =
      let same : w ≡ x = cc in
      omega (arith, ap length (ap (λ (v : Word). nest_behind n v.kind) (sym same) ∙ turned_plain n w.kind o c))
  at n (x ∷ y ∷ b) d is = absurd (omega (arith, ap length is))

pub turned_open : (n : List TokenKind) (k : TokenKind) → opens_any k ≡ true → nest_behind n k ≡ n ++ k ∷ []
turned_open n k o = cond-true (opens_any k) _ _ o

turned_close : (n : List TokenKind) (j k : TokenKind) → opens_any k ≡ false → closes_any k ≡ true
    → nest_behind (n ++ j ∷ []) k ≡ n
turned_close n j k o c =
    let len : length (n ++ j ∷ []) - 1 ≡ length n = omega (arith, length-append n (j ∷ [])) in
    cond-false (opens_any k) _ _ o
    ∙ cond-true (closes_any k) _ _ c
    ∙ ap (λ i. take i (n ++ j ∷ [])) len
    ∙ take-append_seam n (j ∷ [])

-- a bracket, what is inside, and the bracket that closes
abbrev pub bracket : Word → List Word → Word → List Word
bracket o inner e = o ∷ (inner ++ e ∷ [])

-- what begins with the bracket and isn't all of it is within
pub inside_bracket : (n : List TokenKind) (o e : Word) (inner b c : List Word) → opens_any o.kind ≡ true → Keeps inner
    → inner ++ e ∷ [] ≡ b ++ c → 0 < length c → length n < length (nest_of (nest_behind n o.kind) b)
inside_bracket n o e inner b c opening k is some =
    let deeper : length (nest_behind n o.kind) ≡ length n + 1 =
    ap length (turned_open n o.kind opening) ∙ length-append n (o.kind ∷ []) in
    ⊎_elim
    (λ p. omega (arith, k.within (nest_behind n o.kind) b p.0 p.1, deeper))
    (λ p.
    let none : p.0 ≡ [] = ends_there p.0 c e p.2 some in
    let same : b ≡ inner = p.1 ∙ ap (λ l. inner ++ l) none ∙ append-nil inner in
    omega (arith, deeper, ap length (ap (nest_of (nest_behind n o.kind)) same ∙ k.whole (nest_behind n o.kind))))
    (two_cuts inner (e ∷ []) b c is)
  where
    ends_there : (d c : List Word) (e : Word) → e ∷ [] ≡ d ++ c → 0 < length c → d ≡ []
    ends_there [] c e is some = refl
    ends_there (x ∷ d) c e is some = absurd (omega (arith, ap length is, length-append d c))

keeps_bracket : (o e : Word) (inner : List Word) → IsPair o.kind e.kind → opens_any o.kind ≡ true
    → opens_any e.kind ≡ false → closes_any e.kind ≡ true → Keeps inner → Keeps (bracket o inner e)
keeps_bracket o e inner pair opening shut_one closing k = record {
  counts = counted;
  whole = all;
  within = λ n b c is. at n b c is;
} where
  counted : opened (bracket o inner e) ≡ shut (bracket o inner e)
  counted =
      let one : opens_word o ≡ 1 = cond-true (opens_bracket o.kind) 1 0 pair.0 in
      let none : closes_word o ≡ 0 = cond-false (closes_bracket o.kind) 1 0 pair.1 in
      let last_none : opens_word e ≡ 0 = cond-false (opens_bracket e.kind) 1 0 pair.2 in
      let last_one : closes_word e ≡ 1 = cond-true (closes_bracket e.kind) 1 0 pair.3 in
      omega (
        arith,
        one,
        none,
        last_none,
        last_one,
        k.counts,
        opened_cons o (inner ++ e ∷ []),
        shut_cons o (inner ++ e ∷ []),
        opened_append inner (e ∷ []),
        shut_append inner (e ∷ []),
        opened_cons e [],
        shut_cons e [],
      )

  all : (n : List TokenKind) → nest_of n (bracket o inner e) ≡ n
  all n =
      nest_append (nest_behind n o.kind) inner (e ∷ [])
      ∙ ap (λ m. nest_behind m e.kind) (k.whole (nest_behind n o.kind) ∙ turned_open n o.kind opening)
      ∙ turned_close n o.kind e.kind shut_one closing

  at : (n : List TokenKind) (b c : List Word) → bracket o inner e ≡ b ++ c → length n ≤ length (nest_of n b)
  at n [] c is = omega arith
  at n (x ∷ b) [] is = omega (arith, ap length (ap (nest_of n) (sym (append-nil (x ∷ b)) ∙ sym is) ∙ all n))
  at n (x ∷ b) (y ∷ c) is =
      let head : o ≡ x = cc in
      let rest : inner ++ e ∷ [] ≡ b ++ (y ∷ c) = cc in
      omega (
        arith,
        inside_bracket n o e inner b (y ∷ c) opening k rest (omega arith),
        ap length (ap (λ (v : Word). nest_of (nest_behind n v.kind) b) (sym head)),
      )

-- a value has to follow the last of the words
abbrev pub wants_more : List Word → Bool
wants_more [] = false
wants_more (w ∷ []) = wants_value w.kind
wants_more (w ∷ v ∷ ws) = wants_more (v ∷ ws)

pub wants_append : (a : List Word) (w : Word) (b : List Word) → wants_more (a ++ (w ∷ b)) ≡ wants_more (w ∷ b)
wants_append [] w b = refl
wants_append (x ∷ []) w b = refl
wants_append (x ∷ y ∷ a) w b = wants_append (y ∷ a) w b

-- within the words no definition begins where no bracket is open, but behind `=`, `+=` and `+`
pub record IsQuiet (front : List Word) : Type 0 where
  pub quiet : (b : List Word) (x : Word) (c : List Word) → front ≡ b ++ x ∷ c → 0 < length b → nest_of [] b ≡ []
      → wants_more b ≡ false → is_ident x.kind ≡ true → ⊥

-- no definition begins with the words
abbrev pub NoIdent : List Word → Type 0
NoIdent [] = ⊤
NoIdent (w ∷ ws) = is_ident w.kind ≡ false

quiet_word : (w : Word) → IsQuiet (w ∷ [])
quiet_word w = record {
  quiet = λ b x c is some none wants ident. absurd (omega (arith, ap length is, length-append b (x ∷ c)));
}

quiet_bracket : (o e : Word) (inner : List Word) → opens_any o.kind ≡ true → Keeps inner → IsQuiet (bracket o inner e)
quiet_bracket o e inner opening k = record { quiet = at } where
  at : (b : List Word) (x : Word) (c : List Word) → bracket o inner e ≡ b ++ x ∷ c → 0 < length b → nest_of [] b ≡ []
      → wants_more b ≡ false → is_ident x.kind ≡ true → ⊥
  at [] x c is some none wants ident = absurd (omega arith)
  at (y ∷ b) x c is some none wants ident =
      let head : o ≡ y = cc in
      let rest : inner ++ e ∷ [] ≡ b ++ (x ∷ c) = cc in
      omega (
        arith,
        inside_bracket [] o e inner b (x ∷ c) opening k rest (omega arith),
        ap length (ap (λ (v : Word). nest_of (nest_behind [] v.kind) b) head ∙ none),
      )

-- behind `=`, `+=` and `+`
quiet_wanting : (w : Word) (g : List Word) → wants_value w.kind ≡ true → opens_any w.kind ≡ false
    → closes_any w.kind ≡ false → IsQuiet g → IsQuiet (w ∷ g)
quiet_wanting w g wants_one no_open no_close q = record { quiet = at } where
  at : (b : List Word) (x : Word) (c : List Word) → w ∷ g ≡ b ++ x ∷ c → 0 < length b → nest_of [] b ≡ []
      → wants_more b ≡ false → is_ident x.kind ≡ true → ⊥
  at [] x c is some none wants ident = absurd (omega arith)
  at (y ∷ []) x c is some none wants ident =
      let head : w ≡ y = cc in
      false≢true (sym wants ∙ ap (λ (v : Word). wants_value v.kind) (sym head) ∙ wants_one)
  at (y ∷ z ∷ b) x c is some none wants ident =
      let head : w ≡ y = cc in
      let rest : g ≡ z ∷ (b ++ x ∷ c) = cc in
      q.quiet (z ∷ b) x c rest (omega arith)
      (ap (λ n. nest_of n (z ∷ b)) (sym (turned_plain [] w.kind no_open no_close))
      ∙ ap (λ (v : Word). nest_of (nest_behind [] v.kind) (z ∷ b)) head ∙ none) wants ident

quiet_append : (f g : List Word) → Keeps f → IsQuiet f → IsQuiet g → NoIdent g → IsQuiet (f ++ g)
quiet_append f g k q r starts = record { quiet = at } where
  left : (b : List Word) (x : Word) (c d : List Word) → f ≡ b ++ d → x ∷ c ≡ d ++ g → 0 < length b → nest_of [] b ≡ []
      → wants_more b ≡ false → is_ident x.kind ≡ true → ⊥
  left b x c [] here behind some none wants ident = false≢true (sym (subst NoIdent (sym behind) starts) ∙ ident)
  left b x c (y ∷ d) here behind some none wants ident =
      let head : x ≡ y = cc in
      q.quiet b y d here some none wants (ap (λ (v : Word). is_ident v.kind) (sym head) ∙ ident)

  right : (b : List Word) (x : Word) (c d : List Word) → b ≡ f ++ d → g ≡ d ++ x ∷ c → 0 < length b → nest_of [] b ≡ []
      → wants_more b ≡ false → is_ident x.kind ≡ true → ⊥
  right b x c [] here behind some none wants ident = false≢true (sym (subst NoIdent behind starts) ∙ ident)
  right b x c (y ∷ d) here behind some none wants ident =
      r.quiet (y ∷ d) x c behind (omega arith)
      (ap (λ n. nest_of n (y ∷ d)) (sym (k.whole []))
      ∙ sym (nest_append [] f (y ∷ d))
      ∙ ap (nest_of []) (sym here)
      ∙ none)
      (sym (wants_append f y d) ∙ ap wants_more (sym here) ∙ wants) ident

  at : (b : List Word) (x : Word) (c : List Word) → f ++ g ≡ b ++ x ∷ c → 0 < length b → nest_of [] b ≡ []
      → wants_more b ≡ false → is_ident x.kind ≡ true → ⊥
  at b x c is some none wants ident = ⊎_elim
      (λ p. left b x c p.0 p.1 p.2 some none wants ident)
      (λ p. right b x c p.0 p.1 p.2 some none wants ident)
      (two_cuts f g b (x ∷ c) is)

-- What is spelled stands in a front that closes what it opens, and in which no definition begins.
pub record IsFramed (ts rest : List Word) : Type 0 where
  pub front : List Word
  pub split : ts ≡ front ++ rest
  pub keeps : Keeps front
  pub quiet : IsQuiet front
  pub some : 0 < length front
  pub ends : wants_more front ≡ false

-- the same of what may be nothing, and begins no definition
record AreTerms (ts rest : List Word) : Type 0 where
  pub front : List Word
  pub split : ts ≡ front ++ rest
  pub keeps : Keeps front
  pub quiet : IsQuiet front
  pub starts : NoIdent front
  pub ends : wants_more front ≡ false

-- what stands within brackets, up to the one that closes
pub record IsWithin (close : Punct) (ts rest : List Word) : Type 0 where
  pub inner : List Word
  pub end : Word
  pub split : ts ≡ inner ++ end ∷ rest
  pub keeps : Keeps inner
  pub kind : end.kind ≡ Mark close

wants_two : (f g : List Word) → wants_more f ≡ false → wants_more g ≡ false → wants_more (f ++ g) ≡ false
wants_two f [] a b = ap wants_more (append-nil f) ∙ a
wants_two f (w ∷ g) a b = wants_append f w g ∙ b

wants_behind : (w : Word) (g : List Word) → 0 < length g → wants_more g ≡ false → wants_more (w ∷ g) ≡ false
wants_behind w [] some ends = absurd (omega arith)
wants_behind w (v ∷ g) some ends = ends

-- one word that is no bracket
pub plain_atom : (k : TokenKind) (text : List ℕ) (atom : Atom) → atom_of k text ≡ Some atom
    → (opens_any k ≡ false) × (closes_any k ≡ false) × (wants_value k ≡ false)
plain_atom Ident text atom is = (refl, refl, refl)
plain_atom Int text atom is = (refl, refl, refl)
plain_atom Quoted text atom is = (refl, refl, refl)
plain_atom Raw text atom is = (refl, refl, refl)
plain_atom _ text atom is = absurd cc

framed_word : (w : Word) (ts rest : List Word) → ts ≡ w ∷ rest
    → (opens_any w.kind ≡ false) × (closes_any w.kind ≡ false) × (wants_value w.kind ≡ false) → IsFramed ts rest
framed_word w ts rest is plain = record {
  front = w ∷ [];
  split = is;
  keeps = keeps_word w plain.0 plain.1;
  quiet = quiet_word w;
  some = omega arith;
  ends = plain.2;
}

framed_bracket : (j k : Punct) (at : Place) (text : List ℕ) (ts inner rest : List Word) → IsPair (Mark j) (Mark k)
    → opens_any (Mark j) ≡ true → opens_any (Mark k) ≡ false → closes_any (Mark k) ≡ true → wants_value (Mark k) ≡ false
    → ts ≡ record { kind = Mark j; at = at; text = text } ∷ inner → IsWithin k inner rest → IsFramed ts rest
framed_bracket j k at text ts inner rest pair opening shut_one closing ends is w =
    let o : Word = record { kind = Mark j; at = at; text = text } in
    let front = bracket o w.inner w.end in
    record {
      front = front;
      split = is ∙ ap (λ l. o ∷ l) (w.split ∙ sym (append_assoc w.inner (w.end ∷ []) rest));
      keeps =
          keeps_bracket o w.end w.inner (subst (IsPair (Mark j)) (sym w.kind) pair) opening
          (ap opens_any w.kind ∙ shut_one) (ap closes_any w.kind ∙ closing) w.keeps;
      quiet = quiet_bracket o w.end w.inner opening w.keeps;
      some = omega arith;
      ends = wants_append (o ∷ w.inner) w.end [] ∙ ap wants_value w.kind ∙ ends;
    }

-- a front, and then what is within
within_more : (close : Punct) (ts mid rest front : List Word) → ts ≡ front ++ mid → Keeps front
    → IsWithin close mid rest → IsWithin close ts rest
within_more close ts mid rest front split k w = record {
  inner = front ++ w.inner;
  end = w.end;
  split = split ∙ ap (λ l. front ++ l) w.split ∙ sym (append_assoc front w.inner (w.end ∷ rest));
  keeps = keeps_append front w.inner k w.keeps;
  kind = w.kind;
}

within_end : (close : Punct) (ts rest : List Word) → IsMark close ts rest → IsWithin close ts rest
within_end close ts rest m = record {
  inner = [];
  end = record { kind = Mark close; at = m.0; text = m.1.0 };
  split = m.1.1;
  keeps = keeps_nil;
  kind = refl;
}

within_mark : (close m : Punct) (ts mid rest : List Word) → opens_any (Mark m) ≡ false → closes_any (Mark m) ≡ false
    → IsMark m ts mid → IsWithin close mid rest → IsWithin close ts rest
within_mark close m ts mid rest o c s w =
    let x : Word = record { kind = Mark m; at = s.0; text = s.1.0 } in
    within_more close ts mid rest (x ∷ []) s.1.1 (keeps_word x o c) w

within_name : (close : Punct) (at : Place) (name : List ℕ) (ts mid rest : List Word) → IsWord Ident at name ts mid
    → IsWithin close mid rest → IsWithin close ts rest
within_name close at name ts mid rest s w =
    let x : Word = record { kind = Ident; at = at; text = name } in
    within_more close ts mid rest (x ∷ []) s (keeps_word x refl refl) w

within_tree : (close : Punct) (ts mid rest : List Word) → IsFramed ts mid → IsWithin close mid rest
    → IsWithin close ts rest
within_tree close ts mid rest f w = within_more close ts mid rest f.front f.split f.keeps w

mutual
  pub framed : (x : Tree) (ts rest : List Word) → Spells x ts rest → IsFramed ts rest
  framed (Leaf at atom) ts rest s =
      framed_word (record { kind = s.0; at = at; text = s.1 }) ts rest s.2 (plain_atom s.0 s.1 atom s.3)
  framed (Items at xs) ts rest s =
      framed_bracket OpenBracket CloseBracket at s.1.0 ts s.0 rest (refl, refl, refl, refl) refl refl refl refl s.1.1
      (items_within xs s.0 rest s.2)
  framed (Body at es) ts rest s =
      framed_bracket OpenBrace CloseBrace at s.1.0 ts s.0 rest (refl, refl, refl, refl) refl refl refl refl s.1.1
      (entries_within es s.0 rest s.2)
  framed (Sum x terms) ts rest s =
      let f = framed x ts s.0 s.3 in
      let t = terms_framed terms s.0 rest s.4 in
      record {
        front = f.front ++ t.front;
        split = f.split ∙ ap (λ l. f.front ++ l) t.split ∙ sym (append_assoc f.front t.front rest);
        keeps = keeps_append f.front t.front f.keeps t.keeps;
        quiet = quiet_append f.front t.front f.keeps f.quiet t.quiet t.starts;
        some = omega (arith, f.some, length-append f.front t.front);
        ends = wants_two f.front t.front f.ends t.ends;
      }

  terms_framed : (xs : Terms) (ts rest : List Word) → SpellsTerms xs ts rest → AreTerms ts rest
  terms_framed no_term ts rest s = record {
    front = [];
    split = s;
    keeps = keeps_nil;
    quiet = record {
      quiet = λ b x c is some none wants ident. absurd (omega (arith, ap length is, length-append b (x ∷ c)));
    };
    starts = tt;
    ends = refl;
  }
  terms_framed (term_and at x terms) ts rest s =
      let p : Word = record { kind = Mark Plus; at = at; text = s.2.0 } in
      let f = framed x s.0 s.1 s.4 in
      let t = terms_framed terms s.1 rest s.5 in
      let g = f.front ++ t.front in
      let k = keeps_append f.front t.front f.keeps t.keeps in
      record {
        front = p ∷ g;
        split =
            s.2.1
            ∙ ap (λ l. p ∷ l) (f.split ∙ ap (λ l. f.front ++ l) t.split ∙ sym (append_assoc f.front t.front rest));
        keeps = keeps_append (p ∷ []) g (keeps_word p refl refl) k;
        quiet = quiet_wanting p g refl refl refl (quiet_append f.front t.front f.keeps f.quiet t.quiet t.starts);
        starts = refl;
        ends =
            wants_behind p g (omega (arith, f.some, length-append f.front t.front))
            (wants_two f.front t.front f.ends t.ends);
      }

  pub items_within : (xs : Trees) (ts rest : List Word) → SpellsItems xs ts rest → IsWithin CloseBracket ts rest
  items_within no_tree ts rest s = within_end CloseBracket ts rest s
  items_within (tree_and x xs) ts rest s =
      within_tree CloseBracket ts s.0 rest (framed x ts s.0 s.1) (more_items_within xs s.0 rest s.2)

  more_items_within : (xs : Trees) (ts rest : List Word) → SpellsMoreItems xs ts rest → IsWithin CloseBracket ts rest
  more_items_within no_tree ts rest (inl s) = within_end CloseBracket ts rest s
  more_items_within no_tree ts rest (inr s) =
      within_mark CloseBracket Comma ts s.0 rest refl refl s.1 (within_end CloseBracket s.0 rest s.2)
  more_items_within (tree_and x xs) ts rest s =
      within_mark CloseBracket Comma ts s.0 rest refl refl s.2
      (within_tree CloseBracket s.0 s.1 rest (framed x s.0 s.1 s.3) (more_items_within xs s.1 rest s.4))

  entries_within : (es : Entries) (ts rest : List Word) → SpellsEntries es ts rest → IsWithin CloseBrace ts rest
  entries_within no_entry ts rest s = within_end CloseBrace ts rest s
  entries_within (entry_and name at x es) ts rest s =
      within_name CloseBrace at name ts s.0 rest s.3 (within_mark CloseBrace Colon s.0 s.1 rest refl refl s.4
      (within_tree CloseBrace s.1 s.2 rest (framed x s.1 s.2 s.5) (more_entries_within es s.2 rest s.6)))

  more_entries_within : (es : Entries) (ts rest : List Word) → SpellsMoreEntries es ts rest
      → IsWithin CloseBrace ts rest
  more_entries_within no_entry ts rest (inl s) = within_end CloseBrace ts rest s
  more_entries_within no_entry ts rest (inr s) =
      within_mark CloseBrace Comma ts s.0 rest refl refl s.1 (within_end CloseBrace s.0 rest s.2)
  more_entries_within (entry_and name at x es) ts rest s =
      within_mark CloseBrace Comma ts s.0 rest refl refl s.4
      (within_name CloseBrace at name s.0 s.1 rest s.5 (within_mark CloseBrace Colon s.1 s.2 rest refl refl s.6
      (within_tree CloseBrace s.2 s.3 rest (framed x s.2 s.3 s.7) (more_entries_within es s.3 rest s.8))))

-- a name, and what stands behind it in a definition
framed_named : (at : Place) (name : List ℕ) (ts mid rest : List Word) → IsWord Ident at name ts mid
    → (f : IsFramed mid rest) → NoIdent f.front → IsFramed ts rest
framed_named at name ts mid rest is f starts =
    let n : Word = record { kind = Ident; at = at; text = name } in
    record {
      front = n ∷ f.front;
      split = is ∙ ap (λ l. n ∷ l) f.split;
      keeps = keeps_append (n ∷ []) f.front (keeps_word n refl refl) f.keeps;
      quiet = quiet_append (n ∷ []) f.front (keeps_word n refl refl) (quiet_word n) f.quiet starts;
      some = omega arith;
      ends = wants_behind n f.front f.some f.ends;
    }

framed_mark : (m : Punct) (ts mid rest : List Word) → wants_value (Mark m) ≡ true → opens_any (Mark m) ≡ false
    → closes_any (Mark m) ≡ false → IsMark m ts mid → IsFramed mid rest → (f : IsFramed ts rest) × NoIdent f.front
framed_mark m ts mid rest wants o c is f =
    let x : Word = record { kind = Mark m; at = is.0; text = is.1.0 } in (
      record {
        front = x ∷ f.front;
        split = is.1.1 ∙ ap (λ l. x ∷ l) f.split;
        keeps = keeps_append (x ∷ []) f.front (keeps_word x o c) f.keeps;
        quiet = quiet_wanting x f.front wants o c f.quiet;
        some = omega arith;
        ends = wants_behind x f.front f.some f.ends;
      },
      refl,
    )

pub framed_def : (d : Definition) (ts rest : List Word) → SpellsDef d ts rest → IsFramed ts rest
unfolding framed_bracket
framed_def (Assigns name at x) ts rest s =
    let f = framed_mark Equal s.0 s.1 rest refl refl refl s.3 (framed x s.1 rest s.4) in
    framed_named at name ts s.0 rest s.2.0 f.0 f.1
framed_def (Extends name at x) ts rest s =
    let f = framed_mark PlusEqual s.0 s.1 rest refl refl refl s.3 (framed x s.1 rest s.4) in
    framed_named at name ts s.0 rest s.2.0 f.0 f.1
framed_def (Declares kind at m) ts rest s =
    framed_named at kind ts s.0 rest s.1.0 (framed_bracket OpenBrace CloseBrace m.at s.2.1.0 s.0 s.2.0 rest
    (refl, refl, refl, refl) refl refl refl refl s.2.1.1 (entries_within m.entries s.2.0 rest s.2.2)) refl
