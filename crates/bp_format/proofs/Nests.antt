-- With a list in a hole no bracket is nested more deeply than before.
use Rattle.std.proofs.Common.{◌≡◌, ℕ, ◌+◌, true, List, [], ◌∷◌, ◌++◌, length, take, drop, sym, refl, ap, ◌∙◌, subst}
use Rattle.std.proofs.Common.{⊎_elim, arith, append_assoc, append-nil, take-append-drop}
use Rattle.std.specs.Prelude.{codes}
use Rattle.std.proofs.Math.Seq.{take-append_seam, drop-append_seam}
use Rattle.std.proofs.lemmas.Bool.{cond-true}
use Rattle.std.proofs.lemmas.List.{drop-drop}
use Rattle.bp_faults.specs.declared.limits.TheConstants.{DEEPEST_NESTING}
use Rattle.bp_lexer.specs.declared.token.Punct.TheVariants.{OpenBracket}
use Rattle.bp_lexer.specs.declared.token.TokenKind.TheVariants.{Punct as Mark}
use Rattle.bp_parser.specs.declared.flaw.Flaw.TheVariants.{TooNested}
use Rattle.bp_parser.specs.Trees.{Tree, Leaf, Items, Body, Sum, Truth, Number, Str, Name, Definition, File}
use Rattle.bp_parser.specs.Words.{Word}
use Rattle.bp_parser.specs.Grammar.{SpellsFile}
use Rattle.bp_parser.specs.Flaws.{IsTooNested, is_opening}
use Rattle.bp_parser.specs.Meaning.{IsTree}
use Rattle.bp_format.specs.declared.spot.Spot.{Spot}
use Rattle.bp_format.specs.declared.spot.Spot.TheVariants.{Instead, Behind}
use Rattle.bp_format.specs.Editing.{Wanted}
use Rattle.bp_format.proofs.Bits.{bit_words, list_bits, inner_bits, more_bits}
use Rattle.bp_format.proofs.Cuts.{same_front}
use Rattle.bp_format.proofs.Depth.{opened, shut, opened_append, shut_append, opened_cons, shut_cons, two_cuts, framed}
use Rattle.bp_format.proofs.Depth.{plain_atom, plain_counts}
use Rattle.bp_format.proofs.Holes.{IsHole, Files, SameDefs, lead_of, lead_words, plain_word}
use Rattle.bp_format.proofs.Located.{IsTreeAt}
use Rattle.bp_format.proofs.Reset.{new_words}

-- as many brackets are open before the word as may be, and it opens another
pub record IsDeep (ws a : List Word) (w : Word) (b : List Word) : Type 0 where
  pub split : ws ≡ a ++ w ∷ b
  pub opening : is_opening w.kind ≡ true
  pub deep : opened a ≡ shut a + DEEPEST_NESTING

-- the words of a file have no such word
deep_nested : (ws : List Word) (ds : List Definition) (a : List Word) (w : Word) (b : List Word) → SpellsFile ds ws
    → IsDeep ws a w b → IsTooNested ws (length a)
deep_nested ws ds a w b s is =
    let here : drop (length a) ws ≡ w ∷ b = ap (drop (length a)) is.split ∙ drop-append_seam a (w ∷ b) in
    let behind : b ≡ drop (length a + 1) ws = ap (drop 1) (sym here) ∙ drop-drop 1 (length a) ws in
    let front : take (length a) ws ≡ a = ap (take (length a)) is.split ∙ take-append_seam a (w ∷ b) in
    record {
      bracket = w;
      at = here ∙ ap (λ l. w ∷ l) behind;
      opening = is.opening;
      open_before = ap opened front ∙ is.deep ∙ ap (λ l. shut l + DEEPEST_NESTING) (sym front);
      expected = (drop (length a + 1) ws, ds, subst (SpellsFile ds) (sym (take-append-drop (length a + 1) ws)) s);
    }

nested_deep : (ws : List Word) (k : ℕ) → (n : IsTooNested ws k) → IsDeep ws (take k ws) n.bracket (drop (k + 1) ws)
nested_deep ws k n = record {
  split = sym (take-append-drop k ws) ∙ ap (λ l. take k ws ++ l) n.at;
  opening = n.opening;
  deep = n.open_before;
}

-- the words of a list have one bracket that opens
no_more_open : (xs : List (List ℕ)) → opened (bit_words (more_bits xs)) ≡ 0
no_more_open [] = refl
no_more_open (x ∷ xs) = no_more_open xs

no_inner_open : (xs : List (List ℕ)) → opened (bit_words (inner_bits xs)) ≡ 0
no_inner_open [] = refl
no_inner_open (x ∷ xs) = no_more_open xs

more_shut : (xs : List (List ℕ)) → shut (bit_words (more_bits xs)) ≡ 1
more_shut [] = refl
more_shut (x ∷ xs) = more_shut xs

inner_shut : (xs : List (List ℕ)) → shut (bit_words (inner_bits xs)) ≡ 1
inner_shut [] = refl
inner_shut (x ∷ xs) = more_shut xs

pub list_opened : (xs : List (List ℕ)) → opened (bit_words (list_bits xs)) ≡ 1
list_opened xs =
    opened_cons (plain_word (Mark OpenBracket) (codes "[")) (bit_words (inner_bits xs))
    ∙ ap (λ n. 1 + n) (no_inner_open xs)

pub list_shut : (xs : List (List ℕ)) → shut (bit_words (list_bits xs)) ≡ 1
list_shut xs = inner_shut xs

-- a word that opens, among words, is counted
counted_in : (m d : List Word) (w : Word) (e : List Word) → m ≡ d ++ w ∷ e → is_opening w.kind ≡ true
    → opened m ≡ opened d + (1 + opened e)
counted_in m d w e is o =
    ap opened is
    ∙ opened_append d (w ∷ e)
    ∙ ap (λ n. opened d + n) (opened_cons w e ∙ ap (λ n. n + opened e) (cond-true (is_opening w.kind) 1 0 o))

-- Where words p are followed by others, o then and m now, which close what they open, a deep word is in m or was deep.
deep_in : (p o m q a : List Word) (w : Word) (b : List Word) → opened o ≡ shut o → opened m ≡ shut m
    → IsDeep (p ++ (m ++ q)) a w b
    → ((a' b' : List Word) → IsDeep (p ++ (o ++ q)) a' w b' → ⊥) → ((d e : List Word) → m ≡ d ++ w ∷ e → a ≡ p ++ d → ⊥)
    → ⊥
deep_in p o m q a w b old new deep before inside =
    ⊎_elim (λ c. in_front c.0 c.1 c.2) (λ c. behind c.0 c.1 c.2) (two_cuts p (m ++ q) a (w ∷ b) deep.split)
  where
    far : (d : List Word) → a ≡ p ++ d → (e : List Word) → d ≡ m ++ e → q ≡ e ++ w ∷ b → ⊥
    far d at e is rest =
        before (p ++ (o ++ e)) b (record {
          split =
              ap (λ l. p ++ (o ++ l)) rest
              ∙ ap (λ l. p ++ l) (sym (append_assoc o e (w ∷ b)))
              ∙ sym (append_assoc p (o ++ e) (w ∷ b));
          opening = deep.opening;
          deep = omega (
            arith,
            deep.deep,
            old,
            new,
            ap opened at,
            ap shut at,
            ap opened is,
            ap shut is,
            opened_append p d,
            shut_append p d,
            opened_append m e,
            shut_append m e,
            opened_append p (o ++ e),
            shut_append p (o ++ e),
            opened_append o e,
            shut_append o e,
          );
        })

    behind : (d : List Word) → a ≡ p ++ d → m ++ q ≡ d ++ w ∷ b → ⊥
    behind d at is = ⊎_elim (λ c. within c.0 c.1 c.2) (λ c. far d at c.0 c.1 c.2) (two_cuts m q d (w ∷ b) is) where
      within : (e : List Word) → m ≡ d ++ e → w ∷ b ≡ e ++ q → ⊥
      within [] here rest = far d at [] (sym (here ∙ append-nil d) ∙ sym (append-nil m)) (sym rest)
      within (x ∷ e) here rest =
          let same : w ≡ x = cc in
          inside d e (here ∙ ap (λ v. d ++ v ∷ e) (sym same)) at

    in_front : (d : List Word) → p ≡ a ++ d → w ∷ b ≡ d ++ (m ++ q) → ⊥
    in_front [] here rest = behind [] (sym (here ∙ append-nil a) ∙ sym (append-nil p)) (sym rest)
    in_front (x ∷ d) here rest =
        let same : w ≡ x = cc in
        before a (d ++ (o ++ q)) (record {
          split = ap (λ l. l ++ (o ++ q)) (here ∙ ap (λ v. a ++ v ∷ d) (sym same)) ∙ append_assoc a (w ∷ d) (o ++ q);
          opening = deep.opening;
          deep = deep.deep;
        })

-- no word is too deep with the new list, since none was before
pub shallow : (w : Wanted) (place : Spot) (x : Tree) (new : Tree → List Definition) (ws : List Word) (tree : File)
    → IsTree ws tree → IsTreeAt place x → (h : IsHole Files SameDefs new x (lead_of w.property place) 1 ws []) → (k : ℕ)
    → IsTooNested (new_words w place h.before h.kept h.after) k → ⊥
shallow w (Instead at) (Items p xs) new ws tree is same h k nested =
    let f = framed (Items p xs) h.here h.after h.old in
    let list = bit_words (list_bits w.items) in
    let now : new_words w (Instead at) h.before h.kept h.after ≡ h.before ++ (list ++ h.after) =
    ap (λ l. h.before ++ (l ++ (list ++ h.after))) h.keeps in
    let old : ws ≡ h.before ++ (f.front ++ h.after) = h.split ∙ ap (λ l. h.before ++ l) f.split in
    let d = nested_deep _ k nested in
    let deep : IsDeep (h.before ++ (list ++ h.after)) (take k (new_words w (Instead at) h.before h.kept h.after))
    nested.bracket (drop (k + 1) (new_words w (Instead at) h.before h.kept h.after)) =
    record { split = sym now ∙ d.split; opening = d.opening; deep = d.deep } in
    let none : (a b : List Word) (v : Word) → IsDeep ws a v b → ⊥ =
    λ a b v e. is.sound (TooNested (length a)) (deep_nested ws tree.defs a v b is.spelled e) in
    deep_in h.before f.front list h.after _ nested.bracket _ f.keeps.counts
    (list_opened w.items ∙ sym (list_shut w.items)) deep
    (λ a b e. none a b nested.bracket (record { split = old ∙ e.split; opening = e.opening; deep = e.deep }))
    (λ c e here at. first c e here at d.deep
    (λ deep. none h.before h.old.0 (record { kind = Mark OpenBracket; at = p; text = h.old.1.0 })
    (record { split = h.split ∙ ap (λ l. h.before ++ l) h.old.1.1; opening = refl; deep = deep })))
  where
    first : (c e : List Word) → bit_words (list_bits w.items) ≡ c ++ nested.bracket ∷ e
        → take k (new_words w (Instead at) h.before h.kept h.after) ≡ h.before ++ c
        → opened (take k (new_words w (Instead at) h.before h.kept h.after))
        ≡ shut (take k (new_words w (Instead at) h.before h.kept h.after)) + DEEPEST_NESTING
        → (opened h.before ≡ shut h.before + DEEPEST_NESTING → ⊥) → ⊥
    first [] e here at deep known =
        known (ap opened (sym (append-nil h.before) ∙ sym at) ∙ deep
        ∙ ap (λ l. shut l + DEEPEST_NESTING) (at ∙ append-nil h.before))
    first (v ∷ c) e here at deep known =
        let inner : bit_words (inner_bits w.items) ≡ c ++ nested.bracket ∷ e = cc in
        absurd (omega (
          arith,
          no_inner_open w.items,
          counted_in (bit_words (inner_bits w.items)) c nested.bracket e inner nested.opening,
        ))
shallow w (Behind at) (Leaf p (Str t)) new ws tree is same h k nested =
    let list = bit_words (list_bits w.items) in
    let lead = lead_words w.property in
    let front = h.before ++ h.kept in
    let put = lead ++ list in
    let now : new_words w (Behind at) h.before h.kept h.after ≡ front ++ (put ++ h.after) =
    sym (append_assoc h.before h.kept (lead ++ (list ++ h.after))) in
    let old : ws ≡ front ++ ([] ++ h.after) =
    h.split ∙ ap (λ l. h.before ++ l) h.keeps ∙ sym (append_assoc h.before h.kept h.after) in
    let word : Word = record { kind = h.old.0; at = p; text = h.old.1 } in
    let kept : h.kept ≡ word ∷ [] = same_front h.kept (word ∷ []) h.after (sym h.keeps ∙ h.old.2) in
    let plain = plain_atom h.old.0 h.old.1 (Str t) h.old.3 in
    let zero = plain_counts word plain.0 plain.1 in
    let d = nested_deep _ k nested in
    let deep : IsDeep (front ++ (put ++ h.after)) (take k (new_words w (Behind at) h.before h.kept h.after))
    nested.bracket (drop (k + 1) (new_words w (Behind at) h.before h.kept h.after)) =
    record { split = sym now ∙ d.split; opening = d.opening; deep = d.deep } in
    let put_opened : opened put ≡ 1 = list_opened w.items in
    let put_shut : shut put ≡ 1 = list_shut w.items in
    deep_in front [] put h.after _ nested.bracket _ refl (put_opened ∙ sym put_shut) deep
    (λ a b e. is.sound (TooNested (length a)) (deep_nested ws tree.defs a nested.bracket b is.spelled
    (record { split = old ∙ e.split; opening = e.opening; deep = e.deep })))
    (λ c e here at. omega (
      arith,
      d.deep,
      ap opened at,
      ap shut at,
      opened_append front c,
      shut_append front c,
      opened_append h.before h.kept,
      shut_append h.before h.kept,
      h.open_before,
      ap opened kept,
      ap shut kept,
      opened_cons word [],
      shut_cons word [],
      zero.0,
      zero.1,
      counted_in put c nested.bracket e here nested.opening,
      put_opened,
    ))
shallow w (Instead at) (Leaf p a) new ws tree is same h k nested = absurd same
shallow w (Instead at) (Body p es) new ws tree is same h k nested = absurd same
shallow w (Instead at) (Sum x terms) new ws tree is same h k nested = absurd same
shallow w (Behind at) (Leaf p (Truth b)) new ws tree is same h k nested = absurd same
shallow w (Behind at) (Leaf p (Number n)) new ws tree is same h k nested = absurd same
shallow w (Behind at) (Leaf p (Name n)) new ws tree is same h k nested = absurd same
shallow w (Behind at) (Items p xs) new ws tree is same h k nested = absurd same
shallow w (Behind at) (Body p es) new ws tree is same h k nested = absurd same
shallow w (Behind at) (Sum x terms) new ws tree is same h k nested = absurd same
