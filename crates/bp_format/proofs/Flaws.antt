-- Like words have a tree that is the same but for places, and the same flaws.
use Rattle.std.proofs.Common.{◌≡◌, ℕ, zero, suc, ◌+◌, ◌<◌, Bool, cond, List, [], ◌∷◌, ◌++◌, length, take, drop, sym}
use Rattle.std.proofs.Common.{refl, ap, ◌∙◌, subst, arith, length-drop}
use Rattle.std.specs.List.{count_by, Contains, fold}
use Rattle.std.proofs.Math.Seq.{drop-append_seam}
use Rattle.std.proofs.lemmas.List.{drop-drop, drop-map, length-map, map-append}
use Rattle.bp_faults.specs.declared.place.Place.{Place}
use Rattle.bp_faults.specs.declared.limits.TheConstants.{DEEPEST_NESTING}
use Rattle.bp_lexer.specs.declared.token.Punct.TheVariants.{OpenBrace, Colon, Comma}
use Rattle.bp_lexer.specs.declared.token.TokenKind.{TokenKind}
use Rattle.bp_lexer.specs.declared.token.TokenKind.TheVariants.{Ident, Punct as Mark}
use Rattle.bp_parser.specs.Trees.{Tree, Entries, no_entry, entry_and, Definition, File}
use Rattle.bp_parser.specs.Words.{Word}
use Rattle.bp_parser.specs.Grammar.{SpellsDef, SpellsFile}
use Rattle.bp_parser.specs.Flaws.{BeginsAFile, IsUnexpected, IsTooNested, IsRepeated, IsDuplicate, IsFlaw, SpellsFirst}
use Rattle.bp_parser.specs.Flaws.{is_opening, closes}
use Rattle.bp_parser.specs.Names.{entry_names}
use Rattle.bp_parser.specs.declared.flaw.Flaw.{Flaw}
use Rattle.bp_parser.specs.declared.flaw.Flaw.TheVariants.{Unexpected, TooNested, Duplicate}
use Rattle.bp_parser.specs.Meaning.{IsTree, number_of_file}
use Rattle.bp_format.specs.WithoutPlaces.{entries_without_places, definitions_without_places, word_content}
use Rattle.bp_format.specs.WithoutPlaces.{word_contents, origin}
use Rattle.bp_format.proofs.Frames.{Alike, Moves, alike_parts, both, change, mark, word, moves, moves_def, no_word}
use Rattle.bp_format.proofs.Frames.{SameEntries}

-- the definitions of like words
pub file_moves : (ds : List Definition) (ts us : List Word) → SpellsFile ds ts → Alike ts us
    → (es : List Definition) × SpellsFile es us × (definitions_without_places ds ≡ definitions_without_places es)
file_moves [] ts us s same = ([], no_word us (subst (λ l. Alike l us) s same), refl)
file_moves (d ∷ ds) ts us s same =
    let m = moves_def d ts s.0 s.1 in
    let p = alike_parts m.front s.0 us (sym (ap word_contents m.split) ∙ same) in
    let e = m.again p.0 p.3 in
    let es = file_moves ds s.0 p.1 s.2 p.4 in
    (e.0 ∷ es.0, (p.1, subst (λ l. SpellsDef e.0 l p.1) (sym p.2) (e.2 p.1), es.1), λ i. e.1 i ∷ es.2 i)

-- those that are a file's begin like those that are
alike_append : (a b c : List Word) → Alike a b → Alike (a ++ c) (b ++ c)
alike_append a b c same =
    map-append word_content a c ∙ ap (λ l. l ++ word_contents c) same ∙ sym (map-append word_content b c)

begins_alike : (a b : List Word) → Alike a b → BeginsAFile a → BeginsAFile b
begins_alike a b same s =
    let m = file_moves s.1 (a ++ s.0) (b ++ s.0) s.2 (alike_append a b s.0 same) in
    (s.0, m.0, m.1)

alike_take : (k : ℕ) (a b : List Word) → Alike a b → Alike (take k a) (take k b)
alike_take zero a b same = refl
alike_take (suc k) [] [] same = refl
alike_take (suc k) [] (y ∷ b) same = absurd cc
alike_take (suc k) (x ∷ a) [] same = absurd cc
alike_take (suc k) (x ∷ a) (y ∷ b) same =
    let head : word_content x ≡ word_content y = cc in
    let rest : Alike a b = cc in
    (λ i. head i ∷ alike_take k a b rest i)

alike_drop : (k : ℕ) (a b : List Word) → Alike a b → Alike (drop k a) (drop k b)
alike_drop k a b same = sym (drop-map word_content k a) ∙ ap (drop k) same ∙ drop-map word_content k b

alike_length : (a b : List Word) → Alike a b → length a ≡ length b
alike_length a b same = sym (length-map a word_content) ∙ ap length same ∙ length-map b word_content

alike_sym : (a b : List Word) → Alike a b → Alike b a
alike_sym a b same = sym same

unexpected_alike : (a b : List Word) (k : ℕ) → Alike a b → IsUnexpected a k → IsUnexpected b k
unexpected_alike a b k same is = record {
  within = omega (arith, is.within, alike_length a b same);
  before = begins_alike (take k a) (take k b) (alike_take k a b same) is.before;
  word =
      λ below begun. is.word (omega (arith, alike_length a b same))
      (begins_alike (take (k + 1) b) (take (k + 1) a) (sym (alike_take (k + 1) a b same)) begun);
  end = λ at ds s.
      let m = file_moves ds b a s (sym same) in
      is.end (at ∙ sym (alike_length a b same)) m.0 m.1;
}

fold_alike : (p : TokenKind → Bool) (n : ℕ) (a b : List Word) → Alike a b
    → fold (λ s (w : Word). s + cond (p w.kind) 1 0) n a ≡ fold (λ s (w : Word). s + cond (p w.kind) 1 0) n b
fold_alike p n [] [] same = refl
fold_alike p n [] (y ∷ b) same = absurd cc
fold_alike p n (x ∷ a) [] same = absurd cc
fold_alike p n (x ∷ a) (y ∷ b) same =
    let head : word_content x ≡ word_content y = cc in
    let rest : Alike a b = cc in
    fold_alike p (n + cond (p x.kind) 1 0) a b rest
    ∙ ap (λ k. fold (λ s (w : Word). s + cond (p w.kind) 1 0) (n + cond (p k) 1 0) b) (ap (λ q. q.0) head)

count_alike : (p : TokenKind → Bool) (a b : List Word) → Alike a b
    → count_by (λ (w : Word). p w.kind) a ≡ count_by (λ (w : Word). p w.kind) b
count_alike p a b same = fold_alike p 0 a b same

-- like words have a like first word, and like ones behind it
first_alike : (w : Word) (rest b : List Word) → Alike (w ∷ rest) b
    → (v : Word) × (more : List Word) × (b ≡ v ∷ more) × (word_content w ≡ word_content v) × Alike rest more
first_alike w rest [] same = absurd cc
first_alike w rest (v ∷ more) same =
    let head : word_content w ≡ word_content v = cc in
    let behind : Alike rest more = cc in
    (v, more, refl, head, behind)

-- behind the first of those from k on stand those from k + 1 on
behind_first : (b : List Word) (k : ℕ) (v : Word) (more : List Word) → drop k b ≡ v ∷ more → more ≡ drop (k + 1) b
behind_first b k v more is = ap (drop 1) (sym is) ∙ drop-drop 1 k b

nested_alike : (a b : List Word) (k : ℕ) → Alike a b → IsTooNested a k → IsTooNested b k
nested_alike a b k same is =
    let f = first_alike is.bracket (drop (k + 1) a) (drop k b) (sym (ap word_contents is.at) ∙ alike_drop k a b same) in
    let kind : is.bracket.kind ≡ f.0.kind = ap (λ p. p.0) f.3 in
    record {
      bracket = f.0;
      at = f.2 ∙ ap (λ l. f.0 ∷ l) (behind_first b k f.0 f.1 f.2);
      opening = sym (ap is_opening kind) ∙ is.opening;
      open_before =
          sym (count_alike is_opening (take k a) (take k b) (alike_take k a b same))
          ∙ is.open_before
          ∙ ap (λ n. n + DEEPEST_NESTING) (count_alike closes (take k a) (take k b) (alike_take k a b same));
      expected = begins_alike (take (k + 1) a) (take (k + 1) b) (alike_take (k + 1) a b same) is.expected;
    }

-- entries of like words, each with a comma behind it
abbrev First : Entries → List Word → List Word → Type 0
First es ts rest = SpellsFirst es ts rest

first_moves : (es : Entries) (ts rest : List Word) → SpellsFirst es ts rest → Moves First SameEntries es ts rest
first_moves no_entry ts rest s = record {
  front = [];
  split = s;
  again = λ us alike. (no_entry, refl, λ other. ap (λ l. l ++ other) (no_word us alike));
}
first_moves (entry_and name at x es) ts rest s =
    change (λ (p : Place × (Place × (Tree × (Place × Entries)))). entry_and name p.0 p.1.1.0 p.1.1.1.1)
    (λ y e. (λ i. entry_and name origin (e.1.1.0 i) (e.1.1.1.1 i)))
    (λ y e us other r.
    (r.0, r.2.0, r.2.2.0, r.2.2.2.0, r.1, (y.1.0, r.2.1), r.2.2.1, (y.1.1.1.0, r.2.2.2.1), r.2.2.2.2))
    (both (word Ident at name ts s.0 s.4) (both (mark Colon s.5.0 s.0 s.1 s.5.1)
    (both (moves x s.1 s.2 s.6) (both (mark Comma s.7.0 s.2 s.3 s.7.1) (first_moves es s.3 rest s.8)))))

pub names_bare : (es : Entries) → entry_names (entries_without_places es) ≡ entry_names es
names_bare no_entry = refl
names_bare (entry_and name at x es) = ap (λ l. name ∷ l) (names_bare es)

-- two suffixes that are as long are one
one_suffix : (b v : List Word) (n k : ℕ) → v ≡ drop n b → length v ≡ length (drop k b) → 0 < length v → v ≡ drop k b
one_suffix b v n k is len some =
    let same : n ≡ k = omega (arith, ap length is, length-drop n b, length-drop k b) in
    is ∙ ap (λ i. drop i b) same

repeated_alike : (a b : List Word) (k : ℕ) → Alike a b → IsRepeated a k → IsRepeated b k
repeated_alike a b k same is =
    let o = first_alike (record { kind = Mark OpenBrace; at = is.opened.0; text = is.opened.1.0 }) is.inner
    (drop is.brace b) (sym (ap word_contents is.opened.1.1) ∙ alike_drop is.brace a b same) in
    let kind : o.0.kind ≡ Mark OpenBrace = sym (ap (λ p. p.0) o.3) in
    let m = first_moves is.before is.inner (drop k a) is.spelled in
    let p = alike_parts m.front (drop k a) o.1 (sym (ap word_contents m.split) ∙ o.4) in
    let e = m.again p.0 p.3 in
    let inner : o.1 ≡ drop (is.brace + 1) b = behind_first b is.brace o.0 o.1 o.2 in
    let behind : p.1 ≡ drop (is.brace + 1 + length p.0) b =
    sym (drop-append_seam p.0 p.1)
    ∙ ap (drop (length p.0)) (sym p.2 ∙ inner)
    ∙ drop-drop (length p.0) (is.brace + 1) b in
    let w = first_alike (record { kind = Ident; at = is.place; text = is.name }) (drop (k + 1) a) p.1
    (sym (ap word_contents is.at) ∙ p.4) in
    let rest : p.1 ≡ drop k b =
    one_suffix b p.1 (is.brace + 1 + length p.0) k behind (sym (alike_length (drop k a) p.1 p.4)
    ∙ alike_length (drop k a) (drop k b) (alike_drop k a b same)) (omega (arith, ap length w.2)) in
    let here : drop k b ≡ w.0 ∷ w.1 = sym rest ∙ w.2 in
    record {
      brace = is.brace;
      inner = o.1;
      opened = (o.0.at, (o.0.text, o.2 ∙ (λ i. record { kind = kind i; at = o.0.at; text = o.0.text } ∷ o.1)));
      before = e.0;
      spelled = subst (λ l. SpellsFirst e.0 o.1 l) rest (subst (λ l. SpellsFirst e.0 l p.1) (sym p.2) (e.2 p.1));
      name = is.name;
      place = w.0.at;
      at =
          here
          ∙ (λ i. record { kind = (sym w.3 i).0; at = w.0.at; text = (sym w.3 i).1 } ∷ behind_first b k w.0 w.1 here i);
      again =
          subst (λ l. Contains l is.name) (sym (names_bare is.before) ∙ ap entry_names e.1 ∙ names_bare e.0) is.again;
    }

duplicate_alike : (a b : List Word) (k : ℕ) → Alike a b → IsDuplicate a k → IsDuplicate b k
duplicate_alike a b k same is = record {
  repeated = repeated_alike a b k same is.repeated;
  expected = begins_alike (take (k + 1) a) (take (k + 1) b) (alike_take (k + 1) a b same) is.expected;
}

flaw_alike : (a b : List Word) (flaw : Flaw) → Alike a b → IsFlaw a flaw → IsFlaw b flaw
flaw_alike a b (Unexpected k) same is = unexpected_alike a b k same is
flaw_alike a b (TooNested k) same is = nested_alike a b k same is
flaw_alike a b (Duplicate k) same is = duplicate_alike a b k same is

-- Like words have a tree that is the same but for places.
pub tree_alike : (a b : List Word) (tree : File) → Alike a b → IsTree a tree
    → (other : File) × IsTree b other × (definitions_without_places tree.defs ≡ definitions_without_places other.defs)
tree_alike a b tree same is =
    let m = file_moves tree.defs a b is.spelled same in (
      record { file = number_of_file b; defs = m.0 },
      record { file = refl; spelled = m.1; sound = λ flaw wrong. is.sound flaw (flaw_alike b a flaw (sym same) wrong) },
      m.2,
    )
