-- A text with its tokens has at most one meaning.
use Rattle.std.proofs.Common.{◌≡◌, ℕ, ◌+◌, ◌<◌, ◌≤◌, length, take, drop, arith, List, ◌∷◌, ◌++◌, Result, Ok, Err, sym}
use Rattle.std.proofs.Common.{ap, ◌∙◌, subst, ⊎_elim, append_assoc, take-append-drop, length-drop}
use Rattle.std.proofs.lemmas.Bool.{cases_order, cases_lt}
use Rattle.std.proofs.lemmas.List.{take-take}
use Rattle.bp_faults.specs.declared.fault.Fault.{Fault}
use Rattle.bp_lexer.specs.declared.token.Token.{Token}
use Rattle.bp_lexer.specs.declared.token.TokenKind.TheVariants.{Ident}
use Rattle.bp_parser.specs.declared.flaw.Flaw.{Flaw}
use Rattle.bp_parser.specs.declared.flaw.Flaw.TheVariants.{Unexpected, TooNested, Duplicate}
use Rattle.bp_parser.specs.Trees.{Definition, File}
use Rattle.bp_parser.specs.Words.{Word, words_of}
use Rattle.bp_parser.specs.Grammar.{SpellsFile}
use Rattle.bp_parser.specs.Flaws.{BeginsAFile, IsUnexpected, IsTooNested, IsDuplicate, IsFlaw, index_of, IsFirstFlaw}
use Rattle.bp_parser.specs.Flaws.{is_opening}
use Rattle.bp_parser.specs.Meaning.{IsTree, IsFirstParseFault, ParseMeans, parse_fault}
use Rattle.bp_parser.proofs.Firsts.{same_head, true_false}
use Rattle.bp_parser.proofs.OneTree.{one_file}

-- what begins a file begins so too
pub shorter : (ws : List Word) (j k : ℕ) → j ≤ k → BeginsAFile (take k ws) → BeginsAFile (take j ws)
shorter ws j k le b =
    let front = take j ws in
    let cut : front ++ drop j (take k ws) ≡ take k ws =
    ap (λ l. l ++ drop j (take k ws)) (sym (take-take j k ws le)) ∙ take-append-drop j (take k ws) in (
      drop j (take k ws) ++ b.0,
      b.1,
      subst (SpellsFile b.1) (ap (λ l. l ++ b.0) (sym cut) ∙ append_assoc front (drop j (take k ws)) b.0) b.2,
    )

file_begins : (ws : List Word) (ds : List Definition) (k : ℕ) → SpellsFile ds ws → BeginsAFile (take k ws)
file_begins ws ds k s = (drop k ws, ds, subst (SpellsFile ds) (sym (take-append-drop k ws)) s)

pub tree_or_unexpected : (ws : List Word) (ds : List Definition) (k : ℕ) → SpellsFile ds ws → IsUnexpected ws k → ⊥
tree_or_unexpected ws ds k s fault =
    ⊎_elim
    (λ below. fault.word below (file_begins ws ds (k + 1) s))
    (λ past. fault.end (omega (arith, fault.within)) ds s)
    (cases_lt k (length ws))

pub one_tree : (ws : List Word) (a b : File) → IsTree ws a → IsTree ws b → a ≡ b
one_tree ws a b s t =
    let file = s.file ∙ sym t.file in
    let defs = one_file a.defs b.defs ws s.spelled t.spelled in
    λ i. record { file = file i; defs = defs i }

-- a word that stands at k
pub in_range : (ws rest : List Word) (w : Word) (k : ℕ) → drop k ws ≡ w ∷ rest → k < length ws
in_range ws rest w k is = omega (arith, ap length is, length-drop k ws)

-- the three kinds exclude each other at one word

unexpected_apart : (ws : List Word) (k : ℕ) → k < length ws → BeginsAFile (take (k + 1) ws) → IsUnexpected ws k → ⊥
unexpected_apart ws k below expected f = f.word below expected

bracket_or_name : (ws : List Word) (k : ℕ) → IsTooNested ws k → IsDuplicate ws k → ⊥
bracket_or_name ws k f g =
    let e = same_head f.bracket (record { kind = Ident; at = g.repeated.place; text = g.repeated.name })
    (drop (k + 1) ws) (drop (k + 1) ws) (sym f.at ∙ g.repeated.at) in
    true_false (sym f.opening ∙ ap (λ (w : Word). is_opening w.kind) e.0)

pub nested_range : (ws : List Word) (k : ℕ) → IsTooNested ws k → k < length ws
nested_range ws k f = in_range ws (drop (k + 1) ws) f.bracket k f.at

pub duplicate_range : (ws : List Word) (k : ℕ) → IsDuplicate ws k → k < length ws
duplicate_range ws k f =
    in_range ws (drop (k + 1) ws)
    (record { kind = Ident; at = f.repeated.place; text = f.repeated.name }) k f.repeated.at

one_kind : (ws : List Word) (a b : Flaw) → index_of a ≡ index_of b → IsFlaw ws a → IsFlaw ws b → a ≡ b
one_kind ws (Unexpected j) (Unexpected k) same f g = ap Unexpected same
one_kind ws (Unexpected j) (TooNested k) same f g =
    absurd (unexpected_apart ws k (nested_range ws k g) g.expected (subst (IsUnexpected ws) same f))
one_kind ws (Unexpected j) (Duplicate k) same f g =
    absurd (unexpected_apart ws k (duplicate_range ws k g) g.expected (subst (IsUnexpected ws) same f))
one_kind ws (TooNested j) (Unexpected k) same f g =
    absurd (unexpected_apart ws j (nested_range ws j f) f.expected (subst (IsUnexpected ws) (sym same) g))
one_kind ws (TooNested j) (TooNested k) same f g = ap TooNested same
one_kind ws (TooNested j) (Duplicate k) same f g = absurd (bracket_or_name ws k (subst (IsTooNested ws) same f) g)
one_kind ws (Duplicate j) (Unexpected k) same f g =
    absurd (unexpected_apart ws j (duplicate_range ws j f) f.expected (subst (IsUnexpected ws) (sym same) g))
one_kind ws (Duplicate j) (TooNested k) same f g = absurd (bracket_or_name ws j (subst (IsTooNested ws) (sym same) g) f)
one_kind ws (Duplicate j) (Duplicate k) same f g = ap Duplicate same

one_flaw : (ws : List Word) (a b : Flaw) → IsFirstFlaw ws a → IsFirstFlaw ws b → a ≡ b
one_flaw ws a b f g =
    ⊎_elim (λ same. one_kind ws a b same f.0 g.0) (λ apart. ⊎_elim
    (λ before. absurd (g.1 a before f.0))
    (λ after. absurd (f.1 b after g.0))
    apart) (cases_order (index_of a) (index_of b))

pub one_fault : (text : List ℕ) (ws : List Word) (a b : Fault) → IsFirstParseFault text ws a
    → IsFirstParseFault text ws b → a ≡ b
one_fault text ws a b f g = f.2 ∙ ap (parse_fault text ws) (one_flaw ws f.0 g.0 f.1 g.1) ∙ sym g.2

pub tree_or_fault : (text : List ℕ) (ws : List Word) (tree : File) (fault : Fault) → IsTree ws tree
    → IsFirstParseFault text ws fault → ⊥
tree_or_fault text ws tree fault s f = s.sound f.0 f.1.0

pub one_meaning : (text : List ℕ) (ts : List Token) (a b : Result File Fault) → ParseMeans text ts a
    → ParseMeans text ts b → a ≡ b
one_meaning text ts (Ok a) (Ok b) s t = ap Ok (one_tree (words_of text ts) a b s t)
one_meaning text ts (Ok a) (Err fault) s t = absurd (tree_or_fault text (words_of text ts) a fault s t)
one_meaning text ts (Err fault) (Ok b) s t = absurd (tree_or_fault text (words_of text ts) b fault t s)
one_meaning text ts (Err f) (Err g) s t = ap Err (one_fault text (words_of text ts) f g s t)
