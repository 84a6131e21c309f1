-- The tree of an edited text is that of the text with the list set, but for places.
use Rattle.std.proofs.Common.{◌≡◌, ℕ, List, sym, ap, ◌∙◌, subst}
use Rattle.std.specs.Prelude.{IsUtf8}
use Rattle.std.specs.List.{All}
use Rattle.bp_lexer.specs.declared.token.Token.{Token}
use Rattle.bp_lexer.specs.declared.token.TokenKind.TheVariants.{Ident}
use Rattle.bp_lexer.specs.Forms.{IsForm}
use Rattle.bp_lexer.specs.Meaning.{IsTokenList}
use Rattle.bp_parser.specs.Laws.{OneTree, SpelledDefinitionsAreTrees, TreesHaveDistinctNames}
use Rattle.bp_parser.specs.Meaning.{IsTree, number_of_file}
use Rattle.bp_parser.specs.Trees.{File, Definition}
use Rattle.bp_parser.specs.Words.{words_of}
use Rattle.bp_format.specs.WithoutPlaces.{definitions_without_places}
use Rattle.bp_format.specs.Editing.{Wanted, IsEdited}
use Rattle.bp_format.specs.Setting.{list_expression, set_in}
use Rattle.bp_format.proofs.Bits.{bit_words, list_bits, list_spelled}
use Rattle.bp_format.proofs.Distinct.{set_distinct, distinct_alike}
use Rattle.bp_format.proofs.Flaws.{tree_alike}
use Rattle.bp_format.proofs.Lexing.{Lexing}
use Rattle.bp_format.proofs.Nests.{shallow}
use Rattle.bp_format.proofs.Reset.{new_words, reset}

-- the laws of the parser that are used here
pub record Parsing : Type 0 where
  pub one_tree : OneTree
  pub distinct : TreesHaveDistinctNames
  pub trees : SpelledDefinitionsAreTrees

-- the new text has a tree, which is this one but for places
abbrev pub HasTree : ℕ → List ℕ → List Definition → Type 0
HasTree file out ds =
    (us : List Token) × IsTokenList file out us × (other : File) × IsTree (words_of out us) other
    × (definitions_without_places other.defs ≡ definitions_without_places ds)

set_tree : Lexing → Parsing → (file : ℕ) (text out : List ℕ) (w : Wanted) → IsForm Ident w.property → All IsUtf8 w.items
    → (e : IsEdited file text w out) → HasTree file out (set_in w e.read.tree.defs)
set_tree lex law file text out w name items e =
    let r = reset lex file text out w name e in
    let h = r.set.hole in
    let list = bit_words (list_bits w.items) in
    let ws = new_words w r.place h.before h.kept h.after in
    let ds = set_in w e.read.tree.defs in
    let put = h.put (list_expression w.items) list (list_spelled w.items h.after items) in
    let same : definitions_without_places ds ≡ definitions_without_places put.0 =
    ap definitions_without_places (sym r.set.is) ∙ put.1 in
    let distinct = distinct_alike ds put.0 same
    (set_distinct w e.read.tree.defs (law.distinct (words_of text e.read.tokens) e.read.tree e.read.parsed)) in
    let parsed = law.trees ws put.0 put.2 distinct
    (shallow w r.place r.set.value r.set.new (words_of text e.read.tokens) e.read.tree e.read.parsed r.set.at h) in
    let t = tree_alike ws (words_of out r.tokens) (record { file = number_of_file ws; defs = put.0 }) r.alike parsed in
    (r.tokens, r.listed, t.0, t.1, sym t.2 ∙ sym same)

pub edits_set_lists : Lexing → Parsing → (file : ℕ) (text out : List ℕ) (w : Wanted) (ts : List Token) (tree : File)
    → IsForm Ident w.property → All IsUtf8 w.items → IsEdited file text w out → IsTokenList file text ts
    → IsTree (words_of text ts) tree → HasTree file out (set_in w tree.defs)
edits_set_lists lex law file text out w ts tree name items e listed parsed =
    let tokens : ts ≡ e.read.tokens = lex.one_list file text ts e.read.tokens listed e.read.listed in
    let same : tree ≡ e.read.tree = law.one_tree (words_of text e.read.tokens) tree e.read.tree
    (subst (λ l. IsTree (words_of text l) tree) tokens parsed) e.read.parsed in
    subst (λ (t : File). HasTree file out (set_in w t.defs)) (sym same) (set_tree lex law file text out w name items e)
