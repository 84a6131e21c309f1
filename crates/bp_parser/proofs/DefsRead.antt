-- What the functions that read definitions and files owe, on lists.
use Rattle.std.proofs.Common.{◌≡◌, ℕ, zero, suc, ◌+◌, ◌<◌, length, drop, get_or, arith, length-drop, List, [], ◌∷◌}
use Rattle.std.proofs.Common.{◌++◌, map, true, false, not, Some, None, sym, refl, ap, ◌∙◌, subst}
use Rattle.std.specs.List.{list_any}
use Rattle.std.proofs.lemmas.Bool.{cond-true, cond-false, or_parts}
use Rattle.std.proofs.lemmas.List.{length-map}
use Rattle.std.proofs.lemmas.List.Elements.{All-filter}
use Rattle.bp_faults.specs.declared.place.Place.{Place}
use Rattle.bp_lexer.specs.declared.token.Punct.{Punct}
use Rattle.bp_lexer.specs.declared.token.Punct.TheVariants.{OpenBrace, Equal, PlusEqual}
use Rattle.bp_lexer.specs.declared.token.Token.{Token}
use Rattle.bp_lexer.specs.declared.token.TokenKind.TheVariants.{Ident}
use Rattle.bp_lexer.specs.Meaning.{IsToken}
use Rattle.bp_lexer.specs.Laws.{ListsHaveTokens}
use Rattle.bp_parser.specs.declared.flaw.Flaw.{Flaw}
use Rattle.bp_parser.specs.declared.flaw.Flaw.TheVariants.{Unexpected}
use Rattle.bp_parser.specs.declared.stop.Stop.{Stop}
use Rattle.bp_parser.specs.declared.stop.Stop.TheVariants.{Bad, OutOfMemory}
use Rattle.bp_parser.specs.Trees.{Definition}
use Rattle.bp_parser.specs.Words.{Word, as_word, all_words, is_comment, without_comments, is_truth}
use Rattle.bp_parser.specs.Grammar.{IsMark, IsDefName, SpellsFile}
use Rattle.bp_parser.specs.Flaws.{IsFirstFlaw}
use Rattle.bp_parser.specs.Machine.{Part, an_expr, entries, a_value, stuck, StartsNot, StopsWith, DefsGoOn}
use Rattle.bp_parser.specs.Machine.{DefsStopWith}
use Rattle.bp_parser.specs.Meaning.{AreTokensOf, IsTree, number_of_file}
use Rattle.bp_parser.specs.Reading.{AreTokens, IsTokenAt}
use Rattle.bp_parser.proofs.Firsts.{same_head, nil_cons}
use Rattle.bp_parser.proofs.Steps.{pass, pass_mark, def_stop}
use Rattle.bp_parser.proofs.FirstFlaw.{first_flaw, no_flaw}

-- behind the name of a definition

pub to_value_of : (ws : List Word) (at : ℕ) (p : Place) (n : List ℕ) → IsDefName n p (drop at ws) (drop (at + 1) ws)
    → stuck (drop at ws) at [] ≡ stuck (drop (at + 1) ws) (at + 1) (a_value ∷ [])
to_value_of ws at p n name =
    pass Ident p n (drop at ws) (drop (at + 1) ws) at [] (a_value ∷ []) name.0 (cond-false (is_truth n) _ _ name.1) refl

pub to_body : (ws : List Word) (at : ℕ) (p : Place) (n : List ℕ) → IsDefName n p (drop at ws) (drop (at + 1) ws)
    → IsMark OpenBrace (drop (at + 1) ws) (drop (at + 1 + 1) ws)
    → stuck (drop at ws) at [] ≡ stuck (drop (at + 1 + 1) ws) (at + 1 + 1) (entries [] ∷ [])
to_body ws at p n name brace =
    to_value_of ws at p n name ∙
    pass_mark OpenBrace (drop (at + 1) ws) (drop (at + 1 + 1) ws) (at + 1) (a_value ∷ []) (entries [] ∷ []) brace
    (λ m. refl) (λ m. refl)

-- the mark behind a name, counted from the name
pub mark_behind_name : (mark : Punct) (ws : List Word) (at : ℕ) → IsMark mark (drop (at + 1) ws) (drop (at + 1 + 1) ws)
    → IsMark mark (drop (at + 1) ws) (drop (at + 2) ws)
mark_behind_name mark ws at s =
    let two : at + 1 + 1 ≡ at + 2 = omega arith in subst (λ i. IsMark mark (drop (at + 1) ws) (drop i ws)) two s

pub to_assigned : (ws : List Word) (at : ℕ) (p : Place) (n : List ℕ) → IsDefName n p (drop at ws) (drop (at + 1) ws)
    → IsMark Equal (drop (at + 1) ws) (drop (at + 1 + 1) ws)
    → stuck (drop at ws) at [] ≡ stuck (drop (at + 2) ws) (at + 2) (an_expr ∷ [])
to_assigned ws at p n name equals =
    let two : at + 1 + 1 ≡ at + 2 = omega arith in
    to_value_of ws at p n name ∙
    pass_mark Equal (drop (at + 1) ws) (drop (at + 1 + 1) ws) (at + 1) (a_value ∷ []) (an_expr ∷ []) equals (λ m. refl)
    (λ m. refl) ∙
    ap (λ i. stuck (drop i ws) i (an_expr ∷ [])) two

pub to_extended : (ws : List Word) (at : ℕ) (p : Place) (n : List ℕ) → IsDefName n p (drop at ws) (drop (at + 1) ws)
    → IsMark PlusEqual (drop (at + 1) ws) (drop (at + 1 + 1) ws)
    → stuck (drop at ws) at [] ≡ stuck (drop (at + 2) ws) (at + 2) (an_expr ∷ [])
to_extended ws at p n name equals =
    let two : at + 1 + 1 ≡ at + 2 = omega arith in
    to_value_of ws at p n name ∙
    pass_mark PlusEqual (drop (at + 1) ws) (drop (at + 1 + 1) ws) (at + 1) (a_value ∷ []) (an_expr ∷ []) equals
    (λ m. refl) (λ m. refl) ∙
    ap (λ i. stuck (drop i ws) i (an_expr ∷ [])) two

-- where definitions stop

pub defs_stop_within : (qs : List Part) (ws : List Word) (at next : ℕ) (stop : Stop)
    → stuck (drop at ws) at [] ≡ stuck (drop next ws) next (qs ++ []) → StopsWith qs ws next 0 stop
    → DefsStopWith ws at stop
defs_stop_within qs ws at next (Bad flaw) goes stops = (goes ∙ stops.0 [] refl, stops.1)
defs_stop_within qs ws at next OutOfMemory goes stops = tt

pub defs_stop_at : (ws : List Word) (at k : ℕ) (stop : Stop) → stop ≡ Bad (Unexpected k)
    → stuck (drop at ws) at [] ≡ Some (Unexpected k) → DefsStopWith ws at stop
defs_stop_at ws at k stop is goes = subst (DefsStopWith ws at) (sym is) (goes, tt)

pub defs_stop_later : (ws : List Word) (at next : ℕ) (stop : Stop) → DefsGoOn ws at next → DefsStopWith ws next stop
    → DefsStopWith ws at stop
defs_stop_later ws at next (Bad flaw) goes stops = (goes ∙ stops.0, stops.1)
defs_stop_later ws at next OutOfMemory goes stops = tt

some_left : (text : List ℕ) (ts : List Token) (at : ℕ) → at < length ts → 0 < length (drop at (all_words text ts))
some_left text ts at within = omega (arith, length-drop at (all_words text ts), length-map ts (as_word text))

pub no_name_here : (text : List ℕ) (ts : List Token) (at : ℕ) → at < length ts
    → StartsNot Ident (drop at (all_words text ts)) → stuck (drop at (all_words text ts)) at [] ≡ Some (Unexpected at)
no_name_here text ts at within other =
    def_stop (drop at (all_words text ts)) at (some_left text ts at within)
    (λ w rest is ident. absurd (other w rest is ident))

pub truth_here : (text : List ℕ) (ts : List Token) (at : ℕ) (t : Token) → IsTokenAt text ts at t
    → is_truth (as_word text t).text ≡ true → stuck (drop at (all_words text ts)) at [] ≡ Some (Unexpected at)
truth_here text ts at t here truth =
    let ws = all_words text ts in
    def_stop (drop at ws) at (some_left text ts at here.within)
    (λ w rest is ident.
    ap (λ (v : Word). is_truth v.text) (same_head w (as_word text t) rest (drop (at + 1) ws) (sym is ∙ here.here)).0
    ∙ truth)

-- words by their numbers
pub word_value : {A : Type 0} (f : Word → A) (d : A) (ws : List Word) (k : ℕ) (w : Word) (rest : List Word)
    → drop k ws ≡ w ∷ rest → get_or (map f ws) k d ≡ f w
word_value f d [] zero w rest is = nil_cons is
word_value f d [] (suc k) w rest is = nil_cons is
word_value f d (v ∷ ws) zero w rest is = ap f (same_head v w ws rest is).0
word_value f d (v ∷ ws) (suc k) w rest is = word_value f d ws k w rest is

-- the tokens of a text, and those of them that are no comments

pub kept_tokens : ListsHaveTokens → (text : List ℕ) (ts : List Token) → AreTokensOf text ts
    → AreTokens text (without_comments ts)
kept_tokens have text ts list =
    All-filter (λ t. not (is_comment t.kind)) (λ t. IsToken t.place.file text t) ts (have list.0 text ts list.1)

-- where no token is a comment, each is a word
pub without_comments-none : (ts : List Token) → list_any (λ t. is_comment t.kind) ts ≡ false → ts ≡ without_comments ts
without_comments-none [] none = refl
without_comments-none (t ∷ ts) none =
    let parts = or_parts (is_comment t.kind) (list_any (λ u. is_comment u.kind) ts) none in
    ap (λ l. t ∷ l) (without_comments-none ts parts.1) ∙ sym (cond-true (not (is_comment t.kind)) _ _ (ap not parts.0))

-- the meaning of a file

pub tree_meant : (ws : List Word) (file : ℕ) (ds : List Definition) → file ≡ number_of_file ws → SpellsFile ds ws
    → stuck ws 0 [] ≡ None → IsTree ws (record { file = file; defs = ds })
tree_meant ws file ds same spelled whole = record {
  file = same;
  spelled = spelled;
  sound = no_flaw ws ds whole spelled;
}

pub flaw_meant : (ws : List Word) (flaw : Flaw) (stop : Stop) → stop ≡ Bad flaw → DefsStopWith ws 0 stop
    → IsFirstFlaw ws flaw
flaw_meant ws flaw stop is stops = let s = subst (DefsStopWith ws 0) is stops in first_flaw flaw ws s.0 s.1
