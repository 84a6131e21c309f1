-- A map's names are those of the entries behind its brace: where a name has one again, it is repeated.
use Rattle.std.specs.Prelude.{◌==◌, cond}
use Rattle.std.specs.List.{Contains}
use Rattle.std.proofs.Common.{◌≡◌, ℕ, ◌+◌, drop, arith, List, [], ◌∷◌, ◌++◌, Bool, true, false, Option, Some, None, sym}
use Rattle.std.proofs.Common.{refl, ap, ◌∙◌, subst, inl, inr}
use Rattle.std.proofs.lemmas.List.{drop-drop}
use Rattle.std.proofs.lemmas.Map.Views.{Contains-from_any}
use Rattle.bp_faults.specs.declared.place.Place.{Place}
use Rattle.bp_faults.specs.declared.limits.TheConstants.{DEEPEST_NESTING}
use Rattle.bp_lexer.specs.declared.token.Punct.TheVariants.{OpenBrace, CloseBrace, OpenBracket, CloseBracket, Colon}
use Rattle.bp_lexer.specs.declared.token.Punct.TheVariants.{Comma, Equal, PlusEqual, Plus}
use Rattle.bp_lexer.specs.declared.token.TokenKind.{TokenKind}
use Rattle.bp_lexer.specs.declared.token.TokenKind.TheVariants.{Ident, Int, Quoted, Raw, Punct as Mark}
use Rattle.bp_parser.specs.declared.flaw.Flaw.{Flaw}
use Rattle.bp_parser.specs.declared.flaw.Flaw.TheVariants.{Unexpected, TooNested, Duplicate}
use Rattle.bp_parser.specs.Trees.{Tree, no_tree, no_term, term_and, Entries, no_entry, entry_and}
use Rattle.bp_parser.specs.Words.{Word, is_truth}
use Rattle.bp_parser.specs.Grammar.{IsWord, IsMarkAt, IsMark, Spells}
use Rattle.bp_parser.specs.Names.{entry_names}
use Rattle.bp_parser.specs.Flaws.{SpellsFirst, IsRepeated}
use Rattle.bp_parser.specs.Machine.{Part, an_expr, more_terms, items, more_items, a_colon, entries, more_entries}
use Rattle.bp_parser.specs.Machine.{a_value, is_plus, begin_def, behind_all, at_end, go_behind, stuck, flaw_at}
use Rattle.bp_parser.specs.Machine.{name_flaw, depth_of, is_among}
use Rattle.bp_parser.proofs.Firsts.{none_some, some_same, starts_not, true_false}
use Rattle.bp_parser.proofs.Language.{Spelled, SpelledExpr, leaf_expr, list_expr, map_expr, item, after_comma_items}
use Rattle.bp_parser.proofs.Language.{after_comma_entries, join_expr, plus_kind}
use Rattle.bp_faults.proofs.Lists.{same_bytes}

-- behind a map's brace stand entries with these names, each with a comma behind it, and then `here`
pub record InMap (whole : List Word) (names : List (List ℕ)) (here : List Word) : Type 0 where
  pub brace : ℕ
  pub inner : List Word
  pub opened : IsMark OpenBrace (drop brace whole) inner
  pub before : Entries
  pub spelled : SpellsFirst before inner here
  pub known : names ≡ entry_names before

-- Each map that is open has the names of its entries so far; a map around it will have them once what
-- is read in it is at its end.
abbrev Track : List Part → List Word → List Word → Type 0
Track [] whole here = Unit {0}
Track (entries names ∷ ps) whole here =
    InMap whole names here × ((rest : List Word) → Spelled (entries names) here rest → Track ps whole rest)
Track (more_entries names ∷ ps) whole here =
    ((next : List Word) → IsMark Comma here next → InMap whole names next)
    × ((rest : List Word) → Spelled (more_entries names) here rest → Track ps whole rest)
Track (p ∷ ps) whole here = (rest : List Word) → Spelled p here rest → Track ps whole rest

abbrev Tracks : Option (List Part) → List Word → List Word → Type 0
Tracks None whole here = Unit {0}
Tracks (Some new) whole here = Track new whole here

-- one more entry

abbrev pub and_then : Entries → List ℕ → Place → Tree → Entries
and_then no_entry n at x = entry_and n at x no_entry
and_then (entry_and m p y es) n at x = entry_and m p y (and_then es n at x)

pub names_and_then : (es : Entries) (n : List ℕ) (at : Place) (x : Tree)
    → entry_names (and_then es n at x) ≡ entry_names es ++ n ∷ []
names_and_then no_entry n at x = refl
names_and_then (entry_and m p y es) n at x = ap (λ l. m ∷ l) (names_and_then es n at x)

pub first_and_then : (es : Entries) (n : List ℕ) (at : Place) (x : Tree) (inner here colon next comma mid : List Word)
    → SpellsFirst es inner here → IsWord Ident at n here colon → IsMark Colon colon next → Spells x next comma
    → IsMark Comma comma mid → SpellsFirst (and_then es n at x) inner mid
first_and_then no_entry n at x inner here colon next comma mid s name c value m =
    (colon, next, comma, mid, s ∙ name, c, value, m, refl)
first_and_then (entry_and o p y es) n at x inner here colon next comma mid s name c value m =
    (s.0, s.1, s.2, s.3, s.4, s.5, s.6, s.7, first_and_then es n at x s.3 here colon next comma mid s.8 name c value m)

in_map_more : (whole : List Word) (names : List (List ℕ)) (n : List ℕ) (at : Place) (ws colon value mid : List Word)
    → InMap whole names (record { kind = Ident; at = at; text = n } ∷ ws) → IsMark Colon ws colon
    → SpelledExpr colon value → IsMark Comma value mid → InMap whole (names ++ n ∷ []) mid
in_map_more whole names n at ws colon value mid m c s comma =
    let x = join_expr colon value s in
    record {
      brace = m.brace;
      inner = m.inner;
      opened = m.opened;
      before = and_then m.before n at x.0;
      spelled = first_and_then m.before n at x.0 m.inner _ ws colon value mid m.spelled refl c x.1 comma;
      known = ap (λ l. l ++ n ∷ []) m.known ∙ sym (names_and_then m.before n at x.0);
    }

-- a brace opens a map without entries
opened_map : (whole : List Word) (i : ℕ) (at : Place) (n : List ℕ) (ws : List Word)
    → drop i whole ≡ record { kind = Mark OpenBrace; at = at; text = n } ∷ ws → InMap whole [] ws
opened_map whole i at n ws here = record {
  brace = i;
  inner = ws;
  opened = (at, (n, here));
  before = no_entry;
  spelled = refl;
  known = refl;
}

-- with no plus the sum is at its end
past_sum : (ps : List Part) (whole : List Word) (k : TokenKind) (at : Place) (n : List ℕ) (ws : List Word)
    → (k ≡ Mark Plus → ⊥) → Track (more_terms ∷ ps) whole (record { kind = k; at = at; text = n } ∷ ws)
    → Track ps whole (record { kind = k; at = at; text = n } ∷ ws)
past_sum ps whole k at n ws other track = track _ (no_term, refl, starts_not k (Mark Plus) at n _ ws other refl)

track_def : (b : Bool) (whole ws : List Word) → Tracks (cond b None (Some (a_value ∷ []))) whole ws
track_def true whole ws = tt
track_def false whole ws = λ rest s. tt

track_name : (k : TokenKind) (n : List ℕ) (whole ws : List Word) → Tracks (begin_def k n) whole ws
track_name Ident n whole ws = track_def (is_truth n) whole ws
track_name _ n whole ws = tt

other_plus : (k : TokenKind) → k ≡ Mark Plus → is_plus k ≡ false → ⊥
other_plus k e is = true_false (sym (ap is_plus e) ∙ is)

track_terms : (b : Bool) (ps : List Part) (whole : List Word) (k : TokenKind) (at : Place) (n : List ℕ) (ws : List Word)
    → is_plus k ≡ b → Track (more_terms ∷ ps) whole (record { kind = k; at = at; text = n } ∷ ws)
    → (Track ps whole (record { kind = k; at = at; text = n } ∷ ws) → Tracks (behind_all ps k n) whole ws)
    → Tracks (cond b (Some (an_expr ∷ ps)) (behind_all ps k n)) whole ws
track_terms true ps whole k at n ws is track below = λ rest s.
    let plus : IsMarkAt Plus at (record { kind = k; at = at; text = n } ∷ ws) ws =
    (n, ap (λ l. record { kind = l; at = at; text = n } ∷ ws) (plus_kind k is)) in
    track rest (term_and at s.0 s.4.0, (ws, s.1, plus, s.2, s.3, s.4.1), s.4.2)
track_terms false ps whole k at n ws is track below = below (past_sum ps whole k at n ws (λ e. other_plus k e is) track)

track_all : (ps : List Part) (whole : List Word) (k : TokenKind) (at : Place) (n : List ℕ) (ws : List Word) (i : ℕ)
    → drop i whole ≡ record { kind = k; at = at; text = n } ∷ ws
    → Track ps whole (record { kind = k; at = at; text = n } ∷ ws) → Tracks (behind_all ps k n) whole ws
track_all [] whole k at n ws i here track = track_name k n whole ws
track_all (more_terms ∷ ps) whole k at n ws i here track =
    track_terms (is_plus k) ps whole k at n ws refl track (λ t. track_all ps whole k at n ws i here t)
track_all (an_expr ∷ ps) whole Ident at n ws i here track = λ rest s. track rest (leaf_expr Ident at n _ ws rest refl s)
track_all (an_expr ∷ ps) whole Int at n ws i here track = λ rest s. track rest (leaf_expr Int at n _ ws rest refl s)
track_all (an_expr ∷ ps) whole Quoted at n ws i here track =
    λ rest s. track rest (leaf_expr Quoted at n _ ws rest refl s)
track_all (an_expr ∷ ps) whole Raw at n ws i here track = λ rest s. track rest (leaf_expr Raw at n _ ws rest refl s)
track_all (an_expr ∷ ps) whole (Mark OpenBracket) at n ws i here track =
    λ mid s rest terms. track rest (list_expr at n ws mid rest s terms)
track_all (an_expr ∷ ps) whole (Mark OpenBrace) at n ws i here track =
    (opened_map whole i at n ws here, λ mid s rest terms. track rest (map_expr at n ws mid rest s terms))
track_all (an_expr ∷ ps) whole _ at n ws i here track = tt
track_all (items ∷ ps) whole (Mark CloseBracket) at n ws i here track = track ws (no_tree, (at, (n, refl)))
track_all (items ∷ ps) whole Ident at n ws i here track =
    λ mid s rest more. track rest (item _ mid rest (leaf_expr Ident at n _ ws mid refl s) more)
track_all (items ∷ ps) whole Int at n ws i here track =
    λ mid s rest more. track rest (item _ mid rest (leaf_expr Int at n _ ws mid refl s) more)
track_all (items ∷ ps) whole Quoted at n ws i here track =
    λ mid s rest more. track rest (item _ mid rest (leaf_expr Quoted at n _ ws mid refl s) more)
track_all (items ∷ ps) whole Raw at n ws i here track =
    λ mid s rest more. track rest (item _ mid rest (leaf_expr Raw at n _ ws mid refl s) more)
track_all (items ∷ ps) whole (Mark OpenBracket) at n ws i here track =
    λ mid s behind terms rest more. track rest (item _ behind rest (list_expr at n ws mid behind s terms) more)
track_all (items ∷ ps) whole (Mark OpenBrace) at n ws i here track = (
  opened_map whole i at n ws here,
  λ mid s behind terms rest more. track rest (item _ behind rest (map_expr at n ws mid behind s terms) more),
)
track_all (items ∷ ps) whole _ at n ws i here track = tt
track_all (more_items ∷ ps) whole (Mark CloseBracket) at n ws i here track = track ws (no_tree, inl (at, (n, refl)))
track_all (more_items ∷ ps) whole (Mark Comma) at n ws i here track =
    λ rest s. track rest (s.0, after_comma_items s.0 _ ws rest (at, (n, refl)) s.1)
track_all (more_items ∷ ps) whole _ at n ws i here track = tt
track_all (a_colon ∷ ps) whole (Mark Colon) at n ws i here track = track ws (at, (n, refl))
track_all (a_colon ∷ ps) whole _ at n ws i here track = tt
track_all (entries names ∷ ps) whole (Mark CloseBrace) at n ws i here track = track.1 ws (no_entry, (at, (n, refl)))
track_all (entries names ∷ ps) whole Ident at n ws i here track = λ colon c value s.
    let x = join_expr colon value s in (
      (λ next comma. in_map_more whole names n at ws colon value next track.0 c s comma),
      λ rest more. track.1 rest (entry_and n at x.0 more.0, (ws, colon, value, refl, c, x.1, more.1)),
    )
track_all (entries names ∷ ps) whole _ at n ws i here track = tt
track_all (more_entries names ∷ ps) whole (Mark CloseBrace) at n ws i here track =
    track.1 ws (no_entry, inl (at, (n, refl)))
track_all (more_entries names ∷ ps) whole (Mark Comma) at n ws i here track =
    (track.0 ws (at, (n, refl)), λ rest s. track.1 rest (s.0, after_comma_entries s.0 _ ws rest (at, (n, refl)) s.1))
track_all (more_entries names ∷ ps) whole _ at n ws i here track = tt
track_all (a_value ∷ ps) whole (Mark Equal) at n ws i here track = λ rest s. track rest (inl (ws, (at, (n, refl)), s))
track_all (a_value ∷ ps) whole (Mark PlusEqual) at n ws i here track =
    λ rest s. track rest (inr (inl (ws, (at, (n, refl)), s)))
track_all (a_value ∷ ps) whole (Mark OpenBrace) at n ws i here track =
    (opened_map whole i at n ws here, λ rest s. track rest (inr (inr (at, s.0, (ws, (n, refl), s.1)))))
track_all (a_value ∷ ps) whole _ at n ws i here track = tt

-- a name that its map has

abbrev IsAgain : Option Flaw → List Word → ℕ → Type 0
IsAgain (Some (Duplicate k)) whole i = (k ≡ i) × IsRepeated whole i
IsAgain _ whole i = Unit {0}

again : (b : Bool) (names : List (List ℕ)) (whole : List Word) (at : Place) (n : List ℕ) (ws : List Word) (i : ℕ)
    → is_among n names ≡ b → drop i whole ≡ record { kind = Ident; at = at; text = n } ∷ ws → drop (i + 1) whole ≡ ws
    → InMap whole names (record { kind = Ident; at = at; text = n } ∷ ws)
    → IsAgain (cond b (Some (Duplicate i)) None) whole i
again false names whole at n ws i has here next m = tt
again true names whole at n ws i has here next m = (
  refl,
  record {
    brace = m.brace;
    inner = m.inner;
    opened = m.opened;
    before = m.before;
    spelled = subst (SpellsFirst m.before m.inner) (sym here) m.spelled;
    name = n;
    place = at;
    at = here ∙ ap (λ l. record { kind = Ident; at = at; text = n } ∷ l) (sym next);
    again = subst (λ l. Contains l n) m.known (Contains-from_any same_bytes n names has);
  },
)

name_again : (ps : List Part) (whole : List Word) (at : Place) (n : List ℕ) (ws : List Word) (i : ℕ)
    → drop i whole ≡ record { kind = Ident; at = at; text = n } ∷ ws → drop (i + 1) whole ≡ ws
    → Track ps whole (record { kind = Ident; at = at; text = n } ∷ ws) → IsAgain (name_flaw ps n i) whole i
name_again (more_terms ∷ ps) whole at n ws i here next track =
    name_again ps whole at n ws i here next (past_sum ps whole Ident at n ws (λ e. cc) track)
name_again (entries names ∷ ps) whole at n ws i here next track =
    again (is_among n names) names whole at n ws i refl here next track.0
name_again _ whole at n ws i here next track = tt

bracket_again : (b : Bool) (whole : List Word) (i : ℕ) → IsAgain (cond b (Some (TooNested i)) None) whole i
bracket_again true whole i = tt
bracket_again false whole i = tt

flaw_again : (ps : List Part) (whole : List Word) (k : TokenKind) (at : Place) (n : List ℕ) (ws : List Word) (i : ℕ)
    → drop i whole ≡ record { kind = k; at = at; text = n } ∷ ws → drop (i + 1) whole ≡ ws
    → Track ps whole (record { kind = k; at = at; text = n } ∷ ws) → IsAgain (flaw_at ps k n i) whole i
flaw_again ps whole Ident at n ws i here next track = name_again ps whole at n ws i here next track
flaw_again ps whole (Mark OpenBrace) at n ws i here next track = bracket_again (depth_of ps == DEEPEST_NESTING) whole i
flaw_again ps whole (Mark OpenBracket) at n ws i here next track =
    bracket_again (depth_of ps == DEEPEST_NESTING) whole i
flaw_again ps whole _ at n ws i here next track = tt

unexpected_or_again : {A : Type 0} (i k : ℕ) → Some (Unexpected i) ≡ Some (Duplicate k) → A
unexpected_or_again i k e = absurd cc

end_apart : {A : Type 0} (ps : List Part) (i k : ℕ) → at_end ps i ≡ Some (Duplicate k) → A
end_apart [] i k e = none_some (Duplicate k) e
end_apart (more_terms ∷ ps) i k e = end_apart ps i k e
end_apart (an_expr ∷ ps) i k e = unexpected_or_again i k e
end_apart (items ∷ ps) i k e = unexpected_or_again i k e
end_apart (more_items ∷ ps) i k e = unexpected_or_again i k e
end_apart (a_colon ∷ ps) i k e = unexpected_or_again i k e
end_apart (entries names ∷ ps) i k e = unexpected_or_again i k e
end_apart (more_entries names ∷ ps) i k e = unexpected_or_again i k e
end_apart (a_value ∷ ps) i k e = unexpected_or_again i k e

drop_next : (whole : List Word) (w : Word) (ws : List Word) (i : ℕ) → drop i whole ≡ w ∷ ws → drop (i + 1) whole ≡ ws
drop_next whole w ws i here = sym (drop-drop 1 i whole ∙ ap (λ k. drop k whole) (omega arith)) ∙ ap (drop 1) here

step_repeated : (o : Option (List Part)) (f : Option Flaw) (ps : List Part) (whole : List Word) (w : Word)
    (ws : List Word) (i k : ℕ) → behind_all ps w.kind w.text ≡ o → flaw_at ps w.kind w.text i ≡ f → Tracks o whole ws
    → IsAgain f whole i
    → ((new : List Part) → Track new whole ws → stuck ws (i + 1) new ≡ Some (Duplicate k) → IsRepeated whole k)
    → go_behind o f i (λ new. stuck ws (i + 1) new) ≡ Some (Duplicate k) → IsRepeated whole k
step_repeated None f ps whole w ws i k goes wrong tracks is more found = unexpected_or_again i k found
step_repeated (Some new) (Some e) ps whole w ws i k goes wrong tracks is more found =
    let same : e ≡ Duplicate k = some_same e (Duplicate k) found in
    let here : IsAgain (Some (Duplicate k)) whole i = subst (λ d. IsAgain (Some d) whole i) same is in
    subst (IsRepeated whole) (sym here.0) here.1
step_repeated (Some new) None ps whole w ws i k goes wrong tracks is more found = more new tracks found

pub tracked : (ts : List Word) (ps : List Part) (whole : List Word) (i k : ℕ) → drop i whole ≡ ts → Track ps whole ts
    → stuck ts i ps ≡ Some (Duplicate k) → IsRepeated whole k
tracked [] ps whole i k here track found = end_apart ps i k found
tracked (w ∷ ws) ps whole i k here track found =
    let next = drop_next whole w ws i here in
    step_repeated (behind_all ps w.kind w.text) (flaw_at ps w.kind w.text i) ps whole w ws i k refl refl
    (track_all ps whole w.kind w.at w.text ws i here track)
    (flaw_again ps whole w.kind w.at w.text ws i here next track)
    (λ new t e. tracked ws new whole (i + 1) k next t e)
    found
