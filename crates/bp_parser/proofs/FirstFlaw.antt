-- Where the words leave what is expected, there is the first flaw of the grammar.
use Rattle.std.specs.Prelude.{◌==◌, ◌⊎◌}
use Rattle.std.specs.Cmp.Lexicographic.{nat_list_eq_equiv}
use Rattle.std.proofs.Common.{◌≡◌, ℕ, zero, suc, ◌+◌, ◌<◌, ◌≤◌, length, take, drop, arith, length-drop, List, [], ◌∷◌}
use Rattle.std.proofs.Common.{◌++◌, true, Option, Some, None, sym, refl, ap, ◌∙◌, subst, inl, inr, ⊎_elim}
use Rattle.std.proofs.lemmas.Bool.{cases_Bool, cond-true, cond-false, eqb-true, eq-eqb}
use Rattle.std.proofs.lemmas.Map.Views.{list_any-from_Contains}
use Rattle.bp_faults.specs.declared.limits.TheConstants.{DEEPEST_NESTING}
use Rattle.bp_lexer.specs.declared.token.Punct.TheVariants.{OpenBrace, OpenBracket}
use Rattle.bp_lexer.specs.declared.token.TokenKind.{TokenKind}
use Rattle.bp_lexer.specs.declared.token.TokenKind.TheVariants.{Ident, Punct as Mark}
use Rattle.bp_parser.specs.declared.flaw.Flaw.{Flaw}
use Rattle.bp_parser.specs.declared.flaw.Flaw.TheVariants.{Unexpected, TooNested, Duplicate}
use Rattle.bp_parser.specs.Trees.{Definition}
use Rattle.bp_parser.specs.Words.{Word}
use Rattle.bp_parser.specs.Grammar.{SpellsFile}
use Rattle.bp_parser.specs.Flaws.{BeginsAFile, IsUnexpected, IsTooNested, IsRepeated, IsDuplicate, IsFlaw, IsFirstFlaw}
use Rattle.bp_parser.specs.Flaws.{index_of, is_opening}
use Rattle.bp_parser.specs.Names.{entry_names}
use Rattle.bp_parser.specs.Machine.{Part, an_expr, more_terms, items, more_items, a_colon, entries, more_entries}
use Rattle.bp_parser.specs.Machine.{a_value, behind_all, go_behind, stuck, flaw_at, name_flaw, bracket_flaw, is_among}
use Rattle.bp_parser.specs.Machine.{depth_of, IsKnown}
use Rattle.bp_parser.proofs.Firsts.{same_head, none_some, some_same}
use Rattle.bp_parser.proofs.Language.{Lang, sound_all, CompletesAll, complete_all, spelling_all, ends}
use Rattle.bp_parser.proofs.Runs.{Reaches, stay, also, shrinks, one_state, first, run_first, depth_before}
use Rattle.bp_parser.proofs.OneMeaning.{shorter, tree_or_unexpected, in_range}

-- what a flaw says

bracket_found : (ps : List Part) (k : TokenKind) (n : List ℕ) (at : ℕ) → is_opening k ≡ true
    → depth_of ps ≡ DEEPEST_NESTING → flaw_at ps k n at ≡ Some (TooNested at)
bracket_found ps (Mark OpenBrace) n at opening full =
    cond-true (depth_of ps == DEEPEST_NESTING) _ _ (eq-eqb (depth_of ps) DEEPEST_NESTING full)
bracket_found ps (Mark OpenBracket) n at opening full =
    cond-true (depth_of ps == DEEPEST_NESTING) _ _ (eq-eqb (depth_of ps) DEEPEST_NESTING full)
bracket_found ps _ n at opening full = absurd cc

bracket_says : (ps : List Part) (at : ℕ) (e : Flaw) → bracket_flaw ps at ≡ Some e
    → (depth_of ps ≡ DEEPEST_NESTING) × (e ≡ TooNested at)
bracket_says ps at e says =
    ⊎_elim
    (λ yes. (
      eqb-true (depth_of ps) DEEPEST_NESTING yes,
      sym (some_same (TooNested at) e (sym (cond-true (depth_of ps == DEEPEST_NESTING) _ _ yes) ∙ says)),
    ))
    (λ other. none_some e (sym (cond-false (depth_of ps == DEEPEST_NESTING) _ _ other) ∙ says))
    (cases_Bool (depth_of ps == DEEPEST_NESTING))

name_says : (ps : List Part) (n : List ℕ) (at : ℕ) (e : Flaw) → name_flaw ps n at ≡ Some e → e ≡ Duplicate at
name_says (more_terms ∷ ps) n at e says = name_says ps n at e says
name_says (entries names ∷ ps) n at e says =
    ⊎_elim
    (λ yes. sym (some_same (Duplicate at) e (sym (cond-true (is_among n names) _ _ yes) ∙ says)))
    (λ other. none_some e (sym (cond-false (is_among n names) _ _ other) ∙ says))
    (cases_Bool (is_among n names))
name_says _ n at e says = none_some e says

abbrev Says : TokenKind → List Part → ℕ → Flaw → Type 0
Says k ps at e = ((e ≡ TooNested at) × (is_opening k ≡ true) × (depth_of ps ≡ DEEPEST_NESTING)) ⊎ (e ≡ Duplicate at)

flaw_says : (ps : List Part) (k : TokenKind) (n : List ℕ) (at : ℕ) (e : Flaw) → flaw_at ps k n at ≡ Some e
    → Says k ps at e
flaw_says ps Ident n at e says = inr (name_says ps n at e says)
flaw_says ps (Mark OpenBrace) n at e says = let b = bracket_says ps at e says in inl (b.1, refl, b.0)
flaw_says ps (Mark OpenBracket) n at e says = let b = bracket_says ps at e says in inl (b.1, refl, b.0)
flaw_says ps _ n at e says = none_some e says

says_index : (k : TokenKind) (ps : List Part) (at : ℕ) (e : Flaw) → Says k ps at e → index_of e ≡ at
says_index k ps at e (inl s) = ap index_of s.0
says_index k ps at e (inr s) = ap index_of s

-- the theorem, at any moment

abbrev Lives : List Part → List Word → Type 0
Lives ps front = (rest : List Word) × Lang ps (front ++ rest)

lives : (ps : List Part) → Lives ps []
lives ps = let s = spelling_all ps in (s.0, s.1)

pub record Flawed (ps : List Part) (ts : List Word) (at n : ℕ) (e : Flaw) : Type 0 where
  pub state : List Part
  pub word : Word
  pub here : drop n ts ≡ word ∷ drop (n + 1) ts
  pub reached : Reaches ps ts state (drop n ts)
  pub says : Says word.kind state (at + n) e
  pub live : Lives ps (take (n + 1) ts)

pub record Dead (ps : List Part) (ts : List Word) (n : ℕ) : Type 0 where
  pub word : n < length ts → Lives ps (take (n + 1) ts) → ⊥
  pub end : n ≡ length ts → Lang ps ts → ⊥

pub record Found (ps : List Part) (ts : List Word) (at : ℕ) (e : Flaw) : Type 0 where
  pub count : ℕ
  pub place : index_of e ≡ at + count
  pub within : count ≤ length ts
  pub before : Lives ps (take count ts)
  pub here : ((e ≡ Unexpected (at + count)) × Dead ps ts count) ⊎ Flawed ps ts at count e

-- behind an expected word goes on what lived before it
next_lang : (ps new : List Part) (w : Word) (ts : List Word) → behind_all ps w.kind w.text ≡ Some new → Lang ps (w ∷ ts)
    → Lang new ts
next_lang ps new w ts is lang =
    let s = sound_all ps w ts lang in
    subst (λ l. Lang l ts) (some_same s.new new (sym s.next ∙ is)) s.lang

more_dead : (ps : List Part) (w : Word) (ts : List Word) (n : ℕ) (new : List Part)
    → behind_all ps w.kind w.text ≡ Some new → Dead new ts n → Dead ps (w ∷ ts) (n + 1)
more_dead ps w ts n new is f = record {
  word = λ below live.
      let two : n + 1 + 1 ≡ suc (n + 1) = omega arith in
      let live' : Lives ps (w ∷ take (n + 1) ts) = rw two at live in
      f.word (omega arith) (live'.0, next_lang ps new w (take (n + 1) ts ++ live'.0) is live'.1);
  end = λ whole lang. f.end (omega (arith, whole)) (next_lang ps new w ts is lang);
}

pub before_lang : (ps new : List Part) (w : Word) (ts : List Word) → behind_all ps w.kind w.text ≡ Some new
    → Lang new ts → Lang ps (w ∷ ts)
before_lang ps new w ts is lang = subst (λ o. CompletesAll o ps w ts) is (complete_all ps w.kind w.at w.text ts) lang

more_live : (ps : List Part) (w : Word) (ts : List Word) (n : ℕ) (new : List Part)
    → behind_all ps w.kind w.text ≡ Some new → Lives new (take n ts) → Lives ps (take (n + 1) (w ∷ ts))
more_live ps w ts n new is live =
    let next : n + 1 ≡ suc n = omega arith in
    rw next (live.0, before_lang ps new w (take n ts ++ live.0) is live.1)

more_flawed : (ps : List Part) (w : Word) (ts : List Word) (at n : ℕ) (new : List Part) (e : Flaw)
    → behind_all ps w.kind w.text ≡ Some new → Flawed new ts (at + 1) n e → Flawed ps (w ∷ ts) at (n + 1) e
more_flawed ps w ts at n new e is f =
    let next : n + 1 ≡ suc n = omega arith in
    let two : n + 1 + 1 ≡ suc (n + 1) = omega arith in
    let place : at + 1 + n ≡ at + (n + 1) = omega arith in
    record {
      state = f.state;
      word = f.word;
      here = ap (λ i. drop i (w ∷ ts)) next ∙ f.here ∙ ap (λ i. f.word ∷ drop i (w ∷ ts)) (sym two);
      reached = subst (λ i. Reaches ps (w ∷ ts) f.state (drop i (w ∷ ts))) (sym next) (inr (new, is, f.reached));
      says = subst (λ i. Says f.word.kind f.state i e) place f.says;
      live = more_live ps w ts (n + 1) new is f.live;
    }

step_found : (o : Option (List Part)) (f : Option Flaw) (ps : List Part) (w : Word) (ts : List Word) (at : ℕ) (e : Flaw)
    → behind_all ps w.kind w.text ≡ o → flaw_at ps w.kind w.text at ≡ f
    → ((new : List Part) → stuck ts (at + 1) new ≡ Some e → Found new ts (at + 1) e)
    → go_behind o f at (λ new. stuck ts (at + 1) new) ≡ Some e → Found ps (w ∷ ts) at e
step_found None f ps w ts at e is wrong more found =
    let same : e ≡ Unexpected at = sym (some_same (Unexpected at) e found) in
    let here : at ≡ at + 0 = omega arith in
    record {
      count = 0;
      place = ap index_of same ∙ here;
      within = omega arith;
      before = lives ps;
      here = inl (
        same ∙ ap Unexpected here,
        record {
          word = λ below live. let s = sound_all ps w live.0 live.1 in none_some s.new (sym is ∙ s.next);
          end = λ whole lang. absurd (omega (arith, whole));
        },
      );
    }
step_found (Some new) (Some f) ps w ts at e is wrong more found =
    let same : f ≡ e = some_same f e found in
    let here : at ≡ at + 0 = omega arith in
    let says : Says w.kind ps at e = flaw_says ps w.kind w.text at e (wrong ∙ ap Some same) in
    record {
      count = 0;
      place = says_index w.kind ps at e says ∙ here;
      within = omega arith;
      before = lives ps;
      here = inr (record {
        state = ps;
        word = w;
        here = refl;
        reached = stay ps (w ∷ ts);
        says = subst (λ i. Says w.kind ps i e) here says;
        live = more_live ps w ts 0 new is (lives new);
      });
    }
step_found (Some new) None ps w ts at e is wrong more found =
    let f = more new found in
    let place : at + 1 + f.count ≡ at + (f.count + 1) = omega arith in
    record {
      count = f.count + 1;
      place = f.place ∙ place;
      within = omega (arith, f.within);
      before = more_live ps w ts f.count new is f.before;
      here = ⊎_elim
          (λ dead. inl (dead.0 ∙ ap Unexpected place, more_dead ps w ts f.count new is dead.1))
          (λ flawed. inr (more_flawed ps w ts at f.count new e is flawed))
          f.here;
    }

found_at : (ts : List Word) (ps : List Part) (at : ℕ) (e : Flaw) → stuck ts at ps ≡ Some e → Found ps ts at e
found_at [] ps at e found =
    let f = ends ps at e found in
    let here : at ≡ at + 0 = omega arith in
    record {
      count = 0;
      place = ap index_of f.0 ∙ here;
      within = omega arith;
      before = lives ps;
      here = inl (
        f.0 ∙ ap Unexpected here,
        record {
          word = λ below live. absurd (omega (arith, below));
          end = λ whole lang. f.1 lang;
        },
      );
    }
found_at (w ∷ ts) ps at e found =
    step_found (behind_all ps w.kind w.text) (flaw_at ps w.kind w.text at) ps w ts at e refl refl
    (λ new. found_at ts new (at + 1) e) found

-- what stands before the flaw, or anywhere if there is none, is expected and has no flaw

abbrev Beyond : Option Flaw → ℕ → Type 0
Beyond None n = Unit {0}
Beyond (Some e) n = n < index_of e

pub record Passed (ps : List Part) (ts : List Word) (at j : ℕ) : Type 0 where
  pub state : List Part
  pub word : Word
  pub new : List Part
  pub reached : Reaches ps ts state (drop j ts)
  pub here : drop j ts ≡ word ∷ drop (j + 1) ts
  pub goes : behind_all state word.kind word.text ≡ Some new
  pub clean : flaw_at state word.kind word.text (at + j) ≡ None

step_passed : (o : Option (List Part)) (f r : Option Flaw) (ps : List Part) (w : Word) (ts : List Word) (at j : ℕ)
    → behind_all ps w.kind w.text ≡ o → flaw_at ps w.kind w.text at ≡ f → ((new : List Part) (i : ℕ)
    → stuck ts (at + 1) new ≡ r → i < length ts → Beyond r (at + 1 + i) → Passed new ts (at + 1) i)
    → go_behind o f at (λ new. stuck ts (at + 1) new) ≡ r → j < length (w ∷ ts) → Beyond r (at + j)
    → Passed ps (w ∷ ts) at j
step_passed None f r ps w ts at j is wrong more found below beyond =
    let late : Beyond (Some (Unexpected at)) (at + j) = subst (λ l. Beyond l (at + j)) (sym found) beyond in
    absurd (omega (arith, late))
step_passed (Some new) (Some f) r ps w ts at j is wrong more found below beyond =
    let late : Beyond (Some f) (at + j) = subst (λ l. Beyond l (at + j)) (sym found) beyond in
    absurd (omega (arith, late, says_index w.kind ps at f (flaw_says ps w.kind w.text at f wrong)))
step_passed (Some new) None r ps w ts at zero is wrong more found below beyond = record {
  state = ps;
  word = w;
  new = new;
  reached = stay ps (w ∷ ts);
  here = refl;
  goes = is;
  clean = let here : at + 0 ≡ at = omega arith in ap (flaw_at ps w.kind w.text) here ∙ wrong;
}
step_passed (Some new) None r ps w ts at (suc j) is wrong more found below beyond =
    let place : at + 1 + j ≡ at + suc j = omega arith in
    let f = more new j found (omega (arith, below)) (subst (Beyond r) (sym place) beyond) in
    let next : suc j + 1 ≡ suc (j + 1) = omega arith in
    record {
      state = f.state;
      word = f.word;
      new = f.new;
      reached = inr (new, is, f.reached);
      here = f.here ∙ ap (λ i. f.word ∷ drop i (w ∷ ts)) (sym next);
      goes = f.goes;
      clean = ap (flaw_at f.state f.word.kind f.word.text) (sym place) ∙ f.clean;
    }

passed : (ts : List Word) (ps : List Part) (at : ℕ) (r : Option Flaw) (j : ℕ) → stuck ts at ps ≡ r → j < length ts
    → Beyond r (at + j) → Passed ps ts at j
passed [] ps at r j found below beyond = absurd (omega (arith, below))
passed (w ∷ ts) ps at r j found below beyond =
    step_passed (behind_all ps w.kind w.text) (flaw_at ps w.kind w.text at) r ps w ts at j refl refl
    (λ new i. passed ts new (at + 1) r i) found below beyond

-- so there is no bracket too many, and no name again

-- what is said of a word is said of one that is equal
flaw_same : (ps : List Part) (v w : Word) (at : ℕ) → v ≡ w → flaw_at ps v.kind v.text at ≡ flaw_at ps w.kind w.text at
flaw_same ps v w at same = ap (λ (x : Word). flaw_at ps x.kind x.text at) same

no_bracket : (ts : List Word) (r : Option Flaw) (j : ℕ) → stuck ts 0 [] ≡ r → Beyond r j → IsTooNested ts j → ⊥
no_bracket ts r j found beyond f =
    let zero' : j ≡ 0 + j = omega arith in
    let p = passed ts [] 0 r j found (in_range ts _ f.bracket j f.at) (subst (Beyond r) zero' beyond) in
    let e = same_head p.word f.bracket _ _ (sym p.here ∙ f.at) in
    let full : depth_of p.state ≡ DEEPEST_NESTING = omega (arith, depth_before ts j p.state p.reached, f.open_before) in
    none_some (TooNested (0 + j)) (sym p.clean ∙ flaw_same p.state p.word f.bracket (0 + j) e.0
    ∙ bracket_found p.state f.bracket.kind f.bracket.text (0 + j) f.opening full)

brace_state : (ps : List Part) (n : List ℕ) (new : List Part) → behind_all ps (Mark OpenBrace) n ≡ Some new
    → (more : List Part) × (new ≡ entries [] ∷ more)
brace_state [] n new is = none_some new is
brace_state (more_terms ∷ ps) n new is = brace_state ps n new is
brace_state (an_expr ∷ ps) n new is = (more_terms ∷ ps, sym (some_same _ new is))
brace_state (items ∷ ps) n new is = (more_terms ∷ more_items ∷ ps, sym (some_same _ new is))
brace_state (more_items ∷ ps) n new is = none_some new is
brace_state (a_colon ∷ ps) n new is = none_some new is
brace_state (entries names ∷ ps) n new is = none_some new is
brace_state (more_entries names ∷ ps) n new is = none_some new is
brace_state (a_value ∷ ps) n new is = (ps, sym (some_same _ new is))

earlier_beyond : (r : Option Flaw) (i j : ℕ) → i ≤ j → Beyond r j → Beyond r i
earlier_beyond None i j le beyond = tt
earlier_beyond (Some e) i j le beyond = omega (arith, beyond)

-- the state before a name that stands behind entries of its map
name_state : (ts : List Word) (r : Option Flaw) (j : ℕ) → stuck ts 0 [] ≡ r → Beyond r j → (f : IsRepeated ts j)
    → (more : List Part) × Reaches [] ts (entries (entry_names f.before) ∷ more) (drop j ts)
name_state ts r j found beyond f =
    let v : Word = record { kind = Mark OpenBrace; at = f.opened.0; text = f.opened.1.0 } in
    let brace : drop f.brace ts ≡ v ∷ f.inner = f.opened.1.1 in
    let brace_below : f.brace < length ts = in_range ts f.inner v f.brace brace in
    let behind_brace =
    shrinks f.inner (entries [] ∷ []) _ (drop j ts) (run_first f.before f.inner (drop j ts) [] [] f.spelled) in
    let name = in_range ts _ (record { kind = Ident; at = f.place; text = f.name }) j f.at in
    let earlier : f.brace < j = omega (arith, name, ap length brace, length-drop f.brace ts, length-drop j ts) in
    let b = passed ts [] 0 r f.brace found brace_below (earlier_beyond r (0 + f.brace) j (omega arith) beyond) in
    let eb = same_head b.word v _ _ (sym b.here ∙ brace) in
    let goes : behind_all b.state (Mark OpenBrace) f.opened.1.0 ≡ Some b.new =
    ap (λ (x : Word). behind_all b.state x.kind x.text) (sym eb.0) ∙ b.goes in
    let s = brace_state b.state f.opened.1.0 b.new goes in
    let to_brace : Reaches [] ts b.new f.inner = also ts [] b.state b.new (drop f.brace ts) f.inner b.reached
    (first (drop f.brace ts) f.inner v b.state b.new b.new f.inner brace goes (stay b.new f.inner)) in (
      s.0,
      also ts [] b.new (entries (entry_names f.before) ∷ s.0) f.inner (drop j ts) to_brace
          (subst (λ l. Reaches l f.inner (entries (entry_names f.before) ∷ s.0) (drop j ts)) (sym s.1)
          (run_first f.before f.inner (drop j ts) s.0 [] f.spelled)),
    )

no_name : (ts : List Word) (r : Option Flaw) (j : ℕ) → stuck ts 0 [] ≡ r → Beyond r j → IsRepeated ts j → ⊥
no_name ts r j found beyond f =
    let zero' : j ≡ 0 + j = omega arith in
    let v : Word = record { kind = Ident; at = f.place; text = f.name } in
    let below : j < length ts = in_range ts _ v j f.at in
    let n = name_state ts r j found beyond f in
    let p = passed ts [] 0 r j found below (subst (Beyond r) zero' beyond) in
    let e = same_head p.word v _ _ (sym p.here ∙ f.at) in
    let state : p.state ≡ entries (entry_names f.before) ∷ n.0 = one_state ts [] p.state _ (drop j ts) p.reached n.1 in
    let again : is_among f.name (entry_names f.before) ≡ true =
    list_any-from_Contains nat_list_eq_equiv f.name (entry_names f.before) f.again in
    none_some (Duplicate (0 + j)) (sym p.clean ∙ flaw_same p.state p.word v (0 + j) e.0
    ∙ ap (λ l. flaw_at l Ident f.name (0 + j)) state ∙ cond-true (is_among f.name (entry_names f.before)) _ _ again)

-- what the machine's answers mean

begins : (ts : List Word) (k : ℕ) → Lives [] (take k ts) → BeginsAFile (take k ts)
begins ts k live = (live.0, live.1.0, live.1.1)

no_earlier : (ts : List Word) (e other : Flaw) → stuck ts 0 [] ≡ Some e → Found [] ts 0 e → index_of other < index_of e
    → IsFlaw ts other → ⊥
no_earlier ts e (Unexpected j) found f before flaw =
    flaw.word (omega (arith, f.place, f.within))
    (shorter ts (j + 1) f.count (omega (arith, f.place)) (begins ts f.count f.before))
no_earlier ts e (TooNested j) found f before flaw = no_bracket ts (Some e) j found before flaw
no_earlier ts e (Duplicate j) found f before flaw = no_name ts (Some e) j found before flaw.repeated

apart_nested : (k at : ℕ) → Unexpected k ≡ TooNested at → ⊥
apart_nested k at e = cc

apart_duplicate : (k at : ℕ) → Unexpected k ≡ Duplicate at → ⊥
apart_duplicate k at e = cc

not_said : (t : TokenKind) (ps : List Part) (at k : ℕ) → Says t ps at (Unexpected k) → ⊥
not_said t ps at k (inl s) = apart_nested k at s.0
not_said t ps at k (inr s) = apart_duplicate k at s

unexpected_here : (ts : List Word) (k : ℕ) (f : Found [] ts 0 (Unexpected k)) → IsUnexpected ts k
unexpected_here ts k f =
    let same : f.count ≡ k = omega (arith, f.place) in
    ⊎_elim
    (λ dead. record {
      within = omega (arith, f.within);
      before = subst (λ n. BeginsAFile (take n ts)) same (begins ts f.count f.before);
      word =
          subst (λ n. n < length ts → BeginsAFile (take (n + 1) ts) → ⊥) same
          (λ below b. dead.1.word below (b.0, (b.1, b.2)));
      end = λ whole ds s. dead.1.end (omega (arith, whole)) (ds, s);
    })
    (λ flawed. absurd (not_said flawed.word.kind flawed.state (0 + f.count) k flawed.says))
    f.here

too_nested_here : (ts : List Word) (k : ℕ) (f : Found [] ts 0 (TooNested k)) → IsTooNested ts k
too_nested_here ts k f =
    let same : f.count ≡ k = omega (arith, f.place) in
    ⊎_elim
    (λ dead. absurd (let e : TooNested k ≡ Unexpected (0 + f.count) = dead.0 in cc))
    (λ w. subst (IsTooNested ts) same (⊎_elim
    (λ says. record {
      bracket = w.word;
      at = w.here;
      opening = says.1;
      open_before = omega (arith, depth_before ts f.count w.state w.reached, says.2);
      expected = begins ts (f.count + 1) w.live;
    })
    (λ says. absurd (let e : TooNested k ≡ Duplicate (0 + f.count) = says in cc))
    w.says))
    f.here

duplicate_here : (ts : List Word) (k : ℕ) (f : Found [] ts 0 (Duplicate k)) → IsRepeated ts k → IsDuplicate ts k
duplicate_here ts k f r =
    let same : f.count ≡ k = omega (arith, f.place) in
    ⊎_elim
    (λ dead. absurd (let e : Duplicate k ≡ Unexpected (0 + f.count) = dead.0 in cc))
    (λ w. record {
      repeated = r;
      expected = subst (λ n. BeginsAFile (take (n + 1) ts)) same (begins ts (f.count + 1) w.live);
    })
    f.here

pub first_flaw : (e : Flaw) (ts : List Word) → stuck ts 0 [] ≡ Some e → IsKnown ts e → IsFirstFlaw ts e
first_flaw (Unexpected k) ts found known =
    let f = found_at ts [] 0 (Unexpected k) found in
    (unexpected_here ts k f, λ other before. no_earlier ts (Unexpected k) other found f before)
first_flaw (TooNested k) ts found known =
    let f = found_at ts [] 0 (TooNested k) found in
    (too_nested_here ts k f, λ other before. no_earlier ts (TooNested k) other found f before)
first_flaw (Duplicate k) ts found known =
    let f = found_at ts [] 0 (Duplicate k) found in
    (duplicate_here ts k f known, λ other before. no_earlier ts (Duplicate k) other found f before)

pub no_flaw : (ts : List Word) (ds : List Definition) → stuck ts 0 [] ≡ None → SpellsFile ds ts → (e : Flaw)
    → IsFlaw ts e → ⊥
no_flaw ts ds found s (Unexpected k) f = tree_or_unexpected ts ds k s f
no_flaw ts ds found s (TooNested k) f = no_bracket ts None k found tt f
no_flaw ts ds found s (Duplicate k) f = no_name ts None k found tt f.repeated
