-- Words have a tree or a first fault.
use Rattle.std.specs.Prelude.{◌⊎◌}
use Rattle.std.proofs.Common.{◌≡◌, ℕ, ◌+◌, List, [], ◌∷◌, Option, Some, None, refl, inl, inr}
use Rattle.bp_faults.specs.declared.fault.Fault.{Fault}
use Rattle.bp_lexer.specs.declared.token.Punct.TheVariants.{Plus}
use Rattle.bp_lexer.specs.declared.token.TokenKind.TheVariants.{Punct as Mark}
use Rattle.bp_parser.specs.declared.flaw.Flaw.{Flaw}
use Rattle.bp_parser.specs.declared.flaw.Flaw.TheVariants.{Unexpected, TooNested, Duplicate}
use Rattle.bp_parser.specs.Trees.{File, no_term}
use Rattle.bp_parser.specs.Words.{Word}
use Rattle.bp_parser.specs.Machine.{Part, an_expr, more_terms, items, more_items, a_colon, entries, more_entries}
use Rattle.bp_parser.specs.Machine.{a_value, behind_all, flaw_at, at_end, go_behind, stuck, IsKnown}
use Rattle.bp_parser.specs.Meaning.{IsTree, IsFirstParseFault, number_of_file, parse_fault}
use Rattle.bp_parser.proofs.Firsts.{none_starts}
use Rattle.bp_parser.proofs.Language.{Lang}
use Rattle.bp_parser.proofs.FirstFlaw.{before_lang, first_flaw}
use Rattle.bp_parser.proofs.DefsRead.{tree_meant}
use Rattle.bp_parser.proofs.Tracks.{tracked}

some_none : {A : Type 0} (e : Flaw) → Some e ≡ None → A
some_none e is = absurd cc

ended : (ps : List Part) (at : ℕ) → at_end ps at ≡ None → Lang ps []
ended [] at e = ([], refl)
ended (more_terms ∷ ps) at e = ([], (no_term, refl, none_starts (Mark Plus)), ended ps at e)
ended (an_expr ∷ ps) at e = some_none (Unexpected at) e
ended (items ∷ ps) at e = some_none (Unexpected at) e
ended (more_items ∷ ps) at e = some_none (Unexpected at) e
ended (a_colon ∷ ps) at e = some_none (Unexpected at) e
ended (entries names ∷ ps) at e = some_none (Unexpected at) e
ended (more_entries names ∷ ps) at e = some_none (Unexpected at) e
ended (a_value ∷ ps) at e = some_none (Unexpected at) e

step_accepted : (o : Option (List Part)) (f : Option Flaw) (ps : List Part) (w : Word) (ws : List Word) (at : ℕ)
    → behind_all ps w.kind w.text ≡ o → ((new : List Part) → stuck ws (at + 1) new ≡ None → Lang new ws)
    → go_behind o f at (λ new. stuck ws (at + 1) new) ≡ None → Lang ps (w ∷ ws)
step_accepted None f ps w ws at goes more e = some_none (Unexpected at) e
step_accepted (Some new) (Some flaw) ps w ws at goes more e = some_none flaw e
step_accepted (Some new) None ps w ws at goes more e = before_lang ps new w ws goes (more new e)

-- words that leave nothing expected are a file's
accepted : (ws : List Word) (ps : List Part) (at : ℕ) → stuck ws at ps ≡ None → Lang ps ws
accepted [] ps at e = ended ps at e
accepted (w ∷ ws) ps at e =
    step_accepted (behind_all ps w.kind w.text) (flaw_at ps w.kind w.text at) ps w ws at refl
    (λ new g. accepted ws new (at + 1) g) e

known : (ws : List Word) (flaw : Flaw) → stuck ws 0 [] ≡ Some flaw → IsKnown ws flaw
known ws (Unexpected k) e = tt
known ws (TooNested k) e = tt
known ws (Duplicate k) e = tracked ws [] ws 0 k refl tt e

decide : (text : List ℕ) (ws : List Word) (r : Option Flaw) → stuck ws 0 [] ≡ r
    → ((tree : File) × IsTree ws tree) ⊎ ((fault : Fault) × IsFirstParseFault text ws fault)
decide text ws None e =
    let file = accepted ws [] 0 e in
    inl (record { file = number_of_file ws; defs = file.0 }, tree_meant ws (number_of_file ws) file.0 refl file.1 e)
decide text ws (Some flaw) e = inr (parse_fault text ws flaw, (flaw, first_flaw flaw ws e (known ws flaw e), refl))

pub some_meaning : (text : List ℕ) (ws : List Word)
    → ((tree : File) × IsTree ws tree) ⊎ ((fault : Fault) × IsFirstParseFault text ws fault)
some_meaning text ws = decide text ws (stuck ws 0 []) refl
