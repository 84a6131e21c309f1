use Rattle.std.proofs.Common.{arith, ap, sym, refl, is_ok, subst, drop, ◌∙◌, ◌+◌, ◌∷◌, ◌++◌, ◌≡◌, [], true}
use Rattle.std.specs.Prelude.{cond}
use Rattle.std.specs.Str.{bytes_eq}
use Rattle.std.proofs.ResultArms.{chosen}
use Rattle.std.proofs.lemmas.Result.{err_from_is_err_and}
use Rattle.bp_lexer.specs.declared.token.Punct.TheVariants.{OpenBrace, CloseBrace, OpenBracket, CloseBracket, Colon}
use Rattle.bp_lexer.specs.Meaning.{word_of}
use Rattle.bp_parser.specs.Trees.{Entry, tree_of, tree_and, term_and, no_entry, entry_and}
use Rattle.bp_parser.specs.Words.{all_words}
use Rattle.bp_parser.specs.Grammar.{IsMark}
use Rattle.bp_parser.specs.Machine.{an_expr, more_terms, items, more_items, entries, more_entries, stuck, depth_of}
use Rattle.bp_parser.specs.Machine.{is_among}
use Rattle.bp_names.specs.Meaning.{knows}
use Rattle.bp_parser.proofs.Steps.{pass_mark, pass_plus, into_list, into_map, items_expr, ended, more_items_stop}
use Rattle.bp_parser.proofs.Steps.{more_entries_stop, entries_stop, colon_stop, stops_within, stops_at, trees_then_push}
use Rattle.bp_parser.proofs.Steps.{terms_then_push, entries_then_push, names_push, names_in, name_again, to_colon}
use Rattle.bp_parser.proofs.Steps.{to_value, has_name_push, map_roll}
use Rattle.bp_parser.proofs.PartsRead.{ident_here, item_spelled, item_passed, entry_spelled, entry_passed, comma_before}
use Rattle.bp_parser.proofs.PartsRead.{within_part, too_nested, repeated, known_from, new_from}
use Rattle.bp_parser.proofs.expr.+parser.Goals as goal

pub list_at-returns-clause-goes_on : goal.list_at-returns-clause-goes_on
list_at-returns-clause-goes_on t c = λ parts deep.
    let ws = all_words c.args.text.now c.args.words.now in
    c.reading.invariant.goes_on parts deep ∙
    pass_mark CloseBracket (drop c.reading.next ws) (drop (c.reading.next + 1) ws) c.reading.next (items ∷ parts) parts
    ((c.reading-test.ensures.yes refl).here c.args.text.now) (λ n. refl) (λ n. refl)

pub list_at-returns-in_err-item-clause-stops : goal.list_at-returns-in_err-item-clause-stops
list_at-returns-in_err-item-clause-stops t c =
    let p = err_from_is_err_and c.from_residual.result c.from_residual.ensures.1 in
    let ws = all_words c.args.text.now c.args.words.now in
    rw (p.1, p.2)
    (stops_within (items ∷ []) (an_expr ∷ []) (more_items ∷ []) ws c.args.at c.reading.next c.args.depth
    (c.args.depth + 1) c.in_err-item.field-0.0
    (λ parts deep. (
      omega (arith, deep),
      c.reading.invariant.goes_on parts deep
          ∙ items_expr (drop c.reading.next ws) c.reading.next parts
          (c.reading-test.ensures.other refl c.args.text.now),
    ))
    c.in_err-item.ensures.stops)

pub list_at-returns-in_err-next-clause-stops : goal.list_at-returns-in_err-next-clause-stops
list_at-returns-in_err-next-clause-stops t c =
    let p = err_from_is_err_and c.from_residual-in_err-next.result c.from_residual-in_err-next.ensures.1 in
    let text = c.args.text.now in
    let ws = all_words text c.args.words.now in
    let wrong = c.in_err-next.ensures.err in
    rw (p.1, p.2)
    (stops_at (items ∷ []) ws c.args.at c.args.depth c.in_ok-item.behind c.in_err-next.field-0.0 wrong.0
    (λ parts deep.
    let deeper : depth_of (more_items ∷ parts) ≡ c.args.depth + 1 = omega (arith, deep) in
    c.reading.invariant.goes_on parts deep ∙
    items_expr (drop c.reading.next ws) c.reading.next parts (c.reading-test.ensures.other refl text) ∙
    c.in_ok-item.ensures.goes_on (more_items ∷ parts) deeper ∙
    more_items_stop (drop c.in_ok-item.behind ws) c.in_ok-item.behind parts (wrong.2 text) (wrong.1 text)))

pub list_at-reading-preserved : goal.list_at-reading-preserved
list_at-reading-preserved t c =
    let text = c.args.text.now in
    let ts = c.args.words.now in
    let ws = all_words text ts in
    let pushed = chosen _ _ _ _ c.push.ensures.items (ap is_ok c.in_ok-push.was) in
    let ends = c.in_ok-next.ensures.ok in
    let within =
    within_part CloseBracket ts c.in_ok-item.behind c.in_ok-next.next c.in_ok-item.ensures.further.1 ends in
    record {
      started = omega (arith, c.in_ok-item.ensures.further, within.0);
      within = within.1;
      spells = λ more rest s.
          rw (pushed, trees_then_push)
          (c.reading.invariant.spells (tree_and (tree_of c.in_ok-item.item) more) rest (
            drop c.in_ok-item.behind ws,
            c.in_ok-item.ensures.spells,
            item_spelled text ts c.in_ok-item.behind c.in_ok-next.next more rest ends s,
          ));
      goes_on = λ parts deep.
          let deeper : depth_of (more_items ∷ parts) ≡ c.args.depth + 1 = omega (arith, deep) in
          c.reading.invariant.goes_on parts deep ∙
          items_expr (drop c.reading.next ws) c.reading.next parts (c.reading-test.ensures.other refl text) ∙
          c.in_ok-item.ensures.goes_on (more_items ∷ parts) deeper ∙
          item_passed text ts c.in_ok-item.behind c.in_ok-next.next parts ends;
    }

pub prim_at-returns-in_err-check_depth-clause-stops : goal.prim_at-returns-in_err-check_depth-clause-stops
prim_at-returns-in_err-check_depth-clause-stops t c =
    let p = err_from_is_err_and c.from_residual.result c.from_residual.ensures.1 in
    let ws = all_words c.args.text.now c.args.words.now in
    rw (p.1, p.2)
    (too_nested OpenBracket (λ parts. items ∷ more_terms ∷ parts) ws c.args.at c.args.depth
    c.in_err-check_depth.field-0.0 ((c.is_mark.ensures.yes c.if-is_mark.true).here c.args.text.now) (λ n parts. refl)
    (λ n parts. refl) c.in_err-check_depth.ensures.err)

pub prim_at-returns-in_err-list-clause-stops : goal.prim_at-returns-in_err-list-clause-stops
prim_at-returns-in_err-list-clause-stops t c =
    let p = err_from_is_err_and c.from_residual-in_err-list.result c.from_residual-in_err-list.ensures.1 in
    let ws = all_words c.args.text.now c.args.words.now in
    rw (p.1, p.2)
    (stops_within (an_expr ∷ []) (items ∷ []) (more_terms ∷ []) ws c.args.at
    (c.args.at + 1) c.args.depth c.args.depth c.in_err-list.field-0.0
    (λ parts deep. (
      deep,
      into_list ws c.args.at parts ((c.is_mark.ensures.yes c.if-is_mark.true).here c.args.text.now)
          (omega (arith, deep, c.in_ok-check_depth.ensures.ok)),
    ))
    c.in_err-list.ensures.stops)

pub prim_at-returns-then-is_mark-clause-goes_on : goal.prim_at-returns-then-is_mark-clause-goes_on
prim_at-returns-then-is_mark-clause-goes_on t c = λ parts deep.
    let ws = all_words c.args.text.now c.args.words.now in
    into_list ws c.args.at parts ((c.is_mark.ensures.yes c.if-is_mark.true).here c.args.text.now)
    (omega (arith, deep, c.in_ok-check_depth.ensures.ok)) ∙
    c.in_ok-list.ensures.goes_on (more_terms ∷ parts) deep

pub prim_at-returns-in_err-check_depth-2-clause-stops : goal.prim_at-returns-in_err-check_depth-2-clause-stops
prim_at-returns-in_err-check_depth-2-clause-stops t c =
    let p =
    err_from_is_err_and c.from_residual-in_err-check_depth-2.result c.from_residual-in_err-check_depth-2.ensures.1 in
    let ws = all_words c.args.text.now c.args.words.now in
    rw (p.1, p.2)
    (too_nested OpenBrace (λ parts. entries [] ∷ more_terms ∷ parts) ws c.args.at c.args.depth
    c.in_err-check_depth-2.field-0.0 ((c.is_mark-2.ensures.yes c.if-is_mark-2.true).here c.args.text.now)
    (λ n parts. refl) (λ n parts. refl) c.in_err-check_depth-2.ensures.err)

pub prim_at-returns-in_err-map-clause-stops : goal.prim_at-returns-in_err-map-clause-stops
prim_at-returns-in_err-map-clause-stops t c =
    let p = err_from_is_err_and c.from_residual-in_err-map.result c.from_residual-in_err-map.ensures.1 in
    let ws = all_words c.args.text.now c.args.words.now in
    rw (p.1, p.2)
    (stops_within (an_expr ∷ []) (entries [] ∷ []) (more_terms ∷ []) ws c.args.at
    (c.args.at + 1) c.args.depth c.args.depth c.in_err-map.field-0.0
    (λ parts deep. (
      deep,
      into_map ws c.args.at parts ((c.is_mark-2.ensures.yes c.if-is_mark-2.true).here c.args.text.now)
          (omega (arith, deep, c.in_ok-check_depth-2.ensures.ok)),
    ))
    c.in_err-map.ensures.stops)

pub prim_at-returns-then-is_mark-2-clause-goes_on : goal.prim_at-returns-then-is_mark-2-clause-goes_on
prim_at-returns-then-is_mark-2-clause-goes_on t c = λ parts deep.
    let ws = all_words c.args.text.now c.args.words.now in
    into_map ws c.args.at parts ((c.is_mark-2.ensures.yes c.if-is_mark-2.true).here c.args.text.now)
    (omega (arith, deep, c.in_ok-check_depth-2.ensures.ok)) ∙
    c.in_ok-map.ensures.goes_on (more_terms ∷ parts) deep

pub terms_at-returns-in_err-term-clause-stops : goal.terms_at-returns-in_err-term-clause-stops
terms_at-returns-in_err-term-clause-stops t c =
    let p = err_from_is_err_and c.from_residual.result c.from_residual.ensures.1 in
    let ws = all_words c.args.text.now c.args.words.now in
    rw (p.1, p.2)
    (stops_within (more_terms ∷ []) (an_expr ∷ []) [] ws c.args.at
    (c.reading.next + 1) c.args.depth c.args.depth c.in_err-term.field-0.0
    (λ parts deep. (
      deep,
      c.reading.invariant.goes_on parts deep
          ∙ pass_plus ws c.reading.next parts ((c.reading-test.ensures.yes refl).here c.args.text.now),
    ))
    c.in_err-term.ensures.stops)

pub terms_at-reading-preserved : goal.terms_at-reading-preserved
terms_at-reading-preserved t c =
    let text = c.args.text.now in
    let ws = all_words text c.args.words.now in
    let pushed = chosen _ _ _ _ c.push.ensures.items (ap is_ok c.in_ok-push.was) in
    let plus = c.reading-test.ensures.yes refl in
    record {
      started = omega (arith, c.in_ok-term.ensures.further);
      within = c.in_ok-term.ensures.further.1;
      spells = λ more rest s.
          rw (pushed, terms_then_push)
          (c.reading.invariant.spells (term_and _ (tree_of c.in_ok-term.term) more) rest (
            drop (c.reading.next + 1) ws,
            drop c.in_ok-term.behind ws,
            plus.place text _,
            c.in_ok-term.ensures.prim,
            c.in_ok-term.ensures.spells,
            s,
          ));
      goes_on = λ parts deep.
          c.reading.invariant.goes_on parts deep ∙
          pass_plus ws c.reading.next parts (plus.here text) ∙
          c.in_ok-term.ensures.goes_on parts deep;
    }

pub terms_at-returns-clause-goes_on : goal.terms_at-returns-clause-goes_on
terms_at-returns-clause-goes_on t c = λ parts deep.
    let ws = all_words c.args.text.now c.args.words.now in
    c.reading.invariant.goes_on parts deep ∙
    ended (drop c.reading.next ws) c.reading.next parts (c.reading-test.ensures.other refl c.args.text.now)

pub map_at-returns-in_err-name-clause-stops : goal.map_at-returns-in_err-name-clause-stops
map_at-returns-in_err-name-clause-stops t c =
    let p = err_from_is_err_and c.from_residual.result c.from_residual.ensures.1 in
    let text = c.args.text.now in
    let ws = all_words text c.args.words.now in
    let wrong = c.in_err-name.ensures.err in
    rw (p.1, p.2)
    (stops_at (entries [] ∷ []) ws (c.args.at + 1) c.args.depth c.reading.next c.in_err-name.field-0.0 wrong.0
    (λ parts deep.
    c.reading.invariant.goes_on parts deep ∙
    entries_stop (drop c.reading.next ws) c.reading.next (names_in c.reading.entries.items) parts
    (c.reading-test.ensures.other refl text) wrong.1))

pub map_at-returns-then-not-branch-clause-stops : goal.map_at-returns-then-not-branch-clause-stops
map_at-returns-then-not-branch-clause-stops t c =
    let text = c.args.text.now in
    let ws = all_words text c.args.words.now in
    let name = c.in_ok-name.name in
    let here =
    ident_here text c.args.words.now c.reading.next name c.in_ok-name.ensures.ok.0 c.in_ok-name.ensures.ok.1 in
    let again = sym (c.reading.invariant.known (word_of text name))
    ∙ ap (knows c.reading.known) (sym c.text.ensures)
    ∙ known_from _ _ c.in_ok-learn.ensures.new c.if-not-branch.true in (
      (λ parts deep.
          c.reading.invariant.goes_on parts deep ∙
          name_again ws c.reading.next name.place (word_of text name)
          (names_in c.reading.entries.items) parts here again),
      repeated ws (drop (c.args.at + 1) ws) c.args.at c.reading.next c.reading.entries.items name.place
          (word_of text name) (c.reading.invariant.opened.here text)
          (c.reading.invariant.first (c.reading-test.ensures.other refl) no_entry (drop c.reading.next ws) refl) here
          again,
    )

pub map_at-returns-in_err-expect-clause-stops : goal.map_at-returns-in_err-expect-clause-stops
map_at-returns-in_err-expect-clause-stops t c =
    let p = err_from_is_err_and c.from_residual-in_err-expect.result c.from_residual-in_err-expect.ensures.1 in
    let text = c.args.text.now in
    let ws = all_words text c.args.words.now in
    let name = c.in_ok-name.name in
    let names = names_in c.reading.entries.items in
    let here =
    ident_here text c.args.words.now c.reading.next name c.in_ok-name.ensures.ok.0 c.in_ok-name.ensures.ok.1 in
    let new = sym (c.reading.invariant.known (word_of text name))
    ∙ ap (knows c.reading.known) (sym c.text.ensures)
    ∙ new_from _ _ c.in_ok-learn.ensures.new c.if-not-branch.false in
    let wrong = c.in_err-expect.ensures.err in
    rw (p.1, p.2)
    (stops_at (entries [] ∷ []) ws (c.args.at + 1) c.args.depth (c.reading.next + 1) c.in_err-expect.field-0.0 wrong.0
    (λ parts deep.
    c.reading.invariant.goes_on parts deep ∙
    to_colon ws c.reading.next name.place (word_of text name) names parts here new ∙
    colon_stop (drop (c.reading.next + 1) ws) (c.reading.next + 1)
    (an_expr ∷ more_entries (names ++ word_of text name ∷ []) ∷ parts) (wrong.1 text)))

pub map_at-returns-in_err-value-clause-stops : goal.map_at-returns-in_err-value-clause-stops
map_at-returns-in_err-value-clause-stops t c =
    let p = err_from_is_err_and c.from_residual-in_err-value.result c.from_residual-in_err-value.ensures.1 in
    let text = c.args.text.now in
    let ws = all_words text c.args.words.now in
    let name = c.in_ok-name.name in
    let names = names_in c.reading.entries.items in
    let here =
    ident_here text c.args.words.now c.reading.next name c.in_ok-name.ensures.ok.0 c.in_ok-name.ensures.ok.1 in
    let new = sym (c.reading.invariant.known (word_of text name))
    ∙ ap (knows c.reading.known) (sym c.text.ensures)
    ∙ new_from _ _ c.in_ok-learn.ensures.new c.if-not-branch.false in
    rw (p.1, p.2)
    (stops_within (entries [] ∷ []) (an_expr ∷ []) (more_entries (names ++ word_of text name ∷ []) ∷ []) ws
    (c.args.at + 1) (c.reading.next + 2) c.args.depth (c.args.depth + 1) c.in_err-value.field-0.0
    (λ parts deep. (
      omega (arith, deep),
      c.reading.invariant.goes_on parts deep
          ∙ to_value ws c.reading.next name.place (word_of text name) names parts here new
          (c.in_ok-expect.ensures.ok.here text),
    ))
    c.in_err-value.ensures.stops)

pub map_at-returns-in_err-next-clause-stops : goal.map_at-returns-in_err-next-clause-stops
map_at-returns-in_err-next-clause-stops t c =
    let p = err_from_is_err_and c.from_residual-in_err-next.result c.from_residual-in_err-next.ensures.1 in
    let text = c.args.text.now in
    let ws = all_words text c.args.words.now in
    let name = c.in_ok-name.name in
    let names = names_in c.reading.entries.items in
    let here =
    ident_here text c.args.words.now c.reading.next name c.in_ok-name.ensures.ok.0 c.in_ok-name.ensures.ok.1 in
    let new = sym (c.reading.invariant.known (word_of text name))
    ∙ ap (knows c.reading.known) (sym c.text.ensures)
    ∙ new_from _ _ c.in_ok-learn.ensures.new c.if-not-branch.false in
    let wrong = c.in_err-next.ensures.err in
    rw (p.1, p.2)
    (stops_at (entries [] ∷ []) ws (c.args.at + 1) c.args.depth c.in_ok-value.behind c.in_err-next.field-0.0 wrong.0
    (λ parts deep.
    let more = more_entries (names ++ word_of text name ∷ []) ∷ parts in
    let deeper : depth_of more ≡ c.args.depth + 1 = omega (arith, deep) in
    c.reading.invariant.goes_on parts deep ∙
    to_value ws c.reading.next name.place (word_of text name) names parts here new
    (c.in_ok-expect.ensures.ok.here text) ∙
    c.in_ok-value.ensures.goes_on more deeper ∙
    more_entries_stop (drop c.in_ok-value.behind ws) c.in_ok-value.behind (names ++ word_of text name ∷ []) parts
    (wrong.2 text) (wrong.1 text)))

pub map_at-reading-preserved : goal.map_at-reading-preserved
map_at-reading-preserved t c =
    let text = c.args.text.now in
    let ts = c.args.words.now in
    let ws = all_words text ts in
    let name = c.in_ok-name.name in
    let word = word_of text name in
    let names = names_in c.reading.entries.items in
    let here = ident_here text ts c.reading.next name c.in_ok-name.ensures.ok.0 c.in_ok-name.ensures.ok.1 in
    let new = sym (c.reading.invariant.known word)
    ∙ ap (knows c.reading.known) (sym c.text.ensures)
    ∙ new_from _ _ c.in_ok-learn.ensures.new c.if-not-branch.false in
    let colon = c.in_ok-expect.ensures.ok.here text in
    let two : c.reading.next + 1 + 1 ≡ c.reading.next + 2 = omega arith in
    let colon' : IsMark Colon (drop (c.reading.next + 1) ws) (drop (c.reading.next + 2) ws) =
    subst (λ i. IsMark Colon (drop (c.reading.next + 1) ws) (drop i ws)) two colon in
    let pushed = chosen _ _ _ _ c.push.ensures.items (ap is_ok c.in_ok-push.was) in
    let ends = c.in_ok-next.ensures.ok in
    let behind = c.in_ok-value.behind in
    let within = within_part CloseBrace ts behind c.in_ok-next.next c.in_ok-value.ensures.further.1 ends in
    let value = tree_of c.in_ok-value.value in
    let all_names : names_in c.push.new.self.items ≡ names ++ word ∷ [] =
    ap names_in pushed
    ∙ names_push c.reading.entries.items c.in_ok-entry.field-0
    ∙ ap (λ (e : Entry). names ++ e.name ∷ []) c.in_ok-entry.ensures in
    record {
      started = omega (arith, c.in_ok-value.ensures.further, within.0);
      within = within.1;
      opened = c.reading.invariant.opened;
      known = λ q.
          c.in_ok-learn.ensures.known q ∙
          ap (λ n. cond (bytes_eq n q) true (knows c.reading.known q)) c.text.ensures ∙
          ap (λ b. cond (bytes_eq word q) true b) (c.reading.invariant.known q) ∙
          sym (has_name_push q word names) ∙
          ap (is_among q) (sym all_names);
      first = λ other more rest s.
          rw (pushed, entries_then_push, c.in_ok-entry.ensures)
          (c.reading.invariant.first (c.reading-test.ensures.other refl) (entry_and word name.place value more) rest (
            drop (c.reading.next + 1) ws,
            drop (c.reading.next + 2) ws,
            drop behind ws,
            drop c.in_ok-next.next ws,
            here,
            colon',
            c.in_ok-value.ensures.spells,
            comma_before text ts behind c.in_ok-next.next ends other,
            s,
          ));
      spells = λ more rest s.
          rw (pushed, entries_then_push, c.in_ok-entry.ensures)
          (c.reading.invariant.spells (entry_and word name.place value more) rest (
            drop (c.reading.next + 1) ws,
            drop (c.reading.next + 2) ws,
            drop behind ws,
            here,
            colon',
            c.in_ok-value.ensures.spells,
            entry_spelled text ts behind c.in_ok-next.next more rest ends s,
          ));
      goes_on = λ parts deep.
          let more = more_entries (names ++ word ∷ []) ∷ parts in
          let deeper : depth_of more ≡ c.args.depth + 1 = omega (arith, deep) in
          c.reading.invariant.goes_on parts deep ∙
          to_value ws c.reading.next name.place word names parts here new colon ∙
          c.in_ok-value.ensures.goes_on more deeper ∙
          entry_passed text ts behind c.in_ok-next.next (names ++ word ∷ []) parts ends ∙
          ap (λ l. stuck (drop c.in_ok-next.next ws) c.in_ok-next.next (entries l ∷ parts)) (sym all_names);
    }

pub map_at-returns-clause-spells : goal.map_at-returns-clause-spells
map_at-returns-clause-spells t c =
    let text = c.args.text.now in
    let ws = all_words text c.args.words.now in
    rw map_roll (
      drop (c.args.at + 1) ws,
      c.reading.invariant.opened.place text _,
      c.reading.invariant.spells no_entry (drop (c.reading.next + 1) ws) ((c.reading-test.ensures.yes refl).here text),
    )

pub map_at-returns-clause-goes_on : goal.map_at-returns-clause-goes_on
map_at-returns-clause-goes_on t c = λ parts deep.
    let ws = all_words c.args.text.now c.args.words.now in
    c.reading.invariant.goes_on parts deep ∙
    pass_mark CloseBrace (drop c.reading.next ws) (drop (c.reading.next + 1) ws) c.reading.next
    (entries (names_in c.reading.entries.items) ∷ parts) parts ((c.reading-test.ensures.yes refl).here c.args.text.now)
    (λ n. refl) (λ n. refl)
