use Rattle.std.proofs.Common.{◌≡◌, ◌≤◌, ◌∷◌, ap, sym, ◌∙◌, arith}
use Rattle.std.specs.Prelude.{reverse, Ok}
use Rattle.std.proofs.lemmas.Result.{err_from_is_err_and}
use Rattle.bp_faults.specs.Answers.{then_do}
use Rattle.bp_faults.proofs.Refusals.{answered}
use Rattle.bp_values.specs.Scopes.{pairs_of, count_of, HasOuter}
use Rattle.bp_values.specs.Meaning.{file_evaluation}
use Rattle.bp_load.specs.declared.opened.Open.{Open}
use Rattle.bp_load.specs.Trees.{placed_of}
use Rattle.bp_load.specs.Opened.{turn_of, next_turn, stay_open, names_in, scope_in, innermost, still_open}
use Rattle.bp_load.proofs.Turns.{with_file}
use Rattle.bp_load.proofs.Nested.{inherits, within, outer_after, reverse_push, opened_more, nested_more, base_more}
use Rattle.bp_load.proofs.Nested.{turned_by}
use Rattle.bp_load.proofs.opened.evaluate_file.Goals as goal

pub returns-in_err-more-clause-turn : goal.returns-in_err-more-clause-turn
returns-in_err-more-clause-turn c base is =
    let e = c.args.evaluation in
    let s = e.scope in
    let d = c.args.file.directory in
    let os = reverse e.opened.items in
    let stay = reverse c.close.new.opened.items in
    let closes : stay ≡ stay_open d os = c.close.ensures in
    let n = c.outer_names.result in
    let count : n ≡ names_in e.base stay =
    c.outer_names.ensures ∙ ap (λ l. names_in e.base (reverse l)) c.as_slice.ensures.value in
    let file = placed_of c.args.file in
    let inherited = c.outer-inherited.result in
    let scope : pairs_of inherited ≡ scope_in base (innermost (still_open d (turn_of e).opened)) =
    c.outer-inherited.ensures.pairs ∙ inherits s e.base n base os stay d closes is.0 is.1 count in
    let refused = err_from_is_err_and c.from_residual.result c.from_residual.ensures.1 in
    rw (refused.1, refused.2)
    (answered turn_of c.in_err-more.field-0.0 (file_evaluation (pairs_of inherited) file.defs)
    (next_turn base (turn_of e) file) c.in_err-more.ensures.values
    (λ fault wrong. turned_by base (pairs_of inherited) (turn_of e) file scope
    ∙ ap (λ r. then_do r (λ values. Ok (with_file (turn_of e) (still_open d (turn_of e).opened) file values))) wrong))

pub returns-clause-turn : goal.returns-clause-turn
returns-clause-turn c base is =
    let e = c.args.evaluation in
    let s = e.scope in
    let d = c.args.file.directory in
    let os = reverse e.opened.items in
    let stay = reverse c.close.new.opened.items in
    let closes : stay ≡ stay_open d os = c.close.ensures in
    let n = c.outer_names.result in
    let count : n ≡ names_in e.base stay =
    c.outer_names.ensures ∙ ap (λ l. names_in e.base (reverse l)) c.as_slice.ensures.value in
    let file = placed_of c.args.file in
    let inherited = c.outer-inherited.result in
    let scope : pairs_of inherited ≡ scope_in base (innermost (still_open d (turn_of e).opened)) =
    c.outer-inherited.ensures.pairs ∙ inherits s e.base n base os stay d closes is.0 is.1 count in
    let new = c.in_ok-more.scope in
    let o : Open = record { directory = c.args.file.directory; names = c.len-names.result } in
    let as_many : count_of inherited ≡ n =
    c.outer-inherited.ensures.count (within s e.base n base os stay d closes is.0 is.1 count) in
    let outer : HasOuter n s new =
    outer_after s inherited new n c.outer-inherited.ensures.outer as_many c.in_ok-more.ensures.outer in
    let grown : n ≤ count_of new = omega (arith, as_many, c.in_ok-more.ensures.count) in
    let pushed : reverse c.push.new.self.items ≡ o ∷ stay =
    ap reverse c.in_ok-push.ensures.items ∙ reverse_push c.close.new.opened.items o in
    let names : c.len-names.result ≡ count_of new = c.len-names.ensures in
    turned_by base (pairs_of inherited) (turn_of e) file scope
    ∙ ap (λ r. then_do r (λ values. Ok (with_file (turn_of e) (still_open d (turn_of e).opened) file values)))
    c.in_ok-more.ensures.values
    ∙ (λ i. Ok (record {
      opened =
          sym (opened_more s e.base n base os stay d closes is.0 is.1 count new o c.push.new.self.items pushed names
          outer grown) i;
      modules = sym c.in_ok-put_modules.ensures i;
    }))

pub returns-clause-below : goal.returns-clause-below
returns-clause-below c base is =
    let e = c.args.evaluation in
    let s = e.scope in
    let d = c.args.file.directory in
    let os = reverse e.opened.items in
    let stay = reverse c.close.new.opened.items in
    let closes : stay ≡ stay_open d os = c.close.ensures in
    let n = c.outer_names.result in
    let count : n ≡ names_in e.base stay =
    c.outer_names.ensures ∙ ap (λ l. names_in e.base (reverse l)) c.as_slice.ensures.value in
    let inherited = c.outer-inherited.result in
    let new = c.in_ok-more.scope in
    let o : Open = record { directory = c.args.file.directory; names = c.len-names.result } in
    let as_many : count_of inherited ≡ n =
    c.outer-inherited.ensures.count (within s e.base n base os stay d closes is.0 is.1 count) in
    let outer : HasOuter n s new =
    outer_after s inherited new n c.outer-inherited.ensures.outer as_many c.in_ok-more.ensures.outer in
    let grown : n ≤ count_of new = omega (arith, as_many, c.in_ok-more.ensures.count) in
    let pushed : reverse c.push.new.self.items ≡ o ∷ stay =
    ap reverse c.in_ok-push.ensures.items ∙ reverse_push c.close.new.opened.items o in
    let names : c.len-names.result ≡ count_of new = c.len-names.ensures in (
      nested_more s e.base n base os stay d closes is.0 is.1 count new o c.push.new.self.items pushed names outer grown,
      base_more s e.base n base os stay d closes is.0 is.1 count new o c.push.new.self.items pushed names outer grown,
    )
