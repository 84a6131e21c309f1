use Rattle.std.proofs.Common.{◌≡◌, ◌++◌, arith, subst, string_bytes, inr}
use Rattle.std.proofs.lemmas.Grind.{common_steps}
use Rattle.std.proofs.lemmas.Result.{err_from_is_err_and}
use Rattle.bp_ports.specs.Files.{WhereTold, AppendsPart}
use Rattle.std.specs.Option.{option_copied}
use Rattle.fault_view.specs.View.{Softly, IsBehind}
use Rattle.fault_view.proofs.view.put_line.Goals as goal

pub returns-in_err-put-clause-part : goal.returns-in_err-put-clause-part
returns-in_err-put-clause-part g c =
    let refused = err_from_is_err_and c.from_residual-in_err-put.result c.from_residual-in_err-put.ensures.1 in
    let whole : c.deref-2.result.now ≡ c.args.line.items ++ string_bytes c.in_ok-note.note =
    grind (arith, common_steps) in
    rw refused.1
    (inr (record {
      note = string_bytes c.in_ok-note.note;
      put =
          subst (λ xs. WhereTold (AppendsPart xs) (g.O.Sink.bytes c.args.out.now) (g.O.Sink.bytes c.put.new.self))
          whole c.in_err-put.ensures.contents;
      exact =
          subst (λ line. Softly (g.S.Store.files c.args.store.now) (g.S.Store.read_faults c.args.store.now)
          (g.S.Store.read_faults c.line_note.new.store)
          (λ files. IsBehind (option_copied c.args.list) files line (string_bytes c.in_ok-note.note)))
          c.deref.ensures.value c.in_ok-note.ensures.exact;
    }))

pub returns-clause-put : goal.returns-clause-put
returns-clause-put g c =
    let whole : c.deref-2.result.now ≡ c.args.line.items ++ string_bytes c.in_ok-note.note =
    grind (arith, common_steps) in
    record {
      note = string_bytes c.in_ok-note.note;
      put =
          subst (λ xs. WhereTold (λ a b. b ≡ a ++ xs) (g.O.Sink.bytes c.args.out.now) (g.O.Sink.bytes c.put.new.self))
          whole c.in_ok-put.ensures.contents;
      exact =
          subst (λ line. Softly (g.S.Store.files c.args.store.now) (g.S.Store.read_faults c.args.store.now)
          (g.S.Store.read_faults c.line_note.new.store)
          (λ files. IsBehind (option_copied c.args.list) files line (string_bytes c.in_ok-note.note)))
          c.deref.ensures.value c.in_ok-note.ensures.exact;
    }
