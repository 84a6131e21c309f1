use Rattle.std.proofs.Common.{◌≡◌, ◌++◌, ℕ, List, [], ◌∷◌, Bool, true, false, ap, ◌∙◌}
use Rattle.bp_props.specs.declared.listed.Listed.{Listed}
use Rattle.bp_props.specs.Meaning.{with_items}
use Rattle.info_mutators.specs.Sanitize.{sanitizer_flag, with_flag_if}
use Rattle.info_mutators.proofs.sanitize.add_flag_if.Goals as goal

-- a list with the flag behind it
flagged : (needed : Bool) (list new : Listed (List ℕ)) (text : List ℕ) → needed ≡ true → text ≡ sanitizer_flag
    → new ≡ with_items (list.items ++ text ∷ []) list → new ≡ with_flag_if needed list
flagged true list new text is same e = e ∙ ap (λ (x : List ℕ). with_items (list.items ++ x ∷ []) list) same
flagged false list new text is same e = cc

pub returns-in_ok-push : goal.returns-in_ok-push
returns-in_ok-push c =
    flagged c.args.needed c.args.list.now _ c.in_ok-from_str.field-0 c.if-needed.true
    c.in_ok-from_str.ensures c.in_ok-push.ensures.ok
