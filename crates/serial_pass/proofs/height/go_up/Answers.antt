use Rattle.std.proofs.Common.{◌++◌, [], ◌∷◌, ◌∙◌, ap}
use Rattle.serial_pass.proofs.Paths.{up_sought, up_settled}
use Rattle.serial_pass.proofs.height.go_up.Goals as goal

pub returns-in_ok-push-2 : goal.returns-in_ok-push-2
returns-in_ok-push-2 c =
    c.in_ok-push-2.ensures.items
    ∙ ap (λ l. l ++ (record { node = c.args.source; next = 0 }) ∷ []) c.in_ok-push.ensures.items
    ∙ up_sought c.args.settled.now c.args.climb c.args.source c.requires.inside c.args.path.now.items
    c.if-is_none.ensures

pub returns-else-is_none : goal.returns-else-is_none
returns-else-is_none c =
    c.in_ok-push.ensures.items
    ∙ up_settled c.args.settled.now c.args.climb c.args.source c.requires.inside c.args.path.now.items
    c.if-is_none.ensures
