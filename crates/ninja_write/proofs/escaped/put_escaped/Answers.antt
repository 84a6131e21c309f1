use Rattle.std.proofs.Common.{◌≡◌, ◌++◌, false, ap, sym}
use Rattle.std.specs.List.{list_any}
use Rattle.ninja_file.specs.Escapes.{is_escaped}
use Rattle.ninja_write.proofs.Grows.{finished}
use Rattle.ninja_write.proofs.Runs.{escaped-unless}
use Rattle.ninja_write.proofs.escaped.put_escaped.Goals as goal

pub returns : goal.returns
returns c =
    let none : list_any (is_escaped c.args.escape) c.args.text.now ≡ false = cc in
    finished c.put.result (ap (λ x. c.args.output.now ++ x) (sym (escaped-unless c.args.escape c.args.text.now none)))
    c.put.ensures
