use Rattle.std.proofs.Common.{map, ap, ◌∙◌}
use Rattle.std.specs.Str.{bytes_eq}
use Rattle.indexmap.specs.IndexMap.{insert_entry}
use Rattle.bp_values.specs.Scopes.{pair_of}
use Rattle.bp_values.proofs.Scopes.{inserted_new}
use Rattle.bp_values.proofs.scope.Scope.set.Goals as goal

pub returns : goal.returns
returns c =
    let es = c.args.self.now.values.entries in
    ap (map pair_of) c.in_ok-insert.ensures.entries
    ∙ ap (λ name. map pair_of (insert_entry bytes_eq es name c.args.value)) c.in_ok-copy.ensures
    ∙ inserted_new es c.args.name.now c.args.value c.requires
