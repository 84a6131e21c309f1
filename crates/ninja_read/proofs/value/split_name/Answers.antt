use Rattle.std.proofs.Common.{ap, sym, subst, ◌∙◌, IsCharBoundary}
use Rattle.ninja_read.specs.Values.{name_length}
use Rattle.ninja_read.proofs.ValueRead.{name_boundary}
use Rattle.ninja_read.proofs.value.split_name.Goals as goal

pub split_at-requires : goal.split_at-requires
split_at-requires c =
    subst (IsCharBoundary c.args.text.now) (sym (c.name_length.ensures ∙ ap name_length c.as_bytes.ensures.value))
    (name_boundary c.args.text.now c.utf8.text)
