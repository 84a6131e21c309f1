use Rattle.std.proofs.Common.{IsUtf8, subst, sym, ◌∙◌}
use Rattle.ninja_text.proofs.laws.written_and_read.Goals as goal

pub returns : goal.returns
returns c =
    c.what_was_written_is_read_back.ensures c.args.f.now c.as_slice.result.now c.read.result c.requires (record {
      same = c.as_slice.ensures.value ∙ c.in_ok-text.ensures.text;
      utf8 = subst IsUtf8 (sym c.as_slice.ensures.value) c.in_ok-text.ensures.utf8;
    }) c.read.ensures
