use Rattle.std.proofs.Common.{length, ap, arith}
use Rattle.ninja_write.proofs.Least.{variable_has}
use Rattle.ninja_write.proofs.text.Tuple2TextTextWritten.least.Goals as goal

pub returns : goal.returns
returns c =
    omega (
      arith,
      c.saturating_add.ensures,
      ap length c.as_str-name.ensures,
      ap length c.as_str.ensures,
      variable_has c.args.self.now.0 c.args.self.now.1,
    )
