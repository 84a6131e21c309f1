use Rattle.property_values.proofs.Levels.{unparsed}
use Rattle.property_values.proofs.fit.level_of.Goals as goal

pub returns-in-Err : goal.returns-in-Err
returns-in-Err c = unparsed c.args.word.now c.parse.result c.in-Err.field-0 c.requires c.parse.ensures.value.0
    c.in-Err.is
