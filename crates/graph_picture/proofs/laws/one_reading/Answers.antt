use Rattle.graph_picture.proofs.OneReading.{one_reading}
use Rattle.graph_picture.proofs.laws.one_reading.Goals as goal

pub returns : goal.returns
returns c = one_reading
