use Rattle.dir_entries.proofs.First.{begins}
use Rattle.dir_entries.proofs.laws.paths_give_entries.Goals as goal

pub returns : goal.returns
returns c = λ held dir path rest holds below.
    let first = begins rest in (
      first.0,
      record {
        path = path;
        holds = holds;
        rest = rest;
        below = below;
        whole = first.1.whole;
        begins = first.1.begins;
      },
    )
