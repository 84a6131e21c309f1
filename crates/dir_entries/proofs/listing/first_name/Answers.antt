use Rattle.std.proofs.Common.{Some, None, lit<}
use Rattle.std.proofs.lemmas.Str.Pattern.{split_parts}
use Rattle.dir_entries.proofs.First.{lacks_slash}
use Rattle.dir_entries.proofs.listing.first_name.Goals as goal

pub returns-in-Some-clause-whole : goal.returns-in-Some-clause-whole
returns-in-Some-clause-whole c =
    let found = Some (c.in-Some.name, c.in-Some.field-0-1) in
    lacks_slash c.in-Some.name.now (split_parts 47 c.args.text.now found c.in-Some.ensures.cases (lit< tt)).1

pub returns-in-Some-clause-begins : goal.returns-in-Some-clause-begins
returns-in-Some-clause-begins c =
    let found = Some (c.in-Some.name, c.in-Some.field-0-1) in
    (c.in-Some.field-0-1.now, (split_parts 47 c.args.text.now found c.in-Some.ensures.cases (lit< tt)).0)

pub returns-in-None-clause-whole : goal.returns-in-None-clause-whole
returns-in-None-clause-whole c =
    lacks_slash c.args.text.now (split_parts 47 c.args.text.now None c.in-None.ensures.cases (lit< tt))
