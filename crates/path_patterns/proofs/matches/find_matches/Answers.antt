use Rattle.std.proofs.Common.{◌∙◌, Some, None}
use Rattle.std.proofs.lemmas.Result.{err_from_is_err_and}
use Rattle.path_patterns.proofs.Found.{some_starred, none_gives, some_stops, some_gives, begins_at}
use Rattle.path_patterns.proofs.matches.find_matches.Goals as goal

pub first_on_way-requires : goal.first_on_way-requires
first_on_way-requires g c =
    some_starred c.args.tail.now c.as_slice-parts.result.now c.requires.star
    (c.as_slice-parts.ensures.value ∙ c.in_ok-all.ensures)

pub returns-in-None-clause-gives : goal.returns-in-None-clause-gives
returns-in-None-clause-gives g c =
    none_gives c.args.dir.now c.args.tail.now c.as_slice-parts.result.now c.as_text.ensures.normal c.requires.star
    (c.as_slice-parts.ensures.value ∙ c.in_ok-all.ensures) (g.D.Directories.held c.args.dirs.now)
    (begins_at c.as_text.result.now c.args.dir.now c.as_slice-parts.result.now c.in_ok-first.first None
    c.as_text.ensures.same
    c.in-None.is c.in_ok-first.ensures)
    c.new.result c.new.ensures.items

pub returns-in_err-found-in-Some-clause-gives : goal.returns-in_err-found-in-Some-clause-gives
returns-in_err-found-in-Some-clause-gives g c =
    let refused = err_from_is_err_and c.from_residual-in_err-found-in-Some.result
    c.from_residual-in_err-found-in-Some.ensures.1 in
    rw (refused.1, refused.2)
    (some_stops c.args.dir.now c.args.tail.now c.as_slice-parts.result.now c.as_text.ensures.normal c.requires.star
    (c.as_slice-parts.ensures.value ∙ c.in_ok-all.ensures) c.in-Some.first
    (begins_at c.as_text.result.now c.args.dir.now c.as_slice-parts.result.now c.in_ok-first.first
    (Some c.in-Some.first)
    c.as_text.ensures.same c.in-Some.is c.in_ok-first.ensures)
    (g.D.Directories.held c.args.dirs.now) c.in_err-found-in-Some.field-0.0 c.in_err-found-in-Some.ensures.gives)

pub returns-clause-gives : goal.returns-clause-gives
returns-clause-gives g c =
    some_gives c.args.dir.now c.args.tail.now c.as_slice-parts.result.now c.as_text.ensures.normal c.requires.star
    (c.as_slice-parts.ensures.value ∙ c.in_ok-all.ensures) c.in-Some.first
    (begins_at c.as_text.result.now c.args.dir.now c.as_slice-parts.result.now c.in_ok-first.first
    (Some c.in-Some.first)
    c.as_text.ensures.same c.in-Some.is c.in_ok-first.ensures)
    (g.D.Directories.held c.args.dirs.now) c.in_ok-found-in-Some.found c.in_ok-in_order-in-Some.field-0
    c.in_ok-in_order-in-Some.ensures.order c.in_ok-in_order-in-Some.ensures.same c.in_ok-found-in-Some.ensures.gives
