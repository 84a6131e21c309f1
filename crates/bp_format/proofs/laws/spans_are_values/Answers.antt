use Rattle.bp_format.proofs.Written.{lists_give_way, entries_behind}
use Rattle.bp_format.proofs.laws.spans_are_values.Goals as goal

pub returns-clause-list : goal.returns-clause-list
returns-clause-list c =
    λ file text out w e at is.
    lists_give_way c.tokens_stand_within.ensures c.places_rise.ensures file text out w e at is

pub returns-clause-name : goal.returns-clause-name
returns-clause-name c =
    λ file text out w e at is.
    entries_behind c.tokens_stand_within.ensures c.places_rise.ensures file text out w e at is
