-- No public contract speaks of it: where an id is among ascending pairs.
use Rattle.std.specs.Prelude.{ℕ, List, [], ◌∷◌, Result, Ok, Err, suc}
use Rattle.std.specs.Ordering.{match_ordering}
use Rattle.bp_props.specs.declared.group_id.GroupId.{GroupId}
use Rattle.bp_props.specs.declared.fields.GroupProps.{GroupProps}
use Rattle.bp_props.specs.Groups.{by_id}

-- An index counts one more behind one more pair.
abbrev pub one_further : Result ℕ ℕ → Result ℕ ℕ
one_further (Ok index) = Ok (suc index)
one_further (Err index) = Err (suc index)

-- An id has the index of its pair; or, as a refusal, the index at which a pair of it goes.
abbrev pub index_of : List (GroupId × GroupProps) → GroupId → Result ℕ ℕ
index_of [] id = Err 0
index_of (pair ∷ pairs) id = match_ordering (by_id id pair.0) (Err 0) (Ok 0) (one_further (index_of pairs id))
