-- What the flags of a record say.
use Rattle.std.specs.Prelude.{Bool, true, Option, Some, None}
use Rattle.bp_props.specs.declared.given.Given.{Given}
use Rattle.bp_props.specs.declared.props.Props.{Props}

-- A flag says what it is set to, and where it isn't set the default.
abbrev pub is_true_or : Bool → Option (Given Bool) → Bool
is_true_or default None = default
is_true_or default (Some given) = given.value

-- A module is built, unless its record says otherwise.
abbrev pub is_enabled : Props → Bool
is_enabled p = is_true_or true p.base.enabled
