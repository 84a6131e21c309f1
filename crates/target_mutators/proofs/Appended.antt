-- Groups are appended one after another.
use Rattle.std.proofs.Common.{◌≡◌, ◌<◌, ◌+◌, ℕ, List, [], ◌∷◌, length, drop, get_or, refl, ap, sym, ◌∙◌}
use Rattle.bp_faults.proofs.Lists.{drop-here}
use Rattle.std.specs.Option.{option_map_or}
use Rattle.bp_props.specs.declared.fields.GroupProps.{GroupProps}
use Rattle.bp_props.specs.declared.group_id.GroupId.{GroupId}
use Rattle.bp_props.specs.declared.props.Props.{Props}
use Rattle.bp_props.specs.Groups.{group_of}
use Rattle.bp_props.specs.Records.{props_appended}
use Rattle.module_rules.specs.Groups.{with_group}
use Rattle.target_mutators.specs.Groups.{with_groups}

same_item : (ids : List GroupId) (i : ℕ) (d : GroupId) → get_or ids i d ≡ get_or ids i (get_or ids i d)
same_item [] i d = refl
same_item (x ∷ xs) Prim.Native.Nat.zero d = refl
same_item (x ∷ xs) (Prim.Native.Nat.suc i) d = same_item xs i d

-- one group more
pub groups_next : (made new : Props) (ids : List GroupId) (i : ℕ) (d : GroupId) → i < length ids
    → new ≡ with_group made (get_or ids i d)
    → with_groups new (drop (i + 1) ids) ≡ with_groups made (drop i ids)
groups_next made new ids i d lt is =
    ap (λ (p : Props). with_groups p (drop (i + 1) ids)) is
    ∙ sym (ap (with_groups made) (drop-here ids i (get_or ids i d) lt (same_item ids i d)))

-- without groups a record stays as it is
no_group : (p : Props) (id : GroupId) → p.groups ≡ [] → with_group p id ≡ p
no_group p id none =
    ap (λ (groups : List (GroupId × GroupProps)).
    option_map_or (λ (g : GroupProps). props_appended p g) (group_of groups id) p) none

pub no_groups : (p : Props) (ids : List GroupId) → p.groups ≡ [] → with_groups p ids ≡ p
no_groups p [] none = refl
no_groups p (id ∷ ids) none = ap (λ (q : Props). with_groups q ids) (no_group p id none) ∙ no_groups p ids none
