-- Merging sound records makes sound ones, and so does restriction.
use Rattle.std.proofs.Common.{Bool, true, false, List, [], ◌∷◌, Option, Some, None}
use Rattle.std.specs.BTreeMap.{insert_entry, is_at}
use Rattle.std.specs.Map.{lookup}
use Rattle.std.specs.Prelude.{cond}
use Rattle.std.specs.Ordering.{match_ordering}
use Rattle.std.specs.declared.cmp.Ordering.{Ordering}
use Rattle.std.specs.declared.cmp.Ordering.TheVariants.{Less, Equal, Greater}
use Rattle.bp_props.specs.Kinds.{has_field}
use Rattle.bp_props.specs.Groups.{by_id, group_of, groups_with, put_behind, group_put, groups_merged}
use Rattle.bp_props.specs.Records.{props_empty, props_merged, props_appended, props_followed, props_over}
use Rattle.bp_props.specs.Records.{props_restricted}
use Rattle.bp_props.specs.declared.fields.Field.TheVariants as F
use Rattle.bp_props.specs.declared.fields.GroupProps.{GroupProps}
use Rattle.bp_props.specs.declared.group_id.GroupId.{GroupId}
use Rattle.bp_props.specs.declared.kind.ModuleKind.{ModuleKind}
use Rattle.bp_props.specs.declared.props.Props.{Props}
use Rattle.output_forms.specs.Forms.{is_writable, HasTexts, HaveTexts, HasSoundTexts}
use Rattle.output_forms.proofs.Each.{IfThere, all_filtered}
use Rattle.output_forms.proofs.Only.{only_empty, only_merged, only_restricted}

pub empty_sound : HasSoundTexts props_empty
empty_sound = record { base = only_empty is_writable; groups = tt; exports = tt; includes = tt }

-- a group is put among groups
pub put_texts : (groups : List (GroupId × GroupProps)) (id : GroupId) (g : GroupProps) → HaveTexts groups → HasTexts g
    → HaveTexts (groups_with groups id g)
put_texts [] id g h k = (k, tt)
put_texts (e ∷ es) id g h k = by (by_id id e.0) (put_texts es id g h.1 k)
  where
    by : (o : Ordering) → HaveTexts (insert_entry by_id es id g)
        → HaveTexts (match_ordering o ((id, g) ∷ e ∷ es) ((e.0, g) ∷ es) (e ∷ insert_entry by_id es id g))
    by Less rest = (k, h)
    by Equal rest = (k, h.1)
    by Greater rest = (h.0, rest)

-- the group of an id
pub group_texts : (groups : List (GroupId × GroupProps)) (id : GroupId) → HaveTexts groups
    → IfThere HasTexts (group_of groups id)
group_texts [] id h = tt
group_texts (e ∷ es) id h = by (is_at (by_id id) e.0) (group_texts es id h.1)
  where
    by : (b : Bool) → IfThere HasTexts (lookup (is_at (by_id id)) es)
        → IfThere HasTexts (cond b (Some e.1) (lookup (is_at (by_id id)) es))
    by true rest = h.0
    by false rest = rest

behind_texts : (w : _) (o : Option GroupProps) (g : GroupProps) → IfThere HasTexts o → HasTexts g
    → HasTexts (put_behind w o g)
behind_texts w (Some old) g h k = only_merged is_writable w old g h k
behind_texts w None g h k = k

merged_groups : (w : _) (groups others : List (GroupId × GroupProps)) → HaveTexts groups → HaveTexts others
    → HaveTexts (groups_merged w groups others)
merged_groups w groups [] h k = h
merged_groups w groups (e ∷ others) h k =
    merged_groups w (group_put w groups e.0 e.1) others
    (put_texts groups e.0 (put_behind w (group_of groups e.0) e.1) h
    (behind_texts w (group_of groups e.0) e.1 (group_texts groups e.0 h) k.0))
    k.1

merged : (w : _) (p q : Props) → HasSoundTexts p → HasSoundTexts q → HasSoundTexts (props_merged w p q)
merged w p q h k = record {
  base = only_merged is_writable w p.base q.base h.base k.base;
  groups = merged_groups w p.groups q.groups h.groups k.groups;
  exports = h.exports;
  includes = h.includes;
}

pub appended : (p : Props) (g : GroupProps) → HasSoundTexts p → HasTexts g → HasSoundTexts (props_appended p g)
appended p g h k = record {
  base = search (only_merged, h.base, k);
  groups = h.groups;
  exports = h.exports;
  includes = h.includes;
}

pub followed : (p q : Props) → HasSoundTexts p → HasSoundTexts q → HasSoundTexts (props_followed p q)
followed p q h k = search (merged, h, k)

pub over : (p q : Props) → HasSoundTexts p → HasSoundTexts q → HasSoundTexts (props_over p q)
over p q h k = record {
  base = search (only_merged, h.base, k.base);
  groups = search (merged_groups, h.groups, k.groups);
  exports = h.exports;
  includes = h.includes;
}

pub restricted : (kind : ModuleKind) (p : Props) → HasSoundTexts p → HasSoundTexts (props_restricted kind p)
restricted kind p h = record {
  base = only_restricted is_writable kind p.base h.base;
  groups =
      all_filtered (λ (e : GroupId × GroupProps). HasTexts e.1) (λ e. has_field kind (F.Group e.0)) p.groups h.groups;
  exports = h.exports;
  includes = h.includes;
}
