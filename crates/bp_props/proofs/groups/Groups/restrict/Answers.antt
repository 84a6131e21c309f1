use Rattle.std.proofs.Common.{rules, subst, sym, ap, ◌∙◌}
use Rattle.std.specs.Prelude.{filter}
use Rattle.std.proofs.lemmas.Fn.{filter_same}
use Rattle.bp_props.specs.Groups.{Ascends}
use Rattle.bp_props.specs.Kinds.{has_field}
use Rattle.bp_props.specs.declared.fields.Field.TheVariants.{Group}
use Rattle.bp_props.proofs.Indices.{ascends_filtered}
use Rattle.bp_props.proofs.groups.Groups.restrict.Goals as goal

-- the closure only tests
pub returns : goal.returns
returns c =
    filter_same _ (λ e. has_field c.args.kind (Group e.0)) _
    (λ x b f t. (search rules, search rules)) _ _ c.retain.ensures.filtered
    ∙ ap (filter (λ e. has_field c.args.kind (Group e.0))) c.self.view_is

pub invariant_of-self : goal.invariant_of-self
invariant_of-self c =
    subst Ascends
    (sym (filter_same _ (λ e. has_field c.args.kind (Group e.0)) _
    (λ x b f t. (search rules, search rules)) _ _ c.retain.ensures.filtered))
    (ascends_filtered (λ id. has_field c.args.kind (Group id)) _ c.self.invariant)
