use Rattle.std.proofs.Common.{◌≡◌, ◌∙◌, ℕ, Option, Some, None, map, ap, sym}
use Rattle.std.specs.Option.{option_and_then}
use Rattle.bp_names.specs.Meaning.{first_number}
use Rattle.bp_props.specs.declared.module.Module.{Module}
use Rattle.linkage_mutator.specs.Inside.{kind_at}
use Rattle.linkage_mutator.proofs.KindNamed.{kind_by_number}
use Rattle.linkage_mutator.proofs.plugins_ask.kind_by_table.Goals as goal

pub returns-in-Some : goal.returns-in-Some
returns-in-Some c =
    let mods = c.args.mods.now in
    let name = c.args.name.now in
    let known = c.requires name in
    let read = c.as_str.ensures in
    let number = c.number_of.ensures in
    let is = c.in-Some.is in
    let found : first_number (map (λ (m : Module). m.name) mods) name ≡ Some c.in-Some.number = cc in
    c.kind_at.ensures ∙ sym (ap (option_and_then (kind_at mods)) found) ∙ kind_by_number mods name

pub returns-in-None : goal.returns-in-None
returns-in-None c =
    let mods = c.args.mods.now in
    let name = c.args.name.now in
    let known = c.requires name in
    let read = c.as_str.ensures in
    let number = c.number_of.ensures in
    let is = c.in-None.is in
    let none : Option ℕ = None in
    let found : first_number (map (λ (m : Module). m.name) mods) name ≡ none = cc in
    sym (ap (option_and_then (kind_at mods)) found) ∙ kind_by_number mods name
