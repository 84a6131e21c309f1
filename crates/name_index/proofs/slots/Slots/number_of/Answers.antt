use Rattle.std.proofs.Common.{ℕ, ◌∙◌, List, Bor, ap, slice_get, sym}
use Rattle.std.specs.Option.{option_map}
use Rattle.std.proofs.lemmas.Option.{slice_get-map}
use Rattle.name_index.specs.Slots.{by_owner}
use Rattle.name_index.proofs.Found.{owned_slot}
use Rattle.name_index.specs.Slots.{names_of}
use Rattle.name_index.proofs.slots.Slots.number_of.Goals as goal

pub returns-in-Some : goal.returns-in-Some
returns-in-Some c =
    let slots = c.args.self.now in
    let name = c.args.name.now in
    let mark = c.in-Some.mark in
    let pair : Bor (List ℕ) × ℕ → List ℕ × ℕ = λ kept. (kept.0.now, kept.1) in
    c.by_owner.ensures
    ∙ ap (λ o. by_owner (option_map pair o) slots.others name) c.name_at-owner.ensures
    ∙ ap (λ o. by_owner o slots.others name) (sym (slice_get-map pair c.args.names.now c.saturating_sub.result))
    ∙ ap (λ i. by_owner (slice_get (names_of c.args.names.now) i) slots.others name) c.saturating_sub.ensures
    ∙ owned_slot _ mark (names_of c.args.names.now) slots.others name
    (sym c.mark_at.ensures ∙ c.in-Some.is) c.in-Some.mark-test.1
