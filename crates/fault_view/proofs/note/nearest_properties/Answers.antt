use Rattle.std.proofs.Common.{ap, ◌∙◌, ℕ, List}
use Rattle.fault_view.specs.Known.{table_names}
use Rattle.near_names.specs.Nearest.{nearest_names}
use Rattle.fault_view.proofs.note.nearest_properties.Goals as goal

pub returns : goal.returns
returns c =
    c.in_ok-names.ensures
    ∙ ap (λ known. nearest_names known c.in_ok-group.word.now) (c.deref.ensures.value ∙ c.in_ok-known.ensures)
    ∙ ap (λ (parts : List ℕ × List ℕ). nearest_names (table_names parts.0) parts.1) c.in_ok-group.ensures
