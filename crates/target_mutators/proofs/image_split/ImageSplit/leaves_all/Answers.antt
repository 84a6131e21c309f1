use Rattle.std.proofs.Common.{◌∙◌, ap, sym, Ok, []}
use Rattle.std.specs.List.{list_all}
use Rattle.target_mutators.specs.Idle.{is_in_system_alone}
use Rattle.target_mutators.specs.Images.{image_variants}
use Rattle.target_mutators.proofs.Idle.{leave_images}
use Rattle.target_mutators.proofs.image_split.ImageSplit.leaves_all.Goals as goal

pub returns-clause-alone : goal.returns-clause-alone
returns-clause-alone c =
    λ is.
    let nodes = c.args.g.now.nodes in
    c.leaves_all_by_each.ensures (λ m x ins. Ok (record { variants = image_variants m x; requests = [] }))
    c.args.self.now nodes
    c.requires (leave_images nodes
    (ap (list_all is_in_system_alone) (sym c.as_slice.ensures) ∙ sym c.are_in_system_alone.ensures ∙ is))
