use Rattle.std.proofs.Common.{◌∙◌, ◌++◌, ℕ, List, ap}
use Rattle.std.specs.List.{flat_map}
use Rattle.graph_picture.specs.Drawing.{name_in_quotes, box_drawn, cluster_drawn}
use Rattle.graph_picture.proofs.Chains.{six, on_ok}
use Rattle.graph_picture.proofs.draw.put_cluster.Goals as goal

pub returns : goal.returns
unfolding cluster_drawn
returns c =
    let old = c.args.text.now.items in
    let variants = c.args.variants.now in
    on_ok c.put-3.result
    (λ last.
    six old c.put.new.text.items c.put_quoted.new.text.items c.put-2.new.text.items c.put_box.new.text.items
    c.put_boxes.new.text.items c.put-3.new.text.items _ _ _ _ _ _
    (c.in_ok-put.ensures ∙ ap (λ (l : List ℕ). old ++ l) (c.as_str.ensures.value ∙ c.in_ok-head.ensures.ok))
    (c.in_ok-put_quoted.ensures
    ∙ ap (λ (l : List ℕ). c.put.new.text.items ++ name_in_quotes l) c.module_at.ensures)
    c.in_ok-put-2.ensures c.in_ok-put_box.ensures
    (c.in_ok-put_boxes.ensures
    ∙ ap (λ (l : List ℕ). c.put_box.new.text.items ++ flat_map (box_drawn variants) l) c.as_slice.ensures)
    last)
    c.put-3.ensures
