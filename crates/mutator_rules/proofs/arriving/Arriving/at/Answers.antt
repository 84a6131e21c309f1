use Rattle.std.proofs.Common.{◌∙◌, ◌≤◌, ◌-◌, rules, arith, ap, sym, length, get_or, take, drop, []}
use Rattle.std.proofs.lemmas.List.{get_or_read}
use Rattle.std.specs.Prelude.{slice_index}
use Rattle.mutator_rules.proofs.Placed.{cut_many, cut_read}
use Rattle.mutator_rules.proofs.arriving.Arriving.at.Goals as goal

pub index-requires : goal.index-requires
index-requires g c =
    let many = cut_many c.self.inside.starts.items c.self.inside.items.items in
    let is = ap length c.self.view_is in
    let lt = c.requires in
    let ok = c.self.inside.starts.ok.0 in
    omega arith

pub index-requires-2 : goal.index-requires-2
index-requires-2 g c =
    let many = cut_many c.self.inside.starts.items c.self.inside.items.items in
    let is = ap length c.self.view_is in
    let lt = c.requires in
    let ok = c.self.inside.starts.ok.0 in
    omega arith

pub offset_bounds-as_slice-begin : goal.offset_bounds-as_slice-begin
offset_bounds-as_slice-begin g c =
    let many = cut_many c.self.inside.starts.items c.self.inside.items.items in
    let is = ap length c.self.view_is in
    let lt = c.requires in
    let begin = get_or_read c.self.inside.starts.items _ _ (omega arith) c.index.ensures 0 in
    let end = get_or_read c.self.inside.starts.items _ _ (omega arith) c.index-2.ensures 0 in
    let rise = c.self.invariant.rise c.args.n.0 (omega arith) in
    let within = c.self.invariant.within c.args.n.0 (omega arith) in
    let size = ap length c.as_slice.ensures.value in
    omega arith

pub slice_bounds-result-count : goal.slice_bounds-result-count
slice_bounds-result-count g c =
    let many = cut_many c.self.inside.starts.items c.self.inside.items.items in
    let is = ap length c.self.view_is in
    let lt = c.requires in
    let begin = get_or_read c.self.inside.starts.items _ _ (omega arith) c.index.ensures 0 in
    let end = get_or_read c.self.inside.starts.items _ _ (omega arith) c.index-2.ensures 0 in
    let rise = c.self.invariant.rise c.args.n.0 (omega arith) in
    omega arith

pub slice_bounds-result-start : goal.slice_bounds-result-start
slice_bounds-result-start g c =
    let many = cut_many c.self.inside.starts.items c.self.inside.items.items in
    let is = ap length c.self.view_is in
    let lt = c.requires in
    let begin = get_or_read c.self.inside.starts.items _ _ (omega arith) c.index.ensures 0 in
    let end = get_or_read c.self.inside.starts.items _ _ (omega arith) c.index-2.ensures 0 in
    let rise = c.self.invariant.rise c.args.n.0 (omega arith) in
    let within = c.self.invariant.within c.args.n.0 (omega arith) in
    let size = ap length c.as_slice.ensures.value in
    let from : c.index.result.now ≤ c.index-2.result.now = omega arith in
    let to : c.index-2.result.now ≤ length c.as_slice.result.now = omega arith in
    search rules

pub slice_bounds-result-end : goal.slice_bounds-result-end
slice_bounds-result-end g c =
    let many = cut_many c.self.inside.starts.items c.self.inside.items.items in
    let is = ap length c.self.view_is in
    let lt = c.requires in
    let begin = get_or_read c.self.inside.starts.items _ _ (omega arith) c.index.ensures 0 in
    let end = get_or_read c.self.inside.starts.items _ _ (omega arith) c.index-2.ensures 0 in
    let rise = c.self.invariant.rise c.args.n.0 (omega arith) in
    let within = c.self.invariant.within c.args.n.0 (omega arith) in
    let size = ap length c.as_slice.ensures.value in
    let from : c.index.result.now ≤ c.index-2.result.now = omega arith in
    let to : c.index-2.result.now ≤ length c.as_slice.result.now = omega arith in
    search rules

pub returns : goal.returns
returns g c =
    let starts = c.self.inside.starts.items in
    let items = c.self.inside.items.items in
    let n = c.args.n.0 in
    let many = cut_many c.self.inside.starts.items c.self.inside.items.items in
    let is = ap length c.self.view_is in
    let lt = c.requires in
    let begin = get_or_read c.self.inside.starts.items _ _ (omega arith) c.index.ensures 0 in
    let end = get_or_read c.self.inside.starts.items _ _ (omega arith) c.index-2.ensures 0 in
    ap (λ l. take (c.index-2.result.now - c.index.result.now) (drop c.index.result.now l)) c.as_slice.ensures.value
    ∙ ap (λ k. take (c.index-2.result.now - k) (drop k items)) begin
    ∙ ap (λ k. take (k - slice_index starts n) (drop (slice_index starts n) items)) end
    ∙ sym (cut_read starts items n (omega arith)) ∙ ap (λ l. get_or l n []) c.self.view_is
