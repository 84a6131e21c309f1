use Rattle.std.proofs.Common.{◌≡◌, ◌<◌, ◌∷◌, [], ◌++◌, ℕ, List, Vec, Global, length, map, drop, get_or, ap, sym, ◌∙◌}
use Rattle.std.proofs.Common.{arith}
use Rattle.std.specs.Prelude.{Ok}
use Rattle.std.proofs.lemmas.List.{length-append, length-map, get_or-map}
use Rattle.std.proofs.lemmas.Iterator.Adapters.{YieldsList-from_vec}
use Rattle.std.proofs.lemmas.Iterator.Consumers.{YieldsList-turn}
use Rattle.std.proofs.lemmas.Result.{err_from_is_err_and}
use Rattle.bp_faults.specs.Answers.{then_do}
use Rattle.bp_props.specs.declared.module.Module.{Module}
use Rattle.bp_values.specs.declared.file.RawModule.{RawModule}
use Rattle.bp_values.specs.Meaning.{Raw, raw_of}
use Rattle.property_tables.specs.Meaning.{typed_module}
use Rattle.std.specs.Option.{option_to_list}
use Rattle.bp_load.specs.Inherited.{placed_raw}
use Rattle.bp_load.specs.Loaded.{all_typed}
use Rattle.bp_faults.proofs.Refusals.{answered}
use Rattle.bp_load.proofs.Typed.{typed_more, typed_fault}
use Rattle.bp_load.proofs.typing.type_all.Goals as goal

-- the module that the loop takes
placed_at : (raws : List (List ℕ × RawModule)) (i : ℕ) (raw : List ℕ × RawModule) → i < length raws
    → raw ≡ get_or raws i raw → placed_raw raw ≡ get_or (map placed_raw raws) i (placed_raw raw)
placed_at raws i raw within is = ap placed_raw is ∙ sym (get_or-map placed_raw raws i raw (placed_raw raw) within)

many : (raws : List (List ℕ × RawModule)) → length (map placed_raw raws) ≡ length raws
many raws = length-map {B = List ℕ × Raw} raws placed_raw

pub returns-in_err-put_typed : goal.returns-in_err-put_typed
returns-in_err-put_typed c =
    let raws = c.args.raws.items in
    let i = length c.loop-raw.yielded in
    let refused =
    err_from_is_err_and c.from_residual-in_err-put_typed.result c.from_residual-in_err-put_typed.ensures.1 in
    let road =
    YieldsList-from_vec {s = c.into_iter-raw-iterator.result} raws c.into_iter-raw-iterator.ensures.into_iter_gives.0
    (c.into_iter-raw-iterator.ensures.into_iter_gives.1 ∙ c.args.raws.ok.0) in
    let turn = YieldsList-turn road c.loop-raw.yielded c.loop-raw.raw-iterator c.loop-raw.yielded_by c.next.result
    c.next.new.self c.in-Some.raw c.in-Some.is c.next.ensures.steps in
    rw (refused.1, refused.2)
    (answered (λ (modules : Vec Module Global). modules.items) c.in_err-put_typed.field-0.0
    (then_do (typed_module (raw_of c.in-Some.raw.1) c.in-Some.raw.0) (λ made.
    Ok (c.loop-raw.modules.items ++ option_to_list made))) (all_typed (map placed_raw raws)) c.in_err-put_typed.ensures
    (λ fault is. typed_fault (map placed_raw raws) i c.loop-raw.modules.items (placed_raw c.in-Some.raw) fault
    (omega (arith, turn.0, many raws)) (placed_at raws i c.in-Some.raw turn.0 turn.1) c.loop-raw.invariant is))

pub loop-raw-preserved : goal.loop-raw-preserved
loop-raw-preserved c =
    let raws = c.args.raws.items in
    let i = length c.loop-raw.yielded in
    let road =
    YieldsList-from_vec {s = c.into_iter-raw-iterator.result} raws c.into_iter-raw-iterator.ensures.into_iter_gives.0
    (c.into_iter-raw-iterator.ensures.into_iter_gives.1 ∙ c.args.raws.ok.0) in
    let turn = YieldsList-turn road c.loop-raw.yielded c.loop-raw.raw-iterator c.loop-raw.yielded_by c.next.result
    c.next.new.self c.in-Some.raw c.in-Some.is c.next.ensures.steps in
    let next = typed_more (map placed_raw raws) i c.loop-raw.modules.items c.put_typed.new.modules.items
    (placed_raw c.in-Some.raw) (omega (arith, turn.0, many raws))
    (placed_at raws i c.in-Some.raw turn.0 turn.1) c.loop-raw.invariant c.in_ok-put_typed.ensures in
    next
    ∙ ap (λ n. then_do (all_typed (drop n (map placed_raw raws))) (λ more. Ok (c.put_typed.new.modules.items ++ more)))
    (sym (length-append c.loop-raw.yielded (c.in-Some.raw ∷ [])))
