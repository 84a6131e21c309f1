use Rattle.std.proofs.Common.{◌∙◌, Some, None, lit<}
use Rattle.std.proofs.lemmas.Str.Pattern.{split_parts, contains_char, NoCharPasses-char}
use Rattle.graph_picture.proofs.Named.{headless_is_none, spaceless_is_none, longer_is_none, variant_is}
use Rattle.graph_picture.proofs.Parts.{strip_text}
use Rattle.graph_picture.proofs.line.variant_of.Goals as goal

pub returns-in_default : goal.returns-in_default
returns-in_default c =
    let line = c.args.line.now in
    let head = c.as_str.result.now in
    headless_is_none c.args.number line head (c.as_str.ensures.value ∙ c.in_ok-head.ensures.ok)
    (strip_text head line None c.in_default.ensures.cases)

pub returns-in_default-split_once : goal.returns-in_default-split_once
returns-in_default-split_once c =
    let line = c.args.line.now in
    let head = c.as_str.result.now in
    let names = c.in-Some.names in
    spaceless_is_none c.args.number line head (c.as_str.ensures.value ∙ c.in_ok-head.ensures.ok) names.now
    (strip_text head line (Some names) c.in-Some.ensures.cases)
    (split_parts 32 names.now None c.in_default-split_once.ensures.cases (lit< tt))

pub returns-then-contains : goal.returns-then-contains
returns-then-contains c =
    let line = c.args.line.now in
    let head = c.as_str.result.now in
    let names = c.in-Some.names in
    let sides = c.in-Some-split_once in
    let parts = split_parts 32 names.now (Some (sides.module, sides.variation)) sides.ensures.cases (lit< tt) in
    let space = (contains_char 32 sides.variation.now c.contains.result c.contains.ensures.cases (lit< tt)).0
    c.if-contains.true in
    longer_is_none c.args.number line head (c.as_str.ensures.value ∙ c.in_ok-head.ensures.ok) names.now
    (strip_text head line (Some names) c.in-Some.ensures.cases) sides.module.now sides.variation.now parts.0 parts.1
    space.0 space.1 space.2

pub returns : goal.returns
returns c =
    let line = c.args.line.now in
    let head = c.as_str.result.now in
    let names = c.in-Some.names in
    let sides = c.in-Some-split_once in
    let parts = split_parts 32 names.now (Some (sides.module, sides.variation)) sides.ensures.cases (lit< tt) in
    variant_is c.args.number line head (c.as_str.ensures.value ∙ c.in_ok-head.ensures.ok) names.now
    (strip_text head line (Some names) c.in-Some.ensures.cases) sides.module.now sides.variation.now parts.0 parts.1
    _ c.in_ok-from_str.ensures c.in_ok-from_str-2.ensures (c.new-2.ensures ∙ c.new.ensures.items) c.utf8.line c.requires
    (λ i lt. NoCharPasses-char 32 sides.variation.now i c.if-contains.ensures.cases (lit< tt) lt)
