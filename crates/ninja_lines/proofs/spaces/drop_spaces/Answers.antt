use Rattle.std.proofs.Common.{◌≡◌, ◌∷◌, Some, None, lit<, ◌∙◌}
use Rattle.std.proofs.lemmas.Str.Pattern.{strip_prefix_char}
use Rattle.ninja_lines.proofs.TextBehind.{utf8_behind, no_space, one_space}
use Rattle.ninja_lines.proofs.spaces.drop_spaces.Goals as goal

pub loop-behind-preserved : goal.loop-behind-preserved
loop-behind-preserved c =
    let is : c.loop-behind.rest.now ≡ 32 ∷ c.in-Some.behind.now =
    strip_prefix_char 32 c.loop-behind.rest.now (Some c.in-Some.behind) c.in-Some.ensures.cases (lit< tt) in (
      utf8_behind c.loop-behind.rest.now c.in-Some.behind.now 32 (lit< tt) c.loop-behind.invariant.0 is,
      one_space c.loop-behind.rest.now c.in-Some.behind.now is ∙ c.loop-behind.invariant.1,
    )

pub returns : goal.returns
returns c =
    no_space c.loop-behind.rest.now
    (strip_prefix_char 32 c.loop-behind.rest.now None c.in_default.ensures.cases (lit< tt))
    ∙ c.loop-behind.invariant.1
