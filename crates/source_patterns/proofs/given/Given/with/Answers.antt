use Rattle.std.proofs.Common.{◌∙◌, ◌++◌, ◌∷◌, [], ap, sym, subst, cond, true}
use Rattle.std.specs.BTreeMap.{is_at}
use Rattle.std.specs.BTreeSet.{keys}
use Rattle.std.specs.List.{list_any}
use Rattle.std.specs.Ordering.{nat_cmp}
use Rattle.std.specs.Cmp.Lexicographic.{slice_cmp}
use Rattle.source_patterns.specs.Known.{KnowsPaths}
use Rattle.source_patterns.proofs.Known.{knows_name, knows_path}
use Rattle.source_patterns.proofs.given.Given.with.Goals.{then-not-names_module+in_ok-copy+in_ok-insert}
use Rattle.source_patterns.proofs.given.Given.with.Goals.{else-not-names_module}
use Rattle.source_patterns.proofs.given.Given.with.Goals as goal

pub invariant_of-result : goal.invariant_of-result
invariant_of-result c =
    subst (KnowsPaths c.if-not-names_module.paths.keys) (sym c.in_ok-push.ensures.items)
    (elim c.if-not-names_module.branch [
      | then-not-names_module+in_ok-copy+in_ok-insert w ↦
          subst (λ paths. KnowsPaths paths (c.self.inside.items.items ++ c.args.source ∷ [])) (sym (ap keys w.paths-is))
          (knows_path c.self.inside.paths.keys w.insert.new.self.keys c.self.inside.items.items c.args.source
          (sym w.if-not-names_module.ensures) c.self.invariant
          (λ path. w.in_ok-insert.ensures.updates.0 path
          ∙ ap (λ text. cond (is_at (slice_cmp nat_cmp text) path) true
          (list_any (is_at (slice_cmp nat_cmp path)) c.self.inside.paths.keys)) w.in_ok-copy.ensures))
      | else-not-names_module w ↦
          subst (λ paths. KnowsPaths paths (c.self.inside.items.items ++ c.args.source ∷ [])) (sym (ap keys w.paths-is))
          (knows_name c.self.inside.paths.keys c.self.inside.items.items c.args.source
          (sym w.if-not-names_module.ensures) c.self.invariant)
    ])
