use Rattle.std.proofs.Common.{◌∙◌, ap, sym, true, cond}
use Rattle.std.specs.Prelude.{not}
use Rattle.std.proofs.lemmas.Map.Text.{is_eq-slice_cmp}
use Rattle.std.specs.Str.{bytes_eq}
use Rattle.std.specs.Ordering.{nat_cmp}
use Rattle.std.specs.Cmp.Lexicographic.{slice_cmp}
use Rattle.std.specs.BTreeSet.{insert_key}
use Rattle.bp_names.specs.Meaning.{knows}
use Rattle.bp_names.proofs.Keys.{key, known_here, names_of, placed}
use Rattle.bp_names.proofs.set.NameSet.learn.Goals as goal

pub returns-clause-new : goal.returns-clause-new
returns-clause-new c =
    c.in_ok-insert.ensures.added ∙ ap not (known_here c.args.name.now c.self.inside.names.keys)
    ∙ ap (λ names. not (knows names c.args.name.now)) c.self.view_is

pub returns-clause-known : goal.returns-clause-known
returns-clause-known c query =
    sym (known_here query c.insert.new.self.keys) ∙ c.in_ok-insert.ensures.updates.0 (key query)
    ∙ (λ i. cond (is_eq-slice_cmp c.args.name.now query i) true (known_here query c.self.inside.names.keys i))
    ∙ ap (λ names. cond (bytes_eq c.args.name.now query) true (knows names query)) c.self.view_is

pub returns-clause-placed : goal.returns-clause-placed
returns-clause-placed c =
    ap names_of c.in_ok-insert.ensures.keys ∙ placed c.self.inside.names.keys c.args.name
    ∙ ap (λ names. insert_key (slice_cmp nat_cmp) names c.args.name.now) c.self.view_is
