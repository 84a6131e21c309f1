-- Where the first mutators come to a graph, fewer of them do.
use Rattle.std.proofs.Common.{◌≡◌, ◌≤◌, ◌+◌, ℕ, zero, suc, Bool, true, false, List, Ok, Err, ⊎_elim, refl, sym, subst}
use Rattle.std.proofs.Common.{arith}
use Rattle.std.specs.Prelude.{nat_lt, if◌then◌else◌}
use Rattle.std.proofs.lemmas.Bool.{cases_eq, ltb-false, ltb-true}
use Rattle.bp_props.specs.declared.module.Module.{Module}
use Rattle.bp_props.specs.declared.props.Props.{Props}
use Rattle.graph_nodes.specs.declared.graph.Node.{Node}
use Rattle.mutator_rules.specs.declared.config.Config.{Config}
use Rattle.bp_pipeline.specs.Course.{CourseMeans}
use Rattle.bp_pipeline.specs.Mutators.{passes_of}

-- more mutators have as many passes or more
pub passes_rise : (j k : ℕ) → j ≤ k → passes_of j ≤ passes_of k
passes_rise j k le = by (nat_lt j 9) refl (nat_lt k 9) refl
  where
    by : (a : Bool) → nat_lt j 9 ≡ a → (b : Bool) → nat_lt k 9 ≡ b
        → (if a then j else j + 1) ≤ (if b then k else k + 1)
    by true few true few_too = le
    by true few false many = omega (arith, le)
    by false many true few =
        let most = ltb-true k 9 few in let least = ltb-false j 9 many in omega (arith, le, most, least)
    by false many false many_too = omega (arith, le)

module _ (mods : List Module) (c : Config) where
  -- a graph after some passes was made of a graph after fewer
  pub course_back : (p q : ℕ) (nodes : List (Node Props)) → q ≤ p → CourseMeans mods c p (Ok nodes)
      → (earlier : List (Node Props)) × CourseMeans mods c q (Ok earlier)
  course_back zero q nodes le means =
      let none : 0 ≡ q = omega (arith, le) in (nodes, subst (λ k. CourseMeans mods c k (Ok nodes)) none means)
  course_back (suc p) q nodes le (Ok before, means, rest) =
      ⊎_elim
      (λ same. (nodes, subst (λ k. CourseMeans mods c k (Ok nodes)) (sym same) (Ok before, means, rest)))
      (λ apart. course_back p q before (omega (arith, le, apart)) means)
      (cases_eq q (suc p))
  course_back (suc p) q nodes le (Err fault, means, rest) = absurd (cc)
