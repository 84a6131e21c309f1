-- Results of the plans of the tests, where each node makes its own number.
use Rattle.std.proofs.Common.{◌≡◌, ℕ, List, refl, subst, sym, Ok, Result}
use Rattle.bp_faults.specs.declared.fault.Fault.{Fault}
use Rattle.serial_pass.specs.declared.plan.Plan.{Plan}
use Rattle.serial_pass.specs.Results.{Done, node_result}
use Rattle.ready_counters.specs.Edges.{result_at}
use Rattle.pass_tests.specs.Counters.{pair, chain}

abbrev pub own : ℕ → List ℕ → Result ℕ Fault
own n ins = Ok n

module _ (plan : Plan) where
  pub pair_first : plan ≡ pair → result_at own plan 0 ≡ Done 0
  unfolding node_result
  pair_first is = subst (λ (p : Plan). result_at own p 0 ≡ Done 0) (sym is) refl

  pub pair_second : plan ≡ pair → result_at own plan 1 ≡ Done 0
  unfolding node_result
  pair_second is = subst (λ (p : Plan). result_at own p 1 ≡ Done 0) (sym is) refl

  pub chain_first : plan ≡ chain → result_at own plan 0 ≡ Done 0
  unfolding node_result
  chain_first is = subst (λ (p : Plan). result_at own p 0 ≡ Done 0) (sym is) refl

  pub chain_second : plan ≡ chain → result_at own plan 1 ≡ Done 1
  unfolding node_result
  chain_second is = subst (λ (p : Plan). result_at own p 1 ≡ Done 1) (sym is) refl
