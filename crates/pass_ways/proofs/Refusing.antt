-- What follows of an error that refuses a pass with a known fault.
use Rattle.std.proofs.Common.{subst, sym}
use Rattle.bp_faults.specs.declared.fault.Fault.{Fault}
use Rattle.pass_ways.specs.declared.error.WayError.{WayError}
use Rattle.pass_ways.specs.declared.error.WayError.TheVariants.{At, Refused, OutOfMemory}
use Rattle.pass_ways.specs.Inside.{RefusesWith}

-- what holds of the refusal, and of lack of memory, holds of the error
pub by_refusal : (P : WayError → Type 0) (fault : Fault) (error : WayError) → RefusesWith fault error
    → P (Refused fault) → P OutOfMemory → P error
by_refusal P fault (At n other) h refused want = absurd h
by_refusal P fault (Refused other) h refused want = subst (λ f. P (Refused f)) (sym h) refused
by_refusal P fault OutOfMemory h refused want = want
