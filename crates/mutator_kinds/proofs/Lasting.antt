-- What calls answer.
use Rattle.std.proofs.Common.{◌≡◌, ◌∙◌, Result, Ok, Err}
use Rattle.std.specs.Prelude.{IfOk}

pub if_ok_same : {T E : Type 0} (r : Result T E) (x y : T) → x ≡ y → IfOk r (λ v. v ≡ x) → IfOk r (λ v. v ≡ y)
if_ok_same (Ok v) x y is h = h ∙ is
if_ok_same (Err e) x y is h = tt
