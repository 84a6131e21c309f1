-- Lengths of texts that are put one behind the other.
use Rattle.std.proofs.Common.{◌≡◌, ℕ, ◌+◌, ◌<◌, List, ◌++◌, [], length, ap, arith, length-append, append-nil}
use Rattle.std.proofs.Common.{append_assoc, sym, ◌∙◌, Result, Ok, Err}
use Rattle.std.specs.Result.{IsErrAnd}
use Rattle.bp_faults.specs.declared.limits.TheConstants.{LARGEST_OUTPUT}
use Rattle.ninja_write.specs.declared.output.WriteError.{WriteError}
use Rattle.ninja_write.specs.Inside.{Puts}

-- what would pass the limit with one text passes it with all
pub passes : (limit : ℕ) (out text rest first all : List ℕ) → out ++ (text ++ rest) ≡ first ++ all
    → limit < length out + length text → limit < length first + length all
passes limit out text rest first all e h = omega (arith, simp length-append at (ap length e))

-- a refusal on the way is one of the whole
pub refused : {all text first out now : List ℕ} {e : WriteError} (r : Result Unit WriteError) (rest : List ℕ)
    → IsErrAnd r (λ x. x ≡ e) → out ++ (text ++ rest) ≡ first ++ all → Puts text out now (Err e) → Puts all first now r
refused (Ok x) rest same whole puts = absurd same
refused (Err x) rest same whole puts = record {
  ok = tt;
  too_large = λ h. passes LARGEST_OUTPUT _ _ rest _ _ whole (puts.too_large (ap Err (sym same) ∙ h));
}

-- what was put is what was left of the whole
pub finished : {all text first old new : List ℕ} (r : Result Unit WriteError) → old ++ text ≡ first ++ all
    → Puts text old new r → Puts all first new r
finished (Ok x) whole puts = record { ok = puts.ok ∙ whole; too_large = λ h. cc }
finished (Err x) whole puts = record {
  ok = tt;
  too_large = λ h. passes LARGEST_OUTPUT _ _ [] _ _ (simp append-nil whole) (puts.too_large h);
}

-- what was put is no longer left
pub one_more : (old text new rest more whole : List ℕ) → new ≡ old ++ text → more ≡ text ++ rest → old ++ more ≡ whole
    → new ++ rest ≡ whole
one_more old text new rest more whole put e h =
    ap (λ x. x ++ rest) put ∙ append_assoc old text rest ∙ ap (λ x. old ++ x) (sym e) ∙ h
