-- Runs of bytes that stand for themselves.
use Prim.Native.Nat.{zero}
use Rattle.std.proofs.Common.{◌≡◌, ℕ, suc, ◌<◌, ◌≤◌, Bool, true, false, List, [], ◌∷◌, ◌++◌, length, take, drop, get_or}
use Rattle.std.proofs.Common.{Some, None, arith, ap, refl, ◌∙◌, append-nil, append_assoc}
use Rattle.std.proofs.Math.Seq.{take-length, drop-length, drop-cons}
use Rattle.std.proofs.lemmas.Grind.{common_steps}
use Rattle.std.proofs.lemmas.Bool.{or_parts}
use Rattle.std.proofs.lemmas.Bool.Decides.{nat_tests}
use Rattle.std.proofs.lemmas.List.Sums.{fails_before_first}
use Rattle.std.proofs.lemmas.List.Quantifiers.{position-Some}
use Rattle.std.specs.List.{list_any, position, position_or_len}
use Rattle.ninja_file.specs.declared.escape.Escape.{Escape}
use Rattle.ninja_file.specs.Escapes.{is_escaped}
use Rattle.ninja_write.specs.Escaped.{escaped_bytes}
use Rattle.bp_faults.specs.Characters.{dollar}

-- bytes that aren't escaped are as they were
pub escaped-run : (escape : Escape) (bytes : List ℕ) (n : ℕ) → n ≤ length bytes
    → ((k : ℕ) → k < n → is_escaped escape (get_or bytes k 0) ≡ false)
    → escaped_bytes escape bytes ≡ take n bytes ++ escaped_bytes escape (drop n bytes)
escaped-run escape bytes zero h plain = refl
escaped-run escape [] (suc n) h plain = absurd (omega arith)
escaped-run escape (b ∷ bytes) (suc n) h plain =
    rw (plain 0 (omega arith))
    (ap (λ more. b ∷ more) (escaped-run escape bytes n (omega arith) (λ k below. plain (suc k) (omega arith))))

no-first : (p : ℕ → Bool) (xs : List ℕ) → position p xs ≡ None → length xs ≤ position_or_len p xs
no-first p xs e = grind (arith, nat_tests, common_steps)

-- a text without a byte that is escaped is as it was
pub escaped-none : (escape : Escape) (bytes : List ℕ) → position (is_escaped escape) bytes ≡ None
    → escaped_bytes escape bytes ≡ bytes
escaped-none escape bytes e =
    let all = no-first (is_escaped escape) bytes e in
    escaped-run escape bytes (length bytes) (omega arith)
    (λ k below. fails_before_first (is_escaped escape) bytes k 0 (omega arith))
    ∙ simp (take-length, drop-length, append-nil)

escaped-special : (escape : Escape) (bytes : List ℕ) (at : ℕ) → at < length bytes
    → is_escaped escape (get_or bytes at 0) ≡ true → escaped_bytes escape (drop at bytes)
    ≡ dollar ∷ (take 1 (drop at bytes) ++ escaped_bytes escape (drop 1 (drop at bytes)))
escaped-special escape bytes at h special = rw (drop-cons bytes at 0) (rw special refl)

-- what stands before the first byte that is escaped, the byte and what follows
pub record IsSplit (escape : Escape) (bytes : List ℕ) (at : ℕ) : Type 0 where
  pub inside : at < length bytes
  pub text : escaped_bytes escape bytes
      ≡ (take at bytes ++ (dollar ∷ take 1 (drop at bytes))) ++ escaped_bytes escape (drop 1 (drop at bytes))

pub split_from_position : (escape : Escape) (bytes : List ℕ) (at : ℕ) → position (is_escaped escape) bytes ≡ Some at
    → IsSplit escape bytes at
split_from_position escape bytes at e =
    let found : (at < length bytes) × (is_escaped escape (get_or bytes at 0) ≡ true) × ((k : ℕ) → k < at
    → is_escaped escape (get_or bytes k 0) ≡ false) = position-Some (is_escaped escape) bytes at 0 e in
    record {
      inside = found.0;
      text =
          rw append_assoc (escaped-run escape bytes at (omega (arith, found.0)) found.2
          ∙ ap (λ more. take at bytes ++ more) (escaped-special escape bytes at found.0 found.1));
    }

-- a text none of whose bytes is escaped is as it was
pub escaped-unless : (escape : Escape) (bytes : List ℕ) → list_any (is_escaped escape) bytes ≡ false
    → escaped_bytes escape bytes ≡ bytes
escaped-unless escape [] none = refl
escaped-unless escape (b ∷ bytes) none =
    let parts = or_parts (is_escaped escape b) (list_any (is_escaped escape) bytes) none in
    rw parts.0 (ap (λ more. b ∷ more) (escaped-unless escape bytes parts.1))
