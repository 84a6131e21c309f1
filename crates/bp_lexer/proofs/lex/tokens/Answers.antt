use Rattle.std.proofs.Common.{ℕ, ◌<◌, arith, ap, sym, refl, subst, get_or, length, take, drop, length-drop, IsUtf8}
use Rattle.std.proofs.Common.{IsCharBoundary, ◌∙◌, ◌+◌, ◌-◌, ◌≡◌}
use Rattle.bp_faults.specs.declared.place.Place.{Place}
use Rattle.bp_lexer.specs.declared.token.TokenKind.TheVariants.{Int}
use Rattle.bp_lexer.specs.Places.{place_at}
use Rattle.bp_lexer.specs.Search.{place_after, place_along}
use Rattle.bp_lexer.specs.Forms.{IsLongest}
use Rattle.bp_lexer.specs.Faults.{IsInRange}
use Rattle.bp_lexer.specs.Meaning.{Covers}
use Rattle.bp_lexer.proofs.Places.{place_push, place_small, place_start, place_file, place_moved}
use Rattle.bp_lexer.specs.Classes.{is_white}
use Rattle.bp_lexer.proofs.Plain.{is_inline, place_at-along, space_at}
use Rattle.bp_lexer.proofs.Cover.{covers_white, covers_run, covers_token, blank_none, first_fault}
use Rattle.bp_lexer.proofs.Boundary.{covers_boundary}
use Rattle.bp_lexer.proofs.lex.tokens.Goals as goal

pub loop-at-init : goal.loop-at-init
loop-at-init c = record {
  within = omega arith;
  covered = rw c.in_ok-tokens.ensures.items (blank_none c.as_bytes-bytes.result.now 0);
  here = place_start c.args.file c.as_bytes-bytes.result.now c.start-place.result c.start-place.ensures;
}

pub place_after-place-requires-clause-line : goal.place_after-place-requires-clause-line
place_after-place-requires-clause-line c =
    omega (
      arith,
      place_small c.args.file c.as_bytes-bytes.result.now c.loop-at.at,
      ap (λ (p : Place). p.line) c.loop-at.invariant.here,
      ap length c.as_bytes-bytes.ensures.value,
    )

pub place_after-place-requires-clause-col : goal.place_after-place-requires-clause-col
place_after-place-requires-clause-col c =
    omega (
      arith,
      place_small c.args.file c.as_bytes-bytes.result.now c.loop-at.at,
      ap (λ (p : Place). p.col) c.loop-at.invariant.here,
      ap length c.as_bytes-bytes.ensures.value,
    )

pub place_along-place-requires : goal.place_along-place-requires
place_along-place-requires c =
    omega (
      arith,
      place_small c.args.file c.as_bytes-bytes.result.now c.loop-at.at,
      ap (λ (p : Place). p.col) c.loop-at.invariant.here,
      c.run_len-run.ensures.within,
      ap length c.as_bytes-bytes.ensures.value,
    )

-- a run of spaces
pub loop-at-preserved-then-byte-eq32 : goal.loop-at-preserved-then-byte-eq32
loop-at-preserved-then-byte-eq32 c =
    let bytes = c.as_bytes-bytes.result.now in
    let at = c.loop-at.at in
    let run = c.run_len-run.result in
    let space : (k : ℕ) → k < run → get_or bytes (at + k) 0 ≡ 32 =
    λ k low. space_at bytes at run k c.run_len-run.ensures.run low in
    record {
      within = c.run_len-run.ensures.within;
      covered =
          covers_run c.args.file bytes 0 at run c.loop-at.tokens.items c.loop-at.invariant.covered
          (λ k low. ap is_white (space k low));
      here =
          c.place_along-place.ensures
          ∙ ap (λ (p : Place). place_along p run) c.loop-at.invariant.here
          ∙ sym (place_at-along c.args.file bytes at run c.run_len-run.ensures.within
          (λ k low. ap is_inline (space k low)));
    }

-- another white byte
pub loop-at-preserved-then-is_white : goal.loop-at-preserved-then-is_white
loop-at-preserved-then-is_white c = record {
  within = omega arith;
  covered =
      covers_white c.args.file c.as_bytes-bytes.result.now 0 c.loop-at.at c.loop-at.tokens.items
      c.loop-at.invariant.covered (sym c.is_white.ensures ∙ c.if-is_white.true);
  here =
      c.place_after-place.ensures
      ∙ ap (λ (p : Place). place_after p (get_or c.as_bytes-bytes.result.now c.loop-at.at 0)) c.loop-at.invariant.here
      ∙ sym (place_push c.args.file c.as_bytes-bytes.result.now c.loop-at.at _ (omega arith) refl);
}

pub place_behind-place-requires-clause-here : goal.place_behind-place-requires-clause-here
place_behind-place-requires-clause-here c =
    place_file c.args.file c.as_bytes-bytes.result.now c.loop-at.at c.loop-at.place c.loop-at.invariant.here

pub place_behind-place-requires-clause-token : goal.place_behind-place-requires-clause-token
place_behind-place-requires-clause-token c =
    subst (λ t. IsLongest (drop c.loop-at.at t) c.in-Ok.kind c.in-Ok.len)
    (sym c.as_bytes-bytes.ensures.value) c.in-Ok.ensures.0

-- a token
pub loop-at-preserved : goal.loop-at-preserved
loop-at-preserved c =
    let bytes = c.as_bytes-bytes.result.now in
    let at = c.loop-at.at in
    let n = c.in-Ok.len in
    let found : IsLongest (drop at bytes) c.in-Ok.kind n × (c.in-Ok.kind ≡ Int → IsInRange (take n (drop at bytes))) =
    subst (λ t. IsLongest (drop at t) c.in-Ok.kind n × (c.in-Ok.kind ≡ Int → IsInRange (take n (drop at t))))
    (sym c.as_bytes-bytes.ensures.value) c.in-Ok.ensures in
    let span : at + n - at ≡ n = omega arith in
    record {
      within = omega (arith, found.0.within, length-drop at bytes);
      covered =
          subst (λ l. Covers c.args.file bytes 0 (at + n) l) (sym c.in_ok-push-in-Ok.ensures.items)
          (covers_token c.args.file bytes 0 c.loop-at.tokens.items _ c.loop-at.invariant.covered
          (record {
            inside = c.loop-at.invariant.within;
            longest = rw span found.0;
            number = λ int. rw span (found.1 int);
            place = c.loop-at.invariant.here;
          }));
      here =
          place_moved c.args.file bytes at
          (at + n) c.loop-at.place c.place_behind-place.result c.loop-at.invariant.here c.place_behind-place.ensures;
    }

pub fault_of-requires-clause-within : goal.fault_of-requires-clause-within
fault_of-requires-clause-within c =
    subst (λ t. IsCharBoundary t c.loop-at.at) c.as_bytes-bytes.ensures.value
    (covers_boundary c.args.file c.as_bytes-bytes.result.now c.loop-at.at c.loop-at.tokens.items (subst IsUtf8
    (sym c.as_bytes-bytes.ensures.value) c.utf8.text) c.loop-at.invariant.within c.loop-at.invariant.covered)

pub fault_of-requires-clause-here : goal.fault_of-requires-clause-here
fault_of-requires-clause-here c =
    subst (λ t. c.loop-at.place ≡ place_at c.loop-at.place.file t c.loop-at.at) c.as_bytes-bytes.ensures.value
    (place_file c.args.file c.as_bytes-bytes.result.now c.loop-at.at c.loop-at.place c.loop-at.invariant.here)

pub returns-in-Err : goal.returns-in-Err
returns-in-Err c =
    first_fault c.args.file c.as_bytes-bytes.result.now c.args.text.now c.loop-at.at c.loop-at.tokens.items
    c.in-Err.flaw c.loop-at.place _ c.as_bytes-bytes.ensures.value c.loop-at.invariant.covered c.loop-at-test.true
    (sym c.is_white.ensures ∙ c.if-is_white.false) c.in-Err.ensures c.loop-at.invariant.here
    c.in_ok-fault_of-in-Err.ensures
