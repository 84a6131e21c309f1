-- The steps, under the names that a call picks.
use Rattle.std.proofs.Common.{◌≡◌, ◌+◌, ◌<◌, ◌≤◌, ◌==◌, ℕ, zero, suc, List, [], ◌∷◌, length, refl, ap, arith, ◌∙◌, sym}
use Rattle.std.proofs.Common.{subst, Option, Some, get_or}
use Rattle.std.specs.declared.sync.Arc.{Arc}
use Rattle.std.specs.Arc.{arc_value}
use prog.Atomic.{either}
use Rattle.atomic_table.specs.Table.{Me, Allows}
use Rattle.serial_pass.specs.declared.plan.PlanEdge.{PlanEdge}
use Rattle.pass_core.specs.declared.published.Published.{Published}
use Rattle.serial_pass.specs.Results.{NodeResult}
use Rattle.pass_core.specs.Shown.{published_result}
use Rattle.ready_counters.specs.declared.view.View.{View}
use Rattle.ready_counters.specs.declared.claim.Claim.TheVariants.{Gone}
use Rattle.ready_counters.specs.Edges.{left_of, edge_target, edge_source}
use Rattle.ready_counters.specs.Meaning.{claimed_word, HasWord, IsBoard}
use Rattle.ready_counters.specs.Views.{times, tickets_for}
use Rattle.ready_counters.specs.Inside.{Claims, Draws, Subtracts, Opens, Fills, Fetches, Returns}
use Rattle.ready_counters.specs.Answers.{AnswersClaim}
use Rattle.ready_counters.specs.Edges.{edge_targets}
use Rattle.ready_counters.proofs.Left.{left_bound}
use Rattle.ready_counters.proofs.Claiming.{claim_allows}
use Rattle.ready_counters.proofs.Lowering.{lowered, subtract_allows}
use Rattle.ready_counters.proofs.Ticketing.{raised, ticket_allows}
use Rattle.ready_counters.proofs.Filling.{open_allows, fill_allows, fetch_allows, return_allows}

module _ {O A : Type 0} (count : ℕ) (edges : List PlanEdge) (result : ℕ → NodeResult O) (slots id : ℕ)
    (me : Me (Option (Arc (Published O) A)) View) (live : 1 ≤ me.0.weight) where
  pub claim_as : (es : List PlanEdge) (n m : ℕ) → edges ≡ es → n ≡ m → length edges < 4294967296 → n < count
      → Allows (IsBoard count edges result) slots id me n (λ x. either (x == 0) claimed_word x) (Claims es m me)
  claim_as es n m a b few node =
      subst (λ k.
      Allows (IsBoard count edges result) slots id me n (λ x. either (x == 0) claimed_word x) (Claims es k me)) b
      (subst (λ k.
      Allows (IsBoard count edges result) slots id me n (λ x. either (x == 0) claimed_word x) (Claims k n me)) a
      (claim_allows count edges result slots id n me few node live))

  pub ticket_as : (c n m w : ℕ) → count ≡ c → n ≡ m → w ≡ count + length edges → count < 4294967296 → n < count
      → 1 ≤ times n me.0.claimed → ((e : ℕ) → e < length edges → edge_target edges e ≡ n → 1 ≤ times e me.0.fetched)
      → tickets_for n me.0.tickets ≡ 0
      → Allows (IsBoard count edges result) slots id me w raised (Draws c m me)
  ticket_as c n m w a b word small node claimed ready fresh =
      subst (λ k. Allows (IsBoard count edges result) slots id me k raised (Draws c m me)) (sym word)
      (subst (λ k. Allows (IsBoard count edges result) slots id me (count + length edges) raised (Draws c k me)) b
      (subst (λ k. Allows (IsBoard count edges result) slots id me (count + length edges) raised (Draws k n me)) a
      (ticket_allows count edges result slots id n me small node live claimed ready fresh)))

  pub subtract_as : (es : List PlanEdge) (e d t : ℕ) → edges ≡ es → e ≡ d → t ≡ edge_target edges e → e < length edges
      → edge_target edges e < count → 1 ≤ times e me.0.filled → times e me.0.subtracted ≡ 0
      → Allows (IsBoard count edges result) slots id me t lowered (Subtracts es d me)
  subtract_as es e d t a b word inside node filled fresh =
      subst (λ k. Allows (IsBoard count edges result) slots id me k lowered (Subtracts es d me)) (sym word)
      (subst (λ k. Allows (IsBoard count edges result) slots id me (edge_target edges e) lowered (Subtracts es k me)) b
      (subst (λ k. Allows (IsBoard count edges result) slots id me (edge_target edges e) lowered (Subtracts k e me)) a
      (subtract_allows count edges result slots id e me inside node live filled fresh)))

  pub open_as : (e d c : ℕ) → e ≡ d → c ≡ count → e < length edges → 1 ≤ tickets_for (edge_source edges e) me.0.tickets
      → me.0.opened ≡ [] → times e me.0.filled ≡ 0
      → Allows (IsBoard count edges result) slots id me (c + e) (λ n. either (n == 0) 1 n) (λ n after. Opens d me after)
  open_as e d c b counted inside ticket closed fresh =
      subst (λ k. Allows (IsBoard count edges result) slots id me (k + e) (λ n. either (n == 0) 1 n)
      (λ n after. Opens d me after)) (sym counted)
      (subst (λ k. Allows (IsBoard count edges result) slots id me (count + e) (λ n. either (n == 0) 1 n)
      (λ n after. Opens k me after)) b
      (open_allows count edges result slots id e me inside live ticket closed fresh))

  pub fill_as : (e d c : ℕ) → e ≡ d → c ≡ count → e < length edges → me.0.opened ≡ d ∷ []
      → (shared : Arc (Published O) A) → me.1 ≡ (e, Some shared) ∷ [] → published_result (arc_value shared) ≡ result e
      → Allows (IsBoard count edges result) slots id me (c + e) (λ _. 2) (λ _ after. Fills d me after)
  fill_as e d c b counted inside opened shared out right =
      subst (λ k. Allows (IsBoard count edges result) slots id me (k + e) (λ _. 2) (λ _ after. Fills d me after))
      (sym counted)
      (subst (λ k. Allows (IsBoard count edges result) slots id me (count + e) (λ _. 2)
      (λ _ after. Fills k me after)) b
      (fill_allows count edges result slots id e me inside live
      (opened ∙ ap (λ k. k ∷ []) (sym b)) shared out right))

  pub fetch_as : (e d c : ℕ) (value : NodeResult O) → e ≡ d → c ≡ count → result e ≡ value → e < length edges
      → edge_target edges e < count → 1 ≤ times (edge_target edges e) me.0.claimed → times e me.0.fetched ≡ 0
      → Allows (IsBoard count edges result) slots id me (c + e) (λ n. either (n == 2) 3 n)
      (λ n after. Fetches d value me after)
  fetch_as e d c value b counted named inside node claimed fresh =
      subst (λ k. Allows (IsBoard count edges result) slots id me (k + e) (λ n. either (n == 2) 3 n)
      (λ n after. Fetches d value me after)) (sym counted)
      (subst (λ k. Allows (IsBoard count edges result) slots id me (count + e) (λ n. either (n == 2) 3 n)
      (λ n after. Fetches k value me after)) b
      (fetch_allows count edges result slots id e me inside live value node claimed fresh named))

  pub return_as : (e c : ℕ) → c ≡ count → e < length edges → 1 ≤ times e me.0.fetched
      → (x : Option (Arc (Published O) A)) → me.1 ≡ (e, x) ∷ []
      → Allows (IsBoard count edges result) slots id me (c + e) (λ n. n) (λ _ after. Returns me after)
  return_as e c counted inside mine x out =
      subst (λ k. Allows (IsBoard count edges result) slots id me (k + e) (λ n. n) (λ _ after. Returns me after))
      (sym counted) (return_allows count edges result slots id e me inside live mine x out)

-- the target that stands in the board's own list
pub target_is : (edges : List PlanEdge) (ts : List ℕ) (e d : ℕ) → ts ≡ edge_targets edges → e < length edges
    → get_or ts e d ≡ edge_target edges e
target_is edges ts e d is inside = ap (λ l. get_or l e d) is ∙ at edges e d inside where
  at : (edges : List PlanEdge) (e d : ℕ) → e < length edges → get_or (edge_targets edges) e d ≡ edge_target edges e
  at [] e d l = absurd (omega arith)
  at (x ∷ xs) zero d l = refl
  at (x ∷ xs) (suc e) d l = at xs e d (omega arith)

pub many_targets : (edges : List PlanEdge) (ts : List ℕ) → ts ≡ edge_targets edges → length ts ≡ length edges
many_targets edges ts is = ap length is ∙ same edges where
  same : (edges : List PlanEdge) → length (edge_targets edges) ≡ length edges
  same [] = refl
  same (x ∷ xs) = ap suc (same xs)

pub exact_taken : (c w l : ℕ) → HasWord c w l → l < 4294967296 → w ≡ claimed_word → 1 ≤ c
exact_taken zero w l h few is = absurd (omega arith)
exact_taken (suc c) w l h few is = omega arith

pub gone_told : {S : Type 0} (edges : List PlanEdge) (n : ℕ) (me : Me S View) (found : ℕ) (after : Me S View)
    → found ≡ claimed_word → length edges < 4294967296 → Claims edges n me found after
    → AnswersClaim edges n me.0 Gone after.0
gone_told edges n me zero after is few t = absurd (omega arith)
gone_told edges n me (suc k) after is few t = (
  t.0,
  t.2.gone is,
  λ heavy. exact_taken (times n me.0.claimed) (suc k) (left_of edges me.0 n) (t.2.exact heavy)
      (let b = left_bound (λ e. times e me.0.subtracted) 0 edges n in omega arith) is,
)
