use Rattle.std.proofs.Common.{◌≡◌, ℕ, ◌+◌, List, [], length, get_or, map, subst, ap, sym, ◌∙◌, arith, false}
use Rattle.std.proofs.lemmas.List.{length-map}
use Rattle.bp_load.specs.declared.parsed.Parsed.{Parsed}
use Rattle.bp_load.specs.Directories.{is_above}
use Rattle.bp_load.specs.Trees.{Placed, placed_of}
use Rattle.bp_load.specs.Branches.{directories_of, IsBranch}
use Rattle.bp_load.proofs.Branches.{key_at, IsOpenBranch, branch_goes_on, branch_begins, branch_opens}
use Rattle.bp_load.proofs.evaluating.cut.Goals as goal
use Rattle.bp_load.proofs.evaluating.cut.Goals.{then-not-is_above+then-abs_diff-nearest}
use Rattle.bp_load.proofs.evaluating.cut.Goals.{then-not-is_above+else-abs_diff-nearest, else-not-is_above}

pub files-preserved : goal.files-preserved
files-preserved c = elim c.if-not-is_above.branch [
  | then-not-is_above+then-abs_diff-nearest w ↦ (
    ap (λ n. n + 1) at,
    omega (arith, at, w.best-is),
    subst (IsBranch all) (sym (w.best-is ∙ at)) (begins w.if-not-is_above.true),
    subst (λ b. IsOpenBranch all b (i + 1)) (sym (w.branch'-is ∙ at))
        (branch_opens all i (begins w.if-not-is_above.true)),
  )
  | then-not-is_above+else-abs_diff-nearest w ↦ (
    ap (λ n. n + 1) at,
    omega (arith, w.best-is, c.files.invariant.1),
    subst (IsBranch all) (sym w.best-is) c.files.invariant.2,
    subst (λ b. IsOpenBranch all b (i + 1)) (sym (w.branch'-is ∙ at))
        (branch_opens all i (begins w.if-not-is_above.true)),
  )
  | else-not-is_above w ↦ (
    ap (λ n. n + 1) at,
    omega (arith, w.best-is, c.files.invariant.1),
    subst (IsBranch all) (sym w.best-is) c.files.invariant.2,
    subst (λ b. IsOpenBranch all b (i + 1)) (sym w.branch'-is)
        (branch_goes_on all c.files.branch i (above ∙ w.if-not-is_above.false) along),
  )
]
  where
    all : List (List (List ℕ))
    all = directories_of c.args.files.now

    i : ℕ
    i = c.files.file-index

    at : c.files.at ≡ i
    at = c.files.invariant.0

    along : IsOpenBranch all c.files.branch i
    along = c.files.invariant.3

    above : is_above (get_or all c.files.branch []) (get_or all i []) ≡ c.is_above.result
    above =
        ap (λ d. is_above d (get_or all i [])) (key_at c.args.files.now c.files.branch c.index-files-branch.result
        (omega (arith, along.near, c.files-test.true)) c.index-files-branch.is)
        ∙ ap (is_above c.index-files-branch.result.directory)
        (key_at c.args.files.now i c.file-item.result c.files-test.true c.file-item.is)
        ∙ ap (λ (f : Parsed). is_above f.directory c.file-item.result.directory) c.index-files-branch.is
        ∙ sym c.is_above.ensures

    many : length all ≡ length c.args.files.now
    many =
        length-map (map placed_of c.args.files.now) (λ (p : Placed). p.directory)
        ∙ length-map c.args.files.now placed_of

    begins : c.is_above.result ≡ false → IsBranch all i
    begins apart =
        branch_begins all c.files.branch i c.requires (omega (arith, many, c.files-test.true)) (above ∙ apart) along
