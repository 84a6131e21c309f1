use Rattle.std.proofs.Common.{◌≡◌, ◌++◌, cond, ◌+◌, ◌<◌, ℕ, List, [], ◌∷◌, Bor, ap, sym, map, take, drop, length}
use Rattle.std.proofs.Common.{get_or, ◌∙◌, append_assoc}
use Rattle.std.proofs.lemmas.List.{take_more, drop_more, get_or-map, length-map}
use Rattle.bp_names.specs.Meaning.{knows, Learns, IsSetOf}
use Rattle.bp_names.specs.Laws.{SetsGrowWithLists}
use Rattle.build_parts.specs.Kept.{new_one, new_ones, kept_first}
use Rattle.build_parts.proofs.gather.keep_unseen.Goals as goal

-- where a text is in memory doesn't matter
abbrev none : Bor (List ℕ)
none = record { ref_ptr = (0, 0); now = [] }

record Kept (texts seen kept : List (List ℕ)) (i : ℕ) : Type 0 where
  seen_are : IsSetOf (take i texts) seen
  left : kept ++ new_ones (take i texts) (drop i texts) ≡ kept_first texts

-- one text more
kept_more : SetsGrowWithLists → (texts seen new kept more : List (List ℕ)) (i : ℕ) (text : List ℕ) → i < length texts
    → get_or texts i [] ≡ text → IsSetOf (take i texts) seen
    → kept ++ new_ones (take i texts) (drop i texts) ≡ kept_first texts → Learns seen text new
    → more ≡ kept ++ new_one seen text → Kept texts new more (i + 1)
kept_more grow texts seen new kept more i text lt is set left learned more_is =
    let taken : take (i + 1) texts ≡ take i texts ++ text ∷ [] =
    take_more texts i [] lt ∙ ap (λ t. take i texts ++ t ∷ []) is in
    let dropped : drop i texts ≡ text ∷ drop (i + 1) texts =
    drop_more texts i [] lt ∙ ap (λ t. t ∷ drop (i + 1) texts) is in
    record {
      seen_are = λ query.
          grow (take i texts) seen new text set learned query ∙ ap (λ l. knows l query) (sym taken);
      left =
          (λ k. more_is k ++ new_ones (taken k) (drop (i + 1) texts))
          ∙ ap (λ b. (kept ++ cond b [] (text ∷ [])) ++ new_ones (take i texts ++ text ∷ []) (drop (i + 1) texts))
          (set text)
          ∙ append_assoc kept (new_one (take i texts) text)
          (new_ones (take i texts ++ text ∷ []) (drop (i + 1) texts))
          ∙ ap (λ l. kept ++ new_ones (take i texts) l) (sym dropped)
          ∙ left;
    }

pub loop-text-preserved : goal.loop-text-preserved
loop-text-preserved c =
    let texts = map (λ t. t.now) c.args.texts.now in
    let i = c.loop-text.text-index in
    let kept = kept_more c.sets_grow_with_lists.ensures texts c.loop-text.seen c.keep.new.seen c.loop-text.kept.items
    c.keep.new.kept.items i (get_or c.args.texts.now i none).now (simp length-map c.loop-text-test.true)
    (get_or-map (λ t. t.now) c.args.texts.now i none [] c.loop-text-test.true) c.loop-text.invariant.seen
    c.loop-text.invariant.left c.in_ok-keep.ensures.learned c.in_ok-keep.ensures.kept in
    record { seen = kept.seen_are; left = kept.left }
