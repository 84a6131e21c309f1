-- Marks that grow level by level are exactly what is within so many steps.
use Rattle.std.proofs.Common.{◌≡◌, ◌≢◌, ◌∙◌, ◌+◌, ◌≤◌, ◌⊎◌, inl, inr, ℕ, zero, suc, Bool, true, false, List, [], length}
use Rattle.std.proofs.Common.{ap, sym, subst, refl, arith, take, replicate, ◌++◌, Contains}
use Rattle.std.proofs.lemmas.Bool.{cases_eq}
use Rattle.std.proofs.Math.Seq.{take-append_seam}
use Rattle.graph_picture.specs.Growing.{Has, Grows, IsNext, IsWithin, IsLevel, MarkWithin}
use Rattle.graph_picture.specs.Reach.{StepWalk, mark_at}
use Rattle.graph_picture.proofs.Growth.{contains_none, true_or_false, not_both}

module _ (Step : ℕ → ℕ → Type 0) where
  -- one step more at the end
  pub walk_more : (k n t m : ℕ) → StepWalk Step k n t → Step t m → StepWalk Step (suc k) n m
  walk_more zero n t m w s = (m, subst (λ (x : ℕ). Step x m) (sym w) s, refl)
  walk_more (suc k) n t m w s = (w.0, w.1, walk_more k w.0 t m w.2 s)

  -- the last step
  pub walk_last : (k n m : ℕ) → StepWalk Step (suc k) n m → (t : ℕ) × StepWalk Step k n t × Step t m
  walk_last zero n m w = (n, refl, subst (Step n) w.2 w.1)
  walk_last (suc k) n m w = let r = walk_last k w.0 m w.2 in (r.0, (w.0, w.1, r.1), r.2)

module _ (lists : List (List ℕ)) (starts : List ℕ) where
  within_later : (d n : ℕ) → IsWithin lists starts d n → IsWithin lists starts (d + 1) n
  within_later d n w = (w.0, w.1, w.2, omega (arith, w.3), w.4)

  within_next : (d t n : ℕ) → IsWithin lists starts d t → Has lists t n → IsWithin lists starts (d + 1) n
  within_next d t n w s =
      (w.0, suc w.1, w.2, omega (arith, w.3), walk_more (Has lists) w.1 w.0 t n w.4 s)

  pub level_starts : (none marks : List Bool) (front : List ℕ) → length none ≡ length lists
      → ((n : ℕ) → mark_at none n ≡ false) → Grows (Contains starts) none [] marks front
      → IsLevel lists starts 0 marks front
  level_starts none marks front size free g = record {
    size = g.size ∙ size;
    sound = λ n t. let s = start n t in (n, 0, s, omega arith, refl);
    whole = λ n w. (g.marks n).1 (inr (subst (Contains starts) (here n w) w.2));
    marked = λ n c. by n ((g.fresh n).0 c);
    done = λ n m t h. inl ((g.fresh n).1 (inr (t, free n)));
  }
    where
      from : (n : ℕ) → (mark_at none n ≡ true) ⊎ Contains starts n → Contains starts n
      from n (inl t) = absurd (not_both (mark_at none n) t (free n))
      from n (inr c) = c

      start : (n : ℕ) → mark_at marks n ≡ true → Contains starts n
      start n t = from n ((g.marks n).0 t)

      stay : (k s n : ℕ) → k ≤ 0 → StepWalk (Has lists) k s n → s ≡ n
      stay zero s n le w = w
      stay (suc k) s n le w = absurd (omega arith)

      here : (n : ℕ) (w : IsWithin lists starts 0 n) → w.0 ≡ n
      here n w = stay w.1 w.0 n w.3 w.4

      by : (n : ℕ) → Contains [] n ⊎ ((mark_at marks n ≡ true) × (mark_at none n ≡ false)) → mark_at marks n ≡ true
      by n (inl c) = absurd (contains_none n c)
      by n (inr t) = t.0

  module _ (d : ℕ) (marks : List Bool) (front : List ℕ) (l : IsLevel lists starts d marks front) where
    module _ (marks' : List Bool) (front' : List ℕ) (g : Grows (IsNext lists front) marks [] marks' front') where
      reached : (n : ℕ) → (mark_at marks n ≡ true) ⊎ IsNext lists front n → IsWithin lists starts (d + 1) n
      reached n (inl t) = within_later d n (l.sound n t)
      reached n (inr t) = within_next d t.0 n (l.sound t.0 (l.marked t.0 t.1)) t.2

      stepped : (t n : ℕ) → Has lists t n → Contains front t ⊎ (mark_at marks n ≡ true) → mark_at marks' n ≡ true
      stepped t n h (inl c) = (g.marks n).1 (inr (t, c, h))
      stepped t n h (inr e) = (g.marks n).1 (inl e)

      all : (n s k : ℕ) → Contains starts s → k ≤ d + 1 → StepWalk (Has lists) k s n → (k ≡ d + 1) ⊎ (k ≢ d + 1)
          → mark_at marks' n ≡ true
      all n s k c le w (inr ne) = (g.marks n).1 (inl (l.whole n (s, k, c, omega arith, w)))
      all n s k c le w (inl e) =
          let r = walk_last (Has lists) d s n
          (subst (λ (j : ℕ). StepWalk (Has lists) j s n) (let u : k ≡ suc d = omega arith in u) w) in
          let before : IsWithin lists starts d r.0 = (s, d, c, omega arith, r.1) in
          let t = l.whole r.0 before in
          stepped r.0 n r.2 (l.done r.0 n t r.2)

      pub level_more : IsLevel lists starts (d + 1) marks' front'
      level_more = record {
        size = g.size ∙ l.size;
        sound = λ n t. reached n ((g.marks n).0 t);
        whole = λ n w. all n w.0 w.1 w.2 w.3 w.4 (cases_eq w.1 (d + 1));
        marked = λ n c. by n ((g.fresh n).0 c);
        done = λ n m t h. past n m t h (true_or_false (mark_at marks n));
      }
        where
          by : (n : ℕ) → Contains [] n ⊎ ((mark_at marks' n ≡ true) × (mark_at marks n ≡ false))
              → mark_at marks' n ≡ true
          by n (inl c) = absurd (contains_none n c)
          by n (inr t) = t.0

          past : (n m : ℕ) → mark_at marks' n ≡ true → Has lists n m
              → (mark_at marks n ≡ true) ⊎ (mark_at marks n ≡ false)
              → Contains front' n ⊎ (mark_at marks' m ≡ true)
          past n m t h (inl e) = inr (stepped n m h (l.done n m e h))
          past n m t h (inr e) = inl ((g.fresh n).1 (inr (t, e)))

    -- where nothing is in front, nothing more is reached
    module _ (none : front ≡ []) where
      closed : (n m : ℕ) → mark_at marks n ≡ true → Has lists n m → mark_at marks m ≡ true
      closed n m t h = by (l.done n m t h)
        where
          by : Contains front n ⊎ (mark_at marks m ≡ true) → mark_at marks m ≡ true
          by (inl c) = absurd (contains_none n (subst (λ (f : List ℕ). Contains f n) none c))
          by (inr e) = e

      along : (k n m : ℕ) → mark_at marks n ≡ true → StepWalk (Has lists) k n m → mark_at marks m ≡ true
      along zero n m t w = subst (λ (x : ℕ). mark_at marks x ≡ true) w t
      along (suc k) n m t w = along k w.0 m (closed n w.0 t w.1) w.2

      pub level_ends : (depth : ℕ) → d ≤ depth → MarkWithin lists starts depth marks
      level_ends depth le = record {
        size = l.size;
        exact = λ n. (
          (λ t. let w = l.sound n t in (w.0, w.1, w.2, omega (arith, w.3), w.4)),
          (λ w.
              let start : IsWithin lists starts d w.0 = (w.0, 0, w.2, omega arith, refl) in
              along w.1 w.0 n (l.whole w.0 start) w.4),
        );
      }

-- a vector that was lent as a slice
pub lent_back : {X : Type 0} (n : ℕ) (new rest : List X) → n ≡ length new → take n (new ++ rest) ≡ new
lent_back n new rest e = ap (λ (k : ℕ). take k (new ++ rest)) e ∙ take-append_seam new rest

-- marks that aren't set
pub unset : (n k : ℕ) → mark_at (replicate n false) k ≡ false
unset zero k = refl
unset (suc n) zero = refl
unset (suc n) (suc k) = unset n k
