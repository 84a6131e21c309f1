-- A list whose elements are replaced one after another by what they mean.
use Rattle.std.proofs.Common.{◌≡◌, ◌∙◌, ◌<◌, ◌≤◌, ◌+◌, ℕ, zero, suc, List, [], ◌∷◌, ◌++◌, length, get_or, set, take}
use Rattle.std.proofs.Common.{drop}
use Rattle.std.proofs.Common.{refl, ap, sym, subst, arith}
use Rattle.std.specs.Prelude.{Result, Ok, Err}
use Rattle.std.specs.List.{HoldsAt}
use Rattle.std.proofs.lemmas.List.{drop-set-lt, length-set}
use Rattle.std.proofs.lemmas.Grind.{take-set_at}
use Rattle.bp_faults.specs.declared.fault.Fault.{Fault}
use Rattle.bp_faults.specs.Phases.{Each, Then, Phase}
use Rattle.bp_faults.proofs.Lists.{take-more, take-past, same_at}
use Rattle.source_patterns.specs.declared.error.ExpandError.{ExpandError}
use Rattle.source_patterns.specs.declared.error.ExpandError.TheVariants.{Bad, Failed, OutOfMemory}
use Rattle.source_patterns.specs.Answers.{ExpandGives}
use Rattle.source_patterns.specs.Walked.{WalksIn}
use Rattle.source_patterns.proofs.Gives.{then_value, then_fault}

each_push : {A B : Type 0} (Means : A → Result B Fault → Type 0) (n : ℕ) (xs : List A) (ys : List B) (x : A) (y : B)
    → Each (λ k. Means) n xs ys → Means x (Ok y) → Each (λ k. Means) n (xs ++ x ∷ []) (ys ++ y ∷ [])
each_push Means n [] [] x y each last = (last, tt)
each_push Means n [] (v ∷ ys) x y each last = absurd each
each_push Means n (u ∷ xs) [] x y each last = absurd each
each_push Means n (u ∷ xs) (v ∷ ys) x y each last = (each.0, each_push Means (n + 1) xs ys x y each.1 last)

module _ {X : Type 0} (Means : X → Result X Fault → Type 0) (Walks : X → List ℕ → Type 0) (all : List X) where
  -- The elements before an index are replaced, and the others aren't.
  pub record Done (i : ℕ) (now : List X) : Type 0 where
    pub size : length now ≡ length all
    pub each : Each (λ k. Means) 0 (take i all) (take i now)
    pub rest : drop i now ≡ drop i all

  pub done_begins : Done 0 all
  done_begins = record { size = refl; each = tt; rest = refl }

  module _ (i : ℕ) (now : List X) (within : i < length all) (done : Done i now) where
    -- The next element of the list as it is now is that of the first.
    pub done_here : (d : X) → get_or now i d ≡ get_or all i d
    done_here d = same_drop now all i d done.rest
      where
        from_drop : (xs : List X) (k : ℕ) (d : X) → get_or xs k d ≡ get_or (drop k xs) 0 d
        from_drop xs zero d = refl
        from_drop [] (suc k) d = refl
        from_drop (x ∷ xs) (suc k) d = from_drop xs k d

        same_drop : (xs ys : List X) (k : ℕ) (d : X) → drop k xs ≡ drop k ys → get_or xs k d ≡ get_or ys k d
        same_drop xs ys k d same = from_drop xs k d ∙ ap (λ zs. get_or zs 0 d) same ∙ sym (from_drop ys k d)

    -- An element of the list as it is now is that of the first.
    pub done_item : (x d : X) → x ≡ get_or now i x → x ≡ get_or all i d
    done_item x d is = is ∙ done_here x ∙ same_at all i x d within

    -- One more element is replaced.
    pub done_more : (x y : X) → x ≡ get_or now i x → Means x (Ok y) → Done (i + 1) (set now i y)
    done_more x y is means =
        let inside : i < length now = let s = done.size in omega arith in
        record {
          size = length-set now i y ∙ done.size;
          each = subst (λ xs. Each (λ k. Means) 0 xs (take (i + 1) (set now i y)))
              (sym (take-more all i x within (done_item x x is)))
              (subst (Each (λ k. Means) 0 (take i all ++ x ∷ []))
              (sym (take-set_at now i (i + 1) y refl inside))
              (each_push Means 0 (take i all) (take i now) x y done.each means));
          rest = drop-set-lt (i + 1) now i y (omega arith) ∙ next now all i done.rest;
        }
      where
        rest_of : List X → List X
        rest_of [] = []
        rest_of (x ∷ xs) = xs

        one_less : (xs : List X) (k : ℕ) → drop (suc k) xs ≡ rest_of (drop k xs)
        one_less [] zero = refl
        one_less [] (suc k) = refl
        one_less (x ∷ xs) zero = refl
        one_less (x ∷ xs) (suc k) = one_less xs k

        next : (xs ys : List X) (k : ℕ) → drop k xs ≡ drop k ys → drop (k + 1) xs ≡ drop (k + 1) ys
        next xs ys k same =
            let e : k + 1 ≡ suc k = omega arith in
            ap (λ n. drop n xs) e ∙ one_less xs k ∙ ap rest_of same ∙ sym (one_less ys k) ∙ ap (λ n. drop n ys) (sym e)

    -- An element that gives no value is why the list gives none.
    pub done_stops : {T U : Type 0} (part : T → X) (view : U → List X) (x : X) → x ≡ get_or now i x → (e : ExpandError)
        → ExpandGives part (Means x) (Walks x) (Err e)
        → ExpandGives view (Phase (λ k. Means) 0 all) (WalksIn Means Walks all) (Err e)
    done_stops part view x is (Bad fault) h = record {
      at = i;
      inside = within;
      before = take i now;
      each = done.each;
      here = λ d. subst (λ z. Means z (Err fault)) (done_item x d is) h;
    }
    done_stops part view x is (Failed walked) h = record {
      at = i;
      inside = within;
      before = take i now;
      each = done.each;
      here = λ d. subst (λ z. Walks z walked) (done_item x d is) h;
    }
    done_stops part view x is OutOfMemory h = tt

    -- What one step makes of the whole list.
    abbrev Sets : X → Result (List X) Fault → Type 0
    Sets x = Then (Means x) (λ y o. Ok (set now i y) ≡ o)

    some_item : (x : X) × (x ≡ get_or now i x)
    some_item = by now i (let s = done.size in omega arith)
      where
        by : (xs : List X) (k : ℕ) → k < length xs → (x : X) × (x ≡ get_or xs k x)
        by [] k lt = absurd (omega arith)
        by (x ∷ xs) zero lt = (x, refl)
        by (x ∷ xs) (suc k) lt = by xs k (omega arith)

    -- A step replaced one more element.
    pub done_set : {T : Type 0} (new : List X) (value : T)
        → HoldsAt (λ x. ExpandGives (λ (v : T). new) (Sets x) (Walks x) (Ok value)) now i → Done (i + 1) new
    done_set new value h =
        let item = some_item in
        let means = subst (λ x. Sets x (Ok new)) (sym item.1) (h item.0) in
        let made = then_value (Means item.0) (λ y o. Ok (set now i y) ≡ o) new means in
        let same : set now i made.0 ≡ new = let e = made.2 in cc in
        subst (Done (i + 1)) same (done_more item.0 made.0 item.1 made.1)

    set_stops : (T : Type 0) {U : Type 0} (new : List X) (view : U → X) (x : X) (e : ExpandError)
        → ExpandGives (λ (v : T). new) (Sets x) (Walks x) (Err e) → ExpandGives view (Means x) (Walks x) (Err e)
    set_stops T new view x (Bad fault) h =
        then_fault (Means x) (λ y o. Ok (set now i y) ≡ o) fault h (λ is. is) (λ y is same. absurd (cc))
    set_stops T new view x (Failed walked) h = h
    set_stops T new view x OutOfMemory h = tt

    -- A step that gives no value is why the list gives none.
    pub done_set_stops : (T : Type 0) {U : Type 0} (new : List X) (view : U → List X) (e : ExpandError)
        → HoldsAt (λ x. ExpandGives (λ (v : T). new) (Sets x) (Walks x) (Err e)) now i
        → ExpandGives view (Phase (λ k. Means) 0 all) (WalksIn Means Walks all) (Err e)
    done_set_stops T new view e h =
        let item = some_item in
        let given = subst (λ x. ExpandGives (λ (v : T). new) (Sets x) (Walks x) (Err e)) (sym item.1) (h item.0) in
        done_stops {T = X} (λ x. x) view item.0 item.1 e (set_stops T {U = X} new (λ x. x) item.0 e given)

  -- Behind the last element all are replaced.
  pub done_ends : (i : ℕ) (now : List X) → length all ≤ i → Done i now → Phase (λ k. Means) 0 all (Ok now)
  done_ends i now past done =
      subst (λ xs. Each (λ k. Means) 0 xs now) (take-past i all past)
      (subst (λ ys. Each (λ k. Means) 0 (take i all) ys)
      (take-past i now (let s = done.size in omega arith)) done.each)
