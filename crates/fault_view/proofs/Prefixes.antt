-- A text without its prefix.
use Rattle.std.proofs.Common.{◌≡◌, ◌≢◌, ◌+◌, ℕ, Bool, true, false, cond, List, ◌++◌, length, take, drop, Option, Some}
use Rattle.std.proofs.Common.{None, refl, sym, ap, ◌∙◌}
use Rattle.std.specs.Prelude.{MatchOption}
use Rattle.std.specs.Option.{option_map}
use Rattle.std.specs.Str.{bytes_eq}
use Rattle.std.specs.Str.Pattern.{FindsTextPrefix}
use Rattle.std.proofs.lemmas.List.{take-append-drop, append_cancel_right}
use Rattle.std.proofs.lemmas.Slice.Eq.{bytes_eq-Decides}
use denote.Ref.{Bor}
use Rattle.fault_view.specs.Unknown.{rest_behind}

pub stripped : (p s x : List ℕ)
    → ((n : ℕ) × FindsTextPrefix p s (Some n) × (x ≡ drop n s) × (length x + n ≡ length s)) → s ≡ p ++ x
stripped p s x (n, (is, whole, bound), cut, len) = whole ∙ ap (λ ys. p ++ ys) (sym cut)

refuted : (t : Bool) (p s : List ℕ) → (t ≡ true → ⊥) → None ≡ cond t (Some (drop (length p) s)) None
refuted true p s never = absurd (never refl)
refuted false p s never = refl

none_behind : (p s : List ℕ) → ((rest : List ℕ) → s ≢ p ++ rest) → None ≡ rest_behind p s
none_behind p s never =
    refuted (bytes_eq p (take (length p) s)) p s
    (λ e. never (drop (length p) s)
    (sym (take-append-drop (length p) s)
    ∙ ap (λ xs. xs ++ drop (length p) s) (sym ((bytes_eq-Decides p (take (length p) s)).0 e))))

cut_at : (t : Bool) (p s : List ℕ) → t ≡ true → Some (drop (length p) s) ≡ cond t (Some (drop (length p) s)) None
cut_at true p s is = refl
cut_at false p s is = absurd (cc)

some_behind : (p s x : List ℕ) (n : ℕ) → n ≡ length p → s ≡ p ++ drop n s → x ≡ drop n s → Some x ≡ rest_behind p s
some_behind p s x n is whole cut =
    let front : take (length p) s ≡ p =
    append_cancel_right (take (length p) s) p (drop (length p) s)
    (take-append-drop (length p) s ∙ whole ∙ ap (λ k. p ++ drop k s) is) in
    ap (λ xs. Some xs) (cut ∙ ap (λ k. drop k s) is)
    ∙ cut_at (bytes_eq p (take (length p) s)) p s ((bytes_eq-Decides p (take (length p) s)).1 (sym front))

pub stripped_is : (p s : List ℕ) (r : Option (Bor (List ℕ)))
    → MatchOption r (FindsTextPrefix p s None)
    (λ x. (n : ℕ) × FindsTextPrefix p s (Some n) × (x.now ≡ drop n s) × (length x.now + n ≡ length s))
    → option_map (λ rest. rest.now) r ≡ rest_behind p s
stripped_is p s None never = none_behind p s never
stripped_is p s (Some x) (n, (is, whole, bound), cut, len) = some_behind p s x.now n is whole cut
