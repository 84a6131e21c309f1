-- A step along the body of a string, and where it can end.
use Rattle.std.proofs.Common.{◌≡◌, ℕ, suc, ◌+◌, ◌-◌, ◌<◌, ◌≤◌, Bool, true, false, List, [], ◌∷◌, ◌++◌, length, get_or}
use Rattle.std.proofs.Common.{take, drop, sym, refl, ap, ◌∙◌, subst, ⊎_elim, arith, take-append-drop, append_assoc}
use Rattle.std.proofs.Common.{Option, Some, None}
use Rattle.std.specs.Prelude.{not, ◌&&◌, ◌==◌}
use Rattle.std.proofs.lemmas.Bool.{and_parts, and_from, cases_Bool, cond-true, cond-false, cases_lt, cases_order}
use Rattle.std.proofs.lemmas.Bool.{false≢true, ne_eqb, eqb-true}
use Rattle.std.proofs.lemmas.List.{take_more, take-take, drop_more, drop-take}
use Rattle.bp_lexer.specs.Classes.{in_line}
use Rattle.bp_lexer.specs.Strings.{is_body, is_string_byte, is_escape, IsClosedAt, IsBadEscapeAt}
use Rattle.bp_lexer.specs.Search.{KnowsBadEscape}

-- what follows a body is judged alone
body_append : (ok : ℕ → Bool) (p : Bool) (xs ys : List ℕ) → is_body ok p xs ≡ true
    → is_body ok p (xs ++ ys) ≡ is_body ok false ys
body_append ok true [] ys h = absurd (false≢true h)
body_append ok false [] ys h = refl
body_append ok true (b ∷ bs) ys h =
    let parts = and_parts (ok b) (is_body ok false bs) h in
    ap (λ t. t && is_body ok false (bs ++ ys)) parts.0 ∙ body_append ok false bs ys parts.1
body_append ok false (b ∷ bs) ys h =
    ⊎_elim
    (λ yes. cond-true (b == 92) _ _ yes ∙ body_append ok true bs ys (sym (cond-true (b == 92) _ _ yes) ∙ h))
    (λ other.
    let parts = and_parts (is_string_byte b) (is_body ok false bs) (sym (cond-false (b == 92) _ _ other) ∙ h) in
    cond-false (b == 92) _ _ other
    ∙ ap (λ t. t && is_body ok false (bs ++ ys)) parts.0
    ∙ body_append ok false bs ys parts.1)
    (cases_Bool (b == 92))

-- a front that is a body, and what the rest begins with
front_and : (rest : List ℕ) (n m : ℕ) → n ≤ m → take m rest ≡ take n rest ++ drop n (take m rest)
front_and rest n m le =
    sym (take-append-drop n (take m rest)) ∙ ap (λ l. l ++ drop n (take m rest)) (take-take n m rest le)

pub plain_more : (ok : ℕ → Bool) (rest : List ℕ) (n : ℕ) → n < length rest → is_body ok false (take n rest) ≡ true
    → (get_or rest n 0 ≡ 34 → ⊥) → (get_or rest n 0 ≡ 10 → ⊥) → (get_or rest n 0 ≡ 92 → ⊥)
    → is_body ok false (take (n + 1) rest) ≡ true
plain_more ok rest n within h quote line slash =
    let b = get_or rest n 0 in
    let plain : is_string_byte b ≡ true = and_from _ _ (ap not (ne_eqb b 34 quote)) (ap not (ne_eqb b 10 line)) in
    ap (is_body ok false) (take_more rest n 0 within)
    ∙ body_append ok false (take n rest) (b ∷ []) h
    ∙ cond-false (b == 92) _ _ (ne_eqb b 92 slash)
    ∙ ap (λ t. t && true) plain

pub pair_more : (ok : ℕ → Bool) (rest : List ℕ) (n : ℕ) → n + 1 < length rest → is_body ok false (take n rest) ≡ true
    → get_or rest n 0 ≡ 92 → ok (get_or rest (n + 1) 0) ≡ true → is_body ok false (take (n + 2) rest) ≡ true
pair_more ok rest n within h slash good =
    let two : n + 2 ≡ n + 1 + 1 = omega arith in
    let c = get_or rest (n + 1) 0 in
    let front : take (n + 2) rest ≡ take n rest ++ (92 ∷ c ∷ []) =
    ap (λ i. take i rest) two
    ∙ take_more rest (n + 1) 0 within
    ∙ ap (λ l. l ++ c ∷ []) (take_more rest n 0 (omega arith) ∙ ap (λ b. take n rest ++ b ∷ []) slash)
    ∙ append_assoc (take n rest) (92 ∷ []) (c ∷ []) in
    ap (is_body ok false) front ∙ body_append ok false (take n rest) (92 ∷ c ∷ []) h ∙ ap (λ t. t && true) good

-- no body goes over the end of a line
no_body_over : (rest : List ℕ) (n m : ℕ) → n < m → n < length rest → is_body in_line false (take n rest) ≡ true
    → get_or rest n 0 ≡ 10 → is_body in_line false (take m rest) ≡ true → ⊥
no_body_over rest n m below within h line whole =
    let tail = drop n (take m rest) in
    let judged : is_body in_line false tail ≡ true =
    sym (body_append in_line false (take n rest) tail h)
    ∙ sym (ap (is_body in_line false) (front_and rest n m (omega arith)))
    ∙ whole in
    let cut : n + (m - n) ≡ m = omega arith in
    let first : tail ≡ take (m - n) (drop n rest) =
    ap (λ i. drop n (take i rest)) (sym cut) ∙ drop-take n (m - n) rest in
    let one : m - n ≡ suc (m - n - 1) = omega arith in
    let begins : tail ≡ 10 ∷ take (m - n - 1) (drop (n + 1) rest) =
    first
    ∙ ap (λ l. take (m - n) l) (drop_more rest n 0 within)
    ∙ ap (λ i. take i (get_or rest n 0 ∷ drop (n + 1) rest)) one
    ∙ ap (λ b. b ∷ take (m - n - 1) (drop (n + 1) rest)) line in
    false≢true (sym (ap (is_body in_line false) begins) ∙ judged)

-- nor over a backslash at the end of a line
no_pair_over : (rest : List ℕ) (n m : ℕ) → n + 1 < m → n + 1 < length rest → is_body in_line false (take n rest) ≡ true
    → get_or rest n 0 ≡ 92 → get_or rest (n + 1) 0 ≡ 10 → is_body in_line false (take m rest) ≡ true → ⊥
no_pair_over rest n m below within h slash line whole =
    let tail = drop n (take m rest) in
    let judged : is_body in_line false tail ≡ true =
    sym (body_append in_line false (take n rest) tail h)
    ∙ sym (ap (is_body in_line false) (front_and rest n m (omega arith)))
    ∙ whole in
    let cut : n + (m - n) ≡ m = omega arith in
    let first : tail ≡ take (m - n) (drop n rest) =
    ap (λ i. drop n (take i rest)) (sym cut) ∙ drop-take n (m - n) rest in
    let two : m - n ≡ suc (suc (m - n - 2)) = omega arith in
    let begins : tail ≡ 92 ∷ 10 ∷ take (m - n - 2) (drop (n + 1 + 1) rest) =
    first
    ∙ ap (λ l. take (m - n) l)
    (drop_more rest n 0 (omega arith) ∙ ap (λ l. get_or rest n 0 ∷ l) (drop_more rest (n + 1) 0 within))
    ∙ ap (λ i. take i (get_or rest n 0 ∷ get_or rest (n + 1) 0 ∷ drop (n + 1 + 1) rest)) two
    ∙ (λ i. slash i ∷ line i ∷ take (m - n - 2) (drop (n + 1 + 1) rest)) in
    false≢true (sym (ap (is_body in_line false) begins) ∙ judged)

pub line_ends : (rest : List ℕ) (n : ℕ) → n < length rest → is_body in_line false (take n rest) ≡ true
    → ((m : ℕ) → IsClosedAt in_line rest m → n ≤ m) → get_or rest n 0 ≡ 10 → (m : ℕ) → IsClosedAt in_line rest m → ⊥
line_ends rest n within h least line m closed =
    ⊎_elim
    (λ below. no_body_over rest n m below within h line closed.1)
    (λ past. let same : m ≡ n = omega (arith, least m closed) in
    let byte : get_or rest n 0 ≡ 34 = subst (λ i. get_or rest i 0 ≡ 34) same closed.2 in
    absurd (omega arith))
    (cases_lt n m)

pub slash_ends : (rest : List ℕ) (n : ℕ) → n + 1 < length rest → is_body in_line false (take n rest) ≡ true
    → ((m : ℕ) → IsClosedAt in_line rest m → n ≤ m) → get_or rest n 0 ≡ 92 → get_or rest (n + 1) 0 ≡ 10 → (m : ℕ)
    → IsClosedAt in_line rest m → ⊥
slash_ends rest n within h least slash line m closed =
    ⊎_elim
    (λ below. no_pair_over rest n m below within h slash line closed.1)
    (λ past. ⊎_elim
    (λ same. let byte : get_or rest n 0 ≡ 34 = subst (λ i. get_or rest i 0 ≡ 34) (sym same) closed.2 in
    absurd (omega arith))
    (λ apart. ⊎_elim
    (λ before. let same : m ≡ n + 1 = omega arith in
    let byte : get_or rest (n + 1) 0 ≡ 34 = subst (λ i. get_or rest i 0 ≡ 34) same closed.2 in
    absurd (omega arith))
    (λ behind. absurd (omega (arith, least m closed)))
    apart)
    (cases_order n m))
    (cases_lt (n + 1) m)

-- a quote that closes stands behind a pair
pub past_pair : (rest : List ℕ) (n : ℕ) → n + 1 < length rest → is_body in_line false (take n rest) ≡ true
    → ((m : ℕ) → IsClosedAt in_line rest m → n ≤ m) → get_or rest n 0 ≡ 92 → (m : ℕ) → IsClosedAt in_line rest m
    → n + 2 ≤ m
past_pair rest n within h least slash m closed =
    ⊎_elim
    (λ below. omega arith)
    (λ past. ⊎_elim
    (λ same. let byte : get_or rest n 0 ≡ 34 = subst (λ i. get_or rest i 0 ≡ 34) (sym same) closed.2 in
    absurd (omega arith))
    (λ apart. ⊎_elim
    (λ before.
    let same : m ≡ n + 1 = omega arith in
    let whole : is_body in_line false (take (n + 1) rest) ≡ true =
    subst (λ i. is_body in_line false (take i rest) ≡ true) same closed.1 in
    absurd (false≢true (sym (ap (is_body in_line false) (take_more rest n 0 (omega arith)
    ∙ ap (λ b. take n rest ++ b ∷ []) slash) ∙ body_append in_line false (take n rest) (92 ∷ []) h) ∙ whole)))
    (λ behind. absurd (omega (arith, least m closed)))
    apart)
    (cases_order n m))
    (cases_lt (n + 1) m)

pub past_plain : (rest : List ℕ) (n : ℕ) → ((m : ℕ) → IsClosedAt in_line rest m → n ≤ m) → (get_or rest n 0 ≡ 34 → ⊥)
    → (m : ℕ) → IsClosedAt in_line rest m → n + 1 ≤ m
past_plain rest n least other m closed =
    ⊎_elim
    (λ same. absurd (other (subst (λ i. get_or rest i 0 ≡ 34) (sym same) closed.2)))
    (λ apart. ⊎_elim (λ before. omega arith) (λ behind. absurd (omega (arith, least m closed))) apart)
    (cases_order n m)

pub so_far_plain : (rest : List ℕ) (n : ℕ) (bad : Option ℕ) → n < length rest → (get_or rest n 0 ≡ 34 → ⊥)
    → (get_or rest n 0 ≡ 10 → ⊥) → (get_or rest n 0 ≡ 92 → ⊥) → KnowsBadEscape rest n bad
    → KnowsBadEscape rest (n + 1) bad
so_far_plain rest n None within quote line slash h = plain_more is_escape rest n within h quote line slash
so_far_plain rest n (Some k) within quote line slash h = h

pub line_ok : (c : ℕ) → (c ≡ 10 → ⊥) → in_line c ≡ true
line_ok c other = ap not (ne_eqb c 10 other)

-- what stands behind a front that is a body is judged alone
judged : (ok : ℕ → Bool) (rest : List ℕ) (n d : ℕ) → is_body ok false (take n rest) ≡ true
    → is_body ok false (take (n + d) rest) ≡ true → is_body ok false (take d (drop n rest)) ≡ true
judged ok rest n d h whole =
    let tail = drop n (take (n + d) rest) in
    let alone : is_body ok false tail ≡ true =
    sym (body_append ok false (take n rest) tail h)
    ∙ sym (ap (is_body ok false) (front_and rest n (n + d) (omega arith)))
    ∙ whole in
    sym (ap (is_body ok false) (drop-take n d rest)) ∙ alone

-- no body goes over a quote that closes one
no_body_past : (ok : ℕ → Bool) (rest : List ℕ) (n m : ℕ) → IsClosedAt ok rest n → n < m
    → is_body ok false (take m rest) ≡ true → ⊥
no_body_past ok rest n m closed below whole =
    let d = m - n - 1 in
    let cut : m ≡ n + suc d = omega arith in
    let alone = judged ok rest n (suc d) closed.1 (subst (λ i. is_body ok false (take i rest) ≡ true) cut whole) in
    let begins : take (suc d) (drop n rest) ≡ 34 ∷ take d (drop (n + 1) rest) =
    ap (take (suc d)) (drop_more rest n 0 closed.0) ∙ ap (λ b. b ∷ take d (drop (n + 1) rest)) closed.2 in
    false≢true (sym (ap (is_body ok false) begins) ∙ alone)

-- one quote closes a string
pub closed_once : (ok : ℕ → Bool) (rest : List ℕ) (n m : ℕ) → IsClosedAt ok rest n → IsClosedAt ok rest m → n ≡ m
closed_once ok rest n m a b =
    ⊎_elim (λ same. same) (λ apart. ⊎_elim
    (λ before. absurd (no_body_past ok rest n m a before b.1))
    (λ behind. absurd (no_body_past ok rest m n b behind a.1))
    apart) (cases_order n m)

pub escape_in_line : (b : ℕ) → is_escape b ≡ true → in_line b ≡ true
escape_in_line b h =
    ⊎_elim
    (λ e. let same : b ≡ 10 = eqb-true b 10 e in absurd (false≢true (rw same at h)))
    (λ e. ap not e)
    (cases_Bool (b == 10))

rough : (slash : Bool) (bs : List ℕ) → is_body is_escape slash bs ≡ true → is_body in_line slash bs ≡ true
rough slash [] h = h
rough true (b ∷ bs) h =
    let parts = and_parts (is_escape b) (is_body is_escape false bs) h in
    and_from _ _ (escape_in_line b parts.0) (rough false bs parts.1)
rough false (b ∷ bs) h =
    ⊎_elim
    (λ yes. cond-true (b == 92) _ _ yes ∙ rough true bs (sym (cond-true (b == 92) _ _ yes) ∙ h))
    (λ other.
    let parts = and_parts (is_string_byte b) (is_body is_escape false bs) (sym (cond-false (b == 92) _ _ other) ∙ h) in
    cond-false (b == 92) _ _ other ∙ and_from _ _ parts.0 (rough false bs parts.1))
    (cases_Bool (b == 92))

-- a string with good escapes is closed whatever its escapes are
pub closed_rough : (rest : List ℕ) (n : ℕ) → IsClosedAt is_escape rest n → IsClosedAt in_line rest n
closed_rough rest n closed = (closed.0, rough false (take n rest) closed.1, closed.2)

-- no good body goes over a bad escape
pub no_body_over_bad : (rest : List ℕ) (k m : ℕ) → IsBadEscapeAt rest k → k < m
    → is_body is_escape false (take m rest) ≡ true → ⊥
no_body_over_bad rest k m bad below whole =
    ⊎_elim
    (λ more.
    let d = m - k - 2 in
    let cut : m ≡ k + suc (suc d) = omega arith in
    let alone =
    judged is_escape rest k (suc (suc d)) bad.1 (subst (λ i. is_body is_escape false (take i rest) ≡ true) cut whole) in
    let c = get_or rest (k + 1) 0 in
    let begins : take (suc (suc d)) (drop k rest) ≡ 92 ∷ c ∷ take d (drop (k + 1 + 1) rest) =
    ap (take (suc (suc d)))
    (drop_more rest k 0 (omega (arith, bad.0)) ∙ ap (λ l. get_or rest k 0 ∷ l) (drop_more rest (k + 1) 0 bad.0))
    ∙ ap (λ b. b ∷ c ∷ take d (drop (k + 1 + 1) rest)) bad.2 in
    let parts = and_parts (is_escape c) (is_body is_escape false (take d (drop (k + 1 + 1) rest)))
    (sym (ap (is_body is_escape false) begins) ∙ alone) in
    false≢true (sym bad.3 ∙ parts.0))
    (λ last.
    let cut : m ≡ k + 1 = omega arith in
    let alone = judged is_escape rest k 1 bad.1 (subst (λ i. is_body is_escape false (take i rest) ≡ true) cut whole) in
    let begins : take 1 (drop k rest) ≡ 92 ∷ [] =
    ap (take 1) (drop_more rest k 0 (omega (arith, bad.0))) ∙ ap (λ b. b ∷ []) bad.2 in
    false≢true (sym (ap (is_body is_escape false) begins) ∙ alone))
    (cases_lt (k + 1) m)

-- a string with a bad escape is closed by no body of good ones
pub bad_not_closed : (rest : List ℕ) (k n : ℕ) → IsBadEscapeAt rest k → IsClosedAt is_escape rest n → ⊥
bad_not_closed rest k n bad closed =
    ⊎_elim
    (λ below. no_body_over_bad rest k n bad below closed.1)
    (λ past. ⊎_elim
    (λ same. let byte : get_or rest k 0 ≡ 34 = subst (λ i. get_or rest i 0 ≡ 34) (sym same) closed.2 in
    omega (arith, bad.2))
    (λ apart.
    ⊎_elim (λ before. absurd (omega arith)) (λ behind. no_body_past is_escape rest n k closed behind bad.1) apart)
    (cases_order k n))
    (cases_lt k n)

-- the first bad escape is one
pub bad_once : (rest : List ℕ) (k j : ℕ) → IsBadEscapeAt rest k → IsBadEscapeAt rest j → k ≡ j
bad_once rest k j a b =
    ⊎_elim (λ same. same) (λ apart. ⊎_elim
    (λ before. absurd (no_body_over_bad rest k j a before b.1))
    (λ behind. absurd (no_body_over_bad rest j k b behind a.1))
    apart) (cases_order k j)

-- a backslash that is the last byte
pub slash_last : (rest : List ℕ) (n : ℕ) → n + 1 ≡ length rest → ((m : ℕ) → IsClosedAt in_line rest m → n ≤ m)
    → get_or rest n 0 ≡ 92 → (m : ℕ) → IsClosedAt in_line rest m → ⊥
slash_last rest n last least slash m closed =
    let same : m ≡ n = omega (arith, least m closed, closed.0) in
    let byte : get_or rest n 0 ≡ 34 = subst (λ i. get_or rest i 0 ≡ 34) same closed.2 in
    omega arith
