-- The longest string and the longest raw string.
use Rattle.std.proofs.Common.{◌≡◌, ℕ, suc, ◌+◌, ◌<◌, ◌≤◌, false, List, [], ◌∷◌, ◌++◌, length, get_or, take, drop, sym}
use Rattle.std.proofs.Common.{refl, ap, ◌∙◌, arith, add-one, append_assoc, length-append, ⊎_elim, inl}
use Rattle.std.specs.Prelude.{not, ◌==◌}
use Rattle.std.specs.List.{prefix_len}
use Rattle.std.proofs.lemmas.Bool.{cases_Bool, eqb-true, false≢true}
use Rattle.std.proofs.Math.Seq.{get_or-append_seam, take-append_seam}
use Rattle.std.proofs.lemmas.List.{take_more}
use Rattle.bp_lexer.specs.declared.flaw.Flaw.{Flaw}
use Rattle.bp_lexer.specs.declared.flaw.Flaw.TheVariants.{OpenString, BadEscape}
use Rattle.bp_lexer.specs.declared.token.TokenKind.{TokenKind}
use Rattle.bp_lexer.specs.declared.token.TokenKind.TheVariants.{Quoted, Raw}
use Rattle.bp_lexer.specs.Classes.{in_raw}
use Rattle.bp_lexer.specs.Strings.{is_body, is_escape, IsClosedAt, IsOpen, IsBadEscapeAt}
use Rattle.bp_lexer.specs.Forms.{IsForm, IsLongest, HasNoForm}
use Rattle.bp_lexer.specs.Faults.{HasFlaw}
use Rattle.bp_lexer.specs.Search.{IsBodyFlaw}
use Rattle.bp_lexer.proofs.Runs.{prefix_all, run_stops, run_ends}
use Rattle.bp_lexer.proofs.Rivals.{rival, form_as}
use Rattle.bp_lexer.proofs.Bodies.{closed_once, closed_rough, bad_not_closed}

-- a token behind a quote is a string that a quote closes
quoted_only : (bs : List ℕ) (k : TokenKind) (word after : List ℕ) → 34 ∷ bs ≡ word ++ after → IsForm k word
    → (m : ℕ) × (length word ≡ m + 2) × IsClosedAt is_escape bs m
quoted_only bs k word after split form =
    let r = rival 34 bs k word after split form in
    let f = form_as Quoted k word r.1.kind form in
    let inner : f.0 ++ 34 ∷ [] ≡ r.0 = cc (f.1, r.1.begins) in
    let rest : bs ≡ f.0 ++ (34 ∷ after) =
    r.1.rest ∙ ap (λ l. l ++ after) (sym inner) ∙ append_assoc f.0 (34 ∷ []) after in (
      length f.0,
      omega (arith, ap length f.1, length-append f.0 (34 ∷ [])),
      (
        omega (arith, ap length rest, length-append f.0 (34 ∷ after)),
        ap (λ l. is_body is_escape false (take (length f.0) l)) rest
            ∙ ap (is_body is_escape false) (take-append_seam f.0 (34 ∷ after))
            ∙ f.2,
        ap (λ l. get_or l (length f.0) 0) rest ∙ get_or-append_seam f.0 34 after 0,
      ),
    )

pub quoted_longest : (text : List ℕ) (n : ℕ) → 0 < length text → get_or text 0 0 ≡ 34
    → IsClosedAt is_escape (drop 1 text) n → IsLongest text Quoted (n + 2)
quoted_longest [] n some first closed = absurd (omega arith)
quoted_longest (b ∷ bs) n some first closed =
    let next : n + 2 ≡ suc (suc n) = omega arith in
    let inside : n < length bs = closed.0 in
    let body : take (suc n) bs ≡ take n bs ++ 34 ∷ [] =
    rw (← add-one n) (take_more bs n 0 inside ∙ ap (λ x. take n bs ++ x ∷ []) closed.2) in
    record {
      within = omega arith;
      form = rw (next, first) (take n bs, ap (λ l. 34 ∷ l) body, closed.1);
      longest = λ k word after split form.
          let q = quoted_only bs k word after (rw first at split) form in
          omega (arith, q.1, closed_once is_escape bs n q.0 closed q.2);
    }

pub string_open : (text : List ℕ) → 0 < length text → get_or text 0 0 ≡ 34 → IsOpen (drop 1 text) → HasNoForm text
string_open [] some first unclosed k word after split form = absurd (omega arith)
string_open (b ∷ bs) some first unclosed k word after split form =
    let q = quoted_only bs k word after (rw first at split) form in
    unclosed q.0 (closed_rough bs q.0 q.2)

pub string_bad : (text : List ℕ) (k : ℕ) → 0 < length text → get_or text 0 0 ≡ 34 → IsBadEscapeAt (drop 1 text) k
    → HasNoForm text
string_bad [] k some first bad j word after split form = absurd (omega arith)
string_bad (b ∷ bs) k some first bad j word after split form =
    let q = quoted_only bs j word after (rw first at split) form in
    bad_not_closed bs k q.0 bad q.2

-- what is wrong with the body is wrong with the string
pub body_flaw : (text : List ℕ) (flaw : Flaw) → 0 < length text → get_or text 0 0 ≡ 34 → IsBodyFlaw (drop 1 text) flaw
    → HasFlaw text flaw
body_flaw text OpenString some first wrong = (string_open text some first wrong, inl (first, wrong))
body_flaw text (BadEscape k) some first wrong = (string_bad text k some first wrong.1, (first, wrong.0, wrong.1))
body_flaw text flaw some first wrong = absurd wrong

raw_end : (bs : List ℕ) (n : ℕ) → n ≡ prefix_len in_raw bs → n < length bs → get_or bs n 0 ≡ 96
raw_end bs n len within =
    let stop : in_raw (get_or bs n 0) ≡ false =
    ap (λ i. in_raw (get_or bs i 0)) len ∙ run_ends in_raw bs (omega arith) in
    ⊎_elim
    (λ e. eqb-true (get_or bs n 0) 96 e)
    (λ e. absurd (false≢true (sym stop ∙ ap not e)))
    (cases_Bool (get_or bs n 0 == 96))

-- a token behind a backquote is a raw string, up to the first backquote
raw_only : (bs : List ℕ) (k : TokenKind) (word after : List ℕ) → 96 ∷ bs ≡ word ++ after → IsForm k word
    → (length word ≡ 2 + prefix_len in_raw bs) × (prefix_len in_raw bs < length bs)
raw_only bs k word after split form =
    let r = rival 96 bs k word after split form in
    let f = form_as Raw k word r.1.kind form in
    let inner : f.0 ++ 96 ∷ [] ≡ r.0 = cc (f.1, r.1.begins) in
    let rest : bs ≡ f.0 ++ (96 ∷ after) =
    r.1.rest ∙ ap (λ l. l ++ after) (sym inner) ∙ append_assoc f.0 (96 ∷ []) after in
    let stop : prefix_len in_raw bs ≡ length f.0 =
    ap (prefix_len in_raw) rest ∙ run_stops in_raw f.0 after 96 f.2 refl in (
      omega (arith, ap length f.1, length-append f.0 (96 ∷ [])),
      omega (arith, ap length rest, length-append f.0 (96 ∷ after)),
    )

pub raw_longest : (text : List ℕ) (n : ℕ) → get_or text 0 0 ≡ 96 → n ≡ prefix_len in_raw (drop 1 text)
    → 1 + n < length text → IsLongest text Raw (n + 2)
raw_longest [] n first len some = absurd (omega arith)
raw_longest (b ∷ bs) n first len some =
    let next : n + 2 ≡ suc (suc n) = omega arith in
    let inside : n < length bs = omega arith in
    let here : get_or bs n 0 ≡ 96 = raw_end bs n len inside in
    let body : take (suc n) bs ≡ take n bs ++ 96 ∷ [] =
    rw (← add-one n) (take_more bs n 0 inside ∙ ap (λ x. take n bs ++ x ∷ []) here) in
    record {
      within = omega arith;
      form = rw (next, first) (take n bs, ap (λ l. 96 ∷ l) body, rw len (prefix_all in_raw bs));
      longest = λ k word after split form. omega (arith, (raw_only bs k word after (rw first at split) form).0);
    }

pub raw_open : (text : List ℕ) → 0 < length text → get_or text 0 0 ≡ 96
    → length text ≤ 1 + prefix_len in_raw (drop 1 text) → HasNoForm text
raw_open [] some first unclosed k word after split form = absurd (omega arith)
raw_open (b ∷ bs) some first unclosed k word after split form =
    let q = raw_only bs k word after (rw first at split) form in
    omega (arith, q.1)
