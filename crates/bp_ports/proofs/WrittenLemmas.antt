-- What a path holds after writes, and what one more write makes of them.
use Rattle.std.proofs.Common.{◌≡◌, ℕ, ◌+◌, ◌≤◌, zero, suc, ◌<◌, get_or, List, [], ◌∷◌, ◌++◌, length, take, drop, Bool}
use Rattle.std.proofs.Common.{true, false, refl, sym, ap, ◌∙◌, arith}
use Rattle.std.proofs.Common.{length-append, length-drop}
use Rattle.std.proofs.lemmas.List.{take-append-le, drop-append-le}
use Rattle.std.proofs.lemmas.Grind.{common_steps}
use Rattle.std.specs.FinMap.{get, insert, find, from_entries, get-insert, get-from_entries}
use Rattle.std.specs.Ordering.{nat_cmp}
use Rattle.std.specs.Cmp.Lexicographic.{slice_cmp, nat_list_cmp_total}
use Rattle.bp_ports.specs.Files.{Files}
use Rattle.bp_ports.specs.declared.writes.Span.{Span}
use Rattle.bp_ports.specs.Written.{total, files_after, held_after, has_texts}
use Rattle.std.specs.Prelude.{◌&&◌, Result, Ok, Err, MatchResult, IsOk}
use Rattle.std.specs.Str.{IsUtf8, is_utf8}
use Rattle.std.proofs.Math.Bool.{true≢false}
use Rattle.std.proofs.lemmas.Str.{IsUtf8-from_is_utf8, is_utf8-from_IsUtf8}

pub get-written : (spans : List Span) (run : List ℕ) (files : Files) (q : List ℕ)
    → get (files_after spans run files) q ≡ held_after spans run q (get files q)
get-written [] run files q = refl
get-written (s ∷ spans) run files q =
    get-written spans _ _ q
    ∙ ap (held_after spans (drop s.bytes (drop s.path run)) q)
    (get-insert nat_list_cmp_total files (take s.path run) (take s.bytes (drop s.path run)) q)

take_all : (xs ys : List ℕ) → take (length xs) (xs ++ ys) ≡ xs
take_all xs ys = grind (arith, common_steps)

drop_all : (xs ys : List ℕ) → drop (length xs) (xs ++ ys) ≡ ys
drop_all xs ys = grind (arith, common_steps)

take_whole : (xs : List ℕ) → take (length xs) xs ≡ xs
take_whole xs = grind (arith, common_steps)

-- the first write, by its parts
first_write : (s : Span) (spans : List Span) (run : List ℕ) (files : Files) (name bytes rest : List ℕ)
    → take s.path run ≡ name → take s.bytes (drop s.path run) ≡ bytes → drop s.bytes (drop s.path run) ≡ rest
    → files_after (s ∷ spans) run files ≡ files_after spans rest (insert files name bytes)
first_write s spans run files name bytes rest is_name is_bytes is_rest =
    λ i. files_after spans (is_rest i) (insert files (is_name i) (is_bytes i))

total-append : (spans more : List Span) → total (spans ++ more) ≡ total spans + total more
total-append [] more = omega arith
total-append (s ∷ spans) more = omega (arith, total-append spans more)

pub written-push : (spans : List Span) (run path bytes : List ℕ) (files : Files) → total spans ≡ length run
    → files_after (spans ++ record { path = length path; bytes = length bytes } ∷ []) (run ++ (path ++ bytes)) files
    ≡ insert (files_after spans run files) path bytes
written-push [] [] path bytes files whole = rw (take_all path bytes, drop_all path bytes, take_whole bytes) refl
written-push [] (b ∷ run) path bytes files whole = absurd (omega arith)
written-push (s ∷ spans) run path bytes files whole =
    let in_run : s.path ≤ length run = omega arith in
    let in_rest : s.bytes ≤ length (drop s.path run) = simp length-drop (omega arith) in
    let left : total spans ≡ length (drop s.bytes (drop s.path run)) = simp length-drop (omega arith) in
    let rest = drop-append-le s.path run (path ++ bytes) in_run in
    first_write s (spans ++ record { path = length path; bytes = length bytes } ∷ [])
    (run ++ (path ++ bytes)) files _ _ _
    (take-append-le s.path run (path ++ bytes) in_run)
    (ap (take s.bytes) rest ∙ take-append-le s.bytes (drop s.path run) (path ++ bytes) in_rest)
    (ap (drop s.bytes) rest ∙ drop-append-le s.bytes (drop s.path run) (path ++ bytes) in_rest)
    ∙ written-push spans _ path bytes _ left

-- how many bytes the writes have with one more
pub total-push : (spans : List Span) (run path bytes : List ℕ) → total spans ≡ length run
    → total (spans ++ record { path = length path; bytes = length bytes } ∷ []) ≡ length (run ++ (path ++ bytes))
total-push spans run path bytes whole = simp length-append (rw (total-append spans _) (omega arith))

-- what a path holds after the writes, from what it was given
pub get-held : (spans : List Span) (run : List ℕ) (entries : List (List ℕ × List ℕ)) (q : List ℕ)
    → get (files_after spans run (from_entries entries)) q ≡ held_after spans run q (find (slice_cmp nat_cmp) q entries)
get-held spans run entries q =
    get-written spans run (from_entries entries) q
    ∙ ap (held_after spans run q) (get-from_entries nat_list_cmp_total entries q)

both : (one rest first others : Bool) → (one && rest) ≡ true → first ≡ one → (rest ≡ true → others ≡ true)
    → (first && others) ≡ true
both true rest first others h e more = ap (λ b. b && others) e ∙ more h
both false rest first others h e more = absurd (true≢false (sym h))

-- the paths are texts with one more that is
pub texts-push : (spans : List Span) (run path bytes : List ℕ) → total spans ≡ length run → IsUtf8 path
    → has_texts spans run ≡ true
    → has_texts (spans ++ record { path = length path; bytes = length bytes } ∷ []) (run ++ (path ++ bytes)) ≡ true
texts-push [] [] path bytes whole text texts = rw (take_all path bytes, is_utf8-from_IsUtf8 path text) refl
texts-push [] (b ∷ run) path bytes whole text texts = absurd (omega arith)
texts-push (s ∷ spans) run path bytes whole text texts =
    let in_run : s.path ≤ length run = omega arith in
    let in_rest : s.bytes ≤ length (drop s.path run) = simp length-drop (omega arith) in
    let left : total spans ≡ length (drop s.bytes (drop s.path run)) = simp length-drop (omega arith) in
    let rest = drop-append-le s.path run (path ++ bytes) in_run in
    let behind = ap (drop s.bytes) rest ∙ drop-append-le s.bytes (drop s.path run) (path ++ bytes) in_rest in
    both (is_utf8 (take s.path run)) _ _ _ texts
    (ap is_utf8 (take-append-le s.path run (path ++ bytes) in_run))
    (λ more. ap (has_texts (spans ++ record { path = length path; bytes = length bytes } ∷ [])) behind
    ∙ texts-push spans _ path bytes left text more)

-- what is left of the texts behind the first write
pub texts-rest : (s : Span) (spans : List Span) (run : List ℕ) → has_texts (s ∷ spans) run ≡ true
    → IsUtf8 (take s.path run) × (has_texts spans (drop s.bytes (drop s.path run)) ≡ true)
texts-rest s spans run texts = by (is_utf8 (take s.path run)) refl texts where
  by : (b : Bool) → is_utf8 (take s.path run) ≡ b → (b && has_texts spans (drop s.bytes (drop s.path run))) ≡ true
      → IsUtf8 (take s.path run) × (has_texts spans (drop s.bytes (drop s.path run)) ≡ true)
  by true e h = (IsUtf8-from_is_utf8 (take s.path run) e, h)
  by false e h = absurd (true≢false (sym h))

-- the path of a write is a text
pub text-at : (spans : List Span) (i : ℕ) (d : Span) (run : List ℕ) → i < length spans
    → has_texts (drop i spans) run ≡ true → IsUtf8 (take (get_or spans i d).path run)
text-at [] i d run inside texts = absurd (omega arith)
text-at (s ∷ spans) zero d run inside texts = (texts-rest s spans run texts).0
text-at (s ∷ spans) (suc i) d run inside texts = text-at spans i d run (omega arith) texts

-- what is read as a text that is one
pub read-text : {T E : Type 0} (P : T → Type 0) (Q : E → Type 0) (r : Result T E) (bytes : List ℕ) → IsUtf8 bytes
    → MatchResult r P (λ e. (IsUtf8 bytes → ⊥) × Q e) → IsOk r
read-text P Q (Ok s) bytes text cases = refl
read-text P Q (Err e) bytes text cases = absurd (cases.0 text)
