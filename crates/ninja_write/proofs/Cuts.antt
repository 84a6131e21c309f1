-- The text of statements, and those of parts of them.
use Rattle.std.proofs.Common.{◌≡◌, ℕ, ◌+◌, ◌<◌, List, ◌++◌, length, length-append, append_assoc, arith, ap, ◌∙◌, sym}
use Rattle.std.proofs.Common.{Result, Ok, Err}
use Rattle.std.proofs.lemmas.Grind.{flat_map-append}
use Rattle.std.specs.Result.{IsErrAnd}
use Rattle.ninja_file.specs.declared.file.NinjaFile.{NinjaFile}
use Rattle.ninja_file.specs.declared.file.Statement.{Statement}
use Rattle.ninja_write.proofs.Lines.{text-parts}
use Rattle.ninja_write.specs.declared.output.WriteError.{WriteError}
use Rattle.ninja_write.specs.declared.output.WriteError.TheVariants.{TooLarge}
use Rattle.ninja_write.specs.Inside.{Puts, Prints, front_text, statements_text}
use Rattle.ninja_write.specs.Meaning.{joined_text, head_line, statement_lines, default_lines, text_of}
use Rattle.bp_faults.specs.declared.limits.TheConstants.{LARGEST_OUTPUT}
use Rattle.bp_faults.specs.Characters.{ended_line}

-- the text of statements in two parts
text-cut : (front back all : List Statement) → all ≡ front ++ back
    → statements_text all ≡ statements_text front ++ statements_text back
text-cut front back all e =
    ap statements_text e ∙ flat_map-append (λ statement. joined_text (statement_lines statement)) front back

-- the text of the first part behind what was there, and then that of the second
pub text-joined : (old first new : List ℕ) (front back all : List Statement) → all ≡ front ++ back
    → first ≡ old ++ statements_text front → new ≡ first ++ statements_text back → new ≡ old ++ statements_text all
text-joined old first new front back all e f n =
    n
    ∙ ap (λ x. x ++ statements_text back) f
    ∙ append_assoc old (statements_text front) (statements_text back)
    ∙ ap (λ x. old ++ x) (sym (text-cut front back all e))

-- what would pass the limit with a part would with the whole
abbrev pub IsShorter : List ℕ → List Statement → List ℕ → List Statement → Type 0
IsShorter before part old all =
    (limit : ℕ) → limit < length before + length (statements_text part)
    → limit < length old + length (statements_text all)

pub front-shorter : (old : List ℕ) (front back all : List Statement) → all ≡ front ++ back → IsShorter old front old all
front-shorter old front back all e limit h =
    let l = ap length (text-cut front back all e) in omega (arith, simp length-append at l)

pub joined-shorter : (old first : List ℕ) (front back all : List Statement) → all ≡ front ++ back
    → first ≡ old ++ statements_text front → IsShorter first back old all
joined-shorter old first front back all e f limit h =
    let l = ap length (text-cut front back all e) in
    let k = ap length f in
    omega (arith, simp length-append at l, simp length-append at k)

-- a refusal of a part is one of the whole
pub part_refused : (part all : List Statement) (before old : List ℕ) (e : WriteError)
    (one whole : Result (List ℕ) WriteError) → IsShorter before part old all → one ≡ Err e → IsErrAnd whole (λ x. x ≡ e)
    → Prints part before one → Prints all old whole
part_refused part all before old e one (Ok x) shorter is same prints = absurd same
part_refused part all before old e one (Err x) shorter is same prints = record {
  ok = tt;
  too_large = λ h. shorter LARGEST_OUTPUT (prints.too_large (is ∙ ap Err (sym same) ∙ h));
}

-- a refusal to put a part behind the one before it is one of the whole
pub append_refused : (part all : List Statement) (before now old : List ℕ) (e : WriteError)
    (whole : Result (List ℕ) WriteError) → IsShorter before part old all → IsErrAnd whole (λ x. x ≡ e)
    → Puts (statements_text part) before now (Err e) → Prints all old whole
append_refused part all before now old e (Ok x) shorter same puts = absurd same
append_refused part all before now old e (Err x) shorter same puts = record {
  ok = tt;
  too_large = λ h. let large : x ≡ TooLarge = cc in shorter LARGEST_OUTPUT (puts.too_large (ap Err (sym same ∙ large)));
}

-- the text of a file by what stands before the statements, the statements and the defaults
pub text-thirds : (f : NinjaFile)
    → text_of f ≡ (front_text f ++ statements_text f.statements) ++ joined_text (default_lines f.defaults)
text-thirds f =
    text-parts f
    ∙ sym (append_assoc (ended_line head_line) _ _)
    ∙ sym (append_assoc (front_text f) (statements_text f.statements) _)
