-- The names that begin at each of some tokens, one token after another.
use Rattle.std.proofs.Common.{◌≡◌, ◌<◌, ◌+◌, ℕ, zero, suc, List, [], ◌∷◌, ◌++◌, drop, length, Option, Some, None, refl}
use Rattle.std.proofs.Common.{arith, sym, ap, ◌∙◌, append_assoc}
use Rattle.std.specs.List.{cons_option}
use Rattle.bp_lexer.specs.declared.token.Token.{Token}
use Rattle.fault_view.specs.ModuleNames.{first_name, token_names}

-- one token more
next : (text : List ℕ) (ts : List Token) (at : ℕ) → at < length ts
    → token_names text (drop at ts) ≡ cons_option (first_name text (drop at ts)) (token_names text (drop (suc at) ts))
next text [] at lt = absurd (omega arith)
next text (t ∷ ts) zero lt = refl
next text (t ∷ ts) (suc at) lt = next text ts at (omega arith)

put_before : (name : Option (List ℕ)) (rest : List (List ℕ)) → cons_option name [] ++ rest ≡ cons_option name rest
put_before None rest = refl
put_before (Some name) rest = refl

pub next_put : (text : List ℕ) (ts : List Token) (at : ℕ) (names new all : List (List ℕ)) (name : Option (List ℕ))
    → at < length ts → name ≡ first_name text (drop at ts) → new ≡ names ++ cons_option name []
    → names ++ token_names text (drop at ts) ≡ all → new ++ token_names text (drop (at + 1) ts) ≡ all
next_put text ts at names new all name lt is put before =
    let one : at + 1 ≡ suc at = omega arith in
    let rest = token_names text (drop (suc at) ts) in
    ap (λ xs. xs ++ token_names text (drop (at + 1) ts)) put
    ∙ ap (λ k. (names ++ cons_option name []) ++ token_names text (drop k ts)) one
    ∙ append_assoc names (cons_option name []) rest
    ∙ ap (λ xs. names ++ xs)
    (put_before name rest ∙ ap (λ (o : Option (List ℕ)). cons_option o rest) is ∙ sym (next text ts at lt))
    ∙ before
