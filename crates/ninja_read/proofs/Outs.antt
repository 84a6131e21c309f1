-- Outs that are named again, and defaults that are no outs.
use Rattle.std.proofs.Common.{◌≡◌, ℕ, ◌+◌, ◌<◌, ◌≤◌, Bool, true, false, cond, not, ◌||◌, List, [], ◌∷◌, ◌++◌, length}
use Rattle.std.proofs.Common.{take, drop, get_or, Some, Bor, append_assoc, ap, sym, subst, ◌∙◌}
use Rattle.std.proofs.lemmas.List.{at_drop_more, take_more, take_all, drop_all}
use Rattle.bp_names.specs.Meaning.{knows, Learns, IsSetOf}
use Rattle.ninja_read.specs.Book.{has_text}
use Rattle.ninja_read.specs.Meaning.{repeats, stray}
use Rattle.ninja_read.proofs.BookSteps.{set_more}

pub stray_step : (texts : List (List ℕ)) (defaults : List (ℕ × List ℕ)) (i : ℕ) (item : ℕ × List ℕ)
    → i < length defaults → item ≡ get_or defaults i item
    → stray texts (drop i defaults) ≡ cond (has_text texts item.1) (stray texts (drop (i + 1) defaults)) (Some item.0)
stray_step texts defaults i item h is =
    at_drop_more (stray texts) defaults i item h
    ∙ ap (λ x. cond (has_text texts x.1) (stray texts (drop (i + 1) defaults)) (Some x.0)) (sym is)

turned : (a b : Bool) → b ≡ not a → a ≡ not b
turned true b e = sym (ap not e)
turned false b e = sym (ap not e)

-- what a set says of a text
pub listed : (texts s : List (List ℕ)) (path : List ℕ) (x : Bor (List ℕ)) (found : Bool) → IsSetOf texts s
    → x.now ≡ path → found ≡ knows s x.now → has_text texts path ≡ found
listed texts s path x found set is e = sym (e ∙ set x.now ∙ ap (has_text texts) is)

pub added : (texts s : List (List ℕ)) (out : List ℕ) (x : Bor (List ℕ)) (new : Bool) → IsSetOf texts s → x.now ≡ out
    → new ≡ not (knows s x.now) → has_text texts out ≡ not new
added texts s out x new set is e = ap (has_text texts) (sym is) ∙ sym (set x.now) ∙ turned (knows s x.now) new e

repeats_step : (seen outs : List (List ℕ)) (i : ℕ) (out : List ℕ) → i < length outs → out ≡ get_or outs i out
    → repeats seen (drop i outs) ≡ (has_text seen out || repeats (seen ++ out ∷ []) (drop (i + 1) outs))
repeats_step seen outs i out h is =
    at_drop_more (repeats seen) outs i out h
    ∙ ap (λ x. has_text seen x || repeats (seen ++ x ∷ []) (drop (i + 1) outs)) (sym is)

one_more : (texts outs : List (List ℕ)) (i : ℕ) (out : List ℕ) → i < length outs → out ≡ get_or outs i out
    → texts ++ take (i + 1) outs ≡ (texts ++ take i outs) ++ out ∷ []
one_more texts outs i out h is =
    ap (λ x. texts ++ x) (take_more outs i out h ∙ ap (λ x. take i outs ++ x ∷ []) (sym is))
    ∙ sym (append_assoc texts (take i outs) (out ∷ []))

-- what the first outs and those that are left say
pub record Adds (texts outs : List (List ℕ)) (i : ℕ) (s : List (List ℕ)) : Type 0 where
  pub set : IsSetOf (texts ++ take i outs) s
  pub same : repeats (texts ++ take i outs) (drop i outs) ≡ repeats texts outs

pub adds_refused : (texts outs : List (List ℕ)) (i : ℕ) (s : List (List ℕ)) (out : List ℕ) (x : Bor (List ℕ))
    (new : Bool) → i < length outs → out ≡ get_or outs i out → Adds texts outs i s → x.now ≡ out
    → new ≡ not (knows s x.now) → new ≡ false → false ≡ not (repeats texts outs)
adds_refused texts outs i s out x new h is adds at e old =
    let seen : has_text (texts ++ take i outs) out ≡ true =
    added (texts ++ take i outs) s out x new adds.set at e ∙ ap not old in
    sym (ap not (sym adds.same ∙ repeats_step (texts ++ take i outs) outs i out h is
    ∙ ap (λ b. b || repeats ((texts ++ take i outs) ++ out ∷ []) (drop (i + 1) outs)) seen))

pub adds_more : (texts outs : List (List ℕ)) (i : ℕ) (s n : List (List ℕ)) (out : List ℕ) (x : Bor (List ℕ))
    (new : Bool) → i < length outs → out ≡ get_or outs i out → Adds texts outs i s → x.now ≡ out
    → new ≡ not (knows s x.now) → new ≡ true → Learns s x.now n → Adds texts outs (i + 1) n
adds_more texts outs i s n out x new h is adds at e fresh updates =
    let unseen : has_text (texts ++ take i outs) out ≡ false =
    added (texts ++ take i outs) s out x new adds.set at e ∙ ap not fresh in
    let more = one_more texts outs i out h is in
    record {
      set =
          subst (λ ts. IsSetOf ts n) (ap (λ o. (texts ++ take i outs) ++ o ∷ []) at ∙ sym more)
          (set_more (texts ++ take i outs) s n x.now adds.set updates);
      same =
          ap (λ ts. repeats ts (drop (i + 1) outs)) more
          ∙ sym (ap (λ b. b || repeats ((texts ++ take i outs) ++ out ∷ []) (drop (i + 1) outs)) unseen)
          ∙ sym (repeats_step (texts ++ take i outs) outs i out h is)
          ∙ adds.same;
    }

pub adds_all : (texts outs : List (List ℕ)) (i : ℕ) (s : List (List ℕ)) → length outs ≤ i → Adds texts outs i s
    → IsSetOf (texts ++ outs) s
adds_all texts outs i s h adds = subst (λ o. IsSetOf (texts ++ o) s) (take_all i outs h) adds.set

pub adds_none : (texts outs : List (List ℕ)) (i : ℕ) (s : List (List ℕ)) → length outs ≤ i → Adds texts outs i s
    → true ≡ not (repeats texts outs)
adds_none texts outs i s h adds = sym (ap not (sym adds.same ∙ ap (repeats (texts ++ take i outs)) (drop_all i outs h)))
