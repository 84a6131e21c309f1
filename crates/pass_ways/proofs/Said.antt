-- What the first lines of an order file say.
use Rattle.std.proofs.Common.{◌≡◌, ◌<◌, ◌≤◌, ◌+◌, ℕ, zero, suc, List, [], ◌∷◌, ◌++◌, length, get_or, take, drop, refl}
use Rattle.std.proofs.Common.{ap, ◌∙◌, sym, arith, Some}
use Rattle.std.proofs.Math.Seq.{drop-nil}
use Rattle.bp_faults.specs.declared.ids.NodeId.{NodeId}
use Rattle.pass_ways.specs.declared.way.OrderLine.{OrderLine}
use Rattle.pass_ways.specs.Visits.{visits}
use Rattle.pass_ways.specs.OrderFiles.{Say, lines_behind}

pub say_few : (lines : List OrderLine) (said : List (ℕ × NodeId)) → Say lines said → length said ≤ length lines
say_few lines [] h = omega arith
say_few [] (v ∷ vs) h = absurd h
say_few (l ∷ ls) (v ∷ vs) h = let e = say_few ls vs h.1 in omega arith

pub say_joined : (lines : List OrderLine) (said more : List (ℕ × NodeId)) → Say lines said → Say (lines_behind lines
    said) more → Say lines (said ++ more)
say_joined lines [] more h k = k
say_joined [] (v ∷ vs) more h k = absurd h
say_joined (l ∷ ls) (v ∷ vs) more h k = (h.0, say_joined ls vs more h.1 k)

pub say_first : (lines : List OrderLine) (said more : List (ℕ × NodeId)) → Say lines (said ++ more) → Say lines said
say_first lines [] more h = tt
say_first [] (v ∷ vs) more h = absurd h
say_first (l ∷ ls) (v ∷ vs) more h = (h.0, say_first ls vs more h.1)

pub say_behind : (lines : List OrderLine) (said more : List (ℕ × NodeId)) → Say lines (said ++ more) → Say
    (lines_behind lines said) more
say_behind lines [] more h = h
say_behind [] (v ∷ vs) more h = absurd h
say_behind (l ∷ ls) (v ∷ vs) more h = say_behind ls vs more h.1

pub say_pushed : (lines : List OrderLine) (pass : ℕ) (order : List NodeId) (i : ℕ) (l : OrderLine) (n : NodeId) → Say
    lines (visits pass order) → length order ≡ i → i < length lines → (get_or lines i l).entry ≡ Some (pass, n) → Say
    lines (visits pass (order ++ n ∷ []))
say_pushed [] pass order i l n h e lt is = absurd (omega arith)
say_pushed (x ∷ xs) pass [] zero l n h e lt is = (is, tt)
say_pushed (x ∷ xs) pass [] (suc i) l n h e lt is = absurd (omega arith)
say_pushed (x ∷ xs) pass (m ∷ ms) zero l n h e lt is = absurd (omega arith)
say_pushed (x ∷ xs) pass (m ∷ ms) (suc i) l n h e lt is = (
  h.0,
  say_pushed xs pass ms i l n h.1 (omega arith) (omega
      arith) is,
)

pub say_taken : (lines : List OrderLine) (pass : ℕ) (order : List NodeId) (k : ℕ) → Say lines (visits pass order) → Say
    lines (visits pass (take k order))
say_taken lines pass order zero h = tt
say_taken lines pass [] (suc k) h = tt
say_taken [] pass (n ∷ ns) (suc k) h = absurd h
say_taken (l ∷ ls) pass (n ∷ ns) (suc k) h = (h.0, say_taken ls pass ns k h.1)

-- the line at an index of those that say some visits
pub line_said : (lines : List OrderLine) (pass : ℕ) (order : List NodeId) (k : ℕ) (d : NodeId) → Say lines (visits pass
    order) → k < length order → (l : OrderLine) × (ls : List OrderLine) × (drop k lines ≡ l ∷ ls) × (l.entry ≡ Some
    (pass, get_or order k d))
line_said lines pass [] k d h lt = absurd (omega arith)
line_said [] pass (n ∷ ns) k d h lt = absurd h
line_said (l ∷ ls) pass (n ∷ ns) zero d h lt = (l, ls, refl, h.0)
line_said (l ∷ ls) pass (n ∷ ns) (suc k) d h lt = line_said ls pass ns k d h.1 (omega arith)

pub drop_more : {X : Type 0} (xs : List X) (a b : ℕ) → drop b (drop a xs) ≡ drop (a + b) xs
drop_more xs zero b = ap (λ k. drop k xs) (omega arith)
drop_more [] (suc a) b = drop-nil b ∙ sym (drop-nil (suc a + b))
drop_more (x ∷ xs) (suc a) b = drop_more xs a b ∙ sym (ap (λ k. drop k (x ∷ xs)) (let e : suc a + b ≡ suc (a + b) =
    omega arith in e))
