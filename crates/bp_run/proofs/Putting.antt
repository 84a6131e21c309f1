-- Texts that are put where they go, one after another.
use Rattle.std.proofs.Common.{◌≡◌, ◌∙◌, ◌≤◌, ◌<◌, ◌+◌, inl, inr, ℕ, zero, suc, List, [], ◌∷◌, ◌++◌, length, map, take}
use Rattle.std.proofs.Common.{drop, get_or, refl, sym, ap, subst, arith, Result, Ok, Err, true, false}
use Rattle.std.specs.Result.{is_err}
use Rattle.std.proofs.Math.Seq.{drop-cons}
use Rattle.std.proofs.lemmas.List.{get_or-map, take_more, take-append-drop}
use Rattle.std.specs.FinMap.{insert}
use Rattle.bp_ports.specs.Causes.{Rose}
use Rattle.bp_ports.specs.Files.{WhereTold, SameBut, AppendsPart}
use Rattle.bp_run.specs.declared.put.Put.{Put}
use Rattle.bp_run.specs.declared.put.Put.TheVariants.{Write, Print}
use Rattle.bp_run.specs.End.{ArePrints, TryMeans, failure_line}
use Rattle.bp_run.specs.Puts.{IsPut, ArePut, IsUnput, AreUnput}
use Rattle.bp_run.specs.World.{World, IsSpared}

-- what a try comes to, by whether it failed
pub put_of : {E : Type 0} (put : Put) (old new : World) (r : Result Unit E) → is_err r ≡ false → TryMeans put old new r
    → IsPut put old new
put_of put old new (Ok done) is h = h
put_of put old new (Err failed) is h = absurd (cc)

pub unput_of : {E : Type 0} (put : Put) (old new : World) (r : Result Unit E) → is_err r ≡ true
    → TryMeans put old new r → IsUnput put old new (failure_line put)
unput_of put old new (Ok done) is h = absurd (cc)
unput_of put old new (Err failed) is h = h

-- a count that rose later
rose_later : (old between new : ℕ) → old ≤ between → Rose between new → Rose old new
rose_later old between new later rose = omega (arith, later, rose)

-- nothing is put
pub none_put : (old : World) → ArePut [] old old
none_put old = (record { files = refl; out = refl }, record { writes = omega arith; puts = omega arith })

-- a text behind none
put_first : (put : Put) (old between new : World) → ArePut [] old between → IsPut put between new → IsPut put old new
put_first (Write path text) old between new before h = record {
  files = subst (λ told. WhereTold (λ had has. has ≡ insert had path text) told new.files) before.0.files h.files;
  out = h.out ∙ before.0.out;
  counts = record {
    writes = omega (arith, before.1.writes, h.counts.writes);
    puts = omega (arith, before.1.puts, h.counts.puts);
  };
}
put_first (Print text) old between new before h = record {
  out = subst (λ told. WhereTold (λ had has. has ≡ had ++ text) told new.out) before.0.out h.out;
  files = h.files ∙ before.0.files;
  counts = record {
    writes = omega (arith, before.1.writes, h.counts.writes);
    puts = omega (arith, before.1.puts, h.counts.puts);
  };
}

-- the same of one that can't be put
unput_first : (put : Put) (old between new : World) (line : List ℕ) → ArePut [] old between
    → IsUnput put between new line → IsUnput put old new line
unput_first (Write path text) old between new line before h = record {
  told = h.told;
  cause = rose_later old.writes between.writes new.writes before.1.writes h.cause;
  files = subst (λ told. WhereTold (SameBut path) told new.files) before.0.files h.files;
  out = h.out ∙ before.0.out;
}
unput_first (Print text) old between new line before h = record {
  told = h.told;
  cause = rose_later old.puts between.puts new.puts before.1.puts h.cause;
  out = subst (λ told. WhereTold (AppendsPart text) told new.out) before.0.out h.out;
  files = h.files ∙ before.0.files;
}

-- texts behind none
pub puts_first : (puts : List Put) (old between new : World) → ArePut [] old between → ArePut puts between new
    → ArePut puts old new
puts_first [] old between new before h = (
  record { files = h.0.files ∙ before.0.files; out = h.0.out ∙ before.0.out },
  record { writes = omega (arith, before.1.writes, h.1.writes); puts = omega (arith, before.1.puts, h.1.puts) },
)
puts_first (put ∷ puts) old between new before (next, first, rest) =
    (next, put_first put old between next before first, rest)

pub unputs_first : (puts : List Put) (old between new : World) (line : List ℕ) → ArePut [] old between
    → AreUnput puts between new line → AreUnput puts old new line
unputs_first [] old between new line before h = h
unputs_first (put ∷ puts) old between new line before (inl h) = inl (unput_first put old between new line before h)
unputs_first (put ∷ puts) old between new line before (inr (next, first, rest)) =
    inr (next, put_first put old between next before first, rest)

-- a text behind others
pub put_behind : (puts : List Put) (put : Put) (old between new : World) → ArePut puts old between
    → IsPut put between new → ArePut (puts ++ put ∷ []) old new
put_behind [] put old between new before h = (new, put_first put old between new before h, none_put new)
put_behind (p ∷ ps) put old between new (next, first, rest) h =
    (next, first, put_behind ps put next between new rest h)

-- the same of one that can't be put
pub unput_behind : (puts : List Put) (put : Put) (rest : List Put) (old between new : World) (line : List ℕ)
    → ArePut puts old between → IsUnput put between new line → AreUnput (puts ++ put ∷ rest) old new line
unput_behind [] put rest old between new line before h = inl (unput_first put old between new line before h)
unput_behind (p ∷ ps) put rest old between new line (next, first, before) h =
    inr (next, first, unput_behind ps put rest next between new line before h)

-- a text that can't be put raised a count
pub unput_rose : (puts : List Put) (old new : World) (line : List ℕ) → AreUnput puts old new line
    → (Rose old.writes new.writes → ⊥) → (Rose old.puts new.puts → ⊥) → ⊥
unput_rose [] old new line h writes puts = absurd h
unput_rose (Write path text ∷ ps) old new line (inl h) writes puts = writes h.cause
unput_rose (Print text ∷ ps) old new line (inl h) writes puts = puts h.cause
unput_rose (Write path text ∷ ps) old new line (inr (next, first, rest)) writes puts =
    unput_rose ps next new line rest
    (λ rose. writes (rose_later old.writes next.writes new.writes first.counts.writes rose))
    (λ rose. puts (rose_later old.puts next.puts new.puts first.counts.puts rose))
unput_rose (Print text ∷ ps) old new line (inr (next, first, rest)) writes puts =
    unput_rose ps next new line rest
    (λ rose. writes (rose_later old.writes next.writes new.writes first.counts.writes rose))
    (λ rose. puts (rose_later old.puts next.puts new.puts first.counts.puts rose))

-- of prints each is one
pub print_at : (puts : List Put) (i : ℕ) (default : Put) → ArePrints puts → i < length puts
    → ArePrints (get_or puts i default ∷ [])
print_at [] i default prints within = absurd (omega (arith, within))
print_at (Write path text ∷ ps) i default prints within = absurd prints
print_at (Print text ∷ ps) zero default prints within = tt
print_at (Print text ∷ ps) (suc i) default prints within = print_at ps i default prints (omega (arith, within))

-- What was spared twice.
pub spared_twice : (old between new : World) → IsSpared old between → IsSpared between new → IsSpared old new
spared_twice old between new first second = record {
  files = second.files ∙ first.files;
  reads = second.reads ∙ first.reads;
  writes = second.writes ∙ first.writes;
}

-- The text at an index, behind those before it.
module _ (puts : List Put) (i : ℕ) (put : Put) (within : i < length puts) (is : put ≡ get_or puts i put) where
  front : take (i + 1) puts ≡ take i puts ++ put ∷ []
  front = take_more puts i put within ∙ ap (λ p. take i puts ++ p ∷ []) (sym is)

  whole : puts ≡ take i puts ++ put ∷ drop (suc i) puts
  whole = sym (take-append-drop i puts)
      ∙ ap (λ rest. take i puts ++ rest)
      (drop-cons puts i put within ∙ ap (λ p. p ∷ drop (suc i) puts) (sym is))

  -- it is put
  pub one_more_put : (old between new : World) → ArePut (take i puts) old between → IsPut put between new
      → ArePut (take (i + 1) puts) old new
  one_more_put old between new before h =
      subst (λ ps. ArePut ps old new) (sym front) (put_behind (take i puts) put old between new before h)

  -- it can't be put, which the line at its index says
  pub unput_at : (old between new : World) (line : List ℕ) → ArePut (take i puts) old between
      → IsUnput put between new (failure_line put) → line ≡ get_or (map failure_line puts) i line
      → AreUnput puts old new line
  unput_at old between new line before h at =
      subst (λ l. AreUnput puts old new l)
      (sym (at ∙ get_or-map failure_line puts i put line within ∙ ap failure_line (sym is)))
      (subst (λ ps. AreUnput ps old new (failure_line put)) (sym whole)
      (unput_behind (take i puts) put (drop (suc i) puts) old between new (failure_line put) before h))

  -- it is a print, where all are
  pub print_here : ArePrints puts → ArePrints (put ∷ [])
  print_here prints = subst (λ p. ArePrints (p ∷ [])) (sym is) (print_at puts i put prints within)
