-- Which numbers are noted, by their slots and by a set of others.
use Rattle.std.proofs.Common.{◌≡◌, ◌≢◌, ◌+◌, ◌++◌, ◌&&◌, ◌||◌, ℕ, zero, suc, List, [], ◌∷◌, Bool, true, false, not}
use Rattle.std.proofs.Common.{cond, nat_eq, set, slice_get, bit_and, Option, Some, None, Result, Ok, Err, OnOk, OnErr}
use Rattle.std.proofs.Common.{refl, sym, ap, subst, ◌∙◌, arith}
use Rattle.std.specs.List.{list_any}
use Rattle.std.specs.Option.{unwrap_or}
use Rattle.std.proofs.lemmas.Bool.{eqb-true, eqb-false}
use Rattle.std.proofs.lemmas.List.{map-append}
use Rattle.std.proofs.lemmas.List.Folds.{list_any-append}
use Rattle.indexmap.specs.IndexSet.{insert_key}
use Rattle.bp_faults.specs.declared.ids.NodeId.{NodeId}
use Rattle.bp_faults.proofs.Lists.{get_else}
use Rattle.serial_pass.specs.Orders.{numbers}
use Rattle.info_mutators.specs.Inside.{is_noted_by, KnowsNoted, NotesOther, StaysNoted}
use Rattle.info_mutators.proofs.Noted.{or_false}

pub same_number : (a : ℕ) → nat_eq a a ≡ true
same_number a = by (nat_eq a a) refl
  where
    by : (b : Bool) → nat_eq a a ≡ b → b ≡ true
    by true e = refl
    by false e = absurd (eqb-false a a e refl)

other_number : (a b : ℕ) → a ≢ b → nat_eq a b ≡ false
other_number a b ne = by (nat_eq a b) refl
  where
    by : (c : Bool) → nat_eq a b ≡ c → c ≡ false
    by true e = absurd (ne (eqb-true a b e))
    by false e = refl

-- a slot that is written
get_set_here : (xs : List ℕ) (i v x : ℕ) → slice_get xs i ≡ Some x → slice_get (set xs i v) i ≡ Some v
get_set_here [] i v x e = cc
get_set_here (y ∷ ys) zero v x e = refl
get_set_here (y ∷ ys) (suc i) v x e = get_set_here ys i v x e

-- a list with one number more
any_last : (x : ℕ) (xs : List ℕ) → list_any (nat_eq x) (xs ++ x ∷ []) ≡ true
any_last x xs =
    list_any-append (nat_eq x) xs (x ∷ [])
    ∙ ap (λ b. list_any (nat_eq x) xs || (b || false)) (same_number x)
    ∙ by (list_any (nat_eq x) xs)
  where
    by : (b : Bool) → (b || (true || false)) ≡ true
    by true = refl
    by false = refl

any_before : (y x : ℕ) (xs : List ℕ) → y ≢ x → list_any (nat_eq y) (xs ++ x ∷ []) ≡ list_any (nat_eq y) xs
any_before y x xs ne =
    list_any-append (nat_eq y) xs (x ∷ [])
    ∙ ap (λ b. list_any (nat_eq y) xs || (b || false)) (other_number y x ne)
    ∙ or_false (list_any (nat_eq y) xs)

any_kept_with : (y x : ℕ) (xs : List ℕ) → list_any (nat_eq y) xs ≡ true → list_any (nat_eq y) (xs ++ x ∷ []) ≡ true
any_kept_with y x xs e = list_any-append (nat_eq y) xs (x ∷ []) ∙ ap (λ b. b || (nat_eq y x || false)) e

-- what slots say of their numbers
owner_is_noted : (others : List ℕ) (x : ℕ) → is_noted_by (Some (x + 1)) others x ≡ true
owner_is_noted others x =
    ap (λ b. not b && (nat_eq (x + 1) (x + 1) || list_any (nat_eq x) others))
    (other_number (x + 1) 0 (λ e. omega (arith, e)))
    ∙ ap (λ b. b || list_any (nat_eq x) others) (same_number (x + 1))

owned_by_other : (others : List ℕ) (held y : ℕ) → held ≢ 0 → held ≢ y + 1
    → is_noted_by (Some held) others y ≡ list_any (nat_eq y) others
owned_by_other others held y taken ne =
    ap (λ b. not b && (nat_eq held (y + 1) || list_any (nat_eq y) others)) (other_number held 0 taken)
    ∙ ap (λ b. b || list_any (nat_eq y) others) (other_number held (y + 1) ne)

module _ (mask : ℕ) (slots others noted : List ℕ) (knows : KnowsNoted mask slots others noted) (x : ℕ) where
  -- the number of a free slot isn't noted
  pub free_is_new : slice_get slots (bit_and x mask) ≡ Some 0 → list_any (nat_eq x) noted ≡ false
  free_is_new free = sym (knows.found x) ∙ ap (λ o. is_noted_by o others x) free

  -- the owner of a slot is noted
  pub owner_noted : slice_get slots (bit_and x mask) ≡ Some (x + 1) → list_any (nat_eq x) noted ≡ true
  owner_noted own = sym (knows.found x) ∙ ap (λ o. is_noted_by o others x) own ∙ owner_is_noted others x

  -- it takes the slot
  pub slot_taken : slice_get slots (bit_and x mask) ≡ Some 0
      → KnowsNoted mask (set slots (bit_and x mask) (x + 1)) others (noted ++ x ∷ [])
  slot_taken free = record {
    found = λ y. here y (nat_eq y x) refl;
    within = λ y e. any_kept_with y x noted (knows.within y e);
  }
    where
      no_other : (y : ℕ) → bit_and y mask ≡ bit_and x mask → (b : Bool) → list_any (nat_eq y) others ≡ b
          → b ≡ list_any (nat_eq y) noted
      no_other y same true e = sym (knows.within y e)
      no_other y same false e =
          sym (ap (λ o. is_noted_by o others y) (ap (slice_get slots) same ∙ free)) ∙ knows.found y

      there : (y : ℕ) → y ≢ x → (b : Bool) → nat_eq (bit_and y mask) (bit_and x mask) ≡ b
          → is_noted_by (slice_get (set slots (bit_and x mask) (x + 1)) (bit_and y mask)) others y
          ≡ list_any (nat_eq y) (noted ++ x ∷ [])
      there y ne true e =
          let same = eqb-true (bit_and y mask) (bit_and x mask) e in
          ap (λ o. is_noted_by o others y) (ap (slice_get (set slots (bit_and x mask) (x + 1))) same
          ∙ get_set_here slots (bit_and x mask) (x + 1) 0 free)
          ∙ owned_by_other others (x + 1) y (λ z. omega (arith, z)) (λ z. ne (omega (arith, z)))
          ∙ no_other y same (list_any (nat_eq y) others) refl ∙ sym (any_before y x noted ne)
      there y ne false e =
          ap (λ o. is_noted_by o others y)
          (get_else slots (bit_and x mask) (bit_and y mask) (x + 1) (eqb-false (bit_and y mask) (bit_and x mask) e))
          ∙ knows.found y ∙ sym (any_before y x noted ne)

      here : (y : ℕ) → (b : Bool) → nat_eq y x ≡ b
          → is_noted_by (slice_get (set slots (bit_and x mask) (x + 1)) (bit_and y mask)) others y
          ≡ list_any (nat_eq y) (noted ++ x ∷ [])
      here y true e =
          subst (λ z. is_noted_by (slice_get (set slots (bit_and x mask) (x + 1)) (bit_and z mask)) others z
          ≡ list_any (nat_eq z) (noted ++ x ∷ [])) (sym (eqb-true y x e))
          (ap (λ o. is_noted_by o others x) (get_set_here slots (bit_and x mask) (x + 1) 0 free)
          ∙ owner_is_noted others x
          ∙ sym (any_last x noted))
      here y false e = there y (eqb-false y x e) (nat_eq (bit_and y mask) (bit_and x mask)) refl

  -- where the set decides of the number, it is noted in both or in neither
  module _ (decides : (more : List ℕ)
      → is_noted_by (slice_get slots (bit_and x mask)) more x ≡ list_any (nat_eq x) more) where
    same_in_both : list_any (nat_eq x) others ≡ list_any (nat_eq x) noted
    same_in_both = sym (decides others) ∙ knows.found x

    added_to_both : KnowsNoted mask slots (others ++ x ∷ []) (noted ++ x ∷ [])
    added_to_both = record {
      found = λ y. here y (nat_eq y x) refl;
      within = λ y e. inside y e (nat_eq y x) refl;
    }
      where
        same_by : (y : ℕ) → y ≢ x → (o : Option ℕ) → is_noted_by o (others ++ x ∷ []) y ≡ is_noted_by o others y
        same_by y ne None = any_before y x others ne
        same_by y ne (Some held) =
            ap (λ b. not (nat_eq held 0) && (nat_eq held (y + 1) || b)) (any_before y x others ne)

        here : (y : ℕ) (b : Bool) → nat_eq y x ≡ b → is_noted_by (slice_get slots (bit_and y mask)) (others ++ x ∷ []) y
            ≡ list_any (nat_eq y) (noted ++ x ∷ [])
        here y true e =
            subst (λ z. is_noted_by (slice_get slots (bit_and z mask)) (others ++ x ∷ []) z
            ≡ list_any (nat_eq z) (noted ++ x ∷ [])) (sym (eqb-true y x e))
            (decides (others ++ x ∷ []) ∙ any_last x others ∙ sym (any_last x noted))
        here y false e =
            let ne = eqb-false y x e in
            same_by y ne (slice_get slots (bit_and y mask)) ∙ knows.found y ∙ sym (any_before y x noted ne)

        inside : (y : ℕ) → list_any (nat_eq y) (others ++ x ∷ []) ≡ true → (b : Bool) → nat_eq y x ≡ b
            → list_any (nat_eq y) (noted ++ x ∷ []) ≡ true
        inside y h true e =
            subst (λ z. list_any (nat_eq z) (noted ++ x ∷ []) ≡ true) (sym (eqb-true y x e)) (any_last x noted)
        inside y h false e =
            any_kept_with y x noted (knows.within y (sym (any_before y x others (eqb-false y x e)) ∙ h))

    inserted_in_both : KnowsNoted mask slots (insert_key nat_eq others x) (insert_key nat_eq noted x)
    inserted_in_both = by (list_any (nat_eq x) others) (list_any (nat_eq x) noted) same_in_both
      where
        by : (a b : Bool) → a ≡ b
            → KnowsNoted mask slots (cond a others (others ++ x ∷ [])) (cond b noted (noted ++ x ∷ []))
        by true true e = knows
        by true false e = cc
        by false true e = cc
        by false false e = added_to_both

-- the numbers of a list with one node more
pub numbers_with : (nodes : List NodeId) (node : NodeId) → numbers (nodes ++ node ∷ []) ≡ numbers nodes ++ node.0 ∷ []
numbers_with nodes node = map-append (λ (n : NodeId). n.0) nodes (node ∷ [])

pub new_is_added : (x : ℕ) (noted : List ℕ) → list_any (nat_eq x) noted ≡ false
    → noted ++ x ∷ [] ≡ insert_key nat_eq noted x
new_is_added x noted e = sym (ap (λ b. cond b noted (noted ++ x ∷ [])) e)

pub noted_stays : (x : ℕ) (noted : List ℕ) → list_any (nat_eq x) noted ≡ true → noted ≡ insert_key nat_eq noted x
noted_stays x noted e = sym (ap (λ b. cond b noted (noted ++ x ∷ [])) e)

other_owner_decides : (o : Option ℕ) (held x : ℕ) → o ≡ Some held → held ≢ 0 → held ≢ x + 1 → (more : List ℕ)
    → is_noted_by o more x ≡ list_any (nat_eq x) more
other_owner_decides o held x is taken ne more = ap (λ p. is_noted_by p more x) is ∙ owned_by_other more held x taken ne

-- a node is noted in the list and in the set, unless the set has it
module _ (mask : ℕ) (slots others : List ℕ) (nodes : List NodeId) (node : NodeId)
    (knows : KnowsNoted mask slots others (numbers nodes))
    (decides : (more : List ℕ)
    → is_noted_by (slice_get slots (bit_and node.0 mask)) more node.0 ≡ list_any (nat_eq node.0) more)
    (keys : List ℕ) (after : List NodeId) where
  other_numbers : NotesOther node others nodes keys after → numbers after ≡ insert_key nat_eq (numbers nodes) node.0
  other_numbers noted =
      ap numbers noted.nodes
      ∙ by (list_any (nat_eq node.0) others)
      ∙ ap (λ b. cond b (numbers nodes) (numbers nodes ++ node.0 ∷ []))
      (same_in_both mask slots others (numbers nodes) knows node.0 decides)
    where
      by : (b : Bool)
          → numbers (cond b nodes (nodes ++ node ∷ [])) ≡ cond b (numbers nodes) (numbers nodes ++ node.0 ∷ [])
      by true = refl
      by false = numbers_with nodes node

  pub other_known : {V E : Type 0} (r : Result V E) → OnOk r (NotesOther node others nodes keys after)
      → OnErr r (StaysNoted others nodes keys after) → KnowsNoted mask slots keys (numbers after)
  other_known (Ok v) noted stays =
      subst (λ ns. KnowsNoted mask slots keys ns) (sym (other_numbers noted))
      (subst (λ ks. KnowsNoted mask slots ks (insert_key nat_eq (numbers nodes) node.0)) (sym noted.keys)
      (inserted_in_both mask slots others (numbers nodes) knows node.0 decides))
  other_known (Err e) noted stays =
      subst (λ ns. KnowsNoted mask slots keys (numbers ns)) (sym stays.nodes)
      (subst (λ ks. KnowsNoted mask slots ks (numbers nodes)) (sym stays.keys) knows)

  pub other_list : {V E : Type 0} (r : Result V E) → OnOk r (NotesOther node others nodes keys after)
      → OnOk r (numbers after ≡ insert_key nat_eq (numbers nodes) node.0)
  other_list (Ok v) noted = other_numbers noted
  other_list (Err e) noted = tt

-- what a slot holds
pub held_there : (o : Option ℕ) (none held : ℕ) → held ≡ unwrap_or o none → held ≢ none → o ≡ Some held
held_there None none held is ne = absurd (ne is)
held_there (Some h) none held is ne = ap Some (sym is)

pub held_by_other : (o : Option ℕ) (none held x : ℕ) → held ≡ unwrap_or o none → held ≢ 0 → held ≢ x + 1
    → (more : List ℕ) → is_noted_by o more x ≡ list_any (nat_eq x) more
held_by_other None none held x is taken ne more = refl
held_by_other (Some h) none held x is taken ne more =
    other_owner_decides (Some h) held x (ap Some (sym is)) taken ne more
