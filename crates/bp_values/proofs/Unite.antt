-- The step of the loop that unites two maps.
use Rattle.std.specs.Str.{bytes_eq}
use Rattle.std.proofs.Common.{◌≡◌, ℕ, ◌||◌, List, [], ◌∷◌, ◌++◌, map, refl, sym, ap, ◌∙◌, Result, Ok, Err, append_assoc}
use Rattle.std.proofs.Common.{subst}
use Rattle.bp_faults.specs.declared.place.Place.{Place}
use Rattle.bp_faults.specs.declared.fault.Fault.{Fault}
use Rattle.bp_values.specs.declared.value.Entry.{Entry, out-Entry}
use Rattle.bp_values.proofs.Views.{entry_out}
use Rattle.bp_faults.specs.declared.refusal.Refusal.{Refusal}
use Rattle.bp_faults.specs.declared.refusal.Refusal.TheVariants.{Bad, OutOfMemory}
use Rattle.bp_values.specs.Values.{map_entry_of, meaning, Meaning, no_map_entry, MapEntry, map_entries_then}
use Rattle.bp_values.specs.Values.{map_entries_of, body}
use Rattle.bp_faults.specs.Answers.{then_do, Answers, Refuses}
use Rattle.bp_values.specs.Sums.{map_entry_then, combined_value, sum, sum_entries, value_at, has_name, others}

-- the entries done, and then what comes
abbrev pub prefixed : List MapEntry → Result (List MapEntry) Fault → Result (List MapEntry) Fault
prefixed done rest = then_do rest (λ fs. Ok (done ++ fs))

pub entries_back : (fs : List MapEntry) → map_entries_of (map_entries_then fs no_map_entry) ≡ fs
entries_back [] = refl
entries_back (f ∷ fs) = ap (λ gs. f ∷ gs) (entries_back fs)

-- a sum that was had goes behind what is done
pub one_more : (done : List MapEntry) (name : List ℕ) (at : Place) (v : Meaning) (r : Result Meaning Fault)
    (more : Result (List MapEntry) Fault) → r ≡ Ok v
    → prefixed done (map_entry_then name at r more)
    ≡ prefixed (done ++ (record { name = name; at = at; value = v }) ∷ []) more
one_more done name at v r (Ok fs) e =
    rw e (ap Ok (sym (append_assoc done ((record { name = name; at = at; value = v }) ∷ []) fs)))
one_more done name at v r (Err f) e = rw e refl

-- the sum of two maps, by their lists
pub sum_bodies : (at : Place) (fs gs : List MapEntry) → sum at (body fs) (body gs)
    ≡ then_do (sum_entries at (map_entries_then fs no_map_entry) gs) (λ hs. Ok (body (hs ++ others gs fs)))
sum_bodies at fs gs = rw (entries_back gs, entries_back fs) refl

-- the sums have the names of the first map
pub summed_names : (at : Place) (q : List ℕ) (first second fs : List MapEntry)
    → sum_entries at (map_entries_then first no_map_entry) second ≡ Ok fs → has_name fs q ≡ has_name first q
summed_names at q [] second fs is =
    let same : [] ≡ fs = cc in
    ap (λ l. has_name l q) (sym same)
summed_names at q (f ∷ first) second fs is =
    by (combined_value f.value (sum at f.value) (value_at f.name second))
    (sum_entries at (map_entries_then first no_map_entry) second) (summed_names at q first second) is
  where
    by : (r : Result Meaning Fault) (s : Result (List MapEntry) Fault)
        → ((gs : List MapEntry) → s ≡ Ok gs → has_name gs q ≡ has_name first q) → map_entry_then f.name f.at r s ≡ Ok fs
        → has_name fs q ≡ has_name (f ∷ first) q
    by (Err e) s rest is = cc
    by (Ok v) (Err e) rest is = cc
    by (Ok v) (Ok gs) rest is =
        let same : (record { name = f.name; at = f.at; value = v }) ∷ gs ≡ fs = cc in
        ap (λ l. has_name l q) (sym same) ∙ ap (λ b. bytes_eq q f.name || b) (rest gs refl)

-- the step of the loop over the first map's entries
pub each_step : (left rest : List Entry) (e : Entry) (at : Place) (gs done now : List MapEntry)
    (whole : Result (List MapEntry) Fault) (v : Meaning) → left ≡ e ∷ rest
    → whole ≡ prefixed done (sum_entries at (map_entries_then (map map_entry_of left) no_map_entry) gs)
    → combined_value (meaning (out-Entry e).value) (sum at (meaning (out-Entry e).value))
    (value_at (out-Entry e).name gs) ≡ Ok v
    → now ≡ done ++ (record { name = (out-Entry e).name; at = (out-Entry e).at; value = v }) ∷ []
    → whole ≡ prefixed now (sum_entries at (map_entries_then (map map_entry_of rest) no_map_entry) gs)
each_step left rest e at gs done now whole v is before had after =
    let had2 : combined_value (map_entry_of e).value (sum at (map_entry_of e).value) (value_at (map_entry_of e).name gs)
    ≡ Ok v =
    rw (entry_out e) had in
    let after2 : now ≡ done ++ (record { name = (map_entry_of e).name; at = (map_entry_of e).at; value = v }) ∷ [] =
    rw (entry_out e) after in
    before ∙ ap (λ es. prefixed done (sum_entries at (map_entries_then (map map_entry_of es) no_map_entry) gs)) is
    ∙ one_more done (map_entry_of e).name (map_entry_of e).at v
    (combined_value (map_entry_of e).value (sum at (map_entry_of e).value)
    (value_at (map_entry_of e).name gs))
    (sum_entries at (map_entries_then (map map_entry_of rest) no_map_entry) gs) had2
    ∙ ap (λ l. prefixed l (sum_entries at (map_entries_then (map map_entry_of rest) no_map_entry) gs)) (sym after2)

-- a refusal of the first is the answer
pub passes : {Y Z W : Type 0} (other : Z → W) (r : Result Z Refusal) (e : Refusal) (first : Result Y Fault)
    (next : Y → Result W Fault)
    → Refuses e first → r ≡ Err e → Answers other r (then_do first next)
passes other r (Bad fault) first next h is =
    subst (λ s. Answers other s (then_do first next)) (sym is) (ap (λ s. then_do s next) h)
passes other r OutOfMemory first next h is = subst (λ s. Answers other s (then_do first next)) (sym is) tt
