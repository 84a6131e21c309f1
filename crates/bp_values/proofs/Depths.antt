-- The step of the loop that compares the depths of a map's values with a limit.
use Rattle.std.proofs.Common.{◌≡◌, ℕ, ◌+◌, ◌<◌, ◌&&◌, List, ◌∷◌, map, drop, length, get_or, ap, sym, ◌∙◌, arith}
use Rattle.std.specs.Prelude.{nat_le, max}
use Rattle.std.proofs.lemmas.Bool.Decides.{nat_tests}
use Rattle.bp_values.specs.declared.value.Entry.{Entry, out-Entry}
use Rattle.bp_values.specs.Values.{map_entry_of, meaning, map_entries_then, no_map_entry}
use Rattle.bp_values.specs.Depths.{depth, depth_of_entries}
use Rattle.bp_values.proofs.Steps.{map_drop_cons}
use Rattle.bp_values.proofs.Views.{value_out}

pub le_max : (a b n : ℕ) → nat_le (max a b) n ≡ (nat_le a n && nat_le b n)
le_max a b n = grind (arith, nat_tests)

pub within_step : (es : List Entry) (i : ℕ) (e : Entry) (limit : ℕ) → i < length es → e ≡ get_or es i e
    → nat_le (depth_of_entries (map_entries_then (map map_entry_of (drop i es)) no_map_entry)) limit
    ≡ (nat_le (depth (meaning (out-Entry e).value)) limit
    && nat_le (depth_of_entries (map_entries_then (map map_entry_of (drop (i + 1) es)) no_map_entry)) limit)
within_step es i e limit within item =
    let rest : map map_entry_of (drop i es) ≡ map_entry_of e ∷ map map_entry_of (drop (i + 1) es) =
    map_drop_cons map_entry_of es i e within
    ∙ ap (λ x. map_entry_of x ∷ map map_entry_of (drop (i + 1) es)) (sym item) in
    ap (λ l. nat_le (depth_of_entries (map_entries_then l no_map_entry)) limit) rest
    ∙ le_max (depth (map_entry_of e).value)
    (depth_of_entries (map_entries_then (map map_entry_of (drop (i + 1) es)) no_map_entry)) limit
    ∙ ap (λ v. nat_le (depth v) limit
    && nat_le (depth_of_entries (map_entries_then (map map_entry_of (drop (i + 1) es)) no_map_entry)) limit)
    (value_out e)
