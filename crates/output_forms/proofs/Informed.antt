-- `sanitize`, `sdk` and `info` keep the forms of a graph.
use Rattle.std.proofs.Common.{◌≡◌, ◌++◌, ◌||◌, ℕ, zero, suc, Bool, List, [], ◌∷◌, map, None, Ok, Err, refl, ap, reverse}
use Rattle.std.specs.Prelude.{IsTrue, if◌then◌else◌}
use Rattle.std.specs.List.{AllByRecursion, fold, list_any, flat_map}
use Rattle.std.specs.Str.{bytes_eq}
use Rattle.std.specs.Option.{unwrap_or}
use Rattle.bp_faults.specs.declared.ids.NodeId.{NodeId}
use Rattle.bp_faults.proofs.Lists.{all_append, all_image, all_flat, all_reversed}
use Rattle.bp_props.specs.Fields as S
use Rattle.bp_props.specs.declared.fields.GroupProps.{GroupProps}
use Rattle.bp_props.specs.declared.listed.Listed.{Listed}
use Rattle.bp_props.specs.declared.module.Module.{Module}
use Rattle.bp_props.specs.declared.props.Props.{Props}
use Rattle.bp_props.specs.Records.{props_empty}
use Rattle.graph_nodes.specs.declared.graph.Edge.{Edge}
use Rattle.graph_nodes.specs.declared.graph.EdgeKind.{EdgeKind}
use Rattle.graph_nodes.specs.declared.graph.Node.{Node}
use Rattle.graph_nodes.specs.declared.variation.Variation.{Variation}
use Rattle.graph_nodes.specs.declared.variation.Variation.TheVariants.{Empty, Asan}
use Rattle.graph_nodes.specs.declared.variations.Axis.TheVariants.{Sanitize}
use Rattle.graph_nodes.specs.Same.{same}
use Rattle.module_rules.specs.Asking.{variation_on}
use Rattle.module_rules.specs.Results.{one_variant, record_in}
use Rattle.module_rules.specs.Seen.{node_at}
use Rattle.mutator_rules.specs.Arrivals.{arrivals}
use Rattle.mutator_rules.specs.declared.split.Split.{Split}
use Rattle.transition_rules.specs.Spelled.{list_with, is_spelled_before}
use Rattle.transition_rules.specs.Wants.{wants_with, others_of, handed_variation, wanted_variations, variations_meant}
use Rattle.info_mutators.specs.Dependencies.{Dependency, record_made, dependencies_of, is_archived, is_linked_against}
use Rattle.info_mutators.specs.Info.{is_handed_on, export_part, own_includes, include_part, with_lists}
use Rattle.info_mutators.specs.Info.{has_short_lists, too_long, info_over, info_meant}
use Rattle.info_mutators.specs.Kept.{last_of_each, first_of_each}
use Rattle.info_mutators.specs.Sanitize.{is_never, is_on, is_asan, asan_or, outgoing_of, incoming_of, sanitizer_flag}
use Rattle.info_mutators.specs.Sanitize.{with_flag_if, has_sanitized, with_sanitizer, sanitized_record}
use Rattle.info_mutators.specs.Sanitize.{sanitize_meant}
use Rattle.info_mutators.specs.SdkLevel.{level_meant}
use Rattle.build_actions.specs.Variants.{stands_on}
use Rattle.output_forms.specs.Forms.{AreShown, is_writable, HasSoundTexts}
use Rattle.output_forms.specs.Forms.{HasForm, HaveForms}
use Rattle.output_forms.proofs.Each.{IsShown, if_cond}
use Rattle.output_forms.proofs.Fits.{IsFit, Keeps, at_nodes}
use Rattle.output_forms.proofs.Only.{all_pass, passing, added_passing}
use Rattle.output_forms.proofs.Outs.{IfResult}
use Rattle.output_forms.proofs.Records.{empty_sound}

-- a variation of the sanitizer's axis
abbrev pub IsOnSanitize : Variation → Type 0
IsOnSanitize v = IsTrue (stands_on Sanitize v)

-- the record at a number is sound, also beyond the nodes
pub sound_at : (nodes : List (Node Props)) → HaveForms nodes → (n : ℕ) → HasSoundTexts (node_at nodes n).payload
sound_at [] h n = empty_sound
sound_at (x ∷ xs) h zero = h.0.texts
sound_at (x ∷ xs) h (suc n) = sound_at xs h.1 n

-- `sanitize`: which variations there are

asan_on : (other : Variation) (p : Props) → IsOnSanitize other → IsOnSanitize (asan_or other p)
asan_on other p h = if_cond IsOnSanitize (is_on p) Asan other refl h

incoming_on : (p : Props) (w : Variation) → IsOnSanitize w → IsOnSanitize (incoming_of p w)
incoming_on p w h = if_cond IsOnSanitize (is_never p) Empty (asan_or w p) refl (asan_on w p h)

outgoing_on : (kind : EdgeKind) (v : Variation) → IsOnSanitize v → IsOnSanitize (outgoing_of kind v)
outgoing_on kind v h = if_cond IsOnSanitize (is_archived kind) v Empty h refl

inserted_on : (w : Variation) (others : List Variation) → IsOnSanitize w → AllByRecursion IsOnSanitize others
    → AllByRecursion IsOnSanitize (list_with w others)
inserted_on w [] h k = (h, tt)
inserted_on w (v ∷ vs) h k =
    if_cond (AllByRecursion IsOnSanitize) (is_spelled_before w v) (w ∷ v ∷ vs) (v ∷ list_with w vs) (h, k)
    (k.0, inserted_on w vs h k.1)

added_on : (own others : List Variation) (w : Variation) → AllByRecursion IsOnSanitize others → IsOnSanitize w
    → AllByRecursion IsOnSanitize (wants_with own others w)
added_on own others w h k =
    if_cond (AllByRecursion IsOnSanitize) (list_any (same w) own || list_any (same w) others) others
    (list_with w others) h (inserted_on w others k h)

others_on : (own others ws : List Variation) → AllByRecursion IsOnSanitize others
    → AllByRecursion IsOnSanitize ws → AllByRecursion IsOnSanitize (fold (wants_with own) others ws)
others_on own others [] h k = h
others_on own others (w ∷ ws) h k = others_on own (wants_with own others w) ws (added_on own others w h k.0) k.1

module _ (nodes : List (Node Props)) where
  all_handed : (n : ℕ) (a : NodeId × EdgeKind) (vs : List Variation) → AllByRecursion IsOnSanitize vs
      → AllByRecursion IsOnSanitize (map (handed_variation sanitize_meant nodes n a) vs)
  all_handed n a vs h =
      all_image IsOnSanitize IsOnSanitize (handed_variation sanitize_meant nodes n a)
      (λ v on. incoming_on (node_at nodes n).payload (outgoing_of a.1 v) (outgoing_on a.1 v on)) vs h

  wanted_on : (n : ℕ) (leading : List (NodeId × EdgeKind)) (lists : List (List Variation))
      → AllByRecursion (AllByRecursion IsOnSanitize) lists
      → AllByRecursion IsOnSanitize (wanted_variations sanitize_meant nodes n leading lists)
  wanted_on n [] lists h = tt
  wanted_on n (a ∷ rest) [] h = tt
  wanted_on n (a ∷ rest) (vs ∷ lists) h =
      all_append IsOnSanitize (map (handed_variation sanitize_meant nodes n a) vs)
      (wanted_variations sanitize_meant nodes n rest lists)
      (all_handed n a vs h.0) (wanted_on n rest lists h.1)

  -- the variations of a node, given those of the nodes that lead to it
  pub variations_on : (n : ℕ) (lists : List (List Variation)) → AllByRecursion (AllByRecursion IsOnSanitize) lists
      → IfResult (AllByRecursion IsOnSanitize) (variations_meant sanitize_meant nodes n lists)
  variations_on n lists h =
      let own = asan_or Empty (node_at nodes n).payload ∷ [] in
      let ws = wanted_variations sanitize_meant nodes n (arrivals nodes n) lists in
      all_append IsOnSanitize own (others_of own ws)
      (asan_on Empty (node_at nodes n).payload refl, tt)
      (others_on own [] ws tt (wanted_on n (arrivals nodes n) lists h))

-- `sanitize`: the records

flag_passing : (needed : Bool) (list : Listed (List ℕ)) → passing (is_writable S.Flags) list ≡ list
    → passing (is_writable S.Flags) (with_flag_if needed list) ≡ with_flag_if needed list
flag_passing needed list h =
    added_passing (is_writable S.Flags) list (if needed then sanitizer_flag ∷ [] else []) h
    (if_cond AreShown needed (sanitizer_flag ∷ []) [] (refl, tt) tt)

sanitizer_sound : (compiles has : Bool) (p : Props) → HasSoundTexts p → HasSoundTexts (with_sanitizer compiles has p)
sanitizer_sound compiles has p h = record {
  base = λ i. record (h.base i) {
    cflags = flag_passing compiles p.base.cflags (ap (λ (g : GroupProps). g.cflags) h.base) i;
    ldflags = flag_passing has p.base.ldflags (ap (λ (g : GroupProps). g.ldflags) h.base) i;
  };
  groups = h.groups;
  exports = h.exports;
  includes = h.includes;
}

sanitized_sound : (x : Node Props) (ins : List Props) → HasSoundTexts x.payload → HasSoundTexts (sanitized_record x ins)
sanitized_sound x ins h =
    let compiles = is_asan (variation_on Sanitize x.vars) in
    sanitizer_sound compiles (x.payload.asan || (compiles || has_sanitized x.edges ins)) x.payload h

-- the record that the rule gives a node
pub mutated_sound : (nodes : List (Node Props)) → HaveForms nodes → (n : ℕ) (ins : List Props)
    → AllByRecursion HasSoundTexts ins → IfResult HasSoundTexts (sanitize_meant.mutate nodes n ins)
mutated_sound nodes forms n ins h = sanitized_sound (node_at nodes n) ins (sound_at nodes forms n)

-- `sdk`

pub level_sound : (nodes : List (Node Props)) → HaveForms nodes → (n : ℕ) (kinds : List EdgeKind) (ins : List Props)
    → IfResult HasSoundTexts (level_meant nodes n kinds ins)
level_sound nodes forms n kinds ins =
    let h = sound_at nodes forms n in
    record { base = h.base; groups = h.groups; exports = h.exports; includes = h.includes }

-- `info`

last_shown : (texts : List (List ℕ)) → AreShown texts → AreShown (last_of_each bytes_eq texts)
last_shown [] h = tt
last_shown (x ∷ xs) h =
    if_cond AreShown (list_any (bytes_eq x) xs) (last_of_each bytes_eq xs) (x ∷ last_of_each bytes_eq xs)
    (last_shown xs h.1) (h.0, last_shown xs h.1)

first_shown : (texts : List (List ℕ)) → AreShown texts → AreShown (first_of_each bytes_eq texts)
first_shown texts h =
    all_reversed IsShown (last_of_each bytes_eq (reverse texts))
    (last_shown (reverse texts) (all_reversed IsShown texts h))

-- The record of a dependency is sound.
abbrev HasSound : Dependency → Type 0
HasSound d = HasSoundTexts d.props

made_sound : (made : Split Props) → IsFit None made → HasSoundTexts (record_made made)
made_sound made h = by made.variants h
  where
    by : (variants : List (Variation × Props)) → AllByRecursion (λ (b : Variation × Props). HasSoundTexts b.1) variants
        → HasSoundTexts (unwrap_or (record_in variants) props_empty)
    by [] k = empty_sound
    by (b ∷ bs) k = k.0

dependencies_sound : (mods : List Module) (nodes : List (Node Props)) (edges : List Edge) (ins : List (Split Props))
    → AllByRecursion (IsFit None) ins → AllByRecursion HasSound (dependencies_of mods nodes edges ins)
dependencies_sound mods nodes [] ins h = tt
dependencies_sound mods nodes (e ∷ es) [] h = tt
dependencies_sound mods nodes (e ∷ es) (made ∷ ins) h =
    (made_sound made h.0, dependencies_sound mods nodes es ins h.1)

dirs_shown : (list : Listed (List ℕ)) → (passing (is_writable S.Dirs) list).items ≡ list.items → AreShown list.items
dirs_shown list h = all_pass (is_writable S.Dirs) list.items h

lists_sound : (own : Props) (ds : List Dependency) → HasSoundTexts own → AllByRecursion HasSound ds
    → HasSoundTexts (with_lists own ds)
lists_sound own ds h k =
    let g = own.base in
    let exported = dirs_shown g.export_include_dirs (ap (λ (g : GroupProps). g.export_include_dirs.items) h.base) in
    let local = dirs_shown g.local_include_dirs (ap (λ (g : GroupProps). g.local_include_dirs.items) h.base) in
    let rooted = dirs_shown g.include_dirs (ap (λ (g : GroupProps). g.include_dirs.items) h.base) in
    record {
      base = h.base;
      groups = h.groups;
      exports =
          first_shown (g.export_include_dirs.items ++ flat_map (export_part own) ds)
          (all_append IsShown g.export_include_dirs.items (flat_map (export_part own) ds) exported
          (all_flat HasSound IsShown (export_part own)
          (λ d s. if_cond AreShown (is_handed_on own d.kind d.name) d.props.exports [] s.exports tt) ds k));
      includes =
          first_shown (own_includes own ++ flat_map include_part ds)
          (all_append IsShown (own_includes own) (flat_map include_part ds)
          (all_append IsShown g.local_include_dirs.items (g.export_include_dirs.items ++ g.include_dirs.items) local
          (all_append IsShown g.export_include_dirs.items g.include_dirs.items exported rooted))
          (all_flat HasSound IsShown include_part
          (λ d s. if_cond AreShown (is_linked_against d.kind) d.props.exports [] s.exports tt) ds k));
    }

info_fit : (m : Module) (x : Node Props) (ds : List Dependency) → HasForm x → AllByRecursion HasSound ds
    → IfResult (IsFit None) (info_over m x ds)
info_fit m x ds form h =
    if_cond (IfResult (IsFit None)) (has_short_lists x.payload ds) (Ok (one_variant (with_lists x.payload ds) []))
    (Err (too_long m x.vars)) (lists_sound x.payload ds form.texts h, tt) tt

pub info_keeps : (mods : List Module) → Keeps None (info_meant mods)
info_keeps mods nodes forms n ins fit =
    at_nodes None (λ m x made. info_over m x (dependencies_of mods nodes x.edges made))
    (λ m x made form all. info_fit m x (dependencies_of mods nodes x.edges made) form
    (dependencies_sound mods nodes x.edges made all))
    mods nodes forms n ins fit
