-- The rules of the mutators that make new records or variants keep the forms of a graph.
use Rattle.std.proofs.Common.{◌≤◌, ◌<◌, ◌+◌, ◌++◌, ℕ, Bool, true, cond, List, [], ◌∷◌, length, Option, Some, None}
use Rattle.std.proofs.Common.{refl, ap, arith}
use Rattle.std.specs.Prelude.{IsTrue, codes, fold}
use Rattle.std.specs.Option.{option_map_or}
use Rattle.std.specs.List.{AllByRecursion, cons_option}
use Rattle.std.proofs.lemmas.Bool.{lt-ltb}
use Rattle.bp_faults.specs.declared.limits.TheConstants.{MOST_NODES}
use Rattle.bp_faults.specs.declared.target.Target.{Target}
use Rattle.bp_faults.proofs.Lists.{all_append, all_image}
use Rattle.bp_props.specs.declared.fields.GroupProps.{GroupProps}
use Rattle.bp_props.specs.declared.group_id.GroupId.{GroupId}
use Rattle.bp_props.specs.declared.group_id.GroupId.TheVariants as G
use Rattle.bp_props.specs.declared.kind.ModuleKind.{ModuleKind}
use Rattle.bp_props.specs.declared.kind.ModuleKind.TheVariants.{Library, LibraryStatic, LibraryShared, Defaults}
use Rattle.bp_props.specs.declared.kind.ModuleKind.TheVariants.{Filegroup}
use Rattle.bp_props.specs.declared.module.Module.{Module}
use Rattle.bp_props.specs.declared.props.Props.{Props}
use Rattle.bp_props.specs.declared.source.Source.{Source}
use Rattle.bp_props.specs.Fields as S
use Rattle.bp_props.specs.Groups.{group_of}
use Rattle.bp_props.specs.Meaning.{with_items}
use Rattle.bp_props.specs.Records.{props_appended, props_followed, props_over}
use Rattle.graph_nodes.specs.declared.graph.Edge.{Edge}
use Rattle.graph_nodes.specs.declared.graph.EdgeKind.{EdgeKind}
use Rattle.graph_nodes.specs.declared.graph.EdgeKind.TheVariants as E
use Rattle.graph_nodes.specs.declared.graph.Node.{Node}
use Rattle.graph_nodes.specs.declared.variation.Variation.{Variation}
use Rattle.graph_nodes.specs.declared.variation.Variation.TheVariants.{Empty, Target as For, Common, Vendor}
use Rattle.graph_nodes.specs.declared.variation.Variation.TheVariants.{Recovery, Static, Shared}
use Rattle.graph_nodes.specs.declared.variations.Axis.{Axis}
use Rattle.graph_nodes.specs.declared.variations.Axis.TheVariants as A
use Rattle.graph_nodes.specs.Numbered.{by_number}
use Rattle.module_rules.specs.Found.{with_pic}
use Rattle.module_rules.specs.Asking.{variation_on}
use Rattle.module_rules.specs.Flags.{is_enabled}
use Rattle.module_rules.specs.Groups.{with_group}
use Rattle.module_rules.specs.Results.{record_in}
use Rattle.module_rules.specs.Variants.{if_enabled}
use Rattle.mutator_rules.specs.declared.config.Config.{Config}
use Rattle.mutator_rules.specs.declared.split.Split.{Split}
use Rattle.defaults_mutator.specs.Merged.{record_by, defaults_given, records_followed, over_defaults, defaults_merged}
use Rattle.target_mutators.specs.Arch.{is_built, target_variant, target_variants, arch_variants}
use Rattle.target_mutators.specs.Arch as Arch
use Rattle.target_mutators.specs.Groups.{with_groups}
use Rattle.target_mutators.specs.Images.{is_for_device, is_in_system, is_in_vendor, is_in_recovery, image_variant}
use Rattle.target_mutators.specs.Images.{device_images, image_variants}
use Rattle.target_mutators.specs.Targets.{groups_of}
use Rattle.linkage_mutator.specs.Links.{links_of, has_link, pic_if_linked, link_variants}
use Rattle.linkage_mutator.specs.Sources.{with_sources, variant_of_source, each_source, is_split, source_variants}
use Rattle.build_actions.specs.Variants.{stands_on}
use Rattle.output_forms.specs.Forms.{is_writable, HasTexts, HasSoundTexts}
use Rattle.output_forms.specs.Forms.{HasForm}
use Rattle.output_forms.proofs.Each.{IfThere, if_cond}
use Rattle.output_forms.proofs.Only.{IsWritable, all_pass, list_passing, added_passing}
use Rattle.output_forms.proofs.Records.{appended, followed, over, restricted, group_texts}
use Rattle.output_forms.proofs.Fits.{IsOn, IsFit}

-- `defaults`

first_sound : (variants : List (Variation × Props))
    → AllByRecursion (λ (b : Variation × Props). HasSoundTexts b.1) variants
    → IfThere HasSoundTexts (record_in variants)
first_sound [] h = tt
first_sound (b ∷ bs) h = h.0

by_sound : (kind : EdgeKind) (made : Split Props) → IsFit None made → IfThere HasSoundTexts (record_by kind made)
by_sound E.Defaults made h = first_sound made.variants h
by_sound kind made h = tt

given_sound : (edges : List Edge) (ins : List (Split Props)) → AllByRecursion (IsFit None) ins
    → AllByRecursion HasSoundTexts (defaults_given edges ins)
given_sound [] ins h = tt
given_sound (e ∷ es) [] h = tt
given_sound (e ∷ es) (made ∷ ins) h = by (record_by e.kind made) (by_sound e.kind made h.0) (given_sound es ins h.1)
  where
    by : (o : Option Props) → IfThere HasSoundTexts o → AllByRecursion HasSoundTexts (defaults_given es ins)
        → AllByRecursion HasSoundTexts (cons_option o (defaults_given es ins))
    by None h rest = rest
    by (Some p) h rest = (h, rest)

fold_sound : (p : Props) (ps : List Props) → HasSoundTexts p → AllByRecursion HasSoundTexts ps
    → HasSoundTexts (fold props_followed p ps)
fold_sound p [] h k = h
fold_sound p (q ∷ qs) h k = fold_sound (props_followed p q) qs (followed p q h k.0) k.1

followed_sound : (ps : List Props) → AllByRecursion HasSoundTexts ps → IfThere HasSoundTexts (records_followed ps)
followed_sound [] h = tt
followed_sound (p ∷ ps) h = fold_sound p ps h.0 h.1

over_sound : (kind : ModuleKind) (own : Props) (o : Option Props) → HasSoundTexts own → IfThere HasSoundTexts o
    → HasSoundTexts (over_defaults kind own o)
over_sound kind own None h k = h
over_sound kind own (Some given) h k = restricted kind (props_over given own) (over given own k h)

pub defaults_sound : (m : Module) (x : Node Props) (ins : List (Split Props)) → HasForm x
    → AllByRecursion (IsFit None) ins → HasSoundTexts (defaults_merged m x ins)
defaults_sound m x ins form fit =
    over_sound m.kind x.payload (records_followed (defaults_given x.edges ins)) form.texts
    (followed_sound (defaults_given x.edges ins) (given_sound x.edges ins fit))

-- `arch`, `image` and `link`

group_sound : (p : Props) (id : GroupId) → HasSoundTexts p → HasSoundTexts (with_group p id)
group_sound p id h = by (group_of p.groups id) (group_texts p.groups id h.groups)
  where
    by : (o : Option GroupProps) → IfThere HasTexts o
        → HasSoundTexts (option_map_or (λ (g : GroupProps). props_appended p g) o p)
    by None k = h
    by (Some g) k = appended p g h k

groups_sound : (p : Props) (ids : List GroupId) → HasSoundTexts p → HasSoundTexts (with_groups p ids)
groups_sound p [] h = h
groups_sound p (id ∷ ids) h = groups_sound (with_group p id) ids (group_sound p id h)

enabled_on : (axis : Axis) (v : Variation) (p : Props) → IsTrue (stands_on axis v) → HasSoundTexts p
    → AllByRecursion (IsOn axis) (if_enabled v p)
enabled_on axis v p on h =
    if_cond (AllByRecursion (IsOn axis)) (is_enabled p) ((v, p) ∷ []) [] ((on, h), tt) tt

targets_on : (kind : ModuleKind) (p : Props) (before targets : List Target) → HasSoundTexts p
    → AllByRecursion (IsOn A.Target) (target_variants kind p before targets)
targets_on kind p before [] h = tt
targets_on kind p before (target ∷ targets) h =
    all_append (IsOn A.Target) (target_variant kind p before target)
    (target_variants kind p (before ++ target ∷ []) targets)
    (if_cond (AllByRecursion (IsOn A.Target)) (is_built kind p before target)
    (if_enabled (For target) (with_groups p (groups_of target))) []
    (enabled_on A.Target (For target) (with_groups p (groups_of target)) refl
    (groups_sound p (groups_of target) h)) tt)
    (targets_on kind p (before ++ target ∷ []) targets h)

arch_of : (kind : ModuleKind) (p : Props) (targets : List Target) → HasSoundTexts p
    → AllByRecursion (IsOn A.Target) (Arch.variants_for_targets kind p targets)
arch_of Defaults p targets h = tt
arch_of Filegroup p targets h = enabled_on A.Target Common p refl h
arch_of kind p targets h = targets_on kind p [] targets h

pub arch_on : (c : Config) (m : Module) (x : Node Props) → HasForm x → length (arch_variants c m x) ≤ MOST_NODES
    → AllByRecursion (IsOn A.Target) (arch_variants c m x)
arch_on c m x form few = arch_of m.kind x.payload c.targets form.texts

image_on : (is_in : Bool) (v : Variation) (id : GroupId) (p : Props) → IsTrue (stands_on A.Image v) → HasSoundTexts p
    → AllByRecursion (IsOn A.Image) (image_variant is_in v id p)
image_on is_in v id p on h =
    if_cond (AllByRecursion (IsOn A.Image)) is_in (if_enabled v (with_group p id)) []
    (enabled_on A.Image v (with_group p id) on (group_sound p id h)) tt

device_on : (p : Props) → HasSoundTexts p → AllByRecursion (IsOn A.Image) (device_images p)
device_on p h =
    all_append (IsOn A.Image)
    (cond (is_in_system p) ((Empty, p) ∷ []) [] ++ image_variant (is_in_vendor p) Vendor G.Vendor p)
    (image_variant (is_in_recovery p) Recovery G.Recovery p)
    (all_append (IsOn A.Image) (cond (is_in_system p) ((Empty, p) ∷ []) [])
    (image_variant (is_in_vendor p) Vendor G.Vendor p)
    (if_cond (AllByRecursion (IsOn A.Image)) (is_in_system p) ((Empty, p) ∷ []) [] ((refl, h), tt) tt)
    (image_on (is_in_vendor p) Vendor G.Vendor p refl h))
    (image_on (is_in_recovery p) Recovery G.Recovery p refl h)

pub images_on : (m : Module) (x : Node Props) → HasForm x → length (image_variants m x) ≤ MOST_NODES
    → AllByRecursion (IsOn A.Image) (image_variants m x)
images_on m x form few =
    if_cond (AllByRecursion (IsOn A.Image)) (is_for_device (variation_on A.Target x.vars)) (device_images x.payload)
    ((Empty, x.payload) ∷ []) (device_on x.payload form.texts) ((refl, form.texts), tt)

links_on : (kind : ModuleKind) (p : Props) → HasSoundTexts p → AllByRecursion (IsOn A.Link) (links_of kind p)
links_on Library p h =
    all_append (IsOn A.Link) (if_enabled Static (with_group p G.Static)) (if_enabled Shared (with_group p G.Shared))
    (enabled_on A.Link Static (with_group p G.Static) refl (group_sound p G.Static h))
    (enabled_on A.Link Shared (with_group p G.Shared) refl (group_sound p G.Shared h))
links_on LibraryStatic p h = ((refl, h), tt)
links_on LibraryShared p h = ((refl, h), tt)
links_on kind p h = ((refl, h), tt)

pic_sound : (p : Props) → HasSoundTexts p → HasSoundTexts (with_pic p)
pic_sound p h = record {
  base = λ i. record (h.base i) {
    cflags =
        added_passing (is_writable S.Flags) p.base.cflags (codes "-fPIC" ∷ [])
        (ap (λ (g : GroupProps). g.cflags) h.base)
        (refl, tt) i;
  };
  groups = h.groups;
  exports = h.exports;
  includes = h.includes;
}

pub linked_on : (m : Module) (x : Node Props) → HasForm x → length (link_variants m x) ≤ MOST_NODES
    → AllByRecursion (IsOn A.Link) (link_variants m x)
linked_on m x form few =
    all_image (IsOn A.Link) (IsOn A.Link) pic_if_linked
    (λ b on. (on.0, if_cond HasSoundTexts (has_link b.0) (with_pic b.1) b.1 (pic_sound b.1 on.1) on.1))
    (links_of m.kind x.payload) (links_on m.kind x.payload form.texts)

-- `per_src`

source_sound : (p : Props) (s : Source) → HasSoundTexts p → IsWritable s → HasSoundTexts (with_sources p (s ∷ []))
source_sound p s h k = record {
  base = λ i. record (h.base i) {
    srcs = list_passing (is_writable S.Sources) (with_items (s ∷ []) p.base.srcs) (k, tt) i;
  };
  groups = h.groups;
  exports = h.exports;
  includes = h.includes;
}

numbered_on : (p : Props) (k : ℕ) (sources : List Source) → HasSoundTexts p → AllByRecursion IsWritable sources
    → k + length (by_number (variant_of_source p) k sources) < 4294967296
    → AllByRecursion (IsOn A.PerSource) (by_number (variant_of_source p) k sources)
numbered_on p k [] h k' few = tt
numbered_on p k (s ∷ sources) h w few = (
  (lt-ltb k 4294967296 (omega (arith, few)), source_sound p s h w.0),
  numbered_on p (k + 1) sources h w.1 (omega (arith, few)),
)

sources_on : (split : Bool) (p : Props) (sources : List Source) → HasSoundTexts p → AllByRecursion IsWritable sources
    → length (each_source split p sources) ≤ MOST_NODES
    → AllByRecursion (IsOn A.PerSource) (each_source split p sources)
sources_on true p (s ∷ sources) h w few = numbered_on p 1 (s ∷ sources) h w (omega (arith, few))
sources_on split p sources h w few = ((refl, h), tt)

pub per_source_on : (m : Module) (x : Node Props) → HasForm x → length (source_variants m x) ≤ MOST_NODES
    → AllByRecursion (IsOn A.PerSource) (source_variants m x)
per_source_on m x form few =
    sources_on (is_split m.kind x.payload.test_per_src) x.payload x.payload.base.srcs.items form.texts
    (all_pass (is_writable S.Sources) x.payload.base.srcs.items
    (ap (λ (g : GroupProps). g.srcs.items) form.texts.base)) few
