-- Graphs without the sanitizer: nothing is wanted of their nodes, and their records are kept.
use Rattle.std.proofs.Common.{◌≡◌, ◌∙◌, ◌<◌, ◌&&◌, ◌||◌, ap, sym, refl, ℕ, zero, suc, Bool, true, false, not, cond}
use Rattle.std.proofs.Common.{length, arith, append-nil, List, [], ◌∷◌, Some, Result, Ok}
use Rattle.std.specs.Prelude.{slice_get}
use Rattle.std.specs.List.{AllByRecursion, list_all}
use Rattle.std.proofs.lemmas.Bool.{and_parts}
use Rattle.bp_faults.specs.declared.fault.Fault.{Fault}
use Rattle.bp_props.specs.declared.listed.Listed.{Listed}
use Rattle.bp_props.specs.declared.props.Props.{Props}
use Rattle.graph_nodes.specs.declared.graph.Edge.{Edge}
use Rattle.graph_nodes.specs.declared.graph.Node.{Node}
use Rattle.graph_nodes.specs.declared.variation.Variation.{Variation}
use Rattle.graph_nodes.specs.declared.variation.Variation.TheVariants.{Asan, Empty}
use Rattle.graph_nodes.specs.declared.variations.Axis.TheVariants.{Sanitize}
use Rattle.module_rules.specs.Asking.{variation_on}
use Rattle.module_rules.specs.Seen.{node_at}
use Rattle.mutator_rules.specs.Idle.{KeepsPayloads, WantsNothing}
use Rattle.info_mutators.specs.Dependencies.{is_archived}
use Rattle.info_mutators.specs.Idle.{is_off, is_unsanitized}
use Rattle.info_mutators.specs.Sanitize.{has_sanitized, is_asan, is_never, is_on, sanitize_meant, sanitized_record}
use Rattle.info_mutators.specs.Sanitize.{with_flag_if, with_sanitizer}
use Rattle.info_mutators.proofs.Tested.{among_payloads, node_there, passes_at}

not_true : (b : Bool) → not b ≡ true → b ≡ false
not_true false is = refl
not_true true is = cc

there_is : (nodes : List (Node Props)) (n : ℕ) → n < length nodes → slice_get nodes n ≡ Some (node_at nodes n)
there_is [] n lt = absurd (omega arith)
there_is (x ∷ nodes) zero lt = refl
there_is (x ∷ nodes) (suc n) lt = there_is nodes n (omega arith)

is_off_at : (nodes : List (Node Props)) → list_all is_off nodes ≡ true → (n : ℕ) → n < length nodes
    → is_on (node_at nodes n).payload ≡ false
is_off_at nodes off n lt =
    not_true (is_on (node_at nodes n).payload)
    (passes_at is_off nodes n (node_at nodes n) (there_is nodes n lt) off)

abbrev wanted : Variation → Result (List Variation) Fault
wanted v = Ok (v ∷ [])

none_handed : (archived never : Bool) → cond never Empty (cond false Asan (cond archived Empty Empty)) ≡ Empty
none_handed true true = refl
none_handed true false = refl
none_handed false true = refl
none_handed false false = refl

pub want_nothing : (nodes : List (Node Props)) → list_all is_off nodes ≡ true → WantsNothing sanitize_meant nodes
want_nothing nodes off = record {
  own = λ n lt. ap (λ (on : Bool). wanted (cond on Asan Empty)) (is_off_at nodes off n lt);
  handed = λ n from kind lt.
      ap (λ (on : Bool).
      cond (is_never (node_at nodes n).payload) Empty (cond on Asan (cond (is_archived kind) Empty Empty)))
      (is_off_at nodes off n lt)
      ∙ none_handed (is_archived kind) (is_never (node_at nodes n).payload);
}

abbrev HasNone : Props → Type 0
HasNone p = p.asan ≡ false

has_none : (x : Node Props) → is_unsanitized x ≡ true → HasNone x.payload
has_none x is =
    not_true x.payload.asan (and_parts (not (is_asan (variation_on Sanitize x.vars))) (not x.payload.asan) is).1

no_either : (b : Bool) → ((b && false) || false) ≡ false
no_either true = refl
no_either false = refl

none_handed_up : (edges : List Edge) (ins : List Props) → AllByRecursion HasNone ins → has_sanitized edges ins ≡ false
none_handed_up [] ins none = refl
none_handed_up (e ∷ edges) [] none = refl
none_handed_up (e ∷ edges) (p ∷ ins) none =
    ap (λ (b : Bool). (is_archived e.kind && b) || has_sanitized edges ins) none.0
    ∙ ap (λ (b : Bool). (is_archived e.kind && false) || b) (none_handed_up edges ins none.1)
    ∙ no_either (is_archived e.kind)

abbrev with_items : Listed (List ℕ) → List (List ℕ) → Listed (List ℕ)
with_items list items = record list { items = items }

unflagged : (list : Listed (List ℕ)) → with_flag_if false list ≡ list
unflagged list = ap (with_items list) (append-nil list.items)

abbrev with_lists : Props → Listed (List ℕ) → Listed (List ℕ) → Bool → Props
with_lists p cflags ldflags asan = record p { base = record p.base { cflags = cflags; ldflags = ldflags }; asan = asan }

kept : (p : Props) → HasNone p → with_sanitizer false false p ≡ p
kept p none =
    ap (λ (list : Listed (List ℕ)). with_lists p list (with_flag_if false p.base.ldflags) false)
    (unflagged p.base.cflags)
    ∙ ap (λ (list : Listed (List ℕ)). with_lists p p.base.cflags list false) (unflagged p.base.ldflags)
    ∙ ap (λ (asan : Bool). with_lists p p.base.cflags p.base.ldflags asan) (sym none)

abbrev answered : Props → Result Props Fault
answered p = Ok p

record_kept : (x : Node Props) (ins : List Props) → is_unsanitized x ≡ true → AllByRecursion HasNone ins
    → sanitized_record x ins ≡ x.payload
record_kept x ins is none =
    let p = x.payload in
    let compiles = is_asan (variation_on Sanitize x.vars) in
    let parts = and_parts (not compiles) (not p.asan) is in
    ap (λ (c : Bool). with_sanitizer c (p.asan || (c || has_sanitized x.edges ins)) p) (not_true compiles parts.0)
    ∙ ap (λ (a : Bool). with_sanitizer false (a || has_sanitized x.edges ins) p) (has_none x is)
    ∙ ap (λ (h : Bool). with_sanitizer false h p) (none_handed_up x.edges ins none)
    ∙ kept p (has_none x is)

pub keep_records : (nodes : List (Node Props)) → list_all is_unsanitized nodes ≡ true
    → KeepsPayloads (sanitize_meant.mutate nodes) nodes
keep_records nodes all n ins x is are =
    ap (λ (y : Node Props). answered (sanitized_record y ins)) (node_there nodes n x is)
    ∙ ap answered (record_kept x ins (passes_at is_unsanitized nodes n x is all)
    (among_payloads HasNone is_unsanitized has_none nodes all ins are))
