-- Graphs in which no level is handed on: their records are kept.
use Rattle.std.proofs.Common.{◌≡◌, ◌∙◌, ap, sym, refl, ℕ, Bool, true, false, cond, min, arith, map, List, [], ◌∷◌}
use Rattle.std.proofs.Common.{Option, Some, None, Result, Ok}
use Rattle.std.specs.Prelude.{◌==◌, fold, is_none}
use Rattle.std.specs.List.{AllByRecursion, filter, list_all, zip}
use Rattle.std.specs.Option.{unwrap_or}
use Rattle.std.proofs.lemmas.Bool.{and_parts, eqb-true}
use Rattle.bp_faults.specs.declared.fault.Fault.{Fault}
use Rattle.bp_props.specs.declared.given.Given.{Given}
use Rattle.bp_props.specs.declared.props.Props.{Props}
use Rattle.graph_nodes.specs.declared.graph.EdgeKind.{EdgeKind}
use Rattle.graph_nodes.specs.declared.graph.Node.{Node}
use Rattle.mutator_rules.specs.Arrivals.{kinds_into}
use Rattle.mutator_rules.specs.Idle.{KeepsPayloads}
use Rattle.info_mutators.specs.Idle.{has_no_level}
use Rattle.info_mutators.specs.SdkLevel.{handed_levels, is_level_handed, least, level_meant, own_level_or, with_level}
use Rattle.info_mutators.proofs.Tested.{among_payloads, node_there, passes_at}

abbrev IsNone : ℕ → Type 0
IsNone level = level ≡ 10000

abbrev HasNone : Props → Type 0
HasNone p = IsNone p.level

has_none : (x : Node Props) → has_no_level x ≡ true → HasNone x.payload
has_none x is =
    eqb-true x.payload.level 10000 (and_parts (x.payload.level == 10000) (is_none x.payload.min_sdk_version) is).0

unset : (set : Option (Given ℕ)) → is_none set ≡ true → set ≡ None
unset None is = refl
unset (Some given) is = cc

abbrev level_of : EdgeKind × Props → ℕ
level_of d = d.1.level

-- the level of one edge more, where it is handed on
one_more : (b : Bool) (d : EdgeKind × Props) (rest : List (EdgeKind × Props)) → HasNone d.1
    → AllByRecursion IsNone (map level_of rest) → AllByRecursion IsNone (map level_of (cond b (d ∷ rest) rest))
one_more true d rest here none = (here, none)
one_more false d rest here none = none

none_handed : (kinds : List EdgeKind) (ins : List Props) → AllByRecursion HasNone ins
    → AllByRecursion IsNone (handed_levels kinds ins)
none_handed [] ins none = tt
none_handed (k ∷ kinds) [] none = tt
none_handed (k ∷ kinds) (p ∷ ins) none =
    one_more (is_level_handed k) (k, p) (filter (λ (d : EdgeKind × Props). is_level_handed d.0) (zip kinds ins)) none.0
    (none_handed kinds ins none.1)

least_none : (level : ℕ) (levels : List ℕ) → IsNone level → AllByRecursion IsNone levels → fold min level levels ≡ 10000
least_none level [] is none = is
least_none level (other ∷ levels) is none = least_none (min level other) levels (omega (arith, is, none.0)) none.1

none_least : (levels : List ℕ) → AllByRecursion IsNone levels → unwrap_or (least levels) 10000 ≡ 10000
none_least [] none = refl
none_least (level ∷ levels) none = least_none level levels none.0 none.1

abbrev at_level : Props → ℕ → Props
at_level p level = record p { level = level }

record_kept : (x : Node Props) (kinds : List EdgeKind) (ins : List Props) → has_no_level x ≡ true
    → AllByRecursion HasNone ins → with_level x.payload kinds ins ≡ x.payload
record_kept x kinds ins is none =
    let p = x.payload in
    let handed = unwrap_or (least (handed_levels kinds ins)) 10000 in
    ap (λ (set : Option (Given ℕ)). at_level p (own_level_or handed set))
    (unset p.min_sdk_version (and_parts (p.level == 10000) (is_none p.min_sdk_version) is).1)
    ∙ ap (at_level p) (none_least (handed_levels kinds ins) (none_handed kinds ins none))
    ∙ ap (at_level p) (sym (has_none x is))

abbrev answered : Props → Result Props Fault
answered p = Ok p

pub keep_levels : (nodes : List (Node Props)) → list_all has_no_level nodes ≡ true
    → KeepsPayloads (λ n ins. level_meant nodes n (kinds_into nodes n) ins) nodes
keep_levels nodes all n ins x is are =
    ap (λ (y : Node Props). answered (with_level y.payload (kinds_into nodes n) ins)) (node_there nodes n x is)
    ∙ ap answered (record_kept x (kinds_into nodes n) ins (passes_at has_no_level nodes n x is all)
    (among_payloads HasNone has_no_level has_none nodes all ins are))
