-- The plan of the stretches of an order, as it is made one stretch after another.
use Rattle.std.proofs.Common.{◌≡◌, ◌<◌, ◌≤◌, ◌+◌, ◌*◌, ◌/◌, ◌==◌, ℕ, zero, suc, true, false, Bool, List, [], ◌∷◌}
use Rattle.std.proofs.Common.{◌++◌, length, map, get_or, take, drop, refl, ap, sym, ◌∙◌, subst, arith, append_assoc}
use Rattle.std.proofs.Common.{length-append, Some}
use Rattle.std.specs.Prelude.{slice_get, slice_index, slice_set}
use Rattle.std.specs.List.{AllByRecursion, Contains}
use Rattle.std.proofs.Math.Decide.{dec_lt}
use Rattle.std.proofs.Math.Nat.{mul-le-mul}
use Rattle.std.proofs.lemmas.Bool.{eq-eqb}
use Rattle.std.proofs.lemmas.List.{append-nil, map-append, get_or-map, get_or-set_same, get_or-set_other, length-map}
use Rattle.std.proofs.lemmas.List.{length-set, take_more}
use Rattle.std.proofs.lemmas.List.Elements.{All-filter, All-from_recursion, recursion_from_All, filter-append}
use Rattle.std.proofs.lemmas.List.Elements.{Contains-append_left, Contains-append_right}
use Rattle.std.proofs.lemmas.Nat.{div_below}
use Rattle.std.proofs.lemmas.Option.{slice_get_within, slice_get-get_or}
use mathlib.Core.Logic.{dite}
use native.Mathlib.Decide.{ℕ_discrete}
use Rattle.bp_faults.specs.declared.ids.NodeId.{NodeId}
use Rattle.bp_faults.proofs.Lists.{all_map, all_contained, all_pushed, get_here, get_else, same_at}
use Rattle.bp_faults.proofs.Lists.{all_append, all_before}
use Rattle.serial_pass.specs.declared.plan.Plan.{Plan}
use Rattle.serial_pass.specs.declared.plan.PlanEdge.{PlanEdge}
use Rattle.pass_core.specs.CoreStates.{IsMarked}
use Rattle.serial_pass.specs.Orders.{IsLegal, numbers}
use Rattle.serial_pass.specs.Plans.{in_edges, predecessors, sources, IsPlan, StandByTarget}
use Rattle.pass_ways.specs.Stretches.{stretch, joined_stretches, TellsStretches, KeepsMarks, MarksSources, AddsEdges}
use Rattle.pass_ways.specs.Stretches.{IsLinked, LinksStretches, IsPlanOfStretches}
use Rattle.pass_ways.proofs.Stretched.{in_stretch, joined_stretches-push}
use Rattle.pass_ways.proofs.Told.{legal_ready}

-- what is marked stays marked, and what becomes marked is
pub still_marked : (bs : List Bool) (j k : ℕ) → IsMarked bs k → IsMarked (slice_set bs j true) k
still_marked bs j k h = dite (ℕ_discrete k j)
    (λ same. subst (λ x. IsMarked (slice_set bs j true) x) (sym same) (get_here bs j true (subst (λ x. x < length bs)
    same (slice_get_within bs k true h))))
    (λ other. get_else bs j k true other ∙ h)

pub now_marked : (bs : List Bool) (j : ℕ) → j < length bs → IsMarked (slice_set bs j true) j
now_marked bs j lt = get_here bs j true lt

pub all_taken : {X : Type 0} (P : X → Type 0) (n : ℕ) (xs : List X) → AllByRecursion P xs → AllByRecursion P (take n xs)
all_taken P zero xs h = tt
all_taken P (suc n) [] h = tt
all_taken P (suc n) (x ∷ xs) h = (h.0, all_taken P n xs h.1)

all_dropped : {X : Type 0} (P : X → Type 0) (n : ℕ) (xs : List X) → AllByRecursion P xs → AllByRecursion P (drop n xs)
all_dropped P zero xs h = h
all_dropped P (suc n) [] h = tt
all_dropped P (suc n) (x ∷ xs) h = all_dropped P n xs h.1

-- the nodes of a stretch are nodes of the plan
pub nodes_inside : (count size k : ℕ) (order : List NodeId) → AllByRecursion (λ n. n < count) (numbers order) →
    AllByRecursion (λ (n : NodeId). n.0 < count) (stretch size k order)
nodes_inside count size k order h =
    all_taken (λ (n : NodeId). n.0 < count) size (drop (k * size) order)
    (all_dropped (λ (n : NodeId). n.0 < count) (k * size) order (all_before (λ (n : NodeId). n.0) (λ n. n < count)
    order h))

-- the node at an index is one of the plan
pub node_inside : (plan : Plan) (order : List NodeId) (index : ℕ) (d : NodeId) → IsLegal plan (numbers order) → index <
    length order → (get_or order index d).0 < plan.count
node_inside plan order index d legal lt =
    let inside : index < length (numbers order) = omega (arith, length-map order (λ (n : NodeId). n.0)) in
    subst (λ n. n < plan.count) (get_or-map (λ (n : NodeId). n.0) order index d 0 lt) ((legal_ready plan (numbers
    order) legal index inside).inside)

-- the edges into a node begin at nodes of the plan
pub sources_inside : (plan : Plan) (edges : List PlanEdge) (n : ℕ) → IsPlan plan → edges ≡ in_edges plan.edges n →
    AllByRecursion (λ (e : PlanEdge). e.from.0 < plan.count) edges
sources_inside plan edges n is same =
    let P : PlanEdge → Type 0 = λ e. e.from.0 < plan.count in
    let Q : PlanEdge → Type 0 = λ e. (e.from.0 < plan.count) × (e.to.0 < plan.count) in
    subst (AllByRecursion P) (sym same)
    (recursion_from_All P (in_edges plan.edges n) (All-filter (λ (e : PlanEdge). e.to.0 == n) P plan.edges
    (All-from_recursion P plan.edges (all_map Q P (λ e h. h.0) plan.edges is.ends))))

pub each_below : (edges : List PlanEdge) (table : List ℕ) (count many : ℕ) → ((m : ℕ) → m < count → slice_index table m
    < many) → AllByRecursion (λ (e : PlanEdge). e.from.0 < count) edges
    → AllByRecursion (λ (e : PlanEdge). slice_index table e.from.0 < many) edges
each_below edges table count many below = all_map (λ (e : PlanEdge). e.from.0 < count) (λ (e : PlanEdge). slice_index
    table e.from.0 < many) (λ e h. below e.from.0 h) edges

numbers_more : {X : Type 0} (f : X → ℕ) (xs : List X) (i : ℕ) (d : X) → i < length xs → map f (take (i + 1) xs) ≡ map f
    (take i xs) ++ f (get_or xs i d) ∷ []
numbers_more f xs i d lt = ap (map f) (take_more xs i d lt) ∙ map-append f (take i xs) (get_or xs i d ∷ [])

-- one edge more
pub marked_more : (edges : List PlanEdge) (table : List ℕ) (old marks : List Bool) (i : ℕ) (d : PlanEdge) → i < length
    edges → AllByRecursion (λ (e : PlanEdge). slice_index table e.from.0 < length old) edges
    → KeepsMarks old marks → AllByRecursion (λ m. IsMarked marks (slice_index table m)) (sources (take i edges))
    → KeepsMarks old (slice_set marks (slice_index table (get_or edges i d).from.0) true)
    × AllByRecursion (λ m. IsMarked (slice_set marks (slice_index table (get_or edges i d).from.0) true) (slice_index
    table m)) (sources (take (i + 1) edges))
marked_more edges table old marks i d lt below keeps made =
    let n = (get_or edges i d).from.0 in
    let k = slice_index table n in
    let new = slice_set marks k true in
    let within : k < length marks = subst (λ l. k < l) (sym keeps.0) (All-from_recursion (λ (e : PlanEdge). slice_index
    table e.from.0 < length old) edges below i d lt) in (
      (length-set marks k true ∙ keeps.0, λ j h. still_marked marks k j (keeps.1 j h)),
      subst (AllByRecursion (λ m. IsMarked new (slice_index table m))) (sym (numbers_more (λ (e : PlanEdge). e.from.0)
          edges i d lt))
          (all_pushed (λ m. IsMarked new (slice_index table m)) (sources (take i edges)) n
          (all_map (λ m. IsMarked marks (slice_index table m)) (λ m. IsMarked new (slice_index table m)) (λ m h.
          still_marked marks k (slice_index table m) h) (sources (take i edges)) made)
          (now_marked marks k within)),
    )

-- one node more
pub sources_more : (edges : List PlanEdge) (table : List ℕ) (nodes : List NodeId) (marks new : List Bool) (i : ℕ) (d :
    NodeId) (into : List PlanEdge) → i < length nodes
    → MarksSources edges table (numbers (take i nodes)) marks → KeepsMarks marks new → into ≡ in_edges edges (get_or
    nodes i d).0
    → AllByRecursion (λ m. IsMarked new (slice_index table m)) (sources into) → MarksSources edges table (numbers (take
    (i + 1) nodes)) new
sources_more edges table nodes marks new i d into lt made keeps is here =
    let Was : ℕ → Type 0 = λ n. AllByRecursion (λ m. IsMarked marks (slice_index table m)) (predecessors edges n) in
    let Now : ℕ → Type 0 = λ n. AllByRecursion (λ m. IsMarked new (slice_index table m)) (predecessors edges n) in
    let n = (get_or nodes i d).0 in
    subst (AllByRecursion Now) (sym (numbers_more (λ (m : NodeId). m.0) nodes i d lt))
    (all_pushed Now (numbers (take i nodes)) n
    (all_map Was Now (λ k h. all_map (λ m. IsMarked marks (slice_index table m)) (λ m. IsMarked new (slice_index table
    m)) (λ m g. keeps.1 (slice_index table m) g) (predecessors edges k) h) (numbers (take i nodes)) made)
    (subst (λ l. AllByRecursion (λ m. IsMarked new (slice_index table m)) (sources l)) is here))

-- one stretch more of those that stand one after another
pub joined_more : (size : ℕ) (order turns nodes new : List NodeId) (i : ℕ) (d : NodeId) → i < length turns → nodes ≡
    joined_stretches size order (numbers (take i turns))
    → new ≡ nodes ++ stretch size (get_or turns i d).0 order → new ≡ joined_stretches size order (numbers (take (i + 1)
    turns))
joined_more size order turns nodes new i d lt is grown =
    grown ∙ ap (λ l. l ++ stretch size (get_or turns i d).0 order) is
    ∙ sym (ap (joined_stretches size order) (numbers_more (λ (n : NodeId). n.0) turns i d lt) ∙ joined_stretches-push
    size order (numbers (take i turns)) (get_or turns i d).0)

-- by the table every node stands in a stretch
pub told_below : (plan : Plan) (order table : List ℕ) (size many : ℕ) → IsLegal plan order → 0 < size → length order ≤
    many * size
    → TellsStretches plan.count size order (length order) table → (m : ℕ) → m < plan.count → slice_index table m < many
told_below plan order table size many legal positive enough told m lt =
    let c = legal.each_once.each m lt in
    let there : slice_index order c.0 ≡ m = same_at order c.0 0 m c.1 ∙ c.2 in
    let is : slice_index table m ≡ c.0 / size = ap (slice_index table) (sym there) ∙ told.tells c.0 c.1 in
    subst (λ s. s < many) (sym is) (div_below c.0 size many positive (let e = c.1 in omega (arith, enough)))

-- one index more
pub tells_more : (plan : Plan) (order table : List ℕ) (size index n : ℕ) → IsLegal plan order → index < length order →
    slice_index order index ≡ n → n < length table
    → TellsStretches plan.count size order index table → TellsStretches plan.count size order (index + 1) (slice_set
    table n (index / size))
tells_more plan order table size index n legal lt here inside told = record {
  many = length-set table n (index / size) ∙ told.many;
  tells = λ k less. dite (ℕ_discrete k index)
      (λ same. subst (λ i. slice_index (slice_set table n (index / size)) (slice_index order i) ≡ i / size) (sym same)
      (subst (λ m. slice_index (slice_set table n (index / size)) m ≡ index / size) (sym here) (get_or-set_same table n
      (index / size) 0 inside)))
      (λ other.
      let before : k < index = omega arith in
      let apart : slice_index order k ≡ n → ⊥ = λ e. legal.each_once.once k index 0 before lt (e ∙ sym here) in
      get_or-set_other table n (slice_index order k) (index / size) 0 apart ∙ told.tells k before);
}

module _ (edges more : List PlanEdge) where
  predecessors-append : (t : ℕ) → predecessors (edges ++ more) t ≡ predecessors edges t ++ predecessors more t
  predecessors-append t = ap sources (filter-append (λ (e : PlanEdge). e.to.0 == t) edges more) ∙ map-append (λ (e :
      PlanEdge). e.from.0) (in_edges edges t) (in_edges more t)

  still_linked : (s t : ℕ) → IsLinked edges s t → IsLinked (edges ++ more) s t
  still_linked s t h less = subst (λ l. Contains l s) (sym (predecessors-append t)) (Contains-append_left (predecessors
      edges t) (predecessors more t) s (h less))

all_into : (more : List PlanEdge) (t : ℕ) → AllByRecursion (λ (e : PlanEdge). (e.from.0 < t) × (e.to.0 ≡ t)) more →
    predecessors more t ≡ sources more
all_into [] t h = refl
all_into (e ∷ es) t h = rw (eq-eqb e.to.0 t h.0.1) (ap (λ l. e.from.0 ∷ l) (all_into es t h.1))

stand_appended : (edges more : List PlanEdge) (t : ℕ) → StandByTarget edges → AllByRecursion (λ (e : PlanEdge).
    (e.from.0 < e.to.0) × (e.to.0 < t)) edges
    → AllByRecursion (λ (e : PlanEdge). (e.from.0 < t) × (e.to.0 ≡ t)) more → StandByTarget (edges ++ more)
stand_appended [] more t s low high = stand_same more high
  where
    stand_same : (es : List PlanEdge) → AllByRecursion (λ (e : PlanEdge). (e.from.0 < t) × (e.to.0 ≡ t)) es →
        StandByTarget es
    stand_same [] h = tt
    stand_same (e ∷ es) h = (
      all_map (λ (f : PlanEdge). (f.from.0 < t) × (f.to.0 ≡ t)) (λ (f : PlanEdge). e.to.0 ≤
          f.to.0) (λ f g. let a = h.0.1 in let b = g.1 in omega arith) es h.1,
      stand_same es h.1,
    )
stand_appended (e ∷ es) more t s low high = (
  all_append (λ (f : PlanEdge). e.to.0 ≤ f.to.0) es more s.0
      (all_map (λ (f : PlanEdge). (f.from.0 < t) × (f.to.0 ≡ t)) (λ (f : PlanEdge). e.to.0 ≤ f.to.0) (λ f g. let a =
      low.0.1 in let b = g.1 in omega arith) more high),
  stand_appended es more t s.1 low.1 high,
)

module _ (plan : Plan) (size : ℕ) (order table : List ℕ) (positive : 0 < size) where
  pub links_none : LinksStretches plan size order table 0 []
  links_none = record { rise = tt; by_target = tt; few = omega arith; links = λ k lt below. absurd (omega arith) }

  -- one stretch more
  module _ (t : ℕ) (edges new : List PlanEdge) (marks : List Bool) (before : LinksStretches plan size order table t
      edges)
      (marked : MarksSources plan.edges table (stretch size t order) marks) (added : AddsEdges marks t t edges new)
    where
      links_last : (k : ℕ) → k < length order → k / size ≡ t → AllByRecursion (λ m. IsLinked (edges ++ added.more)
          (slice_index table m) (k / size)) (predecessors plan.edges (slice_index order k))
      links_last k lt is =
          let there : Contains (stretch size t order) (slice_index order k) =
          subst (λ s. Contains (stretch size s order)
          (slice_index order k)) is (in_stretch size order k positive lt) in
          all_map (λ m. IsMarked marks (slice_index table m)) (λ m. IsLinked (edges ++ added.more) (slice_index table m)
          (k / size))
          (λ m h less.
          let low : slice_index table m < t = subst (λ s. slice_index table m < s) is less in
          subst (λ s. Contains (predecessors (edges ++ added.more) s) (slice_index table m)) (sym is)
          (subst (λ l. Contains l (slice_index table m)) (sym (predecessors-append edges added.more t))
          (Contains-append_right (predecessors edges t) (predecessors added.more t) (slice_index table m)
          (subst (λ l. Contains l (slice_index table m)) (sym (all_into added.more t added.rise)) (added.each
          (slice_index table m) low h)))))
          (predecessors plan.edges (slice_index order k))
          (all_contained (λ n. AllByRecursion (λ m. IsMarked marks (slice_index table m)) (predecessors plan.edges n))
          (stretch size t order) (slice_index order k) marked there)

      links_appended : LinksStretches plan size order table (t + 1) (edges ++ added.more)
      links_appended = record {
        rise = all_append (λ (e : PlanEdge). (e.from.0 < e.to.0) × (e.to.0 < t + 1)) edges added.more
            (all_map (λ (e : PlanEdge). (e.from.0 < e.to.0) × (e.to.0 < t)) (λ (e : PlanEdge). (e.from.0 < e.to.0) ×
            (e.to.0 < t + 1)) (λ e h. (h.0, let a = h.1 in omega arith)) edges before.rise)
            (all_map (λ (e : PlanEdge). (e.from.0 < t) × (e.to.0 ≡ t)) (λ (e : PlanEdge). (e.from.0 < e.to.0)
            × (e.to.0 <
            t + 1)) (λ e h. let a = h.0 in let b = h.1 in (omega arith, omega arith)) added.more added.rise);
        by_target = stand_appended edges added.more t before.by_target before.rise added.rise;
        few = few_more t (length edges) (length added.more) (length (edges ++ added.more)) before.few added.few
            (length-append edges added.more);
        links = λ k lt below. dite (dec_lt (k / size) t)
            (λ less. all_map (λ m. IsLinked edges (slice_index table m) (k / size)) (λ m. IsLinked (edges ++ added.more)
            (slice_index table m) (k / size))
            (λ m h. still_linked edges added.more (slice_index table m) (k / size) h) (predecessors plan.edges
            (slice_index order k)) (before.links k lt less))
            (λ last. links_last k lt (omega arith));
      }
        where
          few_more : (a x y z : ℕ) → x ≤ a * a → y ≤ a → z ≡ x + y → z ≤ (a + 1) * (a + 1)
          few_more a x y z h k e = let square : (a + 1) * (a + 1) ≡ a * a + a + a + 1 = grind arith in omega (
            arith,
            square,
          )

      pub links_more : LinksStretches plan size order table (t + 1) new
      links_more = subst (LinksStretches plan size order table (t + 1)) (sym added.is) links_appended

  -- all stretches have their edges
  pub plan_made : (many : ℕ) (edges : List PlanEdge) (stretches : Plan) → LinksStretches plan size order table many
      edges → stretches.count ≡ many → stretches.edges ≡ edges
      → many ≤ 1024 → length order ≤ many * size → TellsStretches plan.count size order (length order) table →
      IsPlanOfStretches plan size order stretches
  plan_made many edges stretches links count is few enough told =
      let there : LinksStretches plan size order table stretches.count stretches.edges = subst (LinksStretches plan
      size order table stretches.count) (sym is) (subst (λ m. LinksStretches plan size order table m edges) (sym
      count) links) in
      let most : stretches.count * stretches.count ≤ 1024 * 1024 = mul-le-mul (let a : stretches.count ≤ 1024 = omega
      (arith, count, few) in a) (let b : stretches.count ≤ 1024 = omega (arith, count, few) in b) in
      record {
        whole = record {
          ends = all_map (λ (e : PlanEdge). (e.from.0 < e.to.0) × (e.to.0 < stretches.count)) (λ (e : PlanEdge).
              (e.from.0 < stretches.count) × (e.to.0 < stretches.count)) (λ e h. let a = h.0 in let b = h.1 in (
                omega
                    arith,
                b,
              )) stretches.edges there.rise;
          by_target = there.by_target;
          few = let f = there.few in omega (arith, most, f);
        };
        free = record {
          rank = λ n. n;
          rises = all_map (λ (e : PlanEdge). (e.from.0 < e.to.0) × (e.to.0 < stretches.count)) (λ (e : PlanEdge).
              e.from.0 < e.to.0) (λ e h. h.0) stretches.edges there.rise;
        };
        enough = subst (λ m. length order ≤ m * size) (sym count) enough;
        table = table;
        told = told;
        linked = there;
      }

-- what a read of a mark says
pub mark_read : (marks : List Bool) (k : ℕ) (b : Bool) → k < length marks → get_or marks k false ≡ b → slice_get marks
    k ≡ Some b
mark_read marks k b lt is = slice_get-get_or marks k false lt ∙ ap Some is

module _ (marks : List Bool) (to : ℕ) (before : List PlanEdge) where
  pub adds_none : AddsEdges marks to 0 before before
  adds_none = record {
    more = [];
    is = sym (append-nil before);
    rise = tt;
    few = omega arith;
    each = λ k lt h. absurd
        (omega arith);
  }

  module _ (from : ℕ) (edges : List PlanEdge) (adds : AddsEdges marks to from before edges) (less : from < to) where
    -- a stretch that isn't marked
    pub adds_skipped : (IsMarked marks from → ⊥) → AddsEdges marks to (from + 1) before edges
    adds_skipped unmarked = record {
      more = adds.more;
      is = adds.is;
      rise = adds.rise;
      few = let f = adds.few in omega arith;
      each = λ k lt h. dite (ℕ_discrete k from) (λ same. absurd (unmarked (subst (IsMarked marks) same h))) (λ other.
          adds.each k (omega arith) h);
    }

    -- a stretch that is marked
    pub adds_pushed : (e : PlanEdge) (new : List PlanEdge) → e.from.0 ≡ from → e.to.0 ≡ to → new ≡ edges ++ e ∷ [] →
        AddsEdges marks to (from + 1) before new
    adds_pushed e new source target is = record {
      more = adds.more ++ e ∷ [];
      is = is ∙ ap (λ l. l ++ e ∷ []) adds.is ∙ append_assoc before adds.more (e ∷ []);
      rise = all_pushed (λ (f : PlanEdge). (f.from.0 < to) × (f.to.0 ≡ to)) adds.more e adds.rise (
        omega (
          arith,
          source,
          less,
        ),
        target,
      );
      few = let f = adds.few in let l = length-append adds.more (e ∷ []) in omega (arith, f, l);
      each = λ k lt h. subst (λ l. Contains l k) (sym (map-append (λ (f : PlanEdge). f.from.0) adds.more (e ∷ [])))
          (dite (ℕ_discrete k from)
          (λ same. Contains-append_right (sources adds.more) (e.from.0 ∷ []) k (0, omega arith, source ∙ sym same))
          (λ other. Contains-append_left (sources adds.more) (e.from.0 ∷ []) k (adds.each k (omega arith) h)));
    }
