-- Clusters that grow by one variant, and the table of their names.
use Rattle.std.proofs.Common.{◌≡◌, ◌∙◌, ◌+◌, ◌<◌, ◌≤◌, ◌++◌, ℕ, zero, suc, Bool, true, false, cond, List, [], ◌∷◌}
use Rattle.std.proofs.Common.{length, map, get_or, set, take, ap, sym, subst, refl, arith, Option, Some, None, IfSome}
use Rattle.std.proofs.Common.{IsSome, bytes_eq, length-append, length-set}
use Rattle.std.proofs.lemmas.List.{map-append, length-map}
use Rattle.bp_faults.proofs.Lists.{take-more}
use Rattle.bp_names.specs.Laws.{TablesGrowWithLists}
use Rattle.bp_names.specs.Meaning.{LearnsNumber, NumbersFirst, number_of, first_number_from}
use Rattle.graph_picture.specs.declared.clusters.Cluster.{Cluster}
use Rattle.graph_picture.specs.declared.variant.Variant.{Variant}
use Rattle.graph_picture.specs.Drawing.{clusters_behind, module_name_at, clusters_with}
use Rattle.graph_picture.specs.Grouping.{PutsNumber}

same_default : (cs : List Cluster) (m : ℕ) (d : Cluster) → get_or cs m d ≡ get_or cs m (get_or cs m d)
same_default [] m d = refl
same_default (c ∷ cs) zero d = refl
same_default (c ∷ cs) (suc m) d = same_default cs m d

pub behind_more : (vs : List Variant) (cs : List Cluster) (ns : List ℕ) (n : ℕ)
    → clusters_behind vs cs (ns ++ n ∷ []) ≡ clusters_with vs n (clusters_behind vs cs ns)
behind_more vs cs [] n = refl
behind_more vs cs (k ∷ ns) n = behind_more vs (clusters_with vs k cs) ns n

least_by : (k i : ℕ) (b : Bool) (rest : Option ℕ) → (rest ≡ Some i → k + 1 ≤ i) → cond b (Some k) rest ≡ Some i → k ≤ i
least_by k i true rest more e = let f : k ≡ i = cc in omega arith
least_by k i false rest more e = omega (arith, more e)

least_number : (k : ℕ) (names : List (List ℕ)) (q : List ℕ) (i : ℕ) → first_number_from k names q ≡ Some i → k ≤ i
least_number k [] q i e = absurd (let f : None ≡ Some i = e in cc)
least_number k (name ∷ names) q i e =
    least_by k i (bytes_eq q name) (first_number_from (k + 1) names q) (least_number (k + 1) names q i) e

module _ (vs : List Variant) (n : ℕ) where
  abbrev name : Cluster → List ℕ
  name c = module_name_at vs c.first

  abbrev here : Cluster → Bool
  here c = bytes_eq (module_name_at vs n) (name c)

  abbrev with_n : Cluster → Cluster
  with_n c = record { first = c.first; others = c.others ++ n ∷ [] }

  some_below : (k m : ℕ) (b : Bool) (rest : Option ℕ) → cond b (Some k) rest ≡ Some (k + suc m)
      → (b ≡ false) × (rest ≡ Some (k + suc m))
  some_below k m true rest e = absurd (let f : k ≡ k + suc m = cc in omega arith)
  some_below k m false rest e = (refl, e)

  first_put : (k : ℕ) (d : Cluster) (cs : List Cluster) (c : Cluster) (b : Bool) (rest : Option ℕ)
      → cond b (Some k) rest ≡ Some (k + 0) → ((i : ℕ) → rest ≡ Some i → k + 1 ≤ i) → c ≡ d
      → cond b (with_n d ∷ cs) (d ∷ clusters_with vs n cs) ≡ with_n c ∷ cs
  first_put k d cs c true rest e least is = ap (λ (x : Cluster). with_n x ∷ cs) (sym is)
  first_put k d cs c false rest e least is = absurd (omega (arith, least (k + 0) e))

  pub put_known : (k m : ℕ) (cs : List Cluster) (c : Cluster)
      → first_number_from k (map name cs) (module_name_at vs n) ≡ Some (k + m)
      → c ≡ get_or cs m c → (clusters_with vs n cs ≡ set cs m (with_n c)) × (m < length cs)
  put_known k m [] c e is = absurd (let f : None ≡ Some (k + m) = e in cc)
  put_known k zero (d ∷ cs) c e is = (
    first_put k d cs c (here d) (first_number_from (k + 1) (map name cs) (module_name_at vs n)) e
        (λ i. least_number (k + 1) (map name cs) (module_name_at vs n) i) is,
    omega arith,
  )
  put_known k (suc m) (d ∷ cs) c e is =
      let s = some_below k m (here d) (first_number_from (k + 1) (map name cs) (module_name_at vs n)) e in
      let r = put_known (k + 1) m cs c (s.1 ∙ ap Some (let f : k + suc m ≡ k + 1 + m = omega arith in f)) is in (
        ap (λ (b : Bool). cond b (with_n d ∷ cs) (d ∷ clusters_with vs n cs)) s.0
            ∙ ap (λ (l : List Cluster). d ∷ l) r.0,
        omega (arith, r.1),
      )

  none_below : (k : ℕ) (b : Bool) (rest : Option ℕ) → cond b (Some k) rest ≡ None → (b ≡ false) × (rest ≡ None)
  none_below k true rest e = absurd (let f : Some k ≡ None = e in cc)
  none_below k false rest e = (refl, e)

  pub put_new : (k : ℕ) (cs : List Cluster) → first_number_from k (map name cs) (module_name_at vs n) ≡ None
      → clusters_with vs n cs ≡ cs ++ record { first = n; others = [] } ∷ []
  put_new k [] e = refl
  put_new k (d ∷ cs) e =
      let s = none_below k (here d) (first_number_from (k + 1) (map name cs) (module_name_at vs n)) e in
      ap (λ (b : Bool). cond b (with_n d ∷ cs) (d ∷ clusters_with vs n cs)) s.0
      ∙ ap (λ (l : List Cluster). d ∷ l) (put_new (k + 1) cs s.1)

  names_kept : (cs : List Cluster) (m : ℕ) (c : Cluster) → c ≡ get_or cs m c → m < length cs
      → map name (set cs m (with_n c)) ≡ map name cs
  names_kept [] m c is lt = absurd (omega arith)
  names_kept (d ∷ cs) zero c is lt = ap (λ (x : Cluster). name x ∷ map name cs) is
  names_kept (d ∷ cs) (suc m) c is lt = ap (λ (l : List (List ℕ)). name d ∷ l) (names_kept cs m c is (omega arith))

-- the clusters so far, and the table of their names
pub record AreGrouped (vs : List Variant) (numbers : List ℕ) (i : ℕ) (table : List (List ℕ × ℕ))
    (clusters : List Cluster)
    : Type 0 where
  pub clusters_are : clusters ≡ clusters_behind vs [] (take i numbers)
  pub table_is : NumbersFirst (map (λ (c : Cluster). module_name_at vs c.first) clusters) table
  pub few : length clusters ≤ i

module _ (vs : List Variant) (numbers : List ℕ) (i n : ℕ) (lt : i < length numbers) (is : n ≡ get_or numbers i n)
    (table : List (List ℕ × ℕ)) (clusters : List Cluster) (g : AreGrouped vs numbers i table clusters) where
  next_is : clusters_behind vs [] (take (i + 1) numbers) ≡ clusters_with vs n clusters
  next_is =
      ap (clusters_behind vs []) (take-more numbers i n lt is) ∙ behind_more vs [] (take i numbers) n
      ∙ ap (clusters_with vs n) (sym g.clusters_are)

  pub known_more : (m : ℕ) (c new : Cluster) → number_of table (module_name_at vs n) ≡ Some m → c ≡ get_or clusters m c
      → new ≡ record { first = c.first; others = c.others ++ n ∷ [] }
      → AreGrouped vs numbers (i + 1) table (set clusters m new)
  known_more m c new had at new_is =
      let found = put_known vs n 0 m clusters c
      (sym (g.table_is (module_name_at vs n)) ∙ had ∙ ap Some (let f : m ≡ 0 + m = omega arith in f)) at in
      let same : set clusters m new ≡ set clusters m (with_n vs n c) = ap (set clusters m) new_is in
      record {
        clusters_are = same ∙ (sym found.0 ∙ sym next_is);
        table_is =
            subst (λ (names : List (List ℕ)). NumbersFirst names table)
            (sym (ap (map (name vs n)) same ∙ names_kept vs n clusters m c at found.1)) g.table_is;
        few = omega (arith, g.few, length-set clusters m new);
      }

  pub new_more : TablesGrowWithLists → (new_table : List (List ℕ × ℕ)) (new : List Cluster)
      → number_of table (module_name_at vs n) ≡ None
      → LearnsNumber table (module_name_at vs n) (length clusters) new_table
      → new ≡ clusters ++ record { first = n; others = [] } ∷ [] → AreGrouped vs numbers (i + 1) new_table new
  new_more grow new_table new had learns new_is =
      let names = map (name vs n) clusters in
      let put_is = put_new vs n 0 clusters (sym (g.table_is (module_name_at vs n)) ∙ had) in
      let names_are : map (name vs n) new ≡ names ++ module_name_at vs n ∷ [] =
      ap (map (name vs n)) new_is ∙ map-append (name vs n) clusters (record { first = n; others = [] } ∷ []) in
      let Learns : ℕ → Type 0 = λ k. LearnsNumber table (module_name_at vs n) k new_table in
      record {
        clusters_are = new_is ∙ (sym put_is ∙ sym next_is);
        table_is =
            subst (λ (l : List (List ℕ)). NumbersFirst l new_table) (sym names_are)
            (grow names table new_table (module_name_at vs n) g.table_is
            (subst Learns (sym (length-map clusters (name vs n))) learns));
        few = omega (arith, g.few, ap length new_is, length-append clusters (record { first = n; others = [] } ∷ []));
      }

  pub grouped_inside : (had : Option ℕ) → had ≡ number_of table (module_name_at vs n)
      → IfSome had (λ m. m < length clusters)
  grouped_inside None e = tt
  grouped_inside (Some m) e =
      (put_known vs n 0 m clusters (get_or clusters m (record { first = 0; others = [] }))
      (sym (g.table_is (module_name_at vs n)) ∙ (sym e ∙ ap Some (let f : m ≡ 0 + m = omega arith in f)))
      (same_default clusters m (record { first = 0; others = [] }))).1

  pub grouped_more : TablesGrowWithLists → (had : Option ℕ) (new_table : List (List ℕ × ℕ)) (new : List Cluster)
      → had ≡ number_of table (module_name_at vs n)
      → LearnsNumber table (module_name_at vs n) (length clusters) new_table
      → (IsSome had → new_table ≡ table) → PutsNumber n clusters had new
      → AreGrouped vs numbers (i + 1) new_table new
  grouped_more grow None new_table new e learns kept p = new_more grow new_table new (sym e) learns p
  grouped_more grow (Some m) new_table new e learns kept p =
      let more = known_more m p.0 (record { first = p.0.first; others = p.0.others ++ n ∷ [] }) (sym e) p.1 refl in
      let Grouped : List (List ℕ × ℕ) → List Cluster → Type 0 = AreGrouped vs numbers (i + 1) in
      subst (λ (t : List (List ℕ × ℕ)). Grouped t new) (sym (kept refl))
      (subst (Grouped table) (sym p.2) more)

pub grouped_none : (vs : List Variant) (numbers : List ℕ) (table : List (List ℕ × ℕ)) (clusters : List Cluster)
    → table ≡ [] → clusters ≡ [] → AreGrouped vs numbers 0 table clusters
grouped_none vs numbers table clusters t c =
    let Table : List (List ℕ × ℕ) → Type 0 = λ l. AreGrouped vs numbers 0 l clusters in
    let Clusters : List Cluster → Type 0 = λ l. AreGrouped vs numbers 0 [] l in
    subst Table (sym t)
    (subst Clusters (sym c) (record { clusters_are = refl; table_is = λ query. refl; few = omega arith }))
