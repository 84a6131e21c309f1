-- The file of a graph is well formed.
use Rattle.std.proofs.Common.{◌≡◌, ◌<◌, ◌++◌, ℕ, zero, suc, Bool, true, false, cond, List, [], ◌∷◌, map, drop, length}
use Rattle.std.proofs.Common.{get_or, Option, Some, None, Ok, refl, arith, subst}
use Rattle.std.specs.Prelude.{codes, IsTrue, ◌||◌, Contains, slice_get, slice_index_or, filter}
use Rattle.std.specs.Option.{option_map_or}
use Rattle.std.specs.List.{AllByRecursion, flat_map, filter_map, cons_option}
use Rattle.std.proofs.lemmas.Option.{slice_get_within, get_or_from_slice_get}
use Rattle.std.proofs.lemmas.List.Elements.{All-from_recursion, recursion_from_All, filter_passes}
use Rattle.bp_faults.specs.declared.ids.NodeId.{NodeId}
use Rattle.bp_faults.specs.declared.place.Item.{Item}
use Rattle.bp_faults.proofs.Lists.{all_map, both as each_both, all_append, all_image}
use Rattle.graph_nodes.specs.declared.graph.Edge.{Edge}
use Rattle.graph_nodes.specs.declared.graph.Node.{Node}
use Rattle.graph_nodes.specs.Laws.{VariantNamesArePlain}
use Rattle.graph_nodes.specs.Names.{variant_name_of}
use Rattle.graph_nodes.specs.Nodes.{targets}
use Rattle.module_graph.specs.declared.direction.Direction.TheVariants.{BottomUp}
use Rattle.module_graph.specs.Laws.{PredecessorsAreTargets}
use Rattle.module_graph.specs.Planned.{plan_edges, plan_of}
use Rattle.serial_pass.specs.Laws.{PredecessorsAreNodes, PredecessorsAreLess}
use Rattle.serial_pass.specs.Plans.{IsPlan, HasNoCycle}
use Rattle.bp_props.specs.declared.fields.GroupProps.{GroupProps}
use Rattle.bp_props.specs.declared.module.Module.{Module}
use Rattle.bp_props.specs.Groups.{group_filtered, HasOnly}
use Rattle.bp_props.specs.declared.props.Props.{Props}
use Rattle.bp_props.specs.declared.source.Source.{Source}
use Rattle.bp_props.specs.Meaning.{names_module}
use Rattle.ninja_file.specs.Names.{is_path}
use Rattle.ninja_file.specs.Meaning.{IsStatement}
use Rattle.build_parts.specs.declared.path.Role.{Role}
use Rattle.build_parts.specs.declared.path.Role.TheVariants.{Makes, Gives, Neither}
use Rattle.build_parts.specs.declared.path.Product.{Product}
use Rattle.build_parts.specs.declared.path.Product.TheVariants.{Archive, SharedObject, Program}
use Rattle.build_parts.specs.declared.sources.Language.{Language}
use Rattle.build_parts.specs.declared.sources.Language.TheVariants.{C, Cxx, Assembler}
use Rattle.build_parts.specs.Sources.{sources_checked}
use Rattle.build_parts.specs.Paths.{output_directory, object_path, output_path, output_of, output_by, output_at}
use Rattle.build_parts.specs.Paths.{product_of, link_variation, product_suffix, role_of}
use Rattle.build_parts.specs.Variables.{node_target, flags_of, cflags_of, level_words, include_word, include_line}
use Rattle.build_parts.specs.Variables.{compile_variables, link_variables, link_flags}
use Rattle.build_actions.specs.declared.actions.Actions.{Actions}
use Rattle.build_actions.specs.Files.{results_of, leads_to_files, first_files, files_over, files_of}
use Rattle.build_actions.specs.Compiles.{is_header, compiler_of, compile_steps, objects_in, variables_in}
use Rattle.build_actions.specs.Products.{is_whole, is_data, outputs_at, data_output, link_step, archive_step}
use Rattle.build_actions.specs.Products.{product_step}
use Rattle.build_actions.specs.Acts.{files_alone, objects_of, made_of, acts_by, acts, acts_at}
use Rattle.build_actions.specs.Laws.{made_below, AreMade}
use Rattle.build_actions.specs.Writable.{has_shown_bytes, is_written, AreWritable}
use Rattle.build_actions.proofs.Differing.{all_flat}
use Rattle.build_actions.proofs.Outputs.{then_ok}
use Rattle.build_actions.proofs.Shown.{IsPath, Shown, Clear, shown_of, clear_if, clear_append, path_clear, path_of}
use Rattle.build_actions.proofs.Shown.{plain_clear, joined_shown, target_shown, level_shown, includes_shown}
use Rattle.build_actions.proofs.Fitting.{six, AreVariables, apart_texts, two_variables, three_variables, fits}
use Rattle.build_actions.proofs.Fitting.{no_variables, rule_at, kept_all, Fits, steps_fit, objects_fit}

-- a file whose path a file for Ninja can hold
abbrev pub IsFile : Item → Type 0
IsFile f = IsPath f.text

-- What is made at a node can be written.
pub record IsGood (made : Actions) : Type 0 where
  pub statements : AllByRecursion (IsStatement six) made.statements
  pub objects : AllByRecursion IsPath made.objects
  pub output : AllByRecursion IsPath (cons_option made.output [])
  pub files : AllByRecursion IsFile made.files

idle_good : (files : List Item) → AllByRecursion IsFile files → IsGood (files_alone files)
idle_good files h = record { statements = tt; objects = tt; output = tt; files = h }

wanted_all : (P : Actions → Type 0) (wanted : Edge → Bool) (es : List Edge) (ins : List Actions) → AllByRecursion P ins
    → AllByRecursion P (results_of wanted es ins)
wanted_all P wanted [] ins h = tt
wanted_all P wanted (e ∷ es) [] h = tt
wanted_all P wanted (e ∷ es) (made ∷ ins) h = by (wanted e) (wanted_all P wanted es ins h.1)
  where
    by : (b : Bool) → AllByRecursion P (results_of wanted es ins)
        → AllByRecursion P (cond b (made ∷ results_of wanted es ins) (results_of wanted es ins))
    by true rest = (h.0, rest)
    by false rest = rest

first_good : (given : List Actions) → AllByRecursion IsGood given → AllByRecursion IsFile (first_files given)
first_good [] h = tt
first_good (made ∷ given) h = h.0.files

rest_good : (given : List Actions) → AllByRecursion IsGood given → AllByRecursion IsGood (drop 1 given)
rest_good [] h = tt
rest_good (made ∷ given) h = h.1

-- A source that is a path can be a path of Ninja.
abbrev IsWritable : Source → Type 0
IsWritable s = names_module s ≡ false → IsTrue (is_path s.item.text)

over_good : (sources : List Source) (given : List Actions)
    → AllByRecursion IsWritable sources
    → AllByRecursion IsGood given → AllByRecursion IsFile (files_over sources given)
over_good [] given h k = tt
over_good (s ∷ sources) given h k = by (names_module s) refl (λ left good. over_good sources left h.1 good)
  where
    by : (b : Bool) → names_module s ≡ b
        → ((left : List Actions) → AllByRecursion IsGood left → AllByRecursion IsFile (files_over sources left))
        → AllByRecursion IsFile
        (cond b (first_files given) (s.item ∷ []) ++ files_over sources (cond b (drop 1 given) given))
    by true e rest =
        all_append IsFile (first_files given) (files_over sources (drop 1 given)) (first_good given k)
        (rest (drop 1 given) (rest_good given k))
    by false e rest = (h.0 e, rest given k)

headers_good : (files : List Item) → AllByRecursion IsFile files
    → AllByRecursion IsPath (map (λ (f : Item). f.text) (filter is_header files))
headers_good [] h = tt
headers_good (f ∷ files) h = by (is_header f) (headers_good files h.1)
  where
    by : (b : Bool) → AllByRecursion IsPath (map (λ (f : Item). f.text) (filter is_header files))
        → AllByRecursion IsPath
        (map (λ (f : Item). f.text) (cond b (f ∷ filter is_header files) (filter is_header files)))
    by true rest = (h.0, rest)
    by false rest = rest

pub record AreWords (p : Props) : Type 0 where
  pub flags : HasOnly is_written p.base
  pub includes : AllByRecursion Shown p.includes

passing_shown : (texts : List (List ℕ)) → AllByRecursion Shown (filter has_shown_bytes texts)
passing_shown texts =
    all_map (λ w. has_shown_bytes w ≡ true) Shown (λ w k. shown_of w k) (filter has_shown_bytes texts)
    (recursion_from_All (λ w. has_shown_bytes w ≡ true) (filter has_shown_bytes texts)
    (filter_passes has_shown_bytes texts))

-- What is made of the flags of a record is made of those that are shown, since it has no others.
only_shown : (made : GroupProps → List (List ℕ)) (g : GroupProps) → HasOnly is_written g
    → AllByRecursion Shown (made (group_filtered is_written g)) → AllByRecursion Shown (made g)
only_shown made g only h = subst (λ b. AllByRecursion Shown (made b)) only h

flags_shown : (p : Props) → AreWords p → (language : Language) → AllByRecursion Shown (flags_of p language)
flags_shown p w language =
    only_shown (λ b. flags_of (record p { base = b }) language) p.base w.flags (by language)
  where
    by : (language : Language)
        → AllByRecursion Shown (flags_of (record p { base = group_filtered is_written p.base }) language)
    by C = search (all_append, passing_shown)
    by Cxx = search (all_append, passing_shown)
    by Assembler = search passing_shown

link_flags_shown : (p : Props) → AreWords p → AllByRecursion Shown (link_flags p)
link_flags_shown p w =
    only_shown (λ b. link_flags (record p { base = b })) p.base w.flags (search passing_shown)

source_fine : (s : Source) → (names_module s || is_path s.item.text) ≡ true → IsWritable s
source_fine s h plain_path = rw plain_path at h

sources_fine : (g : GroupProps) → HasOnly is_written g → AllByRecursion IsWritable g.srcs.items
sources_fine g only =
    subst (λ (b : GroupProps). AllByRecursion IsWritable b.srcs.items) only
    (all_map (λ (s : Source). (names_module s || is_path s.item.text) ≡ true) IsWritable source_fine
    (filter (λ (s : Source). names_module s || is_path s.item.text) g.srcs.items)
    (recursion_from_All (λ (s : Source). (names_module s || is_path s.item.text) ≡ true)
    (filter (λ (s : Source). names_module s || is_path s.item.text) g.srcs.items)
    (filter_passes (λ (s : Source). names_module s || is_path s.item.text) g.srcs.items)))

module _ (plain : VariantNamesArePlain) where
  variables_good : (x : Node Props) → AreWords x.payload → (language : Language)
      → AreVariables (compile_variables x language)
  variables_good x w language =
      three_variables (codes "target") (codes "cflags") (codes "includes") (node_target x)
      (cflags_of x.payload language) (include_line x.payload) refl refl refl
      (apart_texts (codes "target") (codes "cflags") refl) (apart_texts (codes "target") (codes "includes") refl)
      (apart_texts (codes "cflags") (codes "includes") refl)
      (target_shown _)
      (joined_shown (flags_of x.payload language ++ level_words x.payload.level) (all_append Shown (flags_of x.payload
      language) (level_words x.payload.level) (flags_shown x.payload w language) (level_shown plain x.payload.level)))
      (joined_shown (map include_word x.payload.includes) (includes_shown x.payload.includes w.includes))

  link_good : (x : Node Props) → AreWords x.payload → AreVariables (link_variables x)
  link_good x w =
      two_variables (codes "target") (codes "ldflags") (node_target x) _ refl refl
      (apart_texts (codes "target") (codes "ldflags") refl)
      (target_shown _) (joined_shown (link_flags x.payload) (link_flags_shown x.payload w))

  directory_clear : (m : Module) (x : Node Props) → IsPath m.name → Clear (output_directory m x)
  directory_clear m x h =
      clear_append (codes "out/m/") (m.name ++ (codes "/" ++ variant_name_of x.vars))
      (clear_if (codes "out/m/") refl refl)
      (clear_append m.name (codes "/" ++ variant_name_of x.vars) (path_clear m.name h)
      (clear_append (codes "/") (variant_name_of x.vars) (clear_if (codes "/") refl refl)
      (plain_clear (variant_name_of x.vars) (plain x.vars))))

  object_good : (m : Module) (x : Node Props) → IsPath m.name → (source : List ℕ) → IsPath source
      → IsPath (object_path (output_directory m x) source)
  object_good m x h source k =
      path_of 111 (drop 1 (object_path (output_directory m x) source))
      (clear_append (output_directory m x) (codes "/obj/" ++ (source ++ codes ".o")) (directory_clear m x h)
      (clear_append (codes "/obj/") (source ++ codes ".o") (clear_if (codes "/obj/") refl refl)
      (clear_append source (codes ".o") (path_clear source k) (clear_if (codes ".o") refl refl))))

  suffix_clear : (product : Product) → Clear (product_suffix product)
  suffix_clear Archive = clear_if (codes ".a") refl refl
  suffix_clear SharedObject = clear_if (codes ".so") refl refl
  suffix_clear Program = tt

  output_good : (m : Module) (x : Node Props) → IsPath m.name → IsPath (output_path m x)
  output_good m x h =
      path_of 111 (drop 1 (output_path m x))
      (clear_append (output_directory m x) (codes "/bin/" ++ (m.name ++ product_suffix (product_of (link_variation x))))
      (directory_clear m x h)
      (clear_append (codes "/bin/") (m.name ++ product_suffix (product_of (link_variation x)))
      (clear_if (codes "/bin/") refl refl)
      (clear_append m.name (product_suffix (product_of (link_variation x))) (path_clear m.name h)
      (suffix_clear (product_of (link_variation x))))))

  compiler_good : (m : Module) (x : Node Props) (files : List Item) → IsPath m.name → AreWords x.payload
      → AllByRecursion IsFile files → Fits (compiler_of m x files)
  compiler_good m x files h w k = record {
    objects = object_good m x h;
    headers = kept_all IsPath [] (map (λ (f : Item). f.text) (filter is_header files)) (headers_good files k);
    variables = λ language. by language;
  }
    where
      by : (language : Language) → AreVariables (variables_in (compiler_of m x files) language)
      by C = variables_good x w C
      by Cxx = variables_good x w Cxx
      by Assembler = variables_good x w Assembler

  module _ (ms : List Module) (nodes : List (Node Props)) (write : AreWritable ms nodes) where
    name_good : (p : ℕ) (m : Module) → slice_get ms p ≡ Some m → IsPath m.name
    name_good p m is =
        subst (λ (a : Module). IsPath a.name) (get_or_from_slice_get ms p m m is)
        (All-from_recursion (λ (a : Module). IsPath a.name) ms write.names p m (slice_get_within ms p m is))

    by_role : (role : Role) (path : List ℕ) → IsPath path → AllByRecursion IsPath (cons_option (output_by role path) [])
    by_role Makes path h = (h, tt)
    by_role Gives path h = tt
    by_role Neither path h = tt

    at_good : (n : ℕ) → AllByRecursion IsPath (cons_option (output_at ms nodes n) [])
    at_good n = by_node (slice_get nodes n)
      where
        by_owner : (x : Node Props) (o : Option Module) → slice_get ms x.module.0 ≡ o
            → AllByRecursion IsPath (cons_option (option_map_or (λ m. output_of m x) o None) [])
        by_owner x None e = tt
        by_owner x (Some m) e = by_role (role_of m.kind) (output_path m x) (output_good m x (name_good x.module.0 m e))

        by_node : (o : Option (Node Props)) → AllByRecursion IsPath (cons_option (option_map_or (λ (x : Node Props).
            option_map_or (λ m. output_of m x) (slice_get ms x.module.0) None) o None) [])
        by_node None = tt
        by_node (Some x) = by_owner x (slice_get ms x.module.0) refl

    one_more : (o : Option (List ℕ)) (rest : List (List ℕ)) → AllByRecursion IsPath (cons_option o [])
        → AllByRecursion IsPath rest → AllByRecursion IsPath (cons_option o rest)
    one_more None rest h k = k
    one_more (Some path) rest h k = (h.0, k)

    outputs_good : (numbers : List NodeId) → AllByRecursion IsPath (outputs_at ms nodes numbers)
    outputs_good [] = tt
    outputs_good (n ∷ numbers) =
        one_more (output_at ms nodes n.0) (outputs_at ms nodes numbers) (at_good n.0) (outputs_good numbers)

    datum_good : (e : Edge) → AllByRecursion IsPath (cons_option (data_output ms nodes e) [])
    datum_good e = by (is_data e.kind)
      where
        by : (b : Bool) → AllByRecursion IsPath (cons_option (cond b (output_at ms nodes e.to.0) None) [])
        by true = at_good e.to.0
        by false = tt

    data_good : (edges : List Edge) → AllByRecursion IsPath (filter_map (data_output ms nodes) edges)
    data_good [] = tt
    data_good (e ∷ edges) =
        one_more (data_output ms nodes e) (filter_map (data_output ms nodes) edges) (datum_good e) (data_good edges)

    linked_good : (x : Node Props) (rule out : List ℕ) (objects : List (List ℕ)) → AreWords x.payload → IsPath out
        → AllByRecursion IsPath objects → Contains (codes "phony" ∷ six) rule
        → IsStatement six (link_step ms nodes x rule out objects)
    linked_good x rule out objects w path h known =
        fits (link_step ms nodes x rule out objects) out refl path
        (all_append IsPath objects (outputs_at ms nodes x.payload.line ++ outputs_at ms nodes x.payload.slibs) h
        (all_append IsPath (outputs_at ms nodes x.payload.line) (outputs_at ms nodes x.payload.slibs)
        (outputs_good x.payload.line) (outputs_good x.payload.slibs)))
        tt (kept_all IsPath [] (filter_map (data_output ms nodes) x.edges) (data_good x.edges)) known (link_good x w)

    step_good : (x : Node Props) (product : Product) (out : List ℕ) (objects : List (List ℕ)) → AreWords x.payload
        → IsPath out → AllByRecursion IsPath objects → IsStatement six (product_step ms nodes x product out objects)
    step_good x Archive out objects w path h =
        fits (archive_step out objects) out refl path h tt tt (rule_at 4 (codes "ar") (omega arith) refl) no_variables
    step_good x SharedObject out objects w path h =
        linked_good x (codes "solink") out objects w path h (rule_at 6 (codes "solink") (omega arith) refl)
    step_good x Program out objects w path h =
        linked_good x (codes "link") out objects w path h (rule_at 5 (codes "link") (omega arith) refl)

    made_good : (m : Module) (x : Node Props) (ins : List Actions) (files : List Item) → IsPath m.name
        → AreWords x.payload → AllByRecursion IsGood ins → AllByRecursion IsFile files
        → IsGood (made_of ms nodes m x ins files)
    made_good m x ins files h w good fine =
        let whole = results_of (λ (e : Edge). is_whole e.kind) x.edges ins in
        let own = objects_in (output_directory m x) files in
        let wholes = all_flat (λ (made : Actions). made.objects) IsPath whole
        (all_map IsGood (λ (made : Actions). AllByRecursion IsPath made.objects) (λ made g. g.objects) whole
        (wanted_all IsGood (λ (e : Edge). is_whole e.kind) x.edges ins good)) in
        let objects = kept_all IsPath [] (own ++ flat_map (λ (made : Actions). made.objects) whole)
        (all_append IsPath own (flat_map (λ (made : Actions). made.objects) whole)
        (objects_fit (output_directory m x) (object_good m x h) files fine) wholes) in
        let out = output_good m x h in
        record {
          statements =
              all_append (IsStatement six) (compile_steps (compiler_of m x files) files) (product_step ms nodes x
              (product_of (link_variation x)) (output_path m x) (objects_of (output_directory m x) x ins files) ∷ [])
              (steps_fit (compiler_of m x files) (compiler_good m x files h w fine) files fine) (
                step_good x (product_of (link_variation x)) (output_path m x)
                    (objects_of (output_directory m x) x ins files) w out objects,
                tt,
              );
          objects = objects;
          output = (out, tt);
          files = fine;
        }

    record IsFine (x : Node Props) : Type 0 where
      sources : AllByRecursion IsWritable x.payload.base.srcs.items
      words : AreWords x.payload

    includes_fine : (p : Props) → AllByRecursion (λ path. IsTrue (has_shown_bytes path)) p.includes
        → AllByRecursion Shown p.includes
    includes_fine p h =
        all_map (λ path. IsTrue (has_shown_bytes path)) Shown (λ path k. shown_of path k) p.includes h

    at_node : (P : Node Props → Type 0) → AllByRecursion P nodes → (n : ℕ) (x : Node Props)
        → slice_get nodes n ≡ Some x → P x
    at_node P h n x is =
        subst P (get_or_from_slice_get nodes n x x is)
        (All-from_recursion P nodes h n x (slice_get_within nodes n x is))

    fine_at : (n : ℕ) (x : Node Props) → slice_get nodes n ≡ Some x → IsFine x
    fine_at n x is =
        let only = at_node (λ (y : Node Props). HasOnly is_written y.payload.base) write.groups n x is in
        let paths = at_node
        (λ (y : Node Props). AllByRecursion (λ path. IsTrue (has_shown_bytes path)) y.payload.includes)
        write.includes n x is in
        record {
          sources = sources_fine x.payload.base only;
          words = record { flags = only; includes = includes_fine x.payload paths };
        }

    files_good : (x : Node Props) (ins : List Actions) → IsFine x → AllByRecursion IsGood ins
        → AllByRecursion IsFile (files_of ms nodes x ins)
    files_good x ins fine good =
        over_good x.payload.base.srcs.items (results_of (leads_to_files ms nodes x) x.edges ins) fine.sources
        (wanted_all IsGood (leads_to_files ms nodes x) x.edges ins good)

    acts_good : (m : Module) (x : Node Props) (ins : List Actions) (made : Actions) (role : Role) → IsPath m.name
        → IsFine x → AllByRecursion IsGood ins → acts_by ms nodes role m x ins ≡ Ok made → IsGood made
    acts_good m x ins made Neither h fine good e =
        let same : files_alone [] ≡ made = cc in subst IsGood same (idle_good [] tt)
    acts_good m x ins made Gives h fine good e =
        let same : files_alone (files_of ms nodes x ins) ≡ made = cc in
        subst IsGood same (idle_good (files_of ms nodes x ins) (files_good x ins fine good))
    acts_good m x ins made Makes h fine good e =
        let files = files_of ms nodes x ins in
        let ok = then_ok (sources_checked [] files) (λ done. Ok (made_of ms nodes m x ins files)) made e in
        let same : made_of ms nodes m x ins files ≡ made = cc in
        subst IsGood same (made_good m x ins files h fine.words good (files_good x ins fine good))

    node_good : (n : ℕ) (ins : List Actions) (made : Actions) → AllByRecursion IsGood ins
        → acts_at ms nodes n ins ≡ Ok made → IsGood made
    node_good n ins made good h = by_node (slice_get nodes n) refl h
      where
        by_owner : (x : Node Props) → slice_get nodes n ≡ Some x → (o : Option Module) → slice_get ms x.module.0 ≡ o
            → option_map_or (λ m. acts ms nodes m x ins) o (Ok (files_alone [])) ≡ Ok made → IsGood made
        by_owner x node None e k = let same : files_alone [] ≡ made = cc in subst IsGood same (idle_good [] tt)
        by_owner x node (Some m) e k =
            acts_good m x ins made (role_of m.kind) (name_good x.module.0 m e) (fine_at n x node) good k

        by_node : (o : Option (Node Props)) → slice_get nodes n ≡ o
            → option_map_or (λ (x : Node Props). option_map_or (λ m. acts ms nodes m x ins) (slice_get ms x.module.0)
            (Ok (files_alone []))) o (Ok (files_alone [])) ≡ Ok made → IsGood made
        by_node None e k = let same : files_alone [] ≡ made = cc in subst IsGood same (idle_good [] tt)
        by_node (Some x) e k = by_owner x e (slice_get ms x.module.0) refl k

    module _ (inside : PredecessorsAreNodes) (less : PredecessorsAreLess) (targeted : PredecessorsAreTargets Props)
        (is_plan : IsPlan (plan_of BottomUp nodes)) (free : HasNoCycle (plan_edges BottomUp nodes))
        (made : List Actions) (are : AreMade ms nodes made) where
      -- by the rank of the node
      good_below : (fuel n : ℕ) (d : Actions) → free.rank n < fuel → n < length nodes → IsGood (get_or made n d)
      good_below zero n d lt within = absurd (omega arith)
      good_below (suc fuel) n d lt within =
          let many = are.many in
          let below = subst (λ l. AllByRecursion (λ m. free.rank m < free.rank n) l) (targeted nodes n)
          (less free.rank (plan_edges BottomUp nodes) n free.rises) in
          let nodes_are = subst (λ l. AllByRecursion (λ m. m < length nodes) l) (targeted nodes n)
          (inside (length nodes) (plan_edges BottomUp nodes) n is_plan.ends) in
          let all =
          each_both (λ m. free.rank m < free.rank n) (λ m. m < length nodes) (targets nodes n) below nodes_are in
          node_good n (made_below nodes made n d) (get_or made n d)
          (all_image (λ m. (free.rank m < free.rank n) × (m < length nodes)) IsGood (λ m. slice_index_or made m d)
          (λ m h. good_below fuel m d (let a = h.0 in omega arith) h.1) (targets nodes n) all)
          (are.each n d (omega arith))

      pub all_good : AllByRecursion IsGood made
      all_good =
          recursion_from_All IsGood made
          (λ n d lt. good_below (suc (free.rank n)) n d (omega arith) (let many = are.many in omega arith))
